-- The states in which a step allows an object.
use Rattle.vlt_base.specs.States.{has_state}
use Rattle.vlt_core.specs.Core.{States, Program}
use Rattle.vlt_core.specs.Lookups.{Reference, release_set, permitted_in}
use Rattle.vlt_meaning.specs.Run.{any_state}
use Rattle.vlt_trace_worlds.specs.declared.states.Wanted.{Wanted}
use Rattle.vlt_trace_worlds.specs.declared.states.Wanted.TheVariants as wanted

-- of what a variable refers to
abbrev pub wanted_states : Program → Wanted → Reference → States
wanted_states p wanted.Any = any_state
wanted_states p (wanted.These s) = λ r. has_state s
wanted_states p wanted.Release = λ r. release_set p r.type
wanted_states p (wanted.Field i) = λ r. permitted_in p r.type i
