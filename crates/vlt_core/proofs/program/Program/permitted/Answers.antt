use Rattle.std.proofs.Common.{sym, ap, ◌∙◌}
use Rattle.vlt_core.specs.Lookups.{field_states_in}
use Rattle.vlt_core.proofs.Sets.{never_empty}
use Rattle.vlt_core.proofs.program.Program.permitted.Goals as goal

pub returns-in-None : goal.returns-in-None
returns-in-None c = λ s e. never_empty s (e ∙ ap field_states_in (sym (rw c.in-None.is at c.field.ensures)))
