-- Tokens, statuses and rows of the code, as the plain ones that they stand for.
use Rattle.std.specs.Prelude.{◌≡◌, List, map, Option, None, Some}
use Rattle.vlt_base.specs.States.{has_state}
use Rattle.vlt_base.specs.declared.states.StateSet.{StateSet}
use Rattle.vlt_core.specs.Core.{States}
use Rattle.vlt_core.specs.Lookups.{no_states}
use Rattle.vlt_core.specs.Core as s
use Rattle.vlt_core.specs.Maps as maps
use Rattle.vlt_core.specs.View.{tok_of}
use Rattle.vlt_core.specs.declared.held.Tok.{Tok}
use Rattle.vlt_core.specs.declared.held.Status.{Status}
use Rattle.vlt_core.specs.declared.held.Status.TheVariants as status
use Rattle.vlt_core.specs.declared.held.Wanted.{Wanted}
use Rattle.vlt_core.specs.declared.held.Wanted.TheVariants as wanted
use Rattle.vlt_core.specs.declared.held.After.{After}
use Rattle.vlt_core.specs.declared.held.After.TheVariants as after
use Rattle.vlt_core.specs.declared.held.Row.{Row}

abbrev pub status_of : Status → maps.Status
status_of status.Absent = maps.absent
status_of (status.Held states) = maps.held (has_state states)
status_of (status.Lent states) = maps.lent (has_state states)
status_of status.Full = maps.full

abbrev pub wanted_of : Wanted → maps.Wanted
wanted_of wanted.Absent = maps.wants_absent
wanted_of wanted.Any = maps.wants_held
wanted_of (wanted.In states) = maps.wants_in (has_state states)
wanted_of wanted.Lent = maps.wants_lent
wanted_of wanted.Full = maps.wants_full

abbrev pub after_of : After → maps.After
after_of after.Absent = maps.becomes_absent
after_of (after.Set states) = maps.becomes_held (has_state states)
after_of after.Same = maps.stays
after_of after.Full = maps.becomes_full
after_of after.Lend = maps.becomes_lent
after_of after.Unlend = maps.comes_back

abbrev pub row_of : Row → maps.Row
row_of r = record { tok = tok_of r.tok; wanted = wanted_of r.wanted; after = after_of r.after }

abbrev pub toks_of : List Tok → List s.Tok
toks_of = map tok_of

-- The set of the code that has just these states; none where no set of the code does, since it has a state and none from
-- 32 on.
abbrev pub IsSetOf : States → Option StateSet → Type 0
IsSetOf states None = (s : StateSet) → has_state s ≡ states → ⊥
IsSetOf states (Some s) = has_state s ≡ states

-- of states below 32: their set, or nothing where there are none
abbrev pub IsSetOrNone : States → Option StateSet → Type 0
IsSetOrNone states None = no_states ≡ states
IsSetOrNone states (Some s) = has_state s ≡ states
