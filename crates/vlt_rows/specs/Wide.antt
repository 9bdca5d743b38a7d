-- Rows that name states of which no set of the code has just these.
use Rattle.std.specs.Prelude.{◌==◌, nat_lt}
use Rattle.vlt_base.specs.States.{has_state}
use Rattle.vlt_core.specs.Core as core
use Rattle.vlt_core.specs.Lookups.{no_states}
use Rattle.vlt_core.specs.Maps as maps
use Rattle.vlt_core.specs.View.{tok_of}
use Rattle.vlt_core.specs.HeldView.{wanted_of, after_of}
use Rattle.vlt_core.specs.Rows.{row}
use Rattle.vlt_rows.specs.declared.states.States.{States}
use Rattle.vlt_rows.specs.declared.states.States.TheVariants as states
use Rattle.vlt_rows.specs.declared.sink.WideRow.{WideRow}
use Rattle.vlt_rows.specs.declared.sink.WideRow.TheVariants as wide

abbrev pub states_named : States → core.States
states_named (states.Set s) = has_state s
states_named (states.Below n) = λ s. nat_lt s n
states_named (states.Only n) = λ s. s == n
states_named states.Nothing = no_states

abbrev pub wide_row_of : WideRow → maps.Row
wide_row_of (wide.Wants t states after) = row (tok_of t) (maps.wants_in (states_named states)) (after_of after)
wide_row_of (wide.Leaves t wanted states) = row (tok_of t) (wanted_of wanted) (maps.becomes_held (states_named states))
