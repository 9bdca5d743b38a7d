-- How a program is written here, and what is compared of its runs.
use Rattle.std.specs.Prelude.{◌≡◌, ℕ, ℤ, ◌==◌, List, [], ◌∷◌, map, Option}
use Rattle.std.specs.List.{list_any}
use Rattle.vlt_core.specs.Core.{States, Ty, KeyDecl, VarDecl, Form, Stmts, next, Program}
use Rattle.vlt_meaning.specs.World.{Outcome, Ran, Event, printed, called, Value, one, Part, reference, owned}
use Rattle.vlt_meaning.specs.Step.{with_found, where_so, spend, first_input, with_input, first_answer, with_answer, with_made, with_moved, with_released, with_dropped, fill, with_filled, deliver, then_do, then_turn, left_block}
use Rattle.vlt_meaning.specs.Operands.{with_operand, with_operands, with_case_packed, with_case_opened}
use Rattle.vlt_meaning.specs.Calls.{back_in, with_returned}
use Rattle.vlt_meaning.specs.Externals.{with_pieces, with_fresh, with_result, call_external}
use Rattle.vlt_meaning.specs.Run.{run, made_in, swap_step, open_step, call_body, call_by, left_function, focus_end_step, focus_end}

-- ---- programs

abbrev pub in_set : List ℕ → States
in_set ns s = list_any (λ n. n == s) ns

-- statements one after another
infixr 5 ◌▹◌
abbrev pub ◌▹◌ : Form → Stmts → Stmts
s ▹ rest = next 0 s rest

abbrev pub a_key_of : Option ℕ → KeyDecl
a_key_of t = record { name = []; key_type = t }

abbrev pub a_var_of : Ty → VarDecl
a_var_of t = record { name = []; ty = t }

-- ---- runs

abbrev pub ran_print : ℤ → Event
ran_print = printed

abbrev pub ran_call : List ℕ → List Part → Event
ran_call name args = called name (map one args)

-- in an event's text references and owned objects are written alike
abbrev pub shown_value : Value → Value
shown_value (one (owned n)) = one (reference n)
shown_value a = a

abbrev pub event_shown : Event → Event
event_shown (printed z) = printed z
event_shown (called name args) = called name (map shown_value args)

-- how a run ends, its events, and the fuel that is left
pub record Told : Type 0 where
  pub outcome : Outcome
  pub events : List Event
  pub fuel : ℕ

abbrev pub told_of : Ran → Told
told_of r = record { outcome = r.outcome; events = map event_shown r.world.events; fuel = r.world.fuel }

pub record Budgets : Type 0 where
  pub fuel : ℕ
  pub heap : ℕ
  pub depth : ℕ

abbrev pub defaults : Budgets
defaults = record { fuel = 1000000; heap = 65536; depth = 1000 }

-- a run of a program, and what is told of it
pub record Case : Type 0 where
  pub budgets : Budgets
  pub input : List ℤ
  pub answers : List (List ℤ)
  pub told : Told

-- Each helper of runs is named here once, so that a run computes.
unfoldable pub told_run : Program → Case → Told
unfolding with_found where_so spend first_input with_input first_answer with_answer with_made with_moved with_released
    with_dropped fill with_filled deliver then_do then_turn left_block with_operand with_operands with_case_packed
    with_case_opened back_in with_returned with_pieces with_fresh with_result call_external made_in swap_step open_step
    call_body call_by left_function focus_end_step focus_end
told_run p c = told_of (run p c.budgets.fuel c.budgets.heap c.budgets.depth c.input c.answers)

-- each of the runs is as it is told
abbrev pub AreTold : Program → List Case → Type 0
AreTold p [] = Unit {0}
AreTold p (c ∷ cs) = (told_run p c ≡ c.told) × AreTold p cs
