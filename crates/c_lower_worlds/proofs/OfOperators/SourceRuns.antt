-- What a run of a core program shows.
use Rattle.std.proofs.Common.{ℕ, ℤ, Bool, true, false, List}
use Rattle.vlt_core.specs.Core.{Program}
use Rattle.vlt_meaning.specs.World.{Outcome, done, event_text}
use Rattle.vlt_meaning.specs.Step.{deliver, fill, first_answer, first_input, left_block, spend, then_do, then_turn, where_so, with_answer, with_dropped, with_filled, with_found, with_input, with_made, with_moved, with_released}
use Rattle.vlt_meaning.specs.Operands.{with_case_opened, with_case_packed, with_operand, with_operands}
use Rattle.vlt_meaning.specs.Calls.{back_in, with_returned}
use Rattle.vlt_meaning.specs.Externals.{call_external, with_fresh, with_pieces, with_result}
use Rattle.vlt_meaning.specs.Run.{call_body, call_by, focus_end, focus_end_step, left_function, made_in, open_step, swap_step, run}

pub record Seen : Type 0 where
  pub is_done : Bool
  pub text : List ℕ
  pub fuel : ℕ

abbrev is_done : Outcome → Bool
is_done done = true
is_done _ = false

unfoldable pub source_seen : Program → (fuel heap depth : ℕ) → List ℤ → List (List ℤ) → Seen
unfolding deliver fill first_answer first_input left_block spend then_do then_turn where_so with_answer with_dropped with_filled with_found with_input with_made with_moved with_released with_case_opened with_case_packed with_operand with_operands back_in with_returned call_external with_fresh with_pieces with_result call_body call_by focus_end focus_end_step left_function made_in open_step swap_step
source_seen p fuel heap depth input answers =
    let r = run p fuel heap depth input answers in
    record { is_done = is_done r.outcome; text = event_text r.world.events; fuel = r.world.fuel }
