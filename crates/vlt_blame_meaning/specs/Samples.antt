-- Runs that go wrong, and what is told of them.
use Rattle.std.specs.Prelude.{◌≡◌, ℕ, suc, ◌==◌, ℤ, List, [], ◌∷◌, Option, Some, None, slice_get}
use Rattle.vlt_core.specs.Core.{a_key, a_var, Func, Program}
use Rattle.vlt_core.specs.Maps.{absent, held, full, wants_absent, wants_in}
use Rattle.vlt_meaning.specs.World.{Outcome, Reason, fault, not_held, wrong_state, not_empty, left_behind}
use Rattle.vlt_meaning.specs.Step.{Step, ends, with_found, where_so, spend, first_input, with_input, first_answer, with_answer, with_made, with_moved, with_released, with_dropped, fill, with_filled, deliver, left_block}
use Rattle.vlt_meaning.specs.Operands.{with_operand, with_operands, with_case_packed, with_case_opened}
use Rattle.vlt_meaning.specs.Calls.{back_in, with_returned}
use Rattle.vlt_meaning.specs.Externals.{with_pieces, with_fresh, with_result, call_external}
use Rattle.vlt_meaning.specs.Run.{first_frame, start, made_in, swap_step, open_step, left_function, focus_end_step, focus_end}
use Rattle.vlt_meaning_laws.specs.Machine.Got.{found_in, got_if, then_step, then_got}
use Rattle.vlt_trace_meaning.specs.Machine.{Conf, moves, first_conf, when_found, when_got, when_so, spending, enter_body, enter_by, enter, turn_on}
use Rattle.vlt_trace_meaning.specs.Frames.{setup}
use Rattle.vlt_meaning_samples.specs.Told.{in_set}
use Rattle.vlt_meaning_samples.specs.Damaged.{program_again, program_kept, program_raw, program_filled}
use Rattle.vlt_blame_meaning.specs.Blame.{Unmet, IsBlamed}

-- main's run after so many moves. Each helper of runs is named here once, so that a run computes.
unfoldable pub conf_after : Program → (answers : List (List ℤ)) → Func → (count : ℕ) → Conf
unfolding with_found where_so spend first_input with_input first_answer with_answer with_made with_moved with_released
    with_dropped fill with_filled deliver left_block with_operand with_operands with_case_packed with_case_opened back_in
    with_returned with_pieces with_fresh with_result call_external made_in swap_step open_step left_function focus_end_step
    focus_end found_in got_if then_step then_got when_found when_got when_so spending enter_body enter_by enter turn_on
conf_after p answers f n = moves (setup p 100 10) n (first_conf f (first_frame 1) (start 100 [] answers))

abbrev pub outcome_in : Step → Option Outcome
outcome_in (ends o w) = Some o
outcome_in a = None

-- the move after so many others isn't done, and what is told of it
pub record GoesWrong (p : Program) (answers : List (List ℤ)) (count : ℕ) (reason : Reason) (object : Option ℕ) (u : Option Unmet) : Type 0 where
  pub main : Func
  pub is_main : slice_get p.fns p.main ≡ Some main
  pub ends_so : outcome_in (conf_after p answers main (suc count)).step ≡ Some (fault reason object)
  pub blamed : IsBlamed p (conf_after p answers main count) u

-- a released object is released again: `wrong L:C K found absent wanted held #1`
abbrev pub IsAgain : Type 0
IsAgain = GoesWrong program_again [] 3 not_held (Some 0)
    (Some (record { tok = a_key 0; found = absent; wanted = wants_in (in_set (0 ∷ [])) }))

-- an object is left when main ends: `wrong L:C K found held wanted absent`
abbrev pub IsKept : Type 0
IsKept = GoesWrong program_kept [] 2 left_behind None
    (Some (record { tok = a_key 0; found = held (λ s. s == 0); wanted = wants_absent }))

-- an external takes a key in another state: `wrong L:C S found held@raw wanted held@named #1`
abbrev pub IsRaw : Type 0
IsRaw = GoesWrong program_raw ([] ∷ []) 1 wrong_state (Some 0)
    (Some (record { tok = a_key 0; found = held (λ s. s == 0); wanted = wants_in (in_set (1 ∷ [])) }))

-- an owning variable is filled while it is full: `wrong L:C n found full wanted absent`
abbrev pub IsFilled : Type 0
IsFilled = GoesWrong program_filled [] 4 not_empty None
    (Some (record { tok = a_var 1; found = full; wanted = wants_absent }))
