-- Why there is no map for a body to begin with.
use Rattle.std.specs.Prelude.{◌≡◌, ◌≤◌, ◌^◌, ℕ, true, length, None, Some, slice_get}
use Rattle.vlt_core.specs.Core.{Entry, Func, Program}
use Rattle.vlt_core.specs.Lookups.{is_held_before, before_set}
use Rattle.vlt_core.specs.HeldView.{IsSetOf}

pub data IsUnfitEntry (p : Program) (f : Func) (e : Entry) : Type 0 where
  -- no set of the code has just the states that it is held in
  wide_entry : IsSetOf (before_set p f e) None → IsUnfitEntry p f e
  -- its key is none of the function's
  stray_entry : length f.keys ≤ e.key → IsUnfitEntry p f e

-- There is no map for the body to begin with.
pub data HasNoStart (p : Program) (f : Func) : Type 0 where
  -- how many keys, or variables, there are has no number of 32 bits
  many_keys : 2 ^ 32 ≤ length f.keys → HasNoStart p f
  many_vars : 2 ^ 32 ≤ length f.vars → HasNoStart p f
  -- an entry of the clause that is held before the call is unfit
  unfit_entry : (i : ℕ) (e : Entry) → slice_get f.clause i ≡ Some e → is_held_before e ≡ true → IsUnfitEntry p f e → HasNoStart p f
