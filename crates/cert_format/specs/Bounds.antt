-- Functions with a bound entry: how many instances they have, and which bounds are states.
use Rattle.std.specs.Prelude.{ℕ, nat_lt, Bool, true, false, length, Option, Some, None, slice_get}
use Rattle.std.specs.List.{list_all}
use Rattle.vlt_core.specs.Core.{Mode, up_to, Func, Program}
use Rattle.vlt_core.specs.Lookups.{set_in, count_in, key_type}
use Rattle.vlt_core.specs.Instances.{Bound, bound_in, origins}

-- How many maps stand in place of each in the rows of a function: without a bound entry one, by
-- itself; else one for each state that the bound entry's object can have, in an array.
abbrev pub instances : Program → Func → Option ℕ
instances p f = of_bound (bound_in f.clause)
  where
    of_bound : Option Bound → Option ℕ
    of_bound None = None
    of_bound (Some b) = Some (length (origins p f))

-- the number is that of a state of the type's set
abbrev pub is_state_of : Program → (type : Option ℕ) → (state : ℕ) → Bool
is_state_of p None b = false
is_state_of p (Some t) b = in_set (set_in (slice_get p.types t))
  where
    in_set : Option ℕ → Bool
    in_set None = false
    in_set (Some s) = nat_lt b (count_in (slice_get p.sets s))

abbrev pub is_bound_known : Program → Func → (key : ℕ) → Mode → Bool
is_bound_known p f k (up_to b) = is_state_of p (key_type f k) b
is_bound_known p f k m = true

-- each bound of the clause is a state of the set of its key's type; where the type or the set is
-- missing, none is
abbrev pub are_bounds_known : Program → Func → Bool
are_bounds_known p f = list_all (λ e. is_bound_known p f e.key e.mode) f.clause
