-- A list of pairs that grows token by token; private contracts alone cite this.
use Rattle.std.specs.Prelude.{◌≡◌, ℕ, if◌then◌else◌, List, [], ◌∷◌, ◌++◌}
use Rattle.vlt_core.specs.Core.{Tok, a_key, a_var}
use Rattle.vlt_core.specs.Maps as maps
use Rattle.vlt_core.specs.Maps.{HeldMap, is_tok}
use Rattle.vlt_core.specs.View.{tok_of}
use Rattle.vlt_core.specs.HeldView.{status_of}
use Rattle.vlt_core.specs.declared.held.Tok as D
use Rattle.vlt_core.specs.declared.held.Status as DS
use Rattle.vlt_core.specs.declared.held.Status.TheVariants as status
use Rattle.vlt_keyset.specs.Pairs.{Pair, IsBefore}
use Rattle.vlt_flow.specs.Notes.Listed.{IsListed}

-- ---- what the list says

-- the first of two statuses that isn't absent
abbrev pub first_of : maps.Status → maps.Status → maps.Status
first_of maps.absent s = s
first_of u s = u

-- the status that the pair gives to the token
abbrev pub status_at : Pair → HeldMap
status_at x t = if is_tok t (tok_of x.0) then status_of x.1 else maps.absent

abbrev pub status_in : List Pair → HeldMap
status_in [] t = maps.absent
status_in (x ∷ xs) t = first_of (status_at x t) (status_in xs t)

-- of the keys alone, of the variables alone
abbrev pub keys_of : HeldMap → HeldMap
keys_of h (a_key k) = h (a_key k)
keys_of h (a_var v) = maps.absent

abbrev pub vars_of : HeldMap → HeldMap
vars_of h (a_key k) = maps.absent
vars_of h (a_var v) = h (a_var v)

-- the list is longer by the pair, where it isn't absent
abbrev pub with_pair : D.Tok → DS.Status → List Pair → List Pair
with_pair tok status.Absent xs = xs
with_pair tok s xs = xs ++ (tok, s) ∷ []

pub record IsPushed (tok : D.Tok) (status : DS.Status) (old new : List Pair) : Type 0 where
  pub each : (t : Tok) → status_in new t ≡ first_of (status_in old t) (status_at (tok, status) t)

-- ---- the order of the list

-- the tokens of all pairs come before this one
abbrev pub ComeBefore : Tok → List Pair → Type 0
ComeBefore t [] = Unit {0}
ComeBefore t (x ∷ xs) = IsBefore (tok_of x.0) t × ComeBefore t xs

-- the list is of the function's tokens, all before this one
pub record IsListedTo (keys vars : ℕ) (t : Tok) (xs : List Pair) : Type 0 where
  pub listed : IsListed keys vars xs
  pub before : ComeBefore t xs
