-- Tables of statuses by number; private contracts alone cite this.
use Rattle.std.specs.Prelude.{◌≡◌, ℕ, List, length, slice_set}
use Rattle.vlt_core.specs.Core.{Tok, a_key, a_var}
use Rattle.vlt_core.specs.Maps.{kind_of, absent}
use Rattle.vlt_core.specs.declared.held.Status.{Status}
use Rattle.vlt_keyset.specs.Statuses.{IsUnion}
use Rattle.vlt_keyset.specs.Held.{at, Statuses}

-- every place has one kind of status in both
pub record IsAlike (xs ys : List Status) : Type 0 where
  pub each : (i : ℕ) → kind_of (at xs i) ≡ kind_of (at ys i)

-- each place of the third has the least status above the places of both
pub record IsJoined (xs ys zs : List Status) : Type 0 where
  pub long : length zs ≡ length xs
  pub each : (i : ℕ) → IsUnion (at xs i) (at ys i) (at zs i)

abbrev pub put_in : Statuses → Tok → Status → Statuses
put_in h (a_key k) s = record { keys = slice_set h.keys k s; vars = h.vars }
put_in h (a_var v) s = record { keys = h.keys; vars = slice_set h.vars v s }

pub record IsAlikeMap (h o : Statuses) : Type 0 where
  pub keys : IsAlike h.keys o.keys
  pub vars : IsAlike h.vars o.vars

pub record IsAllAbsent (xs : List Status) : Type 0 where
  pub each : (i : ℕ) → at xs i ≡ absent
