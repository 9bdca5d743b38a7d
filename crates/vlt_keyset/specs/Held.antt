-- What a `Held` says: the map of a function's tokens; and how rows and joins are refused.
use Rattle.std.specs.Prelude.{◌≡◌, ◌<◌, ◌+◌, ℕ, List, length, slice_index_or}
use Rattle.vlt_core.specs.Core.{Tok, a_key, a_var}
use Rattle.vlt_core.specs.Maps.{HeldMap, IsBelow, IsStatusBelow, kind_of, Row, IsWanted}
use Rattle.vlt_core.specs.Maps as maps
use Rattle.vlt_core.specs.View.{tok_of}
use Rattle.vlt_core.specs.HeldView.{status_of, wanted_of}
use Rattle.vlt_core.specs.declared.held.Status.{Status}
use Rattle.vlt_core.specs.declared.held.Status.TheVariants.{Absent}
use Rattle.vlt_keyset.specs.Pairs.{IsBefore}
use Rattle.vlt_keyset.specs.Statuses.{table_gap}
use Rattle.vlt_keyset.specs.declared.faults.TokenFault.{TokenFault}
use Rattle.vlt_keyset.specs.declared.faults.JoinFault.{JoinFault}
use Rattle.vlt_keyset.specs.declared.faults.Apart.{Apart}

-- the statuses of a function's keys and variables, by number
pub record Statuses : Type 0 where
  pub keys : List Status
  pub vars : List Status

-- a token past the end is absent
abbrev pub at : List Status → ℕ → maps.Status
at xs i = status_of (slice_index_or xs i Absent)

abbrev pub map_of : Statuses → HeldMap
map_of h (a_key k) = at h.keys k
map_of h (a_var v) = at h.vars v

-- the token is one of those that the map is for
abbrev pub HasPlace : Statuses → Tok → Type 0
HasPlace h (a_key k) = k < length h.keys
HasPlace h (a_var v) = v < length h.vars

-- both are for the same tokens
pub record IsSameRange (h o : Statuses) : Type 0 where
  pub keys : length h.keys ≡ length o.keys
  pub vars : length h.vars ≡ length o.vars

-- how far the map is from the largest of its kinds
abbrev pub gap : Statuses → ℕ
gap h = table_gap h.keys + table_gap h.vars

-- the least map above both
pub record IsJoin (a b c : HeldMap) : Type 0 where
  pub left : IsBelow a c
  pub right : IsBelow b c
  pub least : (m : HeldMap) → IsBelow a m → IsBelow b m → IsBelow c m

-- the row isn't passed, since its token has this status
pub record IsTokenFault (r : Row) (h : HeldMap) (e : TokenFault) : Type 0 where
  pub tok : tok_of e.tok ≡ r.tok
  pub found : status_of e.found ≡ h r.tok
  pub wanted : wanted_of e.wanted ≡ r.wanted
  pub refused : IsWanted r.wanted (h r.tok) → ⊥

-- the first token whose statuses are of two kinds
pub record IsJoinFault (h o : HeldMap) (e : JoinFault) : Type 0 where
  pub apart : kind_of (h (tok_of e.tok)) ≡ kind_of (o (tok_of e.tok)) → ⊥
  pub left : status_of e.left ≡ h (tok_of e.tok)
  pub right : status_of e.right ≡ o (tok_of e.tok)
  pub first : (t : Tok) → IsBefore t (tok_of e.tok) → kind_of (h t) ≡ kind_of (o t)

-- the first token at which the map h isn't below the map k
pub record IsApart (h k : HeldMap) (e : Apart) : Type 0 where
  pub apart : IsStatusBelow (h (tok_of e.tok)) (k (tok_of e.tok)) → ⊥
  pub found : status_of e.found ≡ h (tok_of e.tok)
  pub wanted : status_of e.wanted ≡ k (tok_of e.tok)
  pub first : (t : Tok) → IsBefore t (tok_of e.tok) → IsStatusBelow (h t) (k t)
