-- How a held map takes rows: it passes them, one after another or all rows of a step at once.
use Rattle.std.specs.Prelude.{◌≡◌, ◌⊎◌, List, [], ◌∷◌, Result, OnOk, OnErr, IfErr}
use Rattle.vlt_core.specs.Maps.{HeldMap, Row, IsWanted, CanPass, row_passed, map_after}
use Rattle.vlt_keyset.specs.Held.{Statuses, map_of, HasPlace, IsSameRange, IsTokenFault}
use Rattle.vlt_keyset.specs.declared.faults.TokenFault.{TokenFault}
use Rattle.vlt_rows.specs.declared.sink.RowError.{RowError}
use Rattle.vlt_rows.specs.declared.sink.RowError.TheVariants.{Refused, Unfit, Memory}
use Rattle.vlt_rows.specs.Unfit.{IsWide, HasWide}

-- the row is passed, from one map to the other
pub record IsPassed (r : Row) (v w : Statuses) : Type 0 where
  pub wanted : IsWanted r.wanted (map_of v r.tok)
  pub after : map_of w ≡ row_passed r (map_of v)
  pub range : IsSameRange v w

-- The row isn't passed: it is refused, or its token has no place, or its states are no set of the
-- code.
abbrev pub IsStopped : Row → Statuses → RowError → Type 0
IsStopped r v (Refused e) = IsTokenFault r (map_of v) e
IsStopped r v Unfit = (HasPlace v r.tok → ⊥) ⊎ IsWide r
IsStopped r v Memory = ⊥

-- ---- all rows of a step

-- all rows are passed, from one map to the other
pub record ArePassed (rs : List Row) (v w : Statuses) : Type 0 where
  pub can : CanPass rs (map_of v)
  pub after : map_of w ≡ map_after rs (map_of v)
  pub range : IsSameRange v w

-- the first row that is refused, at the map that the rows before it leave
abbrev pub IsFirstRefused : List Row → HeldMap → TokenFault → Type 0
IsFirstRefused [] h e = ⊥
IsFirstRefused (r ∷ rs) h e =
    IsTokenFault r h e ⊎ (IsWanted r.wanted (h r.tok) × IsFirstRefused rs (row_passed r h) e)

-- the token of some row has no place in the map
abbrev pub LacksPlace : List Row → Statuses → Type 0
LacksPlace [] v = ⊥
LacksPlace (r ∷ rs) v = (HasPlace v r.tok → ⊥) ⊎ LacksPlace rs v

-- Why a step isn't taken: a row is refused, and this one first; or the map has no place for a
-- row's token, or a row's states are no set of the code; or there was no memory.
abbrev pub IsNoStep : List Row → Statuses → RowError → Type 0
IsNoStep rs v (Refused e) = IsFirstRefused rs (map_of v) e
IsNoStep rs v Unfit = LacksPlace rs v ⊎ HasWide rs
IsNoStep rs v Memory = Unit {0}

-- The map passed all rows; or it is as it was, and the error says why.
pub record Steps (rs : List Row) (v w : Statuses) (r : Result (Unit {0}) RowError) : Type 0 where
  pub passed : OnOk r (ArePassed rs v w)
  pub same : OnErr r (w ≡ v)
  pub error : IfErr r (IsNoStep rs v)
