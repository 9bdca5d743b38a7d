-- What a search looks for.
use Rattle.std.specs.Prelude.{◌≡◌, ℕ, false, List, [], ◌∷◌}
use Rattle.vlt_core.specs.Core.{Tok}
use Rattle.vlt_core.specs.Maps.{Row, is_tok}
use Rattle.vlt_core.specs.Found.{One, one_absent}
use Rattle.vlt_core.specs.Faults.{Spot, IsPresent}
use Rattle.vlt_core.specs.Witness.{Choice, Refuses, NoJoin, NoRow, IsJoin, MetHere}
use Rattle.vlt_core.specs.View.{tok_of}
use Rattle.vlt_core.specs.HeldView.{wanted_of}
use Rattle.vlt_witness.specs.declared.aim.Aim.{Aim}
use Rattle.vlt_witness.specs.declared.aim.Goal.{Goal}
use Rattle.vlt_witness.specs.declared.aim.Goal.TheVariants as goal
use Rattle.vlt_witness.specs.Ways.{End, row_end, join_end}

abbrev pub aim_tok : Aim → Tok
aim_tok a = tok_of a.tok

abbrev pub spot_of : (at class number : ℕ) → Spot
spot_of at class number = record { at = at; class = class; number = number }

abbrev pub row_aimed : Goal → Tok → (at : ℕ) → (place : ℕ) → Row → One → Type 0
row_aimed (goal.Refusal w) t at = Refuses t at (wanted_of w)
row_aimed goal.Absent t at = NoRow
row_aimed goal.Present t at = NoRow

abbrev pub join_aimed : Goal → Spot → Spot → One → Type 0
join_aimed (goal.Refusal w) s = NoJoin
join_aimed goal.Absent s = IsJoin s (λ o. o ≡ one_absent)
join_aimed goal.Present s = IsJoin s IsPresent

-- the rows and the joins that the aim is met at, by what is told of them
abbrev pub rows_aimed : Aim → End → (place : ℕ) → Row → One → Type 0
rows_aimed a row_end = row_aimed a.goal (tok_of a.tok) a.at
rows_aimed a (join_end class number) = NoRow

abbrev pub joins_aimed : Aim → End → Spot → One → Type 0
joins_aimed a row_end = NoJoin
joins_aimed a (join_end class number) = join_aimed a.goal (spot_of a.at class number)

-- a join that a path comes to with all its choices made
abbrev pub JoinHere : Aim → Spot → End → One → List Choice → Type 0
JoinHere a s e o cs = (cs ≡ []) × joins_aimed a e s o

-- rows at this place
abbrev pub RowsHere : Aim → (at : ℕ) → List Row → End → One → List Choice → Type 0
RowsHere a at rs e = MetHere (rows_aimed a e) (joins_aimed a e) (tok_of a.tok) at rs

-- no row is one of the token
abbrev pub HasNoRow : Tok → List Row → Type 0
HasNoRow t [] = Unit {0}
HasNoRow t (r ∷ rs) = (is_tok t r.tok ≡ false) × HasNoRow t rs
