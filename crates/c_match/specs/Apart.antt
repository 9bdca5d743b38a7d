-- Where a C program first differs from the lowering of a core program.
use Rattle.std.specs.Prelude.{◌≡◌, ◌⊎◌, ℕ, List, [], ◌∷◌, length, Option, None}
use Rattle.std.specs.Option.{unwrap_or}
use Rattle.vlt_core.specs.Core.{Program}
use Rattle.vlt_core.specs.Least.{first_number}
use Rattle.c_syntax.specs.C as c
use Rattle.c_match.specs.Pieces.{Piece, program_pieces}
use Rattle.c_match.specs.Owned.{Owned, owned_lowering}

-- The owner of the first of the owned pieces that isn't there; none where all are there, and others
-- follow.
abbrev pub IsFirstApart : List Owned → List Piece → (owner : Option ℕ) → Type 0
IsFirstApart [] [] o = ⊥
IsFirstApart [] (y ∷ ys) o = o ≡ None
IsFirstApart (x ∷ xs) [] o = o ≡ x.owner
IsFirstApart (x ∷ xs) (y ∷ ys) o =
    ((x.piece ≡ y → ⊥) × (o ≡ x.owner)) ⊎ ((x.piece ≡ y) × IsFirstApart xs ys o)

-- how many statements there are
abbrev pub all_statements : Program → ℕ
all_statements p = first_number p (length p.fns)

-- The number of the first statement whose lowering isn't there; outside all statements it is the
-- number of all.
pub record IsApartAt (p : Program) (x : c.Program) (statement : ℕ) : Type 0 where
  pub owner : Option ℕ
  pub first : IsFirstApart (owned_lowering p) (program_pieces x) owner
  pub counted : statement ≡ unwrap_or owner (all_statements p)
