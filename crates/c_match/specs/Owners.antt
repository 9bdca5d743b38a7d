-- The owners of pieces alone; private contracts alone cite this.
use Rattle.std.specs.Prelude.{◌≡◌, ℕ, ◌+◌, List, [], ◌∷◌, ◌++◌, map, Option, Some, None, if◌then◌else◌}
use Rattle.vlt_core.specs.Core as core
use Rattle.vlt_core.specs.Core.{Func, Program}
use Rattle.c_syntax.specs.C as c
use Rattle.c_lower.specs.Slots.{Numbers, of_number, past, var_at}
use Rattle.c_lower.specs.Guards.{whole, equal}
use Rattle.c_lower.specs.Statements.{arm_copies, case_positions, variant_type}
use Rattle.c_match.specs.Pieces.{begins_if, ends}
use Rattle.c_match.specs.Owned.{Owned, own, own_code, block_owned, body_owned, count_list, owned_lowering}
use Rattle.c_match.specs.Apart.{all_statements}
use Rattle.c_match.specs.declared.owners.Owners.{Owners}

abbrev pub owners_in : List Owned → List (Option ℕ)
owners_in = map (λ x. x.owner)

-- The owners of these pieces are added, and this is the number of the statement after theirs.
pub record Adds (xs : List Owned) (after : ℕ) (old new : List (Option ℕ)) (next : ℕ) : Type 0 where
  pub owners : new ≡ old ++ owners_in xs
  pub counted : next ≡ after

-- an arm of the switch n on v, whose case is in the temp at t
abbrev pub arm_owned : Program → Func → Numbers → (n m v k : ℕ) → (vs : List ℕ) → core.Block →
    List Owned
arm_owned p f t n m v k vs b =
    own n (begins_if (equal (c.variable (var_at t of_number)) (whole k)) ∷ [])
    ++ own_code n (arm_copies p f v (case_positions p (variant_type f v) k) vs)
    ++ block_owned p f (past t of_number) m b
    ++ own n (ends ∷ [])

-- functions of which the first statement has the number n, and the number after their statements
abbrev pub bodies_from : Program → (n : ℕ) → List Func → List Owned
bodies_from p n [] = []
bodies_from p n (f ∷ fs) =
    (if f.external then [] else body_owned p n f) ++ bodies_from p (n + count_list f.body) fs

abbrev pub number_after : (n : ℕ) → List Func → ℕ
number_after n [] = n
number_after n (f ∷ fs) = number_after (n + count_list f.body) fs

-- the owner at a place, none after the last
abbrev pub owner_at : Option (Option ℕ) → Option ℕ
owner_at None = None
owner_at (Some o) = o

pub record AreOwners (p : Program) (x : Owners) : Type 0 where
  pub owners : x.owners ≡ owners_in (owned_lowering p)
  pub statements : x.statements ≡ all_statements p
