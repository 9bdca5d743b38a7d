-- The arguments of primitives, as results.
use Rattle.c_meaning.specs.Values.{◌>>=◌}
use Rattle.std.specs.Prelude.{◌≡◌, ℕ, ℤ, Bool, true, false, List, [], ◌∷◌, Option, Result, Ok, Err}
use Rattle.vlt_rings.specs.Things.{Things}
use Rattle.c_syntax.specs.declared.rules.TheConstants as rule
use Rattle.c_syntax.specs.C.{Arg}
use Rattle.c_meaning.specs.World.{Vars}
use Rattle.c_meaning.specs.Primitives.{number_of, reference_of}
use Rattle.c_memory.specs.declared.cells.Ref.{Ref}
use Rattle.c_memory.specs.Shown as memory
use Rattle.c_memory.specs.Shown.{IsMade}

-- Other arguments than these are misuse.
abbrev pub one_number : List Arg → Vars → Result ℤ ℕ
one_number (x ∷ []) vars = number_of x vars
one_number _ vars = Err rule.MISUSED

abbrev pub one_reference : List Arg → Vars → Result (Option ℕ) ℕ
one_reference (x ∷ []) vars = reference_of x vars
one_reference _ vars = Err rule.MISUSED

abbrev pub number_pair : Arg → Arg → Vars → Result (ℤ × ℤ) ℕ
number_pair x y vars = do
  a ← number_of x vars
  b ← number_of y vars
  Ok (a, b)

abbrev pub two_numbers : List Arg → Vars → Result (ℤ × ℤ) ℕ
two_numbers (x ∷ y ∷ []) vars = number_pair x y vars
two_numbers _ vars = Err rule.MISUSED

abbrev pub number_and_reference : List Arg → Vars → Result (ℤ × Option ℕ) ℕ
number_and_reference (x ∷ y ∷ []) vars = do
  a ← number_of x vars
  b ← reference_of y vars
  Ok (a, b)
number_and_reference _ vars = Err rule.MISUSED

abbrev pub two_references : List Arg → Vars → Result (Option ℕ × Option ℕ) ℕ
two_references (x ∷ y ∷ []) vars = do
  a ← reference_of x vars
  b ← reference_of y vars
  Ok (a, b)
two_references _ vars = Err rule.MISUSED

abbrev pub is_none : List Arg → Bool
is_none [] = true
is_none (x ∷ xs) = false

-- ---- what is answered

abbrev pub AreReferences : Things → Result (Option Ref × Option Ref) ℕ → Result (Option ℕ × Option ℕ) ℕ → Type 0
AreReferences ts (Ok q) (Ok m) =
    (memory.number_of q.0 ≡ m.0) × (memory.number_of q.1 ≡ m.1) × IsMade ts q.0 × IsMade ts q.1
AreReferences ts (Err r) (Err rule) = r ≡ rule
AreReferences ts (Ok q) (Err rule) = ⊥
AreReferences ts (Err r) (Ok m) = ⊥

abbrev pub AreNumberAndReference : Things → Result (ℤ × Option Ref) ℕ → Result (ℤ × Option ℕ) ℕ → Type 0
AreNumberAndReference ts (Ok q) (Ok m) = (q.0 ≡ m.0) × (memory.number_of q.1 ≡ m.1) × IsMade ts q.1
AreNumberAndReference ts (Err r) (Err rule) = r ≡ rule
AreNumberAndReference ts (Ok q) (Err rule) = ⊥
AreNumberAndReference ts (Err r) (Ok m) = ⊥
