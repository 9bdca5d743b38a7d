-- What is so of all faults of a program.
use Rattle.std.specs.Prelude.{◌≡◌, ℕ, ◌+◌, List, [], ◌∷◌}
use Rattle.vlt_core.specs.Core.{Func, Program}
use Rattle.vlt_core.specs.Faults.{FlowFault, IsFirstFault}
use Rattle.vlt_all_faults_laws.specs.Each.{Finding, AreFindings, AreAllFindings}

-- a function, and a program, has one list of them
abbrev pub HasOneList : Program → Func → Type 0
HasOneList p f = (xs ys : List Finding) → AreFindings p f xs → AreFindings p f ys → xs ≡ ys

abbrev pub HasOneListing : Program → Type 0
HasOneListing p = (a b : List (List Finding)) → AreAllFindings p a → AreAllFindings p b → a ≡ b

-- no function has any
abbrev pub AreNone : List (List Finding) → Type 0
AreNone [] = Unit {0}
AreNone (xs ∷ all) = (xs ≡ []) × AreNone all

-- as a fault of the function of this number
abbrev pub fault_at : (number : ℕ) → Finding → FlowFault
fault_at n x = record { function = n; origin = x.origin; at = x.spot.at; tok = x.tok; kind = x.kind }

-- this is the first one of the functions from this number on
abbrev pub BeginsWith : FlowFault → (number : ℕ) → List (List Finding) → Type 0
BeginsWith x n [] = ⊥
BeginsWith x n ([] ∷ all) = BeginsWith x (n + 1) all
BeginsWith x n ((y ∷ ys) ∷ all) = fault_at n y ≡ x

-- the first one of all is the first fault
abbrev pub BeginsWithFirst : Program → Type 0
BeginsWithFirst p = (x : FlowFault) (all : List (List Finding)) → IsFirstFault p x → AreAllFindings p all → BeginsWith x 0 all
