-- What is proved of the kinds of C.
use Rattle.std.specs.Prelude.{◌≡◌, ◌≤◌, ℕ, List, [], ◌∷◌, Some, None}
use Rattle.c_syntax.specs.C.{Program}
use Rattle.c_syntax.specs.Unit.{TranslationUnit}
use Rattle.c_syntax.specs.Kinds.{Refusal, unit_refusal}
use Rattle.c_syntax.specs.Programs.{IsProgramOf}
use Rattle.c_machine.specs.Machine.{IsRunnable}

-- where no rule on names and types refuses a text, the program that it stands for can be run
abbrev pub UnrefusedProgramsCanRun : Type 0
UnrefusedProgramsCanRun =
    (places : List ℕ) (u : TranslationUnit) (p : Program)
    → unit_refusal places u ≡ None → IsProgramOf u p → IsRunnable p

abbrev pub AreWithin : ℕ → List ℕ → Type 0
AreWithin most [] = Unit {0}
AreWithin most (place ∷ places) = (place ≤ most) × AreWithin most places

-- where the tokens begin at no byte after that one, nothing is told after it
abbrev pub RefusalsAreWithin : Type 0
RefusalsAreWithin =
    (places : List ℕ) (u : TranslationUnit) (most : ℕ) (r : Refusal)
    → AreWithin most places → unit_refusal places u ≡ Some r → r.at ≤ most
