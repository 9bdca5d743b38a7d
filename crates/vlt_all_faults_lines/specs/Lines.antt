-- The lines of all faults of a program: what `faults` writes, and with the paths that show each of them what `paths` writes.
use Rattle.std.specs.Prelude.{◌≡◌, ℕ, ◌+◌, List, [], ◌∷◌, ◌++◌, map, length, Option, slice_get, unwrap_or, codes}
use Rattle.std.specs.Borrow.{Bor}
use Rattle.std.specs.List.{flat_map}
use Rattle.std.specs.Fmt.{decimal}
use Rattle.vlt_core.specs.Core.{Name, Func, Program}
use Rattle.vlt_core.specs.Witness.{Choice, IsWitness}
use Rattle.vlt_reports.specs.Reports.{fault_line, instance_text, paths_text}
use Rattle.vlt_all_faults_laws.specs.Each.{Finding, AreAllFindings}
use Rattle.vlt_all_faults_laws.specs.Laws.{fault_at}

-- ---- `faults`

-- the line that `check` writes of such a fault
abbrev pub finding_line : (text : List ℕ) → Program → Func → Finding → List ℕ
finding_line text p f x = fault_line text p f x.spot.at x.tok x.kind

-- those of functions one after another
abbrev pub finding_lines : (text : List ℕ) → Program → List Func → List (List Finding) → List ℕ
finding_lines text p (f ∷ fs) (xs ∷ all) = flat_map (finding_line text p f) xs ++ finding_lines text p fs all
finding_lines text p _ _ = []

-- how many there are in all
abbrev pub total : List (List Finding) → ℕ
total [] = 0
total (xs ∷ all) = length xs + total all

abbrev pub count_line : List (List Finding) → List ℕ
count_line all = codes "faults " ++ decimal (total all) ++ codes "\n"

abbrev pub faults_text : (text : List ℕ) → Program → List (List Finding) → List ℕ
faults_text text p all = finding_lines text p p.fns all ++ count_line all

-- These lines tell all faults of the program of a text, each by its line, and then how many there are.
abbrev pub IsFaultsText : (text : List ℕ) → Program → (lines : List ℕ) → Type 0
IsFaultsText text p lines = (all : List (List Finding)) × AreAllFindings p all × (lines ≡ faults_text text p all)

-- ---- `paths`

-- the `path` lines of one of the witnesses of a fault, as `explain` has them; its function has this number, and this state variable
abbrev pub ArePathsOf : (text : List ℕ) → Program → (variable : Name) → (number : ℕ) → Func → Finding → (lines : List ℕ) → Type 0
ArePathsOf text p v n f x lines =
    (first : List Choice) × (second : Option (List Choice)) × IsWitness p (fault_at n x) first second ×
    (lines ≡ paths_text text p f (instance_text p f v x.origin) first second)

-- What is written of a fault.
abbrev pub Written : Type 1
Written = Finding → (lines : List ℕ) → Type 0

-- its line, and below it paths that show it
abbrev pub IsShown : (text : List ℕ) → Program → (variable : Name) → (number : ℕ) → Func → Written
IsShown text p v n f x lines =
    (paths : List ℕ) × ArePathsOf text p v n f x paths × (lines ≡ finding_line text p f x ++ paths)

-- of a function's faults one after another
abbrev pub AreWrittenOf : Written → List Finding → (lines : List ℕ) → Type 0
AreWrittenOf W [] lines = lines ≡ []
AreWrittenOf W (x ∷ xs) lines =
    (first : List ℕ) × (rest : List ℕ) × W x first × AreWrittenOf W xs rest × (lines ≡ first ++ rest)

-- of functions one after another, the first of which has this number
abbrev pub AreWrittenIn : ((number : ℕ) → Func → Written) → (number : ℕ) → List Func → List (List Finding) → (lines : List ℕ) → Type 0
AreWrittenIn W n (f ∷ fs) (xs ∷ all) lines =
    (first : List ℕ) × (rest : List ℕ) × AreWrittenOf (W n f) xs first × AreWrittenIn W (n + 1) fs all rest × (lines ≡ first ++ rest)
AreWrittenIn W n _ _ lines = lines ≡ []

-- These lines show all faults of the program of a text, and then tell how many there are. Each function has its state variable, by
-- number.
abbrev pub IsPathsText : (text : List ℕ) → Program → (variable : ℕ → Name) → (lines : List ℕ) → Type 0
IsPathsText text p variable lines =
    (all : List (List Finding)) × (shown : List ℕ) × AreAllFindings p all ×
    AreWrittenIn (λ n f. IsShown text p (variable n) n f) 0 p.fns all shown × (lines ≡ shown ++ count_line all)

-- the names of a list by number, and past its end empty ones
abbrev pub AreNamesBy : List (Bor (List ℕ)) → (ℕ → Name) → Type 0
AreNamesBy names variable = (n : ℕ) → variable n ≡ unwrap_or (slice_get (map (λ name. name.now) names) n) []
