-- What is so of the lines of all faults.
use Rattle.std.specs.Prelude.{◌≡◌, ℕ, List, ◌++◌, Option, Some, slice_get, codes}
use Rattle.vlt_core.specs.Core.{Name, Func, Program}
use Rattle.vlt_core.specs.Derives.{IsAccepted}
use Rattle.vlt_core.specs.Faults.{FlowFault, IsFirstFault}
use Rattle.vlt_core.specs.Witness.{Choice, IsWitness}
use Rattle.vlt_core_laws.specs.Fit.{IsWellFormed}
use Rattle.vlt_reports.specs.Reports.{fault_line, instance_text, paths_text}
use Rattle.vlt_all_faults_lines.specs.Lines.{IsFaultsText, IsPathsText}

-- there is at most one text of them
abbrev pub HasOneFaultsText : Program → Type 0
HasOneFaultsText p = (text a b : List ℕ) → IsFaultsText text p a → IsFaultsText text p b → a ≡ b

-- it begins with the line of the first fault, which `check` writes
abbrev pub FaultsBeginWithFirst : Program → Type 0
FaultsBeginWithFirst p =
    (text lines : List ℕ) (x : FlowFault) (f : Func) → IsFirstFault p x → slice_get p.fns x.function ≡ Some f → IsFaultsText text p lines →
    (rest : List ℕ) × (lines ≡ fault_line text p f x.at x.tok x.kind ++ rest)

-- the paths begin with those of the first fault, as `explain` writes them
abbrev pub PathsBeginWithFirst : Program → Type 0
PathsBeginWithFirst p =
    (text lines : List ℕ) (variable : ℕ → Name) (x : FlowFault) (f : Func) → IsFirstFault p x → slice_get p.fns x.function ≡ Some f →
    IsPathsText text p variable lines →
    (first : List Choice) × (second : Option (List Choice)) × (rest : List ℕ) × IsWitness p x first second ×
    (lines ≡ fault_line text p f x.at x.tok x.kind ++ paths_text text p f (instance_text p f (variable x.function) x.origin) first second ++ rest)

-- an accepted program has none
abbrev pub AcceptedHaveNoFaults : Program → Type 0
AcceptedHaveNoFaults p = (text lines : List ℕ) → IsWellFormed p → IsAccepted p → IsFaultsText text p lines → lines ≡ codes "faults 0\n"
