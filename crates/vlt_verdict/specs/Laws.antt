-- That a tree of a text has one verdict.
use Rattle.std.specs.Prelude.{◌≡◌, Result, Ok}
use Rattle.vlt_syntax.specs.Tree.{Tree}
use Rattle.vlt_base.specs.Sure.{Surely}
use Rattle.vlt_core.specs.Core.{Program}
use Rattle.vlt_core_laws.specs.Fit.{IsWellFormed}
use Rattle.vlt_elaboration.specs.Elaboration.{Refused}
use Rattle.vlt_fit_laws.specs.Fit.{IsTextTree}
use Rattle.vlt_verdict.specs.Verdicts.{Verdict, IsVerdict, IsVerdictOf}

-- A tree that a text has is of one verdict.
abbrev pub HasOneVerdict : Type 0
HasOneVerdict = (t : Tree) (v w : Verdict) → IsTextTree t → IsVerdictOf t v → IsVerdictOf t w → v ≡ w

-- It can't be that it is of none.
abbrev pub HasSomeVerdict : Type 0
HasSomeVerdict = (t : Tree) → IsTextTree t → Surely ((v : Verdict) × IsVerdictOf t v)

-- ---- whatever gives the program

-- where elaboration gives a program, it is one that the laws on checks are about
abbrev pub GivesWellFormed : Result Program Refused → Type 0
GivesWellFormed told = (p : Program) → told ≡ Ok p → IsWellFormed p

abbrev pub ProgramsHaveOneVerdict : Type 0
ProgramsHaveOneVerdict =
    (told : Result Program Refused) (v w : Verdict) → GivesWellFormed told → IsVerdict told v → IsVerdict told w → v ≡ w

abbrev pub ProgramsHaveSomeVerdict : Type 0
ProgramsHaveSomeVerdict = (told : Result Program Refused) → GivesWellFormed told → Surely ((v : Verdict) × IsVerdict told v)
