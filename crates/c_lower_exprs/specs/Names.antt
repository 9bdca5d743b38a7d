-- The table of functions' names.
use Rattle.std.specs.Prelude.{◌≡◌, ℕ, suc, true, false, if◌then◌else◌, List, [], ◌∷◌}
use Rattle.vlt_core.specs.Core.{Func, Program}
use Rattle.c_syntax.specs.declared.program.CName.{CName}
use Rattle.c_lower_exprs.specs.declared.names.Names.{Names}

-- the names of functions, of which the first with a body and the first external have these numbers
abbrev pub names_laid : (body glue : ℕ) → List Func → List CName
names_laid b g [] = []
names_laid b g (f ∷ fs) =
    if f.external then record { glue = true; number = g } ∷ names_laid b (suc g) fs
    else record { glue = false; number = b } ∷ names_laid (suc b) g fs

abbrev pub bodies_after : (body : ℕ) → List Func → ℕ
bodies_after b [] = b
bodies_after b (f ∷ fs) = if f.external then bodies_after b fs else bodies_after (suc b) fs

pub record AreNames (p : Program) (x : Names) : Type 0 where
  pub table : x.names ≡ names_laid 0 0 p.fns
  pub bodies : x.bodies ≡ bodies_after 0 p.fns
