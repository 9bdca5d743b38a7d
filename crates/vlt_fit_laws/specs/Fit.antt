-- What is known of the core programs of texts.
use Rattle.std.specs.Prelude.{◌≡◌, ℕ, ◌≤◌, true, length, Some, slice_get, Ok}
use Rattle.vlt_syntax.specs.Tree.{Tree}
use Rattle.vlt_syntax.specs.Lists.{Each}
use Rattle.vlt_syntax.specs.Grammar.{IsTree, language}
use Rattle.vlt_core.specs.Core.{done, Func, Program}
use Rattle.vlt_core.specs.Kinded.{IsKinded}
use Rattle.vlt_core.specs.Proper.{HasProperBodies}
use Rattle.vlt_core.specs.Lookups.{fields_of}
use Rattle.vlt_kinds_types.specs.Kinds.{Kinds}
use Rattle.vlt_kinds.specs.Tables.{kinds_told}
use Rattle.vlt_elaboration.specs.Elaboration.{elaborated}
use Rattle.vlt_core_laws.specs.Fit.{IsWellFormed}
use Rattle.vlt_sound.specs.Sizes.{HasSizes}
use Rattle.vlt_sound.specs.Narrow.{HasNarrowHeads}
use Rattle.vlt_syntax_laws.specs.Ticks.{HasTicks}
use Rattle.vlt_syntax_laws.specs.Numbers.{HasNumbers}

-- few fields in each struct, few variables and keys in each function, and few functions
pub record HasFewParts (p : Program) : Type 0 where
  pub fields : (t : ℕ) → length (fields_of p t) ≤ 32
  pub vars : (i : ℕ) (f : Func) → slice_get p.fns i ≡ Some f → length f.vars ≤ 256
  pub keys : (i : ℕ) (f : Func) → slice_get p.fns i ≡ Some f → length f.keys ≤ 256
  pub functions : length p.fns ≤ 4096

-- what the check asks of a program, and what keeps it from being unfit for it
pub record IsJudgeable (p : Program) : Type 0 where
  pub well_formed : IsWellFormed p
  pub sizes : HasSizes p
  pub few : HasFewParts p

-- All that the laws on checks and runs want to know of a program: it breaks no rule on names and types, each of its sets has a
-- state and at most 32, all below 32 where a host gives one, each of its switches has an arm, fields, variables, keys and
-- functions are few, each operator has as many operands as it wants, and each number is from 0 to 2^63 - 1.
pub record IsFitProgram (p : Program) : Type 0 where
  pub kinded : IsKinded p
  pub well_formed : IsWellFormed p
  pub sizes : HasSizes p
  pub narrow : HasNarrowHeads p
  pub few : HasFewParts p
  pub proper : HasProperBodies p
  -- externals have no statements
  pub blank : (i : ℕ) (f : Func) → slice_get p.fns i ≡ Some f → f.external ≡ true → f.body ≡ done

-- a tree of the language, in which the names of cases are ticks and the numbers from 0 to 2^63 - 1,
-- as in each text
pub record IsTextTree (t : Tree) : Type 0 where
  pub tree : IsTree language t
  pub ticks : Each HasTicks t.decls
  pub numbers : HasNumbers t

abbrev pub ProgramsAreFit : Type 0
ProgramsAreFit = (t : Tree) (kinds : Kinds) (p : Program) → IsTextTree t → kinds_told t ≡ Ok kinds →
    elaborated t kinds ≡ Ok p → IsFitProgram p
