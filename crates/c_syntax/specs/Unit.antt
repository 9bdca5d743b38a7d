-- A C text as it is written: heads, and then functions with their bodies.
use Rattle.std.specs.Prelude.{ℕ, Bool, List}
use Rattle.c_syntax.specs.declared.program.CResult.{CResult}
use Rattle.c_syntax.specs.declared.program.CVar.{CVar}
use Rattle.c_syntax.specs.declared.program.CName.{CName}
use Rattle.c_syntax.specs.C.{Stmts}

-- a name that is declared, with its type: `vr_ref` or else `long long`
pub record Declaration : Type 0 where
  pub reference : Bool
  pub variable : CVar

pub record Head : Type 0 where
  pub result : CResult
  pub name : CName
  pub params : List Declaration

pub record Body : Type 0 where
  pub head : Head
  pub vars : List Declaration
  pub stmts : Stmts

pub record TranslationUnit : Type 0 where
  -- the number of the function that VR_MAIN stands for
  pub main : ℕ
  pub heads : List Head
  pub bodies : List Body
