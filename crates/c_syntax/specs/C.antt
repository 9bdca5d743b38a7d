-- A C program, without where it lies in memory. Names, cells, primitives and operators are those of the code.
use Rattle.std.specs.Prelude.{ℕ, ℤ, List, Option}
use Rattle.vlt_ops.specs.declared.Op.{Op}
use Rattle.c_syntax.specs.declared.program.CResult.{CResult}
use Rattle.c_syntax.specs.declared.program.CVar.{CVar}
use Rattle.c_syntax.specs.declared.program.CName.{CName}
use Rattle.c_syntax.specs.declared.program.CPrim.{CPrim}
use Rattle.c_syntax.specs.declared.program.CCell.{CCell}

pub data Expr : Type 0 where
  number : ℤ → Expr
  variable : CVar → Expr
  cell : CCell → Expr
  null : Expr
  unary : Op → Expr → Expr
  binary : Op → Expr → Expr → Expr

pub data Arg : Type 0 where
  number : ℤ → Arg
  variable : CVar → Arg
  null : Arg
  text : List ℕ → Arg

pub data Call : Type 0 where
  function : CName → List Arg → Call
  primitive : CPrim → List Arg → Call

mutual
  pub data Stmt : Type 0 where
    set : CVar → Expr → Stmt
    set_call : CVar → Call → Stmt
    call : Call → Stmt
    put : CCell → Expr → Stmt
    -- without and with an `else`
    when : Expr → Stmts → Stmt
    choose : Expr → Stmts → Stmts → Stmt
    loop : Stmts → Stmt
    break : Stmt
    continue : Stmt
    return : Option Expr → Stmt

  pub data Stmts : Type 0 where
    done : Stmts
    next : Stmt → Stmts → Stmts

pub record Func : Type 0 where
  pub number : ℕ
  pub result : CResult
  pub params : List CVar
  pub vars : List CVar
  pub body : Stmts

pub record Program : Type 0 where
  pub glue : List Func
  pub fns : List Func
  -- the position in `fns` of the function that a run begins with
  pub main : ℕ
