use Rattle.std.proofs.Common.{◌≡◌, ◌++◌, drop, map}
use Rattle.vlt_core.specs.View as view
use Rattle.c_syntax.specs.View.{stmt_of}
use Rattle.c_lower.specs.Statements.{arms_code, list_code, most_of_both}
use Rattle.c_lower_exprs.specs.Tables.{numbers_of}
use Rattle.c_lower_exprs.specs.Scopes.{func_in, program_in}
use Rattle.c_lower_stmts.proofs.stmts.+lowering.Given as goal

-- what was written, and then the code that is left, is the whole
abbrev pub invariant-lower_arms-loop-arm : goal.invariant-lower_arms-loop-arm
invariant-lower_arms-loop-arm l =
    let rest = arms_code (program_in l.scope) (func_in l.scope) (numbers_of l.t) l.v.0 l.case (view.arms_of (drop l.arm-index l.arms)) in
    let whole = arms_code (program_in l.scope) (func_in l.scope) (numbers_of l.t) l.v.0 l.case (view.arms_of l.arms) in
    record {
      stmts : map stmt_of l.out ++ rest.stmts ≡ map stmt_of l.initial.out ++ whole.stmts;
      most : most_of_both (numbers_of l.most) rest.most ≡ whole.most;
    }

abbrev pub invariant-lower_stmts-loop-stmt : goal.invariant-lower_stmts-loop-stmt
invariant-lower_stmts-loop-stmt l =
    let rest = list_code (program_in l.scope) (func_in l.scope) (numbers_of l.t) (view.stmts_of (drop l.stmt-index l.stmts)) in
    let whole = list_code (program_in l.scope) (func_in l.scope) (numbers_of l.t) (view.stmts_of l.stmts) in
    record {
      stmts : map stmt_of l.out ++ rest.stmts ≡ map stmt_of l.initial.out ++ whole.stmts;
      most : most_of_both (numbers_of l.most) rest.most ≡ whole.most;
    }
