use Rattle.std.proofs.Common.{◌≡◌, ◌++◌, ◌+◌, drop}
use Rattle.vlt_core.specs.View as view
use Rattle.c_lower_exprs.specs.Tables.{numbers_of}
use Rattle.c_lower_exprs.specs.Scopes.{func_in, program_in}
use Rattle.c_match.specs.Owned.{arms_owned, list_owned, count_arms, count_list}
use Rattle.c_match.specs.Owners.{owners_in}
use Rattle.c_match.proofs.owners.+owning.Given as goal

-- what was added, and then the owners that are left, is the whole
abbrev pub invariant-add_arms-loop-arm : goal.invariant-add_arms-loop-arm
invariant-add_arms-loop-arm l =
    let owned = arms_owned (program_in l.scope) (func_in l.scope) (numbers_of l.t) l.n in
    record {
      owners :
          l.owners ++ owners_in (owned l.next l.v.0 (view.arms_of (drop l.arm-index l.arms)))
          ≡ l.initial.owners ++ owners_in (owned l.first l.v.0 (view.arms_of l.arms));
      counted : l.next + count_arms (view.arms_of (drop l.arm-index l.arms)) ≡ l.first + count_arms (view.arms_of l.arms);
    }

abbrev pub invariant-add_stmts-loop-stmt : goal.invariant-add_stmts-loop-stmt
invariant-add_stmts-loop-stmt l =
    let owned = list_owned (program_in l.scope) (func_in l.scope) (numbers_of l.t) in
    record {
      owners :
          l.owners ++ owners_in (owned l.next (view.stmts_of (drop l.stmt-index l.stmts)))
          ≡ l.initial.owners ++ owners_in (owned l.n (view.stmts_of l.stmts));
      counted : l.next + count_list (view.stmts_of (drop l.stmt-index l.stmts)) ≡ l.n + count_list (view.stmts_of l.stmts);
    }
