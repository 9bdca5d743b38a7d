use Rattle.std.proofs.Common.{◌≡◌, ◌≤◌, ◌++◌, drop, map}
use Rattle.c_syntax.specs.View.{stmt_of}
use Rattle.c_lower_exprs.specs.Tables.{slot_view}
use Rattle.c_lower_calls.specs.Values.{kind_gets}
use Rattle.c_lower_calls.proofs.calls.get_kind.Given as goal

abbrev pub invariant-loop-slot : goal.invariant-loop-slot
invariant-loop-slot l = record {
  place : l.number ≤ l.slot-index;
  stmts :
      map stmt_of l.out ++ kind_gets l.references l.number (map (λ x. x.var) (map slot_view (drop l.slot-index l.slots)))
      ≡ map stmt_of l.initial.out ++ kind_gets l.references 0 (map (λ x. x.var) (map slot_view l.slots));
}
