use Rattle.std.proofs.Common.{◌≡◌, ◌++◌, ◌+◌, drop, map}
use Rattle.c_syntax.specs.View.{stmt_of}
use Rattle.c_lower.specs.Statements.{build_slots}
use Rattle.c_lower_exprs.specs.Tables.{slot_view}
use Rattle.c_lower_exprs.specs.Coded.{atom_of}
use Rattle.c_lower_stmts.proofs.variants.build_slots.Given as goal

abbrev pub invariant-loop-slot : goal.invariant-loop-slot
invariant-loop-slot l = record {
  place : l.at ≡ l.slot-index + 1;
  stmts :
      map stmt_of l.out ++ build_slots l.at l.positions (map atom_of l.atoms) (map slot_view (drop l.slot-index l.slots))
      ≡ map stmt_of l.initial.out ++ build_slots 1 l.positions (map atom_of l.atoms) (map slot_view l.slots);
}
