use Rattle.std.proofs.Common.{◌≡◌, ◌≤◌, ◌+◌, ◌-◌, ◌*◌, length, Bool, List, ◌∷◌}
use Rattle.c_syntax.specs.Spelling.{stmts_then}
use Rattle.c_syntax.specs.Grammar.{AreStmts, language}
use Rattle.c_syntax.specs.View.{stmts_of}
use Rattle.c_lexer.specs.View.{tokens_from}
use Rattle.c_automaton.specs.Automaton as machine
use Rattle.c_parser.specs.Following.{ahead, WithRoom}
use Rattle.c_parser.proofs.stmts.+statements.Given as goal

abbrev pub decreases-stmt : goal.decreases-stmt
decreases-stmt l = 5 * l.room

abbrev pub decreases-stmts : goal.decreases-stmts
decreases-stmts l = 5 * l.room + 1

abbrev pub decreases-block : goal.decreases-block
decreases-block l = 5 * l.room + 2

abbrev pub decreases-after_first_block : goal.decreases-after_first_block
decreases-after_first_block l = 5 * l.room + 3

abbrev pub decreases-after_if : goal.decreases-after_if
decreases-after_if l = 5 * l.room + 4

abbrev pub decreases-after_while : goal.decreases-after_while
decreases-after_while l = 5 * l.room + 4

abbrev pub decreases-stmts-loop-alloc : goal.decreases-stmts-loop-alloc
decreases-stmts-loop-alloc l = length l.lexemes - l.here

abbrev pub invariant-stmts-loop-alloc : goal.invariant-stmts-loop-alloc
invariant-stmts-loop-alloc l = record {
  spells : tokens_from l.lexemes l.at ≡ stmts_then (stmts_of l.found) (tokens_from l.lexemes l.here);
  are : AreStmts language.expressions l.room (stmts_of l.found);
  later : l.at ≤ l.here;
  follows : (counts : Bool) (ys : List machine.Symbol) → WithRoom counts l.room ys → machine.run language (machine.stmts counts ∷ ys) (ahead l.lexemes l.at) ≡ machine.run language (machine.stmts counts ∷ ys) (ahead l.lexemes l.here);
}
