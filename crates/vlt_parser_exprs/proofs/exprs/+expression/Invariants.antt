use Rattle.std.proofs.Common.{◌≡◌, ◌≤◌, ◌<◌, ◌+◌, ◌-◌, ◌*◌, List, ◌∷◌, length}
use Rattle.vlt_syntax.specs.Spelling.{expr_then}
use Rattle.vlt_syntax.specs.Grammar.{BindsFrom, depth}
use Rattle.vlt_automaton.specs.Language as m
use Rattle.vlt_automaton.specs.Language.{Symbol, Pending, run}
use Rattle.vlt_syntax.specs.View.{expr_of}
use Rattle.vlt_syntax.specs.Places.{expr_at}
use Rattle.vlt_parser_exprs.specs.Reading.{tokens_from, Stands}
use Rattle.vlt_parser_exprs.specs.Ahead.{lexemes_from, next_level}
use Rattle.vlt_parser_exprs.proofs.exprs.+expression.Given as goal

abbrev pub decreases-primary : goal.decreases-primary
decreases-primary l = 3 * (length l.tokens.now - l.at) + 1

abbrev pub decreases-group : goal.decreases-group
decreases-group l = 3 * (length l.tokens.now - l.at) + 3

abbrev pub decreases-unary : goal.decreases-unary
decreases-unary l = 3 * (length l.tokens.now - l.at)

abbrev pub decreases-expression : goal.decreases-expression
decreases-expression l = 3 * (length l.tokens.now - l.at) + 2

abbrev pub invariant-expression-loop-next : goal.invariant-expression-loop-next
invariant-expression-loop-next l = record {
  spelled : tokens_from l.tokens l.at ≡ expr_then (expr_of l.first.expr) (tokens_from l.tokens l.here);
  stands : Stands expr_at l.tokens l.at (expr_of l.first.expr) l.here;
  binds : BindsFrom l.least (expr_of l.first.expr);
  next : BindsFrom (next_level (lexemes_from l.tokens l.here)) (expr_of l.first.expr);
  depth : l.first.depth ≡ depth (expr_of l.first.expr);
  some : 1 ≤ l.first.depth;
  fits : l.first.depth ≤ l.room;
  later : l.at < l.here;
  within : l.here ≤ length l.tokens;
  place : (fs : List Pending) (s : List Symbol) → run (m.operand l.room (m.level_from l.least l.room ∷ fs) ∷ s) (lexemes_from l.tokens l.at)
      ≡ run (m.operations l.first.depth (m.level_from l.least l.room ∷ fs) ∷ s) (lexemes_from l.tokens l.here);
}

abbrev pub decreases-expression-loop-next : goal.decreases-expression-loop-next
decreases-expression-loop-next l = length l.tokens - l.here
