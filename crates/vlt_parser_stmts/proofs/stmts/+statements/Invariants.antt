use Rattle.std.proofs.Common.{◌≡◌, ◌≤◌, ◌+◌, ◌-◌, ◌*◌, List, ◌∷◌, length}
use Rattle.vlt_syntax.specs.Spelling.{stmts_then, arms_then}
use Rattle.vlt_syntax.specs.Grammar.{AreStmts, AreArms, language}
use Rattle.vlt_syntax.specs.View.{stmts_of, arms_of}
use Rattle.vlt_automaton.specs.Language as m
use Rattle.vlt_automaton.specs.Language.{Symbol, run}
use Rattle.vlt_parser_exprs.specs.Ahead.{lexemes_from}
use Rattle.vlt_syntax.specs.Places.{stmts_at, arms_at}
use Rattle.vlt_parser_exprs.specs.Reading.{tokens_from, Stands}
use Rattle.vlt_parser_stmts.proofs.stmts.+statements.Given as goal

abbrev pub decreases-block : goal.decreases-block
decreases-block l = 3 * (length l.tokens.now - l.at)

abbrev pub decreases-stmt : goal.decreases-stmt
decreases-stmt l = 3 * (length l.tokens.now - l.at) + 1

abbrev pub decreases-if_stmt : goal.decreases-if_stmt
decreases-if_stmt l = 3 * (length l.tokens.now - l.at)

abbrev pub decreases-otherwise : goal.decreases-otherwise
decreases-otherwise l = 3 * (length l.tokens.now - l.at)

abbrev pub decreases-while_stmt : goal.decreases-while_stmt
decreases-while_stmt l = 3 * (length l.tokens.now - l.at)

abbrev pub decreases-focus : goal.decreases-focus
decreases-focus l = 3 * (length l.tokens.now - l.at)

abbrev pub decreases-switch : goal.decreases-switch
decreases-switch l = 3 * (length l.tokens.now - l.at)

abbrev pub decreases-arms : goal.decreases-arms
decreases-arms l = 3 * (length l.tokens.now - l.at) + 1

abbrev pub decreases-arm : goal.decreases-arm
decreases-arm l = 3 * (length l.tokens.now - l.at)

abbrev pub invariant-block-loop-end : goal.invariant-block-loop-end
invariant-block-loop-end l = record {
  spelled : tokens_from l.tokens l.inside ≡ stmts_then (stmts_of l.stmts) (tokens_from l.tokens l.here);
  stands : Stands stmts_at l.tokens l.inside (stmts_of l.stmts) l.here;
  right : AreStmts language (l.room - 1) (stmts_of l.stmts);
  later : l.inside ≤ l.here;
  place : (s : List Symbol) → run (m.stmts (l.room - 1) ∷ s) (lexemes_from l.tokens l.inside) ≡ run (m.stmts (l.room - 1) ∷ s) (lexemes_from l.tokens l.here);
}

abbrev pub decreases-block-loop-end : goal.decreases-block-loop-end
decreases-block-loop-end l = length l.tokens - l.here

abbrev pub invariant-arms-loop-arms : goal.invariant-arms-loop-arms
invariant-arms-loop-arms l = record {
  spelled : tokens_from l.tokens l.at ≡ arms_then (arms_of l.arms) (tokens_from l.tokens l.here);
  stands : Stands arms_at l.tokens l.at (arms_of l.arms) l.here;
  right : AreArms language l.room (arms_of l.arms);
  later : l.at ≤ l.here;
  place : (s : List Symbol) → run (m.arm l.room ∷ m.arms l.room ∷ s) (lexemes_from l.tokens l.at) ≡ run (m.arm l.room ∷ m.arms l.room ∷ s) (lexemes_from l.tokens l.here);
}

abbrev pub decreases-arms-loop-arms : goal.decreases-arms-loop-arms
decreases-arms-loop-arms l = length l.tokens - l.here
