use Rattle.std.proofs.Common.{◌≤◌, List, ◌++◌, length}
use Rattle.c_syntax.specs.Text.{Lexeme}
use Rattle.c_lexer.specs.View.{lexemes_of}
use Rattle.c_lexer.specs.Steps.{AreOthers}
use Rattle.c_lexer.proofs.Lexing.{AreNext}
use Rattle.c_lexer.proofs.scan.others.Given as goal

abbrev pub decreases-loop-token : goal.decreases-loop-token
decreases-loop-token l = length l.rest

abbrev pub invariant-loop-token : goal.invariant-loop-token
invariant-loop-token l = record {
  within : length l.rest ≤ length l.fn.text;
  are : (ls : List Lexeme) → AreNext (length l.fn.text) l.rest ls → AreOthers (length l.fn.text) l.fn.left (lexemes_of l.initial.lexemes.items) (lexemes_of l.lexemes.items ++ ls);
}
