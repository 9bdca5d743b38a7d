use Rattle.std.proofs.Common.{◌≤◌, List, ◌++◌, length, drop, map}
use Rattle.c_syntax.specs.Text.{Lexeme, AreFirst, IsTokensOf}
use Rattle.c_lexer.specs.declared.scan.TheConstants.First as first
use Rattle.c_lexer.specs.View.{lexemes_of}
use Rattle.c_lexer.specs.Steps.{first_piece}
use Rattle.c_lexer.proofs.lex.Given as goal

abbrev pub invariant-loop-first : goal.invariant-loop-first
invariant-loop-first l = record {
  within : length l.left ≤ length l.text;
  are : (ls : List Lexeme) → AreFirst (map first_piece (drop l.first-index first.LINES)) (length l.text) l.left ls → IsTokensOf l.text (lexemes_of l.lexemes.items ++ ls);
}
