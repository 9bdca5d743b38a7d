use Rattle.std.proofs.Common.{ℕ, List, ◌≤◌, ◌-◌, length, drop}
use Rattle.std.specs.Str.{chars, IsUtf8}
use Rattle.vlt_tokens.specs.Lexemes.{Lexeme}
use Rattle.vlt_lexer.specs.Reading.{Reads}
use Rattle.vlt_lexer.proofs.ascii_pieces.past_blanks.Given as goal

abbrev pub invariant-loop-i : goal.invariant-loop-i
invariant-loop-i l = record {
  within : l.i ≤ length l.bytes;
  utf8 : IsUtf8 (drop l.i l.bytes);
  reads : (total : ℕ) (ls : List Lexeme) (last : List ℕ) → Reads total (chars (drop l.i l.bytes)) ls last → Reads total (chars l.bytes) ls last;
}

abbrev pub decreases-loop-i : goal.decreases-loop-i
decreases-loop-i l = length l.bytes - l.i
