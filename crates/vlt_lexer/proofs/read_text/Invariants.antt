use Rattle.std.proofs.Common.{◌≤◌, length}
use Rattle.std.specs.Str.{chars, IsUtf8}
use Rattle.vlt_base.specs.Limits.{limit_of}
use Rattle.vlt_lexer.proofs.Tokens.{Found}
use Rattle.vlt_lexer.proofs.read_text.Given as goal

abbrev pub invariant-loop-found : goal.invariant-loop-found
invariant-loop-found l = record {
  utf8 : IsUtf8 l.left;
  within : length l.left ≤ length l.fn.text;
  few : length l.found.items ≤ limit_of 3;
  read : Found (length l.fn.text) (chars l.fn.text) l.found.items (chars l.left);
}

abbrev pub decreases-loop-found : goal.decreases-loop-found
decreases-loop-found l = length l.left
