use Rattle.std.proofs.Common.{◌≡◌, ◌≤◌, length}
use Rattle.std.specs.Str.{chars, IsUtf8}
use Rattle.vlt_tokens.specs.Characters.{after_line}
use Rattle.vlt_lexer.proofs.scan.past_line.Given as goal

abbrev pub decreases-loop-c : goal.decreases-loop-c
decreases-loop-c l = length l.rest

abbrev pub invariant-loop-c : goal.invariant-loop-c
invariant-loop-c l = record {
  utf8 : IsUtf8 l.rest;
  no_longer : length l.rest ≤ length l.fn.text;
  same : after_line (chars l.rest) ≡ after_line (chars l.fn.text);
}
