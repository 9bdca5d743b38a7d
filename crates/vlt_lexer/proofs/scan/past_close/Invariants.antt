use Rattle.std.proofs.Common.{◌≡◌, ◌≤◌, length}
use Rattle.std.specs.Str.{chars, IsUtf8}
use Rattle.vlt_tokens.specs.Characters.{after_close}
use Rattle.vlt_lexer.proofs.scan.past_close.Given as goal

abbrev pub decreases-loop-after : goal.decreases-loop-after
decreases-loop-after l = length l.rest

abbrev pub invariant-loop-after : goal.invariant-loop-after
invariant-loop-after l = record {
  utf8 : IsUtf8 l.rest;
  no_longer : length l.rest ≤ length l.fn.text;
  same : after_close (chars l.rest) ≡ after_close (chars l.fn.text);
}
