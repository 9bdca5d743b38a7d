use Rattle.std.proofs.Common.{◌≡◌, ◌≤◌, length}
use Rattle.std.specs.Str.{chars, IsUtf8}
use Rattle.vlt_lexer.specs.Steps.{is_in, past_run}
use Rattle.vlt_lexer.proofs.scan.past.Given as goal

abbrev pub decreases-loop-c : goal.decreases-loop-c
decreases-loop-c l = length l.rest

abbrev pub invariant-loop-c : goal.invariant-loop-c
invariant-loop-c l = record {
  utf8 : IsUtf8 l.rest;
  no_longer : length l.rest ≤ length l.fn.text;
  same : past_run (is_in l.class) (chars l.rest) ≡ past_run (is_in l.class) (chars l.fn.text);
}
