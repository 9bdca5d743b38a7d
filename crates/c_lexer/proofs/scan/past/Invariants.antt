use Rattle.std.proofs.Common.{◌≡◌, ◌≤◌, length}
use Rattle.c_syntax.specs.Text.{past_run}
use Rattle.c_lexer.specs.Steps.{is_in}
use Rattle.c_lexer.proofs.scan.past.Given as goal

abbrev pub decreases-loop-byte : goal.decreases-loop-byte
decreases-loop-byte l = length l.rest

abbrev pub invariant-loop-byte : goal.invariant-loop-byte
invariant-loop-byte l = record {
  same : past_run (is_in l.class) l.rest ≡ past_run (is_in l.class) l.fn.text;
  no_longer : length l.rest ≤ length l.fn.text;
}
