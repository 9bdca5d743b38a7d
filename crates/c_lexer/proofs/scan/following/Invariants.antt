use Rattle.std.proofs.Common.{◌≡◌, ◌≤◌, ◌+◌, length, drop}
use Rattle.c_syntax.specs.Text.{following}
use Rattle.c_lexer.proofs.scan.following.Given as goal

abbrev pub invariant-loop-expected : goal.invariant-loop-expected
invariant-loop-expected l = record {
  same : following (drop l.expected-index l.fn.prefix) l.rest ≡ following l.fn.prefix l.fn.text;
  taken : length l.rest + l.expected-index ≤ length l.fn.text;
}
