use Rattle.std.proofs.Common.{◌≡◌, ◌≤◌, drop}
use Rattle.c_syntax.specs.Text.{digits_after, max_number}
use Rattle.c_lexer.proofs.scan.digits.Given as goal

abbrev pub invariant-loop-byte : goal.invariant-loop-byte
invariant-loop-byte l = record {
  same : digits_after l.n (drop l.byte-index l.run) ≡ digits_after 0 l.run;
  small : l.n ≤ max_number;
}
