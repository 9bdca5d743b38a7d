use Rattle.std.proofs.Common.{◌≤◌, length}
use Rattle.c_lexer.proofs.Lexing.{Cuts}
use Rattle.c_lexer.proofs.scan.before_mark.Given as goal

abbrev pub decreases-loop-after : goal.decreases-loop-after
decreases-loop-after l = length l.rest

abbrev pub invariant-loop-after : goal.invariant-loop-after
invariant-loop-after l = record {
  no_longer : length l.rest ≤ length l.fn.text;
  cuts : Cuts l.fn.text l.rest;
}
