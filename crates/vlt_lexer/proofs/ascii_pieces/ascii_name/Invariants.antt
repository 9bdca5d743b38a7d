use Rattle.std.proofs.Common.{length, ◌-◌, ◌≡◌, ◌≤◌, ◌++◌, take, drop}
use Rattle.vlt_lexer.specs.AsciiPieces.{is_ascii_more, key_after, key_of}
use Rattle.vlt_lexer.specs.Steps.{run, past_run}
use Rattle.vlt_lexer.proofs.ascii_pieces.ascii_name.Given as goal

abbrev pub invariant-loop-i : goal.invariant-loop-i
invariant-loop-i l = record {
  within : l.i ≤ length l.bytes;
  front : take l.i l.bytes ++ run is_ascii_more (drop l.i l.bytes) ≡ run is_ascii_more l.bytes;
  rest : past_run is_ascii_more (drop l.i l.bytes) ≡ past_run is_ascii_more l.bytes;
  key : key_after l.key (run is_ascii_more (drop l.i l.bytes)) ≡ key_of (run is_ascii_more l.bytes);
}

abbrev pub decreases-loop-i : goal.decreases-loop-i
decreases-loop-i l = length l.bytes - l.i
