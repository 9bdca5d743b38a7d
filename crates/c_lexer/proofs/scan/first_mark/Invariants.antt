use Rattle.std.proofs.Common.{◌≡◌, drop, map}
use Rattle.c_syntax.specs.Text.{first_beginning, Piece}
use Rattle.c_lexer.specs.Steps.{mark_token}
use Rattle.c_lexer.proofs.scan.first_mark.Given as goal

abbrev pub invariant-loop-mark : goal.invariant-loop-mark
invariant-loop-mark l = (other : Piece) → first_beginning (map mark_token (drop l.mark-index l.marks)) l.text other ≡ first_beginning (map mark_token l.marks) l.text other
