use Rattle.std.proofs.Common.{◌≡◌, ◌++◌, drop, map}
use Rattle.c_syntax.specs.View.{stmts_of}
use Rattle.c_match.specs.Pieces.{list_pieces}
use Rattle.c_match.specs.Seen.{piece_seen}
use Rattle.c_match.proofs.pieces.+laying.Given as goal

-- what was added, and then the pieces that are left, is the whole
abbrev pub invariant-add_stmts-loop-stmt : goal.invariant-add_stmts-loop-stmt
invariant-add_stmts-loop-stmt l =
    map piece_seen l.out ++ list_pieces (stmts_of (drop l.stmt-index l.stmts)) ≡ map piece_seen l.initial.out ++ list_pieces (stmts_of l.stmts)
