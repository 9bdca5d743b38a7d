use Rattle.std.proofs.Common.{◌≡◌, ◌++◌, drop, map, flat_map}
use Rattle.c_syntax.specs.View.{func_of}
use Rattle.c_match.specs.Pieces.{func_pieces}
use Rattle.c_match.specs.Seen.{piece_seen}
use Rattle.c_match.proofs.pieces.add_funcs.Given as goal

-- what was added, and then the pieces that are left, is the whole
abbrev pub invariant-loop-func : goal.invariant-loop-func
invariant-loop-func l =
    map piece_seen l.out ++ flat_map func_pieces (map func_of (drop l.func-index l.funcs)) ≡ map piece_seen l.initial.out ++ flat_map func_pieces (map func_of l.funcs)
