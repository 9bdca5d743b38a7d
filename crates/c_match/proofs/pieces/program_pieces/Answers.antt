use Rattle.std.proofs.Common.{◌≡◌, List, [], ◌∷◌, ◌++◌, map, ap, ap₂, ◌∙◌}
use Rattle.c_syntax.specs.C as plain
use Rattle.c_syntax.specs.View.{func_of}
use Rattle.c_match.specs.Pieces.{heads, heads_of}
use Rattle.c_match.specs.Seen.{piece_seen}
use Rattle.c_match.specs.declared.pieces.Piece.{Piece}
use Rattle.c_match.specs.declared.pieces.Piece.TheVariants as piece
use Rattle.c_match.proofs.Laying.{heads_are, whole_laid}
use Rattle.c_match.proofs.pieces.program_pieces.Goals as goal

pub returns : goal.returns
returns c =
    let main = c.args.main in
    let glue = c.args.glue.now in
    let fns = c.args.fns.now in
    let x : plain.Program = record { glue = map func_of glue; fns = map func_of fns; main = main } in
    let first : map piece_seen c.push.new.self ≡ heads_of x ∷ [] =
    ap (map piece_seen) (c.in_ok-push.ensures.ok ∙ ap (λ (l : List Piece). l ++ piece.Heads main c.args.glue c.args.fns ∷ []) c.new-out.ensures) ∙ ap₂ (λ a b. heads main a b ∷ []) (heads_are glue) (heads_are fns) in
    whole_laid x (map piece_seen c.push.new.self) (map piece_seen c.add_funcs.new.out) (map piece_seen c.add_funcs-2.new.out) first c.in_ok-add_funcs.ensures c.in_ok-add_funcs-2.ensures
