-- The pieces of a program, laid out part by part.
use Rattle.std.proofs.Common.{◌≡◌, List, [], ◌∷◌, ◌++◌, map, refl, sym, ap, ◌∙◌}
use Rattle.std.proofs.lemmas.Grind.{flat_map-append}
use Rattle.std.specs.List.{flat_map}
use Rattle.c_syntax.specs.C as c
use Rattle.c_syntax.specs.View.{func_of}
use Rattle.c_syntax.specs.declared.program.CFunc.{CFunc}
use Rattle.c_match.specs.Pieces.{Piece, func_pieces, head_of, heads_of, program_pieces}
use Rattle.c_match.specs.Seen.{heads_seen}

pub heads_are : (fs : List CFunc) → heads_seen fs ≡ map head_of (map func_of fs)
heads_are [] = refl
heads_are (f ∷ fs) = ap (λ l. head_of (func_of f) ∷ l) (heads_are fs)

pub whole_laid : (x : c.Program) (first second all : List Piece) → first ≡ heads_of x ∷ [] → second ≡ first ++ flat_map func_pieces x.glue → all ≡ second ++ flat_map func_pieces x.fns → all ≡ program_pieces x
whole_laid x first second all h1 h2 h3 =
    h3 ∙ ap (λ l. l ++ flat_map func_pieces x.fns) (h2 ∙ ap (λ l. l ++ flat_map func_pieces x.glue) h1)
    ∙ ap (λ l. heads_of x ∷ l) (sym (flat_map-append func_pieces x.glue x.fns))
