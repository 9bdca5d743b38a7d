-- The plain pieces that pieces of the code stand for; private contracts alone cite this.
use Rattle.std.specs.Prelude.{◌≡◌, ◌<◌, ℕ, List, map, slice_get}
use Rattle.c_syntax.specs.View.{expr_of, func_of, stmt_of}
use Rattle.c_syntax.specs.declared.program.CFunc.{CFunc}
use Rattle.c_match.specs.Pieces as p
use Rattle.c_match.specs.Pieces.{Head, head_of}
use Rattle.c_match.specs.declared.pieces.Piece.{Piece}
use Rattle.c_match.specs.declared.pieces.Piece.TheVariants as piece

abbrev pub heads_seen : List CFunc → List Head
heads_seen = map (λ f. head_of (func_of f))

abbrev pub piece_seen : Piece → p.Piece
piece_seen (piece.Heads main glue fns) = p.heads main (heads_seen glue.now) (heads_seen fns.now)
piece_seen (piece.Variables vs) = p.variables vs.now
piece_seen (piece.Plain x) = p.plain (stmt_of x.now)
piece_seen (piece.If e) = p.begins_if (expr_of e.now)
piece_seen piece.Else = p.begins_else
piece_seen piece.Loop = p.begins_loop
piece_seen piece.End = p.ends

-- Two lists are the same before this place, and not at it.
pub record PartAt (xs ys : List p.Piece) (k : ℕ) : Type 0 where
  pub before : (j : ℕ) → j < k → slice_get xs j ≡ slice_get ys j
  pub here : slice_get xs k ≡ slice_get ys k → ⊥
