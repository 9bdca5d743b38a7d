-- A C program in pieces, in the order of its text.
use Rattle.std.specs.Prelude.{ℕ, List, [], ◌∷◌, ◌++◌, map}
use Rattle.std.specs.List.{flat_map}
use Rattle.c_syntax.specs.declared.program.CVar.{CVar}
use Rattle.c_syntax.specs.declared.program.CResult.{CResult}
use Rattle.c_syntax.specs.C as c

-- what is said of a function before any body
pub record Head : Type 0 where
  pub number : ℕ
  pub result : CResult
  pub params : List CVar

pub data Piece : Type 0 where
  -- the function that a run begins with, and the heads of all functions
  heads : (main : ℕ) → (glue fns : List Head) → Piece
  -- the variables that a function declares
  variables : List CVar → Piece
  -- a statement without blocks
  plain : c.Stmt → Piece
  -- what comes before a block: `if ( e ) {`, `else {` and `while ( 1 ) {`
  begins_if : c.Expr → Piece
  begins_else : Piece
  begins_loop : Piece
  -- the brace that closes a block or a function
  ends : Piece

abbrev mutual
  pub stmt_pieces : c.Stmt → List Piece
  stmt_pieces (c.when e xs) = begins_if e ∷ list_pieces xs ++ ends ∷ []
  stmt_pieces (c.choose e xs ys) =
      begins_if e ∷ list_pieces xs ++ ends ∷ begins_else ∷ list_pieces ys ++ ends ∷ []
  stmt_pieces (c.loop xs) = begins_loop ∷ list_pieces xs ++ ends ∷ []
  stmt_pieces x = plain x ∷ []

  pub list_pieces : c.Stmts → List Piece
  list_pieces c.done = []
  list_pieces (c.next x xs) = stmt_pieces x ++ list_pieces xs

abbrev pub func_pieces : c.Func → List Piece
func_pieces f = variables f.vars ∷ list_pieces f.body ++ ends ∷ []

abbrev pub head_of : c.Func → Head
head_of f = record { number = f.number; result = f.result; params = f.params }

abbrev pub heads_of : c.Program → Piece
heads_of x = heads x.main (map head_of x.glue) (map head_of x.fns)

abbrev pub program_pieces : c.Program → List Piece
program_pieces x = heads_of x ∷ flat_map func_pieces (x.glue ++ x.fns)
