-- What holds in a loop over operands.
use Rattle.std.specs.Prelude.{◌≡◌, List, ◌++◌}
use Rattle.c_syntax.specs.C.{Stmt}
use Rattle.c_lower.specs.Expressions.{Atom, Codes}

-- what was written, and then the code that is left, is the whole
pub record GoesOn (rest whole : Codes) (old now : List Stmt) (made : List (List Atom)) : Type 0 where
  pub stmts : now ++ rest.stmts ≡ old ++ whole.stmts
  pub atoms : made ++ rest.atoms ≡ whole.atoms
  pub next : rest.next ≡ whole.next
