-- How many statements a list has.
use Rattle.std.proofs.Common.{◌≡◌, suc, refl, ap, List, [], ◌∷◌, length}
use Rattle.vlt_core.specs.View.{stmts_of}
use Rattle.vlt_core.specs.declared.program.Stmt.{Stmt}
use Rattle.cert_format.specs.Bodies.{length_of}

pub count_made : (ss : List Stmt) → length_of (stmts_of ss) ≡ length ss
count_made [] = refl
count_made (s ∷ ss) = ap suc (count_made ss)
