-- What is proved of sizes.
use Rattle.std.specs.Prelude.{◌≡◌, List, length}
use Rattle.c_syntax.specs.C.{Stmt, Program}
use Rattle.c_syntax.specs.View.{stmts_made}
use Rattle.c_syntax.specs.Canonical.{canonical_text}
use Rattle.c_reader_laws.specs.PrinterLaws.Sizes.{stmts_size, list_size, program_size}

-- a program's size, which is a sum over its tree, is the length of its canonical text
abbrev pub SizesAreLengths : Type 0
SizesAreLengths = (p : Program) → length (canonical_text p) ≡ program_size p

-- statements take what each of them takes, whether they are a block's or a list
abbrev pub ListsAreSums : Type 0
ListsAreSums = (xs : List Stmt) → stmts_size (stmts_made xs) ≡ list_size xs
