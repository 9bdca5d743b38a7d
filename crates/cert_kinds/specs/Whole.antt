-- The rows of declarations that are numbered.
use Rattle.std.specs.Prelude.{ℕ, List}
use Rattle.std.specs.List.{flat_map, enumerate_from}
use Rattle.vlt_core.specs.Core.{TypeDecl, Func, Program}
use Rattle.vlt_core.specs.KindedHeads.{Rules, type_rows}
use Rattle.vlt_core.specs.Kinded.{function_rows}

-- those of a type of this number, and of types, from the number on
abbrev pub numbered_type_rows : Program → ℕ × TypeDecl → List Rules
numbered_type_rows p q = type_rows p q.0 q.1

abbrev pub types_rows_from : Program → (number : ℕ) → List TypeDecl → List Rules
types_rows_from p n ds = flat_map (numbered_type_rows p) (enumerate_from n ds)

abbrev pub types_rows : Program → List TypeDecl → List Rules
types_rows p ds = types_rows_from p 0 ds

-- those of functions, from the number on
abbrev pub functions_rows_from : Program → (number : ℕ) → List Func → List Rules
functions_rows_from p n fs = flat_map (function_rows p) (enumerate_from n fs)

abbrev pub functions_rows : Program → List Func → List Rules
functions_rows p fs = functions_rows_from p 0 fs
