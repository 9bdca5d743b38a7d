-- The generated program: n functions that each change the same object, and a main that calls them one after another.
use Rattle.std.specs.Prelude.{ℕ, zero, suc, ◌%◌, List, [], ◌++◌, codes}
use Rattle.std.specs.Fmt.{decimal}

-- the function of a number, which adds 1 to the object's field n times
abbrev pub function_line : ℕ → List ℕ
function_line i = codes "void f" ++ decimal i ++ codes "(tracked(K) cell x, int n) [K@a] { int i = 0; while (i < n) { x.v = x.v + 1; i = i + 1; } }\n"

-- its call, with the last digit of its number for n
abbrev pub call_line : ℕ → List ℕ
call_line i = codes "f" ++ decimal i ++ codes "(x, " ++ decimal (i % 10) ++ codes ");\n"

-- the lines of the numbers from 1 to n
abbrev pub lines : (ℕ → List ℕ) → ℕ → List ℕ
lines line zero = []
lines line (suc n) = lines line n ++ line (suc n)

abbrev pub generated_text : ℕ → List ℕ
generated_text n =
    codes "stateset g { a, b }\n" ++
    codes "struct cell @ g { int v; release a; }\n" ++
    lines function_line n ++
    codes "void main() { tracked(K) cell x = new cell { v: 0 };\n" ++
    lines call_line n ++
    codes "print(x.v); release x; }\n"
