-- The numbers of the statements that are left, the names that they call, and a measure that falls with each move.
use Rattle.std.specs.Prelude.{◌≤◌, ◌<◌, ℕ, suc, ◌+◌, ◌*◌, max, List, [], ◌∷◌, length}
use Rattle.c_syntax.specs.declared.program.CPrim.TheVariants as prim
use Rattle.c_syntax.specs.C as c
use Rattle.c_syntax.specs.C.{Arg, Call, Stmt, Stmts, Func, Program}
use Rattle.c_meaning.specs.Run.{count_in}
use Rattle.c_machine.specs.Machine.{Task, list, again, back, bottom, Next, goes, stops}
use Rattle.c_meaning.specs.Widths.{most}

-- ---- the names of externals

abbrev pub length_of_name : List Arg → ℕ
length_of_name (c.text s ∷ []) = length s
length_of_name _ = 0

abbrev pub name_in_call : Call → ℕ
name_in_call (c.primitive prim.Call xs) = length_of_name xs
name_in_call _ = 0

abbrev mutual
  pub name_in_stmt : Stmt → ℕ
  name_in_stmt (c.set_call v f) = name_in_call f
  name_in_stmt (c.call f) = name_in_call f
  name_in_stmt (c.when e xs) = name_in xs
  name_in_stmt (c.choose e xs ys) = max (name_in xs) (name_in ys)
  name_in_stmt (c.loop xs) = name_in xs
  name_in_stmt _ = 0

  pub name_in : Stmts → ℕ
  name_in c.done = 0
  name_in (c.next x xs) = max (name_in_stmt x) (name_in xs)

abbrev pub name_of : Func → ℕ
name_of f = name_in f.body

-- the length of the longest name
abbrev pub longest_name : Program → ℕ
longest_name p = max (most name_of p.glue) (most name_of p.fns)

-- ---- what always holds of the tasks

-- no number is past the count of all statements, and no name is longer than this
abbrev pub AreWithin : (count name : ℕ) → List Task → Type 0
AreWithin count name [] = Unit {0}
AreWithin count name (list n ss ∷ ts) = (n + count_in ss ≤ count) × (name_in ss ≤ name) × AreWithin count name ts
AreWithin count name (again n b ∷ ts) = (suc n + count_in b ≤ count) × (name_in b ≤ name) × AreWithin count name ts
AreWithin count name (back k ∷ ts) = (k.n ≤ count) × AreWithin count name ts
AreWithin count name (bottom g ∷ ts) = AreWithin count name ts

-- ---- a measure

abbrev pub weight : List Task → ℕ
weight [] = 0
weight (list n ss ∷ ts) = 2 * count_in ss + 1 + weight ts
weight (again n b ∷ ts) = 1 + weight ts
weight (back k ∷ ts) = 1 + weight ts
weight (bottom g ∷ ts) = 1 + weight ts

-- no body weighs as much as a unit of fuel
abbrev pub measure : (count fuel : ℕ) → List Task → ℕ
measure count fuel ts = fuel * (2 * count + 3) + weight ts

-- a move leads to tasks within, and to less
abbrev pub FallsTo : (count name above : ℕ) → Next → Type 0
FallsTo count name above (goes m) =
    AreWithin count name m.tasks × (measure count m.state.world.fuel m.tasks < above)
FallsTo count name above (stops o w) = Unit {0}
