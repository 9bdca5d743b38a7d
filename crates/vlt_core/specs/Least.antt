-- Annotations as lists of notes, and the least one.
use Rattle.std.specs.Prelude.{◌≡◌, ℕ, ◌+◌, ◌==◌, if◌then◌else◌, ◌||◌, List, [], ◌∷◌, ◌++◌, map, take}
use Rattle.std.specs.List.{sum_by}
use Rattle.vlt_core.specs.Core.{Func, Program}
use Rattle.vlt_core.specs.Maps.{HeldMap, absent, IsBelow}
use Rattle.vlt_core.specs.Flow.{Flow, choose, loop, switch, scope, focus, Block, block, Stmts, done, next, Arms, no_arms, arm, size, size_block, passes_block, passes_arms}
use Rattle.vlt_core.specs.Bodies.{body_flow}
use Rattle.vlt_core.specs.Local.{Notes, IsLocalIn}

-- the maps at the head of the loop of this number and after it, or the map after the choice of this number
pub data Note : Type 0 where
  at_loop : ℕ → (around exit : HeldMap) → Note
  at_join : ℕ → HeldMap → Note

-- which statement a note is of: a loop, or a choice
pub data Noted : Type 0 where
  a_loop : ℕ → Noted
  a_join : ℕ → Noted

abbrev pub noted_by : Note → Noted
noted_by (at_loop n around exit) = a_loop n
noted_by (at_join n m) = a_join n

-- The statements that have a note, in order: each loop, and each choice that can be passed.
abbrev mutual
  pub noted : ℕ → Flow → List Noted
  noted n (choose rs s t) =
      (if passes_block s || passes_block t then a_join n ∷ [] else []) ++
      noted_block (n + 1) s ++ noted_block (n + 1 + size_block s) t
  noted n (loop rs s) = a_loop n ∷ noted_block (n + 1) s
  noted n (switch rs arms end) = (if passes_arms arms then a_join n ∷ [] else []) ++ noted_arms (n + 1) arms
  noted n (scope s) = noted_block (n + 1) s
  noted n (focus rs s es) = noted_block (n + 1) s
  noted n _ = []

  pub noted_block : ℕ → Block → List Noted
  noted_block n (block ss bound end) = noted_stmts n ss

  pub noted_stmts : ℕ → Stmts → List Noted
  noted_stmts n done = []
  noted_stmts n (next at s rest) = noted n s ++ noted_stmts (n + size s) rest

  pub noted_arms : ℕ → Arms → List Noted
  noted_arms n no_arms = []
  noted_arms n (arm rs s rest) = noted_block n s ++ noted_arms (n + size_block s) rest

abbrev pub nothing_held : HeldMap
nothing_held t = absent

abbrev pub around_in : List Note → ℕ → HeldMap
around_in [] n = nothing_held
around_in (at_loop m around exit ∷ notes) n = if m == n then around else around_in notes n
around_in (at_join m k ∷ notes) n = around_in notes n

abbrev pub after_in : List Note → ℕ → HeldMap
after_in [] n = nothing_held
after_in (at_loop m around exit ∷ notes) n = if m == n then exit else after_in notes n
after_in (at_join m k ∷ notes) n = if m == n then k else after_in notes n

abbrev pub notes_in : List Note → Notes
notes_in notes = record { around = around_in notes; following = after_in notes }

-- the note's maps lie below those of the annotation
abbrev pub LiesBelow : Notes → Note → Type 0
LiesBelow a (at_loop n around exit) = IsBelow around (a.around n) × IsBelow exit (a.following n)
LiesBelow a (at_join n m) = IsBelow m (a.following n)

abbrev pub LieBelow : Notes → List Note → Type 0
LieBelow a [] = Unit {0}
LieBelow a (x ∷ xs) = LiesBelow a x × LieBelow a xs

-- Notes of the statements that have one, which hold in the body and lie below each annotation that does.
pub record IsLeast (p : Program) (f : Func) (notes : List Note) : Type 0 where
  pub complete : map noted_by notes ≡ noted_block 0 (body_flow p f)
  pub local : IsLocalIn p f (notes_in notes)
  pub least : (a : Notes) → IsLocalIn p f a → LieBelow a notes

-- the number of the first statement of a function, when all statements of a program are counted
abbrev pub first_number : Program → (g : ℕ) → ℕ
first_number p g = sum_by (λ f. size_block (body_flow p f)) (take g p.fns)
