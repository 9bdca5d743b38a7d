-- How many tasks a run can need, and what always fits.
use Rattle.std.specs.Prelude.{◌≤◌, ℕ, ◌+◌, ◌*◌, max, Bool, true, false, List, [], ◌∷◌, length}
use Rattle.c_syntax.specs.C as c
use Rattle.c_syntax.specs.C.{Stmt, Stmts, Func, Program}
use Rattle.c_meaning.specs.Widths.{cells_in, most, width_of, block_cells}
use Rattle.c_machine.specs.Machine.{Task, list, again, back, bottom, State, Next, goes, stops, depth_out}

-- ---- the tasks that statements need, those that are left after them included

abbrev mutual
  pub need : Stmts → ℕ
  need c.done = 1
  need (c.next x xs) = max (inner x) (need xs)

  pub inner : Stmt → ℕ
  inner (c.when e xs) = need xs + 1
  inner (c.choose e xs ys) = max (need xs) (need ys) + 1
  inner (c.loop xs) = need xs + 2
  inner _ = 1

-- ---- the most of all functions

abbrev pub need_of : Func → ℕ
need_of f = need f.body

abbrev pub tall_of : Program → ℕ
tall_of p = max (most need_of p.glue) (most need_of p.fns)

-- ---- what always fits

-- at most so many names of functions and of glue, tasks of a frame, and cells of a block
pub record Sizes : Type 0 where
  pub width : ℕ
  pub glue_width : ℕ
  pub tall : ℕ
  pub cells : ℕ

abbrev pub sizes_of : Program → Sizes
sizes_of p = record { width = most width_of p.fns; glue_width = most width_of p.glue; tall = tall_of p; cells = block_cells p }

abbrev pub both_widths : Sizes → ℕ
both_widths z = z.width + z.glue_width

abbrev pub width_in : Sizes → (glue : Bool) → ℕ
width_in z true = z.glue_width
width_in z false = z.width

-- a function leaves room for glue
abbrev pub room_in : Sizes → (glue : Bool) → ℕ
room_in z true = z.glue_width
room_in z false = both_widths z

abbrev pub one_unless : Bool → ℕ
one_unless true = 0
one_unless false = 1

-- the most that the stack comes to while the tasks are done, calls aside
abbrev pub reach : List Task → ℕ
reach [] = 0
reach (list n ss ∷ ts) = max (length ts + need ss) (reach ts)
reach (again n b ∷ ts) = max (length ts + (need b + 1)) (reach ts)
reach (back k ∷ ts) = max (length ts + 1) (reach ts)
reach (bottom g ∷ ts) = max (length ts + 1) (reach ts)

abbrev pub frames : List Task → ℕ
frames [] = 0
frames (list n ss ∷ ts) = frames ts
frames (again n b ∷ ts) = frames ts
frames (back k ∷ ts) = frames ts + 1
frames (bottom g ∷ ts) = frames ts + 1

abbrev pub AreSmall : Sizes → List Task → Type 0
AreSmall z [] = Unit {0}
AreSmall z (list n ss ∷ ts) = (cells_in ss ≤ z.cells) × AreSmall z ts
AreSmall z (again n b ∷ ts) = (cells_in b ≤ z.cells) × AreSmall z ts
AreSmall z (back k ∷ ts) = AreSmall z ts
AreSmall z (bottom g ∷ ts) = AreSmall z ts

-- what holds of a frame of which the values begin at `base`, the tasks `ts` being those below it and its own
pub record FrameFits (z : Sizes) (base : ℕ) (glue : Bool) (depth : ℕ) (ts : List Task) : Type 0 where
  pub values : base + room_in z glue ≤ depth * both_widths z
  pub levels : frames ts + one_unless glue ≤ 2 * depth
  pub tasks : reach ts ≤ frames ts * (z.tall + 1)

-- the callers of a frame of which the values begin at `base`
abbrev pub CallersFit : Sizes → (base : ℕ) → (glue : Bool) → (depth : ℕ) → List Task → Type 0
CallersFit z base glue depth [] = Unit {0}
CallersFit z base glue depth (list n ss ∷ ts) = CallersFit z base glue depth ts
CallersFit z base glue depth (again n b ∷ ts) = CallersFit z base glue depth ts
CallersFit z base glue depth (bottom g ∷ ts) = Unit {0}
CallersFit z base glue depth (back k ∷ ts) =
    (k.base ≤ base) × (base ≤ k.base + width_in z k.is_glue)
    × FrameFits z k.base k.is_glue (depth_out glue depth) ts
    × CallersFit z k.base k.is_glue (depth_out glue depth) ts

-- the tables suffice for so many functions at a time
pub record Fits (z : Sizes) (depth : ℕ) (ts : List Task) (s : State) : Type 0 where
  pub frame : FrameFits z s.base s.is_glue s.depth ts
  pub within : s.depth ≤ depth
  pub top : s.base ≤ length s.slots
  pub slots : length s.slots ≤ s.base + width_in z s.is_glue
  pub callers : CallersFit z s.base s.is_glue s.depth ts
  pub small : AreSmall z ts

abbrev pub FitsNext : Sizes → (depth : ℕ) → Next → Type 0
FitsNext z depth (goes m) = Fits z depth m.tasks m.state
FitsNext z depth (stops o w) = Unit {0}
