-- How many tasks a run can have left at a time.
use Rattle.std.specs.Prelude.{◌≡◌, ◌≤◌, ℕ, ◌+◌, ◌*◌, max, List, [], ◌∷◌, length}
use Rattle.vlt_core.specs.Core.{Form, choose, loop, switch, focus, scope, Block, block, Stmts, done, next, Arms, no_arms, arm, Func, Program}
use Rattle.vlt_meaning.specs.Step.{Step, goes, jumps, leaves, ends}
use Rattle.vlt_meaning.specs.Run.{Setup}
use Rattle.vlt_meaning_laws.specs.Machine.Machine.{Task, list, turn, back, Conf, after_move}

-- ---- the tasks that statements need, those that are left after them included

abbrev mutual
  pub need : Stmts → ℕ
  need done = 1
  need (next place form rest) = max (inner form) (need rest)

  -- beside what is left of the list that it stands in
  pub inner : Form → ℕ
  inner (choose e a b) = max (need_block a) (need_block b) + 1
  inner (loop e b) = need_block b + 2
  inner (switch v arms end) = need_arms arms + 1
  inner (focus y z b) = need_block b + 2
  inner (scope b) = need_block b + 1
  inner _ = 1

  pub need_block : Block → ℕ
  need_block (block ss bound end) = need ss + 1

  pub need_arms : Arms → ℕ
  need_arms no_arms = 0
  need_arms (arm c vs b rest) = max (need_block b) (need_arms rest)

abbrev pub need_of : Func → ℕ
need_of f = need f.body

-- the most of all functions
abbrev pub most : (Func → ℕ) → List Func → ℕ
most f [] = 0
most f (x ∷ xs) = max (f x) (most f xs)

abbrev pub tall_of : Program → ℕ
tall_of p = most need_of p.fns

-- ---- what always fits

-- the most that the stack comes to while the tasks are done, calls aside
abbrev pub reach : List Task → ℕ
reach [] = 0
reach (list ss ∷ ts) = max (length ts + need ss) (reach ts)
reach (turn e b ∷ ts) = max (length ts + (need_block b + 1)) (reach ts)
reach (t ∷ ts) = max (length ts + 1) (reach ts)

-- how many functions are under way
abbrev pub frames : List Task → ℕ
frames [] = 1
frames (back k ∷ ts) = frames ts + 1
frames (t ∷ ts) = frames ts

-- where a step goes on, it is at the depth
abbrev pub IsAt : ℕ → Step → Type 0
IsAt d (goes frame w) = frame.depth ≡ d
IsAt d (jumps c frame w) = frame.depth ≡ d
IsAt d (leaves a kept w) = Unit {0}
IsAt d (ends o w) = Unit {0}

-- each caller's frame is as deep as there are functions under way below, and what is below it fits
abbrev pub CallersFit : (tall : ℕ) → List Task → Type 0
CallersFit tall [] = Unit {0}
CallersFit tall (back k ∷ ts) =
    (k.frame.depth ≡ frames ts) × (reach ts ≤ frames ts * (tall + 1)) × CallersFit tall ts
CallersFit tall (t ∷ ts) = CallersFit tall ts

pub record Fits (r : Setup) (c : Conf) : Type 0 where
  pub reach : reach c.tasks ≤ frames c.tasks * (tall_of r.program + 1)
  pub within : frames c.tasks ≤ r.depth
  pub step : IsAt (frames c.tasks) c.step
  pub callers : CallersFit (tall_of r.program) c.tasks

-- where it fits, the stack is no higher than this, and it fits after each move
pub record Suffices (r : Setup) (c : Conf) : Type 0 where
  pub tasks : length c.tasks ≤ r.depth * (tall_of r.program + 1)
  pub next : Fits r (after_move r c)
