-- Annotations: a map for each loop's head, and one after each loop and each choice; and whether they hold everywhere.
use Rattle.std.specs.Prelude.{ℕ, ◌+◌, Bool, true, false, ◌||◌, List, map, Option, Some, None}
use Rattle.vlt_core.specs.Core.{Func, Program}
use Rattle.vlt_core.specs.Maps.{HeldMap, Row, CanPass, map_after, IsBelow, away_row}
use Rattle.vlt_core.specs.Flow.{Flow, step, choose, loop, switch, scope, focus, return, jump, Block, block, Stmts, done, next, Arms, no_arms, arm, size, size_block, passes_block, passes_arms}
use Rattle.vlt_core.specs.Bodies.{body_flow}
use Rattle.vlt_core.specs.Derives.{start_map}

-- By a statement's number: the map at the head of a loop, and the map after a loop or after a choice that can be
-- passed.
pub record Notes : Type 0 where
  pub around : ℕ → HeldMap
  pub following : ℕ → HeldMap

abbrev pub Then : Option HeldMap → (HeldMap → Option HeldMap) → Option HeldMap
Then None go = None
Then (Some m) go = go m

-- the fact holds of the map, if there is one
abbrev pub When : Option HeldMap → (HeldMap → Type 0) → Type 0
When None P = Unit {0}
When (Some m) P = P m

abbrev pub only_if : Bool → HeldMap → Option HeldMap
only_if true m = Some m
only_if false m = None

abbrev pub rows_passed : List Row → Option HeldMap → Option HeldMap
rows_passed rs None = None
rows_passed rs (Some m) = Some (map_after rs m)

-- the map that a statement leads to, if it can be passed
abbrev mutual
  pub leads : Notes → ℕ → HeldMap → Flow → Option HeldMap
  leads a n h (step rs) = Some (map_after rs h)
  leads a n h (choose rs s t) = only_if (passes_block s || passes_block t) (a.following n)
  leads a n h (loop rs s) = Some (a.following n)
  leads a n h (switch rs arms end) = only_if (passes_arms arms) (a.following n)
  leads a n h (scope s) = leads_block a (n + 1) h s
  leads a n h (focus rs s es) = rows_passed es (leads_block a (n + 1) (map_after rs h) s)
  leads a n h (return rs) = None
  leads a n h (jump continues left) = None

  pub leads_block : Notes → ℕ → HeldMap → Block → Option HeldMap
  leads_block a n h (block ss bound end) = rows_passed (map away_row bound) (leads_stmts a n h ss)

  pub leads_stmts : Notes → ℕ → HeldMap → Stmts → Option HeldMap
  leads_stmts a n h done = Some h
  leads_stmts a n h (next at s rest) = Then (leads a n h s) (λ m. leads_stmts a (n + size s) m rest)

-- A map that comes to a jump lies below the map at the head of the loop around, or the one after it.
abbrev pub Meets : Notes → Option ℕ → (continues : Bool) → HeldMap → Type 0
Meets a None continues h = ⊥
Meets a (Some l) true h = IsBelow h (a.around l)
Meets a (Some l) false h = IsBelow h (a.following l)

-- The annotation holds at the statement of this number and inside it, from the map h on; l is the number of the loop
-- around, if there is one. Statements after one that ends aren't looked at.
abbrev mutual
  pub IsLocal : Notes → Option ℕ → ℕ → HeldMap → Flow → Type 0
  IsLocal a l n h (step rs) = CanPass rs h
  IsLocal a l n h (choose rs s t) =
      CanPass rs h ×
      IsLocalBlock a l (n + 1) (map_after rs h) s ×
      IsLocalBlock a l (n + 1 + size_block s) (map_after rs h) t ×
      When (leads_block a (n + 1) (map_after rs h) s) (λ m. IsBelow m (a.following n)) ×
      When (leads_block a (n + 1 + size_block s) (map_after rs h) t) (λ m. IsBelow m (a.following n))
  IsLocal a l n h (loop rs s) =
      IsBelow h (a.around n) ×
      CanPass rs (a.around n) ×
      IsBelow (map_after rs (a.around n)) (a.following n) ×
      IsLocalBlock a (Some n) (n + 1) (map_after rs (a.around n)) s ×
      When (leads_block a (n + 1) (map_after rs (a.around n)) s) (λ m. IsBelow m (a.around n))
  IsLocal a l n h (switch rs arms end) = CanPass rs h × IsLocalArms a l (n + 1) (map_after rs h) arms (a.following n)
  IsLocal a l n h (scope s) = IsLocalBlock a l (n + 1) h s
  IsLocal a l n h (focus rs s es) =
      CanPass rs h ×
      IsLocalBlock a l (n + 1) (map_after rs h) s ×
      When (leads_block a (n + 1) (map_after rs h) s) (CanPass es)
  IsLocal a l n h (return rs) = CanPass rs h
  IsLocal a l n h (jump continues left) =
      CanPass (map away_row left) h × Meets a l continues (map_after (map away_row left) h)

  pub IsLocalBlock : Notes → Option ℕ → ℕ → HeldMap → Block → Type 0
  IsLocalBlock a l n h (block ss bound end) =
      IsLocalStmts a l n h ss × When (leads_stmts a n h ss) (CanPass (map away_row bound))

  pub IsLocalStmts : Notes → Option ℕ → ℕ → HeldMap → Stmts → Type 0
  IsLocalStmts a l n h done = Unit {0}
  IsLocalStmts a l n h (next at s rest) =
      IsLocal a l n h s × When (leads a n h s) (λ m. IsLocalStmts a l (n + size s) m rest)

  pub IsLocalArms : Notes → Option ℕ → ℕ → HeldMap → Arms → HeldMap → Type 0
  IsLocalArms a l n h no_arms k = Unit {0}
  IsLocalArms a l n h (arm rs s rest) k =
      CanPass rs h ×
      IsLocalBlock a l n (map_after rs h) s ×
      When (leads_block a n (map_after rs h) s) (λ m. IsBelow m k) ×
      IsLocalArms a l (n + size_block s) h rest k

-- ---- functions

-- the annotation holds in the function's whole body, whose statements are numbered from 0
abbrev pub IsLocalIn : Program → Func → Notes → Type 0
IsLocalIn p f a = IsLocalBlock a None 0 (start_map p f) (body_flow p f)
