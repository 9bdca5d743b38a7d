-- Bodies whose jumps stand in loops, and whose rows name only tokens in scope.
use Rattle.std.specs.Prelude.{◌≡◌, Bool, true, false, IsTrue, List, [], ◌∷◌, map, ◌||◌, None}
use Rattle.vlt_core.specs.Core.{Tok}
use Rattle.vlt_core.specs.Maps.{HeldMap, absent, Row, is_tok, away_row, map_after}
use Rattle.vlt_core.specs.Flow.{Flow, step, choose, loop, switch, scope, focus, return, jump, Block, block, Stmts, done, next, Arms, no_arms, arm, passes, passes_block}
use Rattle.vlt_core.specs.Local.{Notes, IsLocalBlock}

-- each jump stands in a loop
abbrev mutual
  pub IsJumping : Bool → Flow → Type 0
  IsJumping inside (choose rs s t) = IsJumpingBlock inside s × IsJumpingBlock inside t
  IsJumping inside (loop rs s) = IsJumpingBlock true s
  IsJumping inside (switch rs arms end) = IsJumpingArms inside arms
  IsJumping inside (scope s) = IsJumpingBlock inside s
  IsJumping inside (focus rs s es) = IsJumpingBlock inside s
  IsJumping inside (jump continues left) = IsTrue inside
  IsJumping inside s = Unit {0}

  pub IsJumpingBlock : Bool → Block → Type 0
  IsJumpingBlock inside (block ss bound end) = IsJumpingStmts inside ss

  pub IsJumpingStmts : Bool → Stmts → Type 0
  IsJumpingStmts inside done = Unit {0}
  IsJumpingStmts inside (next at s rest) = IsJumping inside s × IsJumpingStmts inside rest

  pub IsJumpingArms : Bool → Arms → Type 0
  IsJumpingArms inside no_arms = Unit {0}
  IsJumpingArms inside (arm rs s rest) = IsJumpingBlock inside s × IsJumpingArms inside rest

-- ---- bodies whose rows name only tokens in scope

abbrev pub is_bound : List Tok → Tok → Bool
is_bound [] t = false
is_bound (u ∷ us) t = is_tok t u || is_bound us t

abbrev pub with_bound : (Tok → Bool) → List Tok → Tok → Bool
with_bound g bound t = g t || is_bound bound t

abbrev pub AreInScope : (Tok → Bool) → List Row → Type 0
AreInScope g [] = Unit {0}
AreInScope g (r ∷ rs) = (g r.tok ≡ true) × AreInScope g rs

-- what is in scope within a block
abbrev pub within : (Tok → Bool) → Block → Tok → Bool
within g (block ss bound end) = with_bound g bound

-- after these rows the token is absent
abbrev pub LeavesAbsent : Tok → List Row → Type 0
LeavesAbsent x rs = (h : HeldMap) → map_after rs h x ≡ absent

-- Rows name tokens in scope, those of returns aside; a block binds new ones, and an arm's rows may name them; a focus has a
-- token of its own, which is absent after it, and doesn't end; no statement stands after one that ends.
abbrev mutual
  pub IsScoped : (Tok → Bool) → Flow → Type 0
  IsScoped g (step rs) = AreInScope g rs
  IsScoped g (choose rs s t) = AreInScope g rs × IsScopedBlock g s × IsScopedBlock g t
  IsScoped g (loop rs s) = AreInScope g rs × IsScopedBlock g s
  IsScoped g (switch rs arms end) = AreInScope g rs × IsScopedArms g arms
  IsScoped g (scope s) = IsScopedBlock g s
  IsScoped g (focus rs s es) =
      (x : Tok) × AreInScope (with_bound g (x ∷ [])) rs × IsScopedBlock (with_bound g (x ∷ [])) s × (passes_block s ≡ true) ×
      AreInScope (with_bound g (x ∷ [])) es × LeavesAbsent x es
  IsScoped g (return rs) = Unit {0}
  IsScoped g (jump continues left) = AreInScope g (map away_row left)

  pub IsScopedBlock : (Tok → Bool) → Block → Type 0
  IsScopedBlock g (block ss bound end) = ((t : Tok) → is_bound bound t ≡ true → g t ≡ false) × IsScopedStmts (with_bound g bound) ss

  pub IsScopedStmts : (Tok → Bool) → Stmts → Type 0
  IsScopedStmts g done = Unit {0}
  IsScopedStmts g (next at s rest) = IsScoped g s × (passes s ≡ false → rest ≡ done) × IsScopedStmts g rest

  pub IsScopedArms : (Tok → Bool) → Arms → Type 0
  IsScopedArms g no_arms = Unit {0}
  IsScopedArms g (arm rs s rest) = AreInScope (within g s) rs × IsScopedBlock g s × IsScopedArms g rest

-- tokens out of scope are absent
pub record IsAbsentOut (g : Tok → Bool) (h : HeldMap) : Type 0 where
  pub each : (t : Tok) → g t ≡ false → h t ≡ absent

-- some annotation holds in the body from the map h on
abbrev pub SomeLocal : Block → HeldMap → Type 0
SomeLocal s h = (a : Notes) × IsLocalBlock a None 0 h s
