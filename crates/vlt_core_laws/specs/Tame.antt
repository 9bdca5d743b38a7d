-- Bodies in which a token is lent in a focus alone.
use Rattle.std.specs.Prelude.{◌≡◌, false, List, [], ◌∷◌}
use Rattle.vlt_core.specs.Core.{Tok}
use Rattle.vlt_core.specs.Maps.{Wanted, wants_held, wants_lent, After, becomes_lent, comes_back, Row}
use Rattle.vlt_core.specs.Flow.{Flow, step, choose, loop, switch, scope, focus, return, jump, Block, block, Stmts, done, next, Arms, no_arms, arm}
use Rattle.vlt_core_laws.specs.Scoped.{IsJumpingBlock}
use Rattle.vlt_core.specs.Found.{One, one_lent}

abbrev pub IsPlainWanted : Wanted → Type 0
IsPlainWanted wants_lent = ⊥
IsPlainWanted _ = Unit {0}

abbrev pub IsPlainAfter : After → Type 0
IsPlainAfter becomes_lent = ⊥
IsPlainAfter comes_back = ⊥
IsPlainAfter _ = Unit {0}

abbrev pub ArePlain : List Row → Type 0
ArePlain [] = Unit {0}
ArePlain (r ∷ rs) = IsPlainWanted r.wanted × IsPlainAfter r.after × ArePlain rs

abbrev pub lend : Tok → Row
lend g = record { tok = g; wanted = wants_held; after = becomes_lent }

abbrev pub unlend : Tok → Row
unlend g = record { tok = g; wanted = wants_lent; after = comes_back }

-- the rows of a focus: its first lends a token, and its last gives it back
abbrev pub IsFocus : List Row → List Row → Tok → Type 0
IsFocus (r ∷ rs) (e ∷ u ∷ []) g = (r ≡ lend g) × ArePlain rs × ArePlain (e ∷ []) × (u ≡ unlend g)
IsFocus _ _ g = ⊥

abbrev mutual
  pub IsTame : Flow → Type 0
  IsTame (step rs) = ArePlain rs
  IsTame (choose rs s t) = ArePlain rs × IsTameBlock s × IsTameBlock t
  IsTame (loop rs s) = ArePlain rs × IsTameBlock s
  IsTame (switch rs arms end) = ArePlain rs × IsTameArms arms
  IsTame (scope s) = IsTameBlock s
  IsTame (focus rs s es) = ((g : Tok) × IsFocus rs es g) × IsTameBlock s × IsJumpingBlock false s
  IsTame (return rs) = Unit {0}
  IsTame (jump continues left) = Unit {0}

  pub IsTameBlock : Block → Type 0
  IsTameBlock (block ss bound end) = IsTameStmts ss

  pub IsTameStmts : Stmts → Type 0
  IsTameStmts done = Unit {0}
  IsTameStmts (next at s rest) = IsTame s × IsTameStmts rest

  pub IsTameArms : Arms → Type 0
  IsTameArms no_arms = Unit {0}
  IsTameArms (arm rs s rest) = ArePlain rs × IsTameBlock s × IsTameArms rest

abbrev pub IsLentOne : One → Type 0
IsLentOne (one_lent i) = Unit {0}
IsLentOne _ = ⊥
