-- Why the code has no flow of a body: a row names states that no set of the code has, or a token has no number.
use Rattle.std.specs.Prelude.{◌≡◌, ◌⊎◌, ◌<◌, ◌^◌, List, [], ◌∷◌, length, None, Result, MatchResult}
use Rattle.vlt_core.specs.Core.{Func, Program}
use Rattle.vlt_core.specs.Maps.{Wanted, wants_in, After, becomes_held, Row}
use Rattle.vlt_core.specs.Flow.{Flow, step, choose, loop, switch, scope, focus, return, jump, Block, block, Stmts, done, next, Arms, no_arms, arm}
use Rattle.vlt_core.specs.Bodies.{body_flow}
use Rattle.vlt_core.specs.HeldView.{IsSetOf}
use Rattle.vlt_core.specs.declared.held.Row.{Row as CodeRow}
use Rattle.vlt_rows.specs.declared.sink.RowError.{RowError}
use Rattle.vlt_rows.specs.declared.sink.RowError.TheVariants.{Memory, Unfit}
use Rattle.vlt_rows.specs.FlowView.{rows_view}

-- There was no memory; or this is the cause.
abbrev pub UnfitBy : (cause : Type 0) → RowError → Type 0
UnfitBy cause e = (e ≡ Memory) ⊎ ((e ≡ Unfit) × cause)

-- ---- rows

abbrev pub WantsWide : Wanted → Type 0
WantsWide (wants_in states) = IsSetOf states None
WantsWide _ = ⊥

abbrev pub LeavesWide : After → Type 0
LeavesWide (becomes_held states) = IsSetOf states None
LeavesWide _ = ⊥

-- The row names states of which no set of the code has just these.
abbrev pub IsWide : Row → Type 0
IsWide r = WantsWide r.wanted ⊎ LeavesWide r.after

-- some row is wide
abbrev pub HasWide : List Row → Type 0
HasWide [] = ⊥
HasWide (r ∷ rs) = IsWide r ⊎ HasWide rs

-- These rows are listed, or one of them is wide.
abbrev pub Lists : List Row → Result (List CodeRow) RowError → Type 0
Lists rs r = MatchResult r (λ xs. rows_view xs ≡ rs) (UnfitBy (HasWide rs))

-- ---- bodies

-- Whether a body has, wherever they stand, rows of which R is so, or a switch of whose arms A is. The rows that want tokens
-- away at the end of a block and at a jump aren't looked at.
module _ (R : List Row → Type 0) (A : Arms → Type 0) where
  abbrev mutual
    pub HasPart : Flow → Type 0
    HasPart (step rs) = R rs
    HasPart (choose rs a b) = R rs ⊎ (HasPartBlock a ⊎ HasPartBlock b)
    HasPart (loop rs b) = R rs ⊎ HasPartBlock b
    HasPart (switch rs arms end) = R rs ⊎ (A arms ⊎ HasPartArms arms)
    HasPart (scope b) = HasPartBlock b
    HasPart (focus rs b es) = R rs ⊎ (HasPartBlock b ⊎ R es)
    HasPart (return rs) = R rs
    HasPart (jump continues left) = ⊥

    pub HasPartBlock : Block → Type 0
    HasPartBlock (block ss bound end) = HasPartStmts ss

    pub HasPartStmts : Stmts → Type 0
    HasPartStmts done = ⊥
    HasPartStmts (next at s rest) = HasPart s ⊎ HasPartStmts rest

    pub HasPartArms : Arms → Type 0
    HasPartArms no_arms = ⊥
    HasPartArms (arm rs b rest) = R rs ⊎ (HasPartBlock b ⊎ HasPartArms rest)

abbrev pub NoArms : Arms → Type 0
NoArms arms = ⊥

-- some row of the body is wide
abbrev pub HasWideRow : Block → Type 0
HasWideRow = HasPartBlock HasWide NoArms

-- The last of so many keys, or variables, has no number of 32 bits.
abbrev pub HasManyTokens : Func → Type 0
HasManyTokens f = (2 ^ 32 < length f.keys) ⊎ (2 ^ 32 < length f.vars)

-- The code has no flow of the function's body.
abbrev pub HasNoFlow : Program → Func → Type 0
HasNoFlow p f = HasWideRow (body_flow p f) ⊎ HasManyTokens f
