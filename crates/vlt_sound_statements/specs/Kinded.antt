-- Statements, blocks and arms that break no rule on names and types.
use Rattle.std.specs.Prelude.{◌≡◌, Bool, ℕ, List, [], ◌∷◌}
use Rattle.vlt_core.specs.Core.{Tok, Form, Block, Stmts, Arms, Func, Program}
use Rattle.vlt_core.specs.KindedHeads.{Rules}
use Rattle.vlt_core.specs.KindedScopes.{Ids, Around}
use Rattle.vlt_core.specs.KindedBodies.{list_broken, arms_broken, row_broken, form_rows, block_rows, stmts_rows, arms_rows}

-- no row breaks a rule
abbrev pub BreakNone : List Rules → Type 0
BreakNone [] = Unit {0}
BreakNone (r ∷ rs) = (r ≡ []) × BreakNone rs

pub record IsKindedForm (p : Program) (f : Func) (around : Around) (ids : Ids) (form : Form) : Type 0 where
  pub row : row_broken p f around ids form ≡ []
  pub rows : BreakNone (form_rows p f around ids form)

-- the block's list begins with the tokens `extra`
pub record IsKindedBlock (p : Program) (f : Func) (around : Around) (extra : List Tok) (ids : Ids)
    (b : Block) : Type 0 where
  pub listed : list_broken p f extra ids b ≡ []
  pub rows : BreakNone (block_rows p f around ids b)

-- `ended` says whether the statement before ends
abbrev pub AreKinded : Program → Func → Around → Ids → (ended : Bool) → Stmts → Type 0
AreKinded p f around ids ended ss = BreakNone (stmts_rows p f around ids ended ss)

-- the arms of a switch on a variable
pub record AreKindedArms (p : Program) (f : Func) (around : Around) (ids : Ids) (v : ℕ) (arms : Arms) : Type 0 where
  pub listed : arms_broken p f ids v arms ≡ []
  pub rows : BreakNone (arms_rows p f around ids arms)
