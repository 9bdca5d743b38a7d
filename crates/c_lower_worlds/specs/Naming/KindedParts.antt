-- Statements, blocks and bodies that break no rule on names and types, whose expressions are
-- proper, in scopes whose variables were bound.
use Rattle.std.specs.Prelude.{◌≡◌, ℕ, Bool, true, false, List, [], Option, Some, slice_get}
use Rattle.vlt_core.specs.Core.{Operand, Simple, Form, Block, Stmts, Arms, Func, Program}
use Rattle.vlt_core.specs.Instances.{IsInstanceOf}
use Rattle.vlt_core.specs.KindedHeads.{has}
use Rattle.vlt_core.specs.KindedScopes.{Ids, Around}
use Rattle.vlt_core.specs.KindedBodies.{row_broken, form_rows, block_rows, stmts_rows, first_ids}
use Rattle.vlt_core.specs.Proper.{is_proper, all_in_operand, all_in_operands, all_in_simple, all_in_return, all_in_form, all_in_block, all_in, all_in_arms}
use Rattle.vlt_core_laws.specs.Unbroken.{EachEmpty}

-- what is in scope was bound: the rules at a statement are asked of such scopes alone
pub record IsBound (ids : Ids) : Type 0 where
  pub bound : (v : ℕ) → has ids.vars v ≡ true → has ids.vars_ever v ≡ true

-- ---- parts whose expressions are proper

abbrev pub is_proper_operand : Operand → Bool
is_proper_operand = all_in_operand is_proper

abbrev pub are_proper_operands : List Operand → Bool
are_proper_operands = all_in_operands is_proper

abbrev pub is_proper_simple : Simple → Bool
is_proper_simple = all_in_simple is_proper

abbrev pub is_proper_return : Option Operand → Bool
is_proper_return = all_in_return is_proper

abbrev pub is_proper_form : Form → Bool
is_proper_form = all_in_form is_proper

abbrev pub is_proper_block : Block → Bool
is_proper_block = all_in_block is_proper

abbrev pub are_proper : Stmts → Bool
are_proper = all_in is_proper

abbrev pub are_proper_arms : Arms → Bool
are_proper_arms = all_in_arms is_proper

-- ---- parts that break no rule

pub record IsKindedForm (p : Program) (f : Func) (around : Around) (ids : Ids) (form : Form)
    : Type 0 where
  pub row : row_broken p f around ids form ≡ []
  pub rows : EachEmpty (form_rows p f around ids form)
  pub proper : is_proper_form form ≡ true
  pub scoped : IsBound ids

pub record IsKindedBlock (p : Program) (f : Func) (around : Around) (ids : Ids) (b : Block)
    : Type 0 where
  pub rows : EachEmpty (block_rows p f around ids b)
  pub proper : is_proper_block b ≡ true
  pub scoped : IsBound ids

-- `ended` says whether the statement before ends
pub record AreKinded (p : Program) (f : Func) (around : Around) (ids : Ids) (ended : Bool)
    (ss : Stmts) : Type 0 where
  pub rows : EachEmpty (stmts_rows p f around ids ended ss)
  pub proper : are_proper ss ≡ true
  pub scoped : IsBound ids

-- What whole runs need: main has a body, and no row of an instance's body breaks a rule.
pub record HasKindedBodies (p : Program) : Type 0 where
  pub main : Func
  pub main_at : slice_get p.fns p.main ≡ Some main
  pub main_body : main.external ≡ false
  pub bodies : (g : ℕ) (f : Func) → IsInstanceOf p g f → f.external ≡ false →
      AreKinded p f (record { jumps = false; returns = true }) (first_ids p f) false f.body
