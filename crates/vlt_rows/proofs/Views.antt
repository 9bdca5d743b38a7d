-- What the view of a flow, a block and an arm is, by its constructor.
use Rattle.std.proofs.Common.{◌≡◌, ◌∙◌, ℕ, Bool, List, ap, sym}
use Rattle.vlt_core.specs.Flow as s
use Rattle.vlt_core.specs.HeldView.{toks_of}
use Rattle.vlt_core.specs.declared.held.Row.{Row}
use Rattle.vlt_core.specs.declared.held.Tok.{Tok}
use Rattle.vlt_rows.specs.declared.tree.Flow.TheVariants as V
use Rattle.vlt_rows.specs.declared.tree.Flow.TheOpen.{Flow-F}
use Rattle.vlt_rows.specs.declared.tree.Flow.{Flow}
use Rattle.vlt_rows.specs.declared.tree.FlowArm.{FlowArm, out-FlowArm}
use Rattle.vlt_rows.specs.declared.tree.FlowBlock.{FlowBlock, out-FlowBlock}
use Rattle.vlt_rows.specs.declared.tree.FlowStmt.{FlowStmt}
use Rattle.vlt_rows.specs.declared.tree.Flow.TheFolds.{fold_out-FlowArm, fold_out-FlowBlock, fold_out-FlowStmt, fold-roll-Flow}
use Rattle.vlt_rows.specs.FlowView.{ArmView, StmtView, stmt_view, flow_view, arm_view, block_view, arms_view, stmts_view, rows_view, flow_step, arm_step, block_step, stmt_step}

pub arm_parts : (a : FlowArm) → arm_view a ≡ (rows_view (out-FlowArm a).rows, block_view (out-FlowArm a).body)
arm_parts a = fold_out-FlowArm s.Flow ArmView s.Block StmtView flow_step arm_step block_step stmt_step a

pub block_parts : (b : FlowBlock) → block_view b ≡ s.block (stmts_view (out-FlowBlock b).stmts) (toks_of (out-FlowBlock b).bound) (out-FlowBlock b).end
block_parts b = fold_out-FlowBlock s.Flow ArmView s.Block StmtView flow_step arm_step block_step stmt_step b

pub stmt_parts : (x : FlowStmt) → stmt_view x ≡ (x.at, flow_view x.flow)
stmt_parts x = fold_out-FlowStmt s.Flow ArmView s.Block StmtView flow_step arm_step block_step stmt_step x

-- ---- the view of each form

pub step_form : (f : Flow) (rs : List Row) → f ≡ V.Step rs → flow_view f ≡ s.step (rows_view rs)
step_form f rs e = ap flow_view e ∙ opened rs
  where
    opened : (rs : List Row) → flow_view (V.Step rs) ≡ s.step (rows_view rs)
    opened rs = ap flow_view (sym (V.rolls-Step rs)) ∙ fold-roll-Flow s.Flow ArmView s.Block StmtView flow_step arm_step block_step stmt_step (Flow-F.Step rs)

pub if_form : (f : Flow) (rs : List Row) (a b : FlowBlock) → f ≡ V.If rs a b → flow_view f ≡ s.choose (rows_view rs) (block_view a) (block_view b)
if_form f rs a b e = ap flow_view e ∙ opened rs a b
  where
    opened : (rs : List Row) (a b : FlowBlock) → flow_view (V.If rs a b) ≡ s.choose (rows_view rs) (block_view a) (block_view b)
    opened rs a b = ap flow_view (sym (V.rolls-If rs a b)) ∙ fold-roll-Flow s.Flow ArmView s.Block StmtView flow_step arm_step block_step stmt_step (Flow-F.If rs a b)

pub while_form : (f : Flow) (rs : List Row) (a : FlowBlock) → f ≡ V.While rs a → flow_view f ≡ s.loop (rows_view rs) (block_view a)
while_form f rs a e = ap flow_view e ∙ opened rs a
  where
    opened : (rs : List Row) (a : FlowBlock) → flow_view (V.While rs a) ≡ s.loop (rows_view rs) (block_view a)
    opened rs a = ap flow_view (sym (V.rolls-While rs a)) ∙ fold-roll-Flow s.Flow ArmView s.Block StmtView flow_step arm_step block_step stmt_step (Flow-F.While rs a)

pub switch_form : (f : Flow) (rs : List Row) (arms : List FlowArm) (end : ℕ) → f ≡ V.Switch rs arms end → flow_view f ≡ s.switch (rows_view rs) (arms_view arms) end
switch_form f rs arms end e = ap flow_view e ∙ opened rs arms end
  where
    opened : (rs : List Row) (arms : List FlowArm) (end : ℕ) → flow_view (V.Switch rs arms end) ≡ s.switch (rows_view rs) (arms_view arms) end
    opened rs arms end = ap flow_view (sym (V.rolls-Switch rs arms end)) ∙ fold-roll-Flow s.Flow ArmView s.Block StmtView flow_step arm_step block_step stmt_step (Flow-F.Switch rs arms end)

pub scope_form : (f : Flow) (a : FlowBlock) → f ≡ V.Scope a → flow_view f ≡ s.scope (block_view a)
scope_form f a e = ap flow_view e ∙ opened a
  where
    opened : (a : FlowBlock) → flow_view (V.Scope a) ≡ s.scope (block_view a)
    opened a = ap flow_view (sym (V.rolls-Scope a)) ∙ fold-roll-Flow s.Flow ArmView s.Block StmtView flow_step arm_step block_step stmt_step (Flow-F.Scope a)

pub focus_form : (f : Flow) (rs : List Row) (a : FlowBlock) (es : List Row) → f ≡ V.Focus rs a es → flow_view f ≡ s.focus (rows_view rs) (block_view a) (rows_view es)
focus_form f rs a es e = ap flow_view e ∙ opened rs a es
  where
    opened : (rs : List Row) (a : FlowBlock) (es : List Row) → flow_view (V.Focus rs a es) ≡ s.focus (rows_view rs) (block_view a) (rows_view es)
    opened rs a es = ap flow_view (sym (V.rolls-Focus rs a es)) ∙ fold-roll-Flow s.Flow ArmView s.Block StmtView flow_step arm_step block_step stmt_step (Flow-F.Focus rs a es)

pub return_form : (f : Flow) (rs : List Row) → f ≡ V.Return rs → flow_view f ≡ s.return (rows_view rs)
return_form f rs e = ap flow_view e ∙ opened rs
  where
    opened : (rs : List Row) → flow_view (V.Return rs) ≡ s.return (rows_view rs)
    opened rs = ap flow_view (sym (V.rolls-Return rs)) ∙ fold-roll-Flow s.Flow ArmView s.Block StmtView flow_step arm_step block_step stmt_step (Flow-F.Return rs)

pub jump_form : (f : Flow) (c : Bool) (left : List Tok) → f ≡ V.Jump c left → flow_view f ≡ s.jump c (toks_of left)
jump_form f c left e = ap flow_view e ∙ opened c left
  where
    opened : (c : Bool) (left : List Tok) → flow_view (V.Jump c left) ≡ s.jump c (toks_of left)
    opened c left = ap flow_view (sym (V.rolls-Jump c left)) ∙ fold-roll-Flow s.Flow ArmView s.Block StmtView flow_step arm_step block_step stmt_step (Flow-F.Jump c left)
