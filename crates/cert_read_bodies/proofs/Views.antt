-- The view of each draft, arm and block.
use Rattle.std.proofs.Common.{◌≡◌, ◌∙◌, List, Option, ap, sym, option_map}
use Rattle.vlt_base.specs.declared.ids.VarId.{VarId}
use Rattle.vlt_core.specs.declared.program.Expr.{Expr}
use Rattle.vlt_core.specs.declared.notes.TokMap.{TokMap}
use Rattle.vlt_core.specs.View.{expr_of, vars_of}
use Rattle.vlt_core.specs.HeldView.{toks_of}
use Rattle.cert_format.specs.Drafts as s
use Rattle.cert_read_parts.specs.Maps.{maps_of}
use Rattle.cert_read_rows.specs.Statements.{plain_of}
use Rattle.cert_read_rows.specs.declared.plain.PlainRow.{PlainRow}
use Rattle.cert_read_bodies.specs.declared.tree.Draft.TheVariants as V
use Rattle.cert_read_bodies.specs.declared.tree.Draft.TheOpen.{Draft-F}
use Rattle.cert_read_bodies.specs.declared.tree.Draft.TheFolds.{fold-roll-Draft, fold_out-Arm, fold_out-Block}
use Rattle.cert_read_bodies.specs.declared.tree.Arm.{Arm, out-Arm}
use Rattle.cert_read_bodies.specs.declared.tree.Block.{Block, out-Block}
use Rattle.cert_read_bodies.specs.Tree.{ArmView, draft_of, arm_of, block_of, drafts_of, arms_of, draft_step, arm_step, block_step}

pub block_parts : (b : Block) → block_of b ≡ s.block (out-Block b).count (toks_of (out-Block b).bound) (drafts_of (out-Block b).stmts)
block_parts b = fold_out-Block s.Draft ArmView s.Block draft_step arm_step block_step b

pub arm_parts : (a : Arm) → arm_of a ≡ ((out-Arm a).case, vars_of (out-Arm a).vars, block_of (out-Arm a).body)
arm_parts a = fold_out-Arm s.Draft ArmView s.Block draft_step arm_step block_step a

pub plain_draft : (r : PlainRow) → draft_of (V.Plain r) ≡ s.plain (plain_of r)
plain_draft r = ap draft_of (sym (V.rolls-Plain r)) ∙ fold-roll-Draft s.Draft ArmView s.Block draft_step arm_step block_step (Draft-F.Plain r)

pub if_draft : (e : Expr) (a b : Block) (m : Option (List TokMap)) → draft_of (V.If e a b m) ≡ s.choose (expr_of e) (block_of a) (block_of b) (option_map maps_of m)
if_draft e a b m = ap draft_of (sym (V.rolls-If e a b m)) ∙ fold-roll-Draft s.Draft ArmView s.Block draft_step arm_step block_step (Draft-F.If e a b m)

pub while_draft : (e : Expr) (a : Block) (m k : List TokMap) → draft_of (V.While e a m k) ≡ s.loop (expr_of e) (block_of a) (maps_of m) (maps_of k)
while_draft e a m k = ap draft_of (sym (V.rolls-While e a m k)) ∙ fold-roll-Draft s.Draft ArmView s.Block draft_step arm_step block_step (Draft-F.While e a m k)

pub switch_draft : (v : VarId) (arms : List Arm) (m : Option (List TokMap)) → draft_of (V.Switch v arms m) ≡ s.switch v.0 (arms_of arms) (option_map maps_of m)
switch_draft v arms m = ap draft_of (sym (V.rolls-Switch v arms m)) ∙ fold-roll-Draft s.Draft ArmView s.Block draft_step arm_step block_step (Draft-F.Switch v arms m)

pub focus_draft : (y z : VarId) (a : Block) → draft_of (V.Focus y z a) ≡ s.focus y.0 z.0 (block_of a)
focus_draft y z a = ap draft_of (sym (V.rolls-Focus y z a)) ∙ fold-roll-Draft s.Draft ArmView s.Block draft_step arm_step block_step (Draft-F.Focus y z a)

pub scope_draft : (a : Block) → draft_of (V.Scope a) ≡ s.scope (block_of a)
scope_draft a = ap draft_of (sym (V.rolls-Scope a)) ∙ fold-roll-Draft s.Draft ArmView s.Block draft_step arm_step block_step (Draft-F.Scope a)
