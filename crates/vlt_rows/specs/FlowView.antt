-- The plain flow that a flow of the code stands for. Nothing is forgotten.
use Rattle.std.specs.Prelude.{ℕ, List, [], ◌∷◌, map}
use Rattle.vlt_core.specs.Flow as s
use Rattle.vlt_core.specs.Maps as s_maps
use Rattle.vlt_core.specs.HeldView.{row_of, toks_of}
use Rattle.vlt_core.specs.declared.held.Row.{Row}
use Rattle.vlt_rows.specs.declared.tree.Flow.{Flow}
use Rattle.vlt_rows.specs.declared.tree.Flow.TheOpen.{Flow-F, FlowBlock-F, FlowStmt-F, FlowArm-F}
use Rattle.vlt_rows.specs.declared.tree.Flow.TheFolds.{fold-Flow, fold-FlowStmt, fold-FlowBlock, fold-FlowArm}
use Rattle.vlt_rows.specs.declared.tree.FlowStmt.{FlowStmt}
use Rattle.vlt_rows.specs.declared.tree.FlowArm.{FlowArm}
use Rattle.vlt_rows.specs.declared.tree.FlowBlock.{FlowBlock}

abbrev pub rows_view : List Row → List s_maps.Row
rows_view = map row_of

-- a statement with its place, and an arm with its rows
abbrev pub StmtView : Type 0
StmtView = ℕ × s.Flow

abbrev pub ArmView : Type 0
ArmView = List s_maps.Row × s.Block

abbrev pub stmts_made : List StmtView → s.Stmts
stmts_made [] = s.done
stmts_made (x ∷ xs) = s.next x.0 x.1 (stmts_made xs)

abbrev pub arms_made : List ArmView → s.Arms
arms_made [] = s.no_arms
arms_made (x ∷ xs) = s.arm x.0 x.1 (arms_made xs)

abbrev pub flow_step : Flow-F s.Flow ArmView s.Block StmtView → s.Flow
flow_step (Flow-F.Step rs) = s.step (rows_view rs)
flow_step (Flow-F.If rs a b) = s.choose (rows_view rs) a b
flow_step (Flow-F.While rs b) = s.loop (rows_view rs) b
flow_step (Flow-F.Switch rs arms end) = s.switch (rows_view rs) (arms_made arms) end
flow_step (Flow-F.Scope b) = s.scope b
flow_step (Flow-F.Focus rs b es) = s.focus (rows_view rs) b (rows_view es)
flow_step (Flow-F.Return rs) = s.return (rows_view rs)
flow_step (Flow-F.Jump continues left) = s.jump continues (toks_of left)

abbrev pub block_step : FlowBlock-F s.Flow ArmView s.Block StmtView → s.Block
block_step x = s.block (stmts_made x.stmts) (toks_of x.bound) x.end

abbrev pub stmt_step : FlowStmt-F s.Flow ArmView s.Block StmtView → StmtView
stmt_step x = (x.at, x.flow)

abbrev pub arm_step : FlowArm-F s.Flow ArmView s.Block StmtView → ArmView
arm_step x = (rows_view x.rows, x.body)

abbrev pub flow_view : Flow → s.Flow
flow_view = fold-Flow s.Flow ArmView s.Block StmtView flow_step arm_step block_step stmt_step

abbrev pub arm_view : FlowArm → ArmView
arm_view = fold-FlowArm s.Flow ArmView s.Block StmtView flow_step arm_step block_step stmt_step

abbrev pub block_view : FlowBlock → s.Block
block_view = fold-FlowBlock s.Flow ArmView s.Block StmtView flow_step arm_step block_step stmt_step

abbrev pub stmt_view : FlowStmt → StmtView
stmt_view = fold-FlowStmt s.Flow ArmView s.Block StmtView flow_step arm_step block_step stmt_step

abbrev pub stmts_view : List FlowStmt → s.Stmts
stmts_view xs = stmts_made (map stmt_view xs)

abbrev pub arms_view : List FlowArm → s.Arms
arms_view xs = arms_made (map arm_view xs)
