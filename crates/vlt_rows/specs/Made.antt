-- A part of a body is made, or one of its rows is wide; private contracts alone cite this.
use Rattle.std.specs.Prelude.{◌≡◌, List, Result, MatchResult}
use Rattle.vlt_core.specs.Flow.{Flow, Block, Stmts, Arms}
use Rattle.vlt_rows.specs.declared.sink.RowError.{RowError}
use Rattle.vlt_rows.specs.declared.tree.Flow.{Flow as CodeFlow}
use Rattle.vlt_rows.specs.declared.tree.FlowBlock.{FlowBlock}
use Rattle.vlt_rows.specs.declared.tree.FlowStmt.{FlowStmt}
use Rattle.vlt_rows.specs.declared.tree.FlowArm.{FlowArm}
use Rattle.vlt_rows.specs.FlowView.{flow_view, block_view, stmts_view, arms_view}
use Rattle.vlt_rows.specs.Unfit.{UnfitBy, HasWide, HasPart, HasPartStmts, HasPartArms, NoArms, HasWideRow}

abbrev pub MakesForm : Flow → Result CodeFlow RowError → Type 0
MakesForm s r = MatchResult r (λ x. flow_view x ≡ s) (UnfitBy (HasPart HasWide NoArms s))

abbrev pub MakesBlock : Block → Result FlowBlock RowError → Type 0
MakesBlock s r = MatchResult r (λ x. block_view x ≡ s) (UnfitBy (HasWideRow s))

abbrev pub MakesStmts : Stmts → Result (List FlowStmt) RowError → Type 0
MakesStmts ss r = MatchResult r (λ xs. stmts_view xs ≡ ss) (UnfitBy (HasPartStmts HasWide NoArms ss))

abbrev pub MakesArms : Arms → Result (List FlowArm) RowError → Type 0
MakesArms arms r = MatchResult r (λ xs. arms_view xs ≡ arms) (UnfitBy (HasPartArms HasWide NoArms arms))
