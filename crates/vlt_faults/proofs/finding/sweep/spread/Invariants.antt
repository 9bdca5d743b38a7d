use Rattle.std.proofs.Common.{◌≡◌, length, None}
use Rattle.vlt_core.specs.Flow.{size_block}
use Rattle.vlt_core.specs.View.{tok_of}
use Rattle.vlt_rows.specs.FlowView.{block_view}
use Rattle.vlt_core_laws.specs.Sweep.{In, IsReached}
use Rattle.vlt_faults.specs.Finding.Ones.{many_of}
use Rattle.vlt_faults.specs.Finding.Marks.{stock_of, gap, HasRoom}
use Rattle.vlt_faults.proofs.finding.sweep.spread.Given as goal

abbrev pub invariant-loop-tok : goal.invariant-loop-tok
invariant-loop-tok l = HasRoom l.kept None (size_block (block_view l.body)) × IsReached (tok_of l.tok) (block_view l.body) (In (many_of l.m)) (stock_of l.kept) × (length l.kept.around ≡ length l.fn.kept.around) × (length l.kept.following ≡ length l.fn.kept.following)

abbrev pub decreases-loop-tok : goal.decreases-loop-tok
decreases-loop-tok l = gap l.kept
