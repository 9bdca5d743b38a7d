use Rattle.std.proofs.Common.{◌≡◌, length}
use Rattle.vlt_core.specs.Core.{Tok}
use Rattle.vlt_core.specs.View.{tok_of}
use Rattle.vlt_core.specs.Maps.{away_row}
use Rattle.vlt_faults.proofs.OfFinding.Passing.{Going}
use Rattle.vlt_points.specs.Founds.{found}
use Rattle.vlt_points.proofs.found.Found.pass_gone.Given as goal

abbrev pub invariant-loop-tok : goal.invariant-loop-tok
invariant-loop-tok l = record {
  each : (t : Tok) → Going t (λ u. away_row (tok_of u)) l.toks (found l.fn.self t) l.tok-index (found l.self t);
  long : length l.self ≡ length l.fn.self;
}
