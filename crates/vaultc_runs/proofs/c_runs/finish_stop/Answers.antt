use Rattle.std.proofs.Common.{sym, subst}
use Rattle.vaultc_runs.specs.Shown.{StopsC}
use Rattle.vaultc_runs.proofs.CEnded.{stops_c}
use Rattle.vaultc_runs.proofs.c_runs.finish_stop.Goals as goal

pub returns-in-Stopped : goal.returns-in-Stopped
returns-in-Stopped g c =
    subst (λ s. StopsC g.K.Sink s c.args.out.now c.finish_stop.new.out c.finish_stop.result) (sym c.in-Stopped.is)
    (stops_c g.K.Sink c.in-Stopped.stop c.args.out.now c.finish_stop.new.out c.finish_stop.result c.finish_stop.ensures)
