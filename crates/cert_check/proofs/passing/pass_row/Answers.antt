use Rattle.std.proofs.Common.{ap, ◌∙◌, subst}
use Rattle.vlt_core.specs.Maps.{IsWanted, row_passed}
use Rattle.vlt_core.specs.View.{tok_of}
use Rattle.vlt_core.specs.HeldView.{row_of, wanted_of}
use Rattle.cert_check.proofs.Pointing.{row_refuses}
use Rattle.cert_check.proofs.passing.pass_row.Goals as goal

pub returns-in-Ok : goal.returns-in-Ok
returns-in-Ok c = record {
  outcome = (
    (subst (λ h. IsWanted (wanted_of c.args.row.wanted) (h (tok_of c.args.row.tok))) c.in_ok-reach.ensures.same c.in-Ok.ensures.wanted, tt),
    c.in-Ok.ensures.passed ∙ ap (row_passed (row_of c.args.row)) c.in_ok-reach.ensures.same,
  );
}

pub returns-in-Err : goal.returns-in-Err
returns-in-Err c = record { outcome = row_refuses c.args.statement (row_of c.args.row) _ _ c.in-Err.fault c.in_ok-reach.ensures.same c.in-Err.ensures.refused }
