use Rattle.std.proofs.Common.{sym, ap, ◌∙◌, subst}
use Rattle.vlt_core.specs.View.{tok_of}
use Rattle.vlt_core.specs.HeldView.{row_of, wanted_of}
use Rattle.vlt_core.specs.Maps.{IsWanted, row_passed}
use Rattle.vlt_flow_maps.proofs.pass.pass_row.Goals as goal

pub returns-in_err-step-clause-refused : goal.returns-in_err-step-clause-refused
returns-in_err-step-clause-refused c = record {
  holds = λ e p. c.in_err-step.ensures.refused.refused (subst (λ h. IsWanted (wanted_of c.args.row.wanted) (h (tok_of c.args.row.tok))) (sym c.reach.ensures.same) p.0);
}

pub returns-clause-ok : goal.returns-clause-ok
returns-clause-ok c = record {
  can = (subst (λ h. IsWanted (wanted_of c.args.row.wanted) (h (tok_of c.args.row.tok))) c.reach.ensures.same c.in_ok-step.ensures.wanted, tt);
  after = c.in_ok-step.ensures.passed ∙ ap (row_passed (row_of c.args.row)) c.reach.ensures.same;
}
