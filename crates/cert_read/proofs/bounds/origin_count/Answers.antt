use Rattle.std.proofs.Common.{sym, ap, ◌∙◌, subst, option_map}
use Rattle.vlt_core.specs.HeldView.{IsSetOrNone}
use Rattle.vlt_core.specs.Lookups.{states_up_to}
use Rattle.vlt_core.specs.View.{program_of}
use Rattle.cert_read.specs.Heads.{origin_count}
use Rattle.cert_read.proofs.Counting.{states_counted, none_counted}
use Rattle.cert_read.proofs.bounds.origin_count.Goals as goal

pub returns-in-Some-states_up_to : goal.returns-in-Some-states_up_to
returns-in-Some-states_up_to c =
    c.count.ensures
    ∙ states_counted (program_of c.args.p.now) c.in-Some.t.0 c.args.state c.in-Some-states_up_to.states
    (subst (IsSetOrNone (states_up_to (program_of c.args.p.now) c.in-Some.t.0 c.args.state)) c.in-Some-states_up_to.is c.states_up_to.ensures)
    ∙ ap (λ o. origin_count (program_of c.args.p.now) (option_map (λ t. t.0) o) c.args.state) (sym c.in-Some.is)

pub returns-in-None : goal.returns-in-None
returns-in-None c =
    none_counted (program_of c.args.p.now) c.in-Some.t.0 c.args.state
    (subst (IsSetOrNone (states_up_to (program_of c.args.p.now) c.in-Some.t.0 c.args.state)) c.in-None.is c.states_up_to.ensures)
    ∙ ap (λ o. origin_count (program_of c.args.p.now) (option_map (λ t. t.0) o) c.args.state) (sym c.in-Some.is)
