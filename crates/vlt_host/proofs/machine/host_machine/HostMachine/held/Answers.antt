use Rattle.std.proofs.Common.{◌∙◌, sym, ap, subst, slice_get}
use Rattle.vlt_host_acts.specs.Permits.Held.{numbers_in}
use Rattle.vlt_host.specs.Machine.HostMachine.{setup_in, HaveObjects}
use Rattle.vlt_host.proofs.OfMachine.Between.{hosted_shows}
use Rattle.vlt_host.proofs.OfMachine.Seen.{sight_is, is_found}
use Rattle.vlt_host.proofs.machine.host_machine.HostMachine.held.Goals as goal

pub returns-in_err-object-in-Some : goal.returns-in_err-object-in-Some
returns-in_err-object-in-Some c = λ objects h.
    let s = hosted_shows c.hosted-hosted.result (setup_in c.args.self.now) c.in-Some.tables objects c.hosted-hosted.ensures.heap c.hosted-hosted.ensures.held (subst (λ o. HaveObjects (setup_in c.args.self.now) o objects) c.in-Some.is h) in
    absurd (is_found c.hosted-hosted.result objects s c.args.i c.in_ok-position-in-Some.position (c.in_ok-position-in-Some.ensures ∙ ap (λ h. slice_get (numbers_in h) c.args.i) (sym c.hosted-hosted.ensures.held)) (c.in_err-object-in-Some.ensures.held objects s))

pub returns-in_ok-object-in-Some : goal.returns-in_ok-object-in-Some
returns-in_ok-object-in-Some c = λ objects h.
    let s = hosted_shows c.hosted-hosted.result (setup_in c.args.self.now) c.in-Some.tables objects c.hosted-hosted.ensures.heap c.hosted-hosted.ensures.held (subst (λ o. HaveObjects (setup_in c.args.self.now) o objects) c.in-Some.is h) in
    sight_is c.hosted-hosted.result objects s c.args.i c.in_ok-position-in-Some.position c.in_ok-object-in-Some.object c.state.result c.type_of.result.0 (c.in_ok-position-in-Some.ensures ∙ ap (λ h. slice_get (numbers_in h) c.args.i) (sym c.hosted-hosted.ensures.held))
    c.in_ok-object-in-Some.ensures.live c.in_ok-object-in-Some.ensures.number c.state.ensures c.type_of.ensures
