use Rattle.std.proofs.Common.{◌≡◌, ◌-◌, slice_get, subst, ap, ◌∙◌, length}
use Rattle.std.specs.Option.{option_map}
use Rattle.vlt_core.specs.View.{ty_of}
use Rattle.vlt_acts.specs.Frames.Left.{value_at}
use Rattle.vlt_host_laws.specs.Results.{IsResult}
use Rattle.vlt_host.proofs.OfMachine.Back.{front_is, no_front}
use Rattle.vlt_host.proofs.machine.settling.front_of.Goals as goal

pub returns-in-None : goal.returns-in-None
returns-in-None c = λ items g a kept w left q. no_front items a (subst (λ o. IsResult (option_map ty_of o) a) c.in-None.is q)

pub returns-in-Some : goal.returns-in-Some
returns-in-Some c = λ items g a kept w left q.
    let place : c.saturating_sub.result ≡ value_at c.args.values.now =
    c.saturating_sub.ensures ∙ (ap (λ n. n - c.width.result) c.len.ensures ∙ ap (λ n. length c.args.values.now.slots.items - n) c.width.ensures) in
    front_is items c.args.values.now g (ty_of c.in-Some.field-0) a kept w c.read.result left (λ x at. c.read.ensures x (ap (slice_get c.args.values.now.slots.items) place ∙ at))
    (subst (λ o. IsResult (option_map ty_of o) a) c.in-Some.is q)
