use Rattle.std.proofs.Common.{ap, sym, ◌∙◌, Some}
use Rattle.vlt_core.specs.Local.{only_if}
use Rattle.cert_check.specs.Notes.{annotation_of}
use Rattle.cert_check.proofs.Leading.{led_comes}
use Rattle.cert_check.proofs.walking.following.Goals as goal

pub returns-in_ok-exit : goal.returns-in_ok-exit
returns-in_ok-exit c = record {
  outcome = (
    tt,
    led_comes _ _ _ _ c.comes.ensures.held c.comes.ensures.at
        (ap Some c.in_ok-exit.ensures.outcome.1 ∙ sym (ap (λ b. only_if b ((annotation_of c.args.given.now).following c.args.n)) c.if-way.true)),
  );
}
