use Rattle.vlt_core.specs.View.{program_of}
use Rattle.vlt_core_laws.specs.States.{IsFilledSet}
use Rattle.cert_fit_laws.proofs.CodeSets.{result_has, payload_has}
use Rattle.cert_fit_laws.proofs.States.{set_filled}
use Rattle.cert_text_laws.proofs.NarrowHeads.{narrow_heads}
use Rattle.cert_text_laws.proofs.fit.verified_are_accepted_programs.Goals as goal

pub returns : goal.returns
returns c = λ ordered p all fits verified.
    let formed = c.certificates_are_formed.ensures ordered (program_of p) all fits in
    record {
      kinded = verified.kinded;
      accepted = c.certificates_are_accepted.ensures ordered p all fits verified;
      sizes = record { most = formed.few_states };
      states = c.certificates_have_states.ensures ordered p all fits verified.kinded;
      narrow = narrow_heads p;
      limits = record {
        operators = c.certificates_are_proper.ensures ordered (program_of p) all fits;
        payloads = formed.few_payloads;
        parameters = λ g gf at external. formed.few_params g gf at;
        cases = formed.few_cases;
        given = λ g gf states t args at external is. result_has IsFilledSet set_filled p g gf states t args at is;
        parts = λ t c i d states u others at is. payload_has IsFilledSet set_filled p t c i d states u others at is;
      };
    }
