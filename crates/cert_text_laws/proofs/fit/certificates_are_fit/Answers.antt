use Rattle.vlt_core.specs.View.{program_of}
use Rattle.vlt_core_laws.proofs.Headed.{kinded_parts}
use Rattle.cert_text_laws.proofs.NarrowHeads.{narrow_heads}
use Rattle.cert_text_laws.proofs.fit.certificates_are_fit.Goals as goal

pub returns : goal.returns
returns c = λ ordered p all fits kinded.
    let formed = c.certificates_are_formed.ensures ordered (program_of p) all fits in
    record {
      kinded = kinded;
      well_formed = record {
        kinded = kinded_parts (program_of p) kinded;
        states = c.certificates_have_states.ensures ordered p all fits kinded;
        arms = λ g f at. c.certificates_have_arms.ensures ordered (program_of p) all fits kinded g f at;
      };
      sizes = record { most = formed.few_states };
      narrow = narrow_heads p;
      few = record { fields = formed.few_fields; vars = formed.few_vars; keys = formed.few_keys; functions = formed.few_functions };
      proper = c.certificates_are_proper.ensures ordered (program_of p) all fits;
      blank = formed.blank;
    }
