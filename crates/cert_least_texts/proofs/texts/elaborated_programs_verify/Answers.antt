use Rattle.std.proofs.Common.{◌∙◌}
use Rattle.cert_format.specs.Places.{unplaced_program}
use Rattle.cert_least_texts.proofs.texts.elaborated_programs_verify.Goals as goal

pub returns : goal.returns
returns c = λ t kinds p all elaborated has.
    let places = c.places_dont_count.ensures p in
    record {
      verified = record {
        kinded = places.kinds ∙ c.elaborated_programs_are_kinded.ensures t kinds p elaborated;
        local = c.least_certificates_are_local.ensures (unplaced_program p) all ((c.least_certificates_have_no_places.ensures p all).0 has);
      };
      same_c = places.lowering;
    }
