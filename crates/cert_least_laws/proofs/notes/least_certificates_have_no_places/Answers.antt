use Rattle.cert_least_laws.proofs.Unplaced.{all_without, all_with}
use Rattle.cert_least_laws.proofs.notes.least_certificates_have_no_places.Goals as goal

pub returns : goal.returns
returns c = λ p all.
    let places = c.places_dont_count.ensures p in
    (all_without p places p.fns all, all_with p places p.fns all)
