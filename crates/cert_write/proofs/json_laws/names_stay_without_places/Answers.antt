use Rattle.cert_write.proofs.OfJsonLaws.Programs.{unplaced_named}
use Rattle.cert_write.proofs.json_laws.names_stay_without_places.Goals as goal

pub returns : goal.returns
returns c = unplaced_named
