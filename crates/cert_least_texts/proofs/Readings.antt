-- Two readings that are one certificate.
use Rattle.std.proofs.Common.{◌≡◌, List, ap}
use Rattle.vlt_core.specs.Core.{Program}
use Rattle.cert_format.specs.Notes.{Note}
use Rattle.cert_format.specs.Readings.{Reading, certificate}

abbrev program_in : Program → Reading → Program
program_in q (certificate p all) = p
program_in q a = q

abbrev notes_in : List (List Note) → Reading → List (List Note)
notes_in all (certificate p notes) = notes
notes_in all a = all

pub one_of : (p q : Program) (a b : List (List Note)) → certificate p a ≡ certificate q b → (p ≡ q) × (a ≡ b)
one_of p q a b e = (ap (program_in p) e, ap (notes_in a) e)
