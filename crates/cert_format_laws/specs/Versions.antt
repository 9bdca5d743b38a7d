-- Which version is written.
use Rattle.std.specs.Prelude.{◌||◌, Bool, true, false, List, [], ◌∷◌}
use Rattle.std.specs.List.{list_any}
use Rattle.vlt_core.specs.Core.{Link, Program}
use Rattle.vlt_core.specs.KindedHeads.{is_bound_entry}
use Rattle.cert_format.specs.Notes.{Note}
use Rattle.cert_format.specs.Certificate.{FitsCertificate}

abbrev pub is_linked : List Link → Bool
is_linked [] = false
is_linked (l ∷ ls) = true

-- a set has links, or a clause a bound entry
abbrev pub is_ordered : Program → Bool
is_ordered p =
    list_any (λ d. is_linked d.links) p.sets ||
    list_any (λ f. list_any is_bound_entry f.clause) p.fns

-- A program that has a certificate of version 2 has one of version 1 too, where no set has links
-- and no clause a bound entry.
abbrev pub HasWrittenVersion : Type 0
HasWrittenVersion =
    (p : Program) (all : List (List Note)) → FitsCertificate true p all →
    FitsCertificate (is_ordered p) p all
