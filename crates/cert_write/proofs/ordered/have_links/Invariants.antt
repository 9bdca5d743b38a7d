use Rattle.std.proofs.Common.{◌≡◌, map, drop}
use Rattle.std.specs.List.{list_any}
use Rattle.vlt_core.specs.View.{set_of}
use Rattle.cert_format_laws.specs.Versions.{is_linked}
use Rattle.cert_write.proofs.ordered.have_links.Given as goal

abbrev pub invariant-loop-set : goal.invariant-loop-set
invariant-loop-set l = list_any (λ d. is_linked d.links) (map set_of l.sets) ≡ list_any (λ d. is_linked d.links) (map set_of (drop l.set-index l.sets))
