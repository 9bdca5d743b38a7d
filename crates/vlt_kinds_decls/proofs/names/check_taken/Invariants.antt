use Rattle.std.proofs.Common.{◌≡◌, map, drop}
use Rattle.vlt_syntax.specs.View.{header_key_of}
use Rattle.vlt_kinds_types.specs.Names.Refusals.{least_from}
use Rattle.vlt_kinds_types.specs.Names.Globals.{names_seen}
use Rattle.vlt_kinds_decls.specs.Names.{header_keys_taken}
use Rattle.vlt_kinds_decls.proofs.names.check_taken.Given as goal

abbrev pub invariant-loop-param : goal.invariant-loop-param
invariant-loop-param l =
    least_from l.found.least (header_keys_taken (names_seen l.known) (map (λ p. (header_key_of p).key) (drop l.param-index l.params)))
    ≡ least_from l.initial.found.least (header_keys_taken (names_seen l.known) (map (λ p. (header_key_of p).key) l.params))
