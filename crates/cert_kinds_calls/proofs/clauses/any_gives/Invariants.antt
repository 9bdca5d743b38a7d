use Rattle.std.proofs.Common.{◌≡◌, map, drop}
use Rattle.std.specs.List.{list_any}
use Rattle.vlt_core.specs.View.{entry_of, keys_of}
use Rattle.cert_kinds_calls.specs.Fitting.{gives_key}
use Rattle.cert_kinds_calls.proofs.clauses.any_gives.Given as goal

abbrev pub invariant-loop-e : goal.invariant-loop-e
invariant-loop-e l = list_any (gives_key (keys_of l.keys) l.k.0) (map entry_of l.clause) ≡ list_any (gives_key (keys_of l.keys) l.k.0) (map entry_of (drop l.e-index l.clause))
