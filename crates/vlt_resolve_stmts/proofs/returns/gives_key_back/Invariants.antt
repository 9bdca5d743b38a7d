use Rattle.std.proofs.Common.{◌≡◌, ◌==◌, ◌&&◌, drop, map}
use Rattle.std.specs.List.{list_any}
use Rattle.vlt_core.specs.Lookups.{is_given_back}
use Rattle.vlt_core.specs.View.{entry_of}
use Rattle.vlt_resolve_stmts.proofs.returns.gives_key_back.Given as goal

abbrev pub invariant-loop-entry : goal.invariant-loop-entry
invariant-loop-entry l =
    list_any (λ e. (e.key == l.key.0) && is_given_back e) (map entry_of l.clause)
    ≡ list_any (λ e. (e.key == l.key.0) && is_given_back e) (map entry_of (drop l.entry-index l.clause))
