use Rattle.std.proofs.Common.{◌≡◌, ◌++◌, filter, drop}
use Rattle.std.specs.List.{list_any}
use Rattle.vlt_core.specs.Maps.{is_tok}
use Rattle.vlt_core.specs.HeldView.{toks_of}
use Rattle.vlt_rows.proofs.body.ordered.Given as goal

abbrev pub invariant-loop-t : goal.invariant-loop-t
invariant-loop-t l =
    toks_of l.list ++ filter (λ t. list_any (is_tok t) (toks_of l.toks)) (toks_of (drop l.t-index l.all)) ≡
    filter (λ t. list_any (is_tok t) (toks_of l.toks)) (toks_of l.all)
