use Rattle.std.proofs.Common.{◌∙◌}
use Rattle.cert_kinds_types.proofs.Smallest.{each_next}
use Rattle.cert_kinds_exprs.proofs.scopes.key_list_broken.Goals as goal

pub loop-k-preserved : goal.loop-k-preserved
loop-k-preserved c =
    rw (c.lesser-found.ensures, c.key_broken.ensures)
    (c.loop-k.invariant ∙ each_next _ (λ k. k.0) c.loop-k.found c.args.keys.now c.loop-k.k-index (record { 0 = 0 }) c.loop-k-test.true)
