use Rattle.std.proofs.Common.{◌∙◌, sym}
use Rattle.vlt_core.specs.View.{func_of}
use Rattle.vlt_core.specs.KindedHeads.{has}
use Rattle.cert_kinds_calls.specs.Fitting.{callee_keys}
use Rattle.cert_kinds_calls.proofs.Keys.{all_next}
use Rattle.cert_kinds_calls.proofs.fitting.are_callee_keys.Goals as goal

pub loop-k-preserved : goal.loop-k-preserved
loop-k-preserved c =
    c.loop-k.invariant ∙ all_next (has (callee_keys (func_of c.args.g.now))) c.loop-k.k c.args.count (search)
    (sym c.is_callee_key.ensures ∙ c.if-not-is_callee_key.false)
