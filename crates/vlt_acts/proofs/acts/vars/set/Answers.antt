use Rattle.std.proofs.Common.{inl}
use Rattle.vlt_core.specs.View.{expr_of}
use Rattle.vlt_acts.proofs.OfActs.Acting.{set_does}
use Rattle.vlt_acts.proofs.acts.vars.set.Goals as goal

pub returns-clause-does : goal.returns-clause-does
returns-clause-does k = λ c w h d same.
    set_does k.args.heap.now k.args.values.now k.write.new.values c w h d k.args.v.0 k.place-to.result (expr_of k.args.e.now) k.write.result same k.requires.within k.place-to.ensures.is k.write.ensures.kept
    (k.write.ensures.value c (inl (k.args.v.0, k.requires.within, k.place-to.ensures.is)))
