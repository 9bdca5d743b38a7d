use Rattle.std.proofs.Common.{◌∷◌, [], sym, subst, map}
use Rattle.vlt_core.specs.View.{entry_of, keys_of}
use Rattle.vlt_externals.specs.Back.{ComesBack}
use Rattle.vlt_externals.proofs.Coming.{back_both}
use Rattle.vlt_externals.proofs.backs.+take_back.Goals as goal

pub returns-else-not-back_key-clause-back : goal.returns-else-not-back_key-clause-back
returns-else-not-back_key-clause-back n c =
    subst (λ es. ComesBack (keys_of c.args.keys.now) (map entry_of es) c.args.values.now c.args.heap.now c.take_back-in-Some.new.heap c.take_back-in-Some.result) (sym c.in-Some.ensures.cases.0)
    (back_both c.args.heap.now c.back_key.new.heap c.take_back-in-Some.new.heap c.args.values.now (keys_of c.args.keys.now) (entry_of c.in-Some.e.now) (map entry_of c.in-Some.rest.now) c.take_back-in-Some.result
    (subst (λ b. ComesBack (keys_of c.args.keys.now) (entry_of c.in-Some.e.now ∷ []) c.args.values.now c.args.heap.now c.back_key.new.heap b) c.if-not-back_key.false c.back_key.ensures.back) c.take_back-in-Some.ensures.back)
