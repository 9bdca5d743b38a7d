use Rattle.std.proofs.Common.{◌≡◌, ◌∷◌, Some, true, map, subst}
use Rattle.vlt_core.specs.View.{ty_of}
use Rattle.vlt_host_meaning.specs.Tables.{argument_of}
use Rattle.vlt_host_meaning.specs.Permitted.{arguments_fit, object_of_key}
use Rattle.vlt_host_acts.specs.Permits.Arguments.{types_in, bindings_in}
use Rattle.vlt_host_acts.proofs.Called.{fit_first_at, keys_named}
use Rattle.vlt_host_acts.proofs.frames.+name_keys.Goals as goal

pub returns-in-Some-split_first-clause-named : goal.returns-in-Some-split_first-clause-named
returns-in-Some-split_first-clause-named t c = λ objects s fit k n within e.
    let d = c.in-Some.d.now in
    let ds = c.in-Some.ds.now in
    let a = c.in-Some-split_first.a.now in
    let rest = c.in-Some-split_first.rest.now in
    let ps : c.args.params.now ≡ d ∷ ds = c.in-Some.ensures.cases.0 in
    let xs : c.args.args.now ≡ a ∷ rest = c.in-Some-split_first.ensures.cases.0 in
    let fits =
    subst (λ ys. arguments_fit objects (types_in (d ∷ ds)) (map argument_of ys) ≡ true) xs
    (subst (λ qs. arguments_fit objects (types_in qs) (map argument_of c.args.args.now) ≡ true) ps fit) in
    let there =
    subst (λ ys. object_of_key (bindings_in (d ∷ ds) ys) k ≡ Some n) xs
    (subst (λ qs. object_of_key (bindings_in qs c.args.args.now) k ≡ Some n) ps e) in
    let b = fit_first_at objects (ty_of d.ty) (types_in ds) (argument_of a) (map argument_of rest) fits in
    keys_named s.items c.args.values.now c.name_keys.new.values c.name_key.new.values c.args.keys (ty_of d.ty) (types_in ds) (argument_of a) (map argument_of rest) k n
    c.name_keys.ensures.set
    (λ h. c.name_key.ensures.named objects s b.0 k n within h)
    (c.name_key.ensures.others k)
    (λ h. c.name_keys.ensures.named objects s b.1 k n within h)
    there
