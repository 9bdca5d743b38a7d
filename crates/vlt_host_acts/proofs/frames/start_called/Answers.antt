use Rattle.std.proofs.Common.{◌≡◌, ◌<◌, ◌+◌, ◌*◌, ◌∙◌, Some, true, map, length, sym, ap, subst, arith}
use Rattle.std.proofs.lemmas.List.{length-map}
use Rattle.vlt_core.specs.View.{func_of, var_of, key_of}
use Rattle.vlt_core.specs.KindedHeads.{parameters_of}
use Rattle.vlt_meaning.specs.World.{reference}
use Rattle.vlt_acts.specs.Values.Parts.{HasPartAt}
use Rattle.vlt_acts.specs.Values.Shown.{with_frame, key_at}
use Rattle.vlt_host_meaning.specs.Tables.{argument_of}
use Rattle.vlt_host_meaning.specs.Permitted.{arguments_fit, argument_bindings, object_of_key}
use Rattle.vlt_host_acts.proofs.Called.{started_so, started_shown}
use Rattle.vlt_host_acts.proofs.frames.start_called.Goals as goal

pub returns-clause-shows : goal.returns-clause-shows
returns-clause-shows c = λ objects s fit.
    let f = func_of c.args.f.now in
    let args = map argument_of c.args.args.now in
    let n : c.len-vars.result ≡ length f.vars = c.len-vars.ensures ∙ sym (length-map c.args.f.now.vars var_of) in
    let k : c.len-keys.result ≡ length f.keys = c.len-keys.ensures ∙ sym (length-map c.args.f.now.keys key_of) in
    let count : length args ≡ length c.args.args.now = length-map c.args.args.now argument_of in
    started_shown s.items c.args.values.now c.push_args.new.values c.grow_to.new.self c.name_keys.new.values f args objects
    (started_so c.args.values.now c.push_args.new.values c.grow_to.new.self c.run.new.self c.name_keys.new.values f (length args) c.len-vars.result c.len-keys.result c.width.result
    c.requires.empty (let l = c.requires.count in omega (arith, l, count)) c.push_args.ensures.grown
    (c.push_args.ensures.long ∙ ap (λ m. length c.args.values.now.slots.items + m * c.args.values.now.width) (sym count)) c.grow_to.ensures.grown c.width.ensures n k
    c.grow_to.ensures.long c.run.ensures c.name_keys.ensures.set)
    (c.push_args.ensures.given objects s (parameters_of f) fit)
    (λ j m l e.
    subst (λ r. HasPartAt s.items c.name_keys.new.values.slots.items (key_at r j) (reference m)) (c.run.ensures ∙ ap (λ x. with_frame c.grow_to.new.self 0 x) n)
    (c.name_keys.ensures.named objects s (subst (λ ts. arguments_fit objects ts args ≡ true) (sym c.parameters.ensures) fit) j m (subst (λ x. j < x) (sym k) l)
    (subst (λ ts. object_of_key (argument_bindings ts args) j ≡ Some m) (sym c.parameters.ensures) e)))
