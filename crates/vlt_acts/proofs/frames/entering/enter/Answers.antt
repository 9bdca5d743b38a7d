use Rattle.std.proofs.Common.{◌≡◌, ◌∙◌, ◌+◌, ◌-◌, ◌*◌, max, sym, ap, subst, arith, length}
use Rattle.std.proofs.lemmas.List.{length-map}
use Rattle.vlt_core.specs.View.{func_of, keys_of, var_of}
use Rattle.vlt_acts.proofs.OfFrames.Callees.{IsEntered, entered, entered_like, entered_so}
use Rattle.vlt_acts.proofs.frames.entering.enter.Goals as goal

pub returns-clause-enters : goal.returns-clause-enters
returns-clause-enters c = λ f g a b h s w args call.
    let n : c.len-vars.result ≡ length (func_of c.args.callee.now).vars = c.len-vars.ensures ∙ sym (length-map c.args.callee.now.vars var_of) in
    entered h c.args.values.now c.run.new.self s w f g (keys_of c.args.keys.now) args
    (entered_like c.args.values.now c.run.new.self (func_of c.args.caller.now) f (func_of c.args.callee.now) g (keys_of c.args.keys.now) a b
    (subst (λ v. IsEntered c.args.values.now v (func_of c.args.caller.now) (func_of c.args.callee.now) (keys_of c.args.keys.now)) (sym c.run.ensures)
    (entered_so c.args.values.now c.grow_to.new.self c.push_keys.new.values c.grow_to-2.new.self (func_of c.args.caller.now) (func_of c.args.callee.now) (keys_of c.args.keys.now) _ c.len-vars.result c.requires.running c.requires.params (ap (λ x. c.len.result - c.args.callee.now.params * x) c.width-width.ensures ∙ ap (λ x. x - c.args.callee.now.params * c.args.values.now.width) c.len.ensures) n
    c.grow_to.ensures.grown (c.grow_to.ensures.long ∙ ap (λ x. max (length c.args.values.now.slots.items) ((c.len.result - c.args.callee.now.params * c.width-width.result) + c.len-vars.result * x)) c.width-width.ensures) c.push_keys.ensures.grown c.push_keys.ensures.named (let l = c.push_keys.ensures.long in omega (arith, l)) c.grow_to-2.ensures.grown))) call
