use Rattle.std.proofs.Common.{rules, refl, sym, ap, subst, ◌∙◌, ◌≡◌, Ok, Err, pos, SFits, w64, to_z, of_z}
use Rattle.std.proofs.lemmas.Int.{to_z-of_z}
use Rattle.vlt_ops.specs.Operator.{applied}
use Rattle.vlt_core.specs.Core as s
use Rattle.vlt_core.specs.View.{expr_of}
use Rattle.vlt_meaning.specs.World.{no_value}
use Rattle.vlt_meaning.specs.Found.{or_fault}
use Rattle.vlt_meaning.specs.Values.{number_of}
use Rattle.vlt_acts.specs.declared.values.exprs.Sides.TheVariants.{Left, Right, Both}
use Rattle.vlt_acts.specs.Values.Shown.{IsNumber}
use Rattle.vlt_acts.specs.Values.Asked.{IsAsked}
use Rattle.vlt_acts.proofs.OfValues.Forms.{var_at, unary_at, binary_at}
use Rattle.vlt_acts.proofs.OfValues.Fronts.{var_front}
use Rattle.vlt_acts.proofs.OfValues.Numbers.{at_expr, front_number, unary_number, binary_number, both_number, both_trap}
use Rattle.vlt_acts.proofs.values.exprs.+number_or_trap.Goals as goal

pub returns-in-Var : goal.returns-in-Var
returns-in-Var n k = λ q.
    let e : expr_of k.args.e.now ≡ s.var k.in-Var.v.0 = var_at _ k.in-Var.v k.in-Var.is in
    let f : SFits w64 k.number_in.result = search rules in
    subst (λ z. IsNumber (Ok z) (number_of q.program q.func (expr_of k.args.e.now) q.frame q.objects)) (sym (to_z-of_z w64 k.number_in.result f))
    (at_expr q.program q.func q.frame q.objects (Ok k.number_in.result) (expr_of k.args.e.now) (s.var k.in-Var.v.0) e
    (front_number q.items k.front.result (or_fault no_value (q.frame.vars k.in-Var.v.0)) k.number_in.result (var_front k.args.heap.now k.args.values.now q k.in-Var.v.0 k.front.result k.front.ensures) k.number_in.ensures))

pub returns-in-Ok : goal.returns-in-Ok
returns-in-Ok n k = λ q.
    let e : expr_of k.args.e.now ≡ s.unary k.in-Un.op (expr_of k.get.result.now) = unary_at _ k.in-Un.op k.in-Un.a _ k.in-Un.is k.get.ensures in
    let f : SFits w64 k.in-Ok.z = search rules in
    at_expr q.program q.func q.frame q.objects k.apply.result (expr_of k.args.e.now) (s.unary k.in-Un.op (expr_of k.get.result.now)) e
    (unary_number q.program q.func q.frame q.objects k.in-Un.op (expr_of k.get.result.now) k.number_or_trap.result (k.number_or_trap.ensures q) k.in-Ok.z k.apply.result k.in-Ok.is
    (k.apply.ensures ∙ ap (λ z. applied k.in-Un.op z (pos 0)) (to_z-of_z w64 k.in-Ok.z f)))

pub returns-in-Left : goal.returns-in-Left
returns-in-Left n k = λ q.
    let e : expr_of k.args.e.now ≡ s.binary k.in-Bin.op (expr_of k.get-in-Bin.result.now) (expr_of k.in-Bin.b) =
    binary_at _ k.in-Bin.op k.in-Bin.a k.in-Bin.b _ _ k.in-Bin.is k.get-in-Bin.ensures refl in
    let f : SFits w64 k.in-Ok-number_or_trap.z = search rules in
    let asked : IsAsked k.in-Bin.op k.in-Ok-number_or_trap.z Left =
    subst (λ z. IsAsked k.in-Bin.op z Left) (to_z-of_z w64 k.in-Ok-number_or_trap.z f) (subst (IsAsked k.in-Bin.op _) k.in-Left.is k.asked.ensures) in
    subst (λ z. IsNumber (Ok z) (number_of q.program q.func (expr_of k.args.e.now) q.frame q.objects)) (sym (to_z-of_z w64 k.in-Ok-number_or_trap.z f))
    (at_expr q.program q.func q.frame q.objects (Ok k.in-Ok-number_or_trap.z) (expr_of k.args.e.now) _ e
    (binary_number q.program q.func q.frame q.objects k.in-Bin.op (expr_of k.get-in-Bin.result.now) k.number_or_trap-in-Bin.result (k.number_or_trap-in-Bin.ensures q) (expr_of k.in-Bin.b) k.in-Ok-number_or_trap.z (Ok k.in-Ok-number_or_trap.z) Left k.in-Ok-number_or_trap.is asked refl))

pub returns-in-Right : goal.returns-in-Right
returns-in-Right n k = λ q.
    let e : expr_of k.args.e.now ≡ s.binary k.in-Bin.op (expr_of k.get-in-Bin.result.now) (expr_of k.get-in-Right.result.now) =
    binary_at _ k.in-Bin.op k.in-Bin.a k.in-Bin.b _ _ k.in-Bin.is k.get-in-Bin.ensures k.get-in-Right.ensures in
    let f : SFits w64 k.in-Ok-number_or_trap.z = search rules in
    let asked : IsAsked k.in-Bin.op k.in-Ok-number_or_trap.z Right =
    subst (λ z. IsAsked k.in-Bin.op z Right) (to_z-of_z w64 k.in-Ok-number_or_trap.z f) (subst (IsAsked k.in-Bin.op _) k.in-Right.is k.asked.ensures) in
    at_expr q.program q.func q.frame q.objects k.number_or_trap-in-Right.result (expr_of k.args.e.now) _ e
    (binary_number q.program q.func q.frame q.objects k.in-Bin.op (expr_of k.get-in-Bin.result.now) k.number_or_trap-in-Bin.result (k.number_or_trap-in-Bin.ensures q) (expr_of k.get-in-Right.result.now) k.in-Ok-number_or_trap.z k.number_or_trap-in-Right.result Right k.in-Ok-number_or_trap.is asked (k.number_or_trap-in-Right.ensures q))

pub returns-in-Ok-number_or_trap-2 : goal.returns-in-Ok-number_or_trap-2
returns-in-Ok-number_or_trap-2 n k = λ q.
    let e : expr_of k.args.e.now ≡ s.binary k.in-Bin.op (expr_of k.get-in-Bin.result.now) (expr_of k.get-in-Both.result.now) =
    binary_at _ k.in-Bin.op k.in-Bin.a k.in-Bin.b _ _ k.in-Bin.is k.get-in-Bin.ensures k.get-in-Both.ensures in
    let f : SFits w64 k.in-Ok-number_or_trap.z = search rules in
    let g : SFits w64 k.in-Ok-number_or_trap-2.y = search rules in
    let asked : IsAsked k.in-Bin.op k.in-Ok-number_or_trap.z Both =
    subst (λ z. IsAsked k.in-Bin.op z Both) (to_z-of_z w64 k.in-Ok-number_or_trap.z f) (subst (IsAsked k.in-Bin.op _) k.in-Both.is k.asked.ensures) in
    let is : k.apply-in-Ok-number_or_trap-2.result ≡ applied k.in-Bin.op k.in-Ok-number_or_trap.z k.in-Ok-number_or_trap-2.y =
    k.apply-in-Ok-number_or_trap-2.ensures ∙ ap (λ z. applied k.in-Bin.op z (to_z w64 (of_z w64 k.in-Ok-number_or_trap-2.y))) (to_z-of_z w64 k.in-Ok-number_or_trap.z f) ∙ ap (λ z. applied k.in-Bin.op k.in-Ok-number_or_trap.z z) (to_z-of_z w64 k.in-Ok-number_or_trap-2.y g) in
    at_expr q.program q.func q.frame q.objects k.apply-in-Ok-number_or_trap-2.result (expr_of k.args.e.now) _ e
    (binary_number q.program q.func q.frame q.objects k.in-Bin.op (expr_of k.get-in-Bin.result.now) k.number_or_trap-in-Bin.result (k.number_or_trap-in-Bin.ensures q) (expr_of k.get-in-Both.result.now) k.in-Ok-number_or_trap.z k.apply-in-Ok-number_or_trap-2.result Both k.in-Ok-number_or_trap.is asked
    (both_number q.program q.func q.frame q.objects k.in-Bin.op (expr_of k.get-in-Bin.result.now) k.number_or_trap-in-Bin.result (k.number_or_trap-in-Bin.ensures q) (expr_of k.get-in-Both.result.now) k.in-Ok-number_or_trap.z k.in-Ok-number_or_trap-2.y k.number_or_trap-in-Both.result k.apply-in-Ok-number_or_trap-2.result (k.number_or_trap-in-Both.ensures q) k.in-Ok-number_or_trap-2.is is))

pub returns-in-Err-number_or_trap-2 : goal.returns-in-Err-number_or_trap-2
returns-in-Err-number_or_trap-2 n k = λ q.
    let e : expr_of k.args.e.now ≡ s.binary k.in-Bin.op (expr_of k.get-in-Bin.result.now) (expr_of k.get-in-Both.result.now) =
    binary_at _ k.in-Bin.op k.in-Bin.a k.in-Bin.b _ _ k.in-Bin.is k.get-in-Bin.ensures k.get-in-Both.ensures in
    let f : SFits w64 k.in-Ok-number_or_trap.z = search rules in
    let asked : IsAsked k.in-Bin.op k.in-Ok-number_or_trap.z Both =
    subst (λ z. IsAsked k.in-Bin.op z Both) (to_z-of_z w64 k.in-Ok-number_or_trap.z f) (subst (IsAsked k.in-Bin.op _) k.in-Both.is k.asked.ensures) in
    at_expr q.program q.func q.frame q.objects (Err k.in-Err-number_or_trap-2.t) (expr_of k.args.e.now) _ e
    (binary_number q.program q.func q.frame q.objects k.in-Bin.op (expr_of k.get-in-Bin.result.now) k.number_or_trap-in-Bin.result (k.number_or_trap-in-Bin.ensures q) (expr_of k.get-in-Both.result.now) k.in-Ok-number_or_trap.z (Err k.in-Err-number_or_trap-2.t) Both k.in-Ok-number_or_trap.is asked
    (both_trap q.program q.func q.frame q.objects k.in-Bin.op (expr_of k.get-in-Bin.result.now) k.number_or_trap-in-Bin.result (k.number_or_trap-in-Bin.ensures q) (expr_of k.get-in-Both.result.now) k.in-Ok-number_or_trap.z k.in-Err-number_or_trap-2.t k.number_or_trap-in-Both.result (k.number_or_trap-in-Both.ensures q) k.in-Err-number_or_trap-2.is))
