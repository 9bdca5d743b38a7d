use Rattle.std.proofs.Common.{rules, refl, sym, ap, subst, ◌∙◌, ◌≡◌, Some, Ok, Err, pos, SFits, w64, to_z, of_z}
use Rattle.std.proofs.lemmas.Int.{to_z-of_z}
use Rattle.vlt_ops.specs.Operator.{applied}
use Rattle.vlt_core.specs.Core as s
use Rattle.vlt_core.specs.View.{expr_of}
use Rattle.vlt_meaning.specs.Values.{number_of}
use Rattle.vlt_acts.specs.declared.values.exprs.Sides.TheVariants.{Left, Right, Both}
use Rattle.vlt_acts.specs.Values.Shown.{IsNumber}
use Rattle.vlt_acts.specs.Values.Asked.{IsAsked}
use Rattle.vlt_acts.proofs.OfValues.Forms.{var_at, unary_at, binary_at}
use Rattle.vlt_acts.proofs.OfValues.Fronts.{var_number}
use Rattle.vlt_acts.proofs.OfValues.Numbers.{at_expr, unary_number, binary_number, both_number, ok_number, each_number, known_number}
use Rattle.vlt_acts.proofs.values.exprs.+trapless.Goals as goal

pub operand-returns-in-Var : goal.operand-returns-in-Var
operand-returns-in-Var t k = λ q.
    let e : expr_of k.args.e.now ≡ s.var k.in-Var.v.0 = var_at _ k.in-Var.v k.in-Var.is in
    let f : SFits w64 k.number.result = search rules in
    subst (λ z. IsNumber (Ok z) (number_of q.program q.func (expr_of k.args.e.now) q.frame q.objects)) (sym (to_z-of_z w64 k.number.result f))
    (at_expr q.program q.func q.frame q.objects (Ok k.number.result) (expr_of k.args.e.now) (s.var k.in-Var.v.0) e
    (var_number k.args.heap.now k.args.values.now q k.in-Var.v.0 k.number.result k.number.ensures))

pub trapless_number-returns-in-Var : goal.trapless_number-returns-in-Var
trapless_number-returns-in-Var t k = λ q.
    let e : expr_of k.args.e.now ≡ s.var k.in-Var.v.0 = var_at _ k.in-Var.v k.in-Var.is in
    let f : SFits w64 k.number.result = search rules in
    subst (λ z. IsNumber (Ok z) (number_of q.program q.func (expr_of k.args.e.now) q.frame q.objects)) (sym (to_z-of_z w64 k.number.result f))
    (at_expr q.program q.func q.frame q.objects (Ok k.number.result) (expr_of k.args.e.now) (s.var k.in-Var.v.0) e
    (var_number k.args.heap.now k.args.values.now q k.in-Var.v.0 k.number.result k.number.ensures))

pub trapless_number-returns-in_ok-z-in-Un : goal.trapless_number-returns-in_ok-z-in-Un
trapless_number-returns-in_ok-z-in-Un t k = λ q.
    let e : expr_of k.args.e.now ≡ s.unary k.in-Un.op (expr_of k.get.result.now) = unary_at _ k.in-Un.op k.in-Un.a _ k.in-Un.is k.get.ensures in
    let f : SFits w64 k.in_ok-z-in-Un.z = search rules in
    let h : IsNumber (Ok k.in_ok-z-in-Un.z) (number_of q.program q.func (expr_of k.get.result.now) q.frame q.objects) =
    known_number k.operand.result k.in_ok-z-in-Un.z _ k.in_ok-z-in-Un.was (k.operand.ensures q) in
    ok_number k.apply.result k.ok.result _ k.ok.ensures.value
    (at_expr q.program q.func q.frame q.objects k.apply.result (expr_of k.args.e.now) (s.unary k.in-Un.op (expr_of k.get.result.now)) e
    (unary_number q.program q.func q.frame q.objects k.in-Un.op (expr_of k.get.result.now) (Ok k.in_ok-z-in-Un.z) h k.in_ok-z-in-Un.z k.apply.result refl
    (k.apply.ensures ∙ ap (λ z. applied k.in-Un.op z (pos 0)) (to_z-of_z w64 k.in_ok-z-in-Un.z f))))

pub trapless_number-returns-in-Left : goal.trapless_number-returns-in-Left
trapless_number-returns-in-Left t k = λ q.
    let e : expr_of k.args.e.now ≡ s.binary k.in-Bin.op (expr_of k.get-in-Bin.result.now) (expr_of k.in-Bin.b) =
    binary_at _ k.in-Bin.op k.in-Bin.a k.in-Bin.b _ _ k.in-Bin.is k.get-in-Bin.ensures refl in
    let f : SFits w64 k.in_ok-z-in-Bin.z = search rules in
    let h : IsNumber (Ok k.in_ok-z-in-Bin.z) (number_of q.program q.func (expr_of k.get-in-Bin.result.now) q.frame q.objects) =
    known_number k.operand-in-Bin.result k.in_ok-z-in-Bin.z _ k.in_ok-z-in-Bin.was (k.operand-in-Bin.ensures q) in
    let asked : IsAsked k.in-Bin.op k.in_ok-z-in-Bin.z Left =
    subst (λ z. IsAsked k.in-Bin.op z Left) (to_z-of_z w64 k.in_ok-z-in-Bin.z f) (subst (IsAsked k.in-Bin.op _) k.in-Left.is k.asked.ensures) in
    subst (λ z. IsNumber (Ok z) (number_of q.program q.func (expr_of k.args.e.now) q.frame q.objects)) (sym (to_z-of_z w64 k.in_ok-z-in-Bin.z f))
    (at_expr q.program q.func q.frame q.objects (Ok k.in_ok-z-in-Bin.z) (expr_of k.args.e.now) _ e
    (binary_number q.program q.func q.frame q.objects k.in-Bin.op (expr_of k.get-in-Bin.result.now) (Ok k.in_ok-z-in-Bin.z) h (expr_of k.in-Bin.b) k.in_ok-z-in-Bin.z (Ok k.in_ok-z-in-Bin.z) Left refl asked refl))

pub trapless_number-returns-in-Right : goal.trapless_number-returns-in-Right
trapless_number-returns-in-Right t k = λ q.
    let e : expr_of k.args.e.now ≡ s.binary k.in-Bin.op (expr_of k.get-in-Bin.result.now) (expr_of k.get-in-Right.result.now) =
    binary_at _ k.in-Bin.op k.in-Bin.a k.in-Bin.b _ _ k.in-Bin.is k.get-in-Bin.ensures k.get-in-Right.ensures in
    let f : SFits w64 k.in_ok-z-in-Bin.z = search rules in
    let h : IsNumber (Ok k.in_ok-z-in-Bin.z) (number_of q.program q.func (expr_of k.get-in-Bin.result.now) q.frame q.objects) =
    known_number k.operand-in-Bin.result k.in_ok-z-in-Bin.z _ k.in_ok-z-in-Bin.was (k.operand-in-Bin.ensures q) in
    let asked : IsAsked k.in-Bin.op k.in_ok-z-in-Bin.z Right =
    subst (λ z. IsAsked k.in-Bin.op z Right) (to_z-of_z w64 k.in_ok-z-in-Bin.z f) (subst (IsAsked k.in-Bin.op _) k.in-Right.is k.asked.ensures) in
    each_number k.operand-in-Right.result _ _
    (λ z y. at_expr q.program q.func q.frame q.objects (Ok z) (expr_of k.args.e.now) _ e
    (binary_number q.program q.func q.frame q.objects k.in-Bin.op (expr_of k.get-in-Bin.result.now) (Ok k.in_ok-z-in-Bin.z) h (expr_of k.get-in-Right.result.now) k.in_ok-z-in-Bin.z (Ok z) Right refl asked y))
    (k.operand-in-Right.ensures q)

pub trapless_number-returns-in_ok-y-in-Both : goal.trapless_number-returns-in_ok-y-in-Both
trapless_number-returns-in_ok-y-in-Both t k = λ q.
    let e : expr_of k.args.e.now ≡ s.binary k.in-Bin.op (expr_of k.get-in-Bin.result.now) (expr_of k.get-in-Both.result.now) =
    binary_at _ k.in-Bin.op k.in-Bin.a k.in-Bin.b _ _ k.in-Bin.is k.get-in-Bin.ensures k.get-in-Both.ensures in
    let f : SFits w64 k.in_ok-z-in-Bin.z = search rules in
    let g : SFits w64 k.in_ok-y-in-Both.y = search rules in
    let h : IsNumber (Ok k.in_ok-z-in-Bin.z) (number_of q.program q.func (expr_of k.get-in-Bin.result.now) q.frame q.objects) =
    known_number k.operand-in-Bin.result k.in_ok-z-in-Bin.z _ k.in_ok-z-in-Bin.was (k.operand-in-Bin.ensures q) in
    let second : IsNumber (Ok k.in_ok-y-in-Both.y) (number_of q.program q.func (expr_of k.get-in-Both.result.now) q.frame q.objects) =
    known_number k.operand-in-Both.result k.in_ok-y-in-Both.y _ k.in_ok-y-in-Both.was (k.operand-in-Both.ensures q) in
    let asked : IsAsked k.in-Bin.op k.in_ok-z-in-Bin.z Both =
    subst (λ z. IsAsked k.in-Bin.op z Both) (to_z-of_z w64 k.in_ok-z-in-Bin.z f) (subst (IsAsked k.in-Bin.op _) k.in-Both.is k.asked.ensures) in
    let is : k.apply-in-Both.result ≡ applied k.in-Bin.op k.in_ok-z-in-Bin.z k.in_ok-y-in-Both.y =
    k.apply-in-Both.ensures ∙ ap (λ z. applied k.in-Bin.op z (to_z w64 (of_z w64 k.in_ok-y-in-Both.y))) (to_z-of_z w64 k.in_ok-z-in-Bin.z f) ∙ ap (λ z. applied k.in-Bin.op k.in_ok-z-in-Bin.z z) (to_z-of_z w64 k.in_ok-y-in-Both.y g) in
    ok_number k.apply-in-Both.result k.ok-in-Both.result _ k.ok-in-Both.ensures.value
    (at_expr q.program q.func q.frame q.objects k.apply-in-Both.result (expr_of k.args.e.now) _ e
    (binary_number q.program q.func q.frame q.objects k.in-Bin.op (expr_of k.get-in-Bin.result.now) (Ok k.in_ok-z-in-Bin.z) h (expr_of k.get-in-Both.result.now) k.in_ok-z-in-Bin.z k.apply-in-Both.result Both refl asked
    (both_number q.program q.func q.frame q.objects k.in-Bin.op (expr_of k.get-in-Bin.result.now) (Ok k.in_ok-z-in-Bin.z) h (expr_of k.get-in-Both.result.now) k.in_ok-z-in-Bin.z k.in_ok-y-in-Both.y (Ok k.in_ok-y-in-Both.y) k.apply-in-Both.result second refl is)))
