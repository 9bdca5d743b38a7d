use Rattle.std.proofs.Common.{rules, refl, ap, subst, ◌∙◌, ◌≡◌, Ok, Err, pos, SFits, w64, to_z, of_z}
use Rattle.std.proofs.lemmas.Int.{to_z-of_z}
use Rattle.vlt_ops.specs.Operator.{applied}
use Rattle.vlt_core.specs.Core as s
use Rattle.vlt_core.specs.View.{expr_of}
use Rattle.vlt_meaning.specs.World.{no_value}
use Rattle.vlt_meaning.specs.Found.{or_fault}
use Rattle.vlt_meaning.specs.Values.{is_number, value_of}
use Rattle.vlt_acts.specs.declared.values.exprs.Sides.TheVariants.{Left, Right, Both}
use Rattle.vlt_acts.specs.Values.Asked.{IsAsked, of_both}
use Rattle.vlt_acts.proofs.OfValues.Forms.{var_at, unary_at, binary_at}
use Rattle.vlt_acts.proofs.OfValues.Numbers.{unary_number, both_number}
use Rattle.vlt_acts.proofs.OfValues.Writing.{at_form, var_copied, copied_written, numeric_unary, numeric_both, trapped_both, written_binary}
use Rattle.vlt_acts.proofs.values.writes.+write.Goals as goal

pub returns-in-Var-clause-value : goal.returns-in-Var-clause-value
returns-in-Var-clause-value n k = λ q place.
    at_form q.program q.func q.frame q.objects q.items k.copy_var.new.self k.args.to (Ok tt) (expr_of k.args.e.now) (s.var k.in-Var.v.0) (var_at _ k.in-Var.v k.in-Var.is)
    (copied_written q.items k.copy_var.new.self k.args.to (or_fault no_value (q.frame.vars k.in-Var.v.0))
    (var_copied k.args.heap.now k.args.values.now k.copy_var.new.self q k.in-Var.v.0 k.args.to place k.copy_var.ensures.kept.width k.copy_var.ensures.filled))

pub returns-in-Left-clause-value : goal.returns-in-Left-clause-value
returns-in-Left-clause-value n k = λ q place.
    let e : expr_of k.args.e.now ≡ s.binary k.in-Bin.op (expr_of k.get.result.now) (expr_of k.in-Bin.b) = binary_at _ k.in-Bin.op k.in-Bin.a k.in-Bin.b _ _ k.in-Bin.is k.get.ensures refl in
    let f : SFits w64 k.in-Ok.z = search rules in
    let asked : IsAsked k.in-Bin.op k.in-Ok.z Left = subst (λ z. IsAsked k.in-Bin.op z Left) (to_z-of_z w64 k.in-Ok.z f) (subst (IsAsked k.in-Bin.op _) k.in-Left.is k.asked.ensures) in
    at_form q.program q.func q.frame q.objects q.items k.write_number.new.values k.args.to k.write_number.result (expr_of k.args.e.now) _ e
    (written_binary q.program q.func q.frame q.objects k.in-Bin.op (expr_of k.get.result.now) (expr_of k.in-Bin.b) k.number.result (k.number.ensures q) q.items k.write_number.new.values k.args.to k.in-Ok.z k.write_number.result Left k.in-Ok.is asked
    (k.write_number.ensures.value q.items (is_number k.in-Ok.z) tt (ap (λ z. Ok z) (to_z-of_z w64 k.in-Ok.z f))))

pub returns-in-Right-clause-value : goal.returns-in-Right-clause-value
returns-in-Right-clause-value n k = λ q place.
    let e : expr_of k.args.e.now ≡ s.binary k.in-Bin.op (expr_of k.get.result.now) (expr_of k.get-in-Right.result.now) = binary_at _ k.in-Bin.op k.in-Bin.a k.in-Bin.b _ _ k.in-Bin.is k.get.ensures k.get-in-Right.ensures in
    let f : SFits w64 k.in-Ok.z = search rules in
    let asked : IsAsked k.in-Bin.op k.in-Ok.z Right = subst (λ z. IsAsked k.in-Bin.op z Right) (to_z-of_z w64 k.in-Ok.z f) (subst (IsAsked k.in-Bin.op _) k.in-Right.is k.asked.ensures) in
    at_form q.program q.func q.frame q.objects q.items k.write.new.values k.args.to k.write.result (expr_of k.args.e.now) _ e
    (written_binary q.program q.func q.frame q.objects k.in-Bin.op (expr_of k.get.result.now) (expr_of k.get-in-Right.result.now) k.number.result (k.number.ensures q) q.items k.write.new.values k.args.to k.in-Ok.z k.write.result Right k.in-Ok.is asked
    (k.write.ensures.value q place))

pub returns-in-Ok-number-clause-value : goal.returns-in-Ok-number-clause-value
returns-in-Ok-number-clause-value n k = λ q place.
    let e : expr_of k.args.e.now ≡ s.binary k.in-Bin.op (expr_of k.get.result.now) (expr_of k.get-in-Both.result.now) = binary_at _ k.in-Bin.op k.in-Bin.a k.in-Bin.b _ _ k.in-Bin.is k.get.ensures k.get-in-Both.ensures in
    let f : SFits w64 k.in-Ok.z = search rules in
    let g : SFits w64 k.in-Ok-number.y = search rules in
    let asked : IsAsked k.in-Bin.op k.in-Ok.z Both = subst (λ z. IsAsked k.in-Bin.op z Both) (to_z-of_z w64 k.in-Ok.z f) (subst (IsAsked k.in-Bin.op _) k.in-Both.is k.asked.ensures) in
    let is : k.apply.result ≡ applied k.in-Bin.op k.in-Ok.z k.in-Ok-number.y =
    k.apply.ensures ∙ ap (λ z. applied k.in-Bin.op z (to_z w64 (of_z w64 k.in-Ok-number.y))) (to_z-of_z w64 k.in-Ok.z f) ∙ ap (λ z. applied k.in-Bin.op k.in-Ok.z z) (to_z-of_z w64 k.in-Ok-number.y g) in
    at_form q.program q.func q.frame q.objects q.items k.write_number-in-Ok-number.new.values k.args.to k.write_number-in-Ok-number.result (expr_of k.args.e.now) _ e
    (written_binary q.program q.func q.frame q.objects k.in-Bin.op (expr_of k.get.result.now) (expr_of k.get-in-Both.result.now) k.number.result (k.number.ensures q) q.items k.write_number-in-Ok-number.new.values k.args.to k.in-Ok.z k.write_number-in-Ok-number.result Both k.in-Ok.is asked
    (k.write_number-in-Ok-number.ensures.value q.items (of_both k.in-Bin.op k.in-Ok.z (value_of q.program q.func (expr_of k.get-in-Both.result.now) q.frame q.objects)) (numeric_both k.in-Bin.op k.in-Ok.z (value_of q.program q.func (expr_of k.get-in-Both.result.now) q.frame q.objects))
    (both_number q.program q.func q.frame q.objects k.in-Bin.op (expr_of k.get.result.now) k.number.result (k.number.ensures q) (expr_of k.get-in-Both.result.now) k.in-Ok.z k.in-Ok-number.y k.number-in-Both.result k.apply.result (k.number-in-Both.ensures q) k.in-Ok-number.is is)))

pub returns-in-Err-number-clause-value : goal.returns-in-Err-number-clause-value
returns-in-Err-number-clause-value n k = λ q place.
    let e : expr_of k.args.e.now ≡ s.binary k.in-Bin.op (expr_of k.get.result.now) (expr_of k.get-in-Both.result.now) = binary_at _ k.in-Bin.op k.in-Bin.a k.in-Bin.b _ _ k.in-Bin.is k.get.ensures k.get-in-Both.ensures in
    let f : SFits w64 k.in-Ok.z = search rules in
    let asked : IsAsked k.in-Bin.op k.in-Ok.z Both = subst (λ z. IsAsked k.in-Bin.op z Both) (to_z-of_z w64 k.in-Ok.z f) (subst (IsAsked k.in-Bin.op _) k.in-Both.is k.asked.ensures) in
    at_form q.program q.func q.frame q.objects q.items k.args.values.now k.args.to (Err k.in-Err-number.t) (expr_of k.args.e.now) _ e
    (written_binary q.program q.func q.frame q.objects k.in-Bin.op (expr_of k.get.result.now) (expr_of k.get-in-Both.result.now) k.number.result (k.number.ensures q) q.items k.args.values.now k.args.to k.in-Ok.z (Err k.in-Err-number.t) Both k.in-Ok.is asked
    (trapped_both k.in-Bin.op k.in-Ok.z (value_of q.program q.func (expr_of k.get-in-Both.result.now) q.frame q.objects) k.number-in-Both.result k.in-Err-number.t q.items k.args.values.now k.args.to (k.number-in-Both.ensures q) k.in-Err-number.is))

pub returns-in-Ok-number-2-clause-value : goal.returns-in-Ok-number-2-clause-value
returns-in-Ok-number-2-clause-value n k = λ q place.
    let e : expr_of k.args.e.now ≡ s.unary k.in-Un.op (expr_of k.get-in-Un.result.now) = unary_at _ k.in-Un.op k.in-Un.a _ k.in-Un.is k.get-in-Un.ensures in
    let f : SFits w64 k.in-Ok-number-2.z = search rules in
    at_form q.program q.func q.frame q.objects q.items k.write_number-in-Ok-number-2.new.values k.args.to k.write_number-in-Ok-number-2.result (expr_of k.args.e.now) _ e
    (k.write_number-in-Ok-number-2.ensures.value q.items (value_of q.program q.func (s.unary k.in-Un.op (expr_of k.get-in-Un.result.now)) q.frame q.objects) (numeric_unary q.program q.func q.frame q.objects k.in-Un.op (expr_of k.get-in-Un.result.now))
    (unary_number q.program q.func q.frame q.objects k.in-Un.op (expr_of k.get-in-Un.result.now) k.number-in-Un.result (k.number-in-Un.ensures q) k.in-Ok-number-2.z k.apply-in-Ok-number-2.result k.in-Ok-number-2.is
    (k.apply-in-Ok-number-2.ensures ∙ ap (λ z. applied k.in-Un.op z (pos 0)) (to_z-of_z w64 k.in-Ok-number-2.z f))))
