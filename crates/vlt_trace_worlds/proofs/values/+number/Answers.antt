use Rattle.std.proofs.Common.{rules, ◌≡◌, Ok, Err, refl, sym, ap, subst, ◌∙◌, ℤ, pos, SFits, w64, to_z, of_z}
use Rattle.std.proofs.lemmas.Int.{to_z-of_z}
use Rattle.vlt_ops.specs.Operator.{applied}
use Rattle.vlt_core.specs.Core as s
use Rattle.vlt_core.specs.View.{expr_of}
use Rattle.vlt_trace_worlds.specs.declared.values.Sides.TheVariants.{Left, Right, Both}
use Rattle.vlt_trace_worlds.specs.View.{objects_view, found_of, frame_view}
use Rattle.vlt_trace_worlds.specs.Running.{program_in, func_in}
use Rattle.vlt_trace_worlds.specs.Operators.{AreSides}
use Rattle.vlt_trace_worlds.proofs.Forms.{unary_at, binary_at}
use Rattle.vlt_trace_worlds.proofs.Numbers.{un_err, un_ok, un_trap, bin_err, bin_left, bin_right, bin_both_err, bin_both}
use Rattle.vlt_trace_worlds.proofs.values.+number.Goals as goal

pub returns-in-Err-number : goal.returns-in-Err-number
returns-in-Err-number t c =
    let e : expr_of c.args.e.now ≡ s.unary c.in-Un.op (expr_of c.get.result.now) = unary_at _ c.in-Un.op c.in-Un.a _ c.in-Un.is c.get.ensures in
    un_err (program_in c.args.at.now) (func_in c.args.at.now) (frame_view c.args.frame.now) (objects_view c.args.objects.now) _ _ c.in-Un.op _ e
    (sym c.number.ensures ∙ ap (found_of (λ (z : ℤ). z)) c.in-Err-number.is)

pub returns-in-Ok-apply : goal.returns-in-Ok-apply
returns-in-Ok-apply t c =
    let e : expr_of c.args.e.now ≡ s.unary c.in-Un.op (expr_of c.get.result.now) = unary_at _ c.in-Un.op c.in-Un.a _ c.in-Un.is c.get.ensures in
    let f : SFits w64 c.in-Ok-number.z = search rules in
    let g : SFits w64 c.in-Ok-apply.z = search rules in
    ap (λ z. Ok z) (to_z-of_z w64 c.in-Ok-apply.z g)
    ∙ un_ok (program_in c.args.at.now) (func_in c.args.at.now) (frame_view c.args.frame.now) (objects_view c.args.objects.now) _ _ c.in-Un.op c.in-Ok-number.z c.in-Ok-apply.z e
    (sym c.number.ensures ∙ ap (found_of (λ (z : ℤ). z)) c.in-Ok-number.is)
    (sym (c.apply.ensures ∙ ap (λ z. applied c.in-Un.op z (pos 0)) (to_z-of_z w64 c.in-Ok-number.z f)) ∙ c.in-Ok-apply.is)

pub returns-in-Err-apply : goal.returns-in-Err-apply
returns-in-Err-apply t c =
    let e : expr_of c.args.e.now ≡ s.unary c.in-Un.op (expr_of c.get.result.now) = unary_at _ c.in-Un.op c.in-Un.a _ c.in-Un.is c.get.ensures in
    let f : SFits w64 c.in-Ok-number.z = search rules in
    un_trap (program_in c.args.at.now) (func_in c.args.at.now) (frame_view c.args.frame.now) (objects_view c.args.objects.now) _ _ c.in-Un.op c.in-Ok-number.z c.in-Err-apply.t e
    (sym c.number.ensures ∙ ap (found_of (λ (z : ℤ). z)) c.in-Ok-number.is)
    (sym (c.apply.ensures ∙ ap (λ z. applied c.in-Un.op z (pos 0)) (to_z-of_z w64 c.in-Ok-number.z f)) ∙ c.in-Err-apply.is)

pub returns-in-Err-number-2 : goal.returns-in-Err-number-2
returns-in-Err-number-2 t c =
    let e : expr_of c.args.e.now ≡ s.binary c.in-Bin.op (expr_of c.get-in-Bin.result.now) (expr_of c.in-Bin.b) = binary_at _ c.in-Bin.op c.in-Bin.a c.in-Bin.b _ _ c.in-Bin.is c.get-in-Bin.ensures refl in
    bin_err (program_in c.args.at.now) (func_in c.args.at.now) (frame_view c.args.frame.now) (objects_view c.args.objects.now) _ _ _ c.in-Bin.op e _
    (sym c.number-in-Bin.ensures ∙ ap (found_of (λ (z : ℤ). z)) c.in-Err-number-2.is)

pub returns-in-Left : goal.returns-in-Left
returns-in-Left t c =
    let e : expr_of c.args.e.now ≡ s.binary c.in-Bin.op (expr_of c.get-in-Bin.result.now) (expr_of c.in-Bin.b) = binary_at _ c.in-Bin.op c.in-Bin.a c.in-Bin.b _ _ c.in-Bin.is c.get-in-Bin.ensures refl in
    let f : SFits w64 c.in-Ok-number-2.z = search rules in
    let asked : AreSides c.in-Bin.op c.in-Ok-number-2.z Left =
    subst (λ z. AreSides c.in-Bin.op z Left) (to_z-of_z w64 c.in-Ok-number-2.z f) (subst (AreSides c.in-Bin.op _) c.in-Left.is c.sides_of.ensures) in
    ap (λ z. Ok z) (to_z-of_z w64 c.in-Ok-number-2.z f)
    ∙ bin_left (program_in c.args.at.now) (func_in c.args.at.now) (frame_view c.args.frame.now) (objects_view c.args.objects.now) _ _ _ c.in-Bin.op e c.in-Ok-number-2.z
    (sym c.number-in-Bin.ensures ∙ ap (found_of (λ (z : ℤ). z)) c.in-Ok-number-2.is) asked

pub returns-in-Right : goal.returns-in-Right
returns-in-Right t c =
    let e : expr_of c.args.e.now ≡ s.binary c.in-Bin.op (expr_of c.get-in-Bin.result.now) (expr_of c.get-in-Right.result.now) = binary_at _ c.in-Bin.op c.in-Bin.a c.in-Bin.b _ _ c.in-Bin.is c.get-in-Bin.ensures c.get-in-Right.ensures in
    let f : SFits w64 c.in-Ok-number-2.z = search rules in
    let asked : AreSides c.in-Bin.op c.in-Ok-number-2.z Right =
    subst (λ z. AreSides c.in-Bin.op z Right) (to_z-of_z w64 c.in-Ok-number-2.z f) (subst (AreSides c.in-Bin.op _) c.in-Right.is c.sides_of.ensures) in
    bin_right (program_in c.args.at.now) (func_in c.args.at.now) (frame_view c.args.frame.now) (objects_view c.args.objects.now) _ _ _ c.in-Bin.op e c.in-Ok-number-2.z _
    (sym c.number-in-Bin.ensures ∙ ap (found_of (λ (z : ℤ). z)) c.in-Ok-number-2.is) asked c.number-in-Right.ensures

pub returns-in-Err-number-3 : goal.returns-in-Err-number-3
returns-in-Err-number-3 t c =
    let e : expr_of c.args.e.now ≡ s.binary c.in-Bin.op (expr_of c.get-in-Bin.result.now) (expr_of c.get-in-Both.result.now) = binary_at _ c.in-Bin.op c.in-Bin.a c.in-Bin.b _ _ c.in-Bin.is c.get-in-Bin.ensures c.get-in-Both.ensures in
    let f : SFits w64 c.in-Ok-number-2.z = search rules in
    let asked : AreSides c.in-Bin.op c.in-Ok-number-2.z Both =
    subst (λ z. AreSides c.in-Bin.op z Both) (to_z-of_z w64 c.in-Ok-number-2.z f) (subst (AreSides c.in-Bin.op _) c.in-Both.is c.sides_of.ensures) in
    bin_both_err (program_in c.args.at.now) (func_in c.args.at.now) (frame_view c.args.frame.now) (objects_view c.args.objects.now) _ _ _ c.in-Bin.op e c.in-Ok-number-2.z _
    (sym c.number-in-Bin.ensures ∙ ap (found_of (λ (z : ℤ). z)) c.in-Ok-number-2.is) asked
    (sym c.number-in-Both.ensures ∙ ap (found_of (λ (z : ℤ). z)) c.in-Err-number-3.is)

pub returns-in-Ok-apply-2 : goal.returns-in-Ok-apply-2
returns-in-Ok-apply-2 t c =
    let e : expr_of c.args.e.now ≡ s.binary c.in-Bin.op (expr_of c.get-in-Bin.result.now) (expr_of c.get-in-Both.result.now) = binary_at _ c.in-Bin.op c.in-Bin.a c.in-Bin.b _ _ c.in-Bin.is c.get-in-Bin.ensures c.get-in-Both.ensures in
    let f : SFits w64 c.in-Ok-number-2.z = search rules in
    let g : SFits w64 c.in-Ok-number-3.y = search rules in
    let h : SFits w64 c.in-Ok-apply-2.z = search rules in
    let asked : AreSides c.in-Bin.op c.in-Ok-number-2.z Both =
    subst (λ z. AreSides c.in-Bin.op z Both) (to_z-of_z w64 c.in-Ok-number-2.z f) (subst (AreSides c.in-Bin.op _) c.in-Both.is c.sides_of.ensures) in
    let is : c.apply-in-Ok-number-3.result ≡ applied c.in-Bin.op c.in-Ok-number-2.z c.in-Ok-number-3.y =
    c.apply-in-Ok-number-3.ensures ∙ ap (λ z. applied c.in-Bin.op z (to_z w64 (of_z w64 c.in-Ok-number-3.y))) (to_z-of_z w64 c.in-Ok-number-2.z f) ∙ ap (λ z. applied c.in-Bin.op c.in-Ok-number-2.z z) (to_z-of_z w64 c.in-Ok-number-3.y g) in
    ap (λ z. Ok z) (to_z-of_z w64 c.in-Ok-apply-2.z h)
    ∙ bin_both (program_in c.args.at.now) (func_in c.args.at.now) (frame_view c.args.frame.now) (objects_view c.args.objects.now) _ _ _ c.in-Bin.op e c.in-Ok-number-2.z c.in-Ok-number-3.y (Ok c.in-Ok-apply-2.z)
    (sym c.number-in-Bin.ensures ∙ ap (found_of (λ (z : ℤ). z)) c.in-Ok-number-2.is) asked
    (sym c.number-in-Both.ensures ∙ ap (found_of (λ (z : ℤ). z)) c.in-Ok-number-3.is)
    (sym is ∙ c.in-Ok-apply-2.is)

pub returns-in-Err-apply-2 : goal.returns-in-Err-apply-2
returns-in-Err-apply-2 t c =
    let e : expr_of c.args.e.now ≡ s.binary c.in-Bin.op (expr_of c.get-in-Bin.result.now) (expr_of c.get-in-Both.result.now) = binary_at _ c.in-Bin.op c.in-Bin.a c.in-Bin.b _ _ c.in-Bin.is c.get-in-Bin.ensures c.get-in-Both.ensures in
    let f : SFits w64 c.in-Ok-number-2.z = search rules in
    let g : SFits w64 c.in-Ok-number-3.y = search rules in
    let asked : AreSides c.in-Bin.op c.in-Ok-number-2.z Both =
    subst (λ z. AreSides c.in-Bin.op z Both) (to_z-of_z w64 c.in-Ok-number-2.z f) (subst (AreSides c.in-Bin.op _) c.in-Both.is c.sides_of.ensures) in
    let is : c.apply-in-Ok-number-3.result ≡ applied c.in-Bin.op c.in-Ok-number-2.z c.in-Ok-number-3.y =
    c.apply-in-Ok-number-3.ensures ∙ ap (λ z. applied c.in-Bin.op z (to_z w64 (of_z w64 c.in-Ok-number-3.y))) (to_z-of_z w64 c.in-Ok-number-2.z f) ∙ ap (λ z. applied c.in-Bin.op c.in-Ok-number-2.z z) (to_z-of_z w64 c.in-Ok-number-3.y g) in
    bin_both (program_in c.args.at.now) (func_in c.args.at.now) (frame_view c.args.frame.now) (objects_view c.args.objects.now) _ _ _ c.in-Bin.op e c.in-Ok-number-2.z c.in-Ok-number-3.y (Err c.in-Err-apply-2.t)
    (sym c.number-in-Bin.ensures ∙ ap (found_of (λ (z : ℤ). z)) c.in-Ok-number-2.is) asked
    (sym c.number-in-Both.ensures ∙ ap (found_of (λ (z : ℤ). z)) c.in-Ok-number-3.is)
    (sym is ∙ c.in-Err-apply-2.is)
