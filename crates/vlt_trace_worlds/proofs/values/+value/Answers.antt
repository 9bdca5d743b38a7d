use Rattle.std.proofs.Common.{rules, ◌≡◌, Ok, refl, sym, ap, subst, ◌∙◌, ℤ, SFits, w64}
use Rattle.std.proofs.lemmas.Int.{to_z-of_z}
use Rattle.vlt_core.specs.Core as s
use Rattle.vlt_core.specs.View.{expr_of}
use Rattle.vlt_meaning.specs.World.{one}
use Rattle.vlt_meaning.specs.World as m
use Rattle.vlt_meaning.specs.Values.{value_of}
use Rattle.vlt_trace_worlds.specs.declared.values.Sides.TheVariants.{Left, Right, Both}
use Rattle.vlt_trace_worlds.specs.View.{objects_view, found_of, frame_view, value_view}
use Rattle.vlt_trace_worlds.specs.Running.{program_in, func_in}
use Rattle.vlt_trace_worlds.specs.Steps.{Finds}
use Rattle.vlt_trace_worlds.specs.Operators.{AreSides, of_both}
use Rattle.vlt_trace_worlds.proofs.Forms.{binary_at}
use Rattle.vlt_trace_worlds.proofs.Numbers.{bin_value, bin_value_err}
use Rattle.vlt_trace_worlds.proofs.values.+value.Goals as goal

pub returns-in-Err-number : goal.returns-in-Err-number
returns-in-Err-number t c =
    let e : expr_of c.args.e.now ≡ s.binary c.in-Bin.op (expr_of c.get-in-Bin.result.now) (expr_of c.in-Bin.b) = binary_at _ c.in-Bin.op c.in-Bin.a c.in-Bin.b _ _ c.in-Bin.is c.get-in-Bin.ensures refl in
    bin_value_err (program_in c.args.at.now) (func_in c.args.at.now) (frame_view c.args.frame.now) (objects_view c.args.objects.now) _ _ _ c.in-Bin.op e _
    (sym c.number-in-Bin.ensures ∙ ap (found_of (λ (z : ℤ). z)) c.in-Err-number.is)

pub returns-in-Left : goal.returns-in-Left
returns-in-Left t c =
    let e : expr_of c.args.e.now ≡ s.binary c.in-Bin.op (expr_of c.get-in-Bin.result.now) (expr_of c.in-Bin.b) = binary_at _ c.in-Bin.op c.in-Bin.a c.in-Bin.b _ _ c.in-Bin.is c.get-in-Bin.ensures refl in
    let f : SFits w64 c.in-Ok-number.z = search rules in
    let asked : AreSides c.in-Bin.op c.in-Ok-number.z Left =
    subst (λ z. AreSides c.in-Bin.op z Left) (to_z-of_z w64 c.in-Ok-number.z f) (subst (AreSides c.in-Bin.op _) c.in-Left.is c.sides_of.ensures) in
    ap (λ z. Ok (one (m.number z))) (to_z-of_z w64 c.in-Ok-number.z f)
    ∙ bin_value (program_in c.args.at.now) (func_in c.args.at.now) (frame_view c.args.frame.now) (objects_view c.args.objects.now) _ _ _ c.in-Bin.op e c.in-Ok-number.z Left _
    (sym c.number-in-Bin.ensures ∙ ap (found_of (λ (z : ℤ). z)) c.in-Ok-number.is) asked refl

pub returns-in-Right : goal.returns-in-Right
returns-in-Right t c =
    let e : expr_of c.args.e.now ≡ s.binary c.in-Bin.op (expr_of c.get-in-Bin.result.now) (expr_of c.get-in-Right.result.now) = binary_at _ c.in-Bin.op c.in-Bin.a c.in-Bin.b _ _ c.in-Bin.is c.get-in-Bin.ensures c.get-in-Right.ensures in
    let f : SFits w64 c.in-Ok-number.z = search rules in
    let asked : AreSides c.in-Bin.op c.in-Ok-number.z Right =
    subst (λ z. AreSides c.in-Bin.op z Right) (to_z-of_z w64 c.in-Ok-number.z f) (subst (AreSides c.in-Bin.op _) c.in-Right.is c.sides_of.ensures) in
    subst (Finds value_view c.value.result)
    (bin_value (program_in c.args.at.now) (func_in c.args.at.now) (frame_view c.args.frame.now) (objects_view c.args.objects.now) _ _ _ c.in-Bin.op e c.in-Ok-number.z Right _
    (sym c.number-in-Bin.ensures ∙ ap (found_of (λ (z : ℤ). z)) c.in-Ok-number.is) asked refl)
    c.value.ensures

pub returns-in-Both : goal.returns-in-Both
returns-in-Both t c =
    let e : expr_of c.args.e.now ≡ s.binary c.in-Bin.op (expr_of c.get-in-Bin.result.now) (expr_of c.get-in-Both.result.now) = binary_at _ c.in-Bin.op c.in-Bin.a c.in-Bin.b _ _ c.in-Bin.is c.get-in-Bin.ensures c.get-in-Both.ensures in
    let f : SFits w64 c.in-Ok-number.z = search rules in
    let asked : AreSides c.in-Bin.op c.in-Ok-number.z Both =
    subst (λ z. AreSides c.in-Bin.op z Both) (to_z-of_z w64 c.in-Ok-number.z f) (subst (AreSides c.in-Bin.op _) c.in-Both.is c.sides_of.ensures) in
    let right = value_of (program_in c.args.at.now) (func_in c.args.at.now) (expr_of c.get-in-Both.result.now) (frame_view c.args.frame.now) (objects_view c.args.objects.now) in
    subst (Finds value_view c.binary_value.result)
    (bin_value (program_in c.args.at.now) (func_in c.args.at.now) (frame_view c.args.frame.now) (objects_view c.args.objects.now) _ _ _ c.in-Bin.op e c.in-Ok-number.z Both _
    (sym c.number-in-Bin.ensures ∙ ap (found_of (λ (z : ℤ). z)) c.in-Ok-number.is) asked refl)
    (subst (λ z. Finds value_view c.binary_value.result (of_both c.in-Bin.op z right)) (to_z-of_z w64 c.in-Ok-number.z f) (c.binary_value.ensures right c.number-in-Both.ensures))
