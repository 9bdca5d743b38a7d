use Rattle.std.proofs.Common.{rules, refl, sym, ap, subst, ◌∙◌, ◌≡◌, Ok, Err, pos, SFits, w64}
use Rattle.std.proofs.lemmas.Int.{to_z-of_z}
use Rattle.vlt_ops.specs.Operator.{applied}
use Rattle.c_syntax.specs.C as c
use Rattle.c_syntax.specs.View.{expr_of}
use Rattle.c_meaning.specs.Values.{or_rule, value_of}
use Rattle.c_memory.specs.Shown.{blocks_of}
use Rattle.c_values.specs.declared.value.Value.TheVariants.{Number}
use Rattle.c_values.specs.Shown.{shown_vars, IsValue, IsDecided}
use Rattle.c_values.proofs.Forms.{var_at, unary_at, binary_at}
use Rattle.c_values.proofs.Evaluating.{at_expr, var_value, unary_value, unary_other, unary_rule, binary_decided, binary_value, binary_other, binary_rule, left_other, left_rule}
use Rattle.c_values.proofs.exprs.+value.Goals as goal

pub returns-in-Some : goal.returns-in-Some
returns-in-Some n k = λ ts holds made.
    let e : expr_of k.args.e.now ≡ c.variable k.in-Var.v = var_at _ k.in-Var.v k.in-Var.is in
    at_expr ts (shown_vars k.args.vars) (blocks_of k.args.blocks.now ts) (Ok k.in-Some.a) (expr_of k.args.e.now) (c.variable k.in-Var.v) e (var_value ts (shown_vars k.args.vars) k.in-Var.v k.get.result k.in-Some.a k.get.ensures.shown k.in-Some.is (k.in-Some.ensures.made ts made))

pub returns-in-Ok-Number : goal.returns-in-Ok-Number
returns-in-Ok-Number n k = λ ts holds made.
    let e : expr_of k.args.e.now ≡ c.unary k.in-Unary.op (expr_of k.get-in-Unary.result.now) = unary_at _ k.in-Unary.op k.in-Unary.a _ k.in-Unary.is k.get-in-Unary.ensures in
    let f : SFits w64 k.in-Ok-Number.z = search rules in
    at_expr ts (shown_vars k.args.vars) (blocks_of k.args.blocks.now ts) k.operate.result (expr_of k.args.e.now) (c.unary k.in-Unary.op (expr_of k.get-in-Unary.result.now)) e
    (unary_value ts (shown_vars k.args.vars) (blocks_of k.args.blocks.now ts) k.in-Unary.op (expr_of k.get-in-Unary.result.now) k.value.result (k.value.ensures ts holds made) k.in-Ok-Number.z k.operate.result (k.in-Ok-Number.is ∙ ap (λ x. Ok x) k.in-Ok-Number.field-0-is) (subst (λ z. IsValue ts k.operate.result (or_rule (applied k.in-Unary.op z (pos 0)))) (to_z-of_z w64 k.in-Ok-Number.z f) (k.operate.ensures ts)))

pub returns-in-Ok-Reference : goal.returns-in-Ok-Reference
returns-in-Ok-Reference n k = λ ts holds made.
    let e : expr_of k.args.e.now ≡ c.unary k.in-Unary.op (expr_of k.get-in-Unary.result.now) = unary_at _ k.in-Unary.op k.in-Unary.a _ k.in-Unary.is k.get-in-Unary.ensures in
    at_expr ts (shown_vars k.args.vars) (blocks_of k.args.blocks.now ts) (Err 5) (expr_of k.args.e.now) (c.unary k.in-Unary.op (expr_of k.get-in-Unary.result.now)) e (unary_other ts (shown_vars k.args.vars) (blocks_of k.args.blocks.now ts) k.in-Unary.op (expr_of k.get-in-Unary.result.now) k.value.result (k.value.ensures ts holds made) k.in-Ok-Reference.field-0-0 (k.in-Ok-Reference.is ∙ ap (λ x. Ok x) k.in-Ok-Reference.field-0-is))

pub returns-in-Err : goal.returns-in-Err
returns-in-Err n k = λ ts holds made.
    let e : expr_of k.args.e.now ≡ c.unary k.in-Unary.op (expr_of k.get-in-Unary.result.now) = unary_at _ k.in-Unary.op k.in-Unary.a _ k.in-Unary.is k.get-in-Unary.ensures in
    at_expr ts (shown_vars k.args.vars) (blocks_of k.args.blocks.now ts) (Err k.in-Err.rule) (expr_of k.args.e.now) (c.unary k.in-Unary.op (expr_of k.get-in-Unary.result.now)) e (unary_rule ts (shown_vars k.args.vars) (blocks_of k.args.blocks.now ts) k.in-Unary.op (expr_of k.get-in-Unary.result.now) k.value.result (k.value.ensures ts holds made) k.in-Err.rule k.in-Err.is)

pub returns-in-Some-decided : goal.returns-in-Some-decided
returns-in-Some-decided n k = λ ts holds made.
    let e : expr_of k.args.e.now ≡ c.binary k.in-Binary.op (expr_of k.get-in-Binary.result.now) (expr_of k.in-Binary.b) = binary_at _ k.in-Binary.op k.in-Binary.a k.in-Binary.b _ _ k.in-Binary.is k.get-in-Binary.ensures refl in
    let f : SFits w64 k.in-Ok-Number-value.x = search rules in
    let g : SFits w64 k.in-Some-decided.z = search rules in
    subst (λ z. IsValue ts (Ok (Number z)) (value_of (expr_of k.args.e.now) (shown_vars k.args.vars) (blocks_of k.args.blocks.now ts))) (sym (to_z-of_z w64 k.in-Some-decided.z g))
    (at_expr ts (shown_vars k.args.vars) (blocks_of k.args.blocks.now ts) (Ok (Number k.in-Some-decided.z)) (expr_of k.args.e.now) (c.binary k.in-Binary.op (expr_of k.get-in-Binary.result.now) (expr_of k.in-Binary.b)) e
    (binary_decided ts (shown_vars k.args.vars) (blocks_of k.args.blocks.now ts) k.in-Binary.op (expr_of k.get-in-Binary.result.now) k.value-in-Binary.result (k.value-in-Binary.ensures ts holds made) (expr_of k.in-Binary.b) k.in-Ok-Number-value.x k.in-Some-decided.z k.decided.result (k.in-Ok-Number-value.is ∙ ap (λ x. Ok x) k.in-Ok-Number-value.field-0-is) (subst (λ z. IsDecided k.in-Binary.op z k.decided.result) (to_z-of_z w64 k.in-Ok-Number-value.x f) k.decided.ensures) k.in-Some-decided.is))

pub returns-in-Ok-Number-value-2 : goal.returns-in-Ok-Number-value-2
returns-in-Ok-Number-value-2 n k = λ ts holds made.
    let e : expr_of k.args.e.now ≡ c.binary k.in-Binary.op (expr_of k.get-in-Binary.result.now) (expr_of k.get-in-None-decided.result.now) = binary_at _ k.in-Binary.op k.in-Binary.a k.in-Binary.b _ _ k.in-Binary.is k.get-in-Binary.ensures k.get-in-None-decided.ensures in
    let f : SFits w64 k.in-Ok-Number-value.x = search rules in
    let g : SFits w64 k.in-Ok-Number-value-2.y = search rules in
    at_expr ts (shown_vars k.args.vars) (blocks_of k.args.blocks.now ts) k.operate-in-Ok-Number-value-2.result (expr_of k.args.e.now) (c.binary k.in-Binary.op (expr_of k.get-in-Binary.result.now) (expr_of k.get-in-None-decided.result.now)) e
    (binary_value ts (shown_vars k.args.vars) (blocks_of k.args.blocks.now ts) k.in-Binary.op (expr_of k.get-in-Binary.result.now) k.value-in-Binary.result (k.value-in-Binary.ensures ts holds made) (expr_of k.get-in-None-decided.result.now) k.in-Ok-Number-value.x k.in-Ok-Number-value-2.y k.decided.result k.value-in-None-decided.result k.operate-in-Ok-Number-value-2.result (k.in-Ok-Number-value.is ∙ ap (λ x. Ok x) k.in-Ok-Number-value.field-0-is) (subst (λ z. IsDecided k.in-Binary.op z k.decided.result) (to_z-of_z w64 k.in-Ok-Number-value.x f) k.decided.ensures) k.in-None-decided.is (k.value-in-None-decided.ensures ts holds made) (k.in-Ok-Number-value-2.is ∙ ap (λ x. Ok x) k.in-Ok-Number-value-2.field-0-is)
    (rw (← to_z-of_z w64 k.in-Ok-Number-value-2.y g, ← to_z-of_z w64 k.in-Ok-Number-value.x f) (k.operate-in-Ok-Number-value-2.ensures ts)))

pub returns-in-Ok-Reference-value-2 : goal.returns-in-Ok-Reference-value-2
returns-in-Ok-Reference-value-2 n k = λ ts holds made.
    let e : expr_of k.args.e.now ≡ c.binary k.in-Binary.op (expr_of k.get-in-Binary.result.now) (expr_of k.get-in-None-decided.result.now) = binary_at _ k.in-Binary.op k.in-Binary.a k.in-Binary.b _ _ k.in-Binary.is k.get-in-Binary.ensures k.get-in-None-decided.ensures in
    let f : SFits w64 k.in-Ok-Number-value.x = search rules in
    at_expr ts (shown_vars k.args.vars) (blocks_of k.args.blocks.now ts) (Err 5) (expr_of k.args.e.now) (c.binary k.in-Binary.op (expr_of k.get-in-Binary.result.now) (expr_of k.get-in-None-decided.result.now)) e
    (binary_other ts (shown_vars k.args.vars) (blocks_of k.args.blocks.now ts) k.in-Binary.op (expr_of k.get-in-Binary.result.now) k.value-in-Binary.result (k.value-in-Binary.ensures ts holds made) (expr_of k.get-in-None-decided.result.now) k.in-Ok-Number-value.x k.decided.result k.value-in-None-decided.result k.in-Ok-Reference-value-2.field-0-0 (k.in-Ok-Number-value.is ∙ ap (λ x. Ok x) k.in-Ok-Number-value.field-0-is) (subst (λ z. IsDecided k.in-Binary.op z k.decided.result) (to_z-of_z w64 k.in-Ok-Number-value.x f) k.decided.ensures) k.in-None-decided.is (k.value-in-None-decided.ensures ts holds made) (k.in-Ok-Reference-value-2.is ∙ ap (λ x. Ok x) k.in-Ok-Reference-value-2.field-0-is))

pub returns-in-Err-value-2 : goal.returns-in-Err-value-2
returns-in-Err-value-2 n k = λ ts holds made.
    let e : expr_of k.args.e.now ≡ c.binary k.in-Binary.op (expr_of k.get-in-Binary.result.now) (expr_of k.get-in-None-decided.result.now) = binary_at _ k.in-Binary.op k.in-Binary.a k.in-Binary.b _ _ k.in-Binary.is k.get-in-Binary.ensures k.get-in-None-decided.ensures in
    let f : SFits w64 k.in-Ok-Number-value.x = search rules in
    at_expr ts (shown_vars k.args.vars) (blocks_of k.args.blocks.now ts) (Err k.in-Err-value-2.rule) (expr_of k.args.e.now) (c.binary k.in-Binary.op (expr_of k.get-in-Binary.result.now) (expr_of k.get-in-None-decided.result.now)) e
    (binary_rule ts (shown_vars k.args.vars) (blocks_of k.args.blocks.now ts) k.in-Binary.op (expr_of k.get-in-Binary.result.now) k.value-in-Binary.result (k.value-in-Binary.ensures ts holds made) (expr_of k.get-in-None-decided.result.now) k.in-Ok-Number-value.x k.decided.result k.value-in-None-decided.result k.in-Err-value-2.rule (k.in-Ok-Number-value.is ∙ ap (λ x. Ok x) k.in-Ok-Number-value.field-0-is) (subst (λ z. IsDecided k.in-Binary.op z k.decided.result) (to_z-of_z w64 k.in-Ok-Number-value.x f) k.decided.ensures) k.in-None-decided.is (k.value-in-None-decided.ensures ts holds made) k.in-Err-value-2.is)

pub returns-in-Ok-Reference-value : goal.returns-in-Ok-Reference-value
returns-in-Ok-Reference-value n k = λ ts holds made.
    let e : expr_of k.args.e.now ≡ c.binary k.in-Binary.op (expr_of k.get-in-Binary.result.now) (expr_of k.in-Binary.b) = binary_at _ k.in-Binary.op k.in-Binary.a k.in-Binary.b _ _ k.in-Binary.is k.get-in-Binary.ensures refl in
    at_expr ts (shown_vars k.args.vars) (blocks_of k.args.blocks.now ts) (Err 5) (expr_of k.args.e.now) (c.binary k.in-Binary.op (expr_of k.get-in-Binary.result.now) (expr_of k.in-Binary.b)) e (left_other ts (shown_vars k.args.vars) (blocks_of k.args.blocks.now ts) k.in-Binary.op (expr_of k.get-in-Binary.result.now) k.value-in-Binary.result (k.value-in-Binary.ensures ts holds made) (expr_of k.in-Binary.b) k.in-Ok-Reference-value.field-0-0 (k.in-Ok-Reference-value.is ∙ ap (λ x. Ok x) k.in-Ok-Reference-value.field-0-is))

pub returns-in-Err-value : goal.returns-in-Err-value
returns-in-Err-value n k = λ ts holds made.
    let e : expr_of k.args.e.now ≡ c.binary k.in-Binary.op (expr_of k.get-in-Binary.result.now) (expr_of k.in-Binary.b) = binary_at _ k.in-Binary.op k.in-Binary.a k.in-Binary.b _ _ k.in-Binary.is k.get-in-Binary.ensures refl in
    at_expr ts (shown_vars k.args.vars) (blocks_of k.args.blocks.now ts) (Err k.in-Err-value.rule) (expr_of k.args.e.now) (c.binary k.in-Binary.op (expr_of k.get-in-Binary.result.now) (expr_of k.in-Binary.b)) e (left_rule ts (shown_vars k.args.vars) (blocks_of k.args.blocks.now ts) k.in-Binary.op (expr_of k.get-in-Binary.result.now) k.value-in-Binary.result (k.value-in-Binary.ensures ts holds made) (expr_of k.in-Binary.b) k.in-Err-value.rule k.in-Err-value.is)
