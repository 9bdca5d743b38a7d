-- Expressions and operands: what is written is read, and what is read was written so.
use Rattle.std.proofs.Common.{◌≡◌, ◌≤◌, refl, sym, ap, ◌∙◌, subst, ℕ, zero, suc, pos, negsuc, nat_le, Bool, true, false, if◌then◌else◌, List, [], ◌∷◌, ◌++◌, Some, None, option_map, option_and_then, IfSome, arith}
use Rattle.std.specs.Prelude.{codes}
use Rattle.std.proofs.lemmas.List.{append_assoc}
use Rattle.serde_json.specs.Data.{Data}
use Rattle.vlt_ops.specs.declared.Op.{Op}
use Rattle.vlt_ops.specs.Operator.{row_of}
use Rattle.vlt_core.specs.Core.{Expr, number, truth, var, field, unary, binary, Operand, pure, move, pack}
use Rattle.cert_rows.specs.Parts.{list, array_in, number_to, single, pair}
use Rattle.cert_rows.specs.Values.{id, flag, mask, tagged_list}
use Rattle.cert_rows.specs.Expressions.{op_at, all_ops, op, is_prefix, depth, most_expression_depth, number_fields, operator_data, expr_items, FitsExpr, stack_with, with_prefix, with_infix, with_operator, stack_of_tag, stack_after, stack_after_all, sole, expr, operand_data, operand_of_tag, FitsOperand, operand}
use Rattle.cert_rows.specs.Laws.{IsPart, AreFields}
use Rattle.cert_rows.proofs.Codec.{and_then_in, weaker, array_read, number_to_part, standing_part, single_fields, pair_fields, list_in_back}
use Rattle.cert_rows.proofs.Valued.{id_part, mask_part, flag_part, tag_step, after_tag, tagged_array}

op_back : (n : ℕ) → n ≤ 17 → (row_of (op_at all_ops n)).number ≡ n
op_back zero h = refl
op_back (suc zero) h = refl
op_back (suc (suc zero)) h = refl
op_back (suc (suc (suc zero))) h = refl
op_back (suc (suc (suc (suc zero)))) h = refl
op_back (suc (suc (suc (suc (suc zero))))) h = refl
op_back (suc (suc (suc (suc (suc (suc zero)))))) h = refl
op_back (suc (suc (suc (suc (suc (suc (suc zero))))))) h = refl
op_back (suc (suc (suc (suc (suc (suc (suc (suc zero)))))))) h = refl
op_back (suc (suc (suc (suc (suc (suc (suc (suc (suc zero))))))))) h = refl
op_back (suc (suc (suc (suc (suc (suc (suc (suc (suc (suc zero)))))))))) h = refl
op_back (suc (suc (suc (suc (suc (suc (suc (suc (suc (suc (suc zero))))))))))) h = refl
op_back (suc (suc (suc (suc (suc (suc (suc (suc (suc (suc (suc (suc zero)))))))))))) h = refl
op_back (suc (suc (suc (suc (suc (suc (suc (suc (suc (suc (suc (suc (suc zero))))))))))))) h = refl
op_back (suc (suc (suc (suc (suc (suc (suc (suc (suc (suc (suc (suc (suc (suc zero)))))))))))))) h = refl
op_back (suc (suc (suc (suc (suc (suc (suc (suc (suc (suc (suc (suc (suc (suc (suc zero))))))))))))))) h = refl
op_back (suc (suc (suc (suc (suc (suc (suc (suc (suc (suc (suc (suc (suc (suc (suc (suc zero)))))))))))))))) h = refl
op_back (suc (suc (suc (suc (suc (suc (suc (suc (suc (suc (suc (suc (suc (suc (suc (suc (suc zero))))))))))))))))) h = refl
op_back (suc (suc (suc (suc (suc (suc (suc (suc (suc (suc (suc (suc (suc (suc (suc (suc (suc (suc n)))))))))))))))))) h = absurd (omega (arith, h))

pub op_part : IsPart op
op_part = standing_part (op_at all_ops) (λ o. (row_of o).number) (number_to 17) (number_to_part 17) op_back

number_law : AreFields number_fields
number_law = single_fields (number_to 9223372036854775807) (number_to_part 9223372036854775807)

op_law : AreFields (single op)
op_law = single_fields op op_part

flag_law : AreFields (single flag)
flag_law = single_fields flag flag_part

id_law : AreFields (single id)
id_law = single_fields id id_part

two_ids : AreFields (pair id id)
two_ids = pair_fields id id id_part id_part

-- ---- written, then read

made : (e : Expr) (es : List Expr) → nat_le (depth e) most_expression_depth ≡ true → stack_with e es ≡ Some (e ∷ es)
made e es is = ap (λ b. if b then Some (e ∷ es) else None) is

pushed_op : (o : Op) (es fs : List Expr) (ds : List Data) → op.Fits o → with_operator es o ≡ Some fs →
    stack_after_all es (operator_data o ∷ ds) ≡ stack_after_all fs ds
pushed_op o es fs ds h is = ap (λ x. option_and_then (λ more. stack_after_all more ds) (option_and_then (with_operator es) x))
    (op_law.back o h) ∙ ap (option_and_then (λ more. stack_after_all more ds)) is

expr_pushed : (e : Expr) → FitsExpr e → (es : List Expr) (ds : List Data) → stack_after_all es (expr_items e ++ ds) ≡ stack_after_all (e ∷ es) ds
expr_pushed (number (pos n)) h es ds =
    ap (λ x. option_and_then (λ more. stack_after_all more ds) (option_map (λ n. number (pos n) ∷ es) x)) (number_law.back n h)
expr_pushed (number (negsuc n)) h es ds = absurd h
expr_pushed (truth b) h es ds = ap (λ x. option_and_then (λ more. stack_after_all more ds) (option_map (λ b. truth b ∷ es) x)) (flag_law.back b h)
expr_pushed (var v) h es ds = ap (λ x. option_and_then (λ more. stack_after_all more ds) (option_map (λ v. var v ∷ es) x)) (id_law.back v h)
expr_pushed (field x i) h es ds =
    ap (λ y. option_and_then (λ more. stack_after_all more ds) (option_map (λ x. field x.0 x.1 ∷ es) y)) (two_ids.back (x, i) h)
expr_pushed (unary o a) h es ds =
    ap (stack_after_all es) (append_assoc (expr_items a) (operator_data o ∷ []) ds) ∙ expr_pushed a h.0 es (operator_data o ∷ ds)
    ∙ pushed_op o (a ∷ es) (unary o a ∷ es) ds h.1 (ap (λ b. if b then with_prefix o (a ∷ es) else with_infix o (a ∷ es)) h.2 ∙
    made (unary o a) es h.3)
expr_pushed (binary o a b) h es ds =
    ap (stack_after_all es) (append_assoc (expr_items a) (expr_items b ++ operator_data o ∷ []) ds ∙
    ap (λ x. expr_items a ++ x) (append_assoc (expr_items b) (operator_data o ∷ []) ds))
    ∙ expr_pushed a h.0 es (expr_items b ++ operator_data o ∷ ds) ∙ expr_pushed b h.1 (a ∷ es) (operator_data o ∷ ds)
    ∙ pushed_op o (b ∷ a ∷ es) (binary o a b ∷ es) ds h.2
    (ap (λ t. if t then with_prefix o (b ∷ a ∷ es) else with_infix o (b ∷ a ∷ es)) h.3 ∙ made (binary o a b) es h.4)

append_nil : (ds : List Data) → ds ++ [] ≡ ds
append_nil [] = refl
append_nil (d ∷ ds) = ap (λ x. d ∷ x) (append_nil ds)

expr_back : (e : Expr) → FitsExpr e → expr.of_data (expr.data_of e) ≡ Some e
expr_back e h = ap (λ ds. option_and_then sole (stack_after_all [] ds)) (list_in_back (expr_items e) ∙
    sym (append_nil (expr_items e))) ∙ ap (option_and_then sole) (expr_pushed e h [] [])

-- ---- read, so written

abbrev stack_items : List Expr → List Data
stack_items [] = []
stack_items (e ∷ es) = stack_items es ++ expr_items e

abbrev FitsStack : List Expr → Type 0
FitsStack [] = Unit {0}
FitsStack (e ∷ es) = FitsExpr e × FitsStack es

abbrev Pushes : List Expr → Data → List Expr → Type 0
Pushes es d fs = (stack_items es ++ d ∷ [] ≡ stack_items fs) × FitsStack fs

shallow_read : (es : List Expr) (d : Data) (e : Expr) (fs : List Expr) → stack_items es ++ d ∷ [] ≡ stack_items (e ∷ fs) →
    (nat_le (depth e) most_expression_depth ≡ true → FitsExpr e) → FitsStack fs → IfSome (stack_with e fs) (Pushes es d)
shallow_read es d e fs is fits rest = by (nat_le (depth e) most_expression_depth) refl
  where
    by : (b : Bool) → nat_le (depth e) most_expression_depth ≡ b → IfSome (if b then Some (e ∷ fs) else None) (Pushes es d)
    by true so = (is, (fits so, rest))
    by false so = tt

prefixed_read : (o : Op) (es : List Expr) → op.Fits o → is_prefix o ≡ true → FitsStack es → IfSome (with_prefix o es) (Pushes es (operator_data o))
prefixed_read o [] h is fits = tt
prefixed_read o (a ∷ es) h is fits =
    shallow_read (a ∷ es) (operator_data o) (unary o a) es (append_assoc (stack_items es) (expr_items a) (operator_data o ∷ []))
    (λ so. (fits.0, h, is, so)) fits.1

infixed_read : (o : Op) (es : List Expr) → op.Fits o → is_prefix o ≡ false → FitsStack es → IfSome (with_infix o es) (Pushes es (operator_data o))
infixed_read o [] h is fits = tt
infixed_read o (b ∷ []) h is fits = tt
infixed_read o (b ∷ a ∷ es) h is fits =
    shallow_read (b ∷ a ∷ es) (operator_data o) (binary o a b) es
    (append_assoc (stack_items es ++ expr_items a) (expr_items b) (operator_data o ∷ []) ∙
    append_assoc (stack_items es) (expr_items a) (expr_items b ++ operator_data o ∷ []))
    (λ so. (fits.1.0, fits.0, h, is, so)) fits.1.1

operated_read : (o : Op) (es : List Expr) → op.Fits o → FitsStack es → IfSome (with_operator es o) (Pushes es (operator_data o))
operated_read o es h fits = by (is_prefix o) refl
  where
    by : (b : Bool) → is_prefix o ≡ b → IfSome (if b then with_prefix o es else with_infix o es) (Pushes es (operator_data o))
    by true is = prefixed_read o es h is fits
    by false is = infixed_read o es h is fits

pushed_read : (es : List Expr) (d : Data) → FitsStack es → IfSome (stack_after es d) (Pushes es d)
pushed_read es d fits = tagged_array (Pushes es d) (stack_of_tag es) d each
  where
    each : (t : List ℕ) (ds : List Data) → d ≡ tagged_list t ds → IfSome (stack_of_tag es t ds) (Pushes es d)
    each t ds is =
        tag_step (Pushes es d) t (codes "n") _ _ (λ e. after_tag (Pushes es d) number_fields number_law (λ n. number (pos n) ∷
        es) ds (λ n k h. (ap (λ x. stack_items es ++ x ∷ []) (is ∙ rw (e, k) refl), (h, fits))))
        (tag_step (Pushes es d) t (codes "b") _ _ (λ e. after_tag (Pushes es d) (single flag) flag_law (λ b. truth b ∷ es) ds
        (λ b k h. (ap (λ x. stack_items es ++ x ∷ []) (is ∙ rw (e, k) refl), (h, fits))))
        (tag_step (Pushes es d) t (codes "v") _ _ (λ e. after_tag (Pushes es d) (single id) id_law (λ v. var v ∷ es) ds
        (λ v k h. (ap (λ x. stack_items es ++ x ∷ []) (is ∙ rw (e, k) refl), (h, fits))))
        (tag_step (Pushes es d) t (codes "f") _ _ (λ e. after_tag (Pushes es d) (pair id id) two_ids (λ x. field x.0 x.1 ∷ es) ds
        (λ x k h. (ap (λ x. stack_items es ++ x ∷ []) (is ∙ rw (e, k) refl), (h, fits))))
        (tag_step (Pushes es d) t (codes "o") _ None (λ e. and_then_in (λ o. (ds ≡ (single op).items o) × op.Fits o) (Pushes es d)
        (with_operator es) ((single op).of_items ds) (op_law.reads ds)
        (λ o h. subst (λ x. IfSome (with_operator es o) (Pushes es x)) (sym (is ∙ rw (e, h.0) refl)) (operated_read o es h.1 fits))) tt))))

all_read : (es : List Expr) (ds : List Data) → FitsStack es →
    IfSome (stack_after_all es ds) (λ fs. (stack_items es ++ ds ≡ stack_items fs) × FitsStack fs)
all_read es [] fits = (append_nil (stack_items es), fits)
all_read es (d ∷ ds) fits =
    and_then_in (Pushes es d) (λ fs. (stack_items es ++ d ∷ ds ≡ stack_items fs) × FitsStack fs) (λ more. stack_after_all more ds)
    (stack_after es d) (pushed_read es d fits)
    (λ more h. weaker (λ fs. (stack_items more ++ ds ≡ stack_items fs) × FitsStack fs)
    (λ fs. (stack_items es ++ d ∷ ds ≡ stack_items fs) × FitsStack fs) (stack_after_all more ds)
    (λ fs k. (sym (append_assoc (stack_items es) (d ∷ []) ds) ∙ ap (λ x. x ++ ds) h.0 ∙ k.0, k.1)) (all_read more ds h.1))

alone_read : (es : List Expr) → FitsStack es → IfSome (sole es) (λ e. (stack_items es ≡ expr_items e) × FitsExpr e)
alone_read [] h = tt
alone_read (e ∷ []) h = (refl, h.0)
alone_read (e ∷ f ∷ es) h = tt

expr_read : (d : Data) → IfSome (expr.of_data d) (λ e. (d ≡ expr.data_of e) × FitsExpr e)
expr_read d = and_then_in (λ ds. d ≡ list ds) (λ e. (d ≡ expr.data_of e) × FitsExpr e)
    (λ ds. option_and_then sole (stack_after_all [] ds)) (array_in d) (array_read d)
    (λ ds is. and_then_in (λ fs. (ds ≡ stack_items fs) × FitsStack fs) (λ e. (d ≡ expr.data_of e) × FitsExpr e) sole
    (stack_after_all [] ds) (all_read [] ds tt)
    (λ fs h. weaker (λ e. (stack_items fs ≡ expr_items e) × FitsExpr e) (λ e. (d ≡ expr.data_of e) × FitsExpr e) (sole fs)
    (λ e k. (is ∙ ap list (h.0 ∙ k.0), k.1)) (alone_read fs h.1)))

pub expr_part : IsPart expr
expr_part = record { back = expr_back; reads = expr_read }

-- ---- operands

expr_law : AreFields (single expr)
expr_law = single_fields expr expr_part

pack_law : AreFields (pair id mask)
pack_law = pair_fields id mask id_part mask_part

operand_back : (o : Operand) → FitsOperand o → operand.of_data (operand_data o) ≡ Some o
operand_back (pure e) h = ap (option_map pure) (expr_law.back e h)
operand_back (move v) h = ap (option_map move) (id_law.back v h)
operand_back (pack x s) h = ap (option_map (λ x. pack x.0 x.1)) (pack_law.back (x, s) h)

abbrev IsOperand : Data → Operand → Type 0
IsOperand d o = (d ≡ operand_data o) × FitsOperand o

operand_read : (d : Data) (t : List ℕ) (ds : List Data) → d ≡ tagged_list t ds → IfSome (operand_of_tag t ds) (IsOperand d)
operand_read d t ds is =
    tag_step (IsOperand d) t (codes "e") _ _ (λ e. after_tag (IsOperand d) (single expr) expr_law pure ds (λ x k h. (is ∙ rw (e, k) refl, h)))
    (tag_step (IsOperand d) t (codes "m") _ _ (λ e. after_tag (IsOperand d) (single id) id_law move ds (λ x k h. (is ∙ rw (e, k) refl, h)))
    (tag_step (IsOperand d) t (codes "p") _ None (λ e. after_tag (IsOperand d) (pair id mask) pack_law (λ x. pack x.0 x.1) ds
    (λ x k h. (is ∙ rw (e, k) refl, h))) tt))

pub operand_part : IsPart operand
operand_part = record { back = operand_back; reads = λ d. tagged_array (IsOperand d) operand_of_tag d (operand_read d) }
