-- Parts of rows fit.
use Rattle.std.proofs.Common.{◌≡◌, ℕ, ◌≤◌, Bool, true, false, true≢false, not, ◌&&◌, if◌then◌else◌, List, [], ◌∷◌, length, Option, Some, None, IfSome, refl, sym, ap, ◌∙◌, arith}
use Rattle.std.specs.Prelude.{◌==◌, ℤ, pos, negsuc, nat_le, max, int_le, neg_ℤ, ◌^◌, suc}
use Rattle.std.proofs.lemmas.Bool.{le-leb, and_parts}
use Rattle.std.proofs.lemmas.Bool.Decides.{nat_tests}
use Rattle.std.proofs.Math.Nat.{le-max_left, le-max_right}
use Rattle.vlt_ops.specs.Operator.{is_in_range}
use Rattle.vlt_core.specs.Proper as proper
use Rattle.vlt_core.specs.Proper.{is_binary, has_arities, is_literal, has_literals, is_proper, all_in_operand, all_in_operands}
use Rattle.vlt_ops.specs.declared.Op.{Op}
use Rattle.vlt_ops.specs.declared.Op.TheVariants as o
use Rattle.vlt_core.specs.Core as core
use Rattle.vlt_core.specs.Core.{States, Expr, Operand, Mode, Entry}
use Rattle.vlt_base.specs.States.{is_bit}
use Rattle.cert_rows.specs.Parts.{All, several, few, text, minus_or, is_number}
use Rattle.cert_rows.specs.Values.{id, mask, mask_of, side, side_states, held_number, is_zero_side, entry, header}
use Rattle.cert_rows.specs.Expressions.{op, is_prefix, depth, most_expression_depth, IsNatural, IsShallow, FitsExpr, operand, operand_data, FitsOperand}
use Rattle.cert_fit_laws.specs.Limits.{is_shallow, IsRuled, IsRuledEntry}
use Rattle.cert_fit_laws.proofs.ProperExprs.{prefix_is, binary_is}
use Rattle.cert_fit_laws.proofs.Narrow.{IsId, IsMaybeId, IsNarrowExpr, IsNarrowOperand, IsNarrowEntry}

pub maybe_fits : (o : Option ℕ) → IsMaybeId o → (minus_or id).Fits o
maybe_fits None is = tt
maybe_fits (Some n) is = (is, refl)

pub maybes_fit : (xs : List (Option ℕ)) → All IsMaybeId xs → (several (minus_or id)).Fits xs
maybes_fit [] is = tt
maybes_fit (x ∷ xs) is = (maybe_fits x is.0, maybes_fit xs is.1)

pub header_fits : (xs : List (Option ℕ)) → All IsMaybeId xs → length xs ≤ 16 → header.Fits xs
header_fits xs is few = (maybes_fit xs is, le-leb (length xs) 16 few)

pub texts_fit : (xs : List (List ℕ)) → (several text).Fits xs
texts_fit [] = tt
texts_fit (x ∷ xs) = (tt, texts_fit xs)

-- ---- expressions

op_fits : (x : Op) → op.Fits x
op_fits o.Negate = (omega arith, refl)
op_fits o.Not = (omega arith, refl)
op_fits o.Multiply = (omega arith, refl)
op_fits o.Divide = (omega arith, refl)
op_fits o.Remainder = (omega arith, refl)
op_fits o.Add = (omega arith, refl)
op_fits o.Subtract = (omega arith, refl)
op_fits o.Less = (omega arith, refl)
op_fits o.LessOrEqual = (omega arith, refl)
op_fits o.Greater = (omega arith, refl)
op_fits o.GreaterOrEqual = (omega arith, refl)
op_fits o.Equal = (omega arith, refl)
op_fits o.NotEqual = (omega arith, refl)
op_fits o.BitAnd = (omega arith, refl)
op_fits o.BitXor = (omega arith, refl)
op_fits o.BitOr = (omega arith, refl)
op_fits o.And = (omega arith, refl)
op_fits o.Or = (omega arith, refl)

within : (m n : ℕ) → nat_le m n ≡ true → m ≤ n
within m n is = grind (arith, nat_tests)

less_deep : (m n : ℕ) → nat_le (suc m) n ≡ true → nat_le m n ≡ true
less_deep m n is = grind (arith, nat_tests)

of_left : (a b n : ℕ) → nat_le (suc (max a b)) n ≡ true → nat_le a n ≡ true
of_left a b n is = let m = le-max_left a b in let w = within (suc (max a b)) n is in le-leb a n (omega (arith, m, w))

of_right : (a b n : ℕ) → nat_le (suc (max a b)) n ≡ true → nat_le b n ≡ true
of_right a b n is = let m = le-max_right a b in let w = within (suc (max a b)) n is in le-leb b n (omega (arith, m, w))

natural : (z : ℤ) → is_literal z ≡ true → IsNatural z
natural (pos n) is = within n 9223372036854775807 (and_parts (int_le (neg_ℤ (pos (2 ^ 63))) (pos n)) (nat_le n 9223372036854775807) (and_parts (nat_le 0 n) (is_in_range (pos n)) is).1).1
natural (negsuc n) is = true≢false (sym is)

infix_is : (x : Op) → is_binary x ≡ true → is_prefix x ≡ false
infix_is x is = by (is_prefix x) (sym (binary_is x) ∙ is)
  where
    by : (b : Bool) → not b ≡ true → b ≡ false
    by true e = absurd (true≢false (sym e))
    by false e = refl

parts_fit : (e : Expr) → has_arities e ≡ true → has_literals e ≡ true → IsShallow e → IsNarrowExpr e → FitsExpr e
parts_fit (core.number z) ar li sh narrow = natural z li
parts_fit (core.truth true) ar li sh narrow = (omega arith, refl)
parts_fit (core.truth false) ar li sh narrow = (omega arith, refl)
parts_fit (core.var v) ar li sh narrow = narrow
parts_fit (core.field x i) ar li sh narrow = narrow
parts_fit (core.unary x a) ar li sh narrow =
    let h = and_parts (proper.is_prefix x) (has_arities a) ar in
    (parts_fit a h.1 li (less_deep (depth a) most_expression_depth sh) narrow, op_fits x, sym (prefix_is x) ∙ h.0, sh)
parts_fit (core.binary x a b) ar li sh narrow =
    let h = and_parts (is_binary x) (has_arities a && has_arities b) ar in
    let hs = and_parts (has_arities a) (has_arities b) h.1 in
    let ls = and_parts (has_literals a) (has_literals b) li in (
      parts_fit a hs.0 ls.0 (of_left (depth a) (depth b) most_expression_depth sh) narrow.0,
      parts_fit b hs.1 ls.1 (of_right (depth a) (depth b) most_expression_depth sh) narrow.1,
      op_fits x,
      infix_is x h.0,
      sh,
    )

-- what is asked of each expression
abbrev pub is_written : Expr → Bool
is_written e = is_proper e && is_shallow e

pub expr_fits : (e : Expr) → is_written e ≡ true → IsNarrowExpr e → FitsExpr e
expr_fits e is narrow =
    let h = and_parts (is_proper e) (is_shallow e) is in
    let k = and_parts (has_arities e) (has_literals e) h.0 in
    parts_fit e k.0 k.1 h.1 narrow

pub operand_fits : (x : Operand) → all_in_operand is_written x ≡ true → IsNarrowOperand x → FitsOperand x
operand_fits (core.pure e) is narrow = expr_fits e is narrow
operand_fits (core.move v) is narrow = narrow
operand_fits (core.pack x s) is narrow = narrow

pub operands_fit : (xs : List Operand) → all_in_operands is_written xs ≡ true → All IsNarrowOperand xs → (several operand).Fits xs
operands_fit [] is narrow = tt
operands_fit (x ∷ xs) is narrow =
    let h = and_parts (all_in_operand is_written x) (all_in_operands is_written xs) is in
    (operand_fits x h.0 narrow.0, operands_fit xs h.1 narrow.1)

pub no_number : (x : Operand) → is_number (operand_data x) ≡ false
no_number (core.pure e) = refl
no_number (core.move v) = refl
no_number (core.pack x s) = refl

-- ---- entries

not_zero : (s : States) → mask.Fits s → (mask_of s == 0) ≡ false
not_zero s is = by (mask_of s == 0) is.0.1
  where
    by : (b : Bool) → not b ≡ true → b ≡ false
    by true e = absurd (true≢false (sym e))
    by false e = refl

held_fits : (o : Option States) → IfSome o mask.Fits → side.Fits (held_number o)
held_fits None is = tt
held_fits (Some s) is = (is.0.0, refl)

held_said : (o : Option States) → IfSome o mask.Fits → is_zero_side (held_number o) ≡ false
held_said None is = refl
held_said (Some s) is = not_zero s is

held_back : (o : Option States) → IfSome o mask.Fits → side_states (held_number o) ≡ o
held_back None is = refl
held_back (Some s) is = ap (λ b. if b then None else Some (is_bit (mask_of s))) (not_zero s is) ∙ ap (λ s. Some s) is.1

zero_fits : side.Fits (Some 0)
zero_fits = (omega arith, refl)

-- the bound has 8 bits
abbrev pub IsByteBound : Mode → Type 0
IsByteBound (core.up_to b) = b ≤ 255
IsByteBound m = Unit {0}

made_fits : (m : Mode) (k : ℕ) (before after : Option States) → IsRuled m before after → IsByteBound m → IsId k → IfSome before mask.Fits → IfSome after mask.Fits
    → (entry true).Fits (record { mode = m; key = k; before = before; after = after })
made_fits core.kept k None None is small key b a = (((omega arith, key, tt, tt), refl), refl)
made_fits core.kept k (Some s) (Some t) is small key b a = (
  ((omega arith, key, held_fits (Some s) b, held_fits (Some t) a), ap (λ z. (not z && not (mask_of t == 0)) && true) (not_zero s b) ∙ ap (λ z. (true && not z) && true) (not_zero t a)),
  ap (λ x. record { mode = core.kept; key = k; before = x; after = side_states (held_number (Some t)) }) (held_back (Some s) b)
      ∙ ap (λ x. record { mode = core.kept; key = k; before = Some s; after = x }) (held_back (Some t) a),
)
made_fits core.kept k None (Some t) is small key b a = absurd is
made_fits core.kept k (Some s) None is small key b a = absurd is
made_fits core.taken k before None is small key b a = (
  ((omega arith, key, held_fits before b, zero_fits), ap (λ z. not z && true) (held_said before b)),
  ap (λ x. record { mode = core.taken; key = k; before = x; after = None }) (held_back before b),
)
made_fits core.taken k before (Some t) is small key b a = absurd is
made_fits core.given k None after is small key b a = (
  ((omega arith, key, zero_fits, held_fits after a), ap (λ z. true && not z) (held_said after a)),
  ap (λ x. record { mode = core.given; key = k; before = None; after = x }) (held_back after a),
)
made_fits core.given k (Some s) after is small key b a = absurd is
made_fits core.fresh k None after is small key b a = (
  ((omega arith, key, zero_fits, held_fits after a), ap (λ z. true && not z) (held_said after a)),
  ap (λ x. record { mode = core.fresh; key = k; before = None; after = x }) (held_back after a),
)
made_fits core.fresh k (Some s) after is small key b a = absurd is
made_fits (core.up_to n) k None None is small key b a = (((omega arith, key, (wide n small, refl), tt), ap (λ z. z && true) (le-leb n 255 small)), refl)
  where
    wide : (n : ℕ) → n ≤ 255 → n ≤ 4294967295
    wide n few = omega (arith, few)
made_fits (core.up_to n) k None (Some s) is small key b a = absurd is
made_fits (core.up_to n) k (Some s) after is small key b a = absurd is

pub entries_fit : (es : List Entry) → All IsRuledEntry es → All (λ e. IsByteBound e.mode) es → All IsNarrowEntry es → (several (entry true)).Fits es
entries_fit [] is small narrow = tt
entries_fit (e ∷ es) is small narrow = (made_fits e.mode e.key e.before e.after is.0 small.0 narrow.0.0 narrow.0.1 narrow.0.2, entries_fit es is.1 small.1 narrow.1)
