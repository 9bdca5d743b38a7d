-- Expressions and operands.
use Rattle.std.proofs.Common.{◌≡◌, refl, sym, ap, ◌∙◌, ◌<◌, ◌+◌, ℕ, zero, suc, List, [], ◌∷◌, ◌++◌, map, drop, length, get_or, drop-cons, add-one, Option, Some, None, slice_get}
use Rattle.vlt_ops.specs.declared.Op.{Op}
use Rattle.vlt_ops.specs.Operator.{row_of}
use Rattle.vlt_core.specs.Core.{Ty, tracked, guarded, FieldDecl, TypeDecl, Expr, unary, binary, Operand, Func, Program}
use Rattle.vlt_core.specs.declared.program.Operand as code
use Rattle.vlt_core.specs.View.{operand_of}
use Rattle.vlt_core.specs.Lookups.{var_type, fields_of}
use Rattle.vlt_core.specs.Types.{decl_of}
use Rattle.vlt_core.specs.KindedHeads.{when_some}
use Rattle.vlt_core.specs.KindedScopes.{Ids, use_broken}
use Rattle.vlt_core.specs.KindedOperands.{touch_broken, expr_broken, left_broken, type_of_expr, operand_broken, operands_broken}
use Rattle.cert_kinds_types.specs.Least.{least, lesser}
use Rattle.cert_kinds_exprs.specs.Touched as z
use Rattle.cert_kinds_types.proofs.Smallest.{joined, one_more}

pub touched_tracked : (p : Program) (k t i : ℕ) (args : List ℕ) → least (z.type_touched p (tracked k t args) i) ≡ least (z.tracked_touched p t i)
touched_tracked p k t i args = ap least (by (decl_of p t) (slice_get (fields_of p t) i))
  where
    by : (d : Option TypeDecl) (f : Option FieldDecl) → when_some d (λ x. z.field_touched p (Some (tracked k t args)) f) ≡ when_some d (λ x. z.unless_there f)
    by None f = refl
    by (Some d) None = refl
    by (Some d) (Some f) = refl

pub touched_guarded : (p : Program) (k t i : ℕ) (args : List ℕ) → least (z.type_touched p (guarded k t args) i) ≡ least (z.guarded_touched p t i)
touched_guarded p k t i args = ap least (by (decl_of p t) (slice_get (fields_of p t) i))
  where
    by : (d : Option TypeDecl) (f : Option FieldDecl) → when_some d (λ x. z.field_touched p (Some (guarded k t args)) f) ≡ when_some d (λ x. z.guarded_field p t f)
    by None f = refl
    by (Some d) None = refl
    by (Some d) (Some f) = refl

pub touches : (p : Program) (f : Func) (ids : Ids) (x i : ℕ) → touch_broken p f ids x i ≡ use_broken f ids x ++ z.var_touched p (var_type f x) i
touches p f ids x i = refl

lesser_of : {a b c d : Option ℕ} → a ≡ c → b ≡ d → lesser a b ≡ lesser c d
lesser_of {a} {b} {c} {d} left right = ap (λ x. lesser x b) left ∙ ap (lesser c) right

pub unary_broken : (p : Program) (f : Func) (ids : Ids) (op : Op) (a : Expr) {x y : Option ℕ} →
    x ≡ least (expr_broken p f ids a) → y ≡ least (left_broken (row_of op).takes (type_of_expr p f a)) → lesser x y ≡ least (expr_broken p f ids (unary op a))
unary_broken p f ids op a first second =
    lesser_of first second ∙ sym (joined (expr_broken p f ids a) (left_broken (row_of op).takes (type_of_expr p f a)))

pub binary_broken : (p : Program) (f : Func) (ids : Ids) (op : Op) (a b : Expr) {x y u w : Option ℕ} →
    x ≡ least (expr_broken p f ids a) → y ≡ least (expr_broken p f ids b) → u ≡ least (left_broken (row_of op).takes (type_of_expr p f a)) → w ≡ least (z.right_broken p f op a b) →
    lesser (lesser (lesser x y) u) w ≡ least (expr_broken p f ids (binary op a b))
binary_broken p f ids op a b first second third fourth =
    lesser_of (lesser_of (lesser_of first second ∙ sym (joined (expr_broken p f ids a) (expr_broken p f ids b))) third
    ∙ sym (joined (expr_broken p f ids a ++ expr_broken p f ids b) (left_broken (row_of op).takes (type_of_expr p f a)))) fourth
    ∙ sym (joined (expr_broken p f ids a ++ expr_broken p f ids b ++ left_broken (row_of op).takes (type_of_expr p f a)) (z.right_broken p f op a b))

pub operands_cons : (p : Program) (f : Func) (ids : Ids) (ws : List Ty) (i : ℕ) (o : Operand) (os : List Operand) →
    operands_broken p f ids (drop i ws) (o ∷ os) ≡ operand_broken p f ids (slice_get ws i) o ++ operands_broken p f ids (drop (suc i) ws) os
operands_cons p f ids [] zero o os = refl
operands_cons p f ids [] (suc i) o os = refl
operands_cons p f ids (w ∷ ws) zero o os = refl
operands_cons p f ids (w ∷ ws) (suc i) o os = operands_cons p f ids ws i o os

pub operands_next : (p : Program) (f : Func) (ids : Ids) (ws : List Ty) (found : Option ℕ) (xs : List code.Operand) (i : ℕ) (x : code.Operand) → x ≡ get_or xs i x → i < length xs →
    lesser found (least (operands_broken p f ids (drop i ws) (map operand_of (drop i xs))))
    ≡ lesser (lesser found (least (operand_broken p f ids (slice_get ws i) (operand_of x)))) (least (operands_broken p f ids (drop (i + 1) ws) (map operand_of (drop (i + 1) xs))))
operands_next p f ids ws found xs i x is lt =
    ap (λ ys. lesser found (least (operands_broken p f ids (drop i ws) (map operand_of ys)))) (drop-cons xs i x lt)
    ∙ ap (λ y. lesser found (least (operands_broken p f ids (drop i ws) (operand_of y ∷ map operand_of (drop (suc i) xs))))) (sym is)
    ∙ ap (λ rs. lesser found (least rs)) (operands_cons p f ids ws i (operand_of x) (map operand_of (drop (suc i) xs)))
    ∙ ap (lesser found) (joined (operand_broken p f ids (slice_get ws i) (operand_of x)) (operands_broken p f ids (drop (suc i) ws) (map operand_of (drop (suc i) xs))))
    ∙ one_more found (least (operand_broken p f ids (slice_get ws i) (operand_of x))) (least (operands_broken p f ids (drop (suc i) ws) (map operand_of (drop (suc i) xs))))
    ∙ ap (λ n. lesser (lesser found (least (operand_broken p f ids (slice_get ws i) (operand_of x)))) (least (operands_broken p f ids (drop n ws) (map operand_of (drop n xs))))) (sym (add-one i))
