-- What is refused in an expression, one thing after another.
use Rattle.std.proofs.Common.{◌≡◌, List, [], ◌∷◌, ◌++◌, Option, Some, refl, ap, ◌∙◌}
use Rattle.vlt_ops.specs.Operator.{row_of}
use Rattle.vlt_syntax.specs.Tree as s
use Rattle.vlt_kinds_types.specs.declared.names.found.Refusal.{Refusal}
use Rattle.vlt_kinds_types.specs.Names.Refusals.{least_from}
use Rattle.vlt_kinds_types.specs.Kinds.{Kinds}
use Rattle.vlt_resolve_exprs.specs.Scopes.{Scope, with_var}
use Rattle.vlt_resolve_exprs.specs.Exprs.{type_given, type_of, expr_place, unfit, operand_wanted, left_refused, unary_refused, binary_refused, expr_refused}
use Rattle.vlt_core.specs.Core.{Ty}
use Rattle.vlt_resolve_exprs.specs.Operands.{operand_refused, operands_refused}
use Rattle.vlt_resolve_exprs.specs.Bindings.{new_var_refused, new_vars_refused}
use Rattle.vlt_resolve_exprs.specs.Least.{found_in, operands_found, new_vars_found}
use Rattle.vlt_kinds_types.proofs.OfNames.Least.{least_of_both}

pub found_is : (k : Kinds) (x : Scope) (e : s.Expr) (f : Option Refusal) → least_from f (expr_refused k x e) ≡ found_in k x e f
unfolding unary_refused binary_refused
found_is k x (s.number z at) f = refl
found_is k x (s.true at) f = refl
found_is k x (s.false at) f = refl
found_is k x (s.variable n) f = refl
found_is k x (s.field n m) f = refl
found_is k x (s.group e at) f = found_is k x e f
found_is k x (s.unary o e at) f =
    least_of_both (expr_refused k x e) (unfit (Some (type_given o)) (type_of k x e) (expr_place e)) f
    ∙ ap (λ g. least_from g (unfit (Some (type_given o)) (type_of k x e) (expr_place e))) (found_is k x e f)
found_is k x (s.binary o l r at) f =
    let first : List Refusal = left_refused (row_of o).takes (type_of k x l) (expr_place l) in
    let second : List Refusal = unfit (operand_wanted (row_of o).takes (type_of k x l)) (type_of k x r) (expr_place r) in
    let g : Option Refusal = least_from (found_in k x l f) first in
    let left : least_from f (expr_refused k x l ++ first) ≡ g = least_of_both (expr_refused k x l) first f ∙ ap (λ y. least_from y first) (found_is k x l f) in
    least_of_both (expr_refused k x l ++ first) (expr_refused k x r ++ second) f
    ∙ ap (λ y. least_from y (expr_refused k x r ++ second)) left
    ∙ least_of_both (expr_refused k x r) second g
    ∙ ap (λ y. least_from y second) (found_is k x r g)

pub found_both : (k : Kinds) (x : Scope) (e : s.Expr) (rs : List Refusal) (f : Option Refusal) → least_from f (expr_refused k x e ++ rs) ≡ least_from (found_in k x e f) rs
found_both k x e rs f = least_of_both (expr_refused k x e) rs f ∙ ap (λ g. least_from g rs) (found_is k x e f)

-- operands, one after another
pub operands_are : (k : Kinds) (x : Scope) (ws : List Ty) (es : List s.Expr) (f : Option Refusal) → least_from f (operands_refused k x ws es) ≡ operands_found k x ws es f
operands_are k x [] [] f = refl
operands_are k x [] (e ∷ es) f = refl
operands_are k x (w ∷ ws) [] f = refl
operands_are k x (w ∷ ws) (e ∷ es) f =
    least_of_both (operand_refused k x w e) (operands_refused k x ws es) f ∙ operands_are k x ws es (least_from f (operand_refused k x w e))

-- several variables, one after another
pub new_vars_are : (k : Kinds) (x : Scope) (ns : List s.Name) (ts : List Ty) (f : Option Refusal) → least_from f (new_vars_refused k x ns ts) ≡ new_vars_found k x ns ts f
new_vars_are k x [] [] f = refl
new_vars_are k x [] (t ∷ ts) f = refl
new_vars_are k x (n ∷ ns) [] f = refl
new_vars_are k x (n ∷ ns) (t ∷ ts) f =
    least_of_both (new_var_refused k x n) (new_vars_refused k (with_var x n.text t) ns ts) f
    ∙ new_vars_are k (with_var x n.text t) ns ts (least_from f (new_var_refused k x n))
