-- Expressions and operands that break no rule have rows in scope.
use Rattle.std.proofs.Common.{◌≡◌, ℕ, Bool, true, false, List, [], ◌∷◌, ◌++◌, length, Option, Some, None, sym, subst, ⊎_elim}
use Rattle.std.specs.Prelude.{nat_lt}
use Rattle.std.proofs.lemmas.List.Concat.{flat_map-cons}
use Rattle.vlt_core.specs.Core.{Ty, Tok, a_key, a_var, Expr, number, truth, var, field, unary, binary, Operand, pure, move, pack, Func, Program}
use Rattle.vlt_core.specs.Lookups.{var_type, is_owning_var}
use Rattle.vlt_core.specs.Rows.{expr_rows, operand_rows, operands_rows}
use Rattle.vlt_core.specs.KindedHeads.{has}
use Rattle.vlt_core.specs.KindedScopes.{Ids, use_broken}
use Rattle.vlt_core.specs.KindedOperands.{touch_broken, not_owning_broken, field_type, left_broken, type_of_expr, misfit, right_wanted, expr_broken, move_broken, pack_broken, operand_broken, operands_broken}
use Rattle.vlt_core.specs.declared.rules.TheConstants as rule
use Rattle.vlt_ops.specs.Operator.{row_of}
use Rattle.vlt_core_laws.proofs.Unbroken.{left_empty, right_empty, unless_holds}
use Rattle.vlt_core_laws.proofs.Ids.{IsToken, AreTyped, Goes, true_or_false}
use Rattle.vlt_core_laws.proofs.Binding.{in_range, chosen}
use Rattle.vlt_core_laws.proofs.Good.{Good, AllRows, all_both, KeysIn, empty_good, gone_good, touch_good, key_good, reference_in}
use Rattle.vlt_core_laws.specs.Scoped.{is_bound}

-- what is in scope by its number is in scope as a token
pub record Covers (f : Func) (g : Tok → Bool) (ids : Ids) : Type 0 where
  pub keys : (k : ℕ) → has ids.keys k ≡ true → g (a_key k) ≡ true
  pub vars : (v : ℕ) → has ids.vars v ≡ true → g (a_var v) ≡ true

-- Following a part the same holds, where the block's tokens are in scope. A variable that doesn't own always counts as in scope.
pub covers_on : (f : Func) (g : Tok → Bool) (a b : Ids) → ((v : ℕ) → is_owning_var f v ≡ false → g (a_var v) ≡ true) → Goes f a b → Covers f g a →
    ((t : Tok) → IsToken f t → is_bound b.bound t ≡ true → g t ≡ true) → Covers f g b
covers_on f g a b others q c last = record {
  keys = λ k e. ⊎_elim (c.keys k) (λ x. last (a_key k) x.1 x.0) (q.keys k e);
  vars = λ v e. ⊎_elim (c.vars v) (λ x. ⊎_elim (λ o. last (a_var v) o (x o)) (others v) (true_or_false (is_owning_var f v))) (q.vars v e);
}

module _ (p : Program) (f : Func) (g : Tok → Bool) (ids : Ids) (covers : Covers f g ids) (typed : AreTyped f ids) where
  use_there : (v : ℕ) → use_broken f ids v ≡ [] → nat_lt v (length f.vars) ≡ true
  use_there v e = in_range (nat_lt v (length f.vars)) _ e

  pub use_in : (v : ℕ) → use_broken f ids v ≡ [] → has ids.vars v ≡ true
  use_in v e = unless_holds (has ids.vars v) rule.NAME_TAKEN (chosen (nat_lt v (length f.vars)) _ (use_there v e) e)

  pub keys_in : (x : ℕ) → has ids.vars x ≡ true → KeysIn g f x
  keys_in x h k u = covers.keys k (typed.each x k h u)

  pub expr_good : (e : Expr) → expr_broken p f ids e ≡ [] → AllRows (Good g) (expr_rows p f e)
  expr_good (number z) b = tt
  expr_good (truth t) b = tt
  expr_good (var v) b = tt
  expr_good (field x i) b =
      touch_good g p f x i (keys_in x (use_in x (left_empty (use_broken f ids x) _ (left_empty (touch_broken p f ids x i) (not_owning_broken rule.WRONG_SWAP (field_type p f x i)) b))))
  expr_good (unary op a) b = expr_good a (left_empty (expr_broken p f ids a) (left_broken (row_of op).takes (type_of_expr p f a)) b)
  expr_good (binary op a c) b =
      let front = left_empty (expr_broken p f ids a ++ expr_broken p f ids c) (left_broken (row_of op).takes (type_of_expr p f a))
      (left_empty _ (misfit (right_wanted (row_of op).takes (type_of_expr p f a)) (type_of_expr p f c)) b) in
      all_both (Good g) (expr_rows p f a) (expr_rows p f c) (expr_good a (left_empty (expr_broken p f ids a) (expr_broken p f ids c) front))
      (expr_good c (right_empty (expr_broken p f ids a) (expr_broken p f ids c) front))

  pub operand_good : (w : Option Ty) (o : Operand) → operand_broken p f ids w o ≡ [] → AllRows (Good g) (operand_rows p f o)
  operand_good w (pure e) b = expr_good e (left_empty (expr_broken p f ids e) _ b)
  operand_good w (move v) b = (empty_good g v (covers.vars v (use_in v (left_empty (use_broken f ids v) (move_broken w (var_type f v)) b))), tt)
  operand_good w (pack x states) b =
      let u = left_empty (use_broken f ids x) (pack_broken p w (var_type f x) states) b in
      key_good g f x _ _ (λ r e. gone_good g r.key states (reference_in g f x (keys_in x (use_in x u)) r e))

  pub operands_good : (ws : List Ty) (os : List Operand) → operands_broken p f ids ws os ≡ [] → AllRows (Good g) (operands_rows p f os)
  operands_good ws [] b = tt
  operands_good [] (o ∷ os) b =
      subst (AllRows (Good g)) (sym (flat_map-cons (operand_rows p f) o os)) (all_both (Good g) (operand_rows p f o) (operands_rows p f os)
      (operand_good None o (left_empty (operand_broken p f ids None o) (operands_broken p f ids [] os) b))
      (operands_good [] os (right_empty (operand_broken p f ids None o) (operands_broken p f ids [] os) b)))
  operands_good (w ∷ ws) (o ∷ os) b =
      subst (AllRows (Good g)) (sym (flat_map-cons (operand_rows p f) o os)) (all_both (Good g) (operand_rows p f o) (operands_rows p f os)
      (operand_good (Some w) o (left_empty (operand_broken p f ids (Some w) o) (operands_broken p f ids ws os) b))
      (operands_good ws os (right_empty (operand_broken p f ids (Some w) o) (operands_broken p f ids ws os) b)))
