-- What is returned.
use Rattle.std.proofs.Common.{◌≡◌, refl, ap, ℕ, ◌==◌, ◌||◌, ◌&&◌, Bool, true, false, List, [], ◌∷◌, map, filter, None}
use Rattle.std.specs.List.{list_any}
use Rattle.vlt_core.specs.Core.{Entry, Operand, pure, move, pack, Expr, number, truth, var, field, unary, binary, Func, Program}
use Rattle.vlt_core.specs.Lookups.{is_given_back}
use Rattle.vlt_core.specs.KindedHeads.{has}
use Rattle.vlt_core.specs.KindedScopes.{Ids}
use Rattle.vlt_core.specs.KindedOperands.{operand_broken}
use Rattle.vlt_core.specs.KindedCalls.{new_result_broken}
use Rattle.vlt_core.specs.declared.rules.TheConstants as rule
use Rattle.cert_kinds_types.specs.Least.{least}
use Rattle.cert_kinds_stmts.specs.Returned as z
use Rattle.cert_kinds_types.proofs.Smallest.{joined}

pub has_kept : (es : List Entry) (k : ℕ) → has (map (λ e. e.key) (filter is_given_back es)) k ≡ list_any (λ e. is_given_back e && e.key == k) es
has_kept [] k = refl
has_kept (e ∷ es) k = by (is_given_back e) refl (has_kept es k)
  where
    by : (b : Bool) → is_given_back e ≡ b → has (map (λ e. e.key) (filter is_given_back es)) k ≡ list_any (λ e. is_given_back e && e.key == k) es
        → has (map (λ e. e.key) (filter is_given_back (e ∷ es))) k ≡ list_any (λ e. is_given_back e && e.key == k) (e ∷ es)
    by true is more = rw is (ap (λ b. (e.key == k) || b) more)
    by false is more = rw is more

pub new_by_var : (p : Program) (f : Func) (ids : Ids) (t : ℕ) (args : List ℕ) (o : Operand) → least (new_result_broken p f ids t args o) ≡ z.new_by p f ids t args o (z.as_var o)
new_by_var p f ids t args (pure (var v)) = refl
new_by_var p f ids t args (pure (number n)) = joined (rule.WRONG_TYPE ∷ []) (operand_broken p f ids None (pure (number n)))
new_by_var p f ids t args (pure (truth b)) = joined (rule.WRONG_TYPE ∷ []) (operand_broken p f ids None (pure (truth b)))
new_by_var p f ids t args (pure (field x i)) = joined (rule.WRONG_TYPE ∷ []) (operand_broken p f ids None (pure (field x i)))
new_by_var p f ids t args (pure (unary op a)) = joined (rule.WRONG_TYPE ∷ []) (operand_broken p f ids None (pure (unary op a)))
new_by_var p f ids t args (pure (binary op a b)) = joined (rule.WRONG_TYPE ∷ []) (operand_broken p f ids None (pure (binary op a b)))
new_by_var p f ids t args (move v) = joined (rule.WRONG_TYPE ∷ []) (operand_broken p f ids None (move v))
new_by_var p f ids t args (pack x states) = joined (rule.WRONG_TYPE ∷ []) (operand_broken p f ids None (pack x states))

pub pure_var : (e : Expr) → z.as_var (pure e) ≡ z.expr_var e
pure_var (number n) = refl
pure_var (truth b) = refl
pure_var (var v) = refl
pure_var (field x i) = refl
pure_var (unary op a) = refl
pure_var (binary op a b) = refl
