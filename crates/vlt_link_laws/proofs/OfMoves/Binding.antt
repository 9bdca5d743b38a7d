-- Variables and keys that are bound, under names that are free in the joined program.
use Rattle.std.proofs.Common.{◌≡◌, ℕ, ◌+◌, ◌==◌, nat_lt, Bool, true, false, ◌||◌, if◌then◌else◌, is_some, List, [], ◌∷◌, length, map, refl, sym, ap, ap₂, ◌∙◌, subst}
use Rattle.std.proofs.lemmas.List.{length-map}
use Rattle.vlt_syntax.specs.Tree.{Name}
use Rattle.vlt_core.specs.Core.{Ty}
use Rattle.vlt_core.specs.declared.rules.TheConstants as rule
use Rattle.vlt_link_laws.specs.CoreMoves.Moves.{Moves, moved_ty, moved_key, moved_var}
use Rattle.vlt_kinds_types.specs.Names.Globals.{is_global}
use Rattle.vlt_kinds_types.specs.Names.Refusals.{refusal, refuse_if}
use Rattle.vlt_kinds_types.specs.Kinds.{Kinds}
use Rattle.vlt_resolve_exprs.specs.declared.limits.TheConstants.{TOO_MANY_VARIABLES, TOO_MANY_KEYS}
use Rattle.vlt_resolve_exprs.specs.Scopes.{Scope, tok_named, is_taken, with_var}
use Rattle.vlt_resolve_exprs.specs.Bindings.{too_many_vars, too_many_keys, not_free, new_var_refused, new_key_refused, new_vars_refused, with_vars, numbers_from, several_refused, with_several, several_numbers}
use Rattle.vlt_link_laws.specs.Moves.Sees.{moved_scope, IsFree, AreFree}
use Rattle.vlt_link_laws.proofs.OfMoves.Empty.{cons_not_nil, no_left, no_right, none_of_both, not_broken, quiet}
use Rattle.vlt_link_laws.proofs.OfMoves.Scoping.{with_var_moves}

neither : (x y z : Bool) → (x || y) ≡ false → (y ≡ false → z ≡ false) → (x || z) ≡ false
neither true y z e f = e
neither false y z e f = f e

module _ (m : Moves) where
  pub same_many_vars : (scope : Scope) (at : ℕ) → too_many_vars (moved_scope m scope) at ≡ too_many_vars scope at
  unfolding too_many_vars
  same_many_vars scope at = ap (λ n. refuse_if (nat_lt 255 n) TOO_MANY_VARIABLES at) (length-map scope.vars (moved_var m))

  pub same_many_keys : (scope : Scope) (at : ℕ) → too_many_keys (moved_scope m scope) at ≡ too_many_keys scope at
  unfolding too_many_keys
  same_many_keys scope at = ap (λ n. refuse_if (nat_lt 255 n) TOO_MANY_KEYS at) (length-map scope.keys (moved_key m))

  pub with_vars_moves : (scope : Scope) (ns : List Name) (ts : List Ty) → moved_scope m (with_vars scope ns ts) ≡ with_vars (moved_scope m scope) ns (map (moved_ty m) ts)
  with_vars_moves scope [] [] = refl
  with_vars_moves scope [] (t ∷ ts) = refl
  with_vars_moves scope (n ∷ ns) [] = refl
  with_vars_moves scope (n ∷ ns) (t ∷ ts) =
      with_vars_moves (with_var scope n.text t) ns ts ∙ ap (λ x. with_vars x ns (map (moved_ty m) ts)) (with_var_moves m scope n.text t)

  same_numbers : (i : ℕ) (ns : List Name) (ts : List Ty) → numbers_from i ns (map (moved_ty m) ts) ≡ numbers_from i ns ts
  same_numbers i [] [] = refl
  same_numbers i [] (t ∷ ts) = refl
  same_numbers i (n ∷ ns) [] = refl
  same_numbers i (n ∷ ns) (t ∷ ts) = ap (λ x. i ∷ x) (same_numbers (i + 1) ns ts)

  pub with_several_moves : (scope : Scope) (ns : List Name) (ts : List Ty) → moved_scope m (with_several scope ns ts) ≡ with_several (moved_scope m scope) ns (map (moved_ty m) ts)
  unfolding with_several
  with_several_moves scope ns ts =
      by (length ts == length ns) ∙ ap (λ n. if n == length ns then with_vars (moved_scope m scope) ns (map (moved_ty m) ts) else moved_scope m scope) (sym (length-map ts (moved_ty m)))
    where
      by : (x : Bool) → moved_scope m (if x then with_vars scope ns ts else scope) ≡ (if x then with_vars (moved_scope m scope) ns (map (moved_ty m) ts) else moved_scope m scope)
      by true = with_vars_moves scope ns ts
      by false = refl

  pub several_same : (scope : Scope) (ns : List Name) (ts : List Ty) → several_numbers (moved_scope m scope) ns (map (moved_ty m) ts) ≡ several_numbers scope ns ts
  unfolding several_numbers
  several_same scope ns ts =
      ap₂ (λ (x : ℕ) (y : ℕ). if x == length ns then numbers_from y ns (map (moved_ty m) ts) else []) (length-map ts (moved_ty m)) (length-map scope.vars (moved_var m)) ∙
      ap (λ x. if length ts == length ns then x else []) (same_numbers (length scope.vars) ns ts)

  module _ (a b : Kinds) where
    free_fine : (scope : Scope) (n : Name) → IsFree a b n.text → not_free a scope n ≡ [] → not_free b (moved_scope m scope) n ≡ []
    unfolding not_free is_taken
    free_fine scope n free none =
        quiet (is_some (tok_named scope n.text) || is_global b.file.globals n.text) rule.NAME_TAKEN n.at.from
        (neither (is_some (tok_named scope n.text)) (is_global a.file.globals n.text) (is_global b.file.globals n.text)
        (not_broken (is_some (tok_named scope n.text) || is_global a.file.globals n.text) rule.NAME_TAKEN n.at.from none) free)

    pub new_var_fine : (scope : Scope) (n : Name) → IsFree a b n.text → new_var_refused a scope n ≡ [] → new_var_refused b (moved_scope m scope) n ≡ []
    unfolding new_var_refused
    new_var_fine scope n free none =
        none_of_both _ _ (same_many_vars scope n.at.from ∙ no_left (too_many_vars scope n.at.from) _ none)
        (free_fine scope n free (no_right (too_many_vars scope n.at.from) _ none))

    pub new_key_fine : (scope : Scope) (n : Name) → IsFree a b n.text → new_key_refused a scope n ≡ [] → new_key_refused b (moved_scope m scope) n ≡ []
    unfolding new_key_refused
    new_key_fine scope n free none =
        none_of_both _ _ (same_many_keys scope n.at.from ∙ no_left (too_many_keys scope n.at.from) _ none)
        (free_fine scope n free (no_right (too_many_keys scope n.at.from) _ none))

    new_vars_fine : (scope : Scope) (ns : List Name) (ts : List Ty) → AreFree a b ns → new_vars_refused a scope ns ts ≡ [] → new_vars_refused b (moved_scope m scope) ns (map (moved_ty m) ts) ≡ []
    new_vars_fine scope [] [] free none = refl
    new_vars_fine scope [] (t ∷ ts) free none = refl
    new_vars_fine scope (n ∷ ns) [] free none = refl
    new_vars_fine scope (n ∷ ns) (t ∷ ts) free none =
        none_of_both _ _ (new_var_fine scope n free.0 (no_left (new_var_refused a scope n) _ none))
        (subst (λ x. new_vars_refused b x ns (map (moved_ty m) ts) ≡ []) (with_var_moves m scope n.text t)
        (new_vars_fine (with_var scope n.text t) ns ts free.1 (no_right (new_var_refused a scope n) _ none)))

    pub several_fine : (scope : Scope) (ns : List Name) (ts : List Ty) (at : ℕ) → AreFree a b ns → several_refused a scope ns ts at ≡ [] → several_refused b (moved_scope m scope) ns (map (moved_ty m) ts) at ≡ []
    unfolding several_refused
    several_fine scope ns ts at free none =
        ap (λ n. if n == length ns then new_vars_refused b (moved_scope m scope) ns (map (moved_ty m) ts) else refusal rule.WRONG_COUNT at ∷ []) (length-map ts (moved_ty m)) ∙
        by (length ts == length ns) none
      where
        by : (x : Bool) → (if x then new_vars_refused a scope ns ts else refusal rule.WRONG_COUNT at ∷ []) ≡ [] →
            (if x then new_vars_refused b (moved_scope m scope) ns (map (moved_ty m) ts) else refusal rule.WRONG_COUNT at ∷ []) ≡ []
        by true none = new_vars_fine scope ns ts free none
        by false none = absurd (cons_not_nil _ [] none)
