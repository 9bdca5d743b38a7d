-- A program that breaks no rule: no row of it does.
use Rattle.std.proofs.Common.{◌≡◌, inl, inr, ℕ, zero, suc, ◌+◌, ◌==◌, Bool, true, false, ◌||◌, List, [], ◌∷◌, ◌++◌, map, Some, None, refl, sym, ap, ◌∙◌, subst, arith, slice_get}
use Rattle.std.proofs.lemmas.Bool.{eqb-true, eq-eqb}
use Rattle.std.proofs.lemmas.Option.{none-some, same_Some}
use Rattle.std.specs.List.{flat_map, enumerate_from}
use Rattle.vlt_core.specs.Core.{TypeDecl, Func, Program}
use Rattle.vlt_core.specs.KindedHeads.{Rules, unless, has, set_broken, type_rows}
use Rattle.vlt_core.specs.declared.rules.TheConstants as rule
use Rattle.vlt_core.specs.Kinded.{has_main, function_rows, first_broken, least_of, IsKinded}
use Rattle.vlt_sound_worlds.specs.Members.{In}
use Rattle.vlt_sound_worlds.proofs.Empty.{both_empty}
use Rattle.vlt_sound_statements.specs.Kinded.{BreakNone}
use Rattle.vlt_sound_statements.proofs.Unbroken.{none_left, none_right}

-- ---- lists

-- what breaks nothing for a list breaks nothing for its elements
pub flat_at : {A : Type 0} (go : A → Rules) (xs : List A) (i : ℕ) (x : A) → flat_map go xs ≡ [] →
    slice_get xs i ≡ Some x → go x ≡ []
flat_at go [] i x e at = absurd (none-some x at)
flat_at go (y ∷ xs) zero x e at = ap go (sym (same_Some y x at)) ∙ (both_empty (go y) (flat_map go xs) e).0
flat_at go (y ∷ xs) (suc i) x e at = flat_at go xs i x (both_empty (go y) (flat_map go xs) e).1 at

pub flat_in : (go : ℕ → Rules) (ks : List ℕ) (k : ℕ) → flat_map go ks ≡ [] → In k ks → go k ≡ []
flat_in go [] k e i = absurd i
flat_in go (j ∷ ks) k e (inl same) = ap go same ∙ (both_empty (go j) (flat_map go ks) e).0
flat_in go (j ∷ ks) k e (inr i) = flat_in go ks k (both_empty (go j) (flat_map go ks) e).1 i

pub none_at : {A : Type 0} (go : A → Rules) (xs : List A) (i : ℕ) (x : A) → BreakNone (map go xs) →
    slice_get xs i ≡ Some x → go x ≡ []
none_at go [] i x e at = absurd (none-some x at)
none_at go (y ∷ xs) zero x e at = ap go (sym (same_Some y x at)) ∙ e.0
none_at go (y ∷ xs) (suc i) x e at = none_at go xs i x e.1 at

none_numbered : {A : Type 0} (go : ℕ × A → List Rules) (from : ℕ) (xs : List A) (i : ℕ) (x : A) →
    BreakNone (flat_map go (enumerate_from from xs)) → slice_get xs i ≡ Some x → BreakNone (go (from + i, x))
none_numbered go from [] i x e at = absurd (none-some x at)
none_numbered go from (y ∷ xs) zero x e at =
    subst (λ n. BreakNone (go (n, x))) (plus_none from)
    (subst (λ y. BreakNone (go (from, y))) (same_Some y x at)
    (none_left (go (from, y)) (flat_map go (enumerate_from (from + 1) xs)) e))
  where
    plus_none : (from : ℕ) → from ≡ from + 0
    plus_none from = omega arith
none_numbered go from (y ∷ xs) (suc i) x e at =
    subst (λ n. BreakNone (go (n, x))) (plus_one from i)
    (none_numbered go (from + 1) xs i x
    (none_right (go (from, y)) (flat_map go (enumerate_from (from + 1) xs)) e) at)
  where
    plus_one : (from i : ℕ) → from + 1 + i ≡ from + suc i
    plus_one from i = omega arith

pub zero_plus : (n : ℕ) → 0 + n ≡ n
zero_plus n = omega arith

-- a number that a list has
pub has_in : (ns : List ℕ) (n : ℕ) → has ns n ≡ true → In n ns
has_in [] n e = cc
has_in (m ∷ ns) n e = by (has_in ns n) (m == n) refl e
  where
    by : (has ns n ≡ true → In n ns) → (b : Bool) → (m == n) ≡ b → (b || has ns n) ≡ true → In n (m ∷ ns)
    by rest true q e = inl (sym (eqb-true m n q))
    by rest false q e = inr (rest e)

pub in_has : (ns : List ℕ) (n : ℕ) → In n ns → has ns n ≡ true
in_has [] n i = absurd i
in_has (m ∷ ns) n (inl e) = ap (λ b. b || has ns n) (eq-eqb m n (sym e))
in_has (m ∷ ns) n (inr i) = ap (λ b. (m == n) || b) (in_has ns n i) ∙ or_true (m == n)
  where
    or_true : (b : Bool) → (b || true) ≡ true
    or_true true = refl
    or_true false = refl

-- ---- programs

first_none : (n : ℕ) (rows : List Rules) → first_broken n rows ≡ None → BreakNone rows
first_none n [] e = tt
first_none n ([] ∷ rows) e = (refl, first_none (suc n) rows e)
first_none n ((r ∷ rs) ∷ rows) e = absurd (none-some (n, least_of r rs) (sym e))

module _ (p : Program) (kinded : IsKinded p) where
  abbrev head_rows : List Rules
  head_rows = unless (has_main p) rule.NO_MAIN ∷ map set_broken p.sets

  abbrev all_types : List Rules
  all_types = flat_map (λ q. type_rows p q.0 q.1) (enumerate_from 0 p.types)

  abbrev all_functions : List Rules
  all_functions = flat_map (function_rows p) (enumerate_from 0 p.fns)

  none : BreakNone (head_rows ++ all_types ++ all_functions)
  none = first_none 0 (head_rows ++ all_types ++ all_functions) kinded

  -- the rows of a type, and those of a function
  pub type_kinded : (t : ℕ) (d : TypeDecl) → slice_get p.types t ≡ Some d → BreakNone (type_rows p t d)
  type_kinded t d at =
      subst (λ t. BreakNone (type_rows p t d)) (zero_plus t)
      (none_numbered (λ q. type_rows p q.0 q.1) 0 p.types t d
      (none_right head_rows all_types (none_left (head_rows ++ all_types) all_functions none)) at)

  pub function_kinded : (g : ℕ) (f : Func) → slice_get p.fns g ≡ Some f → BreakNone (function_rows p (g, f))
  function_kinded g f at =
      subst (λ g. BreakNone (function_rows p (g, f))) (zero_plus g)
      (none_numbered (function_rows p) 0 p.fns g f (none_right (head_rows ++ all_types) all_functions none) at)
