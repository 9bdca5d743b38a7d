-- Of a program that breaks no rule, no row of a body does, and main has a body.
use Rattle.std.proofs.Common.{◌≡◌, ℕ, zero, suc, ◌+◌, ◌==◌, nat_le, filter, length, ◌||◌, Bool, true, false, not, if◌then◌else◌, List, [], ◌∷◌, ◌++◌, map, Option, Some, None, slice_get, refl, sym, ap, ◌∙◌, subst, arith}
use Rattle.std.proofs.lemmas.Bool.{false≢true}
use Rattle.std.proofs.lemmas.Option.{none-some, same_Some}
use Rattle.std.specs.List.{flat_map, enumerate_from}
use Rattle.vlt_core.specs.Core.{Func, Program}
use Rattle.vlt_core.specs.Instances.{instance}
use Rattle.vlt_core.specs.KindedHeads.{Rules, unless, set_broken, type_rows, head_broken, has, new_keys, new_key_broken, keys_of_parameters, keys_of_result, result_broken, external_broken, is_main_head, is_bound_entry}
use Rattle.vlt_core.specs.KindedBodies.{first_ids, stmts_rows, body_rows, end_broken}
use Rattle.vlt_core.specs.declared.rules.TheConstants as rule
use Rattle.vlt_core.specs.Kinded.{has_main, function_rows, rows_broken, IsKinded}
use Rattle.vlt_core_laws.proofs.Instanced.{body_rows_same}
use Rattle.c_lower_worlds.specs.Naming.KindedParts.{AreKinded, HasKindedBodies}
use Rattle.c_lower_worlds.proofs.OfNaming.RuleFacts.{both_empty}
use Rattle.vlt_core_laws.proofs.Unbroken.{each_left, each_right, each_of_first}
use Rattle.vlt_core_laws.specs.Unbroken.{EachEmpty}
use Rattle.vlt_core.specs.Proper.{HasProperBodies}

pub none_numbered : {A : Type 0} (go : ℕ × A → List Rules) (from : ℕ) (xs : List A) (i : ℕ) (x : A) →
    EachEmpty (flat_map go (enumerate_from from xs)) → slice_get xs i ≡ Some x → EachEmpty (go (from + i, x))
none_numbered go from [] i x e at = absurd (none-some x at)
none_numbered go from (y ∷ xs) zero x e at =
    subst (λ n. EachEmpty (go (n, x))) (plus_none from)
    (subst (λ y. EachEmpty (go (from, y))) (same_Some y x at) (each_left (go (from, y)) (flat_map go (enumerate_from (from + 1) xs)) e))
  where
    plus_none : (from : ℕ) → from ≡ from + 0
    plus_none from = omega arith
none_numbered go from (y ∷ xs) (suc i) x e at =
    subst (λ n. EachEmpty (go (n, x))) (plus_one from i)
    (none_numbered go (from + 1) xs i x (each_right (go (from, y)) (flat_map go (enumerate_from (from + 1) xs)) e) at)
  where
    plus_one : (from i : ℕ) → from + 1 + i ≡ from + suc i
    plus_one from i = omega arith

pub function_kinded : (p : Program) → IsKinded p → (g : ℕ) (f : Func) → slice_get p.fns g ≡ Some f → EachEmpty (function_rows p (g, f))
function_kinded p kinded g f at =
    subst (λ g. EachEmpty (function_rows p (g, f))) (zero_plus g)
    (none_numbered (function_rows p) 0 p.fns g f
    (each_right (unless (has_main p) rule.NO_MAIN ∷ map set_broken p.sets ++ flat_map (λ q. type_rows p q.0 q.1) (enumerate_from 0 p.types)) (flat_map (function_rows p) (enumerate_from 0 p.fns))
    (each_of_first 0 (rows_broken p) kinded)) at)
  where
    zero_plus : (n : ℕ) → 0 + n ≡ n
    zero_plus n = omega arith

pub bodies_are : (p : Program) → IsKinded p → HasProperBodies p → HasKindedBodies p
bodies_are p kinded proper = by (slice_get p.fns p.main) refl (has_main p) refl
  where
    rows : EachEmpty (rows_broken p)
    rows = each_of_first 0 (rows_broken p) kinded

    body : (f : Func) → EachEmpty (body_rows p f) → f.external ≡ false →
        EachEmpty (stmts_rows p f (record { jumps = false; returns = true }) (first_ids p f) false f.body)
    body f h e = subst EachEmpty (ap (λ b. if b then [] else stmts_rows p f (record { jumps = false; returns = true }) (first_ids p f) false f.body) e) h

    kinded_at : (g : ℕ) (f : Func) → slice_get p.fns g ≡ Some f → (o : Option ℕ) → f.external ≡ false →
        AreKinded p (instance p f o) (record { jumps = false; returns = true }) (first_ids p (instance p f o)) false f.body
    kinded_at g f at o external = record {
      rows = body (instance p f o) (subst EachEmpty (sym (body_rows_same p f o)) (function_kinded p kinded g f at).1) external;
      proper = proper g f at;
      scoped = record { bound = λ v e. e };
    }

    there : (b : Bool) → has_main p ≡ b → unless b rule.NO_MAIN ≡ [] → has_main p ≡ true
    there true e q = e
    there false e q = absurd (never rule.NO_MAIN q)
      where
        never : (r : ℕ) → r ∷ [] ≡ [] → ⊥
        never r q = cc

    main_so : has_main p ≡ true
    main_so = there (has_main p) refl rows.0

    plain : (f : Func) → not f.external ≡ true → f.external ≡ false
    plain f e = inner f.external e
      where
        inner : (b : Bool) → not b ≡ true → b ≡ false
        inner true e = absurd (false≢true e)
        inner false e = refl

    by : (o : Option Func) → slice_get p.fns p.main ≡ o → (b : Bool) → has_main p ≡ b → HasKindedBodies p
    by None at b e = absurd (false≢true (sym (rw at refl) ∙ main_so))
    by (Some f) at b e = record {
      main = f;
      main_at = at;
      main_body = plain f (sym (rw at refl) ∙ main_so);
      bodies = λ g h is external.
          subst (λ (h : Func). h.external ≡ false → AreKinded p h (record { jumps = false; returns = true }) (first_ids p h) false h.body) is.is
          (kinded_at g is.declared is.at is.origin) external;
    }

-- each new key is that of a reference that is the result
pub new_rows : (p : Program) → IsKinded p → (g : ℕ) (gf : Func) → slice_get p.fns g ≡ Some gf → flat_map (new_key_broken gf) (new_keys gf) ≡ []
new_rows p kinded g gf at =
    let a = both_empty (head_broken p g gf) (end_broken p gf) (function_kinded p kinded g gf at).0 in
    let z = both_empty _ (unless (nat_le (length (filter is_bound_entry gf.clause)) 1) rule.SECOND_BOUND) a.left in
    let b = both_empty _ (if g == p.main then unless (is_main_head gf) rule.MAIN_HEAD else []) z.left in
    let c = both_empty _ (if gf.external then external_broken p gf else []) b.left in
    let d = both_empty _ (result_broken gf) c.left in
    let e = both_empty _ (flat_map (λ k. unless (has (new_keys gf) k || has (keys_of_parameters gf) k) rule.RESULT_KEY) (keys_of_result gf)) d.right in
    (both_empty _ (flat_map (new_key_broken gf) (new_keys gf)) e.left).right
