-- The rows of declared types that break no rule name sets that are there.
use Rattle.std.proofs.Common.{◌≡◌, ℕ, zero, suc, nat_lt, Bool, true, ◌+◌, List, [], ◌∷◌, ◌++◌, map, length, Option, Some, None, refl, sym, subst, slice_get, arith}
use Rattle.std.specs.List.{flat_map, enumerate_from}
use Rattle.std.proofs.lemmas.List.Concat.{flat_map-cons}
use Rattle.vlt_core.specs.Core.{TypeDecl, an_abstract, a_struct, a_variant, Program}
use Rattle.vlt_core.specs.Lookups.{set_in, count_in}
use Rattle.vlt_core.specs.Types.{decl_of}
use Rattle.vlt_core.specs.KindedHeads.{Rules, set_broken, type_rows}
use Rattle.vlt_core.specs.Kinded.{function_rows, parts_broken, HasKindedParts}
use Rattle.vlt_core.specs.declared.rules.TheConstants as rule
use Rattle.vlt_core_laws.proofs.Unbroken.{left_empty, unless_holds, each_left, each_right, each_of_first, some_not_none, some_same}
use Rattle.vlt_core_laws.specs.Unbroken.{EachEmpty}

abbrev first_rows : Program → List Rules
first_rows p = map set_broken p.sets ++ flat_map (λ q. type_rows p q.0 q.1) (enumerate_from 0 p.types)

-- each has the row of its own number
numbered : {A : Type 0} (go : ℕ × A → List Rules) (n i : ℕ) (xs : List A) (x : A) → EachEmpty (flat_map go (enumerate_from n xs)) → slice_get xs i ≡ Some x → EachEmpty (go (n + i, x))
numbered go n i [] x e at = absurd (some_not_none x (sym at))
numbered go n zero (y ∷ ys) x e at =
    let both = subst EachEmpty (flat_map-cons go (n, y) (enumerate_from (n + 1) ys)) e in
    let is : n ≡ n + 0 = omega arith in
    subst (λ m. EachEmpty (go (m, x))) is (subst (λ z. EachEmpty (go (n, z))) (some_same y x at) (each_left (go (n, y)) (flat_map go (enumerate_from (n + 1) ys)) both))
numbered go n (suc i) (y ∷ ys) x e at =
    let both = subst EachEmpty (flat_map-cons go (n, y) (enumerate_from (n + 1) ys)) e in
    let is : n + 1 + i ≡ n + suc i = omega arith in
    subst (λ m. EachEmpty (go (m, x))) is (numbered go (n + 1) i ys x (each_right (go (n, y)) (flat_map go (enumerate_from (n + 1) ys)) both) at)

pub type_empty : (p : Program) (t : ℕ) (d : TypeDecl) → HasKindedParts p → decl_of p t ≡ Some d → EachEmpty (type_rows p t d)
type_empty p t d kinded at =
    let is : 0 + t ≡ t = omega arith in
    subst (λ m. EachEmpty (type_rows p m d)) is (numbered (λ q. type_rows p q.0 q.1) 0 t p.types d
    (each_right (map set_broken p.sets) (flat_map (λ q. type_rows p q.0 q.1) (enumerate_from 0 p.types))
    (each_left (first_rows p) (flat_map (function_rows p) (enumerate_from 0 p.fns)) (each_of_first 1 (parts_broken p) kinded))) at)

abbrev pub set_there : Program → Option ℕ → Bool
set_there p None = true
set_there p (Some i) = nat_lt i (length p.sets)

abbrev pub count_from : Program → Option ℕ → ℕ
count_from p None = 1
count_from p (Some i) = count_in (slice_get p.sets i)

pub sets_there : (p : Program) → HasKindedParts p → (t : ℕ) → set_there p (set_in (slice_get p.types t)) ≡ true
sets_there p kinded t = by (slice_get p.types t) refl
  where
    by : (o : Option TypeDecl) → slice_get p.types t ≡ o → set_there p (set_in o) ≡ true
    by None at = refl
    by (Some (an_abstract name set)) at = subst (λ o. set_there p (set_in o) ≡ true) at (unless_holds _ rule.UNKNOWN_NAME (type_empty p t (an_abstract name set) kinded at).0)
    by (Some (a_struct d)) at = subst (λ o. set_there p (set_in o) ≡ true) at (unless_holds _ rule.UNKNOWN_NAME (left_empty _ _ (left_empty _ _ (left_empty _ _ (type_empty p t (a_struct d) kinded at).0))))
    by (Some (a_variant d)) at = refl
