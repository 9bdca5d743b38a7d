-- The least of two lists of rules is the lesser of their least.
use Rattle.std.proofs.Common.{◌≡◌, refl, sym, ap, ◌∙◌, ◌<◌, ◌+◌, suc, map, drop, length, get_or, drop-cons, add-one, ℕ, nat_lt, if◌then◌else◌, Bool, true, false, List, [], ◌∷◌, ◌++◌, Option, Some, None, arith}
use Rattle.std.proofs.lemmas.Bool.Decides.{nat_tests}
use Rattle.std.specs.List.{flat_map}
use Rattle.std.proofs.lemmas.List.Concat.{flat_map-cons}
use Rattle.vlt_core.specs.KindedHeads.{Rules}
use Rattle.vlt_core.specs.Kinded.{least_of}
use Rattle.cert_kinds_types.specs.Least.{least, lesser}

abbrev lower : ℕ → ℕ → ℕ
lower q r = if nat_lt q r then q else r

lower_of_three : (m q r : ℕ) → lower m (lower q r) ≡ lower (lower m q) r
lower_of_three m q r = by (nat_lt q r) refl (nat_lt m q) refl (nat_lt m r) refl
  where
    by : (a : Bool) → nat_lt q r ≡ a → (b : Bool) → nat_lt m q ≡ b → (c : Bool) → nat_lt m r ≡ c → lower m (lower q r) ≡ lower (lower m q) r
    by true a true b true c = rw (a, b, c) refl
    by true a true b false c = absurd (grind (arith, nat_tests))
    by true a false b true c = rw (a, b, a) refl
    by true a false b false c = rw (a, b, a) refl
    by false a true b true c = rw (a, b, c) refl
    by false a true b false c = rw (a, b, c) refl
    by false a false b true c = absurd (grind (arith, nat_tests))
    by false a false b false c = rw (a, b, c, a) refl

-- a rule before others
ahead : (r q : ℕ) (qs : Rules) → least_of r (q ∷ qs) ≡ lower (least_of q qs) r
ahead r q [] = refl
ahead r q (p ∷ qs) = ahead (lower q r) p qs ∙ lower_of_three (least_of p qs) q r ∙ ap (λ m. lower m r) (sym (ahead q p qs))

more : (r : ℕ) (rs ys : Rules) → least_of r (rs ++ ys) ≡ least_of (least_of r rs) ys
more r [] ys = refl
more r (q ∷ qs) ys = more (lower q r) qs ys

pub joined : (xs ys : Rules) → least (xs ++ ys) ≡ lesser (least xs) (least ys)
joined [] ys = refl
joined (r ∷ rs) [] = ap Some (more r rs [])
joined (r ∷ rs) (q ∷ qs) = ap Some (more r rs (q ∷ qs) ∙ ahead (least_of r rs) q qs)

-- a rule before others
pub before_others : (r : ℕ) (rs : Rules) → least (r ∷ rs) ≡ lesser (Some r) (least rs)
before_others r rs = joined (r ∷ []) rs

pub one_more : (a b c : Option ℕ) → lesser a (lesser b c) ≡ lesser (lesser a b) c
one_more None b c = refl
one_more (Some m) None c = refl
one_more (Some m) (Some n) None = refl
one_more (Some m) (Some n) (Some k) = ap Some (sym (lower_of_three k n m))

-- one more of a list whose members each break rules
pub each_more : {A : Type 0} (g : A → Rules) (found : Option ℕ) (x : A) (xs : List A) →
    lesser found (least (flat_map g (x ∷ xs))) ≡ lesser (lesser found (least (g x))) (least (flat_map g xs))
each_more g found x xs = ap (λ rs. lesser found (least rs)) (flat_map-cons g x xs) ∙ ap (lesser found) (joined (g x) (flat_map g xs)) ∙ one_more found (least (g x)) (least (flat_map g xs))

-- the same where a loop comes to the next of a list
pub each_next : {A B : Type 0} (g : A → Rules) (w : B → A) (found : Option ℕ) (xs : List B) (i : ℕ) (d : B) → i < length xs →
    lesser found (least (flat_map g (map w (drop i xs)))) ≡ lesser (lesser found (least (g (w (get_or xs i d))))) (least (flat_map g (map w (drop (i + 1) xs))))
each_next g w found xs i d lt =
    ap (λ ys. lesser found (least (flat_map g (map w ys)))) (drop-cons xs i d lt)
    ∙ each_more g found (w (get_or xs i d)) (map w (drop (suc i) xs))
    ∙ ap (λ n. lesser (lesser found (least (g (w (get_or xs i d))))) (least (flat_map g (map w (drop n xs))))) (sym (add-one i))

pub each_item : {A B : Type 0} (g : A → Rules) (w : B → A) (found : Option ℕ) (xs : List B) (i : ℕ) (x : B) → x ≡ get_or xs i x → i < length xs →
    lesser found (least (flat_map g (map w (drop i xs)))) ≡ lesser (lesser found (least (g (w x)))) (least (flat_map g (map w (drop (i + 1) xs))))
each_item g w found xs i x is lt =
    each_next g w found xs i x lt
    ∙ ap (λ y. lesser (lesser found (least (g (w y)))) (least (flat_map g (map w (drop (i + 1) xs))))) (sym is)

pub each_item_of : {A B C : Type 0} (g : C → Rules) (h : A → C) (w : B → A) (found : Option ℕ) (xs : List B) (i : ℕ) (x : B) → x ≡ get_or xs i x → i < length xs →
    lesser found (least (flat_map g (map h (map w (drop i xs))))) ≡ lesser (lesser found (least (g (h (w x))))) (least (flat_map g (map h (map w (drop (i + 1) xs)))))
each_item_of g h w found xs i x is lt =
    ap (λ ys. lesser found (least (flat_map g (map h (map w ys))))) (drop-cons xs i x lt)
    ∙ ap (λ y. lesser found (least (flat_map g (h (w y) ∷ map h (map w (drop (suc i) xs)))))) (sym is)
    ∙ each_more g found (h (w x)) (map h (map w (drop (suc i) xs)))
    ∙ ap (λ n. lesser (lesser found (least (g (h (w x))))) (least (flat_map g (map h (map w (drop n xs)))))) (sym (add-one i))
