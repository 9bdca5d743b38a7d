-- The numbers of the objects that a host holds: they ascend, and are few.
use Rattle.std.proofs.Common.{◌≡◌, ℕ, suc, ◌+◌, ◌<◌, ◌≤◌, ◌==◌, Bool, true, false, ◌||◌, if◌then◌else◌, List, [], ◌∷◌, length, map, filter, Option, Some, None, refl, sym, ap, ◌∙◌, subst, arith, slice_get, cond}
use Rattle.std.specs.List.{enumerate_from}
use Rattle.std.proofs.lemmas.Bool.{eqb-true}
use Rattle.std.proofs.lemmas.Bool.Decides.{nat_tests}
use Rattle.std.proofs.lemmas.Option.{slice_get_within}
use Rattle.std.proofs.lemmas.List.Sums.{sum_by-cons}
use Rattle.vlt_core.specs.KindedHeads.{has}
use Rattle.vlt_heap.specs.Items.{Item, Items, is_there, live_count}
use Rattle.vlt_meaning.specs.World.{Object, Owner, gone, loose, inside, adopted_by, out, held, lent, is_gone, is_held_under}
use Rattle.vlt_acts.specs.Values.Shown.{ShowObjects}
use Rattle.vlt_host_meaning.specs.HostFrame.{holds_in, host_holds}
use Rattle.vlt_host_meaning.specs.HostClean.{held_numbers}
use Rattle.vlt_host_acts.specs.Permits.Numbers.{AreAbove, IsAscending}

same_test : (m n : ℕ) → m ≡ n → (m == n) ≡ true
same_test m n e = grind (arith, nat_tests)

clash : true ≡ false → ⊥
clash e = cc

-- the numbers from k on that pass a test, one for each item of a list
module _ (P : ℕ → Bool) where
  abbrev numbers_from : (k : ℕ) → List Object → List ℕ
  numbers_from k xs = map (λ q. q.0) (filter (λ q. P q.0) (enumerate_from k xs))

  abbrev with_first : Bool → (k : ℕ) → Object → List Object → List ℕ
  with_first b k x xs =
      map {A = ℕ × Object} (λ q. q.0) (if b then (k, x) ∷ filter (λ q. P q.0) (enumerate_from (k + 1) xs) else filter (λ q. P q.0) (enumerate_from (k + 1) xs))

  above_start : (n k : ℕ) (xs : List Object) → n < k → AreAbove n (numbers_from k xs)
  above_start n k [] l = tt
  above_start n k (x ∷ xs) l = by (P k) (above_start n (k + 1) xs (omega (arith, l)))
    where
      by : (b : Bool) → AreAbove n (numbers_from (k + 1) xs) → AreAbove n (with_first b k x xs)
      by true rest = (l, rest)
      by false rest = rest

  ascend : (k : ℕ) (xs : List Object) → IsAscending (numbers_from k xs)
  ascend k [] = tt
  ascend k (x ∷ xs) = by (P k) (above_start k (k + 1) xs (omega arith)) (ascend (k + 1) xs)
    where
      by : (b : Bool) → AreAbove k (numbers_from (k + 1) xs) → IsAscending (numbers_from (k + 1) xs) → IsAscending (with_first b k x xs)
      by true above rest = (above, rest)
      by false above rest = rest

  passes : (k : ℕ) (xs : List Object) (m : ℕ) → has (numbers_from k xs) m ≡ true → P m ≡ true
  passes k [] m e = cc
  passes k (x ∷ xs) m e = by (P k) refl (passes (k + 1) xs m) e
    where
      here : (c : Bool) → (k == m) ≡ c → P k ≡ true → (has (numbers_from (k + 1) xs) m ≡ true → P m ≡ true) →
          (c || has (numbers_from (k + 1) xs) m) ≡ true → P m ≡ true
      here true same p rest e = subst (λ n. P n ≡ true) (eqb-true k m same) p
      here false same p rest e = rest e

      by : (b : Bool) → P k ≡ b → (has (numbers_from (k + 1) xs) m ≡ true → P m ≡ true) → has (with_first b k x xs) m ≡ true → P m ≡ true
      by true p rest e = here (k == m) refl p rest e
      by false p rest e = rest e

  is_listed : (k : ℕ) (xs : List Object) (m : ℕ) → k ≤ m → m < k + length xs → P m ≡ true → has (numbers_from k xs) m ≡ true
  is_listed k [] m low high p = absurd (omega (arith, low, high))
  is_listed k (x ∷ xs) m low high p =
      by (P k) refl (k == m) refl (λ off. is_listed (k + 1) xs m (omega (arith, low, off)) (omega (arith, high)) p)
    where
      or_true : (c : Bool) → (c || true) ≡ true
      or_true true = refl
      or_true false = refl

      by : (b : Bool) → P k ≡ b → (c : Bool) → (k == m) ≡ c → ((k ≡ m → ⊥) → has (numbers_from (k + 1) xs) m ≡ true) → has (with_first b k x xs) m ≡ true
      by true q true same rest = ap (λ c. c || has (numbers_from (k + 1) xs) m) same
      by true q false same rest =
          ap (λ c. k == m || c) (rest (λ e. clash (sym (same_test k m e) ∙ same))) ∙ or_true (k == m)
      by false q true same rest = absurd (clash (sym p ∙ (ap P (sym (eqb-true k m same)) ∙ q)))
      by false q false same rest = rest (λ e. clash (sym (same_test k m e) ∙ same))

  fewer : (k : ℕ) (xs : List Object) (ys : Items) → length ys ≡ length xs →
      ((i : ℕ) (y : Option Item) → slice_get ys i ≡ Some y → P (k + i) ≡ true → is_there y ≡ true) →
      length (numbers_from k xs) ≤ live_count ys
  fewer k [] ys long each = omega arith
  fewer k (x ∷ xs) [] long each = absurd (omega (arith, long))
  fewer k (x ∷ xs) (y ∷ ys) long each =
      by (P k) refl (is_there y) refl
      (fewer (k + 1) xs ys (omega (arith, long)) (λ i z at p. each (suc i) z at (subst (λ n. P n ≡ true) (omega arith) p)))
    where
      counted : live_count (y ∷ ys) ≡ cond (is_there y) 1 0 + live_count ys
      counted = sum_by-cons (λ z. cond (is_there z) 1 0) y ys

      by : (b : Bool) → P k ≡ b → (c : Bool) → is_there y ≡ c → length (numbers_from (k + 1) xs) ≤ live_count ys →
          length (with_first b k x xs) ≤ live_count (y ∷ ys)
      by true p true t rest =
          let n : live_count (y ∷ ys) ≡ 1 + live_count ys = counted ∙ ap (λ c. cond c 1 0 + live_count ys) t in
          omega (arith, n, rest)
      by true p false t rest = absurd (clash (sym (each 0 y refl (subst (λ n. P n ≡ true) (omega arith) p)) ∙ t))
      by false p c t rest = omega (arith, counted, rest)

-- ---- what a host holds

holds_within : (objects : List Object) (n : ℕ) → host_holds objects n ≡ true → n < length objects
holds_within objects n e = by (slice_get objects n) refl e
  where
    by : (o : Option Object) → slice_get objects n ≡ o → holds_in n o ≡ true → n < length objects
    by None at e = cc
    by (Some o) at e = slice_get_within objects n o at

pub held_ascend : (objects : List Object) → IsAscending (held_numbers objects)
held_ascend objects = ascend (host_holds objects) 0 objects

pub held_has : (objects : List Object) (n : ℕ) → has (held_numbers objects) n ≡ host_holds objects n
held_has objects n = by (has (held_numbers objects) n) refl (host_holds objects n) refl
  where
    by : (a : Bool) → has (held_numbers objects) n ≡ a → (b : Bool) → host_holds objects n ≡ b → a ≡ b
    by true e true f = refl
    by false e false f = refl
    by true e false f = absurd (clash (sym (passes (host_holds objects) 0 objects n e) ∙ f))
    by false e true f =
        let within = holds_within objects n f in
        absurd (clash (sym (is_listed (host_holds objects) 0 objects n (omega arith) (omega (arith, within)) f) ∙ e))

-- who holds an object isn't gone
held_live : (n : ℕ) (u : Owner) → is_held_under 0 n u ≡ true → is_gone u ≡ false
held_live n (held d k) e = refl
held_live n (lent d k) e = refl
held_live n loose e = refl
held_live n (inside m) e = refl
held_live n (adopted_by m) e = refl
held_live n out e = refl
held_live n gone e = cc

-- what the host holds is there
pub is_held_there : (items : Items) (width : ℕ) (objects : List Object) → ShowObjects items width objects → (n : ℕ) (x : Option Item) →
    slice_get items n ≡ Some x → host_holds objects n ≡ true → is_there x ≡ true
is_held_there items width objects shown n None at e = by (slice_get objects n) refl e
  where
    by : (o : Option Object) → slice_get objects n ≡ o → holds_in n o ≡ true → false ≡ true
    by None there e = cc
    by (Some o) there e = sym (held_live n o.owner e) ∙ shown.each n None o at there
is_held_there items width objects shown n (Some x) at e = refl

pub few_held : (items : Items) (width : ℕ) (objects : List Object) → ShowObjects items width objects →
    length (held_numbers objects) ≤ live_count items
few_held items width objects shown =
    fewer (host_holds objects) 0 objects items shown.long (λ i x at e. is_held_there items width objects shown i x at (subst (λ n. host_holds objects n ≡ true) (omega arith) e))
