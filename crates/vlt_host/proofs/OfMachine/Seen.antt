-- What is seen of the objects that a host holds.
use Rattle.std.proofs.Common.{◌≡◌, ℕ, zero, suc, ◌+◌, ◌-◌, ◌≤◌, Bool, true, false, if◌then◌else◌, List, [], ◌∷◌, map, filter, Some, refl, sym, ap, ◌∙◌, subst, arith, slice_get}
use Rattle.std.specs.List.{enumerate_from}
use Rattle.std.specs.Option.{option_map}
use Rattle.std.proofs.lemmas.Option.{none-some, same_Some}
use Rattle.vlt_heap.specs.Shown.{IsLive, ForObject}
use Rattle.vlt_heap.specs.declared.slots.Obj.{Obj}
use Rattle.vlt_meaning.specs.World.{Object}
use Rattle.vlt_host_meaning.specs.HostFrame.{host_holds, held_objects}
use Rattle.vlt_host_acts.specs.declared.permits.hosted.Hosted.{Hosted}
use Rattle.vlt_host_acts.specs.Permits.Held.{numbers_in}
use Rattle.vlt_host_acts.specs.Permits.Hosted.{ShowsHosted}
use Rattle.vlt_host_acts.proofs.OfPermits.Seen.{seen}
use Rattle.vlt_host.specs.Machine.HostMachine.{seen_of}

-- the object at an index of those that pass a test, by its number
module _ (P : ℕ → Bool) where
  abbrev kept_from : (k : ℕ) → List Object → List (ℕ × Object)
  kept_from k xs = filter (λ q. P q.0) (enumerate_from k xs)

  abbrev with_first : Bool → (k : ℕ) → Object → List Object → List (ℕ × Object)
  with_first b k x xs = if b then (k, x) ∷ kept_from (k + 1) xs else kept_from (k + 1) xs

  pub record IsKept (k : ℕ) (xs : List Object) (rows : List (ℕ × Object)) (i n : ℕ) : Type 0 where
    pub object : Object
    pub at : slice_get rows i ≡ Some (n, object)
    pub from : k ≤ n
    pub there : slice_get xs (n - k) ≡ Some object
    pub passes : P n ≡ true

  pub kept_at : (k : ℕ) (xs : List Object) (i n : ℕ) → slice_get (map (λ q. q.0) (kept_from k xs)) i ≡ Some n → IsKept k xs (kept_from k xs) i n
  kept_at k [] i n e = absurd (none-some n e)
  kept_at k (x ∷ xs) i n e = by (P k) refl i e (λ j f. kept_at (k + 1) xs j n f)
    where
      later : (rows : List (ℕ × Object)) (j : ℕ) → IsKept (k + 1) xs (kept_from (k + 1) xs) j n → (i : ℕ) → slice_get rows i ≡ slice_get (kept_from (k + 1) xs) j → IsKept k (x ∷ xs) rows i n
      later rows j q i same = record {
        object = q.object;
        at = same ∙ q.at;
        from = let l = q.from in omega (arith, l);
        there = let l = q.from in let e : n - k ≡ suc (n - (k + 1)) = omega (arith, l) in ap (slice_get (x ∷ xs)) e ∙ q.there;
        passes = q.passes;
      }

      by : (b : Bool) → P k ≡ b → (i : ℕ) → slice_get (map {A = ℕ × Object} (λ q. q.0) (with_first b k x xs)) i ≡ Some n →
          ((j : ℕ) → slice_get (map (λ q. q.0) (kept_from (k + 1) xs)) j ≡ Some n → IsKept (k + 1) xs (kept_from (k + 1) xs) j n) → IsKept k (x ∷ xs) (with_first b k x xs) i n
      by true p zero e rest =
          let is = same_Some k n e in
          record {
            object = x;
            at = ap (λ m. Some (m, x)) is;
            from = omega (arith, is);
            there = let z : n - k ≡ 0 = omega (arith, is) in ap (slice_get (x ∷ xs)) z;
            passes = subst (λ m. P m ≡ true) is p;
          }
      by true p (suc i) e rest = later (with_first true k x xs) i (rest i e) (suc i) refl
      by false p i e rest = later (with_first false k x xs) i (rest i e) i refl

module _ (h : Hosted) (objects : List Object) (s : ShowsHosted h objects) where
  row_at : (i n : ℕ) → Some n ≡ slice_get (numbers_in h.held.now) i → IsKept (host_holds objects) 0 objects (held_objects objects) i n
  row_at i n e = kept_at (host_holds objects) 0 objects i n (ap (λ ns. slice_get ns i) (sym s.numbers) ∙ sym e)

  -- what is found is seen
  pub sight_is : (i n : ℕ) (o : Obj) (state type : ℕ) → Some n ≡ slice_get (numbers_in h.held.now) i → IsLive h.heap.now o → ForObject h.heap.now o (λ items m x. m ≡ n) →
      ForObject h.heap.now o (λ items m x. state ≡ x.state) → ForObject h.heap.now o (λ items m x. type ≡ x.type) →
      Some (record { position = n; state = state; type = type }) ≡ option_map seen_of (slice_get (held_objects objects) i)
  sight_is i n o state type e live number is_state is_type =
      let q = row_at i n e in
      let k = seen h objects s o n live number in
      let z : n ≡ n - 0 = omega arith in
      let object : k.object ≡ q.object = same_Some k.object q.object (sym k.there ∙ (ap (slice_get objects) z ∙ q.there)) in
      let a = is_state s.items n k.item s.holds k.at k.place ∙ (k.shows.state ∙ ap (λ x. x.state) object) in
      let b = is_type s.items n k.item s.holds k.at k.place ∙ (k.shows.type ∙ ap (λ x. x.type) object) in
      ap (λ x. Some (record { position = n; state = x; type = type })) a ∙
      (ap (λ x. Some (record { position = n; state = q.object.state; type = x })) b ∙
      ap (option_map seen_of) (sym q.at))

  -- and each object is found
  pub is_found : (i n : ℕ) → Some n ≡ slice_get (numbers_in h.held.now) i → false ≡ host_holds objects n → ⊥
  is_found i n e none = clash (none ∙ (row_at i n e).passes)
    where
      clash : false ≡ true → ⊥
      clash e = cc
