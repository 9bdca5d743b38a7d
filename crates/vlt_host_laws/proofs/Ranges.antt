-- Lists over the numbers below one.
use Rattle.std.proofs.Common.{◌≡◌, ℕ, ◌==◌, ◌<◌, ◌≤◌, Bool, true, false, ◌||◌, if◌then◌else◌, List, [], ◌∷◌, map, filter, length, Some, None, refl, sym, ap, ◌∙◌, ⊎_elim, subst, arith, slice_get}
use Rattle.std.proofs.lemmas.Bool.{cases_Bool, eq-eqb}
use Rattle.std.proofs.lemmas.List.FromFn.{get_or-map-range_with_len, length-map-range_with_len}
use Rattle.std.proofs.lemmas.Option.{slice_get-get_or, slice_get_past}
use Rattle.std.specs.List.{range_with_len}
use Rattle.vlt_core.specs.KindedHeads.{has}
use Rattle.vlt_sound_worlds.proofs.Binding.{first_or_other}

module _ {A : Type 0} (g : ℕ → A) (n : ℕ) where
  pub mapped_length : length (map g (range_with_len 0 n)) ≡ n
  mapped_length = length-map-range_with_len g 0 n

  pub mapped_at : (k : ℕ) → k < n → slice_get (map g (range_with_len 0 n)) k ≡ Some (g k)
  mapped_at k lt =
      let long = mapped_length in
      slice_get-get_or (map g (range_with_len 0 n)) k (g 0) (omega arith) ∙
      ap Some (get_or-map-range_with_len g 0 n k k (g 0) lt (omega arith))

  pub mapped_past : (k : ℕ) → n ≤ k → slice_get (map g (range_with_len 0 n)) k ≡ None
  mapped_past k le = let long = mapped_length in slice_get_past (map g (range_with_len 0 n)) k (omega arith)

module _ (test : ℕ → Bool) (v : ℕ) where
  pub filtered_passes : (ns : List ℕ) → has (filter test ns) v ≡ true → test v ≡ true
  filtered_passes [] e = cc
  filtered_passes (m ∷ ns) e = ⊎_elim
      (λ t. ⊎_elim
      (λ same. ap test same ∙ t)
      (filtered_passes ns)
      (first_or_other v m (filter test ns) (subst (λ b. has (if b then m ∷ filter test ns else filter test ns) v ≡ true) t e)))
      (λ f. filtered_passes ns (subst (λ b. has (if b then m ∷ filter test ns else filter test ns) v ≡ true) f e))
      (cases_Bool (test m))

  pub has_filtered : (ns : List ℕ) → has ns v ≡ true → test v ≡ true → has (filter test ns) v ≡ true
  has_filtered [] e t = cc
  has_filtered (m ∷ ns) e t = ⊎_elim
      (λ same. rw (ap test (sym same) ∙ t, eq-eqb m v (sym same)) refl)
      (λ rest. by (test m) (has_filtered ns rest t))
      (first_or_other v m ns e)
    where
      by : (b : Bool) → has (filter test ns) v ≡ true → has (if b then m ∷ filter test ns else filter test ns) v ≡ true
      by true q = more (m == v) q
        where
          more : (b : Bool) → has (filter test ns) v ≡ true → (b || has (filter test ns) v) ≡ true
          more true q = refl
          more false q = q
      by false q = q
