-- Lists that are cut at given ends: a part, and one part more.
use Rattle.std.proofs.Common.{◌≡◌, ℕ, zero, suc, ◌-◌, ◌<◌, ◌≤◌, ◌++◌, leb, List, [], ◌∷◌, length, drop, take, get_or, IsTrue, Some, None, refl, ap, ◌∙◌, arith}
use Rattle.std.specs.List.{slice_range, slice_get}
use Rattle.std.proofs.lemmas.Bool.{le-leb, leb-true, eqb-true, eq-eqb}
use Rattle.std.proofs.Math.Seq.{drop-append_seam}
use Rattle.std.proofs.lemmas.List.{length-drop, take_rest, drop-append-le, take-append-le}
use Rattle.vlt_numbers.specs.Ends.{are_ends}
use Rattle.vlt_numbers.proofs.Reading.{both, starts_below}
use Rattle.vlt_host_meaning.specs.Parts.{parts_of}

-- ---- a part

module _ {A : Type 0} where
  pub part_at : (start : ℕ) (ends : List ℕ) (xs : List A) (i : ℕ) → i < length ends →
      slice_get (parts_of start ends xs) i ≡ Some (slice_range xs (get_or (start ∷ ends) i 0) (get_or ends i 0))
  part_at start [] xs i lt = absurd (omega arith)
  part_at start (end ∷ ends) xs zero lt = refl
  part_at start (end ∷ ends) xs (suc i) lt = part_at end ends xs i (omega arith)

  pub no_part : (start : ℕ) (ends : List ℕ) (xs : List A) (i : ℕ) → length ends ≤ i → slice_get (parts_of start ends xs) i ≡ None
  no_part start [] xs i le = refl
  no_part start (end ∷ ends) xs zero le = absurd (omega arith)
  no_part start (end ∷ ends) xs (suc i) le = no_part end ends xs i (omega arith)

-- ---- one part more

pub are_ends_push : (start : ℕ) (ends : List ℕ) (count more : ℕ) → IsTrue (are_ends start ends count) → count ≤ more →
    IsTrue (are_ends start (ends ++ more ∷ []) more)
are_ends_push start [] count more h le =
    let e = eqb-true start count h in rw (le-leb start more (omega arith), eq-eqb more more refl) refl
are_ends_push start (end ∷ ends) count more h le =
    let k = both (leb start end) (are_ends end ends count) h in
    rw k.0 (are_ends_push end ends count more k.1 le)

module _ {A : Type 0} where
  pub parts_push : (start : ℕ) (ends : List ℕ) (xs new : List A) → IsTrue (are_ends start ends (length xs)) →
      parts_of start (ends ++ length (xs ++ new) ∷ []) (xs ++ new) ≡ parts_of start ends xs ++ new ∷ []
  parts_push start [] xs new h = ap (λ part. part ∷ []) (last start (eqb-true start (length xs) h))
    where
      last : (s : ℕ) → s ≡ length xs → slice_range (xs ++ new) s (length (xs ++ new)) ≡ new
      last s e = rw e (take_rest (xs ++ new) (length xs) ∙ drop-append_seam xs new)
  parts_push start (end ∷ ends) xs new h =
      let k = both (leb start end) (are_ends end ends (length xs)) h in
      let le = starts_below end ends (length xs) k.1 in
      let part : slice_range (xs ++ new) start end ≡ slice_range xs start end =
      ap (take (end - start)) (drop-append-le start xs new (omega (arith, leb-true start end k.0)))
      ∙ take-append-le (end - start) (drop start xs) new (omega (arith, length-drop start xs)) in
      rw part (ap (λ parts. slice_range xs start end ∷ parts) (parts_push end ends xs new k.1))

pub parts_long : {A : Type 0} (start : ℕ) (ends : List ℕ) (xs : List A) → length (parts_of start ends xs) ≡ length ends
parts_long start [] xs = refl
parts_long start (end ∷ ends) xs = let n = parts_long end ends xs in omega (arith, n)
