-- The parts of a text, taken off one after the other.
use Rattle.std.proofs.Common.{◌≡◌, ℕ, ◌+◌, ◌<◌, ◌≤◌, Bool, true, false, cond, eqb, ltb, List, [], ◌∷◌, length, filter, Option, Some, None, refl, ap, sym, ◌∙◌, arith}
use Rattle.std.specs.List.{slice_split, position_or_len, before_first, after_first, onto_first}
use Rattle.std.proofs.lemmas.Bool.{ltb-true, ltb-false}
use Rattle.std.proofs.lemmas.Bool.Decides.{nat_tests}
use Rattle.std.proofs.lemmas.List.{take_all, drop_all}
use Rattle.std.proofs.lemmas.List.Splits.{slice_split_first, slice_split_none}
use Rattle.std.proofs.lemmas.List.Sums.{fails_before_first}
use Rattle.vlt_numbers.specs.Text.{is_one_of, line_ends, blanks, without_empty_end, lines_of, words_of}

-- what a search says where it finds a place
pub found : (p : ℕ → Bool) (xs : List ℕ) (r : Option ℕ) (at : ℕ)
    → r ≡ cond (ltb (position_or_len p xs) (length xs)) (Some (position_or_len p xs)) None → r ≡ Some at → at ≡ position_or_len p xs
found p xs r at h is = by_test (ltb (position_or_len p xs) (length xs)) (sym is ∙ h)
  where
    by_test : (t : Bool) → Some at ≡ cond t (Some (position_or_len p xs)) None → at ≡ position_or_len p xs
    by_test true e = (cc)
    by_test false e = (cc)

-- and where it finds none
pub not_found : (p : ℕ → Bool) (xs : List ℕ) (r : Option ℕ)
    → r ≡ cond (ltb (position_or_len p xs) (length xs)) (Some (position_or_len p xs)) None → r ≡ None → length xs ≤ position_or_len p xs
not_found p xs r h is = by_test (ltb (position_or_len p xs) (length xs)) refl (sym is ∙ h)
  where
    by_test : (t : Bool) → ltb (position_or_len p xs) (length xs) ≡ t → None ≡ cond t (Some (position_or_len p xs)) None → length xs ≤ position_or_len p xs
    by_test true e f = (cc)
    by_test false e f = ltb-false (position_or_len p xs) (length xs) e

-- a text without such bytes is its own only part
one_part : (p : ℕ → Bool) (xs : List ℕ) → length xs ≤ position_or_len p xs → slice_split p xs ≡ xs ∷ []
one_part p xs h = slice_split_none p xs (λ k d inside. fails_before_first p xs k d (omega arith))

without_empty_end-onto_first : (part : List ℕ) (x : ℕ) (parts : List (List ℕ)) → without_empty_end (part ∷ onto_first x parts) ≡ part ∷ without_empty_end (onto_first x parts)
without_empty_end-onto_first part x [] = refl
without_empty_end-onto_first part x (next ∷ more) = refl

-- after a separator stands a part more, be it empty
without_empty_end-slice_split : (p : ℕ → Bool) (part : List ℕ) (xs : List ℕ) → without_empty_end (part ∷ slice_split p xs) ≡ part ∷ without_empty_end (slice_split p xs)
without_empty_end-slice_split p part [] = refl
without_empty_end-slice_split p part (x ∷ xs) = by_test (p x)
  where
    by_test : (t : Bool) → without_empty_end (part ∷ cond t ([] ∷ slice_split p xs) (onto_first x (slice_split p xs))) ≡ part ∷ without_empty_end (cond t ([] ∷ slice_split p xs) (onto_first x (slice_split p xs)))
    by_test true = refl
    by_test false = without_empty_end-onto_first part x (slice_split p xs)

-- a text that isn't empty is its first line, and the lines after it
pub lines_of-first : (text : List ℕ) → 0 < length text
    → lines_of text ≡ before_first (is_one_of line_ends) text ∷ lines_of (after_first (is_one_of line_ends) text)
lines_of-first text h = by_test (ltb (position_or_len p text) (length text)) refl
  where
    p : ℕ → Bool
    p = is_one_of line_ends

    by_test : (t : Bool) → ltb (position_or_len p text) (length text) ≡ t → lines_of text ≡ before_first p text ∷ lines_of (after_first p text)
    by_test true e = ap without_empty_end (slice_split_first p text 0 (ltb-true _ _ e)) ∙ without_empty_end-slice_split p (before_first p text) (after_first p text)
    by_test false e =
        let l : length text ≤ position_or_len p text = ltb-false _ _ e in
        let more : eqb (length text) 0 ≡ false = grind (arith, nat_tests) in
        rw (one_part p text l, take_all (position_or_len p text) text l, drop_all (position_or_len p text + 1) text (omega arith), more)

-- and a line is its first word, if there is something in it, and the words after it
pub words_of-first : (line : List ℕ)
    → words_of line ≡ cond (ltb 0 (length (before_first (is_one_of blanks) line))) (before_first (is_one_of blanks) line ∷ words_of (after_first (is_one_of blanks) line)) (words_of (after_first (is_one_of blanks) line))
words_of-first line = by_test (ltb (position_or_len p line) (length line)) refl
  where
    p : ℕ → Bool
    p = is_one_of blanks

    by_test : (t : Bool) → ltb (position_or_len p line) (length line) ≡ t
        → words_of line ≡ cond (ltb 0 (length (before_first p line))) (before_first p line ∷ words_of (after_first p line)) (words_of (after_first p line))
    by_test true e = ap (filter (λ word. ltb 0 (length word))) (slice_split_first p line 0 (ltb-true _ _ e))
    by_test false e =
        let l : length line ≤ position_or_len p line = ltb-false _ _ e in
        rw (one_part p line l, take_all (position_or_len p line) line l, drop_all (position_or_len p line + 1) line (omega arith))
