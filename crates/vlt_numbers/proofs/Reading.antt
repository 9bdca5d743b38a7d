-- How far the loops have come, and what a turn adds.
use Rattle.std.proofs.Common.{◌≡◌, ℕ, ◌+◌, ◌-◌, ◌<◌, ◌≤◌, ◌++◌, Bool, true, false, not, ◌&&◌, cond, leb, List, [], ◌∷◌, length, drop, take, map, ℤ, IsTrue, Option, Some, None, Ok, Err, refl, sym, ap, ◌∙◌, arith}
use Rattle.std.specs.List.{position_from, list_all, before_first, after_first, slice_range, flat_map}
use Rattle.std.specs.Option.{option_map_or}
use Rattle.std.proofs.Math.Seq.{drop-append_seam}
use Rattle.std.proofs.lemmas.List.Folds.{flat_map-map}
use Rattle.std.proofs.lemmas.Bool.{lt-ltb, le-leb, leb-true, eqb-true, eq-eqb}
use Rattle.std.proofs.lemmas.List.{append_assoc, length-append, length-drop, length-take, length_push, take_rest, drop_all, drop-append-le, take-append-le, drop-drop, take-append-drop}
use Rattle.vlt_numbers.specs.Ends.{are_ends, cut_at}
use Rattle.vlt_numbers.specs.Text.{is_one_of, line_ends, blanks, is_number, value_of, is_good, lines_of, words_of, numbers_of, first_bad_line, answers_of, input_numbers}
use Rattle.vlt_numbers.proofs.Cuts.{lines_of-first, words_of-first}

-- The rest of a line is still to be read: whether the line is good hangs on it, and its numbers are what lacks after these.
pub record ReadsLine (line rest : List ℕ) (old now : List ℤ) : Type 0 where
  pub good : is_good rest ≡ is_good line
  pub numbers : now ++ numbers_of rest ≡ old ++ numbers_of line
  pub few : length now + length rest ≤ length old + length line

abbrev pub word_in : List ℕ → List ℕ
word_in rest = before_first (is_one_of blanks) rest

abbrev pub after_word : List ℕ → List ℕ
after_word rest = after_first (is_one_of blanks) rest

pub length-after_first : (p : ℕ → Bool) (xs : List ℕ) → 0 < length xs → length (before_first p xs) + length (after_first p xs) < length xs + 1
length-after_first p xs h = simp (length-drop, length-take) (omega arith)

pub shorter : (p : ℕ → Bool) (xs : List ℕ) → 0 < length xs → length (after_first p xs) < length xs
shorter p xs h = simp length-drop (omega arith)

words_of-word : (rest : List ℕ) → 0 < length (word_in rest) → words_of rest ≡ word_in rest ∷ words_of (after_word rest)
words_of-word rest h =
    words_of-first rest ∙ ap (λ t. cond t (word_in rest ∷ words_of (after_word rest)) (words_of (after_word rest))) (lt-ltb 0 _ h)

pub pushes : (line rest : List ℕ) (old now : List ℤ) (number : ℤ) → ReadsLine line rest old now → 0 < length rest → 0 < length (word_in rest)
    → IsTrue (is_number (word_in rest)) → number ≡ value_of (word_in rest) → ReadsLine line (after_word rest) old (now ++ number ∷ [])
pushes line rest old now number r more h n v =
    let e = words_of-word rest h in
    let l = shorter (is_one_of blanks) rest more in
    record {
      good = sym (ap (list_all is_number) e ∙ ap (λ t. t && list_all is_number (words_of (after_word rest))) n) ∙ r.good;
      numbers = append_assoc now (number ∷ []) (numbers_of (after_word rest)) ∙ ap (λ m. now ++ m ∷ numbers_of (after_word rest)) v ∙ sym (ap (λ ws. now ++ map value_of ws) e) ∙ r.numbers;
      few = omega (arith, r.few, length_push now number);
    }

pub stops : (line rest : List ℕ) (old now : List ℤ) → ReadsLine line rest old now → 0 < length (word_in rest)
    → (IsTrue (is_number (word_in rest)) → ⊥) → is_good line ≡ false
stops line rest old now r h n =
    sym r.good ∙ ap (list_all is_number) (words_of-word rest h) ∙ ap (λ t. t && list_all is_number (words_of (after_word rest))) (fails (is_number (word_in rest)) n)
  where
    fails : (t : Bool) → (t ≡ true → ⊥) → t ≡ false
    fails true k = absurd (k refl)
    fails false k = refl

-- The rest of a text is still to be read: the lines before it are these answers, and what the text is hangs on the rest.
pub record ReadsText (text rest : List ℕ) (numbers : List ℤ) (ends : List ℕ) : Type 0 where
  pub ordered : IsTrue (are_ends 0 ends (length numbers))
  pub answers : cut_at 0 ends numbers ++ map numbers_of (lines_of rest) ≡ map numbers_of (lines_of text)
  pub first_bad : position_from (λ line. not (is_good line)) (length ends + 1) (lines_of rest) ≡ first_bad_line text
  pub few_ends : length ends + length rest ≤ length text
  pub few_numbers : length numbers + length rest ≤ length text

abbrev pub line_in : List ℕ → List ℕ
line_in rest = before_first (is_one_of line_ends) rest

abbrev pub after_line : List ℕ → List ℕ
after_line rest = after_first (is_one_of line_ends) rest

pub both : (a b : Bool) → IsTrue (a && b) → IsTrue a × IsTrue b
both true true h = (refl, refl)
both true false h = (cc)
both false b h = (cc)

pub starts_below : (start : ℕ) (ends : List ℕ) (count : ℕ) → IsTrue (are_ends start ends count) → start ≤ count
starts_below start [] count h = let e = eqb-true start count h in omega arith
starts_below start (end ∷ ends) count h =
    let k = both (leb start end) (are_ends end ends count) h in
    omega (arith, leb-true start end k.0, starts_below end ends count k.1)

-- an end more
are_ends-push : (start : ℕ) (ends : List ℕ) (count more : ℕ) → IsTrue (are_ends start ends count) → count ≤ more → IsTrue (are_ends start (ends ++ more ∷ []) more)
are_ends-push start [] count more h l =
    let e = eqb-true start count h in
    rw (le-leb start more (omega arith), eq-eqb more more refl)
are_ends-push start (end ∷ ends) count more h l =
    let k = both (leb start end) (are_ends end ends count) h in
    rw (k.0, are_ends-push end ends count more k.1 l)

cut_at-push : (start : ℕ) (ends : List ℕ) (numbers new : List ℤ) → IsTrue (are_ends start ends (length numbers))
    → cut_at start (ends ++ length (numbers ++ new) ∷ []) (numbers ++ new) ≡ cut_at start ends numbers ++ new ∷ []
cut_at-push start [] numbers new h = ap (λ part. part ∷ []) (last start (eqb-true start (length numbers) h))
  where
    last : (s : ℕ) → s ≡ length numbers → slice_range (numbers ++ new) s (length (numbers ++ new)) ≡ new
    last s e = rw e (take_rest (numbers ++ new) (length numbers) ∙ drop-append_seam numbers new)
cut_at-push start (end ∷ ends) numbers new h =
    let k = both (leb start end) (are_ends end ends (length numbers)) h in
    let le = starts_below end ends (length numbers) k.1 in
    let part : slice_range (numbers ++ new) start end ≡ slice_range numbers start end =
    ap (take (end - start)) (drop-append-le start numbers new (omega (arith, leb-true start end k.0)))
    ∙ take-append-le (end - start) (drop start numbers) new (omega (arith, length-drop start numbers)) in
    rw part (ap (λ parts. slice_range numbers start end ∷ parts) (cut_at-push end ends numbers new k.1))

pub more_lines : (text rest : List ℕ) (numbers : List ℤ) (ends : List ℕ) → ReadsText text rest numbers ends → 0 < length rest
    → IsTrue (is_good (line_in rest)) → length (numbers ++ numbers_of (line_in rest)) ≤ length numbers + length (line_in rest)
    → ReadsText text (after_line rest) (numbers ++ numbers_of (line_in rest)) (ends ++ length (numbers ++ numbers_of (line_in rest)) ∷ [])
more_lines text rest numbers ends r more good few =
    let lines = lines_of-first rest more in
    let l = length-after_first (is_one_of line_ends) rest more in
    let n = shorter (is_one_of line_ends) rest more in
    let new = numbers_of (line_in rest) in
    record {
      ordered = are_ends-push 0 ends (length numbers) (length (numbers ++ new)) r.ordered (omega (arith, length-append numbers new));
      answers = ap (λ parts. parts ++ map numbers_of (lines_of (after_line rest))) (cut_at-push 0 ends numbers new r.ordered)
          ∙ append_assoc (cut_at 0 ends numbers) (new ∷ []) (map numbers_of (lines_of (after_line rest)))
          ∙ sym (ap (λ ls. cut_at 0 ends numbers ++ map numbers_of ls) lines) ∙ r.answers;
      first_bad = ap (λ i. position_from (λ line. not (is_good line)) (i + 1) (lines_of (after_line rest))) (length_push ends (length (numbers ++ new)))
          ∙ sym (ap (position_from (λ line. not (is_good line)) (length ends + 1)) lines
          ∙ ap (λ t. cond (not t) (Some (length ends + 1)) (position_from (λ line. not (is_good line)) (length ends + 1 + 1) (lines_of (after_line rest)))) good)
          ∙ r.first_bad;
      few_ends = omega (arith, r.few_ends, length_push ends (length (numbers ++ new)));
      few_numbers = omega (arith, r.few_numbers, few, l);
    }

pub bad_line : (text rest : List ℕ) (numbers : List ℤ) (ends : List ℕ) → ReadsText text rest numbers ends → 0 < length rest
    → is_good (line_in rest) ≡ false → answers_of text ≡ Err (length ends + 1)
bad_line text rest numbers ends r more bad =
    let first : first_bad_line text ≡ Some (length ends + 1) =
    sym r.first_bad ∙ ap (position_from (λ line. not (is_good line)) (length ends + 1)) (lines_of-first rest more)
    ∙ ap (λ t. cond (not t) (Some (length ends + 1)) (position_from (λ line. not (is_good line)) (length ends + 1 + 1) (lines_of (after_line rest)))) bad in
    ap (λ o. option_map_or Err o (Ok (map numbers_of (lines_of text)))) first

-- the answers are the numbers, cut
flat_map-cut_at : (start : ℕ) (ends : List ℕ) (numbers : List ℤ) → IsTrue (are_ends start ends (length numbers)) → flat_map (λ part. part) (cut_at start ends numbers) ≡ drop start numbers
flat_map-cut_at start [] numbers h = let e = eqb-true start (length numbers) h in sym (drop_all start numbers (omega arith))
flat_map-cut_at start (end ∷ ends) numbers h =
    let k = both (leb start end) (are_ends end ends (length numbers)) h in
    let le = leb-true start end k.0 in
    let rest : drop (end - start) (drop start numbers) ≡ drop end numbers = drop-drop (end - start) start numbers ∙ ap (λ i. drop i numbers) (omega arith) in
    ap (λ xs. slice_range numbers start end ++ xs) (flat_map-cut_at end ends numbers k.1 ∙ sym rest) ∙ take-append-drop (end - start) (drop start numbers)

pub input_from_answers : (text : List ℕ) (numbers : List ℤ) (ends : List ℕ) → IsTrue (are_ends 0 ends (length numbers))
    → answers_of text ≡ Ok (cut_at 0 ends numbers) → input_numbers text ≡ Ok numbers
input_from_answers text numbers ends h e =
    let parts = by_bad (first_bad_line text) e in
    ap (λ o. option_map_or Err o (Ok (flat_map numbers_of (lines_of text)))) parts.0
    ∙ ap Ok (sym (flat_map-map (λ part. part) numbers_of (lines_of text)) ∙ ap (flat_map (λ part. part)) parts.1 ∙ flat_map-cut_at 0 ends numbers h)
  where
    by_bad : (o : Option ℕ) → option_map_or Err o (Ok (map numbers_of (lines_of text))) ≡ Ok (cut_at 0 ends numbers) → (o ≡ None) × (map numbers_of (lines_of text) ≡ cut_at 0 ends numbers)
    by_bad None f = (refl, cc)
    by_bad (Some line) f = (cc)
