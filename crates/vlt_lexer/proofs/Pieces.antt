-- The longest piece at the front of a text, by its first character.
use Rattle.std.proofs.Common.{◌≡◌, ℕ, ◌≤◌, Bool, true, false, List, [], ◌∷◌, ◌++◌, length, Some, None, refl, sym, ap, ◌∙◌, arith}
use Rattle.std.specs.Prelude.{codes}
use Rattle.vlt_tokens.specs.declared.token.Mark.{Mark}
use Rattle.vlt_tokens.specs.declared.token.Mark.TheVariants as mark
use Rattle.vlt_tokens.specs.declared.token.TheConstants.Mark as signs
use Rattle.vlt_tokens.specs.Spelling.{sign_text}
use Rattle.vlt_tokens.specs.Characters.{is_digit, is_name_start, is_name_more, EachIs, IsName}
use Rattle.vlt_tokens.specs.Lexemes.{IsPiece, name, tick, digits, sign, line_opens, block_opens, IsLongest}
use Rattle.vlt_lexer.specs.Steps.{run, past_run, past_name, first_beginning, IsNoComment}
use Rattle.vlt_lexer.proofs.Runs.{none_some, head_is, tail_is, not_empty, true_false, run_longest, not_after}
use Rattle.vlt_lexer.proofs.Tables.{sign_found, signs_fall, longest_begins, none_begins, begun_splits}
use Rattle.vlt_lexer.proofs.Heads.{name_head, digit_head, sign_head, is_sign_head, sign_opens, sign_some}

-- a sign, or what opens a comment
pub data IsMark : List ℕ → Type 0 where
  a_sign : (other : List ℕ) (m : Mark) → other ≡ sign_text m → IsMark other
  a_line : (other : List ℕ) → other ≡ codes "//" → IsMark other
  a_block : (other : List ℕ) → other ≡ codes "/*" → IsMark other

-- what kind of piece stands at a text that begins with the character
pub data IsAt (c : ℕ) : List ℕ → Type 0 where
  at_name : (other ds : List ℕ) → other ≡ c ∷ ds → is_name_start c ≡ true → EachIs is_name_more ds → IsAt c other
  at_tick : (other ds : List ℕ) → other ≡ c ∷ ds → c ≡ 39 → IsName ds → IsAt c other
  at_digits : (other ds : List ℕ) → other ≡ c ∷ ds → is_digit c ≡ true → EachIs is_digit ds → IsAt c other
  at_mark : (other : List ℕ) → is_sign_head c ≡ true → IsMark other → IsAt c other

pub sign_at : (m : Mark) (c : ℕ) (cs rest : List ℕ) → c ∷ cs ≡ sign_text m ++ rest → is_sign_head c ≡ true
sign_at m c cs rest e = go (sign_text m) refl e
  where
    go : (t : List ℕ) → t ≡ sign_text m → c ∷ cs ≡ t ++ rest → is_sign_head c ≡ true
    go [] same h = absurd (sign_some m same)
    go (d ∷ ds) same h = sign_opens m c ds (sym same ∙ ap (λ n. n ∷ ds) (sym (head_is h)))

pub piece_at : (c : ℕ) (cs other rest : List ℕ) → c ∷ cs ≡ other ++ rest → IsPiece other → IsAt c other
piece_at c cs other rest e (name [] is) = absurd is
piece_at c cs other rest e (name (d ∷ ds) is) = let same = head_is e in at_name (d ∷ ds) ds (ap (λ n. n ∷ ds) (sym same)) (ap is_name_start same ∙ is.0) is.1
piece_at c cs other rest e (tick ds is) = at_tick (39 ∷ ds) ds (ap (λ n. n ∷ ds) (sym (head_is e))) (head_is e) is
piece_at c cs other rest e (digits [] is) = absurd is
piece_at c cs other rest e (digits (d ∷ ds) is) = let same = head_is e in at_digits (d ∷ ds) ds (ap (λ n. n ∷ ds) (sym same)) (ap is_digit same ∙ is.0) is.1
piece_at c cs other rest e (sign m) = at_mark (sign_text m) (sign_at m c cs rest e) (a_sign (sign_text m) m refl)
piece_at c cs other rest e line_opens = at_mark (codes "//") (ap is_sign_head (head_is e)) (a_line (codes "//") refl)
piece_at c cs other rest e block_opens = at_mark (codes "/*") (ap is_sign_head (head_is e)) (a_block (codes "/*") refl)

clash : (b : Bool) → b ≡ true → b ≡ false → ⊥
clash b is isn = true_false (sym is ∙ isn)

-- a front after one character is as long as the run there, at most
no_longer : (is : ℕ → Bool) (c : ℕ) (cs other rest ds : List ℕ) → c ∷ cs ≡ other ++ rest → other ≡ c ∷ ds → EachIs is ds → length other ≤ length (c ∷ run is cs)
no_longer is c cs other rest ds e same each =
    let n : length ds ≤ length (run is cs) = run_longest is cs ds rest each (tail_is (e ∙ ap (λ t. t ++ rest) same)) in
    omega (arith, ap length same)

pub longest_name : (c : ℕ) (cs : List ℕ) → is_name_start c ≡ true → IsLongest (c ∷ run is_name_more cs) (c ∷ cs)
longest_name c cs starts = λ other rest e p. go other rest e (piece_at c cs other rest e p)
  where
    go : (other rest : List ℕ) → c ∷ cs ≡ other ++ rest → IsAt c other → length other ≤ length (c ∷ run is_name_more cs)
    go other rest e (at_name _ ds same is each) = no_longer is_name_more c cs other rest ds e same each
    go other rest e (at_tick _ ds same is named) = absurd ((name_head c starts).no_tick is)
    go other rest e (at_digits _ ds same is each) = absurd (clash _ is (name_head c starts).no_digit)
    go other rest e (at_mark _ is which) = absurd (clash _ is (name_head c starts).no_sign)

pub longest_digits : (c : ℕ) (cs : List ℕ) → is_digit c ≡ true → IsLongest (c ∷ run is_digit cs) (c ∷ cs)
longest_digits c cs starts = λ other rest e p. go other rest e (piece_at c cs other rest e p)
  where
    go : (other rest : List ℕ) → c ∷ cs ≡ other ++ rest → IsAt c other → length other ≤ length (c ∷ run is_digit cs)
    go other rest e (at_name _ ds same is each) = absurd (clash _ starts (name_head c is).no_digit)
    go other rest e (at_tick _ ds same is named) = absurd ((digit_head c starts).2 is)
    go other rest e (at_digits _ ds same is each) = no_longer is_digit c cs other rest ds e same each
    go other rest e (at_mark _ is which) = absurd (clash _ is (digit_head c starts).1)

pub longest_tick : (c d : ℕ) (cs : List ℕ) → c ≡ 39 → is_name_start d ≡ true → IsLongest (c ∷ d ∷ run is_name_more cs) (c ∷ d ∷ cs)
longest_tick c d cs ticks starts = λ other rest e p. go other rest e (piece_at c (d ∷ cs) other rest e p)
  where
    named : (ds other rest : List ℕ) → IsName ds → other ≡ c ∷ ds → d ∷ cs ≡ ds ++ rest → length other ≤ length (c ∷ d ∷ run is_name_more cs)
    named [] other rest is same e = absurd is
    named (x ∷ xs) other rest is same e =
        let n : length xs ≤ length (run is_name_more cs) = run_longest is_name_more cs xs rest is.1 (tail_is e) in
        omega (arith, ap length same)

    go : (other rest : List ℕ) → c ∷ d ∷ cs ≡ other ++ rest → IsAt c other → length other ≤ length (c ∷ d ∷ run is_name_more cs)
    go other rest e (at_name _ ds same is each) = absurd ((name_head c is).no_tick ticks)
    go other rest e (at_tick _ ds same is name_is) = named ds other rest name_is same (tail_is (e ∙ ap (λ t. t ++ rest) same))
    go other rest e (at_digits _ ds same is each) = absurd ((digit_head c is).2 ticks)
    go other rest e (at_mark _ is which) = absurd ((sign_head c is).1 ticks)

pub longest_sign : (cs : List ℕ) (m : Mark) (after : List ℕ) → first_beginning sign_text signs.ALL cs ≡ Some (m, after) → IsNoComment cs → IsLongest (sign_text m) cs
longest_sign [] m after first plain = λ other rest e p. go other rest e
  where
    go : (other rest : List ℕ) → [] ≡ other ++ rest → length other ≤ length (sign_text m)
    go [] rest e = omega arith
    go (x ∷ xs) rest e = absurd (not_empty e)
longest_sign (c ∷ cs) m after first plain = λ other rest e p. go other rest e (piece_at c cs other rest e p)
  where
    marks : is_sign_head c ≡ true
    marks = sign_at m c cs after (begun_splits sign_text signs.ALL (c ∷ cs) m after first)

    which_is : (other rest : List ℕ) → c ∷ cs ≡ other ++ rest → IsMark other → length other ≤ length (sign_text m)
    which_is other rest e (a_sign _ n same) =
        let n_is : length (sign_text n) ≤ length (sign_text m) = longest_begins sign_text signs.ALL (c ∷ cs) m after n rest signs_fall first (sign_found n) (e ∙ ap (λ t. t ++ rest) same) in
        omega (arith, ap length same)
    which_is other rest e (a_line _ same) = absurd (not_after (codes "//") (c ∷ cs) rest plain.0 (e ∙ ap (λ t. t ++ rest) same))
    which_is other rest e (a_block _ same) = absurd (not_after (codes "/*") (c ∷ cs) rest plain.1 (e ∙ ap (λ t. t ++ rest) same))

    go : (other rest : List ℕ) → c ∷ cs ≡ other ++ rest → IsAt c other → length other ≤ length (sign_text m)
    go other rest e (at_name _ ds same is each) = absurd (clash _ marks (name_head c is).no_sign)
    go other rest e (at_tick _ ds same is name_is) = absurd ((sign_head c marks).1 is)
    go other rest e (at_digits _ ds same is each) = absurd (clash _ marks (digit_head c is).1)
    go other rest e (at_mark _ is which) = which_is other rest e which

pub no_piece : (c : ℕ) (cs : List ℕ) → is_name_start c ≡ false → is_digit c ≡ false → (c ≡ 39 → past_name cs ≡ None) → first_beginning sign_text signs.ALL (c ∷ cs) ≡ None
    → (other rest : List ℕ) → c ∷ cs ≡ other ++ rest → IsPiece other → ⊥
no_piece c cs no_name no_digit no_tick no_sign other rest e p = go (piece_at c cs other rest e p)
  where
    no_name_at : (t : ℕ) (ts : List ℕ) → is_name_start t ≡ true → past_name (t ∷ ts) ≡ None → ⊥
    no_name_at t ts starts none = let some : past_name (t ∷ ts) ≡ Some (past_run is_name_more ts) = rw starts refl in none_some (sym none ∙ some)

    named : (ts ds : List ℕ) → past_name ts ≡ None → IsName ds → ts ≡ ds ++ rest → ⊥
    named ts [] none is h = is
    named [] (x ∷ xs) none is h = not_empty h
    named (t ∷ ts) (x ∷ xs) none is h = no_name_at t ts (ap is_name_start (head_is h) ∙ is.0) none

    slash : (ts : List ℕ) → c ∷ cs ≡ 47 ∷ ts → ⊥
    slash ts h = none_begins sign_text signs.ALL (c ∷ cs) mark.Slash ts no_sign (sign_found mark.Slash) h

    which_is : IsMark other → ⊥
    which_is (a_sign _ n same) = none_begins sign_text signs.ALL (c ∷ cs) n rest no_sign (sign_found n) (e ∙ ap (λ t. t ++ rest) same)
    which_is (a_line _ same) = slash (47 ∷ rest) (e ∙ ap (λ t. t ++ rest) same)
    which_is (a_block _ same) = slash (42 ∷ rest) (e ∙ ap (λ t. t ++ rest) same)

    go : IsAt c other → ⊥
    go (at_name _ ds same is each) = clash _ is no_name
    go (at_tick _ ds same is name_is) = named cs ds (no_tick is) name_is (tail_is (e ∙ ap (λ t. t ++ rest) same))
    go (at_digits _ ds same is each) = clash _ is no_digit
    go (at_mark _ is which) = which_is which
