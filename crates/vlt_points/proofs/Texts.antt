-- What is written of tokens.
use Rattle.std.proofs.Common.{◌≡◌, ◌<◌, ◌≤◌, ◌+◌, ◌^◌, ◌||◌, not, ℕ, zero, suc, Bool, true, false, IsTrue, Option, List, [], ◌∷◌, ◌++◌, map, filter, length, take, add-one, get_or, set, All, refl, sym, ap, ◌∙◌, subst, ⊎_elim, append_assoc, append-nil, arith, rules}
use Rattle.std.specs.Prelude.{nat_lt}
use Rattle.std.specs.List.{range_with_len, Contains}
use Rattle.std.proofs.lemmas.Bool.{cases_lt}
use Rattle.std.proofs.lemmas.Bool.Decides.{nat_tests}
use Rattle.vlt_base.specs.States.{is_bit}
use Rattle.vlt_base.proofs.Sets.{lowest_state}
use Rattle.vlt_reports.specs.Reports.{in_states}
use Rattle.vlt_core.specs.Core.{Name, Tok, a_key, a_var, Func, Program}
use Rattle.vlt_core.specs.Lookups.{is_owning_var}
use Rattle.vlt_core.specs.View.{tok_of}
use Rattle.std.proofs.lemmas.List.{length-map, map-append, get_or-map, take_all}
use Rattle.std.proofs.lemmas.List.FromFn.{map-range_with_len_more}
use Rattle.std.proofs.lemmas.List.Elements.{All-nil, All-cons, All-weaker, All-append, All-map, All-filter, All-contains, All-get_or, All-set, All-push, filter-append}
use Rattle.vlt_faults.specs.declared.finding.ones.Ones as code
use Rattle.vlt_faults.specs.Finding.Ones.{many_of}
use Rattle.vlt_faults.proofs.OfFinding.Bits.{no_bit, no_true}
use Rattle.vlt_points.specs.declared.page.TokenText.{TokenText}
use Rattle.vlt_points.specs.Founds.{IsTokenOf}
use Rattle.vlt_points.specs.Lines.{has_below, has_some, text_if, token_text, tokens_of, Point}
use Rattle.vlt_points.specs.Writing.{IsTokenText, AreTokenTexts, toks_in, keys_of, vars_of, var_if, tokens_text}

-- ---- sets of states

below_true : (n k : ℕ) (states : ℕ → Bool) → k < n → states k ≡ true → has_below n states ≡ true
below_true zero k states lt e = absurd (omega (arith, lt))
below_true (suc n) k states lt e = ⊎_elim
    (λ p. rw (below_true n k states p e) (or_true (states n)))
    (λ p. let same : k ≡ n = omega (arith, lt, p) in rw (subst (λ j. states j ≡ true) same e) refl) (cases_lt k n)
  where
    or_true : (b : Bool) → (b || true) ≡ true
    or_true true = refl
    or_true false = refl

below_false : (n : ℕ) (states : ℕ → Bool) → ((k : ℕ) → states k ≡ false) → has_below n states ≡ false
below_false zero states e = refl
below_false (suc n) states e = rw (e n, below_false n states e) refl

is_true : (b : Bool) → IsTrue b → b ≡ true
is_true true h = refl
is_true false h = absurd (no_true false refl h)

is_false : (b : Bool) → (IsTrue b → ⊥) → b ≡ false
is_false true f = absurd (f (search rules))
is_false false f = refl

pub some_bits : (n : ℕ) → 0 < n → n < 2 ^ 32 → has_some (is_bit n) ≡ true
unfolding has_some
some_bits n some small = let x = lowest_state n some small in below_true 32 x.0 (is_bit n) x.1 (is_true (is_bit n x.0) x.2)

pub no_bits : (n : ℕ) → n ≡ 0 → has_some (is_bit n) ≡ false
unfolding has_some
no_bits n e = below_false 32 (is_bit n) (λ k. subst (λ m. is_bit m k ≡ false) (sym e) (is_false (is_bit 0 k) (no_bit k)))

pub bits_are : (n : ℕ) → n < 2 ^ 32 → nat_lt 0 n ≡ has_some (is_bit n)
bits_are n small = by (nat_lt 0 n) refl
  where
    positive : (n : ℕ) → nat_lt 0 n ≡ true → 0 < n
    positive n e = grind (arith, nat_tests)

    zero_of : (n : ℕ) → nat_lt 0 n ≡ false → n ≡ 0
    zero_of n e = grind (arith, nat_tests)

    by : (b : Bool) → nat_lt 0 n ≡ b → nat_lt 0 n ≡ has_some (is_bit n)
    by true e = e ∙ sym (some_bits n (positive n e) small)
    by false e = e ∙ sym (no_bits n (zero_of n e))

-- nothing of no states, and the states of a mask
pub states_none : (old text : List ℕ) (n : ℕ) → n ≡ 0 → old ≡ old ++ text_if (has_some (is_bit n)) text
states_none old text n e = sym (ap (λ b. old ++ text_if b text) (no_bits n e) ∙ append-nil old)

pub states_some : (old mid new word : List ℕ) (names : Option (List Name)) (n : ℕ) (f : ℕ → Bool) → (n ≡ 0 → ⊥) → n < 2 ^ 32 → ((i : ℕ) → f i ≡ is_bit n i) → mid ≡ old ++ word → new ≡ mid ++ in_states names f → new ≡ old ++ text_if (has_some (is_bit n)) (word ++ in_states names (is_bit n))
states_some old mid new word names n f some small same e0 e1 =
    let positive : 0 < n = ⊎_elim (λ p. p) (λ p. absurd (some (omega (arith, p)))) (cases_lt 0 n) in
    e1 ∙ ap (λ g. mid ++ in_states names g) (λ i k. same k i) ∙ ap (λ l. l ++ in_states names (is_bit n)) e0 ∙ append_assoc old word (in_states names (is_bit n)) ∙
    ap (λ b. old ++ text_if b (word ++ in_states names (is_bit n))) (sym (some_bits n positive small))

-- ---- an absent token

nothing_if : (h l f a : Bool) (text : List ℕ) → h ≡ false → l ≡ false → f ≡ false → a ≡ true → [] ≡ text_if ((h || (l || f)) || not a) text
nothing_if h l f a text e0 e1 e2 e3 = rw (e0, e1, e2, e3) refl

pub absent_text : (p : Program) (f : Func) (t : Tok) (m : code.Ones) → m.absent ≡ true → m.full ≡ false → m.held ≡ 0 → m.lent ≡ 0 → [] ≡ token_text p f t (many_of m)
absent_text p f t m a full h l = nothing_if (has_some (is_bit m.held)) (has_some (is_bit m.lent)) m.full m.absent _ (no_bits m.held h) (no_bits m.lent l) full a

-- ---- the tokens of a function

abbrev HasAll : ℕ → ℕ → Type 0
HasAll a n = All (λ k. k < a + n) (range_with_len a n)

range_all : (a n : ℕ) → HasAll a n
range_all a zero = All-nil (λ k. k < a + 0)
range_all a (suc n) = All-cons (λ k. k < a + suc n) a (range_with_len (a + 1) n) (omega arith) (All-weaker (λ k. k < a + 1 + n) (λ k. k < a + suc n) (λ k p. omega (arith, p)) (range_with_len (a + 1) n) (range_all (a + 1) n))

numbers_all : (n : ℕ) → All (λ k. k < n) (range_with_len 0 n)
numbers_all n = All-weaker (λ k. k < 0 + n) (λ k. k < n) (λ k p. omega (arith, p)) (range_with_len 0 n) (range_all 0 n)

pub token_of : (f : Func) (t : Tok) → Contains (tokens_of f) t → IsTokenOf f t
token_of f t c = All-contains (IsTokenOf f) (tokens_of f) t
    (All-append (IsTokenOf f) (keys_of f) (vars_of f)
    (All-map (IsTokenOf f) a_key (range_with_len 0 (length f.keys)) (numbers_all (length f.keys)))
    (All-map (IsTokenOf f) a_var (filter (is_owning_var f) (range_with_len 0 (length f.vars))) (All-filter (is_owning_var f) (λ v. v < length f.vars) (range_with_len 0 (length f.vars)) (numbers_all (length f.vars))))) c

-- ---- tokens, one after another

toks_set : (xs : List TokenText) (i : ℕ) (x y : TokenText) → i < length xs → x ≡ get_or xs i x → y.tok ≡ x.tok → toks_in (set xs i y) ≡ toks_in xs
toks_set [] i x y lt read e = absurd (omega (arith, lt))
toks_set (z ∷ xs) zero x y lt read e = ap (λ t. tok_of t ∷ toks_in xs) (e ∙ ap (λ x. x.tok) read)
toks_set (z ∷ xs) (suc i) x y lt read e = ap (λ l. tok_of z.tok ∷ l) (toks_set xs i x y (omega (arith, lt)) read e)

text_more : (p : Program) (f : Func) (m : Point) (ts : List Tok) (i : ℕ) (t d : Tok) → i < length ts → t ≡ get_or ts i d → tokens_text p f (take (suc i) ts) m ≡ tokens_text p f (take i ts) m ++ token_text p f t (m t)
text_more p f m [] i t d lt read = absurd (omega (arith, lt))
text_more p f m (u ∷ ts) zero t d lt read = append-nil (token_text p f u (m u)) ∙ ap (λ u. token_text p f u (m u)) (sym read)
text_more p f m (u ∷ ts) (suc i) t d lt read = ap (λ l. token_text p f u (m u) ++ l) (text_more p f m ts i t d (omega (arith, lt)) read) ∙ sym (append_assoc (token_text p f u (m u)) (tokens_text p f (take i ts) m) (token_text p f t (m t)))

-- the first i tokens were written
pub record Adding (p : Program) (f : Func) (m : Point) (old : List ℕ) (first : List TokenText) (i : ℕ) (lines : List ℕ) (xs : List TokenText) : Type 0 where
  pub toks : toks_in xs ≡ toks_in first
  pub are : AreTokenTexts p f xs
  pub text : lines ≡ old ++ tokens_text p f (take i (toks_in first)) m

pub adding_first : (p : Program) (f : Func) (m : Point) (old : List ℕ) (first : List TokenText) → AreTokenTexts p f first → Adding p f m old first 0 old first
adding_first p f m old first a = record { toks = refl; are = a; text = sym (append-nil old) }

pub adding_long : (p : Program) (f : Func) (m : Point) (old : List ℕ) (first : List TokenText) (i : ℕ) (lines : List ℕ) (xs : List TokenText) → Adding p f m old first i lines xs → length xs ≡ length first
adding_long p f m old first i lines xs q =
    let a = length-map xs (λ (x : TokenText). tok_of x.tok) in let b = length-map first (λ (x : TokenText). tok_of x.tok) in let e = ap length q.toks in omega (arith, a, b, e)

pub adding_is : (p : Program) (f : Func) (m : Point) (old : List ℕ) (first : List TokenText) (i : ℕ) (lines : List ℕ) (xs : List TokenText) (x : TokenText) → i < length xs → x ≡ get_or xs i x → Adding p f m old first i lines xs → IsTokenText p f x
adding_is p f m old first i lines xs x lt read q = subst (IsTokenText p f) (sym read) (All-get_or (IsTokenText p f) xs i x lt q.are)

pub adding_more : (p : Program) (f : Func) (m : Point) (old : List ℕ) (first : List TokenText) (i : ℕ) (lines new : List ℕ) (xs : List TokenText) (x y : TokenText) → i < length xs → x ≡ get_or xs i x → Adding p f m old first i lines xs →
    y.tok ≡ x.tok → IsTokenText p f y → new ≡ lines ++ token_text p f (tok_of x.tok) (m (tok_of x.tok)) → Adding p f m old first (i + 1) new (set xs i y)
adding_more p f m old first i lines new xs x y lt read q e is text =
    let long = adding_long p f m old first i lines xs q in
    let here : tok_of x.tok ≡ get_or (toks_in first) i (tok_of x.tok) = ap (λ z. tok_of z.tok) read ∙ sym (get_or-map (λ (z : TokenText). tok_of z.tok) xs i x (tok_of x.tok) lt) ∙ ap (λ l. get_or l i (tok_of x.tok)) q.toks in
    let within : i < length (toks_in first) = let b = length-map first (λ (x : TokenText). tok_of x.tok) in omega (arith, lt, long, b) in
    record {
      toks = toks_set xs i x y lt read e ∙ q.toks;
      are = All-set (IsTokenText p f) xs i y is q.are;
      text = text ∙ ap (λ l. l ++ token_text p f (tok_of x.tok) (m (tok_of x.tok))) q.text ∙ append_assoc old (tokens_text p f (take i (toks_in first)) m) (token_text p f (tok_of x.tok) (m (tok_of x.tok))) ∙
          ap (λ l. old ++ l) (sym (text_more p f m (toks_in first) i (tok_of x.tok) (tok_of x.tok) within here)) ∙ ap (λ k. old ++ tokens_text p f (take k (toks_in first)) m) (sym (add-one i));
    }

pub adding_ends : (p : Program) (f : Func) (m : Point) (old : List ℕ) (first : List TokenText) (i : ℕ) (lines : List ℕ) (xs : List TokenText) → length first ≤ i → Adding p f m old first i lines xs → lines ≡ old ++ tokens_text p f (toks_in first) m
adding_ends p f m old first i lines xs past q =
    let b = length-map first (λ (x : TokenText). tok_of x.tok) in
    q.text ∙ ap (λ ts. old ++ tokens_text p f ts m) (take_all i (toks_in first) (omega (arith, past, b)))

-- ---- the tokens of a page

toks_push : (xs : List TokenText) (x : TokenText) → toks_in (xs ++ x ∷ []) ≡ toks_in xs ++ tok_of x.tok ∷ []
toks_push xs x = map-append (λ (z : TokenText). tok_of z.tok) xs (x ∷ [])

pub texts_push : (p : Program) (f : Func) (xs : List TokenText) (x : TokenText) → AreTokenTexts p f xs → IsTokenText p f x → AreTokenTexts p f (xs ++ x ∷ [])
texts_push p f xs x a is = All-push (IsTokenText p f) xs x a is

pub keys_more : (xs : List TokenText) (first : List Tok) (x : TokenText) (k : ℕ) → tok_of x.tok ≡ a_key k → toks_in xs ≡ first ++ map a_key (range_with_len 0 k) → toks_in (xs ++ x ∷ []) ≡ first ++ map a_key (range_with_len 0 (k + 1))
keys_more xs first x k e q =
    toks_push xs x ∙ ap (λ l. l ++ tok_of x.tok ∷ []) q ∙ append_assoc first (map a_key (range_with_len 0 k)) (tok_of x.tok ∷ []) ∙ ap (λ t. first ++ (map a_key (range_with_len 0 k) ++ t ∷ [])) e ∙
    ap (λ l. first ++ l) (sym (map-range_with_len_more a_key 0 k k (omega arith)))

pub keys_end : (xs : List TokenText) (first : List Tok) (f : Func) (k : ℕ) → k ≡ length f.keys → toks_in xs ≡ first ++ map a_key (range_with_len 0 k) → toks_in xs ≡ first ++ keys_of f
keys_end xs first f k e q = q ∙ ap (λ n. first ++ map a_key (range_with_len 0 n)) e

range_snoc : (a n : ℕ) → range_with_len a (suc n) ≡ range_with_len a n ++ (a + n) ∷ []
range_snoc a zero = ap (λ k. k ∷ []) (omega arith)
range_snoc a (suc n) = ap (λ l. a ∷ l) (range_snoc (a + 1) n ∙ ap (λ k. range_with_len (a + 1) n ++ k ∷ []) (omega arith))

one_filtered : (p : ℕ → Bool) (v : ℕ) (b : Bool) → p v ≡ b → map a_var (filter p (v ∷ [])) ≡ var_if b v
one_filtered p v true e = rw e refl
one_filtered p v false e = rw e refl

pub vars_more : (f : Func) (xs ys : List TokenText) (first : List Tok) (v : ℕ) → toks_in ys ≡ toks_in xs ++ var_if (is_owning_var f v) v → toks_in xs ≡ first ++ map a_var (filter (is_owning_var f) (range_with_len 0 v)) →
    toks_in ys ≡ first ++ map a_var (filter (is_owning_var f) (range_with_len 0 (v + 1)))
vars_more f xs ys first v e q =
    let p = is_owning_var f in
    let old = map a_var (filter p (range_with_len 0 v)) in
    let whole : map a_var (filter p (range_with_len 0 (v + 1))) ≡ old ++ var_if (p v) v =
    ap (λ n. map a_var (filter p (range_with_len 0 n))) (add-one v) ∙ ap (λ l. map a_var (filter p l)) (range_snoc 0 v ∙ ap (λ k. range_with_len 0 v ++ k ∷ []) (omega arith)) ∙
    ap (map a_var) (filter-append p (range_with_len 0 v) (v ∷ [])) ∙ map-append a_var (filter p (range_with_len 0 v)) (filter p (v ∷ [])) ∙ ap (λ l. old ++ l) (one_filtered p v (p v) refl) in
    e ∙ ap (λ l. l ++ var_if (p v) v) q ∙ append_assoc first old (var_if (p v) v) ∙ ap (λ l. first ++ l) (sym whole)

pub vars_end : (xs : List TokenText) (first : List Tok) (f : Func) (v : ℕ) → v ≡ length f.vars → toks_in xs ≡ first ++ map a_var (filter (is_owning_var f) (range_with_len 0 v)) → toks_in xs ≡ first ++ vars_of f
vars_end xs first f v e q = q ∙ ap (λ n. first ++ map a_var (filter (is_owning_var f) (range_with_len 0 n))) e

pub var_pushed : (xs : List TokenText) (x : TokenText) (v : ℕ) (b : Bool) → b ≡ true → tok_of x.tok ≡ a_var v → toks_in (xs ++ x ∷ []) ≡ toks_in xs ++ var_if b v
var_pushed xs x v b e is = toks_push xs x ∙ ap (λ t. toks_in xs ++ t ∷ []) is ∙ ap (λ b. toks_in xs ++ var_if b v) (sym e)

pub var_passed : (xs : List TokenText) (v : ℕ) (b : Bool) → b ≡ false → toks_in xs ≡ toks_in xs ++ var_if b v
var_passed xs v b e = sym (ap (λ b. toks_in xs ++ var_if b v) e ∙ append-nil (toks_in xs))
