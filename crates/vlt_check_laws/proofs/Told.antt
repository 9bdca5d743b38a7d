-- Tables, by statement, of what is found of each token in a body.
use Rattle.std.proofs.Common.{◌≡◌, ◌+◌, ◌||◌, ℕ, Bool, true, false, List, ◌++◌, refl, sym, ◌⊎◌, inl, inr, ⊎_elim, true≢false}
use Rattle.std.proofs.lemmas.Bool.{cases_eq}
use Rattle.vlt_core.specs.Core.{Tok, a_key}
use Rattle.vlt_core.specs.Maps.{Row}
use Rattle.vlt_core.specs.Flow.{Flow, step, choose, loop, switch, scope, focus, return, jump, Block, block, Stmts, done, next, Arms, no_arms, arm, size, size_block}
use Rattle.vlt_core.specs.Found.{One, one_absent, one_held, one_lent, one_full, images, both, to_next, out, head_of}
use Rattle.vlt_core_laws.specs.Shown.{Every}
use Rattle.vlt_core_laws.specs.Sweep.{Many, found_head, found_head_block, found_head_stmts, found_head_arms, found_exit, found_exit_block, found_exit_stmts, found_exit_arms}
use Rattle.vlt_base.specs.Sure.{Surely}
use Rattle.vlt_base.proofs.Surely.{sure, surely, so, IsTest}
use Rattle.vlt_check_laws.proofs.Alike.{Test, Case, case_of, StatesAlike, same_state, toks_alike, states_alike, IsDecided, decided, Keeps, keeps_left, keeps_right}
use Rattle.vlt_check_laws.proofs.Closed.{tests, tests_block, tests_rows, tests_stmts, tests_arms, Related, IsClosed, rows_closed, form_closed, head_closed}

-- of each token what is found, as a table of single statuses, and whether some are lent
pub record IsTabled (S : Every) : Type 0 where
  pub many : Tok → Many
  pub lent : Tok → Bool
  pub each : (t : Tok) (o : One) → IsTest (many t o) (S t o)
  pub lends : (t : Tok) → IsTest (lent t) ((s : ℕ) × S t (one_lent s))

none_tabled : IsTabled (λ t o. ⊥)
none_tabled = record {
  many = λ t o. false;
  lent = λ t. false;
  each = λ t o. record { there = λ e. true≢false (sym e); back = λ x. absurd x };
  lends = λ t. record { there = λ e. absurd (true≢false (sym e)); back = λ x. absurd x.1 };
}

either : (a b : Bool) (A B : Type 0) → IsTest a A → IsTest b B → IsTest (a || b) (A ⊎ B)
either true b A B x y = record { there = λ e. inl (x.there refl); back = λ z. refl }
either false b A B x y = record { there = λ e. inr (y.there e); back = λ z. ⊎_elim (λ a. absurd (true≢false (sym (x.back a)))) (λ b. y.back b) z }

both_tabled : (S T : Every) → IsTabled S → IsTabled T → IsTabled (λ t. both (S t) (T t))
both_tabled S T x y = record {
  many = λ t o. x.many t o || y.many t o;
  lent = λ t. x.lent t || y.lent t;
  each = λ t o. either (x.many t o) (y.many t o) (S t o) (T t o) (x.each t o) (y.each t o);
  lends = λ t.
      let z = either (x.lent t) (y.lent t) ((s : ℕ) × S t (one_lent s)) ((s : ℕ) × T t (one_lent s)) (x.lends t) (y.lends t) in
      record {
        there = λ e. ⊎_elim (λ a. (a.0, inl a.1)) (λ b. (b.0, inr b.1)) (z.there e);
        back = λ a. ⊎_elim (λ p. z.back (inl (a.0, p))) (λ p. z.back (inr (a.0, p))) a.1;
      };
}

-- the same where the statement has this number, else nothing
at_tabled : (i n : ℕ) (S : Every) → IsTabled S → IsTabled (λ t o. (i ≡ n) × S t o)
at_tabled i n S x = ⊎_elim here elsewhere (cases_eq i n)
  where
    here : i ≡ n → IsTabled (λ t o. (i ≡ n) × S t o)
    here e = record {
      many = x.many;
      lent = x.lent;
      each = λ t o. record { there = λ y. (e, (x.each t o).there y); back = λ y. (x.each t o).back y.1 };
      lends = λ t. record { there = λ y. let z = (x.lends t).there y in (z.0, (e, z.1)); back = λ y. (x.lends t).back (y.0, y.1.1) };
    }

    elsewhere : (i ≡ n → ⊥) → IsTabled (λ t o. (i ≡ n) × S t o)
    elsewhere e = record {
      many = λ t o. false;
      lent = λ t. false;
      each = λ t o. record { there = λ y. absurd (true≢false (sym y)); back = λ y. absurd (e y.0) };
      lends = λ t. record { there = λ y. absurd (true≢false (sym y)); back = λ y. absurd (e y.1.0) };
    }

-- ---- what some tests don't tell apart

abbrev some_case : Case
some_case = case_of (a_key 0) 0

module _ (xs : List Test) where
  abbrev many_of : (absent full : Bool) → (held lent : ℕ → Bool) → Many
  many_of a f h l one_absent = a
  many_of a f h l one_full = f
  many_of a f h l (one_held s) = h s
  many_of a f h l (one_lent s) = l s

  -- of single statuses that don't differ where states are alike
  state_decided : (S : Every) (one : ℕ → One) → IsClosed xs S → ((a b : ℕ) → StatesAlike xs a b → Related xs (one a) (one b)) → Surely (IsDecided (λ c. S c.tok (one c.state)))
  state_decided S one c r = decided some_case xs (λ a. S a.tok (one a.state)) (record { each = λ a b p x. c.each a.tok b.tok (one a.state) (one b.state) (toks_alike xs a b p) (r a.state b.state (states_alike xs a b p)) x })

  lends_decided : (S : Every) → IsClosed xs S → Surely (IsDecided (λ c. (s : ℕ) × S c.tok (one_lent s)))
  lends_decided S c = decided some_case xs (λ a. (s : ℕ) × S a.tok (one_lent s)) (record { each = λ a b p x. (x.0, c.each a.tok b.tok (one_lent x.0) (one_lent x.0) (toks_alike xs a b p) (same_state xs x.0) x.1) })

  -- what is closed has, surely, a table
  pub closed_tabled : (S : Every) → IsClosed xs S → Surely (IsTabled S)
  closed_tabled S c =
      surely (state_decided S (λ s. one_absent) c (λ a b p. tt)) (λ a.
      surely (state_decided S (λ s. one_full) c (λ a b p. tt)) (λ f.
      surely (state_decided S (λ s. one_held s) c (λ a b p. p)) (λ h.
      surely (state_decided S (λ s. one_lent s) c (λ a b p. p)) (λ l.
      so (lends_decided S c) (λ some. all a f h l some)))))
    where
      all : IsDecided (λ c. S c.tok one_absent) → IsDecided (λ c. S c.tok one_full) → IsDecided (λ c. S c.tok (one_held c.state)) → IsDecided (λ c. S c.tok (one_lent c.state)) → IsDecided (λ c. (s : ℕ) × S c.tok (one_lent s)) → IsTabled S
      all a f h l some = record {
        many = λ t. many_of (a.test (case_of t 0)) (f.test (case_of t 0)) (λ s. h.test (case_of t s)) (λ s. l.test (case_of t s));
        lent = λ t. some.test (case_of t 0);
        each = each;
        lends = λ t. some.each (case_of t 0);
      }
        where
          each : (t : Tok) (o : One) → IsTest (many_of (a.test (case_of t 0)) (f.test (case_of t 0)) (λ s. h.test (case_of t s)) (λ s. l.test (case_of t s)) o) (S t o)
          each t one_absent = a.each (case_of t 0)
          each t one_full = f.each (case_of t 0)
          each t (one_held s) = h.each (case_of t s)
          each t (one_lent s) = l.each (case_of t s)

  -- ---- a table for each statement

  abbrev AllTabled : (ℕ → Every) → Type 0
  AllTabled F = (i : ℕ) → IsTabled (F i)

  none_all : AllTabled (λ i t o. ⊥)
  none_all = λ i. none_tabled

  both_all : (F G : ℕ → Every) → Surely (AllTabled F) → Surely (AllTabled G) → Surely (AllTabled (λ i t o. F i t o ⊎ G i t o))
  both_all F G x y = surely x (λ a. so y (λ b. λ i. both_tabled (F i) (G i) (a i) (b i)))

  at_all : (n : ℕ) (S : Every) → IsClosed xs S → Surely (AllTabled (λ i t o. (i ≡ n) × S t o))
  at_all n S c = so (closed_tabled S c) (λ x. λ i. at_tabled i n S x)

  rows : (rs : List Row) (rest : List Test) (S : Every) → Keeps xs (tests_rows rs ++ rest) → IsClosed xs S → IsClosed xs (λ t. images t rs (S t))
  rows rs rest S k c = rows_closed xs rs S (keeps_left xs (tests_rows rs) rest k) c

  form : (s : Flow) (S : Every) → Keeps xs (tests s) → IsClosed xs S → IsClosed xs (λ t. out t s (S t) to_next)
  form s S k c = form_closed xs s S to_next k c

  head : (rs : List Row) (s : Block) (S : Every) → Keeps xs (tests_rows rs ++ tests_block s) → IsClosed xs S → IsClosed xs (λ t. head_of t rs s (S t))
  head rs s S k c = head_closed xs rs s S k c

  mutual
    heads_told : (s : Flow) (n : ℕ) (S : Every) → Keeps xs (tests s) → IsClosed xs S → Surely (AllTabled (λ i t. found_head t s n (S t) i))
    heads_told (step rs) n S k c = sure none_all
    heads_told (choose rs u v) n S k c =
        let m = rows rs _ S k c in let l = keeps_right xs (tests_rows rs) _ k in
        both_all _ _ (heads_block u (n + 1) (λ t. images t rs (S t)) (keeps_left xs (tests_block u) (tests_block v) l) m)
        (heads_block v (n + 1 + size_block u) (λ t. images t rs (S t)) (keeps_right xs (tests_block u) (tests_block v) l) m)
    heads_told (loop rs s) n S k c =
        let h = head rs s S k c in
        both_all _ _ (at_all n (λ t. head_of t rs s (S t)) h) (heads_block s (n + 1) (λ t. images t rs (head_of t rs s (S t))) (keeps_right xs (tests_rows rs) _ k) (rows rs _ (λ t. head_of t rs s (S t)) k h))
    heads_told (switch rs arms end) n S k c = heads_arms arms (n + 1) (λ t. images t rs (S t)) (keeps_right xs (tests_rows rs) _ k) (rows rs _ S k c)
    heads_told (scope s) n S k c = heads_block s (n + 1) S k c
    heads_told (focus rs s es) n S k c =
        heads_block s (n + 1) (λ t. images t rs (S t)) (keeps_left xs (tests_block s) _ (keeps_right xs (tests_rows rs) _ k)) (rows rs _ S k c)
    heads_told (return rs) n S k c = sure none_all
    heads_told (jump b left) n S k c = sure none_all

    pub heads_block : (s : Block) (n : ℕ) (S : Every) → Keeps xs (tests_block s) → IsClosed xs S → Surely (AllTabled (λ i t. found_head_block t s n (S t) i))
    heads_block (block ss bound end) n S k c = heads_stmts ss n S (keeps_left xs (tests_stmts ss) _ k) c

    heads_stmts : (ss : Stmts) (n : ℕ) (S : Every) → Keeps xs (tests_stmts ss) → IsClosed xs S → Surely (AllTabled (λ i t. found_head_stmts t ss n (S t) i))
    heads_stmts done n S k c = sure none_all
    heads_stmts (next at s rest) n S k c =
        let j = keeps_left xs (tests s) (tests_stmts rest) k in
        both_all _ _ (heads_told s n S j c) (heads_stmts rest (n + size s) (λ t. out t s (S t) to_next) (keeps_right xs (tests s) (tests_stmts rest) k) (form s S j c))

    heads_arms : (arms : Arms) (n : ℕ) (S : Every) → Keeps xs (tests_arms arms) → IsClosed xs S → Surely (AllTabled (λ i t. found_head_arms t arms n (S t) i))
    heads_arms no_arms n S k c = sure none_all
    heads_arms (arm rs s rest) n S k c =
        let l = keeps_right xs (tests_rows rs) _ k in
        both_all _ _ (heads_block s n (λ t. images t rs (S t)) (keeps_left xs (tests_block s) (tests_arms rest) l) (rows rs _ S k c))
        (heads_arms rest (n + size_block s) S (keeps_right xs (tests_block s) (tests_arms rest) l) c)

  mutual
    exits_told : (s : Flow) (n : ℕ) (S : Every) → Keeps xs (tests s) → IsClosed xs S → Surely (AllTabled (λ i t. found_exit t s n (S t) i))
    exits_told (step rs) n S k c = sure none_all
    exits_told (choose rs u v) n S k c =
        let m = rows rs _ S k c in let l = keeps_right xs (tests_rows rs) _ k in
        both_all _ _ (at_all n (λ t. out t (choose rs u v) (S t) to_next) (form (choose rs u v) S k c))
        (both_all _ _ (exits_block u (n + 1) (λ t. images t rs (S t)) (keeps_left xs (tests_block u) (tests_block v) l) m)
        (exits_block v (n + 1 + size_block u) (λ t. images t rs (S t)) (keeps_right xs (tests_block u) (tests_block v) l) m))
    exits_told (loop rs s) n S k c =
        both_all _ _ (at_all n (λ t. out t (loop rs s) (S t) to_next) (form (loop rs s) S k c))
        (exits_block s (n + 1) (λ t. images t rs (head_of t rs s (S t))) (keeps_right xs (tests_rows rs) _ k) (rows rs _ (λ t. head_of t rs s (S t)) k (head rs s S k c)))
    exits_told (switch rs arms end) n S k c =
        both_all _ _ (at_all n (λ t. out t (switch rs arms end) (S t) to_next) (form (switch rs arms end) S k c))
        (exits_arms arms (n + 1) (λ t. images t rs (S t)) (keeps_right xs (tests_rows rs) _ k) (rows rs _ S k c))
    exits_told (scope s) n S k c = exits_block s (n + 1) S k c
    exits_told (focus rs s es) n S k c =
        exits_block s (n + 1) (λ t. images t rs (S t)) (keeps_left xs (tests_block s) _ (keeps_right xs (tests_rows rs) _ k)) (rows rs _ S k c)
    exits_told (return rs) n S k c = sure none_all
    exits_told (jump b left) n S k c = sure none_all

    pub exits_block : (s : Block) (n : ℕ) (S : Every) → Keeps xs (tests_block s) → IsClosed xs S → Surely (AllTabled (λ i t. found_exit_block t s n (S t) i))
    exits_block (block ss bound end) n S k c = exits_stmts ss n S (keeps_left xs (tests_stmts ss) _ k) c

    exits_stmts : (ss : Stmts) (n : ℕ) (S : Every) → Keeps xs (tests_stmts ss) → IsClosed xs S → Surely (AllTabled (λ i t. found_exit_stmts t ss n (S t) i))
    exits_stmts done n S k c = sure none_all
    exits_stmts (next at s rest) n S k c =
        let j = keeps_left xs (tests s) (tests_stmts rest) k in
        both_all _ _ (exits_told s n S j c) (exits_stmts rest (n + size s) (λ t. out t s (S t) to_next) (keeps_right xs (tests s) (tests_stmts rest) k) (form s S j c))

    exits_arms : (arms : Arms) (n : ℕ) (S : Every) → Keeps xs (tests_arms arms) → IsClosed xs S → Surely (AllTabled (λ i t. found_exit_arms t arms n (S t) i))
    exits_arms no_arms n S k c = sure none_all
    exits_arms (arm rs s rest) n S k c =
        let l = keeps_right xs (tests_rows rs) _ k in
        both_all _ _ (exits_block s n (λ t. images t rs (S t)) (keeps_left xs (tests_block s) (tests_arms rest) l) (rows rs _ S k c))
        (exits_arms rest (n + size_block s) S (keeps_right xs (tests_block s) (tests_arms rest) l) c)
