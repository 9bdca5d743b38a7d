-- The automaton refuses as the grammar does.
use Rattle.std.proofs.Common.{◌≡◌, ◌≢◌, ℕ, zero, suc, ◌+◌, ◌<◌, ◌≤◌, Bool, true, false, if◌then◌else◌, ◌==◌, nat_le, List, [], ◌∷◌, ◌++◌, map, take, refl, sym, ap, subst, ◌∙◌, ◌⊎◌, inl, inr, arith}
use Rattle.std.proofs.lemmas.Bool.Decides.{nat_tests}
use Rattle.std.proofs.lemmas.Bool.{ne_eqb}
use Rattle.std.specs.Prelude.{Ok, Err}
use Rattle.std.specs.List.{list_all}
use Rattle.vlt_base.specs.declared.places.Span.{Span}
use Rattle.vlt_tokens.specs.Lexemes.{Lexeme}
use Rattle.vlt_syntax.specs.Tokens.{Token, token_from, tokens_in}
use Rattle.vlt_syntax.specs.Tree.{Tree}
use Rattle.vlt_syntax.specs.Grammar.{Bounds, IsTree, language}
use Rattle.vlt_syntax.specs.Spelling.{spelling}
use Rattle.vlt_syntax.specs.Refusals as g
use Rattle.vlt_syntax.specs.Refusals.{bound_of, Asked, any_size, within, IsOneOf, Continues, IsUnexpectedAt, IsOverLimitAt, Cause, IsRefusedAt, number, IsFirstRefused, Refusal, unexpected_at, over_limit, ended, IsRefusal}
use Rattle.vlt_automaton.specs.Automaton.{Symbol, Left, Next, to, unexpected, over, step, start, decls, may_end, Verdict, run, located_of}
use Rattle.vlt_syntax_laws.proofs.Wider.{wider}
use Rattle.vlt_syntax_laws.proofs.After.{after, onward, IsTo}
use Rattle.vlt_syntax_laws.proofs.Weaker.{beyond, wide_enough, weaker_tree}
use Rattle.vlt_syntax_laws.proofs.Lifted.{lifts, is_limit, is_good, LiftedNext, deepest, step_lifted}
use Rattle.vlt_syntax_laws.proofs.Final.{goes_on, goes_back}
use Rattle.vlt_syntax_laws.proofs.Decls.{take_tree}
use Rattle.vlt_syntax_laws.proofs.OneRefusal.{shorter, shorter_all, also_any, tree_not_refused}
use Rattle.vlt_syntax_laws.proofs.Reasons.{Reaches, Refuses, IsReason, reason}

-- ---- bounds

abbrev pub nothing : Bounds
nothing = record { decls = 0; states = 0; fields = 0; cases = 0; payload = 0; parameters = 0; depth = 0 }

abbrev unless : ℕ → ℕ → ℕ → ℕ
unless limit k n = if limit == k then 0 else n

-- so much more of all but one limit
abbrev all_but : ℕ → ℕ → Bounds
all_but limit n = record {
  decls = unless limit 4 n;
  states = unless limit 5 n;
  fields = unless limit 6 n;
  cases = unless limit 7 n;
  payload = unless limit 8 n;
  parameters = unless limit 9 n;
  depth = unless limit 12 n;
}

abbrev twelve : ℕ → ℕ
twelve n = suc (suc (suc (suc (suc (suc (suc (suc (suc (suc (suc (suc n)))))))))))

-- what holds for each limit that bounds something, and for the others
by_limit : (P : ℕ → Type 0) → P 4 → P 5 → P 6 → P 7 → P 8 → P 9 → P 12 → ((n : ℕ) → is_limit n ≡ false → ((b : Bounds) → bound_of n b ≡ 0) → P n) → (n : ℕ) → P n
by_limit P d s f c y p e o zero = o 0 refl (λ b. refl)
by_limit P d s f c y p e o (suc zero) = o 1 refl (λ b. refl)
by_limit P d s f c y p e o (suc (suc zero)) = o 2 refl (λ b. refl)
by_limit P d s f c y p e o (suc (suc (suc zero))) = o 3 refl (λ b. refl)
by_limit P d s f c y p e o (suc (suc (suc (suc zero)))) = d
by_limit P d s f c y p e o (suc (suc (suc (suc (suc zero))))) = s
by_limit P d s f c y p e o (suc (suc (suc (suc (suc (suc zero)))))) = f
by_limit P d s f c y p e o (suc (suc (suc (suc (suc (suc (suc zero))))))) = c
by_limit P d s f c y p e o (suc (suc (suc (suc (suc (suc (suc (suc zero)))))))) = y
by_limit P d s f c y p e o (suc (suc (suc (suc (suc (suc (suc (suc (suc zero))))))))) = p
by_limit P d s f c y p e o (suc (suc (suc (suc (suc (suc (suc (suc (suc (suc zero)))))))))) = o 10 refl (λ b. refl)
by_limit P d s f c y p e o (suc (suc (suc (suc (suc (suc (suc (suc (suc (suc (suc zero))))))))))) = o 11 refl (λ b. refl)
by_limit P d s f c y p e o (suc (suc (suc (suc (suc (suc (suc (suc (suc (suc (suc (suc zero)))))))))))) = e
by_limit P d s f c y p e o (suc (suc (suc (suc (suc (suc (suc (suc (suc (suc (suc (suc (suc n))))))))))))) = o (suc (twelve n)) refl (λ b. refl)

-- what is more of a limit
pub more_of : (limit : ℕ) (e : Bounds) → bound_of limit (wider e) ≡ bound_of limit language + bound_of limit e
more_of limit e = by_limit (λ n. bound_of n (wider e) ≡ bound_of n language + bound_of n e) refl refl refl refl refl refl refl (λ n is none. rw (none (wider e), none language, none e) refl) limit

none_beyond : (limit : ℕ) (b : Bounds) → bound_of limit b ≤ bound_of limit language → bound_of limit (beyond b) ≡ 0
none_beyond limit b = by_limit (λ n. bound_of n b ≤ bound_of n language → bound_of n (beyond b) ≡ 0)
    (λ h. omega arith) (λ h. omega arith) (λ h. omega arith) (λ h. omega arith) (λ h. omega arith) (λ h. omega arith) (λ h. omega arith) (λ n is none h. none (beyond b)) limit

none_but : (limit n : ℕ) → bound_of limit (all_but limit n) ≡ 0
none_but limit n = by_limit (λ k. bound_of k (all_but k n) ≡ 0) refl refl refl refl refl refl refl (λ k is none. none (all_but k n)) limit

some_unless : (limit k n : ℕ) → limit ≢ k → unless limit k n ≡ n
some_unless limit k n other = rw (ne_eqb limit k other) refl

all_other : (limit k n : ℕ) → limit ≢ k → is_limit k ≡ true → bound_of k (all_but limit n) ≡ n
all_other limit k n = by_limit (λ k. limit ≢ k → is_limit k ≡ true → bound_of k (all_but limit n) ≡ n)
    (λ h i. some_unless limit 4 n h) (λ h i. some_unless limit 5 n h) (λ h i. some_unless limit 6 n h) (λ h i. some_unless limit 7 n h)
    (λ h i. some_unless limit 8 n h) (λ h i. some_unless limit 9 n h) (λ h i. some_unless limit 12 n h) (λ k is none h i. absurd cc) k

-- ---- stacks

gone_on : (b : Bounds) (xs ys : List Token) (n : Next) → ((s : List Symbol) → after b (xs ++ ys) s ≡ onward (after b ys) (after b xs s)) → onward (after b (xs ++ ys)) n ≡ onward (after b ys) (onward (after b xs) n)
gone_on b xs ys (to s) h = h s
gone_on b xs ys unexpected h = refl
gone_on b xs ys (over n) h = refl

after_append : (b : Bounds) (xs ys : List Token) (s : List Symbol) → after b (xs ++ ys) s ≡ onward (after b ys) (after b xs s)
after_append b [] ys s = refl
after_append b (x ∷ xs) ys s = gone_on b xs ys (step b s x) (λ z. after_append b xs ys z)

same_stack : (s q : List Symbol) → to s ≡ to q → s ≡ q
same_stack s q e = cc

no_unexpected : (q : List Symbol) → unexpected ≡ to q → ⊥
no_unexpected q e = cc

no_over : (n : ℕ) (q : List Symbol) → over n ≡ to q → ⊥
no_over n q e = cc

abbrev Follows : Bounds → List Token → List Symbol → List Symbol → Type 0
Follows e ts s q = (after (wider e) ts (lifts e s) ≡ to (lifts e q)) × (list_all is_good q ≡ true)

follow : (e : Bounds) (k : ℕ) (xs : List Token) (q : List Symbol) (m n : Next) → LiftedNext k e m n → ((z : List Symbol) → list_all is_good z ≡ true → after language xs z ≡ to q → Follows e xs z q)
    → onward (after language xs) m ≡ to q → (onward (after (wider e) xs) n ≡ to (lifts e q)) × (list_all is_good q ≡ true)
follow e k xs q (to z) n h more is = let r = more z h.1 is in (ap (onward (after (wider e) xs)) h.0 ∙ r.0, r.1)
follow e k xs q unexpected n h more is = absurd (no_unexpected q is)
follow e k xs q (over j) n h more is = absurd (no_over j q is)

-- what the automaton takes it takes within wider bounds
lifted : (e : Bounds) (ts : List Token) (s q : List Symbol) → list_all is_good s ≡ true → after language ts s ≡ to q → Follows e ts s q
lifted e [] s q good is = (ap (λ z. to (lifts e z)) (same_stack s q is), subst (λ z. list_all is_good z ≡ true) (same_stack s q is) good)
lifted e (x ∷ xs) s q good is =
    follow e (deepest s) xs q (step language s x) (step (wider e) (lifts e s) x) (step_lifted (deepest s) 0 e s x (omega arith) good) (λ z g i. lifted e xs z q g i) is

-- ---- trees

abbrev pub somewhere : Span
somewhere = record { from = 0; to = 0 }

is_to : (n : Next) (q : List Symbol) → n ≡ to q → IsTo n
is_to n q e = subst IsTo (sym e) tt

-- where the automaton has come to, some tree of the language goes on
taken : (ts : List Token) (q : List Symbol) → after language ts (start language) ≡ to q → (t : Tree) × (more : List Token) × IsTree language t × (spelling t ≡ ts ++ more)
taken ts q e = goes_on nothing somewhere ts (is_to (after language ts (start language)) q e)

continues : (asked : Asked) → asked language → (ts : List Token) (q : List Symbol) → after language ts (start language) ≡ to q → Continues asked ts
continues asked is ts q e = let t = taken ts q e in (t.0, t.1, (language, is, t.2), t.3)

abbrev token : Lexeme → Token
token l = token_from l.kind l.text

last_to : (b : Bounds) (n : Next) → onward (after b []) n ≡ n
last_to b (to s) = refl
last_to b unexpected = refl
last_to b (over n) = refl

-- the automaton within wider bounds, with the token
one_more : (e : Bounds) (ls : List Lexeme) (i : ℕ) (q : List Symbol) (l : Lexeme) → Reaches ls (start language) i q l → after (wider e) (take (suc i) (tokens_in ls)) (start (wider e)) ≡ step (wider e) (lifts e q) (token l)
one_more e ls i q l r =
    ap (λ ts. after (wider e) ts (start (wider e))) r.next
    ∙ after_append (wider e) (take i (tokens_in ls)) (token l ∷ []) (start (wider e))
    ∙ ap (onward (after (wider e) (token l ∷ []))) (lifted e (take i (tokens_in ls)) (start language) q refl r.before).0
    ∙ last_to (wider e) (step (wider e) (lifts e q) (token l))

-- where it refuses the token, no tree within those bounds goes on
stops : (asked : Asked) (ls : List Lexeme) (i : ℕ) (q : List Symbol) (l : Lexeme) → Reaches ls (start language) i q l
    → ((b : Bounds) → asked b → IsTo (step (wider (beyond b)) (lifts (beyond b) q) (token l)) → ⊥) → Continues asked (take (suc i) (tokens_in ls)) → ⊥
stops asked ls i q l r refuses (t, more, (b, is, tree), e) =
    refuses b is (subst IsTo (one_more (beyond b) ls i q l r) (goes_back (beyond b) (take (suc i) (tokens_in ls)) (t, more, weaker_tree b (wider (beyond b)) (wide_enough b) t tree, e)))

-- where it takes the token, some tree goes on
goes_further : (asked : Asked) (e : Bounds) (ls : List Lexeme) (i : ℕ) (q : List Symbol) (l : Lexeme) → Reaches ls (start language) i q l → asked (wider e) → IsTo (step (wider e) (lifts e q) (token l))
    → Continues asked (take (suc i) (tokens_in ls))
goes_further asked e ls i q l r is goes =
    let t = goes_on e somewhere (take (suc i) (tokens_in ls)) (subst IsTo (sym (one_more e ls i q l r)) goes) in
    (t.0, t.1, (wider e, is, t.2), t.3)

-- ---- the two refusals of a token

good_there : (ls : List Lexeme) (i : ℕ) (q : List Symbol) (l : Lexeme) → Reaches ls (start language) i q l → list_all is_good q ≡ true
good_there ls i q l r = (lifted nothing (take i (tokens_in ls)) (start language) q refl r.before).1

step_there : (e : Bounds) (ls : List Lexeme) (i : ℕ) (q : List Symbol) (l : Lexeme) → Reaches ls (start language) i q l → LiftedNext (deepest q) e (step language q (token l)) (step (wider e) (lifts e q) (token l))
step_there e ls i q l r = step_lifted (deepest q) 0 e q (token l) (omega arith) (good_there ls i q l r)

unexpected_there : (ls : List Lexeme) (i : ℕ) (q : List Symbol) (l : Lexeme) → Reaches ls (start language) i q l → step language q (token l) ≡ unexpected → IsUnexpectedAt (tokens_in ls) i
unexpected_there ls i q l r h = (
  r.less,
  continues any_size tt (take i (tokens_in ls)) q r.before,
  stops any_size ls i q l r (λ b is goes.
      let there : LiftedNext (deepest q) (beyond b) unexpected (step (wider (beyond b)) (lifts (beyond b) q) (token l)) = subst (λ m. LiftedNext (deepest q) (beyond b) m (step (wider (beyond b)) (lifts (beyond b) q) (token l))) h (step_there (beyond b) ls i q l r) in
      subst IsTo there goes),
)

over_step : (e : Bounds) (ls : List Lexeme) (i : ℕ) (q : List Symbol) (l : Lexeme) (n : ℕ) → Reaches ls (start language) i q l → step language q (token l) ≡ over n
    → LiftedNext (deepest q) e (over n) (step (wider e) (lifts e q) (token l))
over_step e ls i q l n r h = subst (λ m. LiftedNext (deepest q) e m (step (wider e) (lifts e q) (token l))) h (step_there e ls i q l r)

-- with other limits wide enough, the token is within one
within_other : (ls : List Lexeme) (i : ℕ) (q : List Symbol) (l : Lexeme) (m n : ℕ) → Reaches ls (start language) i q l → step language q (token l) ≡ over n → m ≢ n → Continues (within m) (take (suc i) (tokens_in ls))
within_other ls i q l m n r h other =
    let e = all_but m (suc (deepest q)) in
    let o = over_step e ls i q l n r h in
    let wide : bound_of n e ≡ suc (deepest q) = all_other m n (suc (deepest q)) other o.0 in
    let narrow : bound_of m e ≡ 0 = none_but m (suc (deepest q)) in
    let same = more_of m e in
    goes_further (within m) e ls i q l r (omega (arith, narrow, same)) (o.2 (omega (arith, wide)))

over_there : (ls : List Lexeme) (i : ℕ) (q : List Symbol) (l : Lexeme) (n : ℕ) → Reaches ls (start language) i q l → step language q (token l) ≡ over n → IsOverLimitAt n (tokens_in ls) i
over_there ls i q l n r h = (
  (
    r.less,
    continues (within n) (omega arith) (take i (tokens_in ls)) q r.before,
    stops (within n) ls i q l r (λ b is goes.
        let o = over_step (beyond b) ls i q l n r h in
        subst IsTo (o.1 (none_beyond n b is)) goes),
  ),
  also_any 0 (take (suc i) (tokens_in ls)) (within_other ls i q l 0 n r h (λ none.
      let o = over_step nothing ls i q l n r h in
      let is : is_limit 0 ≡ true = subst (λ k. is_limit k ≡ true) (sym none) o.0 in
      cc)),
)

-- ---- which decides

nat_either : (i j : ℕ) → (i ≤ j) ⊎ (j < i)
nat_either i j = by (nat_le i j) refl where
  by : (b : Bool) → nat_le i j ≡ b → (i ≤ j) ⊎ (j < i)
  by true e = inl (grind (arith, nat_tests))
  by false e = inr (grind (arith, nat_tests))

nat_decide : (m n : ℕ) → (m ≡ n) ⊎ (m ≢ n)
nat_decide m n = by (m == n) refl where
  by : (b : Bool) → (m == n) ≡ b → (m ≡ n) ⊎ (m ≢ n)
  by true e = inl (grind (arith, nat_tests))
  by false e = inr (λ is. grind (arith, nat_tests))

before_end : (asked : Asked) (ts : List Token) (i j : ℕ) → Continues asked (take i ts) → (Continues asked (take (suc j) ts) → ⊥) → i ≤ j
before_end asked ts i j goes stops = elim (nat_either i j) [
  | inl le ↦ le
  | inr less ↦ absurd (stops (shorter asked (suc j) i ts less goes))
]

at_or_after : (i j : ℕ) → i ≤ j → (i < j) ⊎ (i ≡ j)
at_or_after i j h = elim (nat_either j i) [
  | inl le ↦ inr (omega (arith, h, le))
  | inr less ↦ inl less
]

-- what some tree of the language goes on with is refused by nothing before it
decides_unexpected : (ts : List Token) (i : ℕ) → ((limit : ℕ) → Continues (within limit) (take i ts)) → IsUnexpectedAt ts i
    → (d : Cause) (j : ℕ) → IsRefusedAt d ts j → (i < j) ⊎ ((i ≡ j) × (0 ≤ number d))
decides_unexpected ts i each here g.unexpected j there = elim (at_or_after i j (before_end any_size ts i j here.1 there.2)) [
  | inl less ↦ inl less
  | inr same ↦ inr (same, omega arith)
]
decides_unexpected ts i each here (g.over m) j there =
    let le = before_end (within m) ts i j (each m) there.0.2 in
    absurd (here.2 (shorter any_size (suc i) (suc j) ts (omega arith) there.1))

decides_over : (ts : List Token) (i n : ℕ) → ((limit : ℕ) → Continues (within limit) (take i ts)) → ((limit : ℕ) → limit ≢ n → Continues (within limit) (take (suc i) ts)) → IsOverLimitAt n ts i
    → (d : Cause) (j : ℕ) → IsRefusedAt d ts j → (i < j) ⊎ ((i ≡ j) × (n ≤ number d))
decides_over ts i n each others here g.unexpected j there = inl (let le = before_end any_size ts (suc i) j here.1 there.2 in omega arith)
decides_over ts i n each others here (g.over m) j there = elim (at_or_after i j (before_end (within m) ts i j (each m) there.0.2)) [
  | inl less ↦ inl less
  | inr same ↦ inr (
    same,
    elim (nat_decide m n) [
      | inl is ↦ omega (arith, is)
      | inr other ↦ absurd (there.0.2 (subst (λ k. Continues (within m) (take (suc k) ts)) same (others m other)))
    ],
  )
]

-- ---- verdicts

each_limit : (ts : List Token) (q : List Symbol) → after language ts (start language) ≡ to q → (limit : ℕ) → Continues (within limit) ts
each_limit ts q e limit = continues (within limit) (omega arith) ts q e

first_unexpected : (ls : List Lexeme) (r : Refuses ls (start language) unexpected) → IsFirstRefused g.unexpected (tokens_in ls) r.at
first_unexpected ls r =
    let here = unexpected_there ls r.at r.stack r.lexeme r.reaches r.here in
    record { here = here; first = decides_unexpected (tokens_in ls) r.at (each_limit (take r.at (tokens_in ls)) r.stack r.reaches.before) here }

first_over : (ls : List Lexeme) (n : ℕ) (r : Refuses ls (start language) (over n)) → IsFirstRefused (g.over n) (tokens_in ls) r.at
first_over ls n r =
    let here = over_there ls r.at r.stack r.lexeme n r.reaches r.here in
    record { here = here; first = decides_over (tokens_in ls) r.at n (each_limit (take r.at (tokens_in ls)) r.stack r.reaches.before) (λ limit other. within_other ls r.at r.stack r.lexeme limit n r.reaches r.here other) here }

start_good : list_all is_good (start language) ≡ true
start_good = refl

-- a stack that wants more isn't that of a whole file within any bounds
wants_more : (e : Bounds) (q : List Symbol) (m : Left) → may_end q ≡ false → to (lifts e q) ≡ to (decls m ∷ []) → ⊥
wants_more e q m wants same = unlike_end e q m wants (same_stack (lifts e q) (decls m ∷ []) same) where
  unlike_end : (e : Bounds) (q : List Symbol) (m : Left) → may_end q ≡ false → lifts e q ≡ decls m ∷ [] → ⊥
  unlike_end e [] m wants same = absurd cc
  unlike_end e (decls l ∷ []) m wants same = absurd cc
  unlike_end e (y ∷ z ∷ q) m wants same = absurd cc
  unlike_end e (y ∷ []) m wants same = absurd cc

none_whole : (ls : List Lexeme) (q : List Symbol) → after language (tokens_in ls) (start language) ≡ to q → may_end q ≡ false → (t : Tree) → IsOneOf any_size t → spelling t ≡ tokens_in ls → ⊥
none_whole ls q e wants t (b, is, tree) same =
    let whole = take_tree (beyond b) t (weaker_tree b (wider (beyond b)) (wide_enough b) t tree) in
    wants_more (beyond b) q whole.0 wants
    (sym (lifted (beyond b) (tokens_in ls) (start language) q start_good e).0 ∙ ap (λ ts. after (wider (beyond b)) ts (start (wider (beyond b)))) (sym same) ∙ whole.1)

-- no token is refused where all are taken
none_refused : (ls : List Lexeme) (q : List Symbol) → after language (tokens_in ls) (start language) ≡ to q → (c : Cause) (i : ℕ) → IsRefusedAt c (tokens_in ls) i → ⊥
none_refused ls q e g.unexpected i (less, before, stops) = stops (shorter_all any_size (suc i) (tokens_in ls) (continues any_size tt (tokens_in ls) q e))
none_refused ls q e (g.over n) i ((less, before, stops), any) = stops (shorter_all (within n) (suc i) (tokens_in ls) (each_limit (tokens_in ls) q e n))

-- the automaton refuses tokens as the grammar does
pub refused : (ls : List Lexeme) (f : Refusal) → run language (start language) (map located_of ls) ≡ Err f → IsRefusal ls f
refused ls f e = by f (subst (λ v. IsReason ls (start language) v) e (reason ls (start language))) where
  by : (f : Refusal) → IsReason ls (start language) (Err f) → IsRefusal ls f
  by (unexpected_at at) r = (r.0.at, first_unexpected ls r.0, record { lexeme = r.0.lexeme; there = r.0.reaches.there; place = r.1 })
  by (over_limit n) r = (r.at, first_over ls n r)
  by ended r = ((continues any_size tt (tokens_in ls) r.stack r.all, none_whole ls r.stack r.all r.ends), none_refused ls r.stack r.all)

-- and accepts the tokens of each tree
pub accepted : (ls : List Lexeme) (t : Tree) → IsTree language t → tokens_in ls ≡ spelling t → run language (start language) (map located_of ls) ≡ Ok tt
accepted ls t is same = by (run language (start language) (map located_of ls)) refl where
  by : (v : Verdict) → run language (start language) (map located_of ls) ≡ v → v ≡ Ok tt
  by (Ok tt) e = refl
  by (Err f) e = absurd (tree_not_refused ls t f is same (refused ls f e))

any_within : (limit : ℕ) (ts : List Token) → ((b : Bounds) → bound_of limit b ≡ 0) → Continues any_size ts → Continues (within limit) ts
any_within limit ts none (t, more, (b, asked, is), e) = (t, more, (b, (let zero = none b in omega arith), is), e)

-- a limit that refuses tokens is one that bounds trees
pub limit_there : (ls : List Lexeme) (n : ℕ) → IsRefusal ls (over_limit n) → (1 ≤ n) × (n ≤ 15)
limit_there ls n (i, first) = by_limit (λ n. IsOverLimitAt n (tokens_in ls) i → (1 ≤ n) × (n ≤ 15))
    (λ h. (omega arith, omega arith)) (λ h. (omega arith, omega arith)) (λ h. (omega arith, omega arith)) (λ h. (omega arith, omega arith))
    (λ h. (omega arith, omega arith)) (λ h. (omega arith, omega arith)) (λ h. (omega arith, omega arith))
    (λ n is none h. absurd (h.0.2 (any_within n (take (suc i) (tokens_in ls)) none h.1))) n first.here
