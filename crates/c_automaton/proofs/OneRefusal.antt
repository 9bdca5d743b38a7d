-- By the grammar tokens are refused in one way, and those of a text in none.
use Rattle.std.proofs.Common.{◌≡◌, ◌⊎◌, inl, inr, ℕ, zero, suc, ◌+◌, ◌-◌, ◌≤◌, ◌<◌, nat_le, List, [], ◌∷◌, ◌++◌, length, take, refl, sym, ap, subst, ◌∙◌, arith, append_assoc}
use Rattle.std.specs.Prelude.{slice_get}
use Rattle.std.proofs.lemmas.Bool.{cases_lt}
use Rattle.std.proofs.lemmas.Option.{same_Some}
use Rattle.vlt_base.specs.declared.limits.TheConstants.{C_BLOCK_DEPTH, C_EXPRESSION_DEPTH}
use Rattle.c_syntax.specs.Unit.{TranslationUnit}
use Rattle.c_syntax.specs.Tokens.{Token}
use Rattle.c_syntax.specs.Text.{Lexeme}
use Rattle.c_syntax.specs.Spelling.{spelling}
use Rattle.c_syntax.specs.Grammar.{Bounds, language, IsUnit}
use Rattle.c_syntax.specs.Reading.{tokens_in, places_in, Continues, any_size, within_limits, within_blocks, within_expressions, IsLastOf, IsUnexpectedAt, IsOverLimitAt}
use Rattle.c_automaton.specs.Refusals.{unexpected_at, cut_short, over_limit, ExceedsAt}
use Rattle.c_automaton.specs.Automaton as a
use Rattle.c_automaton.specs.Automaton.{Symbol, blocks_in, parens_in, Reaction, react, Next, to, next, step, start}
use Rattle.c_automaton.specs.Laws.{HasOneRefusal, IsNeverBoth}
use Rattle.c_automaton.proofs.After.{after}
use Rattle.c_automaton.proofs.Units.{unit_taken}
use Rattle.c_automaton.proofs.Whole.{between}
use Rattle.c_automaton.proofs.Steps.{one_way, IsWider, wider_after, wider_test, still}
use Rattle.c_automaton.proofs.Refused.{parted, joined, continues}

-- ---- beginnings

prefix : (i j : ℕ) (ts : List Token) → i ≤ j → (zs : List Token) × (take j ts ≡ take i ts ++ zs)
prefix zero j ts h = (take j ts, refl)
prefix (suc i) zero ts h = absurd (omega arith)
prefix (suc i) (suc j) [] h = ([], refl)
prefix (suc i) (suc j) (t ∷ ts) h = let p = prefix i j ts (omega arith) in (p.0, ap (λ xs. t ∷ xs) p.1)

whole : (i : ℕ) (ts : List Token) → (zs : List Token) × (ts ≡ take i ts ++ zs)
whole zero ts = (ts, refl)
whole (suc i) [] = ([], refl)
whole (suc i) (t ∷ ts) = let p = whole i ts in (p.0, ap (λ xs. t ∷ xs) p.1)

one_more : (i : ℕ) (ts : List Token) → i < length ts → (x : Token) × (take (suc i) ts ≡ take i ts ++ x ∷ [])
one_more i [] h = absurd (omega (arith, h))
one_more zero (t ∷ ts) h = (t, refl)
one_more (suc i) (t ∷ ts) h = let p = one_more i ts (omega (arith, h)) in (p.0, ap (λ xs. t ∷ xs) p.1)

-- where a longer beginning goes on, a shorter one does
cut : (asked : Bounds → Type 0) (xs zs ts : List Token) → ts ≡ xs ++ zs → Continues asked ts → Continues asked xs
cut asked xs zs ts same c = record {
  bounds = c.bounds;
  is_asked = c.is_asked;
  unit = c.unit;
  within = c.within;
  more = zs ++ c.more;
  spelled = c.spelled ∙ ap (λ ys. ys ++ c.more) same ∙ append_assoc xs zs c.more;
}

shorter : (asked : Bounds → Type 0) (i j : ℕ) (ts : List Token) → i ≤ j → Continues asked (take j ts) → Continues asked (take i ts)
shorter asked i j ts le c = let p = prefix i j ts le in cut asked (take i ts) p.0 (take j ts) p.1 c

shorter_all : (asked : Bounds → Type 0) (i : ℕ) (ts : List Token) → Continues asked ts → Continues asked (take i ts)
shorter_all asked i ts c = let p = whole i ts in cut asked (take i ts) p.0 ts p.1 c

-- one token is the last of a text
one_place : (ts : List Token) (i j : ℕ) → IsLastOf ts i → IsLastOf ts j → i ≡ j
one_place ts i j p q = elim (cases_lt i j) [
  | inl less ↦ absurd (p.following (shorter within_limits (suc i) j ts less q.before))
  | inr most ↦ elim (cases_lt j i) [
    | inl less ↦ absurd (q.following (shorter within_limits (suc j) i ts less p.before))
    | inr least ↦ omega (arith, most, least)
  ]
]

-- ---- a token exceeds one limit

-- the limit on blocks is kept, or that on expressions, and there is more room than within those bounds for the others
abbrev keeps_blocks : Bounds → Bounds
keeps_blocks b = record { blocks = language.blocks; expressions = language.expressions + b.expressions }

abbrev keeps_expressions : Bounds → Bounds
keeps_expressions b = record { blocks = language.blocks + b.blocks; expressions = language.expressions }

one_way_next : (b : Bounds) (ys zs : List Symbol) (below p q : Next) (r : Reaction) → (below ≡ to zs → (p ≡ to zs) ⊎ (q ≡ to zs)) → next b ys below r ≡ to zs
    → (next (keeps_blocks b) ys p r ≡ to zs) ⊎ (next (keeps_expressions b) ys q r ≡ to zs)
one_way_next b ys zs below p q (a.take xs) f e = inl e
one_way_next b ys zs below p q (a.open_block xs) f e =
    inr (still (nat_le (blocks_in (xs ++ ys)) (b.blocks - 1)) (nat_le (blocks_in (xs ++ ys)) ((keeps_expressions b).blocks - 1)) C_BLOCK_DEPTH (xs ++ ys) zs
    (wider_test (blocks_in (xs ++ ys)) b.blocks ((keeps_expressions b).blocks) (omega arith)) e)
one_way_next b ys zs below p q (a.open_paren xs) f e =
    inl (still (nat_le (parens_in (xs ++ ys)) (b.expressions - 1)) (nat_le (parens_in (xs ++ ys)) ((keeps_blocks b).expressions - 1)) C_EXPRESSION_DEPTH (xs ++ ys) zs
    (wider_test (parens_in (xs ++ ys)) b.expressions ((keeps_blocks b).expressions) (omega arith)) e)
one_way_next b ys zs below p q a.skip f e = f e
one_way_next b ys zs below p q a.refuse f e = absurd cc

-- a token that is taken within some bounds is taken within those that keep one of the limits
one_kept : (b : Bounds) (ys zs : List Symbol) (x : Token) → step b ys x ≡ to zs → (step (keeps_blocks b) ys x ≡ to zs) ⊎ (step (keeps_expressions b) ys x ≡ to zs)
one_kept b [] zs x e = absurd cc
one_kept b (y ∷ ys) zs x e =
    one_way_next b ys zs (step b ys x) (step (keeps_blocks b) ys x) (step (keeps_expressions b) ys x) (react y x) (one_kept b ys zs x) e

-- what the automaton comes to after the beginning of a text
record Comes (b : Bounds) (ts : List Token) : Type 0 where
  stack : List Symbol
  comes : after b ts start ≡ to stack

comes : (asked : Bounds → Type 0) (ts : List Token) (c : Continues asked ts) → Comes c.bounds ts
comes asked ts c =
    let all = unit_taken c.bounds c.unit c.within in
    let part = parted c.bounds ts c.more start all.last (subst (λ zs. after c.bounds zs start ≡ to all.last) c.spelled all.taken) in
    record { stack = part.middle; comes = part.first }

-- a token after which a text goes on
record Steps (b : Bounds) (ys : List Symbol) (x : Token) : Type 0 where
  stack : List Symbol
  steps : step b ys x ≡ to stack

steps : (b : Bounds) (front : List Token) (x : Token) (ys : List Symbol) → after language front start ≡ to ys → Comes b (front ++ x ∷ []) → Steps b ys x
steps b front x ys first c =
    let part = parted b front (x ∷ []) start c.stack c.comes in
    let last = between (after b []) (step b part.middle x) c.stack part.second in
    let same = one_way language b front start ys part.middle first part.first in
    record { stack = last.middle; steps = subst (λ s. step b s x ≡ to last.middle) (sym same) last.first }

moves_on : (asked : Bounds → Type 0) (d : Bounds) (front ts : List Token) (x : Token) (ys zs : List Symbol) → asked d → 1 ≤ d.expressions → IsWider language d → ts ≡ front ++ x ∷ []
    → after language front start ≡ to ys → step d ys x ≡ to zs → Continues asked ts
moves_on asked d front ts x ys zs is some wide split first second =
    continues asked d ts zs is some (subst (λ us. after d us start ≡ to zs) (sym split) (joined d front x start ys zs (wider_after language d front start ys wide first) second))

not_both : (ts : List Token) (i : ℕ) → IsOverLimitAt within_blocks ts i → IsOverLimitAt within_expressions ts i → ⊥
not_both ts i p q =
    let front : List Token = take i ts in
    let x = one_more i ts p.last.inside in
    let before = comes within_limits front p.last.before in
    let first : after language front start ≡ to before.stack = subst (λ b. after b front start ≡ to before.stack) p.last.before.is_asked before.comes in
    let b : Bounds = p.some.bounds in
    let some : Comes b (front ++ x.0 ∷ []) = subst (Comes b) x.1 (comes any_size (take (suc i) ts) p.some) in
    let one = steps b front x.0 before.stack first some in
    elim (one_kept b before.stack one.stack x.0 one.steps) [
      | inl e ↦ p.none (moves_on within_blocks (keeps_blocks b) front (take (suc i) ts) x.0 before.stack one.stack (omega arith) (omega arith) (record { blocks = omega arith; expressions = omega arith }) x.1 first e)
      | inr e ↦ q.none (moves_on within_expressions (keeps_expressions b) front (take (suc i) ts) x.0 before.stack one.stack (omega arith) (omega arith) (record { blocks = omega arith; expressions = omega arith }) x.1 first e)
    ]

last_over : (n : ℕ) (ts : List Token) (i : ℕ) → ExceedsAt n ts i → IsLastOf ts i
last_over n ts i (inl p) = p.1.last
last_over n ts i (inr p) = p.1.last

some_over : (n : ℕ) (ts : List Token) (i : ℕ) → ExceedsAt n ts i → Continues any_size (take (suc i) ts)
some_over n ts i (inl p) = p.1.some
some_over n ts i (inr p) = p.1.some

one_limit : (m n : ℕ) (ts : List Token) (i : ℕ) → ExceedsAt m ts i → ExceedsAt n ts i → m ≡ n
one_limit m n ts i (inl p) (inl q) = p.0 ∙ sym q.0
one_limit m n ts i (inl p) (inr q) = absurd (not_both ts i p.1 q.1)
one_limit m n ts i (inr p) (inl q) = absurd (not_both ts i q.1 p.1)
one_limit m n ts i (inr p) (inr q) = p.0 ∙ sym q.0

-- ---- one refusal

not_short : (ts : List Token) (i : ℕ) → IsLastOf ts i → Continues within_limits ts → ⊥
not_short ts i p c = p.following (shorter_all within_limits (suc i) ts c)

unlike : (ts : List Token) (i n j : ℕ) → IsUnexpectedAt ts i → ExceedsAt n ts j → ⊥
unlike ts i n j p q = p.none (subst (λ k. Continues any_size (take (suc k) ts)) (sym (one_place ts i j p.last (last_over n ts j q))) (some_over n ts j q))

pub one_refusal : (ls : List Lexeme) → HasOneRefusal ls
one_refusal ls (unexpected_at m) (unexpected_at n) (i, at, p) (j, there, q) =
    ap (λ k. unexpected_at k) (same_Some m n (sym at ∙ ap (slice_get (places_in ls)) (one_place (tokens_in ls) i j p.last q.last) ∙ there))
one_refusal ls (unexpected_at m) cut_short (i, at, p) q = absurd (not_short (tokens_in ls) i p.last q.some)
one_refusal ls (unexpected_at m) (over_limit n) (i, at, p) (j, q) = absurd (unlike (tokens_in ls) i n j p q)
one_refusal ls cut_short (unexpected_at n) p (j, there, q) = absurd (not_short (tokens_in ls) j q.last p.some)
one_refusal ls cut_short cut_short p q = refl
one_refusal ls cut_short (over_limit n) p (j, q) = absurd (not_short (tokens_in ls) j (last_over n (tokens_in ls) j q) p.some)
one_refusal ls (over_limit m) (unexpected_at n) (i, p) (j, there, q) = absurd (unlike (tokens_in ls) j m i q p)
one_refusal ls (over_limit m) cut_short (i, p) q = absurd (not_short (tokens_in ls) i (last_over m (tokens_in ls) i p) q.some)
one_refusal ls (over_limit m) (over_limit n) (i, p) (j, q) =
    let same = one_place (tokens_in ls) i j (last_over m (tokens_in ls) i p) (last_over n (tokens_in ls) j q) in
    ap (λ k. over_limit k) (one_limit m n (tokens_in ls) j (subst (ExceedsAt m (tokens_in ls)) same p) q)

-- ---- a text isn't refused

begun : (ts : List Token) (u : TranslationUnit) (i : ℕ) → IsUnit language u → ts ≡ spelling u → Continues within_limits (take i ts)
begun ts u i is same = let p = whole i ts in record { bounds = language; is_asked = refl; unit = u; within = is; more = p.0; spelled = sym same ∙ p.1 }

pub unit_not_refused : (ls : List Lexeme) → IsNeverBoth ls
unit_not_refused ls u (unexpected_at at) is same (i, there, p) = p.last.following (begun (tokens_in ls) u (suc i) is same)
unit_not_refused ls u cut_short is same p = p.none language u is (sym same)
unit_not_refused ls u (over_limit n) is same (i, p) = (last_over n (tokens_in ls) i p).following (begun (tokens_in ls) u (suc i) is same)
