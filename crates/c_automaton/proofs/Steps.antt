-- How the steps within different bounds go together.
use Rattle.std.proofs.Common.{◌≡◌, ℕ, ◌-◌, ◌≤◌, nat_le, Bool, true, false, if◌then◌else◌, List, [], ◌∷◌, ◌++◌, ◌⊎◌, inl, inr, refl, sym, ap, subst, ◌∙◌, arith}
use Rattle.std.proofs.lemmas.Bool.Decides.{nat_tests}
use Rattle.vlt_base.specs.declared.limits.TheConstants.{C_BLOCK_DEPTH, C_EXPRESSION_DEPTH}
use Rattle.c_syntax.specs.Tokens.{Token}
use Rattle.c_syntax.specs.Grammar.{Bounds}
use Rattle.c_automaton.specs.Automaton as a
use Rattle.c_automaton.specs.Automaton.{Symbol, blocks_in, parens_in, Reaction, react, Next, to, unexpected, over, next, step}
use Rattle.c_automaton.proofs.After.{bind, after}
use Rattle.c_automaton.proofs.Whole.{between}

-- ---- a token that is refused within some bounds is refused within all

no_choice : (P : Type 0) (d : Bool) (n : ℕ) (ys : List Symbol) → (if d then to ys else over n) ≡ unexpected → P
no_choice P true n ys e = absurd cc
no_choice P false n ys e = absurd cc

refused_next : (b d : Bounds) (ys : List Symbol) (below other : Next) (r : Reaction) → (below ≡ unexpected → other ≡ unexpected) → next b ys below r ≡ unexpected → next d ys other r ≡ unexpected
refused_next b d ys below other (a.take xs) f e = absurd cc
refused_next b d ys below other (a.open_block xs) f e = no_choice (next d ys other (a.open_block xs) ≡ unexpected) (nat_le (blocks_in (xs ++ ys)) (b.blocks - 1)) C_BLOCK_DEPTH (xs ++ ys) e
refused_next b d ys below other (a.open_paren xs) f e = no_choice (next d ys other (a.open_paren xs) ≡ unexpected) (nat_le (parens_in (xs ++ ys)) (b.expressions - 1)) C_EXPRESSION_DEPTH (xs ++ ys) e
refused_next b d ys below other a.skip f e = f e
refused_next b d ys below other a.refuse f e = refl

pub refused_always : (b d : Bounds) (ys : List Symbol) (x : Token) → step b ys x ≡ unexpected → step d ys x ≡ unexpected
refused_always b d [] x e = refl
refused_always b d (y ∷ ys) x e = refused_next b d ys (step b ys x) (step d ys x) (react y x) (refused_always b d ys x) e

-- ---- two steps of one stack come to one

choice : (d : Bool) (n : ℕ) (ys zs : List Symbol) → (if d then to ys else over n) ≡ to zs → to ys ≡ to zs
choice true n ys zs e = e
choice false n ys zs e = absurd cc

abbrev stack_in : Next → List Symbol
stack_in (to ys) = ys
stack_in _ = []

one_next : (b d : Bounds) (ys zs us : List Symbol) (below other : Next) (r : Reaction) → (below ≡ to zs → other ≡ to us → zs ≡ us) → next b ys below r ≡ to zs → next d ys other r ≡ to us → zs ≡ us
one_next b d ys zs us below other (a.take xs) f e g = ap stack_in (sym e ∙ g)
one_next b d ys zs us below other (a.open_block xs) f e g =
    ap stack_in (sym (choice (nat_le (blocks_in (xs ++ ys)) (b.blocks - 1)) C_BLOCK_DEPTH (xs ++ ys) zs e) ∙ choice (nat_le (blocks_in (xs ++ ys)) (d.blocks - 1)) C_BLOCK_DEPTH (xs ++ ys) us g)
one_next b d ys zs us below other (a.open_paren xs) f e g =
    ap stack_in (sym (choice (nat_le (parens_in (xs ++ ys)) (b.expressions - 1)) C_EXPRESSION_DEPTH (xs ++ ys) zs e) ∙ choice (nat_le (parens_in (xs ++ ys)) (d.expressions - 1)) C_EXPRESSION_DEPTH (xs ++ ys) us g)
one_next b d ys zs us below other a.skip f e g = f e g
one_next b d ys zs us below other a.refuse f e g = absurd cc

one_step : (b d : Bounds) (ys zs us : List Symbol) (x : Token) → step b ys x ≡ to zs → step d ys x ≡ to us → zs ≡ us
one_step b d [] zs us x e g = absurd cc
one_step b d (y ∷ ys) zs us x e g = one_next b d ys zs us (step b ys x) (step d ys x) (react y x) (one_step b d ys zs us x) e g

pub one_way : (b d : Bounds) (ts : List Token) (ys zs us : List Symbol) → after b ts ys ≡ to zs → after d ts ys ≡ to us → zs ≡ us
one_way b d [] ys zs us e g = ap stack_in (sym e ∙ g)
one_way b d (x ∷ xs) ys zs us e g =
    let m = between (after b xs) (step b ys x) zs e in
    let n = between (after d xs) (step d ys x) us g in
    one_way b d xs m.middle zs us m.second (subst (λ s. after d xs s ≡ to us) (sym (one_step b d ys m.middle n.middle x m.first n.first)) n.second)

-- ---- what is taken within some bounds is taken within wider ones

pub record IsWider (b d : Bounds) : Type 0 where
  pub blocks : b.blocks ≤ d.blocks
  pub expressions : b.expressions ≤ d.expressions

pub wider_test : (m j k : ℕ) → j ≤ k → nat_le m (j - 1) ≡ true → nat_le m (k - 1) ≡ true
wider_test m j k h e = grind (arith, nat_tests)

pub still : (p q : Bool) (n : ℕ) (ys zs : List Symbol) → (p ≡ true → q ≡ true) → (if p then to ys else over n) ≡ to zs → (if q then to ys else over n) ≡ to zs
still true q n ys zs f e = rw (f refl) e
still false q n ys zs f e = absurd cc

wider_next : (b d : Bounds) (ys zs : List Symbol) (below other : Next) (r : Reaction) → IsWider b d → (below ≡ to zs → other ≡ to zs) → next b ys below r ≡ to zs → next d ys other r ≡ to zs
wider_next b d ys zs below other (a.take xs) h f e = e
wider_next b d ys zs below other (a.open_block xs) h f e =
    still (nat_le (blocks_in (xs ++ ys)) (b.blocks - 1)) (nat_le (blocks_in (xs ++ ys)) (d.blocks - 1)) C_BLOCK_DEPTH (xs ++ ys) zs (wider_test (blocks_in (xs ++ ys)) b.blocks d.blocks h.blocks) e
wider_next b d ys zs below other (a.open_paren xs) h f e =
    still (nat_le (parens_in (xs ++ ys)) (b.expressions - 1)) (nat_le (parens_in (xs ++ ys)) (d.expressions - 1)) C_EXPRESSION_DEPTH (xs ++ ys) zs (wider_test (parens_in (xs ++ ys)) b.expressions d.expressions h.expressions) e
wider_next b d ys zs below other a.skip h f e = f e
wider_next b d ys zs below other a.refuse h f e = absurd cc

wider_step : (b d : Bounds) (ys zs : List Symbol) (x : Token) → IsWider b d → step b ys x ≡ to zs → step d ys x ≡ to zs
wider_step b d [] zs x h e = absurd cc
wider_step b d (y ∷ ys) zs x h e = wider_next b d ys zs (step b ys x) (step d ys x) (react y x) h (wider_step b d ys zs x h) e

pub wider_after : (b d : Bounds) (ts : List Token) (ys zs : List Symbol) → IsWider b d → after b ts ys ≡ to zs → after d ts ys ≡ to zs
wider_after b d [] ys zs h e = e
wider_after b d (x ∷ xs) ys zs h e =
    let m = between (after b xs) (step b ys x) zs e in
    ap (bind (after d xs)) (wider_step b d ys m.middle x h m.first) ∙ wider_after b d xs m.middle zs h m.second

-- ---- a limit that is exceeded

-- the steps within all bounds differ by a test of this depth alone
pub record IsOver (depth_of : Bounds → ℕ) (limit : ℕ) (go : Bounds → Next) (b : Bounds) : Type 0 where
  pub depth : ℕ
  pub stack : List Symbol
  pub exceeds : nat_le depth (depth_of b - 1) ≡ false
  pub goes : (d : Bounds) → go d ≡ (if nat_le depth (depth_of d - 1) then to stack else over limit)

abbrev pub blocks_of : Bounds → ℕ
blocks_of b = b.blocks

abbrev pub expressions_of : Bounds → ℕ
expressions_of b = b.expressions

abbrev pub Exceeds : (Bounds → Next) → Bounds → ℕ → Type 0
Exceeds go b n = ((n ≡ C_BLOCK_DEPTH) × IsOver blocks_of C_BLOCK_DEPTH go b) ⊎ ((n ≡ C_EXPRESSION_DEPTH) × IsOver expressions_of C_EXPRESSION_DEPTH go b)

abbrev limit_in : Next → ℕ
limit_in (over n) = n
limit_in _ = 0

not_tested : (d : Bool) (m n : ℕ) (ys : List Symbol) → (if d then to ys else over m) ≡ over n → (n ≡ m) × (d ≡ false)
not_tested true m n ys e = absurd cc
not_tested false m n ys e = (sym (ap limit_in e), refl)

over_next : (b : Bounds) (n : ℕ) (ys : List Symbol) (below : Bounds → Next) (r : Reaction) → (below b ≡ over n → Exceeds below b n) → next b ys (below b) r ≡ over n → Exceeds (λ d. next d ys (below d) r) b n
over_next b n ys below (a.take xs) f e = absurd cc
over_next b n ys below (a.open_block xs) f e =
    let q = not_tested (nat_le (blocks_in (xs ++ ys)) (b.blocks - 1)) C_BLOCK_DEPTH n (xs ++ ys) e in
    inl (q.0, record { depth = blocks_in (xs ++ ys); stack = xs ++ ys; exceeds = q.1; goes = λ d. refl })
over_next b n ys below (a.open_paren xs) f e =
    let q = not_tested (nat_le (parens_in (xs ++ ys)) (b.expressions - 1)) C_EXPRESSION_DEPTH n (xs ++ ys) e in
    inr (q.0, record { depth = parens_in (xs ++ ys); stack = xs ++ ys; exceeds = q.1; goes = λ d. refl })
over_next b n ys below a.skip f e = f e
over_next b n ys below a.refuse f e = absurd cc

pub over_step : (b : Bounds) (n : ℕ) (ys : List Symbol) (x : Token) → step b ys x ≡ over n → Exceeds (λ d. step d ys x) b n
over_step b n [] x e = absurd cc
over_step b n (y ∷ ys) x e = over_next b n ys (λ d. step d ys x) (react y x) (over_step b n ys x) e
