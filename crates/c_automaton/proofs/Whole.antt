-- Tokens that are taken go on to a text.
use Rattle.std.proofs.Common.{◌≡◌, ℕ, suc, ◌+◌, ◌-◌, ◌≤◌, nat_le, pos, max, Bool, true, false, if◌then◌else◌, List, [], ◌∷◌, ◌++◌, None, inl, refl, sym, ap, subst, ◌∙◌, arith}
use Rattle.std.proofs.lemmas.Bool.Decides.{nat_tests}
use Rattle.vlt_base.specs.declared.limits.TheConstants.{C_BLOCK_DEPTH, C_EXPRESSION_DEPTH}
use Rattle.vlt_ops.specs.declared.Op.TheVariants as op
use Rattle.c_syntax.specs.declared.token.CWord.TheVariants as w
use Rattle.c_syntax.specs.declared.token.CSign.TheVariants as s
use Rattle.c_syntax.specs.C as c
use Rattle.c_syntax.specs.Unit.{TranslationUnit}
use Rattle.c_syntax.specs.Tokens as t
use Rattle.c_syntax.specs.Tokens.{Token}
use Rattle.c_syntax.specs.Grammar.{Bounds, IsUnit, expr_depth}
use Rattle.c_syntax.specs.Spelling.{heads_then, bodies_then, spelling}
use Rattle.c_automaton.specs.Automaton as a
use Rattle.c_automaton.specs.Automaton.{Symbol, blocks_in, parens_in, Reaction, react, Next, to, unexpected, over, next, step, start}
use Rattle.c_automaton.proofs.After.{bind, after}
use Rattle.c_automaton.proofs.Exprs.{MayStand, some_depth}
use Rattle.c_automaton.proofs.Parts.{Rest, reference, Part, Spells, Backs}
use Rattle.c_automaton.proofs.Back.{none_stands}
use Rattle.c_automaton.proofs.BackStmts.{back}

-- ---- each symbol stands for something

abbrev HasPart : Bounds → Symbol → List Symbol → Rest → Type 0
HasPart b y ys K = (ts : List Token) × Part b y ys K ts

null_stands : (n : Bool) → MayStand n (c.null ∷ [])
null_stands true = tt
null_stands false = tt

operation_deep : (m k e : ℕ) → 1 ≤ m → suc k + m ≤ e → k + suc (max m 1) ≤ e
operation_deep m k e one h = omega (arith, one, h)

has_part : (b : Bounds) (y : Symbol) (ys : List Symbol) (K : Rest) (ts : List Token) → 1 ≤ b.expressions → K ts → HasPart b y ys K
has_part b a.include ys K ts some k = (t.include ∷ ts, (ts, refl, k))
has_part b a.line_end ys K ts some k = (t.line_end ∷ ts, (ts, refl, k))
has_part b a.define ys K ts some k = (t.define ∷ ts, (ts, refl, k))
has_part b (a.word x) ys K ts some k = (t.word x ∷ ts, (ts, refl, k))
has_part b (a.sign x) ys K ts some k = (t.sign x ∷ ts, (ts, refl, k))
has_part b a.any_variable ys K ts some k = (reference 0 ∷ ts, (record { reference = true; number = 0 }, ts, refl, k))
has_part b a.any_name ys K ts some k = (t.name (record { glue = false; number = 0 }) ∷ ts, (record { glue = false; number = 0 }, ts, refl, k))
has_part b a.natural ys K ts some k = (t.number (pos 0) ∷ ts, (0, ts, refl, k))
has_part b a.one ys K ts some k = (t.number (pos 1) ∷ ts, (ts, refl, k))
has_part b a.functions ys K ts some k = (ts, λ p. ([], [], ts, tt, refl, k))
has_part b a.bodies ys K ts some k = (ts, λ p. ([], ts, tt, refl, k))
has_part b a.after_head ys K ts some k = (t.sign s.Semicolon ∷ ts, λ p h. (h ∷ [], [], ts, tt, refl, k))
has_part b a.type ys K ts some k = (t.word w.Ref ∷ ts, (true, ts, refl, k))
has_part b a.params ys K ts some k = (t.word w.Void ∷ t.sign s.CloseParen ∷ ts, ([], ts, refl, k))
has_part b a.more_params ys K ts some k = (t.sign s.CloseParen ∷ ts, ([], ts, refl, k))
has_part b a.body ys K ts some k = (t.sign s.CloseBrace ∷ ts, λ p. ([], c.done, ts, tt, omega arith, omega (arith, p), refl, k))
has_part b (a.stmts n) ys K ts some k = (t.sign s.CloseBrace ∷ ts, λ p. (c.done, ts, tt, omega arith, omega (arith, p), refl, k))
has_part b a.otherwise ys K ts some k = (ts, λ p. inl k)
has_part b a.after_reference ys K ts some k =
    (t.sign s.Assign ∷ t.number (pos 0) ∷ t.sign s.Semicolon ∷ ts, λ n. (c.set (record { reference = true; number = n }) (c.number (pos 0)), ts, tt, some, refl, refl, k))
has_part b a.value ys K ts some k = (t.number (pos 0) ∷ ts, λ p. inl (c.number (pos 0), ts, tt, some, refl, k))
has_part b a.after_return ys K ts some k = (t.sign s.Semicolon ∷ ts, (None, ts, tt, omega arith, refl, k))
has_part b a.cell_kind ys K ts some k = (t.word w.Numbers ∷ ts, (false, ts, refl, k))
has_part b a.operand ys K ts some k = (t.number (pos 0) ∷ ts, λ p. (c.number (pos 0), ts, tt, omega (arith, p), refl, k))
has_part b a.operand_end ys K ts some k = (ts, λ n. (c.variable (record { reference = true; number = n }), ts, tt, refl, refl, k))
has_part b a.inside ys K ts some k =
    (t.operator op.Subtract ∷ t.number (pos 0) ∷ t.sign s.CloseParen ∷ ts, λ p. (c.unary op.Negate (c.number (pos 0)), ts, (refl, tt), omega (arith, p), refl, k))
has_part b a.operation ys K ts some k = (
  t.operator op.Add ∷ t.number (pos 0) ∷ t.sign s.CloseParen ∷ ts,
  λ x is deep. (c.binary op.Add x (c.number (pos 0)), ts, (refl, is, tt), operation_deep (expr_depth x) (parens_in ys) b.expressions (some_depth x) deep, refl, k),
)
has_part b a.closing ys K ts some k = (t.sign s.CloseParen ∷ ts, (ts, refl, k))
has_part b (a.args n) ys K ts some k = (t.sign s.CloseParen ∷ ts, ([], ts, none_stands n, refl, k))
has_part b (a.more_args n) ys K ts some k = (t.sign s.CloseParen ∷ ts, ([], ts, none_stands n, refl, k))
has_part b (a.arg n) ys K ts some k = (t.word w.Null ∷ ts, (c.null, ts, null_stands n, refl, k))

-- nothing comes after
abbrev pub IsEnd : Rest
IsEnd ts = ts ≡ []

has_all : (b : Bounds) (ys : List Symbol) → 1 ≤ b.expressions → (ts : List Token) × Spells b ys IsEnd ts
has_all b [] some = ([], refl)
has_all b (y ∷ ys) some = let q = has_all b ys some in has_part b y ys (Spells b ys IsEnd) q.0 some q.1

-- ---- back over steps

abbrev stack_in : Next → List Symbol
stack_in (to ys) = ys
stack_in _ = []

-- what was tested is so, and this is the stack
opened : (d : Bool) (n : ℕ) (ys zs : List Symbol) → (if d then to ys else over n) ≡ to zs → (d ≡ true) × (ys ≡ zs)
opened true n ys zs e = (refl, ap stack_in e)
opened false n ys zs e = absurd cc

tested : (m n : ℕ) → nat_le m n ≡ true → m ≤ n
tested m n h = grind (arith, nat_tests)

next_back : (b : Bounds) (y : Symbol) (ys zs : List Symbol) (K : Rest) (ts : List Token) (x : Token) (below : Next) (r : Reaction) → Backs b y ys K ts x r
    → (below ≡ to zs → Spells b ys K (x ∷ ts)) → next b ys below r ≡ to zs → Spells b zs K ts → Part b y ys (Spells b ys K) (x ∷ ts)
next_back b y ys zs K ts x below (a.take xs) go f e k = go (subst (λ s. Spells b s K ts) (sym (ap stack_in e)) k)
next_back b y ys zs K ts x below (a.open_block xs) go f e k =
    let o = opened (nat_le (blocks_in (xs ++ ys)) (b.blocks - 1)) C_BLOCK_DEPTH (xs ++ ys) zs e in
    go (tested (blocks_in (xs ++ ys)) (b.blocks - 1) o.0) (subst (λ s. Spells b s K ts) (sym o.1) k)
next_back b y ys zs K ts x below (a.open_paren xs) go f e k =
    let o = opened (nat_le (parens_in (xs ++ ys)) (b.expressions - 1)) C_EXPRESSION_DEPTH (xs ++ ys) zs e in
    go (tested (parens_in (xs ++ ys)) (b.expressions - 1) o.0) (subst (λ s. Spells b s K ts) (sym o.1) k)
next_back b y ys zs K ts x below a.skip go f e k = go (f e)
next_back b y ys zs K ts x below a.refuse go f e k = absurd cc

step_back : (b : Bounds) (ys zs : List Symbol) (K : Rest) (ts : List Token) (x : Token) → 1 ≤ b.expressions → step b ys x ≡ to zs → Spells b zs K ts → Spells b ys K (x ∷ ts)
step_back b [] zs K ts x some e k = absurd cc
step_back b (y ∷ ys) zs K ts x some e k =
    next_back b y ys zs K ts x (step b ys x) (react y x) (back b y ys K ts x some) (λ f. step_back b ys zs K ts x some f k) e k

-- where two steps come to a stack, the first does
pub record Between (f : List Symbol → Next) (n : Next) (zs : List Symbol) : Type 0 where
  pub middle : List Symbol
  pub first : n ≡ to middle
  pub second : f middle ≡ to zs

pub between : (f : List Symbol → Next) (n : Next) (zs : List Symbol) → bind f n ≡ to zs → Between f n zs
between f (to ys) zs e = record { middle = ys; first = refl; second = e }
between f unexpected zs e = absurd cc
between f (over n) zs e = absurd cc

pub after_back : (b : Bounds) (xs ts : List Token) (ys zs : List Symbol) (K : Rest) → 1 ≤ b.expressions → after b xs ys ≡ to zs → Spells b zs K ts → Spells b ys K (xs ++ ts)
after_back b [] ts ys zs K some e k = subst (λ s. Spells b s K ts) (sym (ap stack_in e)) k
after_back b (x ∷ xs) ts ys zs K some e k =
    let m = between (after b xs) (step b ys x) zs e in
    step_back b ys m.middle K (xs ++ ts) x some m.first (after_back b xs ts m.middle zs K some m.second k)

-- ---- texts

-- these tokens are a text within these bounds
pub record IsText (b : Bounds) (ts : List Token) : Type 0 where
  pub unit : TranslationUnit
  pub within : IsUnit b unit
  pub spelled : spelling unit ≡ ts

-- what the first stack spells
pub text_of : (b : Bounds) (ts : List Token) → Spells b start IsEnd ts → IsText b ts
text_of b ts first =
    let second = first.2 in
    let third = second.2 in
    let main = third.2 in
    let fifth = main.3 in
    let q = fifth.2 (omega arith) in
    record {
      unit = record { main = main.0; heads = q.0; bodies = q.1 };
      within = q.3;
      spelled = sym (first.1 ∙ ap (λ z. t.include ∷ z) (second.1 ∙ ap (λ z. t.line_end ∷ z) (third.1 ∙ ap (λ z. t.define ∷ z)
          (main.2 ∙ ap (λ z. t.number (pos main.0) ∷ z) (fifth.1 ∙ ap (λ z. t.line_end ∷ z) (q.4 ∙ ap (λ z. heads_then q.0 (bodies_then q.1 z)) q.5))))));
    }

-- a text within these bounds begins with the tokens
pub record GoesOn (b : Bounds) (ts : List Token) : Type 0 where
  pub unit : TranslationUnit
  pub within : IsUnit b unit
  pub more : List Token
  pub spelled : spelling unit ≡ ts ++ more

pub goes_on : (b : Bounds) (ts : List Token) (zs : List Symbol) → 1 ≤ b.expressions → after b ts start ≡ to zs → GoesOn b ts
goes_on b ts zs some e =
    let all = has_all b zs some in
    let whole = text_of b (ts ++ all.0) (after_back b ts all.0 start zs IsEnd some e all.1) in
    record { unit = whole.unit; within = whole.within; more = all.0; spelled = whole.spelled }
