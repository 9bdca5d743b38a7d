-- What the automaton does with expressions.
use Rattle.std.proofs.Common.{◌≡◌, ◌≢◌, ◌≤◌, ◌-◌, ◌+◌, nat_lt, max, ◌<◌, ℕ, suc, false, List, [], ◌∷◌, Option, Some, None, Err, refl, ap, arith}
use Rattle.std.proofs.lemmas.Bool.{lt-ltb, ltb-true, false_from_ne_true}
use Rattle.vlt_ops.specs.declared.Op.{Op}
use Rattle.vlt_tokens.specs.declared.token.Mark.{Mark}
use Rattle.vlt_syntax.specs.Spelling.{operator_of, prefix_of}
use Rattle.vlt_tokens.specs.declared.token.Mark.TheVariants as mark
use Rattle.vlt_syntax.specs.Tokens as t
use Rattle.vlt_syntax.specs.Tokens.{Token}
use Rattle.vlt_automaton.specs.Language as m
use Rattle.vlt_syntax.specs.Grammar.{language, level}
use Rattle.vlt_automaton.specs.Language.{Symbol, Pending, Located, run, next_after, go_on_with}
use Rattle.vlt_parser_exprs.specs.declared.error.ParseError.{ParseError}
use Rattle.vlt_parser_exprs.specs.declared.error.ParseError.TheVariants.{Limit}
use Rattle.vlt_parser_exprs.proofs.Runs.{fails_with, begins, name_takes, operand_takes}
use Rattle.vlt_parser_exprs.specs.Ahead.{Begins, LacksSign, refusal, Fails, BeginsOperator, next_level, level_of, sign_level, sign_in}

pub operand_named : (text : List ℕ) (room : ℕ) (fs : List Pending) (s : List Symbol) (ts rest : List Located) → Begins (t.name text) ts rest
    → run (m.operand room fs ∷ s) ts ≡ run (m.name ∷ m.after_variable 1 fs ∷ s) ts
operand_named text room fs s ts rest b = rw b.is refl

pub operand_taken : (x : Token) (room : ℕ) (fs : List Pending) (s : List Symbol) (ts rest : List Located) → m.start_operand room fs x ≡ m.take (m.after_operand 1 fs ∷ []) → Begins x ts rest
    → run (m.operand room fs ∷ s) ts ≡ run (m.after_operand 1 fs ∷ s) rest
operand_taken x room fs s ts rest is b = rw b.is (rw is refl)

-- after a name
after_dot : (depth : ℕ) (fs : List Pending) (s : List Symbol) (ts rest : List Located) → Begins (t.sign mark.Dot) ts rest
    → run (m.after_variable depth fs ∷ s) ts ≡ run (m.name ∷ m.after_operand depth fs ∷ s) rest
after_dot depth [] s ts rest b = rw b.is refl
after_dot depth (m.prefixed ∷ fs) s ts rest b = after_dot (suc depth) fs s ts rest b
after_dot depth (m.level_from least room ∷ fs) s ts rest b = rw b.is refl
after_dot depth (m.right_of least room left ∷ fs) s ts rest b = rw b.is refl

after_alone : (depth : ℕ) (fs : List Pending) (s : List Symbol) (ts : List Located) → LacksSign mark.Dot ts
    → run (m.following_name depth fs ∷ s) ts ≡ run (m.operations depth fs ∷ s) ts
after_alone depth fs s [] lacks = refl
after_alone depth fs s (x ∷ xs) lacks = rw lacks refl

after_no_dot : (depth : ℕ) (fs : List Pending) (s : List Symbol) (ts : List Located) → LacksSign mark.Dot ts
    → run (m.after_variable depth fs ∷ s) ts ≡ run (m.after_operand depth fs ∷ s) ts
after_no_dot depth [] s ts lacks = after_alone depth [] s ts lacks
after_no_dot depth (m.prefixed ∷ fs) s ts lacks = after_no_dot (suc depth) fs s ts lacks
after_no_dot depth (m.level_from least room ∷ fs) s ts lacks = after_alone depth (m.level_from least room ∷ fs) s ts lacks
after_no_dot depth (m.right_of least room left ∷ fs) s ts lacks = after_alone depth (m.right_of least room left ∷ fs) s ts lacks

pub variable_dot : (fs : List Pending) (s : List Symbol) (ts rest : List Located) → Begins (t.sign mark.Dot) ts rest
    → run (m.after_variable 1 fs ∷ s) ts ≡ run (m.name ∷ m.after_operand 1 fs ∷ s) rest
variable_dot = after_dot 1

pub variable_alone : (fs : List Pending) (s : List Symbol) (ts : List Located) → LacksSign mark.Dot ts
    → run (m.after_variable 1 fs ∷ s) ts ≡ run (m.after_operand 1 fs ∷ s) ts
variable_alone = after_no_dot 1

-- something that may be deeper, and is allowed or not
if_allowed : (depth room inside : ℕ) (xs : List Symbol) → room ≡ suc inside → depth ≤ inside → m.if_deeper depth room xs ≡ m.take xs
if_allowed depth room inside xs is fits = rw (lt-ltb depth room (omega (arith, is, fits))) refl

if_full : (depth room : ℕ) (xs : List Symbol) → room ≤ depth → m.if_deeper depth room xs ≡ m.exceed m.depth_limit
if_full depth room xs full = rw (false_from_ne_true (nat_lt depth room) (λ e. omega (arith, full, ltb-true depth room e))) refl

pub group_opens : (room inside : ℕ) (fs : List Pending) (s : List Symbol) (ts rest : List Located) → room ≡ suc inside → 1 ≤ inside → Begins (t.sign mark.OpenParen) ts rest
    → run (m.operand room fs ∷ s) ts ≡ run (m.operand inside (m.level_from m.lowest inside ∷ []) ∷ m.close_group fs ∷ s) rest
group_opens room inside fs s ts rest is fits b =
    let one_less : room - 1 ≡ inside = omega (arith, is) in
    rw b.is (rw (if_allowed 1 room inside (m.operand (room - 1) (m.level_from m.lowest (room - 1) ∷ []) ∷ m.close_group fs ∷ []) is fits) (rw one_less refl))

pub group_full : (room : ℕ) (fs : List Pending) (e : ParseError) (s : List Symbol) (ts rest : List Located) → (room ≤ 1) × (e ≡ Limit 12) → Begins (t.sign mark.OpenParen) ts rest
    → Fails (run (m.operand room fs ∷ s) ts) e
group_full room fs e s ts rest full b =
    rw full.1 (fails_with _ (Limit 12) (m.over_limit 12) refl (rw b.is (rw (if_full 1 room (m.operand (room - 1) (m.level_from m.lowest (room - 1) ∷ []) ∷ m.close_group fs ∷ []) full.0) refl)))

pub prefix_opens : (sg : Mark) (op : Op) (room inside : ℕ) (fs : List Pending) (s : List Symbol) (ts rest : List Located) → prefix_of sg ≡ Some op → room ≡ suc inside → 1 ≤ inside → Begins (t.sign sg) ts rest
    → run (m.operand room fs ∷ s) ts ≡ run (m.operand inside (m.prefixed ∷ fs) ∷ s) rest
prefix_opens sg op room inside fs s ts rest is_op is fits b =
    let one_less : room - 1 ≡ inside = omega (arith, is) in
    rw b.is (rw (starts_prefix sg op room fs is_op) (rw (if_allowed 1 room inside (m.operand (room - 1) (m.prefixed ∷ fs) ∷ []) is fits) (rw one_less refl)))
  where
    starts_prefix : (sg : Mark) (op : Op) (room : ℕ) (fs : List Pending) → prefix_of sg ≡ Some op
        → m.start_operand room fs (t.sign sg) ≡ m.if_deeper 1 room (m.operand (room - 1) (m.prefixed ∷ fs) ∷ [])
    starts_prefix mark.Minus op room fs is = refl
    starts_prefix mark.Not op room fs is = refl
    starts_prefix _ op room fs is = absurd cc

pub prefix_full : (sg : Mark) (op : Op) (room : ℕ) (fs : List Pending) (e : ParseError) (s : List Symbol) (ts rest : List Located) → prefix_of sg ≡ Some op → (room ≤ 1) × (e ≡ Limit 12) → Begins (t.sign sg) ts rest
    → Fails (run (m.operand room fs ∷ s) ts) e
prefix_full sg op room fs e s ts rest is_op full b = rw full.1 (fails_with _ (Limit 12) (m.over_limit 12) refl (rw b.is (fails sg is_op)))
  where
    fails : (sg : Mark) → prefix_of sg ≡ Some op → run (m.operand room fs ∷ s) (record { token = t.sign sg; at = b.at } ∷ rest) ≡ Err (m.over_limit 12)
    fails mark.Minus is = rw (if_full 1 room (m.operand (room - 1) (m.prefixed ∷ fs) ∷ []) full.0) refl
    fails mark.Not is = rw (if_full 1 room (m.operand (room - 1) (m.prefixed ∷ fs) ∷ []) full.0) refl
    fails _ is = absurd cc

pub no_prefix : (sg : Mark) (room : ℕ) (fs : List Pending) (s : List Symbol) (ts rest : List Located) → prefix_of sg ≡ None → sg ≢ mark.OpenParen → Begins (t.sign sg) ts rest
    → Fails (run (m.operand room fs ∷ s) ts) (refusal ts)
no_prefix sg room fs s ts rest none no_group b = rw b.is (fails_with _ (refusal (record { token = t.sign sg; at = b.at } ∷ rest)) (m.unexpected_at b.at) refl (fails sg none no_group))
  where
    fails : (sg : Mark) → prefix_of sg ≡ None → sg ≢ mark.OpenParen → run (m.operand room fs ∷ s) (record { token = t.sign sg; at = b.at } ∷ rest) ≡ Err (m.unexpected_at b.at)
    fails mark.Minus none no_group = absurd cc
    fails mark.Not none no_group = absurd cc
    fails mark.OpenParen none no_group = absurd (no_group refl)
    fails _ none no_group = refl

-- an operator that binds at least so tightly
pub operator_goes_on : (op : Op) (depth least room inside : ℕ) (fs : List Pending) (s : List Symbol) (ts rest : List Located)
    → least ≤ level op → room ≡ suc inside → depth ≤ inside → BeginsOperator op ts rest
    → run (m.operations depth (m.level_from least room ∷ fs) ∷ s) ts ≡ run (m.operand inside (m.level_from (level op + 1) inside ∷ m.right_of least room depth ∷ fs) ∷ s) rest
operator_goes_on op depth least room inside fs s ts rest binds is fits b =
    let one_less : room - 1 ≡ inside = omega (arith, is) in
    let tight : nat_lt (level op) least ≡ false = false_from_ne_true (nat_lt (level op) least) (λ e. omega (arith, binds, ltb-true (level op) least e)) in
    let above : suc (level op) ≡ level op + 1 = omega arith in
    rw b.begins.is (rw b.of (rw tight (rw (if_allowed depth room inside (m.operand (room - 1) (m.level_from (suc (level op)) (room - 1) ∷ m.right_of least room depth ∷ fs) ∷ []) is fits) (rw one_less (ap (λ l. run (m.operand inside (m.level_from l inside ∷ m.right_of least room depth ∷ fs) ∷ s) rest) above)))))

pub operator_full : (op : Op) (depth least room : ℕ) (fs : List Pending) (e : ParseError) (s : List Symbol) (ts rest : List Located)
    → least ≤ level op → (room ≤ depth) × (e ≡ Limit 12) → BeginsOperator op ts rest
    → Fails (run (m.operations depth (m.level_from least room ∷ fs) ∷ s) ts) e
operator_full op depth least room fs e s ts rest binds full b =
    let tight : nat_lt (level op) least ≡ false = false_from_ne_true (nat_lt (level op) least) (λ e. omega (arith, binds, ltb-true (level op) least e)) in
    rw full.1 (fails_with _ (Limit 12) (m.over_limit 12) refl
    (rw b.begins.is (rw b.of (rw tight (rw (if_full depth room (m.operand (room - 1) (m.level_from (suc (level op)) (room - 1) ∷ m.right_of least room depth ∷ fs) ∷ []) full.0) refl)))))

-- the right operand has ended, and with its operator it is the left one now
pub right_ended : (l inside depth right least room : ℕ) (fs : List Pending) (s : List Symbol) (ts : List Located) → next_level ts < l
    → run (m.operations right (m.level_from l inside ∷ m.right_of least room depth ∷ fs) ∷ s) ts ≡ run (m.operations (suc (max depth right)) (m.level_from least room ∷ fs) ∷ s) ts
right_ended l inside depth right least room fs s [] ends = refl
right_ended l inside depth right least room fs s (x ∷ xs) ends = by_token x.token ends
  where
    by_operator : (o : Option Op) → level_of o < l → (below : Unit {0} → m.Next) → next_after (m.climb_by o right (m.level_from l inside ∷ m.right_of least room depth ∷ fs)) s below ≡ next_after (m.climb_by o (suc (max depth right)) (m.level_from least room ∷ fs)) s below
    by_operator None ends below = refl
    by_operator (Some o) ends below = rw (lt-ltb (level o) l ends) refl

    by_token : (t : Token) → sign_level (sign_in t) < l
        → go_on_with (m.run_over xs) x.at (m.step (m.operations right (m.level_from l inside ∷ m.right_of least room depth ∷ fs) ∷ s) t) ≡ go_on_with (m.run_over xs) x.at (m.step (m.operations (suc (max depth right)) (m.level_from least room ∷ fs) ∷ s) t)
    by_token (t.sign sg) ends = ap (go_on_with (m.run_over xs) x.at) (by_operator (operator_of sg) ends _)
    by_token _ ends = refl

-- no operator between operands has a level below 2
low_is_none : (sg : Mark) → sign_level (Some sg) < 2 → operator_of sg ≡ None
low_is_none mark.Star low = absurd (omega (arith, low))
low_is_none mark.Slash low = absurd (omega (arith, low))
low_is_none mark.Percent low = absurd (omega (arith, low))
low_is_none mark.Plus low = absurd (omega (arith, low))
low_is_none mark.Minus low = absurd (omega (arith, low))
low_is_none mark.Less low = absurd (omega (arith, low))
low_is_none mark.LessEqual low = absurd (omega (arith, low))
low_is_none mark.Greater low = absurd (omega (arith, low))
low_is_none mark.GreaterEqual low = absurd (omega (arith, low))
low_is_none mark.Equal low = absurd (omega (arith, low))
low_is_none mark.NotEqual low = absurd (omega (arith, low))
low_is_none mark.And low = absurd (omega (arith, low))
low_is_none mark.Xor low = absurd (omega (arith, low))
low_is_none mark.Or low = absurd (omega (arith, low))
low_is_none mark.AndAnd low = absurd (omega (arith, low))
low_is_none mark.OrOr low = absurd (omega (arith, low))
low_is_none _ low = refl

no_operator : (depth : ℕ) (fs : List Pending) (x : Token) → sign_level (sign_in x) < 2 → m.react_operations depth fs x ≡ m.skip
no_operator depth fs (t.sign sg) low = rw (low_is_none sg low) refl
no_operator depth fs _ low = refl

pub group_closes : (depth inside : ℕ) (fs : List Pending) (s : List Symbol) (ts rest : List Located) → Begins (t.sign mark.CloseParen) ts rest
    → run (m.operations depth (m.level_from m.lowest inside ∷ []) ∷ m.close_group fs ∷ s) ts ≡ run (m.after_operand (suc depth) fs ∷ s) rest
group_closes depth inside fs s ts rest b = rw b.is refl

pub group_stays_open : (depth inside : ℕ) (fs : List Pending) (s : List Symbol) (ts : List Located) → next_level ts < 2 → LacksSign mark.CloseParen ts
    → Fails (run (m.operations depth (m.level_from m.lowest inside ∷ []) ∷ m.close_group fs ∷ s) ts) (refusal ts)
group_stays_open depth inside fs s [] ends lacks = fails_with _ (refusal []) m.ended refl refl
group_stays_open depth inside fs s (x ∷ xs) ends lacks = fails_with _ (refusal (x ∷ xs)) (m.unexpected_at x.at) refl (rw (no_operator depth (m.level_from m.lowest inside ∷ []) x.token ends) (rw lacks refl))

-- an expression of its own
pub expr_is : (s : List Symbol) (ts : List Located) → run (m.thing m.an_expr ∷ s) ts ≡ run (m.operand language.depth m.whole_expr ∷ m.end_expr ∷ s) ts
expr_is s ts = begins (m.thing m.an_expr) (m.operand language.depth m.whole_expr) (m.end_expr ∷ []) refl refl (λ x. refl) (operand_takes language.depth m.whole_expr) s ts

pub expr_ended : (depth : ℕ) (s : List Symbol) (ts : List Located) → next_level ts < 2 → run (m.operations depth m.whole_expr ∷ m.end_expr ∷ s) ts ≡ run s ts
expr_ended depth s [] ends = refl
expr_ended depth s (x ∷ xs) ends = rw (no_operator depth m.whole_expr x.token ends) refl

-- a field with its value
pub init_is : (s : List Symbol) (ts : List Located) → run (m.thing m.an_init ∷ s) ts ≡ run (m.name ∷ m.sign mark.Colon ∷ m.thing m.an_expr ∷ s) ts
init_is s ts = begins (m.thing m.an_init) m.name (m.sign mark.Colon ∷ m.thing m.an_expr ∷ []) refl refl (λ x. refl) name_takes s ts
