-- What the automaton does with statements that have blocks.
use Rattle.std.proofs.Common.{◌≡◌, ◌≤◌, ◌-◌, if◌then◌else◌, ℕ, zero, suc, Bool, true, false, List, [], ◌∷◌, ◌++◌, None, refl, ap, arith}
use Rattle.vlt_tokens.specs.declared.token.Mark.{Mark}
use Rattle.vlt_tokens.specs.declared.token.Word.{Word}
use Rattle.vlt_tokens.specs.declared.token.Word.TheVariants as word
use Rattle.vlt_tokens.specs.declared.token.Mark.TheVariants as mark
use Rattle.vlt_syntax.specs.Tokens as t
use Rattle.vlt_syntax.specs.Tokens.{Token}
use Rattle.vlt_automaton.specs.Language as m
use Rattle.vlt_automaton.specs.Language.{Symbol, Located, run, with_after, go_on_with, on_sign}
use Rattle.vlt_parser_exprs.specs.declared.error.ParseError.{ParseError}
use Rattle.vlt_parser_exprs.specs.declared.error.ParseError.TheVariants.{Limit}
use Rattle.vlt_parser_exprs.proofs.Runs.{is_skip, fails_with, begins, sign_taken, settled_followed, stmt_takes}
use Rattle.vlt_parser_exprs.specs.Ahead.{Begins, LacksSign, Fails, LacksKeyword}

-- a keyword takes its token
keyword_takes : (w : Word) (x : Token) → is_skip (m.on_keyword w x (m.take []) m.refuse) ≡ false
keyword_takes w x = by_word (m.is_keyword w x)
  where
    by_word : (b : Bool) → is_skip (if b then m.take [] else m.refuse) ≡ false
    by_word true = refl
    by_word false = refl

sign_takes : (sg : Mark) (x : Token) → is_skip (on_sign sg x (m.take []) m.refuse) ≡ false
sign_takes sg x = by_sign (m.is_sign sg x)
  where
    by_sign : (b : Bool) → is_skip (if b then m.take [] else m.refuse) ≡ false
    by_sign true = refl
    by_sign false = refl

begins_if : (b : Bool) (xs : List Symbol) → (if b then m.take xs else m.refuse) ≡ with_after (if b then m.take [] else m.refuse) xs
begins_if true xs = refl
begins_if false xs = refl

pub block_is : (room : ℕ) (s : List Symbol) (ts : List Located) → run (m.block room ∷ s) ts ≡ run (m.sign mark.OpenBrace ∷ m.stmts (room - 1) ∷ s) ts
block_is room s ts = begins (m.block room) (m.sign mark.OpenBrace) (m.stmts (room - 1) ∷ []) refl refl (λ x. begins_if (m.is_sign mark.OpenBrace x) (m.stmts (room - 1) ∷ [])) (sign_takes mark.OpenBrace) s ts

pub stmts_closed : (room : ℕ) (s : List Symbol) (ts rest : List Located) → Begins (t.sign mark.CloseBrace) ts rest → run (m.stmts room ∷ s) ts ≡ run s rest
stmts_closed room s ts rest = sign_taken (m.stmts room) mark.CloseBrace [] (λ x. with_after (m.start_stmt room x) (m.stmts room ∷ [])) (λ x. refl) s ts rest

pub stmts_one : (room : ℕ) (s : List Symbol) (ts : List Located) → LacksSign mark.CloseBrace ts → run (m.stmts room ∷ s) ts ≡ run (m.thing (m.a_stmt room) ∷ m.stmts room ∷ s) ts
stmts_one room s [] lacks = refl
stmts_one room s (x ∷ xs) lacks =
    rw lacks (ap (go_on_with (m.run_over xs) x.at) (settled_followed (m.start_stmt room x.token) (m.stmts room ∷ []) s _ _ (stmt_takes room x.token)))

-- a statement with blocks, where a block may stand
pub stmt_enters : (x : Token) (room : ℕ) (xs s : List Symbol) (ts rest : List Located) → m.start_stmt room x ≡ m.enter room xs → 1 ≤ room → Begins x ts rest
    → run (m.thing (m.a_stmt room) ∷ s) ts ≡ run (xs ++ s) rest
stmt_enters x zero xs s ts rest is some b = absurd (omega (arith, some))
stmt_enters x (suc room) xs s ts rest is some b = rw b.is (rw is refl)

pub stmt_block : (room : ℕ) (s : List Symbol) (ts rest : List Located) → 1 ≤ room → Begins (t.sign mark.OpenBrace) ts rest → run (m.thing (m.a_stmt room) ∷ s) ts ≡ run (m.block room ∷ s) ts
stmt_block zero s ts rest some b = absurd (omega (arith, some))
stmt_block (suc room) s ts rest some b = rw b.is refl

-- and where none may
pub stmt_too_deep : (x : Token) (room : ℕ) (xs : List Symbol) (e : ParseError) (s : List Symbol) (ts rest : List Located) → m.start_stmt room x ≡ m.enter room xs → (room ≡ 0) × (e ≡ Limit 12) → Begins x ts rest
    → Fails (run (m.thing (m.a_stmt room) ∷ s) ts) e
stmt_too_deep x room xs e s ts rest is full b = rw full.1 (fails_with (run (m.thing (m.a_stmt room) ∷ s) ts) (Limit 12) (m.over_limit 12) refl (rw b.is (rw is (rw full.0 refl))))

-- a statement that begins with no word or sign of those with blocks
pub stmt_simple : (x : Token) (room : ℕ) (s : List Symbol) (ts rest : List Located) → m.start_stmt room x ≡ m.start_simple x → Begins x ts rest → run (m.thing (m.a_stmt room) ∷ s) ts ≡ run (m.thing m.a_simple ∷ s) ts
stmt_simple x room s ts rest is b = rw b.is (rw is refl)

pub otherwise_some : (room : ℕ) (s : List Symbol) (ts rest : List Located) → Begins (t.keyword word.Else) ts rest → run (m.otherwise room ∷ s) ts ≡ run (m.following_else room ∷ s) rest
otherwise_some room s ts rest b = rw b.is refl

pub otherwise_none : (room : ℕ) (s : List Symbol) (ts : List Located) → LacksKeyword word.Else ts → run (m.otherwise room ∷ s) ts ≡ run s ts
otherwise_none room s [] lacks = refl
otherwise_none room s (x ∷ xs) lacks = rw lacks refl

pub else_if : (room : ℕ) (s : List Symbol) (ts rest : List Located) → Begins (t.keyword word.If) ts rest → run (m.following_else room ∷ s) ts ≡ run (m.thing (m.a_stmt (room - 1)) ∷ s) ts
else_if room s ts rest b = rw b.is refl

pub else_block : (x : Token) (room : ℕ) (s : List Symbol) (ts rest : List Located) → m.is_keyword word.If x ≡ false → Begins x ts rest → run (m.following_else room ∷ s) ts ≡ run (m.block room ∷ s) ts
else_block x room s ts rest lacks b = rw b.is (rw lacks refl)

pub arm_is : (room : ℕ) (s : List Symbol) (ts : List Located) → run (m.arm room ∷ s) ts ≡ run (m.keyword word.Case ∷ m.tick ∷ m.enclosed m.a_name mark.OpenParen mark.CloseParen None ∷ m.sign mark.Colon ∷ m.block room ∷ s) ts
arm_is room s ts = begins (m.arm room) (m.keyword word.Case) (m.tick ∷ m.enclosed m.a_name mark.OpenParen mark.CloseParen None ∷ m.sign mark.Colon ∷ m.block room ∷ []) refl refl
    (λ x. begins_if (m.is_keyword word.Case x) (m.tick ∷ m.enclosed m.a_name mark.OpenParen mark.CloseParen None ∷ m.sign mark.Colon ∷ m.block room ∷ [])) (keyword_takes word.Case) s ts

pub arms_closed : (room : ℕ) (s : List Symbol) (ts rest : List Located) → Begins (t.sign mark.CloseBrace) ts rest → run (m.arms room ∷ s) ts ≡ run s rest
arms_closed room s ts rest = sign_taken (m.arms room) mark.CloseBrace [] (λ x. with_after (m.start_arm room x) (m.arms room ∷ [])) (λ x. refl) s ts rest

pub arms_one : (room : ℕ) (s : List Symbol) (ts : List Located) → LacksSign mark.CloseBrace ts → run (m.arms room ∷ s) ts ≡ run (m.arm room ∷ m.arms room ∷ s) ts
arms_one room s [] lacks = refl
arms_one room s (x ∷ xs) lacks = rw lacks (ap (go_on_with (m.run_over xs) x.at) (settled_followed (m.start_arm room x.token) (m.arms room ∷ []) s _ _ (arm_takes x.token)))
  where
    by_word : (b : Bool) (ys : List Symbol) → is_skip (if b then m.take ys else m.refuse) ≡ false
    by_word true ys = refl
    by_word false ys = refl

    arm_takes : (x : Token) → is_skip (m.start_arm room x) ≡ false
    arm_takes x = by_word (m.is_keyword word.Case x) _

pub focus_is : (room : ℕ) (s : List Symbol) (ts rest : List Located) → 1 ≤ room → Begins (t.keyword word.Focus) ts rest → run (m.thing (m.a_stmt room) ∷ s) ts
    ≡ run (m.keyword word.Focus ∷ m.name ∷ m.keyword word.As ∷ m.keyword word.Tracked ∷ m.sign mark.OpenParen ∷ m.name ∷ m.sign mark.CloseParen ∷ m.name ∷ m.block room ∷ s) ts
focus_is zero s ts rest some b = absurd (omega (arith, some))
focus_is (suc room) s ts rest some b = rw b.is refl

pub switch_is : (room : ℕ) (s : List Symbol) (ts rest : List Located) → 1 ≤ room → Begins (t.keyword word.Switch) ts rest → run (m.thing (m.a_stmt room) ∷ s) ts
    ≡ run (m.keyword word.Switch ∷ m.sign mark.OpenParen ∷ m.name ∷ m.sign mark.CloseParen ∷ m.sign mark.OpenBrace ∷ m.arm room ∷ m.arms room ∷ s) ts
switch_is zero s ts rest some b = absurd (omega (arith, some))
switch_is (suc room) s ts rest some b = rw b.is refl
