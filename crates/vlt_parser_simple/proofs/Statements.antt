-- What the automaton does with statements.
use Rattle.std.proofs.Common.{◌≡◌, ℕ, false, List, [], ◌∷◌, ◌++◌, None, refl}
use Rattle.vlt_tokens.specs.declared.token.Word.{Word}
use Rattle.vlt_tokens.specs.declared.token.Mark.TheVariants as mark
use Rattle.vlt_syntax.specs.Tokens as t
use Rattle.vlt_syntax.specs.Tokens.{Token}
use Rattle.vlt_automaton.specs.Language as m
use Rattle.vlt_automaton.specs.Language.{Symbol, Located, run, go_on_with}
use Rattle.vlt_automaton.proofs.Sameness.{same_word-refl}
use Rattle.vlt_parser_exprs.specs.Ahead.{Begins, LacksSign}

pub stmt_assigns : (text : List ℕ) (s : List Symbol) (ts rest following : List Located) → Begins (t.name text) ts rest → Begins (t.sign mark.Assign) rest following
    → run (m.name ∷ m.after_stmt_name ∷ s) ts ≡ run (m.name ∷ m.sign mark.Assign ∷ m.right ∷ m.sign mark.Semicolon ∷ s) ts
stmt_assigns text s ts rest following b next = rw b.is (rw next.is refl)

pub stmt_puts : (text : List ℕ) (s : List Symbol) (ts rest following : List Located) → Begins (t.name text) ts rest → Begins (t.sign mark.Dot) rest following
    → run (m.name ∷ m.after_stmt_name ∷ s) ts ≡ run (m.name ∷ m.sign mark.Dot ∷ m.name ∷ m.sign mark.Assign ∷ m.thing m.an_expr ∷ m.sign mark.Semicolon ∷ s) ts
stmt_puts text s ts rest following b next = rw b.is (rw next.is refl)

pub stmt_calls : (text : List ℕ) (s : List Symbol) (ts rest following : List Located) → Begins (t.name text) ts rest → Begins (t.sign mark.OpenParen) rest following
    → run (m.name ∷ m.after_stmt_name ∷ s) ts ≡ run (m.name ∷ m.sign mark.OpenParen ∷ m.listed m.an_expr mark.CloseParen None ∷ m.sign mark.Semicolon ∷ s) ts
stmt_calls text s ts rest following b next = rw b.is (rw next.is refl)

-- what comes after the name is none of the signs of other statements
pub stmt_declares : (text : List ℕ) (s : List Symbol) (ts rest : List Located) → Begins (t.name text) ts rest → LacksSign mark.Assign rest → LacksSign mark.Dot rest → LacksSign mark.OpenParen rest
    → run (m.name ∷ m.after_stmt_name ∷ s) ts ≡ run (m.thing m.a_ty ∷ m.name ∷ m.sign mark.Assign ∷ m.right ∷ m.sign mark.Semicolon ∷ s) ts
stmt_declares text s ts [] b assign dot paren = rw b.is refl
stmt_declares text s ts (x ∷ xs) b assign dot paren = rw b.is (by_token x.token assign dot paren)
  where
    by_token : (y : Token) → m.is_sign mark.Assign y ≡ false → m.is_sign mark.Dot y ≡ false → m.is_sign mark.OpenParen y ≡ false
        → go_on_with (m.run_over xs) x.at (m.step (m.after_stmt_name ∷ s) y) ≡ go_on_with (m.run_over xs) x.at (m.step (m.after_type_name ∷ m.name ∷ m.sign mark.Assign ∷ m.right ∷ m.sign mark.Semicolon ∷ s) y)
    by_token (t.sign mark.Assign) assign dot paren = absurd cc
    by_token (t.sign mark.Dot) assign dot paren = absurd cc
    by_token (t.sign mark.OpenParen) assign dot paren = absurd cc
    by_token _ assign dot paren = refl

pub simple_named : (text : List ℕ) (s : List Symbol) (ts rest : List Located) → Begins (t.name text) ts rest → run (m.thing m.a_simple ∷ s) ts ≡ run (m.name ∷ m.after_stmt_name ∷ s) ts
simple_named text s ts rest b = rw b.is refl

-- a statement that begins with a word
pub simple_word : (w : Word) (xs s : List Symbol) (ts rest : List Located) → m.start_simple (t.keyword w) ≡ m.take xs → Begins (t.keyword w) ts rest
    → run (m.thing m.a_simple ∷ s) ts ≡ run (m.keyword w ∷ xs ++ s) ts
simple_word w xs s ts rest is b = rw b.is (rw is (rw (same_word-refl w) refl))
