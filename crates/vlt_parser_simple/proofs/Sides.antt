-- What the automaton does with right sides.
use Rattle.std.proofs.Common.{◌≡◌, if◌then◌else◌, ℕ, Bool, true, false, List, [], ◌∷◌, ◌++◌, None, refl, ap, append_assoc}
use Rattle.vlt_tokens.specs.declared.token.Word.{Word}
use Rattle.vlt_tokens.specs.declared.token.Mark.TheVariants as mark
use Rattle.vlt_syntax.specs.Tokens as t
use Rattle.vlt_automaton.specs.Language as m
use Rattle.vlt_automaton.specs.Language.{Symbol, Reaction, Located, run, with_after, next_after, go_on_with}
use Rattle.vlt_parser_exprs.proofs.Runs.{sign_taken, sign_skipped}
use Rattle.vlt_parser_exprs.specs.Ahead.{Begins, LacksSign}

pub owner_some : (s : List Symbol) (ts rest : List Located) → Begins (t.sign mark.OpenParen) ts rest → run (m.owner ∷ s) ts ≡ run (m.name ∷ m.sign mark.CloseParen ∷ s) rest
owner_some s ts rest = sign_taken m.owner mark.OpenParen (m.name ∷ m.sign mark.CloseParen ∷ []) (λ x. m.skip) (λ x. refl) s ts rest

pub owner_none : (s : List Symbol) (ts : List Located) → LacksSign mark.OpenParen ts → run (m.owner ∷ s) ts ≡ run s ts
owner_none s ts = sign_skipped m.owner mark.OpenParen (m.take (m.name ∷ m.sign mark.CloseParen ∷ [])) (λ x. refl) refl refl s ts

pub right_build : (text : List ℕ) (s : List Symbol) (ts rest : List Located) → Begins (t.tick text) ts rest
    → run (m.right ∷ s) ts ≡ run (m.tick ∷ m.enclosed m.an_expr mark.OpenParen mark.CloseParen None ∷ s) ts
right_build text s ts rest b = rw b.is refl

pub right_word : (w : Word) (xs s : List Symbol) (ts rest : List Located) → m.start_right (t.keyword w) ≡ m.take xs → Begins (t.keyword w) ts rest → run (m.right ∷ s) ts ≡ run (xs ++ s) rest
right_word w xs s ts rest is b = rw b.is (rw is refl)

pub right_call : (text : List ℕ) (s : List Symbol) (ts rest following : List Located) → Begins (t.name text) ts rest → Begins (t.sign mark.OpenParen) rest following
    → run (m.right ∷ s) ts ≡ run (m.name ∷ m.sign mark.OpenParen ∷ m.listed m.an_expr mark.CloseParen None ∷ s) ts
right_call text s ts rest following b paren = rw b.is (rw paren.is refl)

-- a variable that isn't called
pub right_variable : (text : List ℕ) (s : List Symbol) (ts rest : List Located) → Begins (t.name text) ts rest → LacksSign mark.OpenParen rest
    → run (m.right ∷ s) ts ≡ run (m.thing m.an_expr ∷ s) ts
right_variable text s ts [] b lacks = rw b.is refl
right_variable text s ts (x ∷ xs) b lacks = rw b.is (rw lacks (by_dot (m.is_sign mark.Dot x.token)))
  where
    by_reaction : (r : Reaction) → next_after (with_after r (m.end_expr ∷ [])) s (λ u. m.step_after 0 s x.token) ≡ next_after r (m.end_expr ∷ s) (λ u. m.step_after 1 (m.end_expr ∷ s) x.token)
    by_reaction (m.take ys) = ap m.to (append_assoc ys (m.end_expr ∷ []) s)
    by_reaction m.skip = refl
    by_reaction m.refuse = refl
    by_reaction (m.exceed n) = refl

    by_dot : (b : Bool) → go_on_with (m.run_over xs) x.at (next_after (if b then m.take (m.name ∷ m.operations 1 m.whole_expr ∷ m.end_expr ∷ []) else with_after (m.react_operations 1 m.whole_expr x.token) (m.end_expr ∷ [])) s (λ u. m.step_after 0 s x.token))
        ≡ go_on_with (m.run_over xs) x.at (next_after (if b then m.take (m.name ∷ m.operations 1 m.whole_expr ∷ []) else m.react_operations 1 m.whole_expr x.token) (m.end_expr ∷ s) (λ u. m.step_after 1 (m.end_expr ∷ s) x.token))
    by_dot true = refl
    by_dot false = ap (go_on_with (m.run_over xs) x.at) (by_reaction (m.react_operations 1 m.whole_expr x.token))

pub returned_nothing : (s : List Symbol) (ts rest : List Located) → Begins (t.sign mark.Semicolon) ts rest → run (m.returned ∷ s) ts ≡ run s ts
returned_nothing s ts rest b = rw b.is refl

pub returned_build : (text : List ℕ) (s : List Symbol) (ts rest : List Located) → Begins (t.tick text) ts rest
    → run (m.returned ∷ s) ts ≡ run (m.tick ∷ m.enclosed m.an_expr mark.OpenParen mark.CloseParen None ∷ s) ts
returned_build text s ts rest b = rw b.is refl
