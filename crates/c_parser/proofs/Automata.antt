-- Refusals of the automaton that an error tells, and what comes after functions.
use Rattle.std.proofs.Common.{◌≡◌, ◌<◌, ℕ, zero, suc, Bool, true, false, Some, List, [], ◌∷◌, ◌++◌, ◌&&◌, length, refl, sym, ap, ◌∙◌, arith}
use Rattle.std.specs.Prelude.{Result, Ok, Err}
use Rattle.c_syntax.specs.declared.program.CVar.{CVar}
use Rattle.c_syntax.specs.declared.program.CPrim.{CPrim}
use Rattle.c_syntax.specs.declared.token.CSign.TheVariants.{Arrow, Assign, OpenBrace, OpenParen, Semicolon}
use Rattle.c_syntax.specs.declared.token.CWord.TheVariants.{Void}
use Rattle.c_syntax.specs.Tokens as t
use Rattle.c_syntax.specs.Text as text
use Rattle.c_syntax.specs.Text.{IsTokensOf, before_mark}
use Rattle.c_syntax.specs.Grammar.{language}
use Rattle.c_automaton.specs.Refusals.{Refusal, unexpected_at, cut_short, over_limit}
use Rattle.c_automaton.specs.Laws.{RefusesAsTheGrammar}
use Rattle.c_automaton.specs.Automaton.{Symbol, Verdict, run, start, bodies, body, sign, type, head_rest, operand, value, args, cell_rest, stmts, is_string_taker}
use Rattle.c_automaton.specs.Ahead.{Begins, begins_sign, begins_word, functions_symbol, after_head_of, after_variable_of}
use Rattle.c_automaton.proofs.Taking.{head_begins, body_begins, semicolon_functions, reference_assigned, variable_begins}
use Rattle.c_lexer.specs.declared.token.Lexeme.{Lexeme}
use Rattle.c_parser.specs.declared.unit.Body.{Body}
use Rattle.c_parser.specs.declared.error.ParseError.{ParseError}
use Rattle.c_parser.specs.declared.error.ParseError.TheVariants.{Unexpected, EndOfText, Limit, Memory}
use Rattle.c_lexer.specs.View.{lexemes_of}
use Rattle.c_parser.specs.Following.{ahead, told_of, Fails, Takes, Turns, TurnsWhere, before_bodies}
use Rattle.c_parser.specs.Refusals.{IsRefusedAs}

abbrev refused : Refusal → Verdict
refused f = Err f

some_is : (f g : Refusal) → Some f ≡ Some g → f ≡ g
some_is f g e = cc

pub fails_with : (v : Verdict) (e : ParseError) (f : Refusal) → told_of e ≡ Some f → v ≡ refused f → Fails v e
fails_with v e f told is g tells = is ∙ ap refused (some_is f g (sym told ∙ tells))

-- ---- a part's result is the whole's

pub takes_after : {A : Type 0} (before part : List Symbol) (ls : List Lexeme) (at here : ℕ) (r : Result (A × ℕ) ParseError)
    → ((s : List Symbol) → run language (before ++ s) (ahead ls at) ≡ run language (part ++ s) (ahead ls here)) → Takes part ls here r → Takes before ls at r
takes_after before part ls at here (Ok x) same takes = λ s. same s ∙ takes s
takes_after before part ls at here (Err e) same takes = λ s f told. same s ∙ takes s f told

pub turns_where : {A : Type 0} (fits : List Symbol → Type 0) (before after : List Symbol) (next : A → ℕ) (ls : List Lexeme) (at : ℕ) (r : Result A ParseError)
    → Turns before after next ls at r → TurnsWhere fits before after next ls at r
turns_where fits before after next ls at (Ok x) turns = λ s fit. turns s
turns_where fits before after next ls at (Err e) turns = λ s fit. turns s

-- where the whole goes on with further symbols
pub takes_before : {A : Type 0} (before part rest : List Symbol) (ls : List Lexeme) (at here : ℕ) (r : Result (A × ℕ) ParseError)
    → ((s : List Symbol) → run language (before ++ s) (ahead ls at) ≡ run language (part ++ (rest ++ s)) (ahead ls here)) → Takes part ls here r → Turns before rest (λ x. x.1) ls at r
takes_before before part rest ls at here (Ok x) same takes = λ s. same s ∙ takes (rest ++ s)
takes_before before part rest ls at here (Err e) same takes = λ s f told. same s ∙ takes (rest ++ s) f told

pub turns_before : {A : Type 0} (fits inner : List Symbol → Type 0) (before part rest : List Symbol) (ls : List Lexeme) (at here : ℕ) (r : Result (A × ℕ) ParseError)
    → ((s : List Symbol) → fits s → run language (before ++ s) (ahead ls at) ≡ run language (part ++ (rest ++ s)) (ahead ls here)) → ((s : List Symbol) → fits s → inner (rest ++ s))
    → TurnsWhere inner part [] (λ x. x.1) ls here r → TurnsWhere fits before rest (λ x. x.1) ls at r
turns_before fits inner before part rest ls at here (Ok x) same inside turns = λ s fit. same s fit ∙ turns (rest ++ s) (inside s fit)
turns_before fits inner before part rest ls at here (Err e) same inside turns = λ s fit f told. same s fit ∙ turns (rest ++ s) (inside s fit) f told

-- ---- cells

pub operand_cell : (v : CVar) (ys : List Symbol) (ts mid rest : List text.Lexeme) → v.reference ≡ true → Begins (t.variable v) ts mid → Begins (t.sign Arrow) mid rest
    → run language (operand ∷ ys) ts ≡ run language (sign Arrow ∷ cell_rest ys) mid
operand_cell v ys ts mid rest is a b = rw a.is (rw is (rw b.is refl))

pub statement_cell : (v : CVar) (ys : List Symbol) (ts rest : List text.Lexeme) → v.reference ≡ true → Begins (t.sign Arrow) ts rest
    → run language (after_variable_of v ++ ys) ts ≡ run language (sign Arrow ∷ cell_rest (sign Assign ∷ operand ∷ sign Semicolon ∷ ys)) ts
statement_cell v ys ts rest is b = rw is (rw b.is refl)

pub assigned : (v : CVar) (ys : List Symbol) (ts : List text.Lexeme) → (v.reference && begins_sign Arrow ts) ≡ false
    → run language (after_variable_of v ++ ys) ts ≡ run language (sign Assign ∷ value ∷ sign Semicolon ∷ ys) ts
assigned v ys ts none = by v.reference v.number none
  where
    by : (r : Bool) (n : ℕ) → (r && begins_sign Arrow ts) ≡ false
        → run language (after_variable_of (record { reference = r; number = n }) ++ ys) ts ≡ run language (sign Assign ∷ value ∷ sign Semicolon ∷ ys) ts
    by true n lacks = reference_assigned (record { reference = true; number = n }) ys ts lacks
    by false n lacks = refl

pub variable_taken : (counts : Bool) (v : CVar) (ts rest : List text.Lexeme) (ys : List Symbol) → Begins (t.variable v) ts rest
    → run language (stmts counts ∷ ys) ts ≡ run language (after_variable_of v ++ stmts counts ∷ ys) rest
variable_taken counts v ts rest ys h = variable_begins counts v.reference v.number ts rest ys h

-- ---- calls

pub value_primitive : (p : CPrim) (ys : List Symbol) (ts rest : List text.Lexeme) → Begins (t.primitive p) ts rest → run language (value ∷ ys) ts ≡ run language (sign OpenParen ∷ args (is_string_taker p) ∷ ys) rest
value_primitive p ys ts rest h = rw h.is refl

-- ---- functions

pub head_here : (all : Bool) (ys : List Symbol) (ls : List Lexeme) (at : ℕ) → at < length ls → begins_word Void (ahead ls at) ≡ false
    → run language (functions_symbol all ∷ ys) (ahead ls at) ≡ run language (type ∷ head_rest (after_head_of all) ++ ys) (ahead ls at)
head_here all ys [] at inside lacks = absurd (omega (arith, inside))
head_here all ys (l ∷ ls) zero inside lacks = head_begins all ys _ (lexemes_of ls) lacks
head_here all ys (l ∷ ls) (suc n) inside lacks = head_here all ys ls n (omega (arith, inside)) lacks

-- after a head: a semicolon before all bodies, or a body
pub head_ends : (before : List Body) (ts rest : List text.Lexeme) → before_bodies before ≡ true → Begins (t.sign Semicolon) ts rest
    → run language (after_head_of (before_bodies before) ++ []) ts ≡ run language (functions_symbol (before_bodies before) ∷ []) rest
head_ends [] ts rest none comes = semicolon_functions ts rest [] comes
head_ends (b ∷ bs) ts rest none comes = absurd cc

pub body_comes : (before : List Body) (ts : List text.Lexeme) → (before_bodies before && begins_sign Semicolon ts) ≡ false
    → run language (after_head_of (before_bodies before) ++ []) ts ≡ run language (sign OpenBrace ∷ body ∷ bodies ∷ []) ts
body_comes [] ts lacks = body_begins [] ts lacks
body_comes (b ∷ bs) ts lacks = refl

pub bodies_come : (all before : List Body) (x : Body) (ts : List text.Lexeme) → all ≡ before ++ x ∷ [] → run language (bodies ∷ []) ts ≡ run language (functions_symbol (before_bodies all) ∷ []) ts
bodies_come all [] x ts grown = rw grown refl
bodies_come all (b ∷ bs) x ts grown = rw grown refl

-- ---- the whole

pub all_ahead : (ls : List Lexeme) → ahead ls 0 ≡ lexemes_of ls
all_ahead ls = refl

pub told_refused : (law : RefusesAsTheGrammar) (bytes : List ℕ) (ls : List Lexeme) (e : ParseError) → IsTokensOf (before_mark bytes) (lexemes_of ls) → Fails (run language start (ahead ls 0)) e → IsRefusedAs bytes e
told_refused law bytes ls (Unexpected at) are fails = record { lexemes = lexemes_of ls; tokens = are; is = law (lexemes_of ls) (unexpected_at at) (fails (unexpected_at at) refl) }
told_refused law bytes ls EndOfText are fails = record { lexemes = lexemes_of ls; tokens = are; is = law (lexemes_of ls) cut_short (fails cut_short refl) }
told_refused law bytes ls (Limit n) are fails = record { lexemes = lexemes_of ls; tokens = are; is = law (lexemes_of ls) (over_limit n) (fails (over_limit n) refl) }
told_refused law bytes ls Memory are fails = tt
