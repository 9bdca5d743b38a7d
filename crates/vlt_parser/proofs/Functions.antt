-- What the automaton does with heads of functions.
use Rattle.std.proofs.Common.{Option, Some, ◌≡◌, List, [], ◌∷◌, None, refl, sym, ap, ◌∙◌}
use Rattle.vlt_tokens.specs.declared.token.Word.TheVariants as word
use Rattle.vlt_tokens.specs.declared.token.Mark.TheVariants as mark
use Rattle.vlt_syntax.specs.Tokens as t
use Rattle.vlt_syntax.specs.Grammar.{language}
use Rattle.vlt_automaton.specs.Language as m
use Rattle.vlt_automaton.specs.Language.{Symbol, Left, Located, run}
use Rattle.vlt_parser_exprs.proofs.Runs.{bounded, begins, sign_taken, sign_skipped, result_type_takes}
use Rattle.vlt_parser_exprs.specs.declared.lists.Most.{Most}
use Rattle.vlt_parser_exprs.specs.Ahead.{left_of, Begins, LacksSign}

pub result_type_void : (s : List Symbol) (ts rest : List Located) → Begins (t.keyword word.Void) ts rest → run (m.thing m.a_result_type ∷ s) ts ≡ run s rest
result_type_void s ts rest b = rw b.is refl

pub clause_some : (s : List Symbol) (ts rest : List Located) → Begins (t.sign mark.OpenBracket) ts rest → run (m.clause ∷ s) ts ≡ run (m.listed m.an_entry mark.CloseBracket None ∷ s) rest
clause_some s ts rest = sign_taken m.clause mark.OpenBracket (m.listed m.an_entry mark.CloseBracket None ∷ []) (λ x. m.skip) (λ x. refl) s ts rest

pub clause_none : (s : List Symbol) (ts : List Located) → LacksSign mark.OpenBracket ts → run (m.clause ∷ s) ts ≡ run s ts
clause_none s ts = sign_skipped m.clause mark.OpenBracket (m.take (m.listed m.an_entry mark.CloseBracket None ∷ [])) (λ x. refl) refl refl s ts

pub head_is : (s : List Symbol) (ts : List Located) → run (m.head ∷ s) ts ≡ run (m.thing m.a_result_type ∷ m.name ∷ m.sign mark.OpenParen ∷ m.listed m.a_parameter mark.CloseParen m.parameters_left ∷ m.clause ∷ s) ts
head_is s ts = begins m.head (m.thing m.a_result_type) m.head_rest refl refl (λ x. refl) result_type_takes s ts

abbrev parameters : Option Left → List Symbol → List Symbol
parameters left s = m.listed m.a_parameter mark.CloseParen left ∷ m.clause ∷ s

-- a head was read as far as its parameters
pub head_read : (most : Most) (s : List Symbol) (at paren : List Located) → most.limit ≡ 9 → most.count ≡ language.parameters
    → run (m.thing m.a_result_type ∷ m.name ∷ m.sign mark.OpenParen ∷ parameters m.parameters_left s) at ≡ run (parameters m.parameters_left s) paren
    → run (m.head ∷ s) at ≡ run (m.listed m.a_parameter mark.CloseParen (left_of (Some most) 0) ∷ m.clause ∷ s) paren
head_read most s at paren limit count start =
    head_is s at ∙ start ∙ ap (λ l. run (parameters l s) paren) (sym (bounded most 9 language.parameters limit count))
