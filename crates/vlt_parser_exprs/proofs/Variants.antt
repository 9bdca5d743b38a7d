-- What the automaton does with headers and cases.
use Rattle.std.proofs.Common.{◌≡◌, List, [], ◌∷◌, Some, None, refl}
use Rattle.vlt_tokens.specs.declared.token.Mark.TheVariants as mark
use Rattle.vlt_automaton.specs.Language as m
use Rattle.vlt_automaton.specs.Language.{Symbol, Located, run}
use Rattle.vlt_syntax.specs.Grammar.{language}
use Rattle.vlt_parser_exprs.proofs.Runs.{begins, name_takes, tick_takes}

pub param_is : (s : List Symbol) (ts : List Located) → run (m.thing m.a_param ∷ s) ts ≡ run (m.name ∷ m.marked_name mark.Colon ∷ s) ts
param_is s ts = begins (m.thing m.a_param) m.name (m.marked_name mark.Colon ∷ []) refl refl (λ x. refl) name_takes s ts

pub case_is : (s : List Symbol) (ts : List Located) → run (m.thing m.a_case ∷ s) ts
    ≡ run (m.tick ∷ m.enclosed m.a_ty mark.OpenParen mark.CloseParen (Some (record { limit = 8; more = language.payload })) ∷ m.enclosed m.a_key mark.OpenBrace mark.CloseBrace None ∷ s) ts
case_is s ts = begins (m.thing m.a_case) m.tick (m.enclosed m.a_ty mark.OpenParen mark.CloseParen (Some (record { limit = 8; more = language.payload })) ∷ m.enclosed m.a_key mark.OpenBrace mark.CloseBrace None ∷ []) refl refl (λ x. refl) tick_takes s ts
