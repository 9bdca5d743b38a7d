-- Short texts, run by the machine.
use Rattle.std.proofs.Common.{◌≡◌, ℕ, ◌∷◌, [], List, refl}
use Rattle.std.specs.Prelude.{Ok, Err}
use Rattle.vlt_tokens.specs.declared.token.Word.TheVariants as word
use Rattle.vlt_tokens.specs.declared.token.Mark.TheVariants as mark
use Rattle.vlt_syntax.specs.Tokens as t
use Rattle.vlt_syntax.specs.Tokens.{Token}
use Rattle.vlt_syntax.specs.Grammar.{language}
use Rattle.vlt_automaton.specs.Language.{Located, Verdict, run, decls, further_states, unexpected_at, over_limit, ended}

abbrev located : Token → ℕ → Located
located x at = record { token = x; at = at }

abbrev of_file : List Located → Verdict
of_file xs = run (decls (record { limit = 4; more = language.decls }) ∷ []) xs

abbrev fine : Verdict
fine = Ok tt

abbrev at_token : ℕ → Verdict
at_token n = Err (unexpected_at n)

abbrev over : ℕ → Verdict
over n = Err (over_limit n)

abbrev cut : Verdict
cut = Err ended

nothing_is_a_file : of_file [] ≡ fine
nothing_is_a_file = refl

one_state : of_file ((located (t.keyword word.Stateset) 0) ∷ (located (t.name []) 9) ∷ (located (t.sign mark.OpenBrace) 11) ∷ (located (t.name []) 13) ∷ (located (t.sign mark.CloseBrace) 15) ∷ []) ≡ fine
one_state = refl

a_name_alone_goes_on : of_file ((located (t.name []) 0) ∷ []) ≡ cut
a_name_alone_goes_on = refl

a_set_has_a_state : of_file ((located (t.keyword word.Stateset) 0) ∷ (located (t.name []) 9) ∷ (located (t.sign mark.OpenBrace) 11) ∷ (located (t.sign mark.CloseBrace) 13) ∷ []) ≡ at_token 13
a_set_has_a_state = refl

no_comma_before_the_brace : of_file ((located (t.keyword word.Stateset) 0) ∷ (located (t.name []) 9) ∷ (located (t.sign mark.OpenBrace) 11) ∷ (located (t.name []) 13) ∷ (located (t.sign mark.Comma) 14) ∷ (located (t.sign mark.CloseBrace) 16) ∷ []) ≡ at_token 16
no_comma_before_the_brace = refl

a_chain_goes_on : of_file ((located (t.keyword word.Stateset) 0) ∷ (located (t.name []) 9) ∷ (located (t.sign mark.OpenBrace) 11) ∷ (located (t.name []) 13) ∷ (located (t.sign mark.Less) 15) ∷ (located (t.name []) 17) ∷ (located (t.sign mark.Comma) 18) ∷ (located (t.name []) 20) ∷ (located (t.sign mark.CloseBrace) 22) ∷ []) ≡ fine
a_chain_goes_on = refl

no_chain_begins_with_a_sign : of_file ((located (t.keyword word.Stateset) 0) ∷ (located (t.name []) 9) ∷ (located (t.sign mark.OpenBrace) 11) ∷ (located (t.sign mark.Less) 13) ∷ []) ≡ at_token 13
no_chain_begins_with_a_sign = refl

-- `<` is counted like a comma
abbrev states_left : ℕ → List Located → Verdict
states_left n xs = run (further_states (record { limit = 5; more = n }) ∷ decls (record { limit = 4; more = 0 }) ∷ []) xs

a_link_within : states_left 1 ((located (t.sign mark.Less) 0) ∷ (located (t.name []) 2) ∷ (located (t.sign mark.CloseBrace) 4) ∷ []) ≡ fine
a_link_within = refl

a_link_too_many : states_left 1 ((located (t.sign mark.Less) 0) ∷ (located (t.name []) 2) ∷ (located (t.sign mark.Less) 4) ∷ []) ≡ over 5
a_link_too_many = refl

a_bound_is_an_entry : of_file ((located (t.keyword word.Extern) 0) ∷ (located (t.keyword word.Void) 7) ∷ (located (t.name []) 12) ∷ (located (t.sign mark.OpenParen) 13) ∷ (located (t.sign mark.CloseParen) 14) ∷ (located (t.sign mark.OpenBracket) 16) ∷ (located (t.name []) 17) ∷ (located (t.sign mark.At) 18) ∷ (located (t.sign mark.OpenParen) 19) ∷ (located (t.name []) 20) ∷ (located (t.sign mark.LessEqual) 22) ∷ (located (t.name []) 25) ∷ (located (t.sign mark.CloseParen) 26) ∷ (located (t.sign mark.CloseBracket) 27) ∷ (located (t.sign mark.Semicolon) 28) ∷ []) ≡ fine
a_bound_is_an_entry = refl

a_bound_has_no_arrow : of_file ((located (t.keyword word.Extern) 0) ∷ (located (t.keyword word.Void) 7) ∷ (located (t.name []) 12) ∷ (located (t.sign mark.OpenParen) 13) ∷ (located (t.sign mark.CloseParen) 14) ∷ (located (t.sign mark.OpenBracket) 16) ∷ (located (t.name []) 17) ∷ (located (t.sign mark.At) 18) ∷ (located (t.sign mark.OpenParen) 19) ∷ (located (t.name []) 20) ∷ (located (t.sign mark.LessEqual) 22) ∷ (located (t.name []) 25) ∷ (located (t.sign mark.CloseParen) 26) ∷ (located (t.sign mark.Arrow) 28) ∷ []) ≡ at_token 28
a_bound_has_no_arrow = refl

no_empty_header : of_file ((located (t.keyword word.Struct) 0) ∷ (located (t.name []) 7) ∷ (located (t.sign mark.Less) 8) ∷ (located (t.sign mark.Greater) 9) ∷ (located (t.sign mark.OpenBrace) 11) ∷ (located (t.sign mark.CloseBrace) 13) ∷ []) ≡ at_token 9
no_empty_header = refl

an_extern_has_no_block : of_file ((located (t.keyword word.Extern) 0) ∷ (located (t.keyword word.Void) 7) ∷ (located (t.name []) 12) ∷ (located (t.sign mark.OpenParen) 13) ∷ (located (t.sign mark.CloseParen) 14) ∷ (located (t.sign mark.OpenBrace) 16) ∷ (located (t.sign mark.CloseBrace) 18) ∷ []) ≡ at_token 16
an_extern_has_no_block = refl

a_block_is_closed : of_file ((located (t.keyword word.Void) 0) ∷ (located (t.name []) 5) ∷ (located (t.sign mark.OpenParen) 6) ∷ (located (t.sign mark.CloseParen) 7) ∷ (located (t.sign mark.OpenBrace) 9) ∷ []) ≡ cut
a_block_is_closed = refl

a_brace_begins_nothing : of_file ((located (t.sign mark.CloseBrace) 0) ∷ []) ≡ at_token 0
a_brace_begins_nothing = refl
