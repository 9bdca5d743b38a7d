-- What the automaton does with parameters and entries.
use Rattle.std.proofs.Common.{◌≡◌, List, [], ◌∷◌, refl, ap}
use Rattle.vlt_tokens.specs.declared.token.Mark.TheVariants as mark
use Rattle.vlt_syntax.specs.Tokens as t
use Rattle.vlt_syntax.specs.Tokens.{Token}
use Rattle.vlt_automaton.specs.Language as m
use Rattle.vlt_automaton.specs.Language.{Symbol, Located, run, with_after, go_on_with}
use Rattle.vlt_parser_exprs.proofs.Runs.{begins, sign_taken, sign_skipped, settled_followed, states_takes, ty_takes}
use Rattle.vlt_parser_exprs.specs.Ahead.{Begins, LacksSign}

pub parameter_is : (s : List Symbol) (ts : List Located) → run (m.thing m.a_parameter ∷ s) ts ≡ run (m.thing m.a_ty ∷ m.name ∷ s) ts
parameter_is s ts = begins (m.thing m.a_parameter) (m.thing m.a_ty) (m.name ∷ []) refl refl (λ x. refl) ty_takes s ts

pub entry_at : (s : List Symbol) (ts rest : List Located) → Begins (t.sign mark.At) ts rest → run (m.entry_states ∷ s) ts ≡ run (m.after_entry_at ∷ s) rest
entry_at s ts rest = sign_taken m.entry_states mark.At (m.after_entry_at ∷ []) (λ x. m.skip) (λ x. refl) s ts rest

pub entry_alone : (s : List Symbol) (ts : List Located) → LacksSign mark.At ts → run (m.entry_states ∷ s) ts ≡ run s ts
entry_alone s ts = sign_skipped m.entry_states mark.At (m.take (m.after_entry_at ∷ [])) (λ x. refl) refl refl s ts

pub entry_bound : (s : List Symbol) (ts rest : List Located) → Begins (t.sign mark.OpenParen) ts rest
    → run (m.after_entry_at ∷ s) ts ≡ run (m.name ∷ m.sign mark.LessEqual ∷ m.name ∷ m.sign mark.CloseParen ∷ s) rest
entry_bound s ts rest =
    sign_taken m.after_entry_at mark.OpenParen (m.name ∷ m.sign mark.LessEqual ∷ m.name ∷ m.sign mark.CloseParen ∷ []) (λ x. with_after (m.start_states x) (m.arrow_states ∷ [])) (λ x. refl) s ts rest

pub entry_states : (s : List Symbol) (ts : List Located) → LacksSign mark.OpenParen ts → run (m.after_entry_at ∷ s) ts ≡ run (m.states ∷ m.arrow_states ∷ s) ts
entry_states s [] lacks = refl
entry_states s (x ∷ xs) lacks =
    rw lacks (ap (go_on_with (m.run_over xs) x.at) (settled_followed (m.start_states x.token) (m.arrow_states ∷ []) s _ _ (states_takes x.token)))

pub entry_changes : (s : List Symbol) (ts rest : List Located) → Begins (t.sign mark.Arrow) ts rest → run (m.arrow_states ∷ s) ts ≡ run (m.states ∷ s) rest
entry_changes s ts rest = sign_taken m.arrow_states mark.Arrow (m.states ∷ []) (λ x. m.skip) (λ x. refl) s ts rest

pub entry_stays : (s : List Symbol) (ts : List Located) → LacksSign mark.Arrow ts → run (m.arrow_states ∷ s) ts ≡ run s ts
entry_stays s ts = sign_skipped m.arrow_states mark.Arrow (m.take (m.states ∷ [])) (λ x. refl) refl refl s ts

-- an entry that begins with another token than its key
pub entry_with : (x : Token) (s : List Symbol) (ts rest : List Located) → m.start_entry x ≡ m.take (m.thing m.a_key ∷ []) → Begins x ts rest
    → run (m.thing m.an_entry ∷ s) ts ≡ run (m.thing m.a_key ∷ s) rest
entry_with x s ts rest is b = rw b.is (rw is refl)
