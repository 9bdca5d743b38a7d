-- What the automaton has met where it gives a verdict.
use Rattle.std.proofs.Common.{◌≡◌, ℕ, suc, ◌<◌, Bool, true, false, if◌then◌else◌, List, [], ◌∷◌, ◌++◌, map, take, length, slice_get, Some, refl, ap, ◌∙◌, arith}
use Rattle.std.specs.Prelude.{Ok, Err}
use Rattle.vlt_tokens.specs.Lexemes.{Lexeme}
use Rattle.vlt_syntax.specs.Tokens.{token_from, tokens_in}
use Rattle.vlt_syntax.specs.Grammar.{language}
use Rattle.vlt_syntax.specs.Refusals.{unexpected_at, over_limit, ended}
use Rattle.vlt_automaton.specs.Automaton.{Symbol, Next, to, unexpected, over, step, may_end, Verdict, go_on_with, run_over, located_of}
use Rattle.vlt_syntax_laws.proofs.After.{after, onward}

-- the automaton has taken the tokens before one of this number, and has this stack there
pub record Reaches (ls : List Lexeme) (s : List Symbol) (i : ℕ) (q : List Symbol) (l : Lexeme) : Type 0 where
  pub less : i < length (tokens_in ls)
  pub there : slice_get ls i ≡ Some l
  pub before : after language (take i (tokens_in ls)) s ≡ to q
  pub next : take (suc i) (tokens_in ls) ≡ take i (tokens_in ls) ++ token_from l.kind l.text ∷ []

-- the stack before a token, with what the token does
pub record Refuses (ls : List Lexeme) (s : List Symbol) (does : Next) : Type 0 where
  pub at : ℕ
  pub stack : List Symbol
  pub lexeme : Lexeme
  pub reaches : Reaches ls s at stack lexeme
  pub here : step language stack (token_from lexeme.kind lexeme.text) ≡ does

-- all tokens are taken
pub record Takes (ls : List Lexeme) (s : List Symbol) (last : Bool) : Type 0 where
  pub stack : List Symbol
  pub all : after language (tokens_in ls) s ≡ to stack
  pub ends : may_end stack ≡ last

abbrev pub IsReason : List Lexeme → List Symbol → Verdict → Type 0
IsReason ls s (Ok u) = Takes ls s true
IsReason ls s (Err (unexpected_at at)) = (r : Refuses ls s unexpected) × (r.lexeme.from ≡ at)
IsReason ls s (Err (over_limit n)) = Refuses ls s (over n)
IsReason ls s (Err ended) = Takes ls s false

abbrev further : (l : Lexeme) (ls : List Lexeme) (s z : List Symbol) (does : Next) → step language s (token_from l.kind l.text) ≡ to z → Refuses ls z does → Refuses (l ∷ ls) s does
further l ls s z does e r = record {
  at = suc r.at;
  stack = r.stack;
  lexeme = r.lexeme;
  reaches = record {
    less = (let h = r.reaches.less in omega arith);
    there = r.reaches.there;
    before = ap (onward (after language (take r.at (tokens_in ls)))) e ∙ r.reaches.before;
    next = ap (λ xs. token_from l.kind l.text ∷ xs) r.reaches.next;
  };
  here = r.here;
}

all_further : (l : Lexeme) (ls : List Lexeme) (s z : List Symbol) (last : Bool) → step language s (token_from l.kind l.text) ≡ to z → Takes ls z last → Takes (l ∷ ls) s last
all_further l ls s z last e r = record { stack = r.stack; all = ap (onward (after language (tokens_in ls))) e ∙ r.all; ends = r.ends }

shifted : (l : Lexeme) (ls : List Lexeme) (s z : List Symbol) (v : Verdict) → step language s (token_from l.kind l.text) ≡ to z → IsReason ls z v → IsReason (l ∷ ls) s v
shifted l ls s z (Ok u) e r = all_further l ls s z true e r
shifted l ls s z (Err (unexpected_at at)) e r = (further l ls s z unexpected e r.0, r.1)
shifted l ls s z (Err (over_limit n)) e r = further l ls s z (over n) e r
shifted l ls s z (Err ended) e r = all_further l ls s z false e r

abbrev first_one : (l : Lexeme) (ls : List Lexeme) (s : List Symbol) (does : Next) → step language s (token_from l.kind l.text) ≡ does → Refuses (l ∷ ls) s does
first_one l ls s does e = record { at = 0; stack = s; lexeme = l; reaches = record { less = omega arith; there = refl; before = refl; next = refl }; here = e }

pub reason : (ls : List Lexeme) (s : List Symbol) → IsReason ls s (run_over language (map located_of ls) s)
reason [] s = by (may_end s) refl where
  by : (b : Bool) → may_end s ≡ b → IsReason [] s (if b then Ok tt else Err ended)
  by true e = record { stack = s; all = refl; ends = e }
  by false e = record { stack = s; all = refl; ends = e }
reason (l ∷ ls) s = by (λ z. reason ls z) (step language s (token_from l.kind l.text)) refl where
  by : ((z : List Symbol) → IsReason ls z (run_over language (map located_of ls) z)) → (m : Next) → step language s (token_from l.kind l.text) ≡ m → IsReason (l ∷ ls) s (go_on_with (run_over language (map located_of ls)) l.from m)
  by more (to z) e = shifted l ls s z (run_over language (map located_of ls) z) e (more z)
  by more unexpected e = (first_one l ls s unexpected e, refl)
  by more (over n) e = first_one l ls s (over n) e
