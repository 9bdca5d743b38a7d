-- What holds of a reaction holds of both its alternatives.
use Rattle.std.proofs.Common.{◌≡◌, ℕ, Bool, true, false, if◌then◌else◌, List, refl, sym, subst}
use Rattle.vlt_tokens.specs.declared.token.Mark.{Mark}
use Rattle.vlt_syntax.specs.Tokens as t
use Rattle.vlt_syntax.specs.Tokens.{Token}
use Rattle.vlt_automaton.specs.Words.{same_mark}
use Rattle.vlt_automaton.proofs.Sameness.{same_mark-true}
use Rattle.vlt_automaton.specs.Automaton.{Reaction, on_sign, on_name}

pub if_back : (P : Reaction → Type 0) (b : Bool) (x y : Reaction) → (b ≡ true → P x) → P y → P (if b then x else y)
if_back P true x y p q = p refl
if_back P false x y p q = q

pub by_sign : (P : Token → Reaction → Type 0) (m : Mark) (x : Token) (a b : Reaction) → P (t.sign m) a → P x b → P x (on_sign m x a b)
by_sign P m (t.sign n) a b p q = if_back (P (t.sign n)) (same_mark n m) a b (λ e. subst (λ k. P (t.sign k) a) (sym (same_mark-true n m e)) p) q
by_sign P m (t.name n) a b p q = q
by_sign P m (t.tick n) a b p q = q
by_sign P m (t.number n) a b p q = q
by_sign P m (t.keyword n) a b p q = q

pub by_name : (P : Token → Reaction → Type 0) (x : Token) (a b : Reaction) → ((n : List ℕ) → P (t.name n) a) → P x b → P x (on_name x a b)
by_name P (t.name n) a b p q = p n
by_name P (t.sign n) a b p q = q
by_name P (t.tick n) a b p q = q
by_name P (t.number n) a b p q = q
by_name P (t.keyword n) a b p q = q
