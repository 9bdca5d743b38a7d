-- The text between the marks.
use Rattle.std.proofs.Common.{◌≡◌, sym, ap, ◌∙◌, subst, ℕ, List, ◌++◌, Option, Some, None, MatchOption}
use Rattle.std.specs.Borrow.{Bor}
use Rattle.std.proofs.lemmas.List.{append_cancel_left}
use Rattle.cert_format.specs.Text.{opening, closing, marked}

-- without the first mark there is no text between them
pub no_opening : (text : List ℕ) → ((rest : List ℕ) → text ≡ opening ++ rest → ⊥) → (body : List ℕ) → text ≡ marked body → ⊥
no_opening text none body e = none (body ++ closing) e

pub no_closing : (text rest : List ℕ) → text ≡ opening ++ rest → ((front : List ℕ) → rest ≡ front ++ closing → ⊥) → (body : List ℕ) →
    text ≡ marked body → ⊥
no_closing text rest is none body e = none body (append_cancel_left opening rest (body ++ closing) (sym is ∙ e))

pub both_marks : (text rest body : List ℕ) → text ≡ opening ++ rest → rest ≡ body ++ closing → text ≡ marked body
both_marks text rest body is e = is ∙ ap (λ z. opening ++ z) e

pub closed : (text rest : List ℕ) → text ≡ opening ++ rest → (r : Option (Bor (List ℕ))) →
    MatchOption r ((front : List ℕ) → rest ≡ front ++ closing → ⊥) (λ x. rest ≡ x.now ++ closing) →
    MatchOption r ((body : List ℕ) → text ≡ marked body → ⊥) (λ x. text ≡ marked x.now)
closed text rest is None h = no_closing text rest is h
closed text rest is (Some x) h = both_marks text rest x.now is h

pub opened : (A : Type 0) (text : List ℕ) (r : Option (Bor (List ℕ))) (rest : Bor (List ℕ)) → r ≡ Some rest →
    MatchOption r A (λ x. text ≡ opening ++ x.now) → text ≡ opening ++ rest.now
opened A text r rest is h = subst (λ o. MatchOption o A (λ x. text ≡ opening ++ x.now)) is h
