-- Functions of equal arguments.
use Rattle.std.proofs.Common.{◌≡◌, ap, ap₂, ◌∙◌}

pub ap₃ : {A B C R : Type 0} (go : A → B → C → R) {a p : A} {b q : B} {c r : C} → a ≡ p → b ≡ q → c ≡ r → go a b c ≡ go p q r
ap₃ go {a} {p} {b} {q} {c} {r} e₁ e₂ e₃ = ap₂ (λ aa bb. go aa bb c) e₁ e₂ ∙ ap (go p q) e₃

pub ap₄ : {A B C D R : Type 0} (go : A → B → C → D → R) {a p : A} {b q : B} {c r : C} {d s : D} → a ≡ p → b ≡ q → c ≡ r → d ≡ s → go a b c d ≡ go p q r s
ap₄ go {a} {p} {b} {q} {c} {r} {d} {s} e₁ e₂ e₃ e₄ = ap₃ (λ aa bb cc. go aa bb cc d) e₁ e₂ e₃ ∙ ap (go p q r) e₄

pub ap₅ : {A B C D E R : Type 0} (go : A → B → C → D → E → R) {a p : A} {b q : B} {c r : C} {d s : D} {e t : E} → a ≡ p → b ≡ q → c ≡ r → d ≡ s → e ≡ t → go a b c d e ≡ go p q r s t
ap₅ go {a} {p} {b} {q} {c} {r} {d} {s} {e} {t} e₁ e₂ e₃ e₄ e₅ = ap₄ (λ aa bb cc dd. go aa bb cc dd e) e₁ e₂ e₃ e₄ ∙ ap (go p q r s) e₅

pub ap₆ : {A B C D E F R : Type 0} (go : A → B → C → D → E → F → R) {a p : A} {b q : B} {c r : C} {d s : D} {e t : E} {f u : F} → a ≡ p → b ≡ q → c ≡ r → d ≡ s → e ≡ t → f ≡ u → go a b c d e f ≡ go p q r s t u
ap₆ go {a} {p} {b} {q} {c} {r} {d} {s} {e} {t} {f} {u} e₁ e₂ e₃ e₄ e₅ e₆ = ap₅ (λ aa bb cc dd ee. go aa bb cc dd ee f) e₁ e₂ e₃ e₄ e₅ ∙ ap (go p q r s t) e₆
