-- Lines that are put together.
use Rattle.std.proofs.Common.{◌≡◌, ℕ, List, [], ◌∷◌, ◌++◌, ap, ◌∙◌}

pub line_is : (mark : ℕ) (name text a b c d : List ℕ) → a ≡ mark ∷ name → b ≡ a ++ text → c ≡ b ++ 10 ∷ [] → d ≡ c → d ≡ mark ∷ ((name ++ text) ++ 10 ∷ [])
line_is mark name text a b c d e f g h = h ∙ (g ∙ (ap (λ l. l ++ 10 ∷ []) (f ∙ ap (λ l. l ++ text) e)))
