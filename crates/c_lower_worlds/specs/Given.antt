-- What the host gives a run: numbers of 64 bits.
use Rattle.std.specs.Prelude.{◌≡◌, ℤ, true, List, [], ◌∷◌}
use Rattle.vlt_ops.specs.Operator.{is_in_range}

abbrev pub AreNumbers : List ℤ → Type 0
AreNumbers [] = Unit {0}
AreNumbers (z ∷ zs) = (is_in_range z ≡ true) × AreNumbers zs

abbrev pub AreAnswers : List (List ℤ) → Type 0
AreAnswers [] = Unit {0}
AreAnswers (a ∷ rest) = AreNumbers a × AreAnswers rest

-- the input and the answers that are left are numbers of 64 bits
pub record IsFed (input : List ℤ) (answers : List (List ℤ)) : Type 0 where
  pub numbers : AreNumbers input
  pub lists : AreAnswers answers
