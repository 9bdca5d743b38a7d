-- Input that stands in reverse.
use Rattle.std.proofs.Common.{◌≡◌, ℤ, nat_lt, List, [], ◌∷◌, length, reverse, refl, ap, ◌∙◌, arith}
use Rattle.std.proofs.lemmas.Bool.Decides.{nat_tests}
use Rattle.std.proofs.lemmas.List.{length-reverse}
use Rattle.vlt_meaning.specs.Step.{is_more}

more_by_length : (xs : List ℤ) → is_more xs ≡ nat_lt 0 (length xs)
more_by_length [] = refl
more_by_length (x ∷ xs) = grind (arith, nat_tests)

pub more_input : (xs : List ℤ) → is_more (reverse xs) ≡ nat_lt 0 (length xs)
more_input xs = more_by_length (reverse xs) ∙ ap (nat_lt 0) (length-reverse xs)
