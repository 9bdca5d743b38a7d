-- Rows that break no rule, one list of them after another one.
use Rattle.std.proofs.Common.{List, [], ◌∷◌, ◌++◌}
use Rattle.vlt_core.specs.KindedHeads.{Rules}
use Rattle.vlt_sound_statements.specs.Kinded.{BreakNone}

pub none_left : (xs ys : List Rules) → BreakNone (xs ++ ys) → BreakNone xs
none_left [] ys e = tt
none_left (x ∷ xs) ys e = (e.0, none_left xs ys e.1)

pub none_right : (xs ys : List Rules) → BreakNone (xs ++ ys) → BreakNone ys
none_right [] ys e = e
none_right (x ∷ xs) ys e = none_right xs ys e.1

pub none_both : (xs ys : List Rules) → BreakNone xs → BreakNone ys → BreakNone (xs ++ ys)
none_both [] ys a b = b
none_both (x ∷ xs) ys a b = (a.0, none_both xs ys a.1 b)
