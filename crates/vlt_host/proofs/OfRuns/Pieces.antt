-- The pieces of an object's text in the line of what is held.
use Rattle.std.proofs.Common.{ℕ, List, ◌++◌, Option}
use Rattle.vlt_io.specs.Outside.{Grew, GrewByPart}
use Rattle.vlt_host.proofs.OfRuns.Written.{part_first, part_after}

-- a part of the first piece, where others would follow
pub first_cut : (a b : Option (List ℕ)) (x y : List ℕ) → GrewByPart a b x → GrewByPart a b (x ++ y)
first_cut a b x y part = part_first a b x y part

-- a part of the second piece
pub second_cut : (a b c : Option (List ℕ)) (x y z : List ℕ) → Grew a b x → GrewByPart b c y → GrewByPart a c (x ++ (y ++ z))
second_cut a b c x y z first part = part_after a b c x (y ++ z) first (part_first b c y z part)

-- a part of the third piece
pub third_cut : (a b c d : Option (List ℕ)) (x y z u : List ℕ) → Grew a b x → Grew b c y → GrewByPart c d z → GrewByPart a d (x ++ (y ++ (z ++ u)))
third_cut a b c d x y z u first second part =
    part_after a b d x (y ++ (z ++ u)) first (part_after b c d y (z ++ u) second (part_first c d z u part))

-- a part of the fourth piece
pub fourth_cut : (a b c d e : Option (List ℕ)) (x y z u : List ℕ) → Grew a b x → Grew b c y → Grew c d z → GrewByPart d e u → GrewByPart a e (x ++ (y ++ (z ++ u)))
fourth_cut a b c d e x y z u first second third part =
    part_after a b e x (y ++ (z ++ u)) first (part_after b c e y (z ++ u) second (part_after c d e z u third part))
