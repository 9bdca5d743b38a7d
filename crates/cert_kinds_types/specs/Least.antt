-- The least of the rules that are broken.
use Rattle.std.specs.Prelude.{ℕ, nat_lt, if◌then◌else◌, [], ◌∷◌, Option, Some, None}
use Rattle.vlt_core.specs.KindedHeads.{Rules}
use Rattle.vlt_core.specs.Kinded.{least_of}

-- the least rule of a list, none where none is broken
abbrev pub least : Rules → Option ℕ
least [] = None
least (r ∷ rs) = Some (least_of r rs)

-- the lesser of two, where one is broken
abbrev pub lesser : Option ℕ → Option ℕ → Option ℕ
lesser None b = b
lesser (Some m) None = Some m
lesser (Some m) (Some n) = Some (if nat_lt n m then n else m)
