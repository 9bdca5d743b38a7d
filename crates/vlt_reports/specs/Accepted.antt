-- The line that tells that a program is accepted.
use Rattle.std.specs.Prelude.{ℕ, not, List, ◌++◌, length, filter, codes}
use Rattle.std.specs.Fmt.{decimal}
use Rattle.vlt_core.specs.Core.{Program}

-- how many functions have a body
abbrev pub bodies : Program → ℕ
bodies p = length (filter (λ f. not f.external) p.fns)

-- how many functions with a body were accepted
abbrev pub accepted_line : Program → List ℕ
accepted_line p = codes "accepted " ++ decimal (bodies p) ++ codes "\n"
