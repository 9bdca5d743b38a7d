-- Which programs break no rule on names and types.
use Rattle.std.specs.Prelude.{◌≡◌, ℕ, suc, nat_lt, Bool, false, not, if◌then◌else◌, List, [], ◌∷◌, ◌++◌, map, Option, Some, None, slice_get}
use Rattle.std.specs.List.{flat_map, enumerate_from}
use Rattle.vlt_core.specs.Core.{Func, Program}
use Rattle.vlt_core.specs.KindedHeads.{Rules, unless, set_broken, type_rows, head_broken}
use Rattle.vlt_core.specs.declared.rules.TheConstants as rule
use Rattle.vlt_core.specs.KindedBodies.{body_rows, end_broken}

-- ---- programs

-- main is a function with a body
abbrev pub has_main : Program → Bool
has_main p = of_func (slice_get p.fns p.main)
  where
    of_func : Option Func → Bool
    of_func None = false
    of_func (Some f) = not f.external

-- a function's own row, and those of its statements
abbrev pub function_rows : Program → ℕ × Func → List Rules
function_rows p q = (head_broken p q.0 q.1 ++ end_broken p q.1) ∷ body_rows p q.1

-- what the rows of a program's parts break: the sets, the types with their cases, and the functions with their statements
abbrev pub parts_broken : Program → List Rules
parts_broken p =
    map set_broken p.sets ++
    flat_map (λ q. type_rows p q.0 q.1) (enumerate_from 0 p.types) ++
    flat_map (function_rows p) (enumerate_from 0 p.fns)

-- what each row of a program breaks: the first row stands for the whole, and after it come the parts
abbrev pub rows_broken : Program → List Rules
rows_broken p = unless (has_main p) rule.NO_MAIN ∷ parts_broken p

abbrev pub least_of : (rule : ℕ) → Rules → ℕ
least_of r [] = r
least_of r (q ∷ qs) = least_of (if nat_lt q r then q else r) qs

abbrev pub first_broken : (row : ℕ) → List Rules → Option (ℕ × ℕ)
first_broken n [] = None
first_broken n ([] ∷ rows) = first_broken (suc n) rows
first_broken n ((r ∷ rs) ∷ rows) = Some (n, least_of r rs)

-- the first row that breaks a rule, with the least rule that it breaks
abbrev pub breaks : Program → Option (ℕ × ℕ)
breaks p = first_broken 0 (rows_broken p)

-- The program's parts break no rule on names and types. A module's need no main.
abbrev pub HasKindedParts : Program → Type 0
HasKindedParts p = first_broken 1 (parts_broken p) ≡ None

-- The program breaks no rule on names and types.
abbrev pub IsKinded : Program → Type 0
IsKinded p = breaks p ≡ None
