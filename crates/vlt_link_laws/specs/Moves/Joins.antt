-- Two lists of declarations side by side, of which the first is the second with some left out and others in place of some: a view
-- beside the joined declarations. Where each declaration of the first is in the second, among those of its kind.
use Rattle.std.specs.Prelude.{ℕ, zero, suc, Bool, true, false, if◌then◌else◌, List, [], ◌∷◌, map, Option, Some, None}
use Rattle.vlt_syntax.specs.Tree as s
use Rattle.vlt_syntax.specs.Tree.{Decl}
use Rattle.vlt_link_laws.specs.CoreMoves.Moves.{Moves}

-- a declaration of the second list, and the one of the first in its place, if there is one
pub record Join : Type 0 where
  pub before : Option Decl
  pub after : Decl

abbrev pub Joins : Type 0
Joins = List Join

abbrev pub befores : Joins → List Decl
befores [] = []
befores (j ∷ js) = with_before j.before (befores js)
  where
    with_before : Option Decl → List Decl → List Decl
    with_before None ds = ds
    with_before (Some d) ds = d ∷ ds

abbrev pub afters : Joins → List Decl
afters = map (λ j. j.after)

-- after one more
abbrev pub counted : (ℕ → ℕ) → Option Decl → ℕ → ℕ
counted rest None i = suc (rest i)
counted rest (Some d) zero = zero
counted rest (Some d) (suc i) = suc (rest i)

-- where the declaration of this number is, among those for which the test holds
abbrev pub at_in : (Decl → Bool) → Joins → ℕ → ℕ
at_in is [] i = i
at_in is (j ∷ js) i = if is j.after then counted (at_in is js) j.before i else at_in is js i

abbrev pub is_set : Decl → Bool
is_set (s.stateset n ss at) = true
is_set _ = false

abbrev pub is_type : Decl → Bool
is_type (s.abstract n ss at) = true
is_type (s.struct n ps ss fs r at) = true
is_type (s.variant n ps cs at) = true
is_type _ = false

abbrev pub is_function : Decl → Bool
is_function (s.extern h at) = true
is_function (s.function h b at) = true
is_function _ = false

abbrev pub moves_of : Joins → Moves
moves_of js =
    record { sets = at_in is_set js; types = at_in is_type js; functions = at_in is_function js }
