-- The names that clauses have for the state of a bound entry's object.
use Rattle.std.specs.Prelude.{ℕ, List, [], ◌∷◌, Option, Some, None, slice_get}
use Rattle.vlt_syntax.specs.Tree as s
use Rattle.vlt_syntax.specs.Tree.{Head, Decl, Tree}
use Rattle.vlt_kinds_heads.specs.Places.{clause_in}
use Rattle.vlt_kinds_heads.specs.Phase.{state_variable}

abbrev pub head_in : Decl → Option Head
head_in (s.extern h at) = Some h
head_in (s.function h b at) = Some h
head_in _ = None

abbrev pub with_head : Option Head → List Head → List Head
with_head None hs = hs
with_head (Some h) hs = h ∷ hs

-- the heads of a tree's functions, in their order
abbrev pub heads_in : List Decl → List Head
heads_in [] = []
heads_in (d ∷ ds) = with_head (head_in d) (heads_in ds)

abbrev pub head_variable : Option Head → List ℕ
head_variable None = []
head_variable (Some h) = state_variable (clause_in h.clause)

-- that of a tree's function of this number; empty of a function without a bound entry
abbrev pub variable_in : Tree → (function : ℕ) → List ℕ
variable_in t n = head_variable (slice_get (heads_in t.decls) n)
