-- How a declaration of a view stands in the joined list.
use Rattle.std.specs.Prelude.{◌≡◌, ◌⊎◌, [], Option, Some, None}
use Rattle.std.specs.Option.{option_map}
use Rattle.vlt_syntax.specs.Tree as s
use Rattle.vlt_syntax.specs.Tree.{Decl}
use Rattle.vlt_link_laws.specs.Moves.Joins.{Join}
use Rattle.vlt_link_laws.proofs.Placeless.{placeless_head}

abbrev pub IsGiven : Decl → Decl → Type 0
IsGiven (s.abstract n ss at) (s.struct k ps rs fs r kat) =
    (k.text ≡ n.text) × (ps ≡ []) × (option_map (λ x. x.text) rs ≡ option_map (λ x. x.text) ss)
IsGiven (s.extern h at) (s.function g b gat) = placeless_head g ≡ placeless_head h
IsGiven _ _ = ⊥

-- it is the same, or a struct for an abstract type, or a function for an external
abbrev pub FitsDecl : Decl → Decl → Type 0
FitsDecl d e = (e ≡ d) ⊎ IsGiven d e

abbrev pub FitsIf : Option Decl → Decl → Type 0
FitsIf None e = Unit {0}
FitsIf (Some d) e = FitsDecl d e

abbrev pub Fits : Join → Type 0
Fits j = FitsIf j.before j.after
