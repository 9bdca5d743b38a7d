-- An interface with a module, and with two: what a module gives is in the place of the interface's declaration.
use Rattle.std.specs.Prelude.{ℕ, Bool, false, not, ◌&&◌, if◌then◌else◌, List, [], ◌∷◌, ◌++◌, map, unwrap_or, Option, Some, None}
use Rattle.std.specs.List.{list_any, find}
use Rattle.std.specs.Str.{bytes_eq}
use Rattle.vlt_syntax.specs.Tree as s
use Rattle.vlt_syntax.specs.Tree.{Decl, Tree}
use Rattle.vlt_syntax_copies.specs.Raised.{raised}
use Rattle.vlt_iface.specs.declared.places.TheConstants.{RAISE}

-- the second declaration gives the first: an abstract type is given by a struct of its name, an external by a function with a body
abbrev pub gives : (wanted : Decl) → (given : Decl) → Bool
gives (s.abstract n ss at) (s.struct k ps rs fs r kat) = bytes_eq n.text k.text
gives (s.extern h at) (s.function g b gat) = bytes_eq h.name.text g.name.text
gives _ _ = false

-- the interface's declarations, and in the place of each that these give the first that gives it
abbrev pub with_given : List Decl → List Decl → List Decl
with_given is ms = map (λ i. unwrap_or (find (gives i) ms) i) is

-- it is the first that gives one of the interface's declarations, so it is in that one's place
abbrev pub is_placed : List Decl → (before : List Decl) → Decl → Bool
is_placed is before d = list_any (λ i. gives i d && not (list_any (gives i) before)) is

-- the others of a module, after these
abbrev pub others : List Decl → (before : List Decl) → List Decl → List Decl
others is before [] = []
others is before (d ∷ ds) =
    if is_placed is before d then others is (before ++ d ∷ []) ds else d ∷ others is (before ++ d ∷ []) ds

abbrev pub view_decls : List Decl → List Decl → List Decl
view_decls is ms = with_given is ms ++ others is [] ms

-- the view of a module: its places are raised
abbrev pub view_of : Tree → Tree → Tree
view_of i m = record { decls = view_decls i.decls (map (raised RAISE) m.decls) }

-- Of two modules, the first one's other declarations come before the second one's. Where no names clash this is the view of both
-- modules' declarations as one. Places are those of the views, so a body is the same in its view and here.
abbrev pub joined : Tree → Tree → Tree → Tree
joined i f g = record { decls = view_decls i.decls (map (raised RAISE) (f.decls ++ g.decls)) }

-- ---- a view: its tree, and whose each declaration is

-- 0 for the interface, 1 for the module
abbrev pub origin_of : Option Decl → ℕ
origin_of None = 0
origin_of (Some d) = 1

abbrev pub origins_in : List Decl → List Decl → List ℕ
origins_in is ms = map (λ i. origin_of (find (gives i) ms)) is ++ map (λ d. 1) (others is [] ms)

pub record View : Type 0 where
  pub tree : Tree
  pub origins : List ℕ

abbrev pub viewed : Tree → Tree → View
viewed i m = record { tree = view_of i m; origins = origins_in i.decls (map (raised RAISE) m.decls) }
