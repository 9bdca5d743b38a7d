-- Functions in the order of their names. Only private contracts cite this.
use Rattle.std.specs.Prelude.{Bool, true, not, ◌&&◌, ◌||◌, nat_lt, if◌then◌else◌, List, [], ◌∷◌, IsTrue}
use Rattle.c_syntax.specs.declared.program.CName.{CName}
use Rattle.c_syntax.specs.Unit.{Head}
use Rattle.c_syntax.specs.Kinds.{same_bool}

-- names of glue come before the others, and among each the lesser numbers
abbrev pub is_before : CName → CName → Bool
is_before f g = if same_bool f.glue g.glue then nat_lt f.number g.number else f.glue

abbrev pub ascend_after : CName → List Head → Bool
ascend_after f [] = true
ascend_after f (h ∷ hs) = is_before f h.name && ascend_after h.name hs

-- each name comes before the next
abbrev pub ascend : List Head → Bool
ascend [] = true
ascend (h ∷ hs) = ascend_after h.name hs

-- heads that are said to be in order are
abbrev pub AreOrderedIf : Bool → List Head → Type 0
AreOrderedIf said hs = IsTrue (not said || ascend hs)
