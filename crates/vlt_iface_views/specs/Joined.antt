-- The tree with these declarations of modules, or the limit on declarations. It serves private clauses alone.
use Rattle.std.specs.Prelude.{List, map, Result}
use Rattle.vlt_syntax.specs.Tree as s
use Rattle.vlt_syntax_copies.specs.Raised.{raised}
use Rattle.vlt_iface.specs.declared.places.TheConstants.{RAISE}
use Rattle.vlt_iface.specs.View.{view_decls}
use Rattle.vlt_iface.specs.Told.{Told, when_few}
use Rattle.vlt_iface.specs.Seen.{tree_with}

abbrev pub joined_of : s.Tree → List s.Decl → Result s.Tree Told
joined_of i ms = when_few (view_decls i.decls (map (raised RAISE) ms)) (tree_with (view_decls i.decls (map (raised RAISE) ms)))
