-- What the code's values stand for.
use Rattle.std.specs.Prelude.{◌≡◌, List, map, Result, Err}
use Rattle.std.specs.Borrow.{Bor}
use Rattle.vlt_syntax.specs.Tree as s
use Rattle.vlt_syntax.specs.View.{decl_of, tree_of}
use Rattle.vlt_syntax.specs.declared.tree.Decl.{Decl}
use Rattle.vlt_iface.specs.View as v
use Rattle.vlt_iface.specs.Told.{Told, broken, clash, exceeded}
use Rattle.vlt_iface.specs.declared.view.View.{View}
use Rattle.vlt_iface.specs.declared.error.IfaceError.{IfaceError}
use Rattle.vlt_iface.specs.declared.error.IfaceError.TheVariants as e

abbrev pub decl_seen : Bor Decl → s.Decl
decl_seen d = decl_of d.now

abbrev pub decls_seen : List (Bor Decl) → List s.Decl
decls_seen = map decl_seen

abbrev pub tree_with : List s.Decl → s.Tree
tree_with ds = record { decls = ds }

abbrev pub view_seen : View → v.View
view_seen x = record { tree = tree_of x.tree; origins = x.origins }

-- The error is what is told. Of one for want of memory nothing is known.
abbrev pub Tells : {A : Type 0} → Result A Told → IfaceError → Type 0
Tells told (e.Rule rule file at) = told ≡ Err (broken rule (record { file = file; at = at }))
Tells told (e.Clash name) = told ≡ Err (clash name)
Tells told (e.Limit n) = told ≡ Err (exceeded n)
Tells told e.Memory = Unit {0}
