use Rattle.std.proofs.Common.{◌≡◌, drop, map, slice_get}
use Rattle.vlt_syntax.specs.View as view
use Rattle.vaultc_replies.specs.Variables.{heads_in}
use Rattle.vaultc_replies.proofs.variables.head_at.Given as goal

abbrev pub invariant-loop-decl : goal.invariant-loop-decl
invariant-loop-decl l =
    slice_get (heads_in (map view.decl_of l.decls)) l.number ≡ slice_get (heads_in (map view.decl_of (drop l.decl-index l.decls))) l.left
