use Rattle.std.proofs.Common.{◌≡◌, drop, map, length}
use Rattle.vlt_syntax.specs.View.{decl_of}
use Rattle.vlt_core.specs.View.{func_of}
use Rattle.vlt_kinds_types.specs.Seen.{kinds_seen}
use Rattle.vlt_elaboration.specs.Elaboration as e
use Rattle.vlt_resolve.proofs.Steps.{after_funcs}
use Rattle.vlt_resolve.proofs.functions.walk_decls.Given as goal

abbrev pub invariant-loop-decl : goal.invariant-loop-decl
invariant-loop-decl l =
    e.walk_decls (kinds_seen l.kinds) (map func_of l.kinds.heads) (map decl_of l.decls)
    ≡ after_funcs (map func_of l.made) (e.walk_decls (kinds_seen l.kinds) (map func_of (drop (length l.made) l.kinds.heads)) (map decl_of (drop l.decl-index l.decls)))
