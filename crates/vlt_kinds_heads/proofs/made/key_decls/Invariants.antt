use Rattle.std.proofs.Common.{◌≡◌, ◌++◌, map}
use Rattle.vlt_syntax.specs.View as view
use Rattle.vlt_core.specs.View as core_view
use Rattle.vlt_kinds_heads.specs.Places as p
use Rattle.vlt_kinds_heads.specs.Keys as k
use Rattle.vlt_kinds_heads.specs.Heads as h
use Rattle.vlt_kinds_heads.specs.Externals as e
use Rattle.vlt_kinds_heads.specs.Phase as q
use Rattle.vlt_kinds_heads.specs.Seen.{keys_seen, table_seen}
use Rattle.vlt_kinds_heads.proofs.made.key_decls.Given as goal

abbrev pub invariant-loop-name : goal.invariant-loop-name
invariant-loop-name l =
    map core_view.key_of l.decls ++ map q.key_decl (table_seen l.name-iterator) ≡ map q.key_decl (keys_seen l.keys)
