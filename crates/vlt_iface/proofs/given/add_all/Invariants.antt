use Rattle.std.proofs.Common.{◌≡◌, ◌++◌, drop, map}
use Rattle.vlt_syntax.specs.View.{decl_of}
use Rattle.vlt_iface.specs.Seen.{decls_seen}
use Rattle.vlt_iface.specs.Given.{HasGivers}
use Rattle.vlt_iface.proofs.given.add_all.Given as goal

abbrev pub invariant-loop-decl : goal.invariant-loop-decl
invariant-loop-decl l = record {
  all : decls_seen l.given.all ++ map decl_of (drop l.decl-index l.decls) ≡ decls_seen l.initial.given.all ++ map decl_of l.decls;
  givers : HasGivers l.given;
}
