use Rattle.std.proofs.Common.{◌≡◌, drop, map}
use Rattle.vlt_syntax.specs.View.{init_of}
use Rattle.vlt_core.specs.View.{field_of}
use Rattle.vlt_resolve_rights.specs.News as n
use Rattle.vlt_resolve_rights.proofs.objects.agree_each.Given as goal

abbrev pub invariant-loop-i : goal.invariant-loop-i
invariant-loop-i l =
    n.agree (map field_of l.fields) (map init_of l.inits) ≡ n.agree (map field_of (drop l.i l.fields)) (map init_of (drop l.i l.inits))
