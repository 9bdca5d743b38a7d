use Rattle.std.proofs.Common.{rules, ◌∙◌}
use Rattle.vlt_kinds_types.specs.Seen.{kinds_seen}
use Rattle.vlt_resolve.proofs.Steps.{next_walked}
use Rattle.vlt_resolve.proofs.functions.walk_decls.Goals as goal

pub loop-decl-preserved : goal.loop-decl-preserved
loop-decl-preserved c =
    c.loop-decl.invariant
    ∙ next_walked (kinds_seen c.args.kinds.now) c.args.kinds.now.heads c.as_slice-heads.result.now c.args.decls.now c.len.result c.loop-decl.decl-index
    c.in-Some.head.now c.decl-item.result c.in_ok-function.function c.loop-decl.made c.push.new.self
    c.as_slice-heads.ensures c.len.ensures c.in-Some.ensures.lookup.3.0 c.in-Some.ensures.lookup.1 (search rules) (search rules) (search rules) (search rules) (search rules)
