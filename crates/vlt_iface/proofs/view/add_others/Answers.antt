use Rattle.std.proofs.Common.{◌<◌, ◌+◌, ◌++◌, length, drop, map, arith, sym, ap, ◌∙◌}
use Rattle.vlt_syntax.specs.View.{decl_of}
use Rattle.vlt_syntax_copies.specs.Shifted.{shifted}
use Rattle.vlt_iface.specs.declared.places.TheConstants.{RAISE}
use Rattle.vlt_iface.specs.Seen.{decls_seen}
use Rattle.vlt_iface.specs.Given.{wants, others_by}
use Rattle.vlt_iface.proofs.Standing.{next_other}
use Rattle.vlt_iface.proofs.Tables.{split_at}
use Rattle.vlt_iface.proofs.view.add_others.Goals as goal

pub loop-decl-preserved : goal.loop-decl-preserved
loop-decl-preserved c =
    let lt : c.loop-decl.decl-index < length c.args.given.now = omega arith in
    next_other (wants c.loop-decl.wanted) (wants c.add_other.new.wanted) (decl_of c.decl-item.result.now) (decls_seen (drop (c.loop-decl.decl-index + 1) c.args.given.now))
    (map decl_of c.loop-decl.made) (map decl_of c.add_other.new.made) c.in_ok-add_other.ensures.made c.add_other.ensures.left ∙
    (ap (λ ds. map decl_of c.loop-decl.made ++ map (shifted RAISE) (others_by (wants c.loop-decl.wanted) (decls_seen ds))) (sym (split_at c.args.given.now c.loop-decl.decl-index c.decl-item.result lt c.decl-item.is)) ∙
    c.loop-decl.invariant)
