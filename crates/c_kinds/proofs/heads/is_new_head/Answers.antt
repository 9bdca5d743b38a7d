use Rattle.std.proofs.Common.{◌∙◌, ap, sym, map, not, take}
use Rattle.std.proofs.lemmas.List.{get_or_default}
use Rattle.c_syntax.specs.Kinds as k
use Rattle.c_parser.specs.View.{head_of}
use Rattle.c_kinds.proofs.Ordered.{head_is_new}
use Rattle.c_kinds.proofs.heads.is_new_head.Goals as goal

pub returns-then-in_order : goal.returns-then-in_order
returns-then-in_order c = λ h there. head_is_new c.args.in_order c.args.heads.now c.args.at h c.requires.order c.if-in_order.true c.requires.within there

pub returns : goal.returns
returns c = λ h there.
    let heads = c.args.heads.now in
    let same = get_or_default heads c.args.at c.index-heads-at.result h c.requires.within ∙ sym there in
    ap not c.has_name.ensures ∙ ap (λ x. not (k.has_name x.name (map head_of (take c.args.at heads)))) same
