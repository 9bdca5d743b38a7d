use Rattle.std.proofs.Common.{◌∙◌, ap, sym, map, not, take}
use Rattle.std.proofs.lemmas.List.{get_or_default}
use Rattle.c_syntax.specs.Kinds as k
use Rattle.c_parser.specs.View.{body_of}
use Rattle.c_kinds.proofs.Ordered.{body_is_new}
use Rattle.c_kinds.proofs.heads.is_new_body.Goals as goal

pub returns-then-in_order : goal.returns-then-in_order
returns-then-in_order c = λ b there. body_is_new c.args.in_order c.args.bodies.now c.args.at b c.requires.order c.if-in_order.true c.requires.within there

pub returns : goal.returns
returns c = λ b there.
    let bodies = c.args.bodies.now in
    let same = get_or_default bodies c.args.at c.index-bodies-at.result b c.requires.within ∙ sym there in
    ap not c.has_name_of_body.ensures ∙ ap (λ x. not (k.has_name x.head.name (k.heads_of (map body_of (take c.args.at bodies))))) same
