use Rattle.std.proofs.Common.{◌∙◌, map}
use Rattle.c_parser.specs.View.{body_of, head_of}
use Rattle.c_kinds.specs.View.{walk_of}
use Rattle.c_syntax.specs.Kinds.{heads_of}
use Rattle.c_kinds.proofs.Ordered.{said_so}
use Rattle.c_kinds.proofs.Turns.{bodies_turn}
use Rattle.c_kinds.proofs.walk.Walk.bodies.Goals as goal

pub loop-at-preserved : goal.loop-at-preserved
loop-at-preserved c =
    bodies_turn (map head_of c.args.heads.list.now) c.args.bodies.now c.loop-at.at c.index-bodies-at.result (walk_of c.loop-at.self) (walk_of c.body.new.self)
    c.loop-at-test.true c.index-bodies-at.is c.in_ok-body.ensures
    ∙ c.loop-at.invariant

pub is_new_body-new-requires-clause-order : goal.is_new_body-new-requires-clause-order
is_new_body-new-requires-clause-order c = said_so c.are_bodies_in_order-in_order.result (heads_of (map body_of c.args.bodies.now)) c.are_bodies_in_order-in_order.ensures

pub body-requires : goal.body-requires
body-requires c = c.is_new_body-new.ensures c.index-bodies-at.result c.index-bodies-at.is
