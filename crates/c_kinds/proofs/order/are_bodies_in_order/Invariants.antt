use Rattle.std.proofs.Common.{◌≡◌, drop, map}
use Rattle.c_syntax.specs.Kinds.{heads_of}
use Rattle.c_parser.specs.View.{body_of}
use Rattle.c_kinds.specs.Order.{ascend_after}
use Rattle.c_kinds.proofs.order.are_bodies_in_order.Given as goal

abbrev pub invariant-loop-body : goal.invariant-loop-body
invariant-loop-body l = ascend_after l.last (heads_of (map body_of (drop l.body-index l.rest))) ≡ ascend_after l.initial.last (heads_of (map body_of l.rest))
