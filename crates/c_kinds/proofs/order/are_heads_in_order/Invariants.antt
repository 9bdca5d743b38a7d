use Rattle.std.proofs.Common.{◌≡◌, drop, map}
use Rattle.c_parser.specs.View.{head_of}
use Rattle.c_kinds.specs.Order.{ascend_after}
use Rattle.c_kinds.proofs.order.are_heads_in_order.Given as goal

abbrev pub invariant-loop-head : goal.invariant-loop-head
invariant-loop-head l = ascend_after l.last (map head_of (drop l.head-index l.rest)) ≡ ascend_after l.initial.last (map head_of l.rest)
