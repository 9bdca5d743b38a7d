use Rattle.std.proofs.Common.{◌+◌, None, arith, subst}
use Rattle.vlt_flow.specs.Walks.{HasRoom}
use Rattle.vlt_flow.proofs.Parts.{body_room}
use Rattle.vlt_flow.proofs.least.least_maps.Goals as goal

pub walk_block-requires : goal.walk_block-requires
walk_block-requires c = record {
  room = subst (λ m. HasRoom c.in_ok-kept.kept None 0 (0 + m)) c.in_ok-count.ensures.count (body_room _ _ c.in_ok-kept.ensures.around c.in_ok-kept.ensures.following (omega (arith, c.if-count.false)));
}
