use Rattle.std.proofs.Common.{◌∙◌, map}
use Rattle.vlt_kinds_types.proofs.Sets.{links_next}
use Rattle.vlt_kinds_types.proofs.tables.links_between.Goals as goal

pub loop-state-preserved : goal.loop-state-preserved
loop-state-preserved c =
    links_next (map (λ n. n) c.args.texts.now) c.args.states.now c.loop-state.state-index c.state-item.result c.loop-state.links c.add_link.new.links
    c.loop-state.lower c.number_of-upper.result c.loop-state-test.true c.state-item.is c.number_of-upper.ensures c.in_ok-add_link.ensures
    ∙ c.loop-state.invariant
