use Rattle.std.proofs.Common.{◌≡◌, ◌∙◌, ◌++◌, ◌∷◌, [], refl, ap}
use Rattle.vlt_core.specs.FaultView.{choices_of}
use Rattle.vlt_rows.specs.FlowView.{block_view}
use Rattle.vlt_witness.specs.declared.single.Single.TheVariants as single
use Rattle.vlt_witness.specs.declared.ways.Way.{Way}
use Rattle.vlt_witness.proofs.Showing.{paths_are}
use Rattle.vlt_witness.proofs.explain.all_paths.Goals as goal

pub returns : goal.returns
returns c =
    let w : Way = record { from = single.Absent; ones = c.args.ones; path = c.new.result } in
    let one : c.push.new.self ≡ w ∷ [] = c.in_ok-push.ensures.ok ∙ ap (λ l. l ++ w ∷ []) c.new-ways.ensures in
    paths_are c.args.aim (block_view c.args.body.now) c.args.ones w c.push.new.self c.new-met.result c.search_block.new.met one refl (ap choices_of c.new.ensures) c.new-met.ensures c.in_ok-_end.ensures.met
