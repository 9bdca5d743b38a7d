use Rattle.std.proofs.Common.{◌∙◌}
use Rattle.vlt_core.specs.View.{tok_of}
use Rattle.cert_kinds_types.proofs.Smallest.{each_next}
use Rattle.cert_kinds_blocks.proofs.tokens.token_list_broken.Goals as goal

pub loop-tok-preserved : goal.loop-tok-preserved
loop-tok-preserved c =
    rw (c.lesser-found.ensures, c.token_broken.ensures)
    (c.loop-tok.invariant ∙ each_next _ tok_of c.loop-tok.found c.args.listed.now c.loop-tok.tok-index _ c.loop-tok-test.true)
