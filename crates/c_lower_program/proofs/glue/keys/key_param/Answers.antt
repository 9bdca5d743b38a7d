use Rattle.std.proofs.Common.{sym, ◌∙◌}
use Rattle.c_lower_program.proofs.OfGlue.Params.{not_first}
use Rattle.c_lower_program.proofs.glue.keys.key_param.Goals as goal

pub loop-v-preserved : goal.loop-v-preserved
loop-v-preserved c =
    not_first _ c.loop-v.v c.args.func.now.params _ c.loop-v-test.true (sym c.is_tracked_by.ensures ∙ c.if-is_tracked_by.false) c.loop-v.invariant
