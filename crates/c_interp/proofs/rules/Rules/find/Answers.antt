use Rattle.std.proofs.Common.{length, ap, sym, ◌∙◌}
use Rattle.std.proofs.lemmas.List.{length-map}
use Rattle.c_syntax.specs.View.{func_of}
use Rattle.c_interp.proofs.Positions.{firsts_long}
use Rattle.c_interp.proofs.rules.Rules.find.Goals as goal

pub among-requires : goal.among-requires
among-requires c =
    ap length c.as_slice-then-name.ensures.value ∙ ap length c.requires.glue ∙ firsts_long 0 _ ∙ length-map c.args.self.now.program.now.glue func_of ∙ sym (ap length c.as_slice.ensures)

pub among-requires-else-name : goal.among-requires-else-name
among-requires-else-name c =
    ap length c.as_slice-else-name-2.ensures.value ∙ ap length c.requires.fns ∙ firsts_long _ _ ∙ length-map c.args.self.now.program.now.fns func_of ∙ sym (ap length c.as_slice-else-name.ensures)
