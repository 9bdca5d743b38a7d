use Rattle.std.proofs.Common.{length, ap, sym, ◌∙◌}
use Rattle.std.proofs.lemmas.List.{length-map}
use Rattle.c_syntax.specs.View.{func_of}
use Rattle.c_interp.proofs.Positions.{firsts_long}
use Rattle.c_interp.proofs.rules.Rules.main.Goals as goal

pub nth-requires : goal.nth-requires
nth-requires c = ap length c.as_slice-2.ensures.value ∙ ap length c.requires.fns ∙ firsts_long _ _ ∙ length-map c.args.self.now.program.now.fns func_of ∙ sym (ap length c.as_slice.ensures)
