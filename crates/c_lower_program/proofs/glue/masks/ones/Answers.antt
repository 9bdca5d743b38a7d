use Rattle.std.proofs.Common.{pos, ap, ◌∙◌, w64}
use Rattle.std.proofs.lemmas.Int.{to_z_pos}
use Rattle.c_lower_program.proofs.OfGlue.Sums.{all_ones, ones_fit}
use Rattle.c_lower_program.proofs.glue.masks.ones.Goals as goal

pub returns : goal.returns
returns c = to_z_pos w64 _ (ones_fit c.args.count c.requires) ∙ ap pos (all_ones c.args.count c.requires)
