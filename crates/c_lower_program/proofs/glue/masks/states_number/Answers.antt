use Rattle.std.proofs.Common.{◌<◌, ◌^◌, pos, sym, ap, ◌∙◌, w64, to_z, of_z, arith}
use Rattle.std.proofs.lemmas.Int.{to_z_pos}
use Rattle.vlt_base.specs.States.{has_state}
use Rattle.c_lower_program.proofs.OfGlue.Sums.{sum_of_mask}
use Rattle.c_lower_program.proofs.glue.masks.states_number.Goals as goal

pub returns : goal.returns
returns c =
    let m = c.mask.result in
    let small : m < 2 ^ 32 = c.mask.type_inv in
    ap (λ z. to_z w64 (of_z w64 z)) c.from.ensures
    ∙ to_z_pos w64 m (omega arith)
    ∙ ap pos (sym (sum_of_mask m (has_state c.args.states) c.mask.ensures.states small))
