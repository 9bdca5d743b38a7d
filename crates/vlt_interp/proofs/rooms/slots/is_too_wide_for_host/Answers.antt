use Rattle.std.proofs.Common.{◌≡◌, ◌+◌, ◌*◌, ap, ◌∙◌, arith}
use Rattle.std.proofs.lemmas.Bool.Decides.{nat_tests}
use Rattle.vlt_core.specs.View.{program_of}
use Rattle.vlt_interp.specs.Rooms.Sorts.{capped_count}
use Rattle.vlt_interp.proofs.OfRooms.Wide.{compared_more}
use Rattle.vlt_interp.proofs.rooms.slots.is_too_wide_for_host.Goals as goal

pub returns : goal.returns
returns c =
    let frames : c.saturating_mul-frames.result ≡ capped_count (c.args.depth * c.widest_function.result) = c.saturating_mul-frames.ensures ∙ ap (λ n. capped_count (n * c.widest_function.result)) c.from.ensures in
    let objects : c.saturating_mul-objects.result ≡ capped_count (c.args.heap * c.widest_type.result) = c.saturating_mul-objects.ensures ∙ ap (λ n. capped_count (n * c.widest_type.result)) c.from-2.ensures in
    let more : c.saturating_add.result ≡ capped_count (c.saturating_add-all.result + c.args.heap) = c.saturating_add.ensures ∙ ap (λ n. capped_count (c.saturating_add-all.result + n)) c.from-3.ensures in
    let k = compared_more (program_of c.args.p.now) c.args.depth c.args.heap c.widest_function.result c.widest_type.result c.saturating_mul-frames.result c.saturating_mul-objects.result c.saturating_add-all.result c.saturating_add.result 16777216 (omega arith) c.widest_function.ensures c.widest_type.ensures frames objects c.saturating_add-all.ensures more in
    (λ e. k.0 (grind (arith, nat_tests)), λ e. grind (arith, nat_tests, k.1 e))
