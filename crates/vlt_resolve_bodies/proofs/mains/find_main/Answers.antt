use Rattle.std.proofs.Common.{map}
use Rattle.std.proofs.lemmas.Iterator.Adapters.{position_from-zero}
use Rattle.vlt_core.specs.View.{func_of}
use Rattle.vlt_elaboration.specs.Elaboration as e
use Rattle.vlt_resolve_bodies.proofs.mains.find_main.Goals as goal

pub loop-i-init : goal.loop-i-init
loop-i-init c = position_from-zero e.is_main (map func_of c.args.heads.now)
