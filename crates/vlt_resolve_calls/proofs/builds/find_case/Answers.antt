use Rattle.std.proofs.Common.{map}
use Rattle.std.proofs.lemmas.Iterator.Adapters.{position_from-zero}
use Rattle.std.specs.Str.{bytes_eq}
use Rattle.vlt_core.specs.View.{case_of}
use Rattle.vlt_resolve_calls.proofs.builds.find_case.Goals as goal

pub loop-i-init : goal.loop-i-init
loop-i-init c = position_from-zero (λ d. bytes_eq c.args.name.now d.name) (map case_of c.args.cases.now)
