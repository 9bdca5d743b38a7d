use Rattle.std.proofs.Common.{map}
use Rattle.std.proofs.lemmas.Iterator.Adapters.{position_from-zero}
use Rattle.std.specs.Str.{bytes_eq}
use Rattle.vlt_syntax.specs.View as view
use Rattle.vlt_kinds_types.proofs.listed.position_of.Goals as goal

pub loop-i-init : goal.loop-i-init
loop-i-init c = position_from-zero (bytes_eq (view.name_of c.args.name.now).text) (map (λ n. n) c.args.names.now)
