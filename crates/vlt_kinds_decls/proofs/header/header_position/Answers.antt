use Rattle.std.proofs.Common.{map}
use Rattle.std.proofs.lemmas.Iterator.Adapters.{position_from-zero}
use Rattle.std.specs.Str.{bytes_eq}
use Rattle.vlt_syntax.specs.View as view
use Rattle.vlt_kinds_decls.proofs.header.header_position.Goals as goal

pub loop-i-init : goal.loop-i-init
loop-i-init c = position_from-zero (λ p. bytes_eq c.args.key.now p.key.text) (map view.header_key_of c.args.params.now)
