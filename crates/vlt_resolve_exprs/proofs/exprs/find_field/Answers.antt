use Rattle.std.proofs.Common.{map}
use Rattle.std.proofs.lemmas.Iterator.Adapters.{position_from-zero}
use Rattle.std.specs.Str.{bytes_eq}
use Rattle.vlt_syntax.specs.View.{name_of}
use Rattle.vlt_core.specs.View.{field_of}
use Rattle.vlt_resolve_exprs.proofs.exprs.find_field.Goals as goal

pub loop-i-init : goal.loop-i-init
loop-i-init c = position_from-zero (λ d. bytes_eq (name_of c.args.name.now).text d.name) (map field_of c.args.fields.now)
