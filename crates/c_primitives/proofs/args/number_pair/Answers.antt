use Rattle.std.proofs.Common.{rules, sym, ◌∙◌, SFits, w64}
use Rattle.std.proofs.lemmas.Int.{to_z-of_z}
use Rattle.c_syntax.specs.View.{arg_of}
use Rattle.c_values.specs.Shown.{shown_vars}
use Rattle.c_primitives.proofs.Arguments.{pair_is}
use Rattle.c_primitives.proofs.args.number_pair.Goals as goal

pub returns-in-Ok-number : goal.returns-in-Ok-number
returns-in-Ok-number c = λ ts made.
    let f : SFits w64 c.in-Ok.a = search rules in
    let g : SFits w64 c.in-Ok-number.b = search rules in
    rw (to_z-of_z w64 c.in-Ok.a f, to_z-of_z w64 c.in-Ok-number.b g)
    (pair_is (arg_of c.args.x.now) (arg_of c.args.y.now) (shown_vars c.args.vars) c.in-Ok.a c.in-Ok-number.b (sym c.in-Ok.is ∙ c.number.ensures ts made) (sym c.in-Ok-number.is ∙ c.number-in-Ok.ensures ts made))
