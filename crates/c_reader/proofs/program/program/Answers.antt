use Rattle.std.proofs.Common.{◌≡◌, map, refl, sym, ap, ◌∙◌}
use Rattle.std.proofs.lemmas.Bool.{false≢true}
use Rattle.c_syntax.specs.View.{func_of}
use Rattle.c_parser.specs.View.{body_of}
use Rattle.c_reader.specs.Found.{has_number}
use Rattle.c_reader.proofs.Funcs.{main_found}
use Rattle.c_reader.proofs.program.program.Goals as goal

pub unreachable-requires : goal.unreachable-requires
unreachable-requires c =
    let main = c.args.unit.main in
    let fns = c.in_ok-glue.field-0.fns in
    let there = main_found main (map body_of c.args.unit.bodies.items) (map func_of fns) c.requires.main c.in_ok-glue.ensures.fns in
    let same : c.as_slice.result.now ≡ fns = c.as_slice.ensures in
    false≢true (sym (c.in_default.ensures.none refl) ∙ ap (λ fs. has_number main (map func_of fs)) same ∙ there)
