use Rattle.std.proofs.Common.{◌≡◌, length, refl, ap, ◌∙◌, arith}
use Rattle.std.specs.Option.{option_map}
use Rattle.std.proofs.lemmas.Bool.Decides.{nat_tests}
use Rattle.std.proofs.lemmas.Option.{slice_get-map, slice_get_read}
use Rattle.c_syntax.specs.View.{func_of}
use Rattle.c_reader.proofs.program.position.Goals as goal

pub returns-then-fns-at-clause-found : goal.returns-then-fns-at-clause-found
returns-then-fns-at-clause-found c =
    let fns = c.args.fns.now in
    let at = c.loop-at.at in
    let f = c.index-fns-at.result in
    let same : f.number ≡ c.args.number = grind (arith, nat_tests) in
    (func_of f, slice_get-map func_of fns at ∙ ap (option_map func_of) (slice_get_read fns (length fns) at f refl c.loop-at-test.true c.index-fns-at.is), same)
