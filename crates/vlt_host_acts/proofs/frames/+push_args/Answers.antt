use Rattle.std.proofs.Common.{◌≡◌, ◌∷◌, true, map, length, sym, subst}
use Rattle.vlt_acts.specs.Values.Pushed.{HaveValues}
use Rattle.vlt_host_meaning.specs.Calls.{value_of_argument}
use Rattle.vlt_host_meaning.specs.Tables.{argument_of}
use Rattle.vlt_host_meaning.specs.Permitted.{arguments_fit}
use Rattle.vlt_host_acts.specs.Frames.{part_of_argument}
use Rattle.vlt_host_acts.proofs.Called.{fit_first, given_first}
use Rattle.vlt_host_acts.proofs.frames.+push_args.Goals as goal

pub returns-in-Some-clause-given : goal.returns-in-Some-clause-given
returns-in-Some-clause-given t c = λ objects s tys fit.
    let a = c.in-Some.a.now in
    let rest = c.in-Some.rest.now in
    let xs : c.args.args.now ≡ a ∷ rest = c.in-Some.ensures.cases.0 in
    let q =
    fit_first objects tys (argument_of a) (map argument_of rest)
    (subst (λ ys. arguments_fit objects tys (map argument_of ys) ≡ true) xs fit) in
    subst (λ ys. HaveValues s.items c.push_args.new.values.slots.items (length c.args.values.now.slots.items) c.args.values.now.width (map value_of_argument (map argument_of ys))) (sym xs)
    (given_first s.items c.args.values.now c.push_single.new.values c.push_args.new.values (argument_of a) (map argument_of rest)
    c.push_single.ensures.long c.push_single.ensures.grown.width c.push_args.ensures.grown
    (c.push_single.ensures.value s.items (part_of_argument (argument_of a)) (c.slot_of-front.ensures objects s q.0 q.2))
    (c.push_args.ensures.given objects s q.1 q.3))
