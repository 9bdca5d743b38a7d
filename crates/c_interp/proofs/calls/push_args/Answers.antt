use Rattle.std.proofs.Common.{rules, ◌≡◌, [], map, drop, refl, ap, arith}
use Rattle.std.proofs.lemmas.List.{length-map, drop_all}
use Rattle.c_syntax.specs.View.{arg_of}
use Rattle.c_interp.proofs.Pushing.{one_pushed, no_more, all_pushed, some_world}
use Rattle.c_interp.proofs.calls.push_args.Goals as goal

pub returns-in-Err-clause-pushed : goal.returns-in-Err-clause-pushed
returns-in-Err-clause-pushed c =
    no_more (map arg_of c.args.args.now) c.args.args.now c.loop-x.x-index c.x-item.result c.args.frames.now c.loop-x.frames c.vars_to.result c.len-end.result (omega (arith, c.loop-x-test.true)) c.x-item.is c.loop-x.invariant.pushing c.vars_to.ensures.names c.vars_to.ensures.values (search rules)
    some_world c.arg.result (λ ts m. c.arg.ensures ts m) c.in-Err.rule c.in-Err.is

pub loop-x-preserved : goal.loop-x-preserved
loop-x-preserved c = record {
  pushing = one_pushed (map arg_of c.args.args.now) c.args.args.now c.loop-x.x-index c.x-item.result c.args.frames.now c.loop-x.frames c.vars_to.result c.len-end.result (omega (arith, c.loop-x-test.true)) c.x-item.is c.loop-x.invariant.pushing c.vars_to.ensures.names c.vars_to.ensures.values (search rules)
      some_world c.arg.result (λ ts m. c.arg.ensures ts m) c.in-Ok.a (record c.loop-x.frames { values = c.put.new.items }) c.in-Ok.is (record { base = refl; func = refl; glue = refl; depth = refl }) c.put.ensures.room c.put.ensures.items;
  room = omega (arith, c.loop-x.invariant.room, c.put.ensures.room);
}

pub returns-clause-pushed : goal.returns-clause-pushed
returns-clause-pushed c =
    let none : map arg_of (drop c.loop-x.x-index c.args.args.now) ≡ [] = ap (map arg_of) (drop_all c.loop-x.x-index c.args.args.now (omega (arith, c.loop-x-test.false))) in
    all_pushed (map arg_of c.args.args.now) (map arg_of (drop c.loop-x.x-index c.args.args.now)) c.loop-x.x-index c.args.frames.now c.loop-x.frames c.loop-x.invariant.pushing none (let l = length-map c.args.args.now arg_of in omega (arith, l, c.loop-x-test.false, c.loop-x.auto.x-index-end))
