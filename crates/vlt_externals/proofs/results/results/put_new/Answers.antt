use Rattle.std.proofs.Common.{subst}
use Rattle.vlt_externals.specs.Results.Results.{MakesIn}
use Rattle.vlt_externals.proofs.OfResults.Giving.{new_put, new_full}
use Rattle.vlt_externals.proofs.results.results.put_new.Goals as goal

pub returns-in-Err-clause-puts : goal.returns-in-Err-clause-puts
returns-in-Err-clause-puts c =
    new_full c.args.values.now c.args.values.now c.args.heap.now c.make_in.new.heap c.args.t.0 c.args.new.state c.args.new.key.0 c.args.to c.in-Err.e (subst (MakesIn c.args.t.0 c.args.new.state c.args.heap.now c.make_in.new.heap) c.in-Err.is c.make_in.ensures.makes)

pub returns-in-Ok-clause-puts : goal.returns-in-Ok-clause-puts
returns-in-Ok-clause-puts c =
    new_put c.args.values.now c.put_key.new.self c.put_single.new.self c.args.heap.now c.make_in.new.heap c.args.t.0 c.args.new.state c.args.new.key.0 c.args.to c.in-Ok.number c.in-Ok.o (subst (MakesIn c.args.t.0 c.args.new.state c.args.heap.now c.make_in.new.heap) c.in-Ok.is c.make_in.ensures.makes)
    c.requires.wide c.requires.key c.requires.following c.put_key.ensures c.put_single.ensures.kept c.put_single.ensures.filled
