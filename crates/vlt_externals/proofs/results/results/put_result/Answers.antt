use Rattle.std.proofs.Common.{ap}
use Rattle.std.specs.Option.{option_map}
use Rattle.vlt_core.specs.Instances.{instance}
use Rattle.vlt_core.specs.View.{program_of, func_of, ty_of, keys_of}
use Rattle.vlt_externals.proofs.OfResults.Giving.{none_result}
use Rattle.vlt_externals.proofs.results.results.put_result.Goals as goal

pub returns-in-None-clause-puts : goal.returns-in-None-clause-puts
returns-in-None-clause-puts c = λ sets.
    none_result (program_of c.args.program.now) (instance (program_of c.args.program.now) (func_of c.args.g.now) c.args.origin) (keys_of c.args.keys.now) c.args.answer.now c.args.left.now c.args.to c.args.values.now c.put_fresh.new.values c.args.heap.now c.put_fresh.new.heap c.put_fresh.result (ap (option_map ty_of) c.in-None.is) (c.put_fresh.ensures.puts sets)
