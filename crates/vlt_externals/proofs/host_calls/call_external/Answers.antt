use Rattle.std.proofs.Common.{subst}
use Rattle.vlt_core.specs.View.{program_of, func_of, keys_of}
use Rattle.vlt_externals.specs.HostAnswers.Read.{AreSets}
use Rattle.vlt_externals.proofs.OfHostAnswers.Instances.{clause_is, sets_in}
use Rattle.vlt_externals.proofs.OfHostCalls.Instances.{lists_in}
use Rattle.vlt_externals.proofs.OfHostCalls.Choosing.{can_within, can_as, calls_as}
use Rattle.vlt_externals.proofs.host_calls.call_external.Goals as goal

pub call_instance-requires-clause-within : goal.call_instance-requires-clause-within
call_instance-requires-clause-within g c = can_within (program_of c.args.program.now) (func_of c.args.g.now) c.args.target (keys_of c.args.keys.now) c.args.heap.now c.args.values.now c.args.host.now c.called_origin-origin.result c.called_origin-origin.ensures c.requires.can

pub call_instance-requires-clause-lists : goal.call_instance-requires-clause-lists
call_instance-requires-clause-lists g c = lists_in (program_of c.args.program.now) (func_of c.args.g.now) c.called_origin-origin.result (keys_of c.args.keys.now) c.requires.lists

pub call_instance-requires-clause-sets : goal.call_instance-requires-clause-sets
call_instance-requires-clause-sets g c =
    subst (AreSets (program_of c.args.program.now) (func_of c.args.g.now)) (clause_is (program_of c.args.program.now) (func_of c.args.g.now) c.called_origin-origin.result (func_of c.args.g.now).clause)
    (sets_in (program_of c.args.program.now) (func_of c.args.g.now) c.called_origin-origin.result (func_of c.args.g.now).clause (can_within (program_of c.args.program.now) (func_of c.args.g.now) c.args.target (keys_of c.args.keys.now) c.args.heap.now c.args.values.now c.args.host.now c.called_origin-origin.result c.called_origin-origin.ensures c.requires.can) c.requires.sets)

pub call_instance-requires-clause-can : goal.call_instance-requires-clause-can
call_instance-requires-clause-can g c = can_as (program_of c.args.program.now) (func_of c.args.g.now) c.args.target (keys_of c.args.keys.now) c.args.heap.now c.args.values.now c.args.host.now c.called_origin-origin.result c.called_origin-origin.ensures c.requires.can

pub returns-clause-calls : goal.returns-clause-calls
returns-clause-calls g c =
    calls_as (program_of c.args.program.now) (func_of c.args.g.now) c.args.target (keys_of c.args.keys.now) c.args.heap.now c.args.values.now c.args.host.now c.called_origin-origin.result c.called_origin-origin.ensures c.call_instance.new.heap c.call_instance.new.values c.call_instance.new.host
    (record { written = g.K.Sink.written c.args.sink.now; faults = g.K.Sink.faults c.args.sink.now }) (record { written = g.K.Sink.written c.call_instance.new.sink; faults = g.K.Sink.faults c.call_instance.new.sink })
    c.call_instance.result c.call_instance.ensures.calls
