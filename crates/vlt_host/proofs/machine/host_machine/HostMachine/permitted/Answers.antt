use Rattle.std.proofs.Common.{◌∙◌, Some, None, map, sym, ap, subst}
use Rattle.vlt_core.specs.View.{func_of, program_of}
use Rattle.vlt_host_meaning.specs.Tables.{argument_of}
use Rattle.vlt_host_meaning.specs.Permitted.{is_permitted}
use Rattle.vlt_host.specs.Machine.HostMachine.{setup_in, program_in, HaveObjects}
use Rattle.vlt_host.proofs.OfMachine.Between.{hosted_shows, found_func, may_call_it, may_call_none}
use Rattle.vlt_host.proofs.machine.host_machine.HostMachine.permitted.Goals as goal

pub permits_call-requires-clause-keys : goal.permits_call-requires-clause-keys
permits_call-requires-clause-keys c =
    c.requires.hosted.callable.keys c.args.f.0 (func_of c.in-Some-get.func.now) (found_func c.args.self.now.program.now c.args.f.0 (Some c.in-Some-get.func.now) c.in-Some-get.ensures.value)

pub returns-in-None-get : goal.returns-in-None-get
returns-in-None-get c = λ objects h.
    sym (may_call_none (program_in c.args.self.now) c.args.f.0 (map argument_of c.args.args.now) objects (found_func c.args.self.now.program.now c.args.f.0 None c.in-None-get.ensures.value))

pub returns-in-Some-get : goal.returns-in-Some-get
returns-in-Some-get c = λ objects h.
    let f = func_of c.in-Some-get.func.now in
    let args = map argument_of c.args.args.now in
    c.permits_call.ensures objects
    (hosted_shows c.hosted.result (setup_in c.args.self.now) c.in-Some.tables objects c.hosted.ensures.heap c.hosted.ensures.held (subst (λ o. HaveObjects (setup_in c.args.self.now) o objects) c.in-Some.is h)) ∙
    (ap (λ p. is_permitted (program_of p) c.args.f.0 f args objects) c.hosted.ensures.program ∙
    sym (may_call_it (program_in c.args.self.now) c.args.f.0 f args objects (found_func c.args.self.now.program.now c.args.f.0 (Some c.in-Some-get.func.now) c.in-Some-get.ensures.value)))
