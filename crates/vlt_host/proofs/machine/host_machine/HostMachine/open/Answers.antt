use Rattle.std.proofs.Common.{arith}
use Rattle.vlt_core.specs.View.{program_of}
use Rattle.vlt_host.proofs.OfMachine.Between.{first_objects, first_ready}
use Rattle.vlt_host.proofs.machine.host_machine.HostMachine.open.Goals as goal

pub returns-clause-hosted : goal.returns-clause-hosted
returns-clause-hosted c = record {
  callable = c.requires;
  ready =
      first_ready (program_of c.args.p.now) c.args.b (record { start = c.in_ok-prepare.field-0; held = c.in_ok-open.field-0; result_line = c.in_ok-with_capacity.field-0 })
      c.in_ok-prepare.ensures c.in_ok-open.ensures.sound c.in_ok-open.ensures.empty c.in_ok-open.ensures.room (omega (arith, c.in_ok-with_capacity.ensures.capacity));
}

pub returns-clause-objects : goal.returns-clause-objects
returns-clause-objects c =
    first_objects (program_of c.args.p.now) c.args.b (record { start = c.in_ok-prepare.field-0; held = c.in_ok-open.field-0; result_line = c.in_ok-with_capacity.field-0 })
    c.in_ok-prepare.ensures c.in_ok-open.ensures.sound c.in_ok-open.ensures.empty c.in_ok-open.ensures.room (omega (arith, c.in_ok-with_capacity.ensures.capacity))
