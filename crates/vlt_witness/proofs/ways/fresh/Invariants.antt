use Rattle.std.proofs.Common.{◌⊎◌, List}
use Rattle.vlt_core.specs.Found.{One}
use Rattle.vlt_core.specs.Witness.{Choice}
use Rattle.vlt_core_laws.specs.Sweep.{In}
use Rattle.vlt_faults.specs.Finding.Ones.{many_of}
use Rattle.vlt_witness.specs.Ways.{one_of, On}
use Rattle.vlt_witness.proofs.ways.fresh.Given as goal

abbrev pub invariant-loop-way : goal.invariant-loop-way
invariant-loop-way l = record {
  less : (o : One) → In (many_of l.left) o → In (many_of l.fn.ones) o;
  rest : (o : One) → In (many_of l.fn.ones) o → In (many_of l.left) o ⊎ ((cs : List Choice) × On l.list (one_of l.from) o cs);
}
