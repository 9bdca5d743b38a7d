use Rattle.std.proofs.Common.{◌↔◌, subst}
use Rattle.vlt_core.specs.Found.{Has}
use Rattle.vlt_core.specs.View.{tok_of}
use Rattle.vlt_core_laws.specs.Sweep.{In}
use Rattle.vlt_faults.specs.Finding.Ones.{many_of}
use Rattle.vlt_witness.proofs.explain.start_of.Goals as goal

pub returns : goal.returns
returns c = λ o. subst (λ m. In (many_of c.start_ones.result) o ↔ Has (m (tok_of c.args.fault.now.tok)) o) c.in_ok-start.ensures.map (c.start_ones.ensures o)
