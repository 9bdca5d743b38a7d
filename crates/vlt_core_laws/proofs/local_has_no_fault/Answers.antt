use Rattle.std.proofs.Common.{None}
use Rattle.vlt_core.specs.Bodies.{body_flow}
use Rattle.vlt_core.specs.Derives.{start_map}
use Rattle.vlt_core.specs.Found.{Has}
use Rattle.vlt_core_laws.proofs.Founds.{local_out_block}
use Rattle.vlt_core_laws.proofs.Spots.{faulty_block}
use Rattle.vlt_core_laws.proofs.local_has_no_fault.Goals as goal

pub returns : goal.returns
returns c = λ p f a local fault.
    let t = fault.1.0 in
    let h = start_map p f in
    (local_out_block (body_flow p f) t a None 0 h (Has (h t)) (record { each = λ o x. x }) local).1
    (faulty_block (body_flow p f) fault.0 t 0 (Has (h t)) fault.1.1)
