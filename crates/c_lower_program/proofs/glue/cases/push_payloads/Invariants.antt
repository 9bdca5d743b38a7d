use Rattle.std.proofs.Common.{◌≡◌, ◌++◌, drop, map}
use Rattle.vlt_core.specs.View.{ty_of}
use Rattle.c_syntax.specs.View.{stmt_of}
use Rattle.c_lower_program.specs.Glue.Parts.{payloads_code}
use Rattle.c_lower_program.proofs.glue.cases.push_payloads.Given as goal

abbrev pub invariant-loop-position : goal.invariant-loop-position
invariant-loop-position l =
    map stmt_of l.out ++ payloads_code l.part l.slots (drop l.position-index l.positions) (map ty_of l.rest)
    ≡ map stmt_of l.initial.out ++ payloads_code l.part l.slots l.positions (map ty_of l.fn.payload)
