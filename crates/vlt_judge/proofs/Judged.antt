-- Verdicts, from what each step says of a tree.
use Rattle.std.proofs.Common.{◌≡◌, Result, Ok, Err, ap, ◌∙◌}
use Rattle.vlt_syntax.specs.Tree.{Tree}
use Rattle.vlt_core.specs.Core.{Program}
use Rattle.vlt_core.specs.Faults.{FlowFault, IsFirstFault}
use Rattle.vlt_kinds_types.specs.declared.names.found.Refusal.{Refusal}
use Rattle.vlt_kinds_types.specs.Kinds.{Kinds}
use Rattle.vlt_kinds.specs.Tables.{kinds_told}
use Rattle.vlt_elaboration.specs.Elaboration.{Refused, broken, elaborated}
use Rattle.vlt_elaboration.specs.Programs.{with_kinds, program_told}
use Rattle.vlt_verdict.specs.Verdicts.{refused, faulty, IsVerdictOf}

pub declarations_refused : (t : Tree) (r : Refusal) → kinds_told t ≡ Err r → IsVerdictOf t (refused (broken r.rule r.at))
declarations_refused t r e = ap (with_kinds t) e

-- what comes of a tree whose declarations aren't refused
pub told_of : (t : Tree) (kinds : Kinds) (x : Result Program Refused) → kinds_told t ≡ Ok kinds → elaborated t kinds ≡ x →
    program_told t ≡ x
told_of t kinds x e is = ap (with_kinds t) e ∙ is

-- a program that is refused has a function with the fault
pub faulty_there : (t : Tree) (p : Program) (x : FlowFault) → program_told t ≡ Ok p → (first : IsFirstFault p x) →
    IsVerdictOf t (faulty p first.func x)
faulty_there t p x told first = (told, record { there = first.there; first = first })
