-- The program of a view of texts is one that the check may be asked of; verdicts from what each step says.
use Rattle.std.proofs.Common.{◌≡◌, Bool, Result, Ok, Err, ap, ◌∙◌}
use Rattle.vlt_core.specs.Core.{Program}
use Rattle.vlt_core.specs.Faults.{FlowFault, IsFirstFault}
use Rattle.vlt_kinds_types.specs.declared.names.found.Refusal.{Refusal}
use Rattle.vlt_kinds_types.specs.Kinds.{Kinds}
use Rattle.vlt_elaboration.specs.Elaboration.{Refused, broken}
use Rattle.vlt_iface.specs.View.{View}
use Rattle.vlt_views.specs.Views.{view_kinds_told, view_elaborated}
use Rattle.vlt_link_laws.specs.Link.{ViewProgramsAreJudgeable}
use Rattle.vlt_fit_laws.specs.Fit.{IsJudgeable}
use Rattle.vlt_verdict.specs.Laws.{GivesWellFormed}
use Rattle.vlt_verdict.specs.Verdicts.{refused, faulty}
use Rattle.vlt_view_verdict.specs.Verdicts.{with_view_kinds, view_program_told, IsVerdictOfView}
use Rattle.vlt_view_verdict.specs.Views.{IsViewOfTexts}
use Rattle.vlt_view_verdict.proofs.Linked.{with_its_kinds}

pub declarations_refused : (v : View) (with_main : Bool) (r : Refusal) → view_kinds_told v ≡ Err r → IsVerdictOfView v with_main (refused (broken r.rule r.at))
declarations_refused v with_main r e = ap (with_view_kinds v with_main) e

-- what comes of a view whose declarations aren't refused
pub told_of : (v : View) (with_main : Bool) (kinds : Kinds) (x : Result Program Refused) → view_kinds_told v ≡ Ok kinds → view_elaborated v kinds with_main ≡ x →
    view_program_told v with_main ≡ x
told_of v with_main kinds x e is = ap (with_view_kinds v with_main) e ∙ is

-- a program that is refused has a function with the fault
pub faulty_there : (v : View) (with_main : Bool) (p : Program) (x : FlowFault) → view_program_told v with_main ≡ Ok p → (first : IsFirstFault p x) →
    IsVerdictOfView v with_main (faulty p first.func x)
faulty_there v with_main p x told first = (told, record { there = first.there; first = first })

module _ (law : ViewProgramsAreJudgeable) (v : View) (is : IsViewOfTexts v) (with_main : Bool) where
  pub judgeable : (kinds : Kinds) (p : Program) → view_kinds_told v ≡ Ok kinds → view_elaborated v kinds with_main ≡ Ok p → IsJudgeable p
  judgeable kinds p told gives = law is.interface is.own v is.interface_text is.own_text is.told with_main kinds p told gives

  pub gives_well_formed : GivesWellFormed (view_program_told v with_main)
  gives_well_formed p e = let k = with_its_kinds v with_main p e in (judgeable k.kinds p k.told k.gives).well_formed
