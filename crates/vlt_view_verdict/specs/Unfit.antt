-- Why a view has no verdict, beside want of memory.
use Rattle.std.specs.Prelude.{◌≡◌, Bool, Ok}
use Rattle.vlt_core.specs.Core.{Program}
use Rattle.vlt_iface.specs.View.{View}
use Rattle.vlt_fit_laws.specs.Unfit.{HasUnfitBody}
use Rattle.vlt_view_verdict.specs.Verdicts.{view_program_told}

-- a body of the view's core program is unfit for the check
pub record HasUnfitView (v : View) (with_main : Bool) : Type 0 where
  pub program : Program
  pub told : view_program_told v with_main ≡ Ok program
  pub unfit : HasUnfitBody program
