-- Modules whose views are accepted link.
use Rattle.std.specs.Prelude.{◌≡◌, Bool, true, false, Ok}
use Rattle.vlt_syntax.specs.Tree.{Tree}
use Rattle.vlt_core.specs.Core.{Program}
use Rattle.vlt_iface.specs.View.{View}
use Rattle.vlt_iface.specs.Told.{view_told, joined_told}
use Rattle.vlt_link_laws.specs.Link.{IsAcceptedText}
use Rattle.vlt_fit_laws.specs.Fit.{IsTextTree}
use Rattle.vlt_verdict.specs.Verdicts.{accepted}
use Rattle.vlt_view_verdict.specs.Verdicts.{IsVerdictOfView}

-- the view of the interface with this module follows all rules, that on `main` where one is wanted
pub record IsAcceptedWith (interface own : Tree) (with_main : Bool) : Type 0 where
  pub view : View
  pub told : view_told interface own ≡ Ok view
  pub program : Program
  pub is : IsVerdictOfView view with_main (accepted program)

-- Where both views do, the second with a main, the joined tree that is told is one of the language, no rule refuses it, and its
-- program is accepted.
abbrev pub AcceptedModulesLink : Type 0
AcceptedModulesLink =
    (i f g t : Tree) → IsTextTree i → IsTextTree f → IsTextTree g → IsAcceptedWith i f false →
    IsAcceptedWith i g true → joined_told i f g ≡ Ok t → IsAcceptedText t
