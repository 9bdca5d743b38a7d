-- Two views of an interface that are accepted link: the joined tree is accepted.
use Rattle.std.specs.Prelude.{◌≡◌, ◌≤◌, ◌++◌, Bool, true, false, [], length, None, Ok, Contains}
use Rattle.vlt_base.specs.Limits.{limit_of}
use Rattle.vlt_base.specs.declared.limits.TheConstants.{DECLARATIONS}
use Rattle.vlt_syntax.specs.Tree.{Tree}
use Rattle.vlt_syntax.specs.Lists.{Each}
use Rattle.vlt_syntax.specs.Spelling.{spelling}
use Rattle.vlt_syntax.specs.Grammar.{IsTree, language}
use Rattle.vlt_core.specs.Core.{Program}
use Rattle.vlt_core.specs.Kinded.{HasKindedParts, IsKinded}
use Rattle.vlt_core.specs.Derives.{IsAccepted}
use Rattle.vlt_kinds_types.specs.Kinds.{Kinds}
use Rattle.vlt_kinds.specs.Tables.{kinds_told}
use Rattle.vlt_elaboration.specs.Elaboration.{elaborated}
use Rattle.vlt_iface.specs.View.{View, viewed, joined}
use Rattle.vlt_iface.specs.Rules.{view_refused}
use Rattle.vlt_iface.specs.Told.{view_told, joined_told}
use Rattle.vlt_iface.specs.Clash.{clashing}
use Rattle.vlt_fit_laws.specs.Fit.{IsTextTree, IsJudgeable}
use Rattle.vlt_views.specs.Views.{view_kinds_told, view_elaborated}

-- The view of the interface with this module passes all rules, that on main only where it is wanted, and is accepted.
pub record IsPassed (i m : Tree) (with_main : Bool) : Type 0 where
  -- the rules on what is given
  pub given : view_refused i m ≡ None
  pub kinds : Kinds
  pub told : view_kinds_told (viewed i m) ≡ Ok kinds
  pub program : Program
  pub gives : view_elaborated (viewed i m) kinds with_main ≡ Ok program
  pub accepted : IsAccepted program

-- The tree is one of the language, no rule refuses it, its elaboration is a program, and that is accepted.
pub record IsAcceptedText (t : Tree) : Type 0 where
  pub text : IsTextTree t
  pub kinds : Kinds
  pub told : kinds_told t ≡ Ok kinds
  pub program : Program
  pub gives : elaborated t kinds ≡ Ok program
  pub accepted : IsAccepted program

-- Where both views pass, the second with a main, no names clash and there aren't too many declarations, the joined tree is accepted.
abbrev pub AcceptedViewsLink : Type 0
AcceptedViewsLink = (i f g : Tree) → IsTextTree i → IsTextTree f → IsTextTree g →
    IsPassed i f false → IsPassed i g true → clashing f g ≡ [] →
    length (joined i f g).decls ≤ limit_of DECLARATIONS → IsAcceptedText (joined i f g)

-- The program of a view breaks none of the core's rules, that on main aside where it wasn't tested.
abbrev pub ViewProgramsAreKinded : Type 0
ViewProgramsAreKinded = (i m : Tree) → IsTextTree i → IsTextTree m →
    (with_main : Bool) (kinds : Kinds) (p : Program) → view_kinds_told (viewed i m) ≡ Ok kinds →
    view_elaborated (viewed i m) kinds with_main ≡ Ok p →
    HasKindedParts p × (with_main ≡ true → IsKinded p)

-- Each token that a joined tree is spelled with is one of those that its three files are spelled with.
abbrev pub JoinedTokensAreThoseOfFiles : Type 0
JoinedTokensAreThoseOfFiles = (i f g : Tree) →
    Each (Contains (spelling i ++ (spelling f ++ spelling g))) (spelling (joined i f g))

-- ---- by what is told of views and of joined trees

-- a view that is told is one of the language
abbrev pub ToldViewsAreTrees : Type 0
ToldViewsAreTrees = (i m : Tree) (v : View) → IsTree language i → IsTree language m → view_told i m ≡ Ok v → IsTree language v.tree

-- its program is one that the check may be asked of, whether the rule on main was tested or not
abbrev pub ViewProgramsAreJudgeable : Type 0
ViewProgramsAreJudgeable = (i m : Tree) (v : View) → IsTextTree i → IsTextTree m → view_told i m ≡ Ok v →
    (with_main : Bool) (kinds : Kinds) (p : Program) → view_kinds_told v ≡ Ok kinds →
    view_elaborated v kinds with_main ≡ Ok p → IsJudgeable p

-- a joined tree that is told of trees as texts have them is one of those
abbrev pub ToldJoinsAreTextTrees : Type 0
ToldJoinsAreTextTrees = (i f g t : Tree) → IsTextTree i → IsTextTree f → IsTextTree g → joined_told i f g ≡ Ok t → IsTextTree t

-- the view that is told of these passes all rules, and is accepted
pub record IsTested (i m : Tree) (with_main : Bool) : Type 0 where
  pub view : View
  pub viewed : view_told i m ≡ Ok view
  pub kinds : Kinds
  pub told : view_kinds_told view ≡ Ok kinds
  pub program : Program
  pub gives : view_elaborated view kinds with_main ≡ Ok program
  pub accepted : IsAccepted program

-- Where both views are, the second with a main, a joined tree that is told is accepted.
abbrev pub TestedViewsLink : Type 0
TestedViewsLink = (i f g t : Tree) → IsTextTree i → IsTextTree f → IsTextTree g →
    IsTested i f false → IsTested i g true → joined_told i f g ≡ Ok t → IsAcceptedText t
