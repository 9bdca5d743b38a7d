-- What is told of views and of joined trees: they are of the language, and two views that are tested link.
use Rattle.std.proofs.Common.{◌≡◌, ◌≤◌, Bool, true, false, [], length, None, Ok, sym, subst}
use Rattle.vlt_base.specs.Limits.{limit_of}
use Rattle.vlt_base.specs.declared.limits.TheConstants.{DECLARATIONS}
use Rattle.vlt_syntax.specs.Tree.{Tree}
use Rattle.vlt_syntax.specs.Grammar.{IsTree, language}
use Rattle.vlt_kinds_types.specs.Kinds.{Kinds}
use Rattle.vlt_core.specs.Core.{Program}
use Rattle.vlt_fit_laws.specs.Fit.{IsJudgeable, IsTextTree}
use Rattle.vlt_iface.specs.View.{View, viewed, joined}
use Rattle.vlt_iface.specs.Rules.{view_refused}
use Rattle.vlt_iface.specs.Clash.{clashing}
use Rattle.vlt_iface.specs.Told.{view_told, joined_told}
use Rattle.vlt_views.specs.Views.{view_kinds_told, view_elaborated}
use Rattle.vlt_link_laws.specs.Link.{IsPassed, IsTested, IsAcceptedText}
use Rattle.vlt_link_laws.proofs.Texts.{language_of}
use Rattle.vlt_link_laws.proofs.Joining.{joined_text}
use Rattle.vlt_link_laws.proofs.Judging.{judgeable}
use Rattle.vlt_link_laws.proofs.Passing.{accepted_link}

-- the laws on what is told
abbrev AreViews : Type 0
AreViews = (i m : Tree) (v : View) → view_told i m ≡ Ok v → (view_refused i m ≡ None) × (viewed i m ≡ v)

abbrev AreFew : Type 0
AreFew = (i m : Tree) (v : View) → view_told i m ≡ Ok v → length v.tree.decls ≤ limit_of DECLARATIONS

abbrev AreJoined : Type 0
AreJoined =
    (i f g t : Tree) → joined_told i f g ≡ Ok t →
    (joined i f g ≡ t) × (clashing f g ≡ []) × (length t.decls ≤ limit_of DECLARATIONS)

module _ (are_views : AreViews) where
  module _ (are_few : AreFew) where
    pub told_trees : (i m : Tree) (v : View) → IsTree language i → IsTree language m → view_told i m ≡ Ok v → IsTree language v.tree
    told_trees i m v x y e =
        let is = (are_views i m v e).1 in
        subst (λ w. IsTree language w.tree) is (language_of i m x y, subst (λ w. length w.tree.decls ≤ limit_of DECLARATIONS) (sym is) (are_few i m v e))

    pub judgeable_views : (i m : Tree) (v : View) → IsTextTree i → IsTextTree m → view_told i m ≡ Ok v → (with_main : Bool) (kinds : Kinds) (p : Program) →
        view_kinds_told v ≡ Ok kinds → view_elaborated v kinds with_main ≡ Ok p → IsJudgeable p
    judgeable_views i m v x y e with_main kinds p told gives =
        let same = sym (are_views i m v e).1 in
        judgeable i m x y with_main kinds p (subst (λ w. view_kinds_told w ≡ Ok kinds) same told)
        (subst (λ w. view_elaborated w kinds with_main ≡ Ok p) same gives) (subst (λ w. length w.tree.decls ≤ limit_of DECLARATIONS) same (are_few i m v e))

  passed_of : (i m : Tree) (with_main : Bool) → IsTested i m with_main → IsPassed i m with_main
  passed_of i m with_main x =
      let both = are_views i m x.view x.viewed in
      record {
        given = both.0;
        kinds = x.kinds;
        told = subst (λ w. view_kinds_told w ≡ Ok x.kinds) (sym both.1) x.told;
        program = x.program;
        gives = subst (λ w. view_elaborated w x.kinds with_main ≡ Ok x.program) (sym both.1) x.gives;
        accepted = x.accepted;
      }

  pub tested_link : AreJoined → (i f g t : Tree) → IsTextTree i → IsTextTree f → IsTextTree g → IsTested i f false → IsTested i g true → joined_told i f g ≡ Ok t → IsAcceptedText t
  tested_link are_joined i f g t x y z first second e =
      let j = are_joined i f g t e in
      subst IsAcceptedText j.0
      (accepted_link i f g x y z (passed_of i f false first) (passed_of i g true second) j.1 (subst (λ u. length u.decls ≤ limit_of DECLARATIONS) (sym j.0) j.2))

pub told_text : AreJoined → (i f g t : Tree) → IsTextTree i → IsTextTree f → IsTextTree g → joined_told i f g ≡ Ok t → IsTextTree t
told_text are_joined i f g t x y z e =
    let j = are_joined i f g t e in
    subst IsTextTree j.0 (joined_text i f g x y z (subst (λ u. length u.decls ≤ limit_of DECLARATIONS) (sym j.0) j.2))
