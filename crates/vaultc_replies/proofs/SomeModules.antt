-- It can't be that `module` or `link` has no reply to what it read.
use Rattle.std.proofs.Common.{◌≡◌, ⊎_elim, inl, inr, ℕ, Bool, true, false, if◌then◌else◌, List, Option, Some, None, Result, Ok, Err, refl}
use Rattle.std.specs.Prelude.{length, nat_lt}
use Rattle.vlt_base.specs.Limits.{limit_of}
use Rattle.vlt_base.specs.Sure.{Surely}
use Rattle.vlt_base.specs.declared.limits.TheConstants.{DECLARATIONS}
use Rattle.vlt_base.proofs.Surely.{sure, so, surely}
use Rattle.vlt_syntax.specs.Tree.{Decl, Tree}
use Rattle.vlt_core.specs.Core.{Program}
use Rattle.vlt_kinds_types.specs.declared.names.found.Refusal.{Refusal}
use Rattle.vlt_iface.specs.View.{View, viewed, joined}
use Rattle.vlt_iface.specs.Clash.{clashing}
use Rattle.vlt_iface.specs.Told.{Told, Place, place_of, broken, clash, exceeded, view_told, joined_told, unless_in, when_few, least_name, unless_clash}
use Rattle.vlt_fit_laws.specs.Fit.{IsTextTree}
use Rattle.vlt_fit_laws.specs.Texts.{TextsHaveTextTrees}
use Rattle.vlt_verdict.specs.Verdicts.{Verdict, refused, faulty, accepted}
use Rattle.vlt_view_verdict.specs.Laws.{ViewsHaveSomeVerdict}
use Rattle.vlt_view_verdict.specs.Link.{IsAcceptedWith}
use Rattle.vlt_view_verdict.specs.Verdicts.{IsVerdictOfView}
use Rattle.vlt_reports.specs.Reports.{fault_line}
use Rattle.vaultc_runs.specs.declared.status.TheConstants.{DONE, NO_PROGRAM, NOT_ACCEPTED}
use Rattle.vaultc_runs.specs.Lines.{Reply, reply, over_reply, in_file}
use Rattle.vaultc_runs.specs.Texts.{IsTextOf, refusal_reply}
use Rattle.vaultc_replies.specs.Modules.{File, IsReplyByTreeIn, rule_reply, refused_reply, IsReplyToView, module_line, IsReplyToModule, clash_line, IsReplyToJoined, IsReplyToLink}
use Rattle.vaultc_replies.proofs.Read.{read_in_one_way, text_tree}

-- no view has names that clash, and no joined tree breaks a rule on what is given
no_clash_few : {A : Type 0} (ds : List Decl) (x : A) (name : List ℕ) → ◌≡◌ {A = Result A Told} (when_few ds x) (Err (clash name)) → ⊥
no_clash_few {A} ds x name e = by (nat_lt (limit_of DECLARATIONS) (length ds)) e
  where
    by : (b : Bool) → ◌≡◌ {A = Result A Told} (if b then Err (exceeded DECLARATIONS) else Ok x) (Err (clash name)) → ⊥
    by true e = cc
    by false e = cc

no_clash_in : {A : Type 0} (file : ℕ) (o : Option Refusal) (go : Result A Told) (name : List ℕ) → (go ≡ Err (clash name) → ⊥) → unless_in file o go ≡ Err (clash name) → ⊥
no_clash_in file None go name more e = more e
no_clash_in file (Some r) go name more e = cc

no_clash : (i m : Tree) (name : List ℕ) → view_told i m ≡ Err (clash name) → ⊥
no_clash i m name e =
    no_clash_in 0 _ _ name (no_clash_in 1 _ _ name (no_clash_few (viewed i m).tree.decls (viewed i m) name)) e

no_rule_few : {A : Type 0} (ds : List Decl) (x : A) (rule : ℕ) (place : Place) → ◌≡◌ {A = Result A Told} (when_few ds x) (Err (broken rule place)) → ⊥
no_rule_few {A} ds x rule place e = by (nat_lt (limit_of DECLARATIONS) (length ds)) e
  where
    by : (b : Bool) → ◌≡◌ {A = Result A Told} (if b then Err (exceeded DECLARATIONS) else Ok x) (Err (broken rule place)) → ⊥
    by true e = cc
    by false e = cc

no_rule : (i f g : Tree) (rule : ℕ) (place : Place) → joined_told i f g ≡ Err (broken rule place) → ⊥
no_rule i f g rule place e = by (least_name (clashing f g)) e
  where
    by : (o : Option (List ℕ)) → unless_clash o (when_few (joined i f g).decls (joined i f g)) ≡ Err (broken rule place) → ⊥
    by None e = no_rule_few (joined i f g).decls (joined i f g) rule place e
    by (Some n) e = cc

module _ (trees : TextsHaveTextTrees) (views : ViewsHaveSomeVerdict) where
  some_by_tree_in : (f : File) (P : Tree → Reply → Type 0) → ((t : Tree) → IsTextOf t f.bytes → IsTextTree t → Surely ((r : Reply) × P t r)) → Surely ((r : Reply) × IsReplyByTreeIn f P r)
  some_by_tree_in f P some = ⊎_elim
      (λ x. so (some x.0 x.1 (text_tree trees f.bytes x.0 x.1)) (λ r. (r.0, inr (x.0, x.1, r.1))))
      (λ x. sure (in_file f.name (refusal_reply f.bytes x.0), inl (x.0, x.1, refl)))
      (read_in_one_way f.bytes).either

  module _ (i m : File) (with_main : Bool) (P : Program → Reply → Type 0) (t u : Tree) (one : IsTextTree t) (two : IsTextTree u)
      (some : (is : IsAcceptedWith t u with_main) → Surely ((r : Reply) × P is.program r)) where
    of_verdict : (v : View) → view_told t u ≡ Ok v → (w : Verdict) → IsVerdictOfView v with_main w → Surely ((r : Reply) × IsReplyToView i m with_main P (Ok v) r)
    of_verdict v told (refused x) is = sure (refused_reply i m x, (refused x, is, refl))
    of_verdict v told (faulty p f x) is =
        sure (in_file m.name (reply NOT_ACCEPTED (fault_line m.bytes p f (place_of x.at).at x.tok x.kind)), (faulty p f x, is, refl))
    of_verdict v told (accepted p) is =
        so (some (record { view = v; told = told; program = p; is = is })) (λ r. (r.0, (accepted p, is, r.1)))

    some_view : Surely ((r : Reply) × IsReplyToView i m with_main P (view_told t u) r)
    some_view = by (view_told t u) refl
      where
        by : (x : Result View Told) → view_told t u ≡ x → Surely ((r : Reply) × IsReplyToView i m with_main P x r)
        by (Err (broken rule place)) e = sure (rule_reply i m rule place, refl)
        by (Err (exceeded n)) e = sure (in_file m.name (over_reply n), refl)
        by (Err (clash name)) e = absurd (no_clash t u name e)
        by (Ok v) e =
            surely (views v with_main (record { interface = t; own = u; interface_text = one; own_text = two; told = e })) (λ w. of_verdict v e w.0 w.1)

  pub some_module : (i m : File) → Surely ((r : Reply) × IsReplyToModule i m r)
  some_module i m =
      some_by_tree_in i _ (λ t reads tree. some_by_tree_in m _ (λ u reads_m tree_m.
      some_view i m false _ t u tree tree_m (λ is. sure (reply DONE (module_line is.program), refl))))

  -- where each joined tree that is told has a reply, `link` has
  pub some_link : (i f g : File) →
      ((t u v z : Tree) → IsTextOf t i.bytes → IsTextOf u f.bytes → IsTextOf v g.bytes → IsAcceptedWith t u false → IsAcceptedWith t v true → joined_told t u v ≡ Ok z →
      Surely ((r : Reply) × IsReplyToJoined (Ok z) r)) → Surely ((r : Reply) × IsReplyToLink i f g r)
  some_link i f g some =
      some_by_tree_in i _ (λ t reads tree. some_by_tree_in f _ (λ u reads_f tree_f. some_by_tree_in g _ (λ v reads_g tree_g.
      some_view i f false _ t u tree tree_f (λ first. some_view i g true _ t v tree tree_g (λ second.
      some_joined t u v (λ z told. some t u v z reads reads_f reads_g first second told))))))
    where
      some_joined : (t u v : Tree) → ((z : Tree) → joined_told t u v ≡ Ok z → Surely ((r : Reply) × IsReplyToJoined (Ok z) r)) → Surely ((r : Reply) × IsReplyToJoined (joined_told t u v) r)
      some_joined t u v more = by (joined_told t u v) refl
        where
          by : (x : Result Tree Told) → joined_told t u v ≡ x → Surely ((r : Reply) × IsReplyToJoined x r)
          by (Err (clash name)) e = sure (reply NO_PROGRAM (clash_line name), refl)
          by (Err (exceeded n)) e = sure (over_reply n, refl)
          by (Err (broken rule place)) e = absurd (no_rule t u v rule place e)
          by (Ok z) e = more z e
