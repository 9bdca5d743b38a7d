-- `module` and `link` have one reply to what they read.
use Rattle.std.proofs.Common.{◌≡◌, inl, inr, Bool, true, false, Result, Ok, Err, refl, sym, ap, ◌∙◌, subst}
use Rattle.vlt_syntax.specs.Tree.{Tree}
use Rattle.vlt_core.specs.Core.{Program}
use Rattle.vlt_elaboration.specs.Elaboration as elab
use Rattle.vlt_iface.specs.View.{View}
use Rattle.vlt_iface.specs.Told.{Told, broken, clash, exceeded, view_told, joined_told}
use Rattle.vlt_fit_laws.specs.Fit.{IsTextTree}
use Rattle.vlt_fit_laws.specs.Texts.{TextsHaveTextTrees}
use Rattle.vlt_verdict.specs.Verdicts as verdict
use Rattle.vlt_verdict.specs.Verdicts.{Verdict}
use Rattle.vlt_view_verdict.specs.Laws.{ViewsHaveOneVerdict}
use Rattle.vlt_view_verdict.specs.Views.{IsViewOfTexts}
use Rattle.cert_least_laws.specs.Laws.{LeastCertificatesAreOne}
use Rattle.vaultc_runs.specs.declared.status.TheConstants.{DONE}
use Rattle.vaultc_runs.specs.Lines.{Reply, reply, in_file}
use Rattle.vaultc_runs.specs.Texts.{IsTextOf, refusal_reply}
use Rattle.vaultc_replies.specs.Emitted.{IsEmitted}
use Rattle.vaultc_replies.specs.Modules.{File, IsReplyByTreeIn, IsReplyToNoView, IsReplyToViewVerdict, IsReplyToView, module_line, IsReplyToModule, IsReplyToJoined, IsReplyToLink}
use Rattle.vaultc_replies.proofs.Loads.{one_emitted}
use Rattle.vaultc_replies.proofs.Read.{one_text, refusals_alike, text_not_refused, text_tree}

-- where each tree has one reply, a text has
one_by_tree_in : (f : File) (P : Tree → Reply → Type 0) → ((t : Tree) → IsTextOf t f.bytes → (r q : Reply) → P t r → P t q → r ≡ q) → (r q : Reply) →
    IsReplyByTreeIn f P r → IsReplyByTreeIn f P q → r ≡ q
one_by_tree_in f P one r q (inl (d, p, is_r)) (inl (e, n, is_q)) =
    is_r ∙ ap (λ x. in_file f.name (refusal_reply f.bytes x)) (refusals_alike f.bytes d e p n) ∙ sym is_q
one_by_tree_in f P one r q (inl (d, p, is_r)) (inr (u, n, is_q)) = absurd (text_not_refused f.bytes u d n p)
one_by_tree_in f P one r q (inr (t, p, is_r)) (inl (e, n, is_q)) = absurd (text_not_refused f.bytes t e p n)
one_by_tree_in f P one r q (inr (t, p, is_r)) (inr (u, n, is_q)) = one u n r q (subst (λ x. P x r) (one_text f.bytes t u p n) is_r) is_q

one_no_view : (i m : File) (e : Told) (r q : Reply) → IsReplyToNoView i m e r → IsReplyToNoView i m e q → r ≡ q
one_no_view i m (broken rule place) r q is_r is_q = is_r ∙ sym is_q
one_no_view i m (exceeded n) r q is_r is_q = is_r ∙ sym is_q
one_no_view i m (clash name) r q is_r is_q = absurd is_r

one_view_verdict : (i m : File) (P : Program → Reply → Type 0) → ((p : Program) (r q : Reply) → P p r → P p q → r ≡ q) → (w : Verdict) (r q : Reply) →
    IsReplyToViewVerdict i m P w r → IsReplyToViewVerdict i m P w q → r ≡ q
one_view_verdict i m P one (verdict.refused x) r q is_r is_q = is_r ∙ sym is_q
one_view_verdict i m P one (verdict.faulty p f x) r q is_r is_q = is_r ∙ sym is_q
one_view_verdict i m P one (verdict.accepted p) r q is_r is_q = one p r q is_r is_q

module _ (views : ViewsHaveOneVerdict) where
  one_view : (i m : File) (with_main : Bool) (P : Program → Reply → Type 0) → ((p : Program) (r q : Reply) → P p r → P p q → r ≡ q) →
      (x : Result View Told) → ((v : View) → x ≡ Ok v → IsViewOfTexts v) → (r q : Reply) →
      IsReplyToView i m with_main P x r → IsReplyToView i m with_main P x q → r ≡ q
  one_view i m with_main P one (Err e) texts r q is_r is_q = one_no_view i m e r q is_r is_q
  one_view i m with_main P one (Ok v) texts r q (w, of_w, is_r) (z, of_z, is_q) =
      one_view_verdict i m P one z r q (subst (λ y. IsReplyToViewVerdict i m P y r) (views v with_main w z (texts v refl) of_w of_z) is_r) is_q

  view_of_texts : (t u : Tree) → IsTextTree t → IsTextTree u → (v : View) → view_told t u ≡ Ok v → IsViewOfTexts v
  view_of_texts t u one two v told = record { interface = t; own = u; interface_text = one; own_text = two; told = told }

  module _ (trees : TextsHaveTextTrees) where
    pub one_module : (i m : File) (r q : Reply) → IsReplyToModule i m r → IsReplyToModule i m q → r ≡ q
    one_module i m r q is_r is_q =
        one_by_tree_in i _ (λ t reads a b x y. one_by_tree_in m _ (λ u reads_m c d z o.
        one_view i m false (λ p b. b ≡ reply DONE (module_line p)) (λ p e f g h. g ∙ sym h) (view_told t u)
        (view_of_texts t u (text_tree trees i.bytes t reads) (text_tree trees m.bytes u reads_m)) c d z o) a b x y) r q is_r is_q

    module _ (certificates : LeastCertificatesAreOne) where
      same_program : (p o : Program) → ◌≡◌ {A = Result Program elab.Refused} (Ok p) (Ok o) → p ≡ o
      same_program p o e = cc

      one_joined : (x : Result Tree Told) (r q : Reply) → IsReplyToJoined x r → IsReplyToJoined x q → r ≡ q
      one_joined (Err (clash name)) r q is_r is_q = is_r ∙ sym is_q
      one_joined (Err (exceeded n)) r q is_r is_q = is_r ∙ sym is_q
      one_joined (Err (broken rule place)) r q is_r is_q = absurd is_r
      one_joined (Ok t) r q (p, gives, is_r) (o, also, is_q) =
          one_emitted certificates o r q (subst (λ x. IsEmitted x r) (same_program p o (sym gives ∙ also)) is_r) is_q

      pub one_link : (i f g : File) (r q : Reply) → IsReplyToLink i f g r → IsReplyToLink i f g q → r ≡ q
      one_link i f g r q is_r is_q =
          one_by_tree_in i _ (λ t reads a b x y. one_by_tree_in f _ (λ u reads_f c d z o. one_by_tree_in g _ (λ v reads_g e h k l.
          let tree_i = text_tree trees i.bytes t reads in
          one_view i f false _ (λ p m n first again. one_view i g true _ (λ p' m' n' second more. one_joined (joined_told t u v) m' n' second more) (view_told t v)
          (view_of_texts t v tree_i (text_tree trees g.bytes v reads_g)) m n first again) (view_told t u)
          (view_of_texts t u tree_i (text_tree trees f.bytes u reads_f)) e h k l) c d z o) a b x y) r q is_r is_q
