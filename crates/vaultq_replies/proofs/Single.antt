-- A question has one answer to what it read, but for the paths of `paths`.
use Rattle.std.proofs.Common.{◌≡◌, inl, inr, ℕ, List, ◌++◌, sym, ap, ◌∙◌, subst}
use Rattle.vlt_core.specs.Core.{Program}
use Rattle.vlt_syntax.specs.Tree.{Tree}
use Rattle.vlt_fit_laws.specs.Texts.{TextsHaveTextTrees}
use Rattle.vlt_verdict.specs.Laws.{HasOneVerdict}
use Rattle.vlt_verdict.specs.Verdicts as verdict
use Rattle.vlt_verdict.specs.Verdicts.{Verdict}
use Rattle.vlt_all_faults_lines.specs.Laws.{HasOneFaultsText}
use Rattle.vaultc_words.specs.Sources.{Read, had, unread, too_long, bytes_at}
use Rattle.vaultc_runs.specs.Lines.{Reply, reply}
use Rattle.vaultc_runs.specs.Texts.{refusal_reply}
use Rattle.vaultc_runs.specs.declared.status.TheConstants.{DONE, NOT_ACCEPTED}
use Rattle.vaultc_replies.specs.Variables.{variable_in}
use Rattle.vaultc_replies.specs.Verdicts.{check_reply}
use Rattle.vaultc_replies.proofs.Read.{text_tree, one_text, refusals_alike, text_not_refused}
use Rattle.vaultq_words.specs.Questions.{Question, faults, paths, keys}
use Rattle.vaultq_replies.specs.Replies.{ArePointsBefore, IsAnswerToVerdict, IsAnswerToTree, IsAnswerToText, IsAnswerToRead}
use Rattle.vaultq_replies.specs.Laws.{AreAlike}
use Rattle.vaultq_replies.proofs.OnePoints.{HasOneList, one_listing}

-- what is known of the trees of texts, of the verdicts on them, and of the faults and the points of programs
pub record Laws : Type 0 where
  pub one : HasOneVerdict
  pub trees : TextsHaveTextTrees
  pub listed : (p : Program) → HasOneFaultsText p
  pub found : HasOneList

same_alike : (q : Question) (r s : Reply) → r ≡ s → AreAlike q r s
same_alike (faults file) r s e = e
same_alike (paths file) r s e = ap (λ x. x.status) e
same_alike (keys file) r s e = e

pub alike_status : (q : Question) (r s : Reply) → AreAlike q r s → r.status ≡ s.status
alike_status (faults file) r s e = ap (λ x. x.status) e
alike_status (paths file) r s e = e
alike_status (keys file) r s e = ap (λ x. x.status) e

module _ (laws : Laws) where
  one_of_points : (text : List ℕ) (t : Tree) (p : Program) (last : List ℕ) (r s : Reply) → ArePointsBefore text t p last r → ArePointsBefore text t p last s → r ≡ s
  one_of_points text t p last r s (a, of_a, is_r) (b, of_b, is_s) =
      is_r ∙ ap (λ l. reply DONE (l ++ last)) (one_listing laws.found text p (variable_in t) a b of_a of_b) ∙ sym is_s

  one_of_verdict : (q : Question) (text : List ℕ) (t : Tree) (v : Verdict) (r s : Reply) → IsAnswerToVerdict q text t v r → IsAnswerToVerdict q text t v s → AreAlike q r s
  one_of_verdict (faults file) text t (verdict.refused x) r s is_r is_s = is_r ∙ sym is_s
  one_of_verdict (faults file) text t (verdict.accepted p) r s is_r is_s = is_r ∙ sym is_s
  one_of_verdict (faults file) text t (verdict.faulty p f x) r s (a, of_a, is_r) (b, of_b, is_s) =
      is_r ∙ ap (reply NOT_ACCEPTED) (laws.listed p text a b of_a of_b) ∙ sym is_s
  one_of_verdict (paths file) text t (verdict.refused x) r s is_r is_s = ap (λ z. z.status) (is_r ∙ sym is_s)
  one_of_verdict (paths file) text t (verdict.accepted p) r s is_r is_s = ap (λ z. z.status) (is_r ∙ sym is_s)
  one_of_verdict (paths file) text t (verdict.faulty p f x) r s (a, of_a, is_r) (b, of_b, is_s) = ap (λ z. z.status) is_r ∙ sym (ap (λ z. z.status) is_s)
  one_of_verdict (keys file) text t (verdict.refused x) r s is_r is_s = is_r ∙ sym is_s
  one_of_verdict (keys file) text t (verdict.accepted p) r s is_r is_s = one_of_points text t p (check_reply text (verdict.accepted p)).text r s is_r is_s
  one_of_verdict (keys file) text t (verdict.faulty p f x) r s is_r is_s = one_of_points text t p (check_reply text (verdict.faulty p f x)).text r s is_r is_s

  one_of_text : (q : Question) (bytes : List ℕ) (r s : Reply) → IsAnswerToText q bytes r → IsAnswerToText q bytes s → AreAlike q r s
  one_of_text q bytes r s (inl (d, a, is_r)) (inl (e, b, is_s)) =
      same_alike q r s (is_r ∙ ap (refusal_reply bytes) (refusals_alike bytes d e a b) ∙ sym is_s)
  one_of_text q bytes r s (inl (d, a, is_r)) (inr (u, b, is_s)) = absurd (text_not_refused bytes u d b a)
  one_of_text q bytes r s (inr (t, a, is_r)) (inl (e, b, is_s)) = absurd (text_not_refused bytes t e a b)
  one_of_text q bytes r s (inr (t, a, is_r)) (inr (u, b, (w, of_w, is_s))) =
      let here : IsAnswerToTree q bytes u r = subst (λ x. IsAnswerToTree q bytes x r) (one_text bytes t u a b) is_r in
      let same = laws.one u here.0 w (text_tree laws.trees bytes u b) here.1 of_w in
      one_of_verdict q bytes u w r s (subst (λ v. IsAnswerToVerdict q bytes u v r) same here.2) is_s

  pub one_of_read : (q : Question) (x : Read) (r s : Reply) → IsAnswerToRead q x r → IsAnswerToRead q x s → AreAlike q r s
  one_of_read q (had contents) r s is_r is_s = one_of_text q (bytes_at contents 0) r s is_r is_s
  one_of_read q (unread name) r s is_r is_s = same_alike q r s (is_r ∙ sym is_s)
  one_of_read q (too_long name n) r s is_r is_s = same_alike q r s (is_r ∙ sym is_s)
