-- Which statuses the answers to bytes have.
use Rattle.std.proofs.Common.{inl, inr, ℕ, List, arith}
use Rattle.vlt_elaboration.specs.Elaboration.{broken, exceeded}
use Rattle.vlt_syntax.specs.Tree.{Tree}
use Rattle.vlt_verdict.specs.Verdicts as verdict
use Rattle.vlt_verdict.specs.Verdicts.{Verdict}
use Rattle.vaultc_runs.specs.Lines.{Reply}
use Rattle.vaultc_runs.proofs.Own.{IsOwn, own_zero, own, own_as, own_refusal}
use Rattle.vaultq_words.specs.Questions.{Question, faults, paths, keys}
use Rattle.vaultq_replies.specs.Replies.{IsAnswerToVerdict, IsAnswerToText}

own_answer_to : (q : Question) (text : List ℕ) (t : Tree) (v : Verdict) (r : Reply) → IsAnswerToVerdict q text t v r → IsOwn r.status
own_answer_to (faults file) text t (verdict.refused (broken rule at)) r is = own_as r _ is (own 7 (omega arith))
own_answer_to (faults file) text t (verdict.refused (exceeded n)) r is = own_as r _ is (own 5 (omega arith))
own_answer_to (faults file) text t (verdict.faulty p f x) r (lines, listed, is) = own_as r _ is (own 8 (omega arith))
own_answer_to (faults file) text t (verdict.accepted p) r is = own_as r _ is own_zero
own_answer_to (paths file) text t (verdict.refused (broken rule at)) r is = own_as r _ is (own 7 (omega arith))
own_answer_to (paths file) text t (verdict.refused (exceeded n)) r is = own_as r _ is (own 5 (omega arith))
own_answer_to (paths file) text t (verdict.faulty p f x) r (lines, shown, is) = own_as r _ is (own 8 (omega arith))
own_answer_to (paths file) text t (verdict.accepted p) r is = own_as r _ is own_zero
own_answer_to (keys file) text t (verdict.refused (broken rule at)) r is = own_as r _ is (own 7 (omega arith))
own_answer_to (keys file) text t (verdict.refused (exceeded n)) r is = own_as r _ is (own 5 (omega arith))
own_answer_to (keys file) text t (verdict.faulty p f x) r (lines, points, is) = own_as r _ is own_zero
own_answer_to (keys file) text t (verdict.accepted p) r (lines, points, is) = own_as r _ is own_zero

-- neither that of words that are no question nor that of a file that wasn't read
pub own_answer : (q : Question) (bytes : List ℕ) (r : Reply) → IsAnswerToText q bytes r → IsOwn r.status
own_answer q bytes r (inl (e, refused, is)) = own_as r _ is (own_refusal bytes e)
own_answer q bytes r (inr (t, reads, (v, judged, is))) = own_answer_to q bytes t v r is
