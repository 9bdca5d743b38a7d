-- What stands after statuses 0 and 8 of `faults`, and 0 of `keys`.
use Rattle.std.proofs.Common.{◌≡◌, inl, inr, ℕ, ◌≤◌, List, Option, Some, Ok, refl, sym, ap, ◌∙◌, subst, arith}
use Rattle.vlt_base.specs.Limits.{limit_of}
use Rattle.vlt_base.specs.declared.limits.TheConstants.{SOURCE_BYTES}
use Rattle.vlt_core.specs.Core.{Program}
use Rattle.vlt_io.specs.Outside.{Files, IsRead, Grew}
use Rattle.vlt_io.specs.declared.sink.Sink as sink
use Rattle.vlt_io.specs.declared.store.Store.{Ghosts}
use Rattle.vlt_lexer.specs.declared.LexError.TheVariants as lex
use Rattle.vlt_elaboration.specs.Elaboration.{broken, exceeded}
use Rattle.vlt_elaboration.specs.Programs.{program_told}
use Rattle.vlt_syntax.specs.Refusals.{unexpected_at, over_limit, ended}
use Rattle.vlt_syntax.specs.Tree.{Tree}
use Rattle.vlt_verdict.specs.Verdicts.{Verdict, refused, faulty, accepted, IsVerdictOf}
use Rattle.vlt_all_faults_lines.specs.Laws.{FaultsBeginWithFirst}
use Rattle.vaultc_words.specs.Sources.{had, unread, too_long, text_in, IsOneRead, bytes_at}
use Rattle.vaultc_words.proofs.Reading.{one_read, read_there}
use Rattle.vaultc_runs.specs.declared.status.TheConstants.{DONE, NOT_ACCEPTED}
use Rattle.vaultc_runs.specs.Finishes.{Finishes}
use Rattle.vaultc_runs.specs.Lines.{Reply, reply}
use Rattle.vaultc_runs.specs.Texts.{IsTooLong, IsTextOf, Refusal, unlexed, unparsed, refusal_reply}
use Rattle.vaultc_replies.proofs.Promises.{not_zero, status_of, no_refusal}
use Rattle.vaultc_replies.specs.Variables.{variable_in}
use Rattle.vaultc_replies.specs.Verdicts.{check_reply}
use Rattle.vaultq_words.specs.Questions.{Question, faults, keys}
use Rattle.vaultq_replies.specs.Replies.{ArePointsBefore, IsAnswerToFaults, IsAnswerToKeys, IsAnswerToText, MayAnswer}
use Rattle.vaultq_core.specs.Listed.{ArePointsTold, IsFaultless, IsListed}

-- what a question's answer to its file promises, where it promises this of the bytes
abbrev Promises : (P : Option Files → (name bytes : List ℕ) → (old new : Option (List ℕ)) → Type 0) → {S : Type 0} (g : Ghosts S) (early late : S) → (file : List ℕ) → (old new : Option (List ℕ)) → Type 0
Promises P g early late file old new = (bytes : List ℕ) × IsOneRead g early late (text_in file) bytes × P (g.files early) file bytes old new

-- ---- status 0 of `faults`

faultless_of : (store : Option Files) (name bytes text : List ℕ) (t : Tree) (v : Verdict) (old new : Option (List ℕ)) → IsRead store name (limit_of SOURCE_BYTES) bytes → (IsTooLong bytes → ⊥)
    → IsTextOf t bytes → IsVerdictOf t v → IsAnswerToFaults bytes v (reply DONE text) → Grew old new text → IsFaultless store name bytes old new
faultless_of store name bytes text t (refused (broken rule at)) old new read short reads is e grew = absurd (not_zero 6 (status_of text _ e))
faultless_of store name bytes text t (refused (exceeded n)) old new read short reads is e grew = absurd (not_zero 4 (status_of text _ e))
faultless_of store name bytes text t (faulty p f x) old new read short reads is (lines, listed, e) grew = absurd (not_zero 7 (status_of text _ e))
faultless_of store name bytes text t (accepted p) old new read short reads is e grew = record {
  program = p;
  reads = record { short = short; tree = t; reads = reads; elaborates = is.0 };
  accepted = is.1;
  there = λ told tells. read_there store told (text_in name) bytes read short tells;
  written = subst (λ x. Grew old new x) (ap (λ r. r.text) e) grew;
}

faultless_in : (store : Option Files) (file bytes text : List ℕ) (old new : Option (List ℕ)) → IsRead store file (limit_of SOURCE_BYTES) bytes → (IsTooLong bytes → ⊥)
    → IsAnswerToText (faults file) bytes (reply DONE text) → Grew old new text → IsFaultless store file bytes old new
faultless_in store file bytes text old new read short (inl (e, is, same)) grew = absurd (no_refusal bytes text e same)
faultless_in store file bytes text old new read short (inr (t, reads, (v, is, same))) grew = faultless_of store file bytes text t v old new read short reads is same grew

faultless_may : {S : Type 0} (g : Ghosts S) (early late : S) → (file text : List ℕ) (old new : Option (List ℕ)) → MayAnswer g early late (Some (faults file)) (reply DONE text) → Grew old new text
    → Promises IsFaultless g early late file old new
faultless_may g early late file text old new (unread name, may, same) grew = absurd (not_zero 1 (status_of text _ same))
faultless_may g early late file text old new (too_long name n, may, same) grew = absurd (not_zero 4 (status_of text _ same))
faultless_may g early late file text old new (had contents, may, is) grew =
    let one = one_read g early late (text_in file) contents may in
    let at_first : IsAnswerToText (faults file) one.0 (reply DONE text) = subst (λ cs. IsAnswerToText (faults file) (bytes_at cs 0) (reply DONE text)) one.1 is in
    (one.0, one.2, faultless_in (g.files early) file one.0 text old new one.2.told one.3 at_first grew)

pub faultless : {S K : Type 0} (g : Ghosts S) (k : sink.Ghosts K) (early late : S) (before after : K) (q : Option Question) (status : ℕ) → Finishes k (MayAnswer g early late q) before after status
    → (file : List ℕ) → q ≡ Some (faults file) → status ≡ DONE → Promises IsFaultless g early late file (k.written before) (k.written after)
faultless g k early late before after q status f file asks zero =
    let x = f.whole (λ three. omega (arith, zero, three)) (λ four. omega (arith, zero, four)) in
    let at_zero : MayAnswer g early late q (reply DONE x.0) = subst (λ n. MayAnswer g early late q (reply n x.0)) zero x.1 in
    faultless_may g early late file x.0 (k.written before) (k.written after) (subst (λ o. MayAnswer g early late o (reply DONE x.0)) asks at_zero) x.2

-- ---- status 0 of `keys`

points_told : (store : Option Files) (name bytes text : List ℕ) (t : Tree) (v : Verdict) (p : Program) (old new : Option (List ℕ)) → IsRead store name (limit_of SOURCE_BYTES) bytes → (IsTooLong bytes → ⊥)
    → IsTextOf t bytes → IsVerdictOf t v → program_told t ≡ Ok p → ArePointsBefore bytes t p (check_reply bytes v).text (reply DONE text) → Grew old new text → ArePointsTold store name bytes old new
points_told store name bytes text t v p old new read short reads is elaborates (lines, points, e) grew = record {
  program = p;
  reads = record { short = short; tree = t; reads = reads; elaborates = elaborates };
  lines = lines;
  points = points;
  verdict = v;
  judged = is;
  there = λ told tells. read_there store told (text_in name) bytes read short tells;
  written = subst (λ x. Grew old new x) (ap (λ r. r.text) e) grew;
}

points_of : (store : Option Files) (name bytes text : List ℕ) (t : Tree) (v : Verdict) (old new : Option (List ℕ)) → IsRead store name (limit_of SOURCE_BYTES) bytes → (IsTooLong bytes → ⊥)
    → IsTextOf t bytes → IsVerdictOf t v → IsAnswerToKeys bytes t v (reply DONE text) → Grew old new text → ArePointsTold store name bytes old new
points_of store name bytes text t (refused (broken rule at)) old new read short reads is e grew = absurd (not_zero 6 (status_of text _ e))
points_of store name bytes text t (refused (exceeded n)) old new read short reads is e grew = absurd (not_zero 4 (status_of text _ e))
points_of store name bytes text t (faulty p f x) old new read short reads is points grew = points_told store name bytes text t (faulty p f x) p old new read short reads is is.0 points grew
points_of store name bytes text t (accepted p) old new read short reads is points grew = points_told store name bytes text t (accepted p) p old new read short reads is is.0 points grew

points_in : (store : Option Files) (file bytes text : List ℕ) (old new : Option (List ℕ)) → IsRead store file (limit_of SOURCE_BYTES) bytes → (IsTooLong bytes → ⊥)
    → IsAnswerToText (keys file) bytes (reply DONE text) → Grew old new text → ArePointsTold store file bytes old new
points_in store file bytes text old new read short (inl (e, is, same)) grew = absurd (no_refusal bytes text e same)
points_in store file bytes text old new read short (inr (t, reads, (v, is, same))) grew = points_of store file bytes text t v old new read short reads is same grew

points_may : {S : Type 0} (g : Ghosts S) (early late : S) → (file text : List ℕ) (old new : Option (List ℕ)) → MayAnswer g early late (Some (keys file)) (reply DONE text) → Grew old new text
    → Promises ArePointsTold g early late file old new
points_may g early late file text old new (unread name, may, same) grew = absurd (not_zero 1 (status_of text _ same))
points_may g early late file text old new (too_long name n, may, same) grew = absurd (not_zero 4 (status_of text _ same))
points_may g early late file text old new (had contents, may, is) grew =
    let one = one_read g early late (text_in file) contents may in
    let at_first : IsAnswerToText (keys file) one.0 (reply DONE text) = subst (λ cs. IsAnswerToText (keys file) (bytes_at cs 0) (reply DONE text)) one.1 is in
    (one.0, one.2, points_in (g.files early) file one.0 text old new one.2.told one.3 at_first grew)

pub points : {S K : Type 0} (g : Ghosts S) (k : sink.Ghosts K) (early late : S) (before after : K) (q : Option Question) (status : ℕ) → Finishes k (MayAnswer g early late q) before after status
    → (file : List ℕ) → q ≡ Some (keys file) → status ≡ DONE → Promises ArePointsTold g early late file (k.written before) (k.written after)
points g k early late before after q status f file asks zero =
    let x = f.whole (λ three. omega (arith, zero, three)) (λ four. omega (arith, zero, four)) in
    let at_zero : MayAnswer g early late q (reply DONE x.0) = subst (λ n. MayAnswer g early late q (reply n x.0)) zero x.1 in
    points_may g early late file x.0 (k.written before) (k.written after) (subst (λ o. MayAnswer g early late o (reply DONE x.0)) asks at_zero) x.2

-- ---- status 8 of `faults`

-- no text is refused with a status of programs
low : (bytes : List ℕ) (e : Refusal) → (refusal_reply bytes e).status ≤ 6
low bytes (unlexed (lex.NotUtf8 at)) = omega arith
low bytes (unlexed (lex.BadByte at)) = omega arith
low bytes (unlexed (lex.NumberTooLarge at)) = omega arith
low bytes (unlexed (lex.OpenComment at)) = omega arith
low bytes (unlexed (lex.Limit n)) = omega arith
low bytes (unlexed lex.Memory) = omega arith
low bytes (unparsed (unexpected_at at)) = omega arith
low bytes (unparsed (over_limit n)) = omega arith
low bytes (unparsed ended) = omega arith

eight : (text : List ℕ) (r : Reply) → reply NOT_ACCEPTED text ≡ r → 8 ≡ r.status
eight text r e = ap (λ x. x.status) e

other : (n : ℕ) → n ≤ 7 → 8 ≡ n → ⊥
other n small e = omega (arith, small, e)

not_refused : (bytes text : List ℕ) (e : Refusal) → reply NOT_ACCEPTED text ≡ refusal_reply bytes e → ⊥
not_refused bytes text e same =
    let few = low bytes e in
    let is = eight text _ same in
    omega (arith, few, is)

module _ (begins : (p : Program) → FaultsBeginWithFirst p) where
  listed_of : (store : Option Files) (name bytes text : List ℕ) (t : Tree) (v : Verdict) (old new : Option (List ℕ)) → IsRead store name (limit_of SOURCE_BYTES) bytes → (IsTooLong bytes → ⊥)
      → IsTextOf t bytes → IsVerdictOf t v → IsAnswerToFaults bytes v (reply NOT_ACCEPTED text) → Grew old new text → IsListed store name bytes old new
  listed_of store name bytes text t (refused (broken rule at)) old new read short reads is e grew = absurd (other 7 (omega arith) (eight text _ e))
  listed_of store name bytes text t (refused (exceeded n)) old new read short reads is e grew = absurd (other 5 (omega arith) (eight text _ e))
  listed_of store name bytes text t (accepted p) old new read short reads is e grew = absurd (other 0 (omega arith) (eight text _ e))
  listed_of store name bytes text t (faulty p f x) old new read short reads is (lines, (all, findings, same), e) grew =
      let b = begins p bytes lines x f is.1.first is.1.there (all, findings, same) in
      record {
        program = p;
        reads = record { short = short; tree = t; reads = reads; elaborates = is.0 };
        all = all;
        findings = findings;
        func = f;
        fault = x;
        faulty = is.1.there;
        first = is.1.first;
        begins = (b.0, sym same ∙ b.1);
        there = λ told tells. read_there store told (text_in name) bytes read short tells;
        written = subst (λ x. Grew old new x) (ap (λ r. r.text) e ∙ same) grew;
      }

  listed_in : (store : Option Files) (file bytes text : List ℕ) (old new : Option (List ℕ)) → IsRead store file (limit_of SOURCE_BYTES) bytes → (IsTooLong bytes → ⊥)
      → IsAnswerToText (faults file) bytes (reply NOT_ACCEPTED text) → Grew old new text → IsListed store file bytes old new
  listed_in store file bytes text old new read short (inl (e, is, same)) grew = absurd (not_refused bytes text e same)
  listed_in store file bytes text old new read short (inr (t, reads, (v, is, same))) grew = listed_of store file bytes text t v old new read short reads is same grew

  listed_may : {S : Type 0} (g : Ghosts S) (early late : S) → (file text : List ℕ) (old new : Option (List ℕ)) → MayAnswer g early late (Some (faults file)) (reply NOT_ACCEPTED text) → Grew old new text
      → Promises IsListed g early late file old new
  listed_may g early late file text old new (unread name, may, same) grew = absurd (other 2 (omega arith) (eight text _ same))
  listed_may g early late file text old new (too_long name n, may, same) grew = absurd (other 5 (omega arith) (eight text _ same))
  listed_may g early late file text old new (had contents, may, is) grew =
      let one = one_read g early late (text_in file) contents may in
      let at_first : IsAnswerToText (faults file) one.0 (reply NOT_ACCEPTED text) = subst (λ cs. IsAnswerToText (faults file) (bytes_at cs 0) (reply NOT_ACCEPTED text)) one.1 is in
      (one.0, one.2, listed_in (g.files early) file one.0 text old new one.2.told one.3 at_first grew)

  pub listed : {S K : Type 0} (g : Ghosts S) (k : sink.Ghosts K) (early late : S) (before after : K) (q : Option Question) (status : ℕ) → Finishes k (MayAnswer g early late q) before after status
      → (file : List ℕ) → q ≡ Some (faults file) → status ≡ NOT_ACCEPTED → Promises IsListed g early late file (k.written before) (k.written after)
  listed g k early late before after q status f file asks is_eight =
      let x = f.whole (λ three. omega (arith, is_eight, three)) (λ four. omega (arith, is_eight, four)) in
      let at_eight : MayAnswer g early late q (reply NOT_ACCEPTED x.0) = subst (λ n. MayAnswer g early late q (reply n x.0)) is_eight x.1 in
      listed_may g early late file x.0 (k.written before) (k.written after) (subst (λ o. MayAnswer g early late o (reply NOT_ACCEPTED x.0)) asks at_eight) x.2
