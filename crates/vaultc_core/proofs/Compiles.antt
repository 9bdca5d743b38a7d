-- What status 0 of `emit` stands for.
use Rattle.std.proofs.Common.{◌≡◌, inl, inr, ℕ, List, ◌+◌, length, length-append, Option, Some, refl, subst, arith}
use Rattle.std.specs.Prelude.{nat_lt}
use Rattle.vlt_base.specs.Limits.{limit_of}
use Rattle.vlt_base.specs.declared.limits.TheConstants.{SOURCE_BYTES, C_BYTES}
use Rattle.vlt_io.specs.Outside.{Files, IsRead, Grew}
use Rattle.vlt_io.specs.declared.sink.Sink as sink
use Rattle.vlt_io.specs.declared.store.Store.{Ghosts}
use Rattle.vlt_elaboration.specs.Elaboration.{broken, exceeded}
use Rattle.vlt_syntax.specs.Tree.{Tree}
use Rattle.vlt_fit_laws.specs.Texts.{TextsHaveTextTrees}
use Rattle.vlt_verdict.specs.Verdicts.{Verdict, refused, faulty, accepted, IsVerdictOf}
use Rattle.c_lower_accepted.specs.Texts.{TreesRunAlike, TreesAreDefined}
use Rattle.c_lower_printed.specs.Laws.{AcceptedTextsAreReadAgain}
use Rattle.cert_verify_laws.specs.Emitted.{EmittedFilesVerify}
use Rattle.cert_text_laws.proofs.InTexts.{spelled_in}
use Rattle.vaultc_replies.proofs.OfTexts.{program_of_text}
use Rattle.cert_emit.specs.Certificates.{certificate_of}
use Rattle.vaultc_runs.specs.declared.status.TheConstants.{DONE}
use Rattle.vaultc_words.specs.Commands.{Command, emit}
use Rattle.vaultc_runs.specs.Finishes.{Finishes}
use Rattle.vaultc_runs.specs.Lines.{reply}
use Rattle.vaultc_runs.specs.Texts.{IsTooLong, IsTextOf}
use Rattle.vaultc_replies.specs.Emitted.{c_text, c_file, IsReplyToCompiled}
use Rattle.vaultc_core.specs.Compiled.{IsCompiled}
use Rattle.vaultc_words.specs.Sources.{had, unread, too_long, text_in, IsOneRead, bytes_at}
use Rattle.vaultc_replies.specs.Replies.{IsReplyToText, MayReply}
use Rattle.vaultc_replies.proofs.Promises.{not_zero, status_of, no_refusal}
use Rattle.vaultc_replies.proofs.Read.{text_tree}
use Rattle.vaultc_words.proofs.Reading.{one_read, read_there}
use Rattle.vaultc_replies.proofs.CFiles.{accepted_tree, text_there, certified}

-- what is known of programs, of the C programs of texts, and of certificates
pub record Laws : Type 0 where
  pub trees : TextsHaveTextTrees
  pub alike : TreesRunAlike
  pub defined : TreesAreDefined
  pub again : AcceptedTextsAreReadAgain
  pub verify : EmittedFilesVerify

module _ (laws : Laws) where
  of_verdict : (store : Option Files) (name bytes text : List ℕ) (t : Tree) (v : Verdict) (old new : Option (List ℕ)) →
      IsRead store name (limit_of SOURCE_BYTES) bytes → (IsTooLong bytes → ⊥) → IsTextOf t bytes → IsVerdictOf t v →
      IsReplyToCompiled bytes v (reply DONE text) → Grew old new text → IsCompiled store name bytes old new
  of_verdict store name bytes text t (refused (broken rule at)) old new read short reads is e grew = absurd (not_zero 6 (status_of text _ e))
  of_verdict store name bytes text t (refused (exceeded n)) old new read short reads is e grew = absurd (not_zero 4 (status_of text _ e))
  of_verdict store name bytes text t (faulty p f x) old new read short reads is e grew = absurd (not_zero 7 (status_of text _ e))
  of_verdict store name bytes text t (accepted p) old new read short reads is (notes, least, e) grew =
      let tree = text_tree laws.trees bytes t reads in
      let follows = accepted_tree t p tree is in
      let there = text_there (nat_lt (limit_of C_BYTES) (length (c_file p notes))) text (c_file p notes) refl e in
      let longer : length (c_file p notes) ≡ length (c_text p) + length (certificate_of p notes) = length-append (c_text p) (certificate_of p notes) in
      let within = there.1 in
      record {
        program = p;
        reads = record { short = short; tree = t; reads = reads; elaborates = is.0 };
        accepted = is.1;
        notes = notes;
        least = least;
        verifies = laws.verify p notes (program_of_text bytes t p reads tree is.0) is.1 least (omega (arith, within, longer));
        reads_as = certified p notes (laws.again t p (spelled_in bytes reads.0 reads.1.tokens t reads.2.1) follows (omega (arith, within, longer)));
        runs_alike = laws.alike t p follows;
        is_defined = laws.defined t p follows;
        there = λ told tells. read_there store told (text_in name) bytes read short tells;
        written = subst (λ x. Grew old new x) there.0 grew;
      }

  of_text : (store : Option Files) (file bytes text : List ℕ) (old new : Option (List ℕ)) → IsRead store file (limit_of SOURCE_BYTES) bytes → (IsTooLong bytes → ⊥) →
      IsReplyToText (emit file) bytes (reply DONE text) → Grew old new text → IsCompiled store file bytes old new
  of_text store file bytes text old new read short (inl (e, is, same)) grew = absurd (no_refusal bytes text e same)
  of_text store file bytes text old new read short (inr (t, reads, (v, is, same))) grew = of_verdict store file bytes text t v old new read short reads is same grew

  of_may : {S : Type 0} (g : Ghosts S) (early late : S) → (file text : List ℕ) (old new : Option (List ℕ)) →
      MayReply g early late (Some (emit file)) (reply DONE text) → Grew old new text →
      (bytes : List ℕ) × IsOneRead g early late (text_in file) bytes × IsCompiled (g.files early) file bytes old new
  of_may g early late file text old new (unread name, may, same) grew = absurd (not_zero 1 (status_of text _ same))
  of_may g early late file text old new (too_long name n, may, same) grew = absurd (not_zero 4 (status_of text _ same))
  of_may g early late file text old new (had contents, may, is) grew =
      let one = one_read g early late (text_in file) contents may in
      let at_first : IsReplyToText (emit file) one.0 (reply DONE text) = subst (λ cs. IsReplyToText (emit file) (bytes_at cs 0) (reply DONE text)) one.1 is in
      (one.0, one.2, of_text (g.files early) file one.0 text old new one.2.told one.3 at_first grew)

  pub compiled : {S K : Type 0} (g : Ghosts S) (k : sink.Ghosts K) (early late : S) (before after : K) (command : Option Command) (status : ℕ) →
      Finishes k (MayReply g early late command) before after status → (file : List ℕ) → command ≡ Some (emit file) → status ≡ DONE →
      (bytes : List ℕ) × IsOneRead g early late (text_in file) bytes × IsCompiled (g.files early) file bytes (k.written before) (k.written after)
  compiled g k early late before after command status f file is_emit zero =
      let x = f.whole (λ three. omega (arith, zero, three)) (λ four. omega (arith, zero, four)) in
      let at_zero : MayReply g early late command (reply DONE x.0) = subst (λ n. MayReply g early late command (reply n x.0)) zero x.1 in
      let may : MayReply g early late (Some (emit file)) (reply DONE x.0) = subst (λ o. MayReply g early late o (reply DONE x.0)) is_emit at_zero in
      of_may g early late file x.0 (k.written before) (k.written after) may x.2
