-- What stands after status 0 of `check`.
use Rattle.std.proofs.Common.{◌≡◌, ◌⊎◌, inl, inr, ℕ, suc, List, [], ◌∷◌, Option, Some, refl, sym, ap, ◌∙◌, subst, arith}
use Rattle.vlt_base.specs.Limits.{limit_of}
use Rattle.vlt_base.specs.declared.limits.TheConstants.{SOURCE_BYTES}
use Rattle.vlt_core.specs.Core.{Program}
use Rattle.vlt_core.specs.Derives.{IsAccepted}
use Rattle.vlt_core.specs.Kinded.{IsKinded}
use Rattle.vlt_core_laws.specs.States.{HasStates}
use Rattle.vlt_fit_laws.specs.Fit.{ProgramsAreFit}
use Rattle.vlt_fit_laws.specs.Texts.{TextsHaveTextTrees}
use Rattle.vlt_sound.specs.Sizes.{HasSizes}
use Rattle.vlt_sound.specs.Narrow.{HasNarrowHeads}
use Rattle.vlt_sound.specs.Promise.{NeverGoesWrong, LeavesOnlyItsClause}
use Rattle.vlt_io.specs.Outside.{Files, IsRead, Rose, Grew}
use Rattle.vlt_io.specs.declared.sink.Sink as sink
use Rattle.vlt_io.specs.declared.store.Store.{Ghosts}
use Rattle.vlt_lexer.specs.declared.LexError.TheVariants as lex
use Rattle.vlt_elaboration.specs.Elaboration.{broken, exceeded}
use Rattle.vlt_syntax.specs.Refusals.{unexpected_at, over_limit, ended}
use Rattle.vlt_syntax.specs.Tree.{Tree}
use Rattle.vlt_verdict.specs.Verdicts.{Verdict, refused, faulty, accepted, IsVerdictOf}
use Rattle.vlt_verdict.proofs.Single.{fit_program}
use Rattle.vaultc_runs.specs.declared.status.TheConstants.{DONE, NO_MEMORY}
use Rattle.vaultc_words.specs.Commands.{Command, check}
use Rattle.vaultc_runs.specs.Finishes.{Finishes}
use Rattle.vaultc_runs.specs.Lines.{Reply, reply}
use Rattle.vaultc_runs.specs.Texts.{IsTooLong, IsTextOf, Refusal, unlexed, unparsed, refusal_reply}
use Rattle.vaultc_replies.specs.Programs.{IsProgramOf}
use Rattle.vaultc_replies.specs.Verdicts.{check_reply}
use Rattle.vaultc_words.specs.Sources.{had, unread, too_long, text_in, read_before, read_in, IsOneRead, bytes_at}
use Rattle.vaultc_replies.specs.Replies.{IsReplyToText, IsReplyToRead, IsReplyToCommand, MayReply}
use Rattle.vaultc_replies.specs.Promised.{IsPromised}
use Rattle.vaultc_replies.proofs.Read.{text_tree}
use Rattle.vaultc_replies.proofs.Single.{Laws}
use Rattle.vaultc_words.proofs.Reading.{one_read, read_there, short_before}
use Rattle.vaultc_replies.proofs.Told.{complete}

pub not_zero : (n : ℕ) → 0 ≡ suc n → ⊥
not_zero n e = omega arith

pub status_of : (text : List ℕ) (r : Reply) → reply DONE text ≡ r → DONE ≡ r.status
status_of text r e = ap (λ x. x.status) e

pub no_refusal : (bytes text : List ℕ) (e : Refusal) → reply DONE text ≡ refusal_reply bytes e → ⊥
no_refusal bytes text (unlexed (lex.NotUtf8 at)) e = not_zero 5 (status_of text _ e)
no_refusal bytes text (unlexed (lex.BadByte at)) e = not_zero 5 (status_of text _ e)
no_refusal bytes text (unlexed (lex.NumberTooLarge at)) e = not_zero 5 (status_of text _ e)
no_refusal bytes text (unlexed (lex.OpenComment at)) e = not_zero 5 (status_of text _ e)
no_refusal bytes text (unlexed (lex.Limit n)) e = not_zero 4 (status_of text _ e)
no_refusal bytes text (unlexed lex.Memory) e = not_zero 3 (status_of text _ e)
no_refusal bytes text (unparsed (unexpected_at at)) e = not_zero 5 (status_of text _ e)
no_refusal bytes text (unparsed (over_limit n)) e = not_zero 4 (status_of text _ e)
no_refusal bytes text (unparsed ended) e = not_zero 5 (status_of text _ e)

-- what is known of accepted programs
pub record GoRight : Type 0 where
  pub never : (p : Program) → IsKinded p → IsAccepted p → HasSizes p → HasStates p → HasNarrowHeads p → NeverGoesWrong p
  pub leaves : (p : Program) → IsKinded p → IsAccepted p → HasSizes p → HasStates p → HasNarrowHeads p → LeavesOnlyItsClause p

module _ (law : ProgramsAreFit) (trees : TextsHaveTextTrees) (right : GoRight) where
  of_verdict : (store : Option Files) (name bytes text : List ℕ) (t : Tree) (v : Verdict) (old new : Option (List ℕ)) →
      IsRead store name (limit_of SOURCE_BYTES) bytes → (IsTooLong bytes → ⊥) → IsTextOf t bytes → IsVerdictOf t v →
      reply DONE text ≡ check_reply bytes v → Grew old new text → IsPromised store name bytes old new
  of_verdict store name bytes text t (refused (broken rule at)) old new read short reads is e grew = absurd (not_zero 6 (status_of text _ e))
  of_verdict store name bytes text t (refused (exceeded n)) old new read short reads is e grew = absurd (not_zero 4 (status_of text _ e))
  of_verdict store name bytes text t (faulty p f x) old new read short reads is e grew = absurd (not_zero 7 (status_of text _ e))
  of_verdict store name bytes text t (accepted p) old new read short reads is e grew =
      let fit = fit_program law t p (text_tree trees bytes t reads) is.0 in
      record {
        program = p;
        reads = record { short = short; tree = t; reads = reads; elaborates = is.0 };
        accepted = is.1;
        never_goes_wrong = right.never p fit.kinded is.1 fit.sizes fit.well_formed.states fit.narrow;
        leaves_only_its_clause = right.leaves p fit.kinded is.1 fit.sizes fit.well_formed.states fit.narrow;
        there = λ told tells. read_there store told (text_in name) bytes read short tells;
        written = subst (λ x. Grew old new x) (ap (λ r. r.text) e) grew;
      }

  of_text : (store : Option Files) (file bytes text : List ℕ) (old new : Option (List ℕ)) → IsRead store file (limit_of SOURCE_BYTES) bytes → (IsTooLong bytes → ⊥) →
      IsReplyToText (check file) bytes (reply DONE text) → Grew old new text → IsPromised store file bytes old new
  of_text store file bytes text old new read short (inl (e, is, same)) grew = absurd (no_refusal bytes text e same)
  of_text store file bytes text old new read short (inr (t, reads, (v, is, same))) grew = of_verdict store file bytes text t v old new read short reads is same grew

  of_may : {S : Type 0} (g : Ghosts S) (early late : S) → (file text : List ℕ) (old new : Option (List ℕ)) →
      MayReply g early late (Some (check file)) (reply DONE text) → Grew old new text →
      (bytes : List ℕ) × IsOneRead g early late (text_in file) bytes × IsPromised (g.files early) file bytes old new
  of_may g early late file text old new (unread name, may, same) grew = absurd (not_zero 1 (status_of text _ same))
  of_may g early late file text old new (too_long name n, may, same) grew = absurd (not_zero 4 (status_of text _ same))
  of_may g early late file text old new (had contents, may, is) grew =
      let one = one_read g early late (text_in file) contents may in
      let at_first : IsReplyToText (check file) one.0 (reply DONE text) = subst (λ cs. IsReplyToText (check file) (bytes_at cs 0) (reply DONE text)) one.1 is in
      (one.0, one.2, of_text (g.files early) file one.0 text old new one.2.told one.3 at_first grew)

  pub promised : {S K : Type 0} (g : Ghosts S) (k : sink.Ghosts K) (early late : S) (before after : K) (command : Option Command) (status : ℕ) →
      Finishes k (MayReply g early late command) before after status → (file : List ℕ) → command ≡ Some (check file) → status ≡ DONE →
      (bytes : List ℕ) × IsOneRead g early late (text_in file) bytes × IsPromised (g.files early) file bytes (k.written before) (k.written after)
  promised g k early late before after command status f file is_check zero =
      let x = f.whole (λ three. omega (arith, zero, three)) (λ four. omega (arith, zero, four)) in
      let at_zero : MayReply g early late command (reply DONE x.0) = subst (λ n. MayReply g early late command (reply n x.0)) zero x.1 in
      let may : MayReply g early late (Some (check file)) (reply DONE x.0) = subst (λ o. MayReply g early late o (reply DONE x.0)) is_check at_zero in
      of_may g early late file x.0 (k.written before) (k.written after) may x.2

-- the reply of `check` to the bytes of an accepted program
accepted_reply : (file bytes : List ℕ) (p : Program) → IsProgramOf bytes p → IsAccepted p → IsReplyToText (check file) bytes (check_reply bytes (accepted p))
accepted_reply file bytes p is follows = inr (is.tree, is.reads, (accepted p, (is.elaborates, follows), refl))

pub accepts : Laws → {S K : Type 0} (g : Ghosts S) (k : sink.Ghosts K) (early late : S) (before after : K) (command : Option Command) (status : ℕ)
    → Finishes k (MayReply g early late command) before after status → (files : Files) (file bytes : List ℕ) (p : Program) → g.files early ≡ Some files
    → command ≡ Some (check file) → files file ≡ Some bytes → IsProgramOf bytes p → IsAccepted p
    → (Rose (g.faults early) (g.faults late) → ⊥) → (Rose (k.faults before) (k.faults after) → ⊥) → (status ≡ DONE) ⊎ (status ≡ NO_MEMORY)
accepts laws g k early late before after command status f files file bytes p tells is_check there is follows store_sound sink_sound =
    let r = check_reply bytes (accepted p) in
    let read : had (bytes ∷ []) ≡ read_in files (Some (text_in file) ∷ []) = sym (ap (λ o. read_before (text_in file) o (had [])) there ∙ short_before (text_in file) bytes (had []) is.short) in
    let replies : IsReplyToCommand (Some (check file)) files r = subst (λ x. IsReplyToRead (check file) x r) read (accepted_reply file bytes p is follows) in
    complete laws g k early late before after command status files r f tells (subst (λ o. IsReplyToCommand o files r) (sym is_check) replies) store_sound sink_sound
