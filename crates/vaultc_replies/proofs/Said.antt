-- What a command replies for the parts of its file.
use Rattle.std.proofs.Common.{◌≡◌, inl, inr, ℕ, false, List, Option, Some, None, sym, subst}
use Rattle.std.specs.Prelude.{Result, Ok, Err, IfOk, IfSome, option_map}
use Rattle.std.specs.declared.alloc.AllocError.{AllocError}
use Rattle.vlt_core.specs.View.{program_of}
use Rattle.vlt_printer.specs.Layout.{layout}
use Rattle.vlt_syntax.specs.Tree.{Tree}
use Rattle.vaultc_runs.specs.declared.reply.Reply.{Reply}
use Rattle.vaultc_runs.specs.declared.status.TheConstants.{DONE}
use Rattle.vlt_verdict.specs.declared.Verdict as shown
use Rattle.vlt_verdict.specs.declared.Verdict.TheVariants.{Broken, Exceeded, Faulty, Accepted}
use Rattle.vlt_verdict.specs.Verdicts.{Verdict, refused, faulty, accepted, IsVerdictOf}
use Rattle.vlt_verdict.specs.Seen.{IsSeenAs}
use Rattle.vaultc_words.specs.Commands.{Command, check, explain, fmt, emit}
use Rattle.vaultc_runs.specs.Lines as lines
use Rattle.vaultc_runs.specs.Texts.{Refusal, AreRefused, IsTextOf, refusal_reply}
use Rattle.vaultc_replies.specs.Verdicts.{check_reply, IsExplained}
use Rattle.vlt_core.specs.Core.{Program}
use Rattle.vlt_core.specs.declared.program.Program as code
use Rattle.vaultc_replies.specs.Emitted.{IsEmitted, IsReplyToCompiled}
use Rattle.vaultc_replies.specs.Replies.{IsReplyToVerdict, IsReplyToRun, IsReplyToTree, IsReplyByTree, IsReplyToText, IsReplyToRunText}
use Rattle.vaultc_runs.specs.Shown.{shown_reply}
use Rattle.vaultc_replies.specs.Judged.{is_accepted, IsJudged}

-- ---- texts that are refused

refused_by : (P : Tree → lines.Reply → Type 0) (bytes : List ℕ) (o : Option Refusal) (r : lines.Reply) → IfSome o (AreRefused bytes) → option_map (refusal_reply bytes) o ≡ Some r → IsReplyByTree P bytes r
refused_by P bytes None r is same = absurd (none_some r same) where
  none_some : (r : lines.Reply) → None ≡ Some r → ⊥
  none_some r e = cc
refused_by P bytes (Some e) r is same = inl (e, is, sym (some_some _ _ same)) where
  some_some : (r q : lines.Reply) → Some r ≡ Some q → r ≡ q
  some_some r q e = cc

refused_here : (command : Command) (bytes : List ℕ) (o : Option Refusal) (r : lines.Reply) → IfSome o (AreRefused bytes) → option_map (refusal_reply bytes) o ≡ Some r → IsReplyToText command bytes r
refused_here command bytes o r is same = refused_by (IsReplyToTree command bytes) bytes o r is same

-- what is said of bytes that are refused is what each command replies to them, with any file
pub refused_each : (command : List ℕ → Command) (bytes : List ℕ) (o : Option Refusal) (r : Result Reply AllocError) → IfSome o (AreRefused bytes)
    → IfOk r (λ x. option_map (refusal_reply bytes) o ≡ Some (shown_reply x)) → IfOk r (λ x. (file : List ℕ) → IsReplyToText (command file) bytes (shown_reply x))
refused_each command bytes o (Ok x) is same = λ file. refused_here (command file) bytes o (shown_reply x) is same
refused_each command bytes o (Err e) is same = tt

-- ---- trees

pub checked_said : (bytes : List ℕ) (t : Tree) (v : shown.Verdict) (r : Result Reply AllocError) → IsTextOf t bytes →
    (s : Verdict) × IsVerdictOf t s × IsSeenAs v s → IfOk r (λ x. (s : Verdict) → IsSeenAs v s → shown_reply x ≡ check_reply bytes s) →
    IfOk r (λ x. (file : List ℕ) → IsReplyToText (check file) bytes (shown_reply x))
checked_said bytes t v (Ok x) reads (s, is, seen) said = λ file. inr (t, reads, (s, is, said s seen))
checked_said bytes t v (Err e) reads is said = tt

pub explained_said : (bytes : List ℕ) (t : Tree) (v : shown.Verdict) (r : Result Reply AllocError) → IsTextOf t bytes →
    (s : Verdict) × IsVerdictOf t s × IsSeenAs v s → IfOk r (λ x. (s : Verdict) → IsSeenAs v s → IsExplained bytes t s (shown_reply x)) →
    IfOk r (λ x. (file : List ℕ) → IsReplyToText (explain file) bytes (shown_reply x))
explained_said bytes t v (Ok x) reads (s, is, seen) said = λ file. inr (t, reads, (s, is, said s seen))
explained_said bytes t v (Err e) reads is said = tt

pub compiled_said : (bytes : List ℕ) (t : Tree) (v : shown.Verdict) (r : Result Reply AllocError) → IsTextOf t bytes →
    (s : Verdict) × IsVerdictOf t s × IsSeenAs v s → IfOk r (λ x. (s : Verdict) → IsSeenAs v s → IsReplyToCompiled bytes s (shown_reply x)) →
    IfOk r (λ x. (file : List ℕ) → IsReplyToText (emit file) bytes (shown_reply x))
compiled_said bytes t v (Ok x) reads (s, is, seen) said = λ file. inr (t, reads, (s, is, said s seen))
compiled_said bytes t v (Err e) reads is said = tt

pub laid_said : (bytes : List ℕ) (t : Tree) (r : Result Reply AllocError) → IsTextOf t bytes → IfOk r (λ x. shown_reply x ≡ lines.reply DONE (layout t))
    → IfOk r (λ x. (file : List ℕ) → IsReplyToText (fmt file) bytes (shown_reply x))
laid_said bytes t (Ok x) reads is = λ file. inr (t, reads, is)
laid_said bytes t (Err e) reads is = tt

-- ---- verdicts

-- what is said of a text that is refused is replied to it, whatever is replied to trees
pub refused_text : (P : Tree → lines.Reply → Type 0) (bytes : List ℕ) (o : Option Refusal) (r : Result Reply AllocError) → IfSome o (AreRefused bytes)
    → IfOk r (λ x. option_map (refusal_reply bytes) o ≡ Some (shown_reply x)) → IfOk r (λ x. IsReplyByTree P bytes (shown_reply x))
refused_text P bytes o (Ok x) is same = refused_by P bytes o (shown_reply x) is same
refused_text P bytes o (Err e) is same = tt

-- what is said of a text that is refused is what a run of its program replies to it, whatever is replied to accepted programs
pub refused_run_text : (P : Program → lines.Reply → Type 0) (bytes : List ℕ) (o : Option Refusal) (r : Result Reply AllocError) → IfSome o (AreRefused bytes)
    → IfOk r (λ x. option_map (refusal_reply bytes) o ≡ Some (shown_reply x)) → IfOk r (λ x. IsReplyToRunText P bytes (shown_reply x))
refused_run_text P bytes o r is same = refused_text (IsReplyToRun P bytes) bytes o r is same

-- a run says of a verdict that isn't accepted what `check` says of it
check_is_run : (P : Program → lines.Reply → Type 0) (text : List ℕ) (v : shown.Verdict) (s : Verdict) (r : lines.Reply) → is_accepted v ≡ false →
    IsSeenAs v s → r ≡ check_reply text s → IsReplyToVerdict P text s r
check_is_run P text v (refused x) r other seen e = e
check_is_run P text v (faulty p f x) r other seen e = e
check_is_run P text (Accepted q) (accepted p) r other seen e = absurd cc
check_is_run P text (Broken rule at) (accepted p) r other seen e = absurd cc
check_is_run P text (Exceeded n) (accepted p) r other seen e = absurd cc
check_is_run P text (Faulty q x) (accepted p) r other (f, there, same) e = absurd cc

-- what is said of a verdict that isn't accepted is what a run replies to the text
pub refused_run : (P : Program → lines.Reply → Type 0) (text slice : List ℕ) (t : Tree) (v : shown.Verdict) (r : Result Reply AllocError) → slice ≡ text → IsTextOf t text →
    is_accepted v ≡ false → IsJudged t v → IfOk r (λ x. (s : Verdict) → IsSeenAs v s → shown_reply x ≡ check_reply slice s) →
    IfOk r (λ x. IsReplyToRunText P text (shown_reply x))
refused_run P text slice t v (Ok x) same reads other (s, is, seen) said =
    inr (t, reads, (s, is, check_is_run P text v s (shown_reply x) other seen (subst (λ l. shown_reply x ≡ check_reply l s) same (said s seen))))
refused_run P text slice t v (Err e) same reads other judged said = tt

-- an accepted verdict is that of its program
pub accepted_program : (t : Tree) (v : shown.Verdict) (q : code.Program) → v ≡ Accepted q → IsJudged t v → IsVerdictOf t (accepted (program_of q))
accepted_program t v q so (s, is, seen) = accepted_seen t q s is (subst (λ x. IsSeenAs x s) so seen) where
  accepted_seen : (t : Tree) (q : code.Program) (s : Verdict) → IsVerdictOf t s → IsSeenAs (Accepted q) s → IsVerdictOf t (accepted (program_of q))
  accepted_seen t q s is same = subst (IsVerdictOf t) same is

-- what is replied to an accepted program is replied to its text
pub accepted_run : (P : Program → lines.Reply → Type 0) (text : List ℕ) (t : Tree) (p : Program) → IsTextOf t text → IsVerdictOf t (accepted p) →
    (r : lines.Reply) → P p r → IsReplyToRunText P text r
accepted_run P text t p reads is r replies = inr (t, reads, (accepted p, is, replies))

-- ---- C texts

-- `emit` says of a verdict that isn't accepted what `check` says of it
emit_as_check : (text : List ℕ) (v : shown.Verdict) (s : Verdict) (r : lines.Reply) → is_accepted v ≡ false → IsSeenAs v s → r ≡ check_reply text s → IsReplyToCompiled text s r
emit_as_check text v (refused x) r other seen e = e
emit_as_check text v (faulty p f x) r other seen e = e
emit_as_check text (Accepted q) (accepted p) r other seen e = absurd cc
emit_as_check text (Broken rule at) (accepted p) r other seen e = absurd cc
emit_as_check text (Exceeded n) (accepted p) r other seen e = absurd cc
emit_as_check text (Faulty q x) (accepted p) r other (f, there, same) e = absurd cc

pub checked_emit : (text : List ℕ) (v : shown.Verdict) (r : Result Reply AllocError) → is_accepted v ≡ false →
    IfOk r (λ x. (s : Verdict) → IsSeenAs v s → shown_reply x ≡ check_reply text s) → IfOk r (λ x. (s : Verdict) → IsSeenAs v s → IsReplyToCompiled text s (shown_reply x))
checked_emit text v (Ok x) other said = λ s seen. emit_as_check text v s (shown_reply x) other seen (said s seen)
checked_emit text v (Err e) other said = tt

-- the C file of an accepted program is what `emit` says of its verdict
pub accepted_emit : (text : List ℕ) (v : shown.Verdict) (q : code.Program) (r : Result Reply AllocError) → v ≡ Accepted q →
    IfOk r (λ x. IsEmitted (program_of q) (shown_reply x)) → IfOk r (λ x. (s : Verdict) → IsSeenAs v s → IsReplyToCompiled text s (shown_reply x))
accepted_emit text v q (Ok x) so said = λ s seen. by s (subst (λ v. IsSeenAs v s) so seen)
  where
    by : (s : Verdict) → IsSeenAs (Accepted q) s → IsReplyToCompiled text s (shown_reply x)
    by s seen = subst (λ s. IsReplyToCompiled text s (shown_reply x)) (sym seen) said
accepted_emit text v q (Err e) so said = tt
