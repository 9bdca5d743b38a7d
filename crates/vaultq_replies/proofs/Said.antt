-- What is answered to the parts of a question's file.
use Rattle.std.proofs.Common.{◌≡◌, inl, inr, ℕ, false, List, [], ◌∷◌, Option, Some, None, refl, sym, subst}
use Rattle.std.specs.Prelude.{Result, Ok, Err, IfOk, IfSome, MatchOption, option_map}
use Rattle.std.specs.declared.alloc.AllocError.{AllocError}
use Rattle.vlt_io.specs.declared.store.Store.{Ghosts}
use Rattle.vlt_syntax.specs.Tree.{Tree}
use Rattle.vlt_verdict.specs.Seen.{IsSeenAs}
use Rattle.vlt_verdict.specs.Verdicts.{Verdict}
use Rattle.vlt_verdict.specs.declared.Verdict as shown
use Rattle.vaultc_words.specs.FilesSeen.{error_seen}
use Rattle.vaultc_words.specs.Sources.{had, unread, too_long, text_in, MayRead}
use Rattle.vaultc_words.specs.declared.files.FileError.{FileError}
use Rattle.vaultc_words.specs.declared.files.FileError.TheVariants.{Unread, TooLong, Memory}
use Rattle.vaultc_runs.specs.Lines as lines
use Rattle.vaultc_runs.specs.OverFiles.{IsReplyOver}
use Rattle.vaultc_runs.specs.Shown.{shown_reply}
use Rattle.vaultc_runs.specs.Texts.{Refusal, AreRefused, IsTextOf, refusal_reply}
use Rattle.vaultc_runs.specs.declared.reply.Reply.{Reply}
use Rattle.vaultc_replies.specs.Judged.{IsJudged}
use Rattle.vaultc_replies.proofs.Said.{refused_text}
use Rattle.vaultq_words.specs.Questions.{Question, sources_of}
use Rattle.vaultq_words.specs.View.{seen_asked}
use Rattle.vaultq_words.specs.declared.Asked.{Asked}
use Rattle.vaultq_words.specs.declared.Asked.TheVariants.{Faults, Paths, Keys}
use Rattle.vaultq_replies.specs.Replies.{IsAnswerToVerdict, IsAnswerToTree, IsAnswerToText, MayAnswer}

-- ---- bytes

-- what is said of bytes that are refused is the answer to them, with any file
pub refused_answer : (a : Asked) (bytes : List ℕ) (o : Option Refusal) (r : Result Reply AllocError) → IfSome o (AreRefused bytes)
    → IfOk r (λ x. option_map (refusal_reply bytes) o ≡ Some (shown_reply x)) → IfOk r (λ x. (file : List ℕ) → IsAnswerToText (seen_asked a file) bytes (shown_reply x))
refused_answer a bytes o (Ok x) is same = λ file. refused_text (IsAnswerToTree (seen_asked a file) bytes) bytes o (Ok x) is same
refused_answer a bytes o (Err e) is same = tt

-- what is said of a verdict is the answer to the text
pub said_of_tree : (a : Asked) (bytes : List ℕ) (t : Tree) (v : shown.Verdict) (r : Result Reply AllocError) → IsTextOf t bytes → IsJudged t v
    → IfOk r (λ x. (file : List ℕ) (s : Verdict) → IsSeenAs v s → IsAnswerToVerdict (seen_asked a file) bytes t s (shown_reply x))
    → IfOk r (λ x. (file : List ℕ) → IsAnswerToText (seen_asked a file) bytes (shown_reply x))
said_of_tree a bytes t v (Ok x) reads (s, is, seen) said = λ file. inr (t, reads, (s, is, said file s seen))
said_of_tree a bytes t v (Err e) reads judged said = tt

-- ---- files

-- each question reads this one file
one_source : (a : Asked) (file : List ℕ) → sources_of (seen_asked a file) ≡ Some (text_in file) ∷ []
one_source Faults file = refl
one_source Paths file = refl
one_source Keys file = refl

pub text_answer : {S : Type 0} (g : Ghosts S) (old new : S) (a : Asked) (file bytes slice : List ℕ) (r : lines.Reply) → slice ≡ bytes → MayRead g old new (Some (text_in file) ∷ []) (had (bytes ∷ []))
    → ((name : List ℕ) → IsAnswerToText (seen_asked a name) slice r) → MayAnswer g old new (Some (seen_asked a file)) r
text_answer g old new a file bytes slice r same may is =
    (had (bytes ∷ []), subst (λ fs. MayRead g old new fs (had (bytes ∷ []))) (sym (one_source a file)) may, subst (λ b. IsAnswerToText (seen_asked a file) b r) same (is file))

pub error_answer : {S : Type 0} (g : Ghosts S) (old new : S) (a : Asked) (file : List ℕ) (e : FileError) (r : lines.Reply) → IfSome (error_seen e) (MayRead g old new (Some (text_in file) ∷ []))
    → MatchOption (error_seen e) ⊥ (λ x. IsReplyOver false (λ _ _. ⊥) x r) → MayAnswer g old new (Some (seen_asked a file)) r
error_answer g old new a file (Unread name) r may is = (unread name.now, subst (λ fs. MayRead g old new fs (unread name.now)) (sym (one_source a file)) may, is)
error_answer g old new a file (TooLong name n) r may is = (too_long name.now n, subst (λ fs. MayRead g old new fs (too_long name.now n)) (sym (one_source a file)) may, is)
error_answer g old new a file Memory r may is = absurd is
