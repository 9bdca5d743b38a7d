-- What each question is answered, in the order in which questions are refused: the words, the file with its size, the text, the program.
use Rattle.std.specs.Prelude.{◌≡◌, ℕ, false, List, ◌++◌, Option, Some, None, codes}
use Rattle.vlt_io.specs.Outside.{Files, MayFail}
use Rattle.vlt_io.specs.declared.store.Store.{Ghosts}
use Rattle.vlt_syntax.specs.Tree.{Tree}
use Rattle.vlt_core.specs.Core.{Program}
use Rattle.vlt_verdict.specs.Verdicts.{Verdict, faulty, accepted, IsVerdictOf}
use Rattle.vlt_all_faults_lines.specs.Lines.{IsFaultsText, IsPathsText}
use Rattle.vlt_points.specs.Lines.{AreKeysLines}
use Rattle.vaultc_words.specs.Sources.{Read, unread, read_in, MayRead, bytes_at}
use Rattle.vaultc_runs.specs.declared.status.TheConstants.{DONE, NO_COMMAND, NOT_ACCEPTED}
use Rattle.vaultc_runs.specs.Lines.{Reply, reply, unread_reply}
use Rattle.vaultc_runs.specs.OverFiles.{IsReplyOver}
use Rattle.vaultc_replies.specs.Replies.{IsReplyByTree}
use Rattle.vaultc_replies.specs.Variables.{variable_in}
use Rattle.vaultc_replies.specs.Verdicts.{check_reply}
use Rattle.vaultq_words.specs.Questions.{Question, faults, paths, keys, question_of, sources_of}

-- ---- a tree, with the text that it stands in

-- `faults` says of a program that breaks the rules on keys all its faults, and else what `check` says
abbrev pub IsAnswerToFaults : (text : List ℕ) → Verdict → Reply → Type 0
IsAnswerToFaults text (faulty p f x) r = (lines : List ℕ) × IsFaultsText text p lines × (r ≡ reply NOT_ACCEPTED lines)
IsAnswerToFaults text v r = r ≡ check_reply text v

-- `paths` says the same, and after the line of each fault the paths of one of its witnesses
abbrev pub IsAnswerToPaths : (text : List ℕ) → Tree → Verdict → Reply → Type 0
IsAnswerToPaths text t (faulty p f x) r =
    (lines : List ℕ) × IsPathsText text p (variable_in t) lines × (r ≡ reply NOT_ACCEPTED lines)
IsAnswerToPaths text t v r = r ≡ check_reply text v

-- what is held at each point of a program, and after it this line
abbrev pub ArePointsBefore : (text : List ℕ) → Tree → Program → (last : List ℕ) → Reply → Type 0
ArePointsBefore text t p last r = (lines : List ℕ) × AreKeysLines text p (variable_in t) lines × (r ≡ reply DONE (lines ++ last))

-- `keys` says of a program that breaks no rule on names and types what is held at each point, and then what `check` says
abbrev pub IsAnswerToKeys : (text : List ℕ) → Tree → Verdict → Reply → Type 0
IsAnswerToKeys text t (faulty p f x) r = ArePointsBefore text t p (check_reply text (faulty p f x)).text r
IsAnswerToKeys text t (accepted p) r = ArePointsBefore text t p (check_reply text (accepted p)).text r
IsAnswerToKeys text t v r = r ≡ check_reply text v

abbrev pub IsAnswerToVerdict : Question → (text : List ℕ) → Tree → Verdict → Reply → Type 0
IsAnswerToVerdict (faults file) text t v r = IsAnswerToFaults text v r
IsAnswerToVerdict (paths file) text t v r = IsAnswerToPaths text t v r
IsAnswerToVerdict (keys file) text t v r = IsAnswerToKeys text t v r

abbrev pub IsAnswerToTree : Question → (text : List ℕ) → Tree → Reply → Type 0
IsAnswerToTree q text t r = (v : Verdict) × IsVerdictOf t v × IsAnswerToVerdict q text t v r

-- ---- bytes, and files

abbrev pub IsAnswerToText : Question → List ℕ → Reply → Type 0
IsAnswerToText q bytes r = IsReplyByTree (IsAnswerToTree q bytes) bytes r

abbrev pub IsAnswerToRead : Question → Read → Reply → Type 0
IsAnswerToRead q x r = IsReplyOver false (λ contents. IsAnswerToText q (bytes_at contents 0)) x r

-- ---- words

abbrev pub usage : List ℕ
usage = codes "usage: vaultq faults F | paths F | keys F\n"

-- the words are no question
abbrev pub usage_reply : Reply
usage_reply = reply NO_COMMAND usage

abbrev pub IsAnswerToQuestion : Option Question → Files → Reply → Type 0
IsAnswerToQuestion None files r = r ≡ usage_reply
IsAnswerToQuestion (Some q) files r = IsAnswerToRead q (read_in files (sources_of q)) r

-- These words and files have this answer.
abbrev pub IsAnswerTo : (words : List (List ℕ)) → Files → Reply → Type 0
IsAnswerTo words files r = IsAnswerToQuestion (question_of words) files r

-- ---- every store

-- What a question may be answered over a store that it took from the one state to the other: the answer to what reading its
-- file came to.
abbrev pub MayAnswer : {S : Type 0} (g : Ghosts S) (old new : S) → Option Question → Reply → Type 0
MayAnswer g old new None r = r ≡ usage_reply
MayAnswer g old new (Some q) r = (x : Read) × MayRead g old new (sources_of q) x × IsAnswerToRead q x r

-- the question's file wasn't read: it is missing, or reading it failed
abbrev pub IsUnread : {S : Type 0} (g : Ghosts S) (old new : S) → Question → Reply → Type 0
IsUnread g old new q r =
    (name : List ℕ) × MayRead g old new (sources_of q) (unread name) × MayFail (g.files old) name (g.faults old) (g.faults new) × (r ≡ unread_reply name)
