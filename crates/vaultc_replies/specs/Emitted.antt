-- What `emit` replies to a verdict.
use Rattle.std.specs.Prelude.{◌≡◌, ℕ, nat_lt, if◌then◌else◌, List, ◌++◌, length}
use Rattle.vlt_base.specs.Limits.{limit_of}
use Rattle.vlt_base.specs.declared.limits.TheConstants.{C_BYTES}
use Rattle.vlt_core.specs.Core.{Program}
use Rattle.vlt_verdict.specs.Verdicts.{Verdict, accepted}
use Rattle.c_syntax.specs.Canonical.{canonical_text}
use Rattle.c_lower.specs.Lowering.{lowered}
use Rattle.cert_format.specs.Notes.{Note}
use Rattle.cert_least_laws.specs.LeastNotes.{IsLeastCertificate}
use Rattle.cert_emit.specs.Certificates.{certificate_of}
use Rattle.vaultc_runs.specs.declared.status.TheConstants.{DONE}
use Rattle.vaultc_runs.specs.Lines.{Reply, reply, over_reply}
use Rattle.vaultc_replies.specs.Verdicts.{check_reply}

-- the C text of a program
abbrev pub c_text : Program → List ℕ
c_text p = canonical_text (lowered p)

-- a C file: the C text of a program, and after it the certificate of the program and these notes
abbrev pub c_file : Program → List (List Note) → List ℕ
c_file p notes = c_text p ++ certificate_of p notes

-- a text is written, unless it has more bytes than a C file may have
abbrev pub file_reply : List ℕ → Reply
file_reply text = if nat_lt (limit_of C_BYTES) (length text) then over_reply C_BYTES else reply DONE text

-- The notes are those of the least annotation of each body; there is one such list at most.
abbrev pub IsEmitted : Program → Reply → Type 0
IsEmitted p r = (notes : List (List Note)) × IsLeastCertificate p notes × (r ≡ file_reply (c_file p notes))

-- `emit` replies as `check` does where that doesn't accept.
abbrev pub IsReplyToCompiled : (text : List ℕ) → Verdict → Reply → Type 0
IsReplyToCompiled text (accepted p) r = IsEmitted p r
IsReplyToCompiled text v r = r ≡ check_reply text v
