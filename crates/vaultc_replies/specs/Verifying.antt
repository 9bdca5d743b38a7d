-- What `verify` replies to a C file.
use Rattle.std.specs.Prelude.{◌≡◌, ◌⊎◌, ℕ, List, ◌++◌, codes}
use Rattle.std.specs.Fmt.{decimal}
use Rattle.vlt_core.specs.Core.{Program}
use Rattle.c_reader.specs.declared.error.CError.{CError}
use Rattle.c_reader.specs.declared.error.CError.TheVariants as error
use Rattle.cert_format.specs.Notes.{Note}
use Rattle.cert_verify.specs.Verified.{IsVerifiedFile, body_count}
use Rattle.cert_verify.specs.Refusals.{Refusal, unread, no_certificate, kind, local, not_lowered, IsRefusal}
use Rattle.vaultc_runs.specs.declared.status.TheConstants.{DONE, REFUSED}
use Rattle.vaultc_runs.specs.Lines.{Reply, reply, over_reply}

-- how many functions with a body were verified
abbrev pub verified_line : Program → List ℕ
verified_line p = codes "verified " ++ decimal (body_count p) ++ codes "\n"

-- the part that fails, by its number
abbrev pub refused_reply : (part : List ℕ) → Reply
refused_reply part = reply REFUSED (codes "refused " ++ part ++ codes "\n")

abbrev pub refused_at_reply : (part : List ℕ) → (statement : ℕ) → Reply
refused_at_reply part n = refused_reply (part ++ (codes " statement " ++ decimal n))

-- A C text over a limit is refused by that limit, as in a run. Out of memory refuses none.
abbrev pub unread_reply : CError → Reply
unread_reply (error.Limit n) = over_reply n
unread_reply (error.Unexpected at) = refused_reply (codes "1")
unread_reply error.EndOfText = refused_reply (codes "1")
unread_reply (error.Kind rule at) = refused_reply (codes "1")
unread_reply error.Memory = refused_reply (codes "1")

-- statements are counted from 0 over the whole program
abbrev pub unverified_reply : Refusal → Reply
unverified_reply (unread e) = unread_reply e
unverified_reply no_certificate = refused_reply (codes "2")
unverified_reply (kind rule) = refused_reply (codes "3 rule " ++ decimal rule)
unverified_reply (local first) = refused_at_reply (codes "4") first.statement
unverified_reply (not_lowered n) = refused_at_reply (codes "5") n

abbrev pub IsReplyToVerify : (text : List ℕ) → Reply → Type 0
IsReplyToVerify text r =
    ((p : Program) × (notes : List (List Note)) × IsVerifiedFile text p notes × (r ≡ reply DONE (verified_line p)))
    ⊎ ((x : Refusal) × IsRefusal text x × (r ≡ unverified_reply x))
