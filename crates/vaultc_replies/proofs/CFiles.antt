-- What `emit` writes of a program, and what the file says.
use Rattle.std.proofs.Common.{◌≡◌, ◌<◌, ◌≤◌, ℕ, Bool, true, false, true≢false, ◌&&◌, ◌||◌, if◌then◌else◌, List, [], ◌∷◌, ◌++◌, ◌+◌, length, length-append, Option, Some, None, Result, Ok, Err, refl, sym, ap, ◌∙◌, subst, arith}
use Rattle.std.specs.Prelude.{nat_lt, nat_le, IfOk, OnOk}
use Rattle.std.specs.List.{list_any}
use Rattle.std.specs.declared.alloc.AllocError.{AllocError}
use Rattle.std.proofs.lemmas.Bool.Decides.{nat_tests}
use Rattle.vlt_base.specs.Limits.{limit_of}
use Rattle.vlt_base.specs.declared.limits.TheConstants.{C_BYTES}
use Rattle.vlt_core.specs.Core.{Ty, int, bool, tracked, owning, guarded, variant, owning_variant, Func, Program}
use Rattle.vlt_core.specs.Lookups.{cases_of}
use Rattle.vlt_syntax.specs.Tree.{Tree}
use Rattle.vlt_fit_laws.specs.Fit.{IsTextTree, ProgramsAreFit}
use Rattle.vlt_verdict.specs.Verdicts.{accepted, IsVerdictOf}
use Rattle.c_syntax.specs.C as c
use Rattle.c_syntax.specs.Canonical.{canonical_text}
use Rattle.c_lower.specs.Lowering.{lowered}
use Rattle.c_lower_program.specs.Glue.ManyCases.{has_many_cases, gives_many_cases}
use Rattle.c_lower_program.specs.Refusals.{Refuses}
use Rattle.c_lower_program.specs.declared.error.LowerError.{LowerError}
use Rattle.c_lower_program.specs.declared.error.LowerError.TheVariants as error
use Rattle.c_lower_accepted.specs.Texts.{IsAcceptedTree}
use Rattle.c_lower_accepted.proofs.Texts.{accepted_program}
use Rattle.c_reader_laws.specs.PrinterLaws.ReadAgain.{ReadsAs}
use Rattle.std.proofs.lemmas.List.{append_assoc}
use Rattle.c_syntax.specs.Text.{mark}
use Rattle.c_syntax.specs.Reading.{IsCProgramOf}
use Rattle.serde_json.specs.Written.{compact_text}
use Rattle.cert_rows.specs.Parts.{list}
use Rattle.cert_format.specs.Places.{unplaced_program}
use Rattle.cert_format.specs.Text.{closing}
use Rattle.cert_format.specs.Notes.{Note}
use Rattle.cert_format.specs.Certificate.{program_data}
use Rattle.cert_format_laws.specs.Versions.{is_ordered}
use Rattle.cert_emit.specs.Certificates.{IsLeastText}
use Rattle.vaultc_runs.specs.declared.status.TheConstants.{DONE}
use Rattle.vaultc_runs.specs.Lines.{reply, over_reply}
use Rattle.vaultc_replies.specs.Emitted.{c_text, c_file, file_reply, IsEmitted}
use Rattle.vaultc_runs.specs.Shown.{shown_reply}
use Rattle.vaultc_runs.specs.declared.reply.Reply.{Reply as CodeReply}
use Rattle.vaultc_replies.proofs.Promises.{not_zero, status_of}

-- the program is that of an accepted tree
pub accepted_tree : (t : Tree) (p : Program) → IsTextTree t → IsVerdictOf t (accepted p) → IsAcceptedTree t p
accepted_tree t p tree is = record { text = tree; elaborates = is.0; accepted = is.1 }

-- ---- variants of texts have few cases

not_many : (n : ℕ) → n ≤ 32 → nat_le 64 n ≡ false
not_many n few = grind (arith, nat_tests, few)

few_given : (p : Program) → ((n : ℕ) → length (cases_of p n) ≤ 32) → (ty : Option Ty) → has_many_cases p ty ≡ false
few_given p few None = refl
few_given p few (Some int) = refl
few_given p few (Some bool) = refl
few_given p few (Some (tracked k t args)) = refl
few_given p few (Some (owning states t args)) = refl
few_given p few (Some (guarded k t args)) = refl
few_given p few (Some (variant t args)) = not_many (length (cases_of p t)) (few t)
few_given p few (Some (owning_variant t args)) = not_many (length (cases_of p t)) (few t)

none_gives : (p : Program) → ((n : ℕ) → length (cases_of p n) ≤ 32) → (fs : List Func) → list_any (λ f. f.external && has_many_cases p f.result) fs ≡ false
none_gives p few [] = refl
none_gives p few (f ∷ fs) = ap (λ b. (f.external && b) || list_any (λ f. f.external && has_many_cases p f.result) fs) (few_given p few f.result) ∙ neither f.external (none_gives p few fs)
  where
    neither : {b : Bool} (a : Bool) → b ≡ false → ((a && false) || b) ≡ false
    neither true e = e
    neither false e = e

-- variants of accepted texts have no more cases than the grammar lets them have
pub few_cases : ProgramsAreFit → (t : Tree) (p : Program) → IsAcceptedTree t p → gives_many_cases p ≡ false
few_cases law t p is = none_gives p (accepted_program law t p is).limits.cases p.fns

-- ---- replies

is_over : (m n : ℕ) → m < n → nat_lt m n ≡ true
is_over m n lt = grind (arith, nat_tests, lt)

not_over : (m n : ℕ) → n ≤ m → nat_lt m n ≡ false
not_over m n le = grind (arith, nat_tests, le)

-- a text that is over the limit, and one that isn't
pub long_file : (text : List ℕ) → limit_of C_BYTES < length text → file_reply text ≡ over_reply C_BYTES
long_file text over = ap (λ b. if b then over_reply C_BYTES else reply DONE text) (is_over (limit_of C_BYTES) (length text) over)

pub short_file : (text : List ℕ) → length text ≤ limit_of C_BYTES → file_reply text ≡ reply DONE text
short_file text within = ap (λ b. if b then over_reply C_BYTES else reply DONE text) (not_over (limit_of C_BYTES) (length text) within)

-- where the C text alone is over it, the file is
pub long_text : (text more : List ℕ) → limit_of C_BYTES < length text → file_reply (text ++ more) ≡ over_reply C_BYTES
long_text text more over =
    let long : length (text ++ more) ≡ length text + length more = length-append text more in
    long_file (text ++ more) (omega (arith, over, long))

-- the file of a program that has a C program, and of one that has none for its length
pub lowered_file : (p : Program) (x : c.Program) (more : List ℕ) (r : Result CodeReply AllocError) → x ≡ lowered p →
    IfOk r (λ q. shown_reply q ≡ file_reply (canonical_text x ++ more)) → IfOk r (λ q. shown_reply q ≡ file_reply (c_text p ++ more))
lowered_file p x more (Ok q) is said = said ∙ ap (λ y. file_reply (canonical_text y ++ more)) is
lowered_file p x more (Err e) is said = tt

pub unlowered_file : (p : Program) (more : List ℕ) (r : Result CodeReply AllocError) → IfOk r (λ q. shown_reply q ≡ over_reply C_BYTES) →
    OnOk r (limit_of C_BYTES < length (c_text p)) → IfOk r (λ q. shown_reply q ≡ file_reply (c_text p ++ more))
unlowered_file p more (Ok q) over long = over ∙ sym (long_text (c_text p) more long)
unlowered_file p more (Err e) over long = tt

pub on_ok_of : {A : Type 0} {P : Type 0} (r : Result A AllocError) → P → OnOk r P
on_ok_of (Ok x) p = p
on_ok_of (Err e) p = tt

-- with the certificate of its least annotations
pub with_certificate : (p : Program) (text : List ℕ) (r : Result CodeReply AllocError) → IsLeastText p text →
    IfOk r (λ q. shown_reply q ≡ file_reply (c_text p ++ text)) → IfOk r (λ q. IsEmitted p (shown_reply q))
with_certificate p text (Ok q) least said = (least.notes, least.least, said ∙ ap (λ t. file_reply (c_text p ++ t)) least.is)
with_certificate p text (Err e) least said = tt

-- a program without a variant of many cases isn't refused for one
pub not_cases : (p : Program) (e : LowerError) → e ≡ error.Cases → Refuses p e → gives_many_cases p ≡ false → ⊥
not_cases p e is cause few = true≢false (sym (subst (Refuses p) is cause) ∙ few)

-- ---- status 0

-- a reply of status 0 that is a file or a limit is the file
pub text_there : (b : Bool) (text of : List ℕ) → nat_lt (limit_of C_BYTES) (length of) ≡ b → reply DONE text ≡ (if b then over_reply C_BYTES else reply DONE of) →
    (text ≡ of) × (length of ≤ limit_of C_BYTES)
text_there true text of is e = absurd (not_zero 4 (status_of text _ e))
text_there false text of is e = (ap (λ r. r.text) e, not_less (limit_of C_BYTES) (length of) is)
  where
    not_less : (m n : ℕ) → nat_lt m n ≡ false → n ≤ m
    not_less m n is = grind (arith, nat_tests, is)

-- the certificate comes after the C text, so both are read
pub certified : (p : Program) (notes : List (List Note)) → ReadsAs (c_text p) (lowered p) → IsCProgramOf (c_file p notes) (lowered p)
    (Some (record { from = length (c_text p); to = length (c_file p notes) }))
certified p notes again =
    let q = unplaced_program p in
    let more = compact_text (list (program_data (is_ordered q) q notes)) ++ closing in
    subst (λ l. IsCProgramOf l (lowered p) (Some (record { from = length (c_text p); to = length l }))) (append_assoc (c_text p) mark more) (again.certified more)
