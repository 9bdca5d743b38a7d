-- What `module` and `link` reply to the files of an interface and of modules.
use Rattle.std.specs.Prelude.{◌≡◌, ◌⊎◌, ◌==◌, ℕ, Bool, true, false, if◌then◌else◌, List, ◌++◌, Result, Ok, Err, codes}
use Rattle.std.specs.Fmt.{decimal}
use Rattle.vlt_syntax.specs.Tree.{Tree}
use Rattle.vlt_core.specs.Core.{Program}
use Rattle.vlt_elaboration.specs.Elaboration as elab
use Rattle.vlt_elaboration.specs.Programs.{program_told}
use Rattle.vlt_iface.specs.View.{View}
use Rattle.vlt_iface.specs.Told.{Place, place_of, Told, broken, clash, exceeded, view_told, joined_told}
use Rattle.vlt_verdict.specs.Verdicts.{Verdict, refused, faulty, accepted}
use Rattle.vlt_view_verdict.specs.Verdicts.{IsVerdictOfView}
use Rattle.vlt_reports.specs.Accepted.{bodies}
use Rattle.vlt_reports.specs.Reports.{kind_line, fault_line}
use Rattle.vaultc_runs.specs.declared.status.TheConstants.{DONE, NO_PROGRAM, NOT_ACCEPTED}
use Rattle.vaultc_runs.specs.Lines.{Reply, reply, over_reply, in_file}
use Rattle.vaultc_runs.specs.Texts.{Refusal, AreRefused, IsTextOf, refusal_reply}
use Rattle.vaultc_replies.specs.Emitted.{IsEmitted}

-- a file of the language: its name and its bytes
pub record File : Type 0 where
  pub name : List ℕ
  pub bytes : List ℕ

abbrev pub file_with : (name bytes : List ℕ) → File
file_with name bytes = record { name = name; bytes = bytes }

-- ---- texts

-- a file that has no tree is refused; P has the replies to its tree
abbrev pub IsReplyByTreeIn : File → (P : Tree → Reply → Type 0) → Reply → Type 0
IsReplyByTreeIn f P r =
    ((e : Refusal) × AreRefused f.bytes e × (r ≡ in_file f.name (refusal_reply f.bytes e)))
    ⊎ ((t : Tree) × IsTextOf t f.bytes × P t r)

-- ---- a view: an interface with a module

-- the file that a place of a view is in
abbrev pub file_at : (interface own : File) → Place → File
file_at i m place = if place.file == 0 then i else m

-- a broken rule, in its own file; a limit is the module's
abbrev pub rule_reply : (interface own : File) → (rule : ℕ) → Place → Reply
rule_reply i m rule place =
    let f = file_at i m place in in_file f.name (reply NO_PROGRAM (kind_line f.bytes rule place.at))

abbrev pub refused_reply : (interface own : File) → elab.Refused → Reply
refused_reply i m (elab.broken rule at) = rule_reply i m rule (place_of at)
refused_reply i m (elab.exceeded n) = in_file m.name (over_reply n)

-- Bodies are the module's, so faults are in its file. P has the replies where the view follows all rules.
abbrev pub IsReplyToViewVerdict : (interface own : File) → (P : Program → Reply → Type 0) → Verdict → Reply → Type 0
IsReplyToViewVerdict i m P (refused e) r = r ≡ refused_reply i m e
IsReplyToViewVerdict i m P (faulty p f x) r =
    r ≡ in_file m.name (reply NOT_ACCEPTED (fault_line m.bytes p f (place_of x.at).at x.tok x.kind))
IsReplyToViewVerdict i m P (accepted p) r = P p r

-- a rule on what is given, or a limit; no view has names that clash
abbrev pub IsReplyToNoView : (interface own : File) → Told → Reply → Type 0
IsReplyToNoView i m (broken rule place) r = r ≡ rule_reply i m rule place
IsReplyToNoView i m (exceeded n) r = r ≡ in_file m.name (over_reply n)
IsReplyToNoView i m (clash name) r = ⊥

-- The rules on what is given come first.
abbrev pub IsReplyToView : (interface own : File) → (with_main : Bool) → (P : Program → Reply → Type 0) → Result View Told → Reply → Type 0
IsReplyToView i m with_main P (Err e) r = IsReplyToNoView i m e r
IsReplyToView i m with_main P (Ok v) r =
    (w : Verdict) × IsVerdictOfView v with_main w × IsReplyToViewVerdict i m P w r

-- ---- `module`

abbrev pub module_line : Program → List ℕ
module_line p = codes "module " ++ decimal (bodies p) ++ codes "\n"

-- All texts are read before the first view is tested.
abbrev pub IsReplyToModule : (interface own : File) → Reply → Type 0
IsReplyToModule i m r = IsReplyByTreeIn i (λ t. IsReplyByTreeIn m (λ u.
    IsReplyToView i m false (λ p q. q ≡ reply DONE (module_line p)) (view_told t u))) r

-- ---- `link`

abbrev pub clash_line : (name : List ℕ) → List ℕ
clash_line name = codes "clash " ++ name ++ codes "\n"

abbrev pub IsReplyToUnjoined : Told → Reply → Type 0
IsReplyToUnjoined (clash name) r = r ≡ reply NO_PROGRAM (clash_line name)
IsReplyToUnjoined (exceeded n) r = r ≡ over_reply n
IsReplyToUnjoined (broken rule place) r = ⊥

-- Where no names clash and the declarations are few enough, what `emit` writes of the joined tree. No rule on what is given
-- is tested anew.
abbrev pub IsReplyToJoined : Result Tree Told → Reply → Type 0
IsReplyToJoined (Err e) r = IsReplyToUnjoined e r
IsReplyToJoined (Ok t) r = (p : Program) × (program_told t ≡ Ok p) × IsEmitted p r

-- The first module is tested without a main, the second with one; then the two are joined.
abbrev pub IsReplyToLink : (interface first second : File) → Reply → Type 0
IsReplyToLink i f g r = IsReplyByTreeIn i (λ t. IsReplyByTreeIn f (λ u. IsReplyByTreeIn g (λ v.
    IsReplyToView i f false (λ _. IsReplyToView i g true (λ _. IsReplyToJoined (joined_told t u v)) (view_told t v))
    (view_told t u)))) r
