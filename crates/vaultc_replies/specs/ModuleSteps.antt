-- What the steps of `module` and `link` give or reply.
use Rattle.std.specs.Prelude.{◌≡◌, Bool, Ok, Err}
use Rattle.vlt_base.specs.Limits.{limit_of}
use Rattle.vlt_base.specs.declared.limits.TheConstants.{SOURCE_BYTES}
use Rattle.vlt_syntax.specs.View.{tree_of}
use Rattle.vlt_syntax_copies.specs.Within.{AreWithin}
use Rattle.vlt_core.specs.Core.{Program}
use Rattle.vlt_iface.specs.View.{View}
use Rattle.vlt_iface.specs.Told.{Told, view_told}
use Rattle.vlt_fit_laws.specs.Fit.{IsTextTree}
use Rattle.vlt_verdict.specs.Verdicts.{accepted}
use Rattle.vlt_view_verdict.specs.Verdicts.{IsVerdictOfView}
use Rattle.vaultc_runs.specs.Lines.{Reply, in_file}
use Rattle.vaultc_runs.specs.Texts.{Refusal, AreRefused, IsTooLong, IsTextOf, refusal_reply}
use Rattle.vaultc_replies.specs.Modules.{File, file_with, IsReplyToNoView, IsReplyToView}
use Rattle.vaultc_runs.specs.Shown.{shown_reply}
use Rattle.vaultc_replies.specs.declared.modules.Last.{Last}
use Rattle.vaultc_replies.specs.declared.modules.Last.TheVariants.{Replied, Memory}
use Rattle.vaultc_replies.specs.declared.modules.NamedText.{NamedText}
use Rattle.vaultc_replies.specs.declared.modules.Parsed.{Parsed}

abbrev pub file_seen : NamedText → File
file_seen t = file_with t.name.now t.bytes.now

-- the text is no longer than a source file may be
abbrev pub IsShort : NamedText → Type 0
IsShort t = IsTooLong t.bytes.now → ⊥

-- what the last step replies; out of memory replies nothing
abbrev pub Replies : (P : Reply → Type 0) → Last → Type 0
Replies P (Replied r) = P (shown_reply r)
Replies P Memory = Unit {0}

abbrev pub IsRefusedText : File → Reply → Type 0
IsRefusedText f r = (e : Refusal) × AreRefused f.bytes e × (r ≡ in_file f.name (refusal_reply f.bytes e))

-- the text has this tree
pub record IsParsed (x : Parsed) : Type 0 where
  pub reads : IsTextOf (tree_of x.tree) x.text.bytes.now
  pub tree : IsTextTree (tree_of x.tree)
  pub within : AreWithin (limit_of SOURCE_BYTES) (tree_of x.tree)
  pub short : IsShort x.text

-- there is no view
abbrev pub HasNoView : (interface own : Parsed) → Reply → Type 0
HasNoView i m r =
    (e : Told) × (view_told (tree_of i.tree) (tree_of m.tree) ≡ Err e)
    × IsReplyToNoView (file_seen i.text) (file_seen m.text) e r

-- the view follows all rules
abbrev pub IsTested : (interface own : Parsed) → (with_main : Bool) → Program → Type 0
IsTested i m with_main p =
    (v : View) × (view_told (tree_of i.tree) (tree_of m.tree) ≡ Ok v) × IsVerdictOfView v with_main (accepted p)

-- it doesn't
abbrev pub IsUntested : (interface own : Parsed) → (with_main : Bool) → Reply → Type 0
IsUntested i m with_main r =
    IsReplyToView (file_seen i.text) (file_seen m.text) with_main (λ _ _. ⊥) (view_told (tree_of i.tree) (tree_of m.tree)) r
