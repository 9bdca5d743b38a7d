-- That a view of texts has one verdict.
use Rattle.std.specs.Prelude.{◌≡◌, Bool}
use Rattle.vlt_base.specs.Sure.{Surely}
use Rattle.vlt_iface.specs.View.{View}
use Rattle.vlt_verdict.specs.Verdicts.{Verdict}
use Rattle.vlt_view_verdict.specs.Verdicts.{IsVerdictOfView}
use Rattle.vlt_view_verdict.specs.Views.{IsViewOfTexts}

-- A view of texts is of one verdict.
abbrev pub ViewsHaveOneVerdict : Type 0
ViewsHaveOneVerdict =
    (v : View) (with_main : Bool) (a b : Verdict) → IsViewOfTexts v → IsVerdictOfView v with_main a →
    IsVerdictOfView v with_main b → a ≡ b

-- It can't be that it is of none.
abbrev pub ViewsHaveSomeVerdict : Type 0
ViewsHaveSomeVerdict =
    (v : View) (with_main : Bool) → IsViewOfTexts v → Surely ((x : Verdict) × IsVerdictOfView v with_main x)
