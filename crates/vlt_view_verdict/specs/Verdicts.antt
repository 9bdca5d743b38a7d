-- What the view of an interface with a module is as a program.
use Rattle.std.specs.Prelude.{Bool, Result, Ok, Err}
use Rattle.vlt_core.specs.Core.{Program}
use Rattle.vlt_kinds_types.specs.declared.names.found.Refusal.{Refusal}
use Rattle.vlt_kinds_types.specs.Kinds.{Kinds}
use Rattle.vlt_elaboration.specs.Elaboration.{Refused, broken}
use Rattle.vlt_iface.specs.View.{View}
use Rattle.vlt_views.specs.Views.{view_kinds_told, view_elaborated}
use Rattle.vlt_verdict.specs.Verdicts.{Verdict, IsVerdict}

-- the core program where the declarations are told so
abbrev pub with_view_kinds : View → (with_main : Bool) → Result Kinds Refusal → Result Program Refused
with_view_kinds v with_main (Ok kinds) = view_elaborated v kinds with_main
with_view_kinds v with_main (Err r) = Err (broken r.rule r.at)

-- The core program of a view, or what refuses it first: declarations and heads before bodies. The rule on `main` is tested
-- where one is wanted.
abbrev pub view_program_told : View → (with_main : Bool) → Result Program Refused
view_program_told v with_main = with_view_kinds v with_main (view_kinds_told v)

abbrev pub IsVerdictOfView : View → (with_main : Bool) → Verdict → Type 0
IsVerdictOfView v with_main x = IsVerdict (view_program_told v with_main) x
