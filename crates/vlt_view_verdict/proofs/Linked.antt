-- Modules whose views are accepted link.
use Rattle.std.proofs.Common.{◌≡◌, Bool, Result, Ok, Err, refl}
use Rattle.vlt_syntax.specs.Tree.{Tree}
use Rattle.vlt_core.specs.Core.{Program}
use Rattle.vlt_kinds_types.specs.declared.names.found.Refusal.{Refusal}
use Rattle.vlt_kinds_types.specs.Kinds.{Kinds}
use Rattle.vlt_elaboration.specs.Elaboration as elab
use Rattle.vlt_iface.specs.View.{View}
use Rattle.vlt_views.specs.Views.{view_kinds_told, view_elaborated}
use Rattle.vlt_link_laws.specs.Link.{IsTested, TestedViewsLink}
use Rattle.vlt_view_verdict.specs.Verdicts.{with_view_kinds, view_program_told}
use Rattle.vlt_view_verdict.specs.Link.{IsAcceptedWith, AcceptedModulesLink}

-- the kinds of a view that a program is made of
pub record HasKinds (v : View) (with_main : Bool) (p : Program) : Type 0 where
  pub kinds : Kinds
  pub told : view_kinds_told v ≡ Ok kinds
  pub gives : view_elaborated v kinds with_main ≡ Ok p

err_or_ok : (r : elab.Refused) (p : Program) → ◌≡◌ {A = Result Program elab.Refused} (Err r) (Ok p) → ⊥
err_or_ok r p e = cc

pub with_its_kinds : (v : View) (with_main : Bool) (p : Program) → view_program_told v with_main ≡ Ok p → HasKinds v with_main p
with_its_kinds v with_main p e = by (view_kinds_told v) refl e
  where
    by : (r : Result Kinds Refusal) → view_kinds_told v ≡ r → with_view_kinds v with_main r ≡ Ok p → HasKinds v with_main p
    by (Ok kinds) told gives = record { kinds = kinds; told = told; gives = gives }
    by (Err r) told gives = absurd (err_or_ok (elab.broken r.rule r.at) p gives)

tested : (i m : Tree) (with_main : Bool) → IsAcceptedWith i m with_main → IsTested i m with_main
tested i m with_main is =
    let k = with_its_kinds is.view with_main is.program is.is.0 in
    record { view = is.view; viewed = is.told; kinds = k.kinds; told = k.told; program = is.program; gives = k.gives; accepted = is.is.1 }

pub modules_link : TestedViewsLink → AcceptedModulesLink
modules_link link i f g t one two three first second told = link i f g t one two three (tested i f _ first) (tested i g _ second) told
