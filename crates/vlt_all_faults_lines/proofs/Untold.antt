-- Causes of errors, of parts and of the whole.
use Rattle.std.proofs.Common.{◌≡◌, ◌≤◌, ◌<◌, ◌^◌, ◌+◌, ℕ, List, map, length, Some, slice_get, sym, ap, ◌∙◌, arith}
use Rattle.std.proofs.lemmas.List.{length-map}
use Rattle.vlt_core.specs.Core.{Func, Program}
use Rattle.vlt_all_faults_lines.specs.Steps.{HasUntoldBody}
use Rattle.vlt_all_faults_lines.specs.Unfit.{HasUntoldFunc, HasUnshown, many_functions}

pub untold_in : (p : Program) (i : ℕ) (f : Func) → slice_get p.fns i ≡ Some f → HasUntoldBody p f → HasUntoldFunc p
untold_in p i f there u = record { number = i; func = f; there = there; with_body = u.0; untold = u.1 }

pub many_at : {X : Type 0} (g : X → Func) (p : Program) (fs : List X) (i : ℕ) → 2 ^ 32 ≤ i + 1 → i < length fs → map g fs ≡ p.fns → HasUnshown p
many_at g p fs i many lt is =
    let long : length p.fns ≡ length fs = ap length (sym is) ∙ length-map fs g in
    many_functions (omega (arith, many, lt, long))
