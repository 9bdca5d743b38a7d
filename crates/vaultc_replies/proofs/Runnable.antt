-- An accepted program of a text can be run, and a host can call its functions.
use Rattle.std.proofs.Common.{◌≤◌, ◌<◌, ℕ, length, arith}
use Rattle.std.specs.Prelude.{◌^◌}
use Rattle.vlt_core.specs.Core.{Program}
use Rattle.vlt_core.specs.Derives.{IsAccepted}
use Rattle.vlt_core.specs.Kinded.{IsKinded}
use Rattle.vlt_core_laws.specs.States.{HasStates}
use Rattle.vlt_fit_laws.specs.Fit.{IsTextTree, ProgramsAreFit}
use Rattle.vlt_interp.specs.Calls.Known.{KnowsItsCalls}
use Rattle.vlt_interp.specs.Reached.{IsRunnable}
use Rattle.vlt_run_laws.specs.Blank.{HasBlankExternals, HasFewVars}
use Rattle.vlt_sound.specs.Promise.{NeverGoesWrong}
use Rattle.vlt_sound.specs.Narrow.{HasNarrowHeads}
use Rattle.vlt_sound.specs.Sizes.{HasSizes}
use Rattle.vlt_syntax.specs.Tree.{Tree}
use Rattle.vlt_host.specs.Machine.Callable.{IsCallable}
use Rattle.vlt_host_laws.specs.Promise.{NeverGoesWrongForHosts}
use Rattle.vaultc_runs.specs.Callable.{IsRunnableForHosts}
use Rattle.vlt_interp.specs.Tasks.Own.{HasOwn}
use Rattle.vlt_verdict.proofs.Single.{fit_program}
use Rattle.vlt_verdict.specs.Verdicts.{accepted, IsVerdictOf}

-- what is so of accepted programs
abbrev pub OfAccepted : (Program → Type 0) → Type 0
OfAccepted P = (p : Program) → IsKinded p → IsAccepted p → HasSizes p → HasStates p → HasNarrowHeads p → P p

-- the laws on programs that are run
pub record RunLaws : Type 0 where
  pub fit : ProgramsAreFit
  pub never : OfAccepted NeverGoesWrong
  pub calls : OfAccepted KnowsItsCalls
  pub own : (p : Program) → IsKinded p → HasFewVars p → HasBlankExternals p → HasOwn p

few_vars : (n : ℕ) → n ≤ 256 → n < 2 ^ 32
few_vars n le = omega (arith, le)

few_functions : (n : ℕ) → n ≤ 4096 → n < 2 ^ 32
few_functions n le = omega (arith, le)

pub runnable : RunLaws → (t : Tree) (p : Program) → IsTextTree t → IsVerdictOf t (accepted p) → IsRunnable p
runnable laws t p tree is =
    let x = fit_program laws.fit t p tree is.0 in
    let kinded = x.kinded in
    let states = x.well_formed.states in
    record {
      never = laws.never p kinded is.1 x.sizes states x.narrow;
      own = laws.own p kinded (λ i f at. few_vars (length f.vars) (x.few.vars i f at)) x.blank;
      calls = laws.calls p kinded is.1 x.sizes states x.narrow;
    }

-- the laws on programs whose functions a host calls
pub record HostLaws : Type 0 where
  pub fit : ProgramsAreFit
  pub never : OfAccepted NeverGoesWrongForHosts
  pub callable : (p : Program) → IsKinded p → IsAccepted p → HasSizes p → HasStates p → HasNarrowHeads p → HasFewVars p → HasBlankExternals p → IsCallable p

pub runnable_for_hosts : HostLaws → (t : Tree) (p : Program) → IsTextTree t → IsVerdictOf t (accepted p) → IsRunnableForHosts p
runnable_for_hosts laws t p tree is =
    let x = fit_program laws.fit t p tree is.0 in
    let states = x.well_formed.states in
    record {
      callable = laws.callable p x.kinded is.1 x.sizes states x.narrow (λ i f at. few_vars (length f.vars) (x.few.vars i f at)) x.blank;
      never = laws.never p x.kinded is.1 x.sizes states x.narrow;
      few = few_functions (length p.fns) x.few.functions;
    }
