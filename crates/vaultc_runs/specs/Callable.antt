-- Programs of which functions are called for a host.
use Rattle.std.specs.Prelude.{◌<◌, ◌^◌, length}
use Rattle.vlt_core.specs.Core.{Program}
use Rattle.vlt_host_laws.specs.Promise.{NeverGoesWrongForHosts}
use Rattle.vlt_host.specs.Machine.Callable.{IsCallable}

-- a machine takes the program, no run of it goes wrong, and its functions have numbers of 32 bits
pub record IsRunnableForHosts (p : Program) : Type 0 where
  pub callable : IsCallable p
  pub never : NeverGoesWrongForHosts p
  pub few : length p.fns < 2 ^ 32
