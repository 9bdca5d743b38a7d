-- What a machine that a host calls asks of a program.
use Rattle.vlt_core.specs.Core.{Program}
use Rattle.vlt_core.specs.Kinded.{IsKinded}
use Rattle.vlt_core.specs.Derives.{IsAccepted}
use Rattle.vlt_core_laws.specs.States.{HasStates}
use Rattle.vlt_sound.specs.Sizes.{HasSizes}
use Rattle.vlt_sound.specs.Narrow.{HasNarrowHeads}
use Rattle.vlt_run_laws.specs.Blank.{HasFewVars, HasBlankExternals}
use Rattle.vlt_run_laws.proofs.OwnWhole.{names_own}
use Rattle.vlt_host_laws.proofs.PastCallsLaws.{takes_calls}
use Rattle.vlt_host_laws.proofs.ResultsOfCalls.{gives_results}
use Rattle.vlt_host.specs.Machine.Callable.{IsCallable}
use Rattle.vlt_run_laws.proofs.OfHost.StartedLaws.{knows_started_calls}
use Rattle.vlt_run_laws.proofs.OfHost.ClauseKeys.{have_clause_keys}

pub callable : (p : Program) → IsKinded p → IsAccepted p → HasSizes p → HasStates p → HasNarrowHeads p → HasFewVars p → HasBlankExternals p → IsCallable p
callable p kinded accepted sizes filled narrow few blank = record {
  own = names_own p kinded few blank;
  keys = have_clause_keys p kinded;
  takes = takes_calls p kinded accepted sizes filled narrow;
  results = gives_results p kinded accepted sizes filled narrow;
  knows = knows_started_calls p kinded accepted sizes filled narrow;
}
