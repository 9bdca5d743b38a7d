use Rattle.vlt_trace_meaning.proofs.Over.{each_comes, comes_to_one, comes_where, trace_is_the_run}
use Rattle.vlt_trace_meaning.proofs.frames_are_the_runs.Goals as goal

pub returns : goal.returns
returns c =
    let machine = c.machine_is_the_run.ensures in
    record { exists = each_comes machine; one = comes_to_one; leads = comes_where machine; runs = trace_is_the_run machine }
