use Rattle.std.proofs.Common.{◌≡◌, ◌++◌, map, drop}
use Rattle.vlt_core.specs.View.{keys_of, case_key_of}
use Rattle.vlt_trace_steps.specs.Cases.{case_key_view, keys_for}
use Rattle.vlt_trace_steps.proofs.cases.keys_for.Given as goal

abbrev pub invariant-loop-k : goal.invariant-loop-k
invariant-loop-k l =
    map case_key_view l.keys ++ keys_for (keys_of l.args) (map case_key_of (drop l.k-index l.listed))
    ≡ keys_for (keys_of l.args) (map case_key_of l.listed)
