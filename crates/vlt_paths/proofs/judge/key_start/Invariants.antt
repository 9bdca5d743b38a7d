use Rattle.vlt_core.specs.Instances.{instance, entry_in}
use Rattle.vlt_core.specs.View.{program_of, func_of, entry_of}
use Rattle.vlt_paths.proofs.Beginning.{Looked}
use Rattle.vlt_paths.proofs.judge.key_start.Given as goal

abbrev pub invariant-loop-e : goal.invariant-loop-e
invariant-loop-e l =
    Looked (program_of l.p) (instance (program_of l.p) (func_of l.f) l.origin) (λ e. entry_in (program_of l.p) (func_of l.f) l.origin (entry_of e)) l.f.clause l.key.0 l.e-index
