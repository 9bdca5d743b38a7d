use Rattle.vlt_core.specs.View.{program_of, func_of, tok_of}
use Rattle.vlt_all_faults.specs.Tokens.{IsJudgedTo}
use Rattle.vlt_all_faults.proofs.token.first_fault.Given as goal

abbrev pub invariant-loop-origin : goal.invariant-loop-origin
invariant-loop-origin l = IsJudgedTo (program_of l.p) (func_of l.f) (tok_of l.tok) l.origin-index l.first
