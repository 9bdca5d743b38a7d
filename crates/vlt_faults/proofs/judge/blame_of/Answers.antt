use Rattle.std.proofs.Common.{◌<◌, ◌^◌, sym, subst}
use Rattle.std.proofs.lemmas.Result.{IfOk-weaker}
use Rattle.vlt_core.specs.Instances.{instance}
use Rattle.vlt_core.specs.View.{program_of, func_of}
use Rattle.vlt_rows.specs.declared.sink.RowError.{RowError}
use Rattle.vlt_faults.specs.Judge.Faulty.{HasNoNumber, no_flow, no_start, no_number}
use Rattle.vlt_faults.proofs.OfJudge.Unfitting.{handed_unfit, unfit_through}
use Rattle.vlt_faults.proofs.OfJudge.Whole.{over_in}
use Rattle.vlt_faults.proofs.judge.blame_of.Goals as goal

pub judge_one-requires : goal.judge_one-requires
judge_one-requires c =
    let r = c.in_ok-start.ensures.range in
    record { keys = subst (λ n. n < 2 ^ 32) (sym r.keys) r.few_keys; vars = subst (λ n. n < 2 ^ 32) (sym r.vars) r.few_vars }

pub returns-clause-first : goal.returns-clause-first
returns-clause-first c =
    IfOk-weaker {Y = RowError} _ _ _ (λ x q. over_in _ (program_of c.args.p.now) (instance (program_of c.args.p.now) (func_of c.args.f.now) c.args.origin) _ _ x c.in_ok-flow.ensures c.in_ok-start.ensures.map q) c.judge_one.ensures.first

pub returns-clause-unfit : goal.returns-clause-unfit
returns-clause-unfit c = unfit_through _ (λ u. no_number (subst HasNoNumber c.in_ok-flow.ensures u)) c.judge_one.ensures.unfit

pub returns-in_err-flow-clause-unfit : goal.returns-in_err-flow-clause-unfit
returns-in_err-flow-clause-unfit c = handed_unfit _ _ c.from_residual.ensures.1 (λ u. no_flow u) c.in_err-flow.ensures

pub returns-in_err-start-clause-unfit : goal.returns-in_err-start-clause-unfit
returns-in_err-start-clause-unfit c = handed_unfit _ _ c.from_residual-in_err-start.ensures.1 (λ u. no_start u) c.in_err-start.ensures.map
