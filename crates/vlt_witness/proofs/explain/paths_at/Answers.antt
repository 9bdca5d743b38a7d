use Rattle.vlt_core.specs.Instances.{instance}
use Rattle.vlt_core.specs.View.{program_of, func_of}
use Rattle.vlt_core.specs.Witness.{IsWitnessIn}
use Rattle.vlt_check.specs.Checks.{fault_of}
use Rattle.vlt_paths.specs.Shown.{ShowsIn}
use Rattle.vlt_paths.proofs.Beginning.{is_so, is_not}
use Rattle.vlt_witness.proofs.Showing.{paths_handed}
use Rattle.vlt_witness.proofs.explain.paths_at.Goals as goal

pub returns-then-not-has_instance : goal.returns-then-not-has_instance
returns-then-not-has_instance c = λ first second z. is_not _ _ c.has_instance.ensures c.if-not-has_instance.true z.0

pub returns : goal.returns
returns c =
    let p = program_of c.args.p.now in
    let f = func_of c.args.f.now in
    let x = fault_of c.args.fault.now in
    let has = is_so _ _ c.has_instance.ensures c.if-not-has_instance.false in
    paths_handed (IsWitnessIn p (instance p f c.args.fault.now.origin) x) (ShowsIn p f x) c.paths_in.result (λ first second z. (has, z)) (λ first second z. z.1)
    (λ u. record { with_body = has.0; origin = has.1; unfit = u }) c.paths_in.ensures
