use Rattle.std.proofs.Common.{arith, [], ◌∷◌, ◌<◌, length}
use Rattle.std.proofs.lemmas.List.{get_or_default}
use Rattle.vlt_core.specs.View.{func_of}
use Rattle.vlt_core.specs.Core.{a_var}
use Rattle.vlt_core.specs.Maps.{wants_absent, becomes_full}
use Rattle.vlt_core.specs.Lookups.{is_owning_var}
use Rattle.vlt_core.specs.Rows.{row, fill_rows}
use Rattle.vlt_rows.proofs.Looping.{filtered}
use Rattle.vlt_rows.proofs.Looping.{going_more, going_stops, going_ends}
use Rattle.vlt_rows.proofs.pieces.give_fills.Goals as goal

pub returns-in_err-give_fill : goal.returns-in_err-give_fill
returns-in_err-give_fill g c =
    let lt : c.loop-v.v-index < length c.args.vs.now = omega arith in
    rw (← filtered (λ v. row (a_var v) wants_absent becomes_full) (is_owning_var (func_of c.args.f.now)) (λ v. v.0) c.args.vs.now)
    (going_stops _ _ (λ v. fill_rows (func_of c.args.f.now) (v.0 ∷ [])) (c.args.vs.now) _ _ _ _ _ _ _ lt (get_or_default _ _ _ _ lt) c.loop-v.invariant c.from_residual.ensures.1 c.in_err-give_fill.ensures)

pub loop-v-preserved : goal.loop-v-preserved
loop-v-preserved g c =
    let lt : c.loop-v.v-index < length c.args.vs.now = omega arith in
    going_more _ _ (λ v. fill_rows (func_of c.args.f.now) (v.0 ∷ [])) (c.args.vs.now) _ _ _ _ _ lt (get_or_default _ _ _ _ lt) c.loop-v.invariant c.in_ok-give_fill.ensures

pub returns : goal.returns
returns g c =
    rw (← filtered (λ v. row (a_var v) wants_absent becomes_full) (is_owning_var (func_of c.args.f.now)) (λ v. v.0) c.args.vs.now)
    (going_ends _ _ (λ v. fill_rows (func_of c.args.f.now) (v.0 ∷ [])) (c.args.vs.now) _ _ _ (omega (arith, c.loop-v-test.false)) c.loop-v.invariant)
