use Rattle.std.proofs.Common.{◌<◌, length, arith, subst}
use Rattle.std.proofs.lemmas.List.{get_or_default}
use Rattle.vlt_core.specs.Maps.{away_row}
use Rattle.vlt_core.specs.View.{tok_of}
use Rattle.vlt_faults.proofs.OfFinding.Passing.{going_ends, map_twice}
use Rattle.vlt_faults.proofs.OfFinding.Sweeps.{split_at}
use Rattle.vlt_core_laws.specs.Sweep.{In}
use Rattle.vlt_faults.specs.Finding.Ones.{many_of}
use Rattle.vlt_faults.specs.Finding.Passes.{IsMoved}
use Rattle.vlt_faults.specs.Judge.Blames.{FirstOfRow}
use Rattle.vlt_faults.proofs.OfJudge.Lists.{looking_first, looking_more, looking_ends}
use Rattle.vlt_faults.proofs.judge.rows.judge_gone.Goals as goal

pub loop-t-init : goal.loop-t-init
loop-t-init c = looking_first _ c.args.at c.args.number (λ t. away_row (tok_of t)) c.args.toks.now _

pub loop-t-preserved : goal.loop-t-preserved
loop-t-preserved c =
    let lt : c.loop-t.t-index < length c.args.toks.now = omega arith in
    let row = subst (λ r. FirstOfRow (tok_of c.args.tok) c.args.at c.loop-t.n r (In (many_of c.loop-t.cur)) c.judge_row.result) c.gone-row.ensures c.judge_row.ensures in
    let moved = subst (λ r. IsMoved (tok_of c.args.tok) r (many_of c.loop-t.cur) (many_of c.pass_row-cur.result)) c.gone-row.ensures c.pass_row-cur.ensures in
    looking_more _ _ _ (λ t. away_row (tok_of t)) _ _ _ _ _ _ _ _ _ _ (split_at _ _ _ lt (get_or_default _ _ _ _ lt)) c.loop-t.invariant row c.earlier-first.ensures moved

pub returns-clause-first : goal.returns-clause-first
returns-clause-first c = rw (← map_twice away_row tok_of c.args.toks.now) (looking_ends _ _ _ (λ t. away_row (tok_of t)) _ _ _ _ _ _ (omega (arith, c.loop-t-test.false)) c.loop-t.invariant)

pub returns-clause-ones : goal.returns-clause-ones
returns-clause-ones c = rw (← map_twice away_row tok_of c.args.toks.now) (going_ends _ (λ t. away_row (tok_of t)) _ _ _ _ (omega (arith, c.loop-t-test.false)) c.loop-t.invariant.passed)
