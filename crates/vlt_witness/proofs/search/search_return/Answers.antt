use Rattle.std.proofs.Common.{inl, arith}
use Rattle.vlt_rows.specs.FlowView.{rows_view}
use Rattle.vlt_witness.specs.declared.search.Went.{Went}
use Rattle.vlt_witness.proofs.Forms.{searched_return}
use Rattle.vlt_witness.proofs.Large.{passed_on}
use Rattle.vlt_witness.proofs.search.search_return.Goals as goal

pub returns : goal.returns
returns c = λ j.
    let p = c.in_ok-ended in
    let r : Went = record { next = c.new.result; number = p.ended.number } in
    searched_return c.args.aim c.args.at c.args.number (rows_view c.args.rows.now) c.args.ways p.ended.next j c.args.met.now c.pass_rows.new.met r p.ensures.walks p.ensures.sees c.new.ensures p.ensures.number

pub returns-in_err-ended : goal.returns-in_err-ended
returns-in_err-ended c = λ j. passed_on _ _ _ c.from_residual.ensures.1 c.in_err-ended.ensures (λ h. inl (omega (arith, h)))
