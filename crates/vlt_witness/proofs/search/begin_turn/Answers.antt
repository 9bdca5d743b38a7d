use Rattle.std.proofs.Common.{◌≡◌, ◌+◌, length, arith}
use Rattle.std.proofs.lemmas.List.{length-map}
use Rattle.vlt_core.specs.Faults.{head_spot}
use Rattle.vlt_core.specs.HeldView.{row_of}
use Rattle.vlt_rows.specs.FlowView.{rows_view}
use Rattle.vlt_witness.specs.Ways.{On, OnSeen}
use Rattle.vlt_witness.specs.Aims.{JoinHere, RowsHere}
use Rattle.vlt_witness.proofs.Algebra.{sees_both}
use Rattle.vlt_witness.proofs.Large.{passed_on}
use Rattle.vlt_witness.proofs.search.begin_turn.Goals as goal

pub returns : goal.returns
returns c =
    let a = c.args.aim in
    let V = c.in_ok-heads.heads in
    let long = length-map c.args.rows.now row_of in
    let head = rw c.as_slice.ensures at c.in_ok-see_join.ensures in
    let leaves = rw c.as_slice-2.ensures at c.in_ok-leave.ensures in
    let n1 : c.in_ok-following.field-0 ≡ c.args.number + 1 = c.in_ok-following.ensures in
    let n2 : c.in_ok-first.first ≡ c.in_ok-following.field-0 + length c.args.rows.now = c.in_ok-first.ensures in
    record {
      heads = V;
      every = c.in_ok-heads.ensures.found;
      all = c.in_ok-heads.ensures.all;
      walks = c.in_ok-passed.ensures.walks;
      leaves = leaves;
      sees = sees_both (JoinHere a (head_spot c.args.at c.args.number)) (RowsHere a c.args.at (rows_view c.args.rows.now)) (On V) (OnSeen c.args.met.now) (OnSeen c.see_join.new.list) (OnSeen c.pass.new.met) head c.in_ok-passed.ensures.sees;
      number = omega (arith, n1, n2, long);
    }

pub returns-in_err-following : goal.returns-in_err-following
returns-in_err-following c = passed_on _ _ _ c.from_residual-in_err-following.ensures.1 c.in_err-following.ensures (λ h. omega (arith, h))

pub returns-in_err-first : goal.returns-in_err-first
returns-in_err-first c =
    let long = length-map c.args.rows.now row_of in
    let n1 : c.in_ok-following.field-0 ≡ c.args.number + 1 = c.in_ok-following.ensures in
    passed_on _ _ _ c.from_residual-in_err-first.ensures.1 c.in_err-first.ensures (λ h. omega (arith, h, n1, long))
