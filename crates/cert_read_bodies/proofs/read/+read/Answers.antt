use Rattle.std.proofs.Common.{refl, sym, ap, ◌∙◌, subst, ◌+◌, ◌==◌, Some, option_map, map, arith}
use Rattle.vlt_core.specs.View.{expr_of}
use Rattle.cert_rows.specs.Rows as row
use Rattle.cert_format.specs.Drafts as s
use Rattle.cert_format.specs.Drafts.{head, may_arm}
use Rattle.cert_read_parts.specs.Maps.{maps_of}
use Rattle.cert_read_rows.specs.Heads.{head_of, arm_of}
use Rattle.cert_read_rows.specs.Statements.{plain_of, stmt_of}
use Rattle.vlt_core.specs.HeldView.{toks_of}
use Rattle.cert_read_parts.specs.Endings.{ending_of}
use Rattle.cert_read_bodies.specs.Tree.{block_of, arms_of, drafts_of}
use Rattle.cert_read_bodies.specs.Reads.{ReadsDraft}
use Rattle.cert_read_bodies.proofs.Rowed.{simple, blocked, chosen, switched, is_plain_row, deep_so}
use Rattle.cert_read_bodies.proofs.Turned.{began, turned, finished, broken_off, cut, is_last, not_last, not_whole, is_whole}
use Rattle.cert_read_bodies.proofs.Armed.{arms_turned_by, arms_finished, drop_all}
use Rattle.cert_read_bodies.proofs.Views.{block_parts, arm_parts, if_draft, while_draft, switch_draft, focus_draft, scope_draft}
use Rattle.cert_read_bodies.proofs.read.+read.Goals as goal

pub read_draft-returns-in-Some-Plain : goal.read_draft-returns-in-Some-Plain
read_draft-returns-in-Some-Plain t c =
    let p = c.plain_draft.ensures in
    rw (p.draft)
    (simple c.args.instances c.args.at c.args.deep c.args.rows.now (plain_of c.in-Some-Plain.row) _ (omega (arith, c.if-at-rows.false))
    (sym c.in_ok-row_at.ensures ∙ ap (option_map stmt_of) (c.in-Some-Plain.is ∙ ap Some c.in-Some-Plain.field-0-is)) (is_plain_row c.in-Some-Plain.row) p.next p.whole p.ends p.right)

pub read_while-returns : goal.read_while-returns
read_while-returns t c =
    let b = c.in_ok-body in
    let w = c.args.row in
    rw (while_draft w.cond b.body.block w.around w.exit)
    (blocked c.args.instances c.args.at c.args.deep c.args.rows.now (row.loop (expr_of w.cond) (head (block_of b.body.block)) (maps_of w.around) (maps_of w.exit)) (block_of b.body.block)
    (s.loop (expr_of w.cond) (block_of b.body.block) (maps_of w.around) (maps_of w.exit)) b.body _ c.requires.there.0
    (c.requires.there.1 ∙ ap (λ h. Some (row.loop (expr_of w.cond) h (maps_of w.around) (maps_of w.exit))) (sym b.ensures.0))
    refl refl refl refl (λ more k. (deep_so c.args.deep (omega (arith, c.if-deep-ge64.false)), k)) b.ensures.1 refl refl refl refl)

pub read_focus-returns : goal.read_focus-returns
read_focus-returns t c =
    let b = c.in_ok-body in
    let w = c.args.row in
    rw (focus_draft w.y w.z b.body.block)
    (blocked c.args.instances c.args.at c.args.deep c.args.rows.now (row.focus w.y.0 w.z.0 (head (block_of b.body.block))) (block_of b.body.block)
    (s.focus w.y.0 w.z.0 (block_of b.body.block)) b.body _ c.requires.there.0
    (c.requires.there.1 ∙ ap (λ h. Some (row.focus w.y.0 w.z.0 h)) (sym b.ensures.0))
    refl refl refl refl (λ more k. (deep_so c.args.deep (omega (arith, c.if-deep-ge64.false)), k)) b.ensures.1 refl refl refl refl)

pub read_scope-returns : goal.read_scope-returns
read_scope-returns t c =
    let b = c.in_ok-body in
    rw (scope_draft b.body.block)
    (blocked c.args.instances c.args.at c.args.deep c.args.rows.now (row.scope (head (block_of b.body.block))) (block_of b.body.block)
    (s.scope (block_of b.body.block)) b.body _ c.requires.there.0
    (c.requires.there.1 ∙ ap (λ h. Some (row.scope h)) (sym b.ensures.0))
    refl refl refl refl (λ more k. (deep_so c.args.deep (omega (arith, c.if-deep-ge64.false)), k)) b.ensures.1 refl refl b.ensures.1.ending refl)

pub read_if-returns : goal.read_if-returns
read_if-returns t c =
    let i = c.args.row in
    let yes = c.in_ok-yes in
    let no = c.in_ok-no in
    rw (if_draft i.cond yes.yes.block no.no.block i.maps)
    (chosen c.args.instances c.args.at c.args.deep c.args.rows.now (expr_of i.cond) (block_of yes.yes.block) (block_of no.no.block) (option_map maps_of i.maps) yes.yes no.no _ c.requires.there.0
    (deep_so c.args.deep (omega (arith, c.if-deep-ge64.false)))
    (c.requires.there.1
    ∙ ap (λ h. Some (row.choose (expr_of i.cond) h (head_of i.else_block) (option_map maps_of i.maps))) (sym yes.ensures.0)
    ∙ ap (λ h. Some (row.choose (expr_of i.cond) (head (block_of yes.yes.block)) h (option_map maps_of i.maps))) (sym no.ensures.0))
    yes.ensures.1 no.ensures.1 refl refl c.both-ends.ensures (c.at_odds-wrong.ensures ∙ rw (c.both-ends.ensures, c.or_else-inside.ensures) refl))

pub read_switch-returns : goal.read_switch-returns
read_switch-returns t c =
    let i = c.args.row in
    let a = c.in_ok-arms in
    rw (switch_draft i.v a.arms.arms i.maps)
    (switched c.args.instances c.args.at c.args.deep c.args.rows.now i.v.0 (arms_of a.arms.arms) (option_map maps_of i.maps) c.in-Some.inner a.arms _ c.requires.there.0
    (ap (may_arm c.args.deep) (a.ensures.0 ∙ ap (map arm_of) c.as_slice-2.ensures ∙ sym (ap (map arm_of) c.as_slice.ensures)) ∙ c.in-Some.ensures.1) c.in-Some.ensures.2
    (c.requires.there.1 ∙ ap (λ h. Some (row.switch i.v.0 h (option_map maps_of i.maps))) (sym (a.ensures.0 ∙ ap (map arm_of) c.as_slice-2.ensures)))
    a.ensures.1 refl refl refl c.at_odds-wrong.ensures)

pub read_block-read_draft-requires : goal.read_block-read_draft-requires
read_block-read_draft-requires t c = (omega (arith, c.decreases, c.loop-i.invariant.1.further, c.loop-i.invariant.1.within), (c.loop-i.invariant.1.within, c.requires.within))

pub read_block-loop-i-init : goal.read_block-loop-i-init
read_block-loop-i-init t c = (refl, rw (c.new-stmts.ensures) (began c.args.instances c.args.at c.args.deep c.args.head.count c.args.rows.now c.requires.there))

pub read_block-loop-i-preserved : goal.read_block-loop-i-preserved
read_block-loop-i-preserved t c = (
  c.loop-i.invariant.0,
  rw (c.in_ok-push-in-Some.ensures.ok, c.or_else-wrong.ensures)
      (turned c.args.instances c.args.at c.args.deep c.args.head.count c.args.rows.now c.loop-i.i c.loop-i.stmts c.loop-i.at c.loop-i.ends c.loop-i.wrong c.loop-i.invariant.1 c.in-Some.read.draft c.in-Some.read c.loop-i-test.true
      (subst (ReadsDraft c.args.instances c.loop-i.at c.args.deep c.args.rows.now) c.in-Some.is c.in_ok-read.ensures) (is_whole c.in-Some.read.whole c.if-not-read.false)),
)

pub read_block-returns-then-not-read : goal.read_block-returns-then-not-read
read_block-returns-then-not-read t c =
    let p = c.part_of_block.ensures in (
      ap head p.block ∙ ap (λ b. (c.args.head.count, toks_of b)) c.loop-i.invariant.0,
      cut c.args.instances c.args.at c.args.deep c.args.head.count c.args.rows.now c.loop-i.i c.loop-i.stmts c.loop-i.at c.loop-i.ends c.loop-i.wrong c.loop-i.invariant.1 (toks_of c.loop-i.bound) c.in-Some.read.draft c.in-Some.read _ _
          (c.loop-i.i + 1 == c.args.head.count) c.loop-i-test.true (subst (ReadsDraft c.args.instances c.loop-i.at c.args.deep c.args.rows.now) c.in-Some.is c.in_ok-read.ensures) (not_whole c.in-Some.read.whole c.if-not-read.true)
          (is_last (c.loop-i.i + 1) c.args.head.count) (not_last (c.loop-i.i + 1) c.args.head.count (omega (arith, c.loop-i-test.true)))
          (p.block ∙ ap (λ xs. s.block c.args.head.count (toks_of c.loop-i.bound) (drafts_of xs)) c.in_ok-push-in-Some.ensures.ok) p.at p.part
          (ap ending_of p.ends ∙ c.cut_ending-ends.ensures) (p.wrong ∙ c.or_else-wrong.ensures),
    )

pub read_block-returns-in-None : goal.read_block-returns-in-None
read_block-returns-in-None t c =
    let p = c.part_of_block-in-None.ensures in (
      ap head p.block ∙ ap (λ b. (c.args.head.count, toks_of b)) c.loop-i.invariant.0,
      broken_off c.args.instances c.args.at c.args.deep c.args.head.count c.args.rows.now c.loop-i.i c.loop-i.stmts c.loop-i.at c.loop-i.ends c.loop-i.wrong c.loop-i.invariant.1 (toks_of c.loop-i.bound) _ _ c.loop-i-test.true
          (subst (ReadsDraft c.args.instances c.loop-i.at c.args.deep c.args.rows.now) c.in-None.is c.in_ok-read.ensures) p.block p.at p.part (ap ending_of p.ends) p.wrong,
    )

pub read_block-returns : goal.read_block-returns
read_block-returns t c = (
  ap head (block_parts _) ∙ ap (λ b. (c.args.head.count, toks_of b)) c.loop-i.invariant.0,
  finished c.args.instances c.args.at c.args.deep c.args.head.count c.args.rows.now c.loop-i.i c.loop-i.stmts c.loop-i.at c.loop-i.ends c.loop-i.wrong c.loop-i.invariant.1 (toks_of c.loop-i.bound) _ _
      (omega (arith, c.loop-i-test.false, c.loop-i.invariant.1.turns)) (block_parts _) refl refl refl refl,
)

pub read_arms-read_second-requires : goal.read_arms-read_second-requires
read_arms-read_second-requires t c = (omega (arith, c.decreases, c.loop-head.invariant.further, c.loop-head.invariant.within), (c.loop-head.invariant.within, c.requires.within))

pub read_arms-loop-head-preserved : goal.read_arms-loop-head-preserved
read_arms-loop-head-preserved t c = rw (c.in_ok-push.ensures.ok, c.or_else-wrong.ensures)
    (arms_turned_by c.args.instances c.args.at c.args.deep c.args.rows.now c.args.heads.now c.loop-head.head-index c.loop-head.arms c.loop-head.at c.loop-head.whole c.loop-head.ends c.loop-head.wrong c.loop-head.invariant
    _ c.head-item.result c.in_ok-block.block _ c.in_ok-from_slice-2.field-0 c.in_ok-from_slice.field-0 (block_of c.in_ok-block.block.block) c.loop-head-test.true c.head-item.is (arm_parts _)
    (c.in_ok-from_slice-2.ensures ∙ c.as_slice-in-loop-head.ensures) (c.in_ok-from_slice.ensures ∙ c.as_slice.ensures) c.in_ok-block.ensures.0 c.in_ok-block.ensures.1 c.both-ends.ensures)

pub read_arms-returns : goal.read_arms-returns
read_arms-returns t c =
    arms_finished c.args.instances c.args.at c.args.deep c.args.rows.now c.args.heads.now c.loop-head.head-index c.loop-head.arms c.loop-head.at c.loop-head.whole c.loop-head.ends c.loop-head.wrong c.loop-head.invariant
    _ (drop_all c.loop-head.head-index c.args.heads.now c.loop-head-test.false) refl refl refl refl refl
