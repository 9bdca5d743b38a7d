use Rattle.std.proofs.Common.{◌+◌, sym, ap, ◌∙◌, refl, length, option_map, arith}
use Rattle.vlt_core.specs.View.{case_of}
use Rattle.cert_read.proofs.CaseMore.{turned, length_end}
use Rattle.cert_read.proofs.cases.read_cases.Goals as goal

pub loop-turn-preserved : goal.loop-turn-preserved
loop-turn-preserved c =
    let pushed = c.in_ok-push-in-Some.ensures.ok in (
      turned c.args.ordered c.args.at c.args.rows.now c.loop-turn.cases c.push.new.self c.loop-turn.next (c.loop-turn.next + 1) c.in-Some.c (omega (arith, c.if-next-rows.false)) refl pushed
          (sym (ap (option_map case_of) c.in-Some.is) ∙ c.in_ok-c.ensures) c.loop-turn.invariant.0,
      (let p = ap length pushed in let n = length_end c.loop-turn.cases c.in-Some.c in let h = c.loop-turn.invariant.1 in omega (arith, p, n, h)),
    )
