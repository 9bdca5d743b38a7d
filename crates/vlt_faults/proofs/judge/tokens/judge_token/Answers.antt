use Rattle.std.proofs.Common.{sym, ◌∙◌}
use Rattle.vlt_faults.proofs.OfJudge.Overs.{first_own, over_token, room_found, fits_found}
use Rattle.vlt_faults.proofs.judge.tokens.judge_token.Goals as goal

pub judge_block-judged-requires : goal.judge_block-judged-requires
judge_block-judged-requires c =
    let k = c.in_ok-kept.ensures in
    record {
      room = room_found _ _ _ c.start_ones-ones.result c.in_ok-kept.kept c.requires (k.around ∙ c.requires.stmts) (k.following ∙ sym k.around);
      fits = fits_found _ _ c.start_ones-ones.result c.in_ok-kept.kept k.found;
    }

pub returns-clause-own : goal.returns-clause-own
returns-clause-own c = first_own _ _ _ _ c.judge_block-judged.ensures.first

pub returns-clause-first : goal.returns-clause-first
returns-clause-first c =
    over_token _ _ _ c.start_ones-ones.result c.in_ok-kept.kept _ c.start_ones-ones.ensures c.judge_block-judged.ensures.first c.in_ok-kept.ensures.found
