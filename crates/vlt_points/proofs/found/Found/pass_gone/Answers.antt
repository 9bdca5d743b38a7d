use Rattle.std.proofs.Common.{◌<◌, length, arith, refl, ◌∙◌}
use Rattle.std.proofs.lemmas.List.{get_or_default}
use Rattle.vlt_core.specs.Maps.{away_row}
use Rattle.vlt_core.specs.View.{tok_of}
use Rattle.vlt_faults.proofs.OfFinding.Passing.{going_more, going_ends, map_twice}
use Rattle.vlt_faults.proofs.OfFinding.Sweeps.{split_at}
use Rattle.vlt_points.proofs.found.Found.pass_gone.Goals as goal

pub loop-tok-init : goal.loop-tok-init
loop-tok-init c = record { each = λ t. record { each = λ o. (λ x. x, λ x. x) }; long = refl }

pub loop-tok-preserved : goal.loop-tok-preserved
loop-tok-preserved c =
    let lt : c.loop-tok.tok-index < length c.args.toks.now = omega arith in
    record {
      each = λ t. going_more t (λ u. away_row (tok_of u)) _ _ _ _ _ _ (split_at _ _ _ lt (get_or_default _ _ _ _ lt)) (c.loop-tok.invariant.each t) (c.pass_row.ensures.moved t);
      long = c.pass_row.ensures.long ∙ c.loop-tok.invariant.long;
    }

pub returns : goal.returns
returns c = record {
  image = λ t. rw (← map_twice away_row tok_of c.args.toks.now) (going_ends t (λ u. away_row (tok_of u)) _ _ _ _ (omega (arith, c.loop-tok-test.false)) (c.loop-tok.invariant.each t));
  long = c.loop-tok.invariant.long;
}
