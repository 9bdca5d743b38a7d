use Rattle.std.proofs.Common.{◌*◌, arith, refl, ◌∷◌, []}
use Rattle.std.proofs.lemmas.List.{length-append, length-map}
use Rattle.vlt_core.specs.Found.{Has}
use Rattle.vlt_core.specs.View.{func_of, tok_of, key_of, var_of}
use Rattle.vlt_keyset.specs.Held.{map_of}
use Rattle.vlt_points.proofs.Founds.{started_more, token_place}
use Rattle.vlt_points.proofs.found.Found.at_start.Goals as goal

pub loop-place-init : goal.loop-place-init
loop-place-init c = rw c.in_ok-ones.ensures.items (record { long = refl; each = λ t lt. absurd (omega (arith, lt)) })

pub loop-place-preserved : goal.loop-place-preserved
loop-place-preserved c = rw c.in_ok-push.ensures.items (record {
  long = omega (arith, length-append c.loop-place.ones.items (c.start_ones.result ∷ []), c.loop-place.invariant.long);
  each = started_more (λ t o. Has (map_of c.args.start.now t) o) c.loop-place.ones.items c.loop-place.place c.start_ones.result (tok_of c.tok_at.result) c.loop-place.invariant.long c.tok_at.ensures c.start_ones.ensures c.loop-place.invariant.each;
})

pub returns : goal.returns
returns c = λ t own. c.loop-place.invariant.each t (let place = token_place (func_of c.args.f.now) t (2 * c.max-count.result) (omega (arith, c.max-count.ensures, c.len.ensures, c.len-2.ensures, length-map c.args.f.now.keys key_of, length-map c.args.f.now.vars var_of)) own in omega (arith, place, c.loop-place-test.false))
