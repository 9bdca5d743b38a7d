use Rattle.std.proofs.Common.{arith}
use Rattle.vlt_core.specs.View.{keys_of, case_key_of}
use Rattle.vlt_rows.specs.Pieces.{case_key_rows}
use Rattle.std.proofs.lemmas.List.Folds.{flat_map-map}
use Rattle.vlt_rows.proofs.Looping.{going_more, going_stops, going_ends}
use Rattle.vlt_rows.proofs.statements.give_keys.Goals as goal

pub returns-in_err-give_case_key : goal.returns-in_err-give_case_key
returns-in_err-give_case_key g c =
    rw (flat_map-map (case_key_rows (keys_of c.args.args.now) c.args.opens) case_key_of c.args.keys.now)
    (going_stops _ _ (λ k. case_key_rows (keys_of c.args.args.now) c.args.opens (case_key_of k)) (c.args.keys.now) _ _ _ _ _ _ _ (omega arith) c.key-item.is c.loop-key.invariant c.from_residual.ensures.1 c.in_err-give_case_key.ensures)

pub loop-key-preserved : goal.loop-key-preserved
loop-key-preserved g c =
    going_more _ _ (λ k. case_key_rows (keys_of c.args.args.now) c.args.opens (case_key_of k)) (c.args.keys.now) _ _ _ _ _ (omega arith) c.key-item.is c.loop-key.invariant c.in_ok-give_case_key.ensures

pub returns : goal.returns
returns g c =
    rw (flat_map-map (case_key_rows (keys_of c.args.args.now) c.args.opens) case_key_of c.args.keys.now)
    (going_ends _ _ (λ k. case_key_rows (keys_of c.args.args.now) c.args.opens (case_key_of k)) (c.args.keys.now) _ _ _ (omega (arith, c.loop-key-test.false)) c.loop-key.invariant)
