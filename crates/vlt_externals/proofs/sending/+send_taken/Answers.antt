use Rattle.std.proofs.Common.{rules, sym, subst, ◌∙◌, map}
use Rattle.vlt_core.specs.View.{entry_of, keys_of}
use Rattle.vlt_externals.specs.Sent.{CanTake, Takes}
use Rattle.vlt_externals.proofs.Going.{can_first, can_rest, can_skip, takes_both}
use Rattle.vlt_externals.proofs.sending.+send_taken.Goals as goal

pub send_key-requires-clause-can : goal.send_key-requires-clause-can
send_key-requires-clause-can n c = can_first c.args.heap.now c.args.values.now (keys_of c.args.keys.now) (entry_of c.in-Some.e.now) (map entry_of c.in-Some.rest.now) (subst (λ es. CanTake c.args.heap.now c.args.values.now (keys_of c.args.keys.now) (map entry_of es)) c.in-Some.ensures.cases.0 c.requires.can)

pub send_taken-requires : goal.send_taken-requires
send_taken-requires n c = (search rules, (c.send_key.ensures.sound, (c.requires.table, can_rest c.args.heap.now c.send_key.new.heap c.args.values.now (keys_of c.args.keys.now) (entry_of c.in-Some.e.now) (map entry_of c.in-Some.rest.now) (subst (λ es. CanTake c.args.heap.now c.args.values.now (keys_of c.args.keys.now) (map entry_of es)) c.in-Some.ensures.cases.0 c.requires.can) c.send_key.ensures.takes)))

pub send_taken-requires-else-is_taken : goal.send_taken-requires-else-is_taken
send_taken-requires-else-is_taken n c = (search rules, (c.requires.sound, (c.requires.table, can_skip c.args.heap.now c.args.values.now (keys_of c.args.keys.now) (entry_of c.in-Some.e.now) (map entry_of c.in-Some.rest.now) (sym c.is_taken.ensures ∙ c.if-is_taken.false) (subst (λ es. CanTake c.args.heap.now c.args.values.now (keys_of c.args.keys.now) (map entry_of es)) c.in-Some.ensures.cases.0 c.requires.can))))

pub returns-then-is_taken-clause-takes : goal.returns-then-is_taken-clause-takes
returns-then-is_taken-clause-takes n c =
    subst (λ es. Takes (keys_of c.args.keys.now) (map entry_of es) c.args.values.now c.args.heap.now c.send_taken.new.heap) (sym c.in-Some.ensures.cases.0)
    (takes_both c.args.heap.now c.send_key.new.heap c.send_taken.new.heap c.args.values.now (keys_of c.args.keys.now) (entry_of c.in-Some.e.now) (map entry_of c.in-Some.rest.now) c.send_key.ensures.takes c.send_taken.ensures.takes)
