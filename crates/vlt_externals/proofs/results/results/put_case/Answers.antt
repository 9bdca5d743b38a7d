use Rattle.std.proofs.Common.{rules, SFits, w64, ◌+◌, map, length, Ok, Err, sym, ap, ◌∙◌, subst, arith}
use Rattle.std.proofs.lemmas.Int.{to_z-of_z}
use Rattle.std.proofs.lemmas.List.{length-map}
use Rattle.vlt_core.specs.View.{ty_of, keys_of, case_key_of, case_of}
use Rattle.vlt_heap.specs.declared.slots.Slot.TheVariants.{Number}
use Rattle.vlt_meaning.specs.HostAnswers.{each, key_state}
use Rattle.vlt_acts.specs.Values.Filled.{IsFilled, IsSingleSlot}
use Rattle.vlt_acts.specs.Values.Shown.{IsRowSet}
use Rattle.vlt_externals.specs.HostAnswers.Read.{rest_of, left_in}
use Rattle.vlt_externals.specs.Results.Results.{PutsPieces, PutsKeys}
use Rattle.vlt_externals.proofs.OfResults.Casing.{case_full, case_put}
use Rattle.vlt_externals.proofs.results.results.put_case.Goals as goal

pub returns-in-Err-clause-puts : goal.returns-in-Err-clause-puts
returns-in-Err-clause-puts c =
    case_full c.args.values.now c.put_single.new.self c.put_pieces.new.values c.args.heap.now c.put_pieces.new.heap (case_of c.args.read.decl.now) (keys_of c.args.keys.now) (keys_of c.args.args.now) c.args.read.case c.args.to (c.args.to + 1) c.args.read.left.now c.in-Some.left.now c.in-Err.e c.put_single.ensures.kept.width
    (sym (ap left_in c.in-Some.is) ∙ c.following_keys.ensures ∙ ap (λ l. rest_of (each key_state (map case_key_of l) c.args.read.left.now)) c.as_slice-listed.ensures)
    (subst (λ l. PutsPieces (map ty_of l) c.in-Some.left.now (c.args.to + 1) c.put_single.new.self c.put_pieces.new.values c.args.heap.now c.put_pieces.new.heap (Err c.in-Err.e)) c.as_slice-payload.ensures (subst (PutsPieces (map ty_of c.as_slice-payload.result.now) c.in-Some.left.now (c.args.to + 1) c.put_single.new.self c.put_pieces.new.values c.args.heap.now c.put_pieces.new.heap) c.in-Err.is c.put_pieces.ensures.puts))

pub returns-in-Ok-clause-puts : goal.returns-in-Ok-clause-puts
returns-in-Ok-clause-puts c =
    let f : SFits w64 c.args.number = search rules in
    let e = ap length c.as_slice-payload.ensures in
    let l = length-map c.args.read.decl.now.payload ty_of in
    let m = ap length c.as_slice-listed.ensures ∙ sym (length-map c.args.read.decl.now.keys case_key_of) in
    case_put c.args.values.now c.put_single.new.self c.put_pieces.new.values c.put_keys.new.values c.args.heap.now c.put_pieces.new.heap (case_of c.args.read.decl.now) (keys_of c.args.keys.now) (keys_of c.args.args.now) c.args.read.case c.args.to (c.args.to + 1) (c.args.to + 1 + length c.as_slice-payload.result.now) (omega arith) (omega (arith, e, l)) c.requires.fits c.put_single.ensures.kept
    (subst (λ z. IsFilled (IsSingleSlot (Number z)) c.put_single.new.self.slots.items c.args.to c.args.values.now.width) (to_z-of_z w64 c.args.number f ∙ c.requires.number) c.put_single.ensures.filled)
    (subst (λ n. IsRowSet (c.args.to + 1) n c.put_single.new.self c.put_pieces.new.values) (e ∙ sym l) c.put_pieces.ensures.set)
    (subst (λ n. IsRowSet (c.args.to + 1 + length c.as_slice-payload.result.now) n c.put_pieces.new.values c.put_keys.new.values) m c.put_keys.ensures.set)
    c.args.read.left.now c.in-Some.left.now (sym (ap left_in c.in-Some.is) ∙ c.following_keys.ensures ∙ ap (λ l. rest_of (each key_state (map case_key_of l) c.args.read.left.now)) c.as_slice-listed.ensures)
    (subst (λ l. PutsPieces (map ty_of l) c.in-Some.left.now (c.args.to + 1) c.put_single.new.self c.put_pieces.new.values c.args.heap.now c.put_pieces.new.heap (Ok tt)) c.as_slice-payload.ensures (subst (PutsPieces (map ty_of c.as_slice-payload.result.now) c.in-Some.left.now (c.args.to + 1) c.put_single.new.self c.put_pieces.new.values c.args.heap.now c.put_pieces.new.heap) c.in-Ok.is c.put_pieces.ensures.puts))
    (subst (λ l. PutsKeys (keys_of c.args.keys.now) (keys_of c.args.args.now) (map case_key_of l) (c.args.to + 1 + length c.as_slice-payload.result.now) c.put_pieces.new.values c.put_keys.new.values) c.as_slice-listed.ensures c.put_keys.ensures.puts)
