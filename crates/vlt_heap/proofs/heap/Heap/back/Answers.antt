use Rattle.std.proofs.Common.{rules, refl, sym, ap, ◌∙◌, ◌≡◌, true, slice_get}
use Rattle.vlt_heap.proofs.Calls.{found, kind_set}
use Rattle.vlt_heap.specs.Items.{IsAt}
use Rattle.vlt_heap.proofs.heap.Heap.back.Goals as goal

pub returns-clause-items : goal.returns-clause-items
returns-clause-items c = λ items holds.
    let yes : c.is_held.result ≡ true = search rules in
    let f = found c.args.self.now items c.args.o.0 holds (c.is_held.ensures.live yes) in
    let number = c.is_held.ensures.number yes items f.number f.item holds f.at f.place in
    let at : IsAt items c.args.number f.item = ap (slice_get items) (sym number) ∙ f.at in
    let k = c.kind-kind.ensures.items items c.args.number f.item holds at f.place in
    let is_out : c.kind-kind.result.is_out ≡ true = search rules in (
      f.item,
      at,
      f.place,
      sym k.is_out ∙ is_out,
      kind_set c.args.self.now _ items c.args.number c.args.o.0 f.item _ _ c.requires.sound holds at f.place c.set_kind.ensures.set (record { type = k.type; state = k.state; is_out = refl }) refl refl,
    )
