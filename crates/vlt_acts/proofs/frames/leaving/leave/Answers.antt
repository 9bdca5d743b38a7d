use Rattle.std.proofs.Common.{◌∙◌, ap, subst, arith, map}
use Rattle.vlt_core.specs.View.{func_of, entry_of}
use Rattle.vlt_acts.specs.Values.Shown.{IsCut}
use Rattle.vlt_acts.proofs.OfFrames.Callers.{named_so, named_like, mid_table, mid_target, has_gone, goes_back, back_of}
use Rattle.vlt_acts.proofs.frames.leaving.leave.Goals as goal

pub deliver-requires-clause-table : goal.deliver-requires-clause-table
deliver-requires-clause-table c = mid_table c.args.caller.now c.args.values.now c.name_all.new.values c.requires.table c.requires.below
    (named_so c.args.caller.now (func_of c.args.callee.now) c.args.values.now c.run.new.self c.name_all.new.values (map entry_of c.as_slice.result.now) c.keys-from.result c.last-value.result c.run.ensures c.keys-from.ensures c.last-value.ensures (ap (map entry_of) c.as_slice.ensures) c.requires.below c.name_all.ensures.named c.name_all.ensures.names).named

pub deliver-requires-clause-target : goal.deliver-requires-clause-target
deliver-requires-clause-target c = mid_target c.args.caller.now c.args.values.now c.name_all.new.values c.requires.below
    (named_so c.args.caller.now (func_of c.args.callee.now) c.args.values.now c.run.new.self c.name_all.new.values (map entry_of c.as_slice.result.now) c.keys-from.result c.last-value.result c.run.ensures c.keys-from.ensures c.last-value.ensures (ap (map entry_of) c.as_slice.ensures) c.requires.below c.name_all.ensures.named c.name_all.ensures.names).named

pub truncate-requires : goal.truncate-requires
truncate-requires c =
    let named = (named_so c.args.caller.now (func_of c.args.callee.now) c.args.values.now c.run.new.self c.name_all.new.values (map entry_of c.as_slice.result.now) c.keys-from.result c.last-value.result c.run.ensures c.keys-from.ensures c.last-value.ensures (ap (map entry_of) c.as_slice.ensures) c.requires.below c.name_all.ensures.named c.name_all.ensures.names).named.long in
    let same = c.deliver.ensures.same.long in
    let table = c.requires.table in
    omega (arith, named, same, table, c.base-end.ensures)

pub returns-clause-running : goal.returns-clause-running
returns-clause-running c = (has_gone c.args.caller.now c.args.values.now c.name_all.new.values c.deliver.new.values c.truncate.new.self c.requires.table c.requires.below (named_so c.args.caller.now (func_of c.args.callee.now) c.args.values.now c.run.new.self c.name_all.new.values (map entry_of c.as_slice.result.now) c.keys-from.result c.last-value.result c.run.ensures c.keys-from.ensures c.last-value.ensures (ap (map entry_of) c.as_slice.ensures) c.requires.below c.name_all.ensures.named c.name_all.ensures.names).named c.deliver.ensures.same (subst (λ n. IsCut n c.deliver.new.values c.truncate.new.self) c.base-end.ensures c.truncate.ensures.cut)).running

pub returns-clause-base : goal.returns-clause-base
returns-clause-base c = (has_gone c.args.caller.now c.args.values.now c.name_all.new.values c.deliver.new.values c.truncate.new.self c.requires.table c.requires.below (named_so c.args.caller.now (func_of c.args.callee.now) c.args.values.now c.run.new.self c.name_all.new.values (map entry_of c.as_slice.result.now) c.keys-from.result c.last-value.result c.run.ensures c.keys-from.ensures c.last-value.ensures (ap (map entry_of) c.as_slice.ensures) c.requires.below c.name_all.ensures.named c.name_all.ensures.names).named c.deliver.ensures.same (subst (λ n. IsCut n c.deliver.new.values c.truncate.new.self) c.base-end.ensures c.truncate.ensures.cut)).base

pub returns-clause-width : goal.returns-clause-width
returns-clause-width c = (has_gone c.args.caller.now c.args.values.now c.name_all.new.values c.deliver.new.values c.truncate.new.self c.requires.table c.requires.below (named_so c.args.caller.now (func_of c.args.callee.now) c.args.values.now c.run.new.self c.name_all.new.values (map entry_of c.as_slice.result.now) c.keys-from.result c.last-value.result c.run.ensures c.keys-from.ensures c.last-value.ensures (ap (map entry_of) c.as_slice.ensures) c.requires.below c.name_all.ensures.named c.name_all.ensures.names).named c.deliver.ensures.same (subst (λ n. IsCut n c.deliver.new.values c.truncate.new.self) c.base-end.ensures c.truncate.ensures.cut)).width

pub returns-clause-same : goal.returns-clause-same
returns-clause-same c = (has_gone c.args.caller.now c.args.values.now c.name_all.new.values c.deliver.new.values c.truncate.new.self c.requires.table c.requires.below (named_so c.args.caller.now (func_of c.args.callee.now) c.args.values.now c.run.new.self c.name_all.new.values (map entry_of c.as_slice.result.now) c.keys-from.result c.last-value.result c.run.ensures c.keys-from.ensures c.last-value.ensures (ap (map entry_of) c.as_slice.ensures) c.requires.below c.name_all.ensures.named c.name_all.ensures.names).named c.deliver.ensures.same (subst (λ n. IsCut n c.deliver.new.values c.truncate.new.self) c.base-end.ensures c.truncate.ensures.cut)).same

pub returns-clause-room : goal.returns-clause-room
returns-clause-room c =
    let named = (named_so c.args.caller.now (func_of c.args.callee.now) c.args.values.now c.run.new.self c.name_all.new.values (map entry_of c.as_slice.result.now) c.keys-from.result c.last-value.result c.run.ensures c.keys-from.ensures c.last-value.ensures (ap (map entry_of) c.as_slice.ensures) c.requires.below c.name_all.ensures.named c.name_all.ensures.names).named.room in
    c.truncate.ensures.room ∙ c.deliver.ensures.room ∙ named

pub returns-clause-returns : goal.returns-clause-returns
returns-clause-returns c = λ g like items k a kept v left waits.
    let named = named_like c.args.caller.now (func_of c.args.callee.now) g c.args.values.now c.name_all.new.values like (named_so c.args.caller.now (func_of c.args.callee.now) c.args.values.now c.run.new.self c.name_all.new.values (map entry_of c.as_slice.result.now) c.keys-from.result c.last-value.result c.run.ensures c.keys-from.ensures c.last-value.ensures (ap (map entry_of) c.as_slice.ensures) c.requires.below c.name_all.ensures.named c.name_all.ensures.names) in
    back_of items c.args.caller.now g c.args.values.now c.truncate.new.self a kept v k waits
    (λ stands. goes_back items c.args.caller.now g c.args.values.now c.name_all.new.values c.truncate.new.self a kept v k.frame named left stands c.deliver.new.values c.deliver.ensures.delivered (subst (λ n. IsCut n c.deliver.new.values c.truncate.new.self) c.base-end.ensures c.truncate.ensures.cut))
