use Rattle.std.proofs.Common.{map, true, false, Ok, Err, sym, ap, ◌∙◌, subst}
use Rattle.vlt_core.specs.Instances.{instance}
use Rattle.vlt_core.specs.View.{program_of, func_of, entry_of, keys_of}
use Rattle.vlt_externals.specs.Back.{ComesBack}
use Rattle.vlt_externals.specs.HostAnswers.Read.{AreSets, entries_in, AreWithin}
use Rattle.vlt_externals.proofs.OfHostAnswers.Instances.{clause_is}
use Rattle.vlt_externals.specs.HostAnswers.Whole.{IsFitting}
use Rattle.vlt_externals.specs.Results.Stated.{SetsEntries}
use Rattle.vlt_externals.specs.Results.Results.{PutsResult}
use Rattle.vlt_externals.specs.HostCalls.Heeded.{ComesIn}
use Rattle.vlt_externals.proofs.OfHostCalls.Instances.{back_in_instance}
use Rattle.vlt_externals.proofs.OfHostCalls.Answered.{not_read, not_back, not_in, all_heeded}
use Rattle.vlt_externals.proofs.host_calls.heeding.heed.Goals as goal

pub returns-then-not-take_back-clause-heeds : goal.returns-then-not-take_back-clause-heeds
returns-then-not-take_back-clause-heeds c =
    not_back (program_of c.args.program.now) (instance (program_of c.args.program.now) (func_of c.args.g.now) c.args.origin) (keys_of c.args.keys.now) c.args.position c.args.answer.now c.args.values.now c.args.heap.now c.requires.lists c.in-Some.left.now (subst (IsFitting (program_of c.args.program.now) (instance (program_of c.args.program.now) (func_of c.args.g.now) c.args.origin) c.args.answer.now) c.in-Some.is (c.fitting.ensures c.requires.sets)) c.args.values.now c.take_back.new.heap c.take_back.new.heap
    (back_in_instance (program_of c.args.program.now) (func_of c.args.g.now) c.args.origin (keys_of c.args.keys.now) (func_of c.args.g.now).clause c.args.values.now c.args.heap.now c.take_back.new.heap false (subst (ComesBack (keys_of c.args.keys.now) (map entry_of c.args.g.now.clause) c.args.values.now c.args.heap.now c.take_back.new.heap) c.if-not-take_back.true (subst (λ es. ComesBack (keys_of c.args.keys.now) (map entry_of es) c.args.values.now c.args.heap.now c.take_back.new.heap c.take_back.result) c.as_slice.ensures c.take_back.ensures.back)))

pub returns-then-not-take_result-clause-heeds : goal.returns-then-not-take_result-clause-heeds
returns-then-not-take_result-clause-heeds c =
    not_in (program_of c.args.program.now) (instance (program_of c.args.program.now) (func_of c.args.g.now) c.args.origin) (keys_of c.args.keys.now) c.args.position c.args.answer.now c.args.values.now c.args.heap.now c.requires.lists c.in-Some.left.now (subst (IsFitting (program_of c.args.program.now) (instance (program_of c.args.program.now) (func_of c.args.g.now) c.args.origin) c.args.answer.now) c.in-Some.is (c.fitting.ensures c.requires.sets)) c.take_back.new.heap
    (back_in_instance (program_of c.args.program.now) (func_of c.args.g.now) c.args.origin (keys_of c.args.keys.now) (func_of c.args.g.now).clause c.args.values.now c.args.heap.now c.take_back.new.heap true (subst (ComesBack (keys_of c.args.keys.now) (map entry_of c.args.g.now.clause) c.args.values.now c.args.heap.now c.take_back.new.heap) c.if-not-take_back.false (subst (λ es. ComesBack (keys_of c.args.keys.now) (map entry_of es) c.args.values.now c.args.heap.now c.take_back.new.heap c.take_back.result) c.as_slice.ensures c.take_back.ensures.back)))
    c.args.values.now c.take_result.new.heap c.take_result.new.heap
    (subst (ComesIn (program_of c.args.program.now) (instance (program_of c.args.program.now) (func_of c.args.g.now) c.args.origin) (keys_of c.args.keys.now) c.in-Some.left.now c.args.values.now c.take_back.new.heap c.take_result.new.heap) c.if-not-take_result.true c.take_result.ensures.back)

pub returns-in-Ok-clause-heeds : goal.returns-in-Ok-clause-heeds
returns-in-Ok-clause-heeds c =
    all_heeded (program_of c.args.program.now) (instance (program_of c.args.program.now) (func_of c.args.g.now) c.args.origin) (keys_of c.args.keys.now) c.args.position c.args.answer.now c.args.values.now c.args.heap.now c.requires.lists c.in-Some.left.now (subst (IsFitting (program_of c.args.program.now) (instance (program_of c.args.program.now) (func_of c.args.g.now) c.args.origin) c.args.answer.now) c.in-Some.is (c.fitting.ensures c.requires.sets)) c.take_back.new.heap
    (back_in_instance (program_of c.args.program.now) (func_of c.args.g.now) c.args.origin (keys_of c.args.keys.now) (func_of c.args.g.now).clause c.args.values.now c.args.heap.now c.take_back.new.heap true (subst (ComesBack (keys_of c.args.keys.now) (map entry_of c.args.g.now.clause) c.args.values.now c.args.heap.now c.take_back.new.heap) c.if-not-take_back.false (subst (λ es. ComesBack (keys_of c.args.keys.now) (map entry_of es) c.args.values.now c.args.heap.now c.take_back.new.heap c.take_back.result) c.as_slice.ensures c.take_back.ensures.back)))
    c.take_result.new.heap c.set_entries.new.heap c.set_result.new.heap c.put_result.new.heap c.grow.new.self c.put_result.new.values c.len-to.result (Ok tt)
    (subst (ComesIn (program_of c.args.program.now) (instance (program_of c.args.program.now) (func_of c.args.g.now) c.args.origin) (keys_of c.args.keys.now) c.in-Some.left.now c.args.values.now c.take_back.new.heap c.take_result.new.heap) c.if-not-take_result.false c.take_result.ensures.back)
    (subst (λ xs. AreSets (program_of c.args.program.now) (func_of c.args.g.now) xs → SetsEntries (program_of c.args.program.now) (func_of c.args.g.now) (keys_of c.args.keys.now) xs c.args.answer.now c.args.values.now c.take_result.new.heap c.set_entries.new.heap) (ap (λ es. entries_in (program_of c.args.program.now) (func_of c.args.g.now) c.args.origin (map entry_of es)) c.as_slice-2.ensures ∙ clause_is (program_of c.args.program.now) (func_of c.args.g.now) c.args.origin (func_of c.args.g.now).clause) c.set_entries.ensures.sets c.requires.sets)
    c.set_result.ensures.sets c.len-to.ensures c.grow.ensures.grown (c.set_result.ensures.size.heap ∙ c.set_entries.ensures.size.heap ∙ c.take_result.ensures.size.heap ∙ c.take_back.ensures.size.heap)
    (subst (PutsResult (program_of c.args.program.now) (instance (program_of c.args.program.now) (func_of c.args.g.now) c.args.origin) (keys_of c.args.keys.now) c.args.answer.now c.in-Some.left.now c.len-to.result c.grow.new.self c.put_result.new.values c.set_result.new.heap c.put_result.new.heap) c.in-Ok.is (c.put_result.ensures.puts c.requires.sets))

pub returns-in-Err-clause-heeds : goal.returns-in-Err-clause-heeds
returns-in-Err-clause-heeds c =
    all_heeded (program_of c.args.program.now) (instance (program_of c.args.program.now) (func_of c.args.g.now) c.args.origin) (keys_of c.args.keys.now) c.args.position c.args.answer.now c.args.values.now c.args.heap.now c.requires.lists c.in-Some.left.now (subst (IsFitting (program_of c.args.program.now) (instance (program_of c.args.program.now) (func_of c.args.g.now) c.args.origin) c.args.answer.now) c.in-Some.is (c.fitting.ensures c.requires.sets)) c.take_back.new.heap
    (back_in_instance (program_of c.args.program.now) (func_of c.args.g.now) c.args.origin (keys_of c.args.keys.now) (func_of c.args.g.now).clause c.args.values.now c.args.heap.now c.take_back.new.heap true (subst (ComesBack (keys_of c.args.keys.now) (map entry_of c.args.g.now.clause) c.args.values.now c.args.heap.now c.take_back.new.heap) c.if-not-take_back.false (subst (λ es. ComesBack (keys_of c.args.keys.now) (map entry_of es) c.args.values.now c.args.heap.now c.take_back.new.heap c.take_back.result) c.as_slice.ensures c.take_back.ensures.back)))
    c.take_result.new.heap c.set_entries.new.heap c.set_result.new.heap c.put_result.new.heap c.grow.new.self c.put_result.new.values c.len-to.result (Err c.in-Err.field-0)
    (subst (ComesIn (program_of c.args.program.now) (instance (program_of c.args.program.now) (func_of c.args.g.now) c.args.origin) (keys_of c.args.keys.now) c.in-Some.left.now c.args.values.now c.take_back.new.heap c.take_result.new.heap) c.if-not-take_result.false c.take_result.ensures.back)
    (subst (λ xs. AreSets (program_of c.args.program.now) (func_of c.args.g.now) xs → SetsEntries (program_of c.args.program.now) (func_of c.args.g.now) (keys_of c.args.keys.now) xs c.args.answer.now c.args.values.now c.take_result.new.heap c.set_entries.new.heap) (ap (λ es. entries_in (program_of c.args.program.now) (func_of c.args.g.now) c.args.origin (map entry_of es)) c.as_slice-2.ensures ∙ clause_is (program_of c.args.program.now) (func_of c.args.g.now) c.args.origin (func_of c.args.g.now).clause) c.set_entries.ensures.sets c.requires.sets)
    c.set_result.ensures.sets c.len-to.ensures c.grow.ensures.grown (c.set_result.ensures.size.heap ∙ c.set_entries.ensures.size.heap ∙ c.take_result.ensures.size.heap ∙ c.take_back.ensures.size.heap)
    (subst (PutsResult (program_of c.args.program.now) (instance (program_of c.args.program.now) (func_of c.args.g.now) c.args.origin) (keys_of c.args.keys.now) c.args.answer.now c.in-Some.left.now c.len-to.result c.grow.new.self c.put_result.new.values c.set_result.new.heap c.put_result.new.heap) c.in-Err.is (c.put_result.ensures.puts c.requires.sets))

pub set_entries-requires-clause-within : goal.set_entries-requires-clause-within
set_entries-requires-clause-within c = subst (λ es. AreWithin (program_of c.args.program.now) (func_of c.args.g.now) c.args.origin (map entry_of es)) (sym c.as_slice-2.ensures) c.requires.within

pub returns-in_default-clause-heeds : goal.returns-in_default-clause-heeds
returns-in_default-clause-heeds c =
    not_read (program_of c.args.program.now) (instance (program_of c.args.program.now) (func_of c.args.g.now) c.args.origin) (keys_of c.args.keys.now) c.args.position c.args.answer.now c.args.values.now c.args.heap.now c.requires.lists c.args.values.now c.args.heap.now
    (subst (IsFitting (program_of c.args.program.now) (instance (program_of c.args.program.now) (func_of c.args.g.now) c.args.origin) c.args.answer.now) c.in_default.is (c.fitting.ensures c.requires.sets))
