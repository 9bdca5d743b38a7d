use Rattle.std.proofs.Common.{map, sym, ap, ◌∙◌, subst, Ok}
use Rattle.vlt_core.specs.Instances.{instance}
use Rattle.vlt_core.specs.View.{program_of, func_of, entry_of, keys_of}
use Rattle.vlt_externals.specs.HostAnswers.Read.{AreSets, entries_in, AreWithin}
use Rattle.vlt_externals.proofs.OfHostAnswers.Instances.{clause_is}
use Rattle.vlt_externals.specs.Results.Results.{NamesNew}
use Rattle.vlt_externals.proofs.OfResults.Giving.{fresh_none, fresh_some}
use Rattle.vlt_externals.proofs.results.results.put_fresh.Goals as goal

pub new_key-requires : goal.new_key-requires
new_key-requires c = record { within = subst (λ es. AreWithin (program_of c.args.program.now) (func_of c.args.g.now) c.args.origin (map entry_of es)) (sym c.as_slice.ensures) c.requires.within }

pub returns-in-Some-clause-puts : goal.returns-in-Some-clause-puts
returns-in-Some-clause-puts c = λ sets.
    let p = program_of c.args.program.now in
    let g = func_of c.args.g.now in
    fresh_some p (instance p g c.args.origin) c.args.t.0 (keys_of c.args.keys.now) c.args.answer.now c.args.to c.args.values.now c.put_new.new.values c.args.heap.now c.put_new.new.heap c.put_new.result c.in-Some.new
    (subst (NamesNew p g (keys_of c.args.keys.now) (instance p g c.args.origin).clause c.args.answer.now) c.in-Some.is
    (subst (λ xs. AreSets p g xs → NamesNew p g (keys_of c.args.keys.now) xs c.args.answer.now c.new_key.result) (ap (λ es. entries_in p g c.args.origin (map entry_of es)) c.as_slice.ensures ∙ clause_is p g c.args.origin g.clause) c.new_key.ensures.names sets)) c.put_new.ensures.puts

pub returns-in-None-clause-puts : goal.returns-in-None-clause-puts
returns-in-None-clause-puts c = λ sets.
    let p = program_of c.args.program.now in
    let g = func_of c.args.g.now in
    fresh_none p (instance p g c.args.origin) c.args.t.0 (keys_of c.args.keys.now) c.args.answer.now c.args.to c.args.values.now c.args.values.now c.args.heap.now c.args.heap.now (Ok tt)
    (subst (NamesNew p g (keys_of c.args.keys.now) (instance p g c.args.origin).clause c.args.answer.now) c.in-None.is
    (subst (λ xs. AreSets p g xs → NamesNew p g (keys_of c.args.keys.now) xs c.args.answer.now c.new_key.result) (ap (λ es. entries_in p g c.args.origin (map entry_of es)) c.as_slice.ensures ∙ clause_is p g c.args.origin g.clause) c.new_key.ensures.names sets))
