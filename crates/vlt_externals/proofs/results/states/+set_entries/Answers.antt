use Rattle.std.proofs.Common.{rules, map, sym, ap, ◌∙◌, subst}
use Rattle.vlt_core.specs.View.{program_of, func_of, entry_of, keys_of}
use Rattle.vlt_externals.specs.HostAnswers.Read.{same, AreSets, entries_in}
use Rattle.vlt_externals.proofs.OfHostAnswers.Reading.{as_some, as_none}
use Rattle.vlt_externals.proofs.OfHostAnswers.Instances.{first_in, first_within, more_within}
use Rattle.vlt_externals.specs.Results.Stated.{SetsEntries}
use Rattle.vlt_externals.proofs.OfResults.Setting.{skip_entry, entry_missing, first_entry}
use Rattle.vlt_externals.proofs.results.states.+set_entries.Goals as goal

pub returns-then-not-is_held_after-clause-sets : goal.returns-then-not-is_held_after-clause-sets
returns-then-not-is_held_after-clause-sets t c = λ sets.
    let both = subst (AreSets (program_of c.args.program.now) (func_of c.args.g.now)) (first_in (program_of c.args.program.now) (func_of c.args.g.now) c.args.origin (map entry_of c.args.entries.now) (entry_of c.in-Some.first.now) (map entry_of c.in-Some.rest.now) (entry_of c.entry_in-e.result) (ap (map entry_of) c.in-Some.ensures.cases.0) c.entry_in-e.ensures) sets in
    subst (λ xs. SetsEntries (program_of c.args.program.now) (func_of c.args.g.now) (keys_of c.args.keys.now) xs c.args.left.now c.args.values.now c.args.heap.now c.set_entries.new.heap) (sym (first_in (program_of c.args.program.now) (func_of c.args.g.now) c.args.origin (map entry_of c.args.entries.now) (entry_of c.in-Some.first.now) (map entry_of c.in-Some.rest.now) (entry_of c.entry_in-e.result) (ap (map entry_of) c.in-Some.ensures.cases.0) c.entry_in-e.ensures))
    (skip_entry (program_of c.args.program.now) (func_of c.args.g.now) (keys_of c.args.keys.now) c.args.heap.now c.set_entries.new.heap c.args.values.now (entry_of c.entry_in-e.result) (entries_in (program_of c.args.program.now) (func_of c.args.g.now) c.args.origin (map entry_of c.in-Some.rest.now)) c.args.left.now
    (sym c.is_held_after.ensures ∙ c.if-not-is_held_after.true) (c.set_entries.ensures.sets both.1))

pub returns-in-None-entry_state-clause-sets : goal.returns-in-None-entry_state-clause-sets
returns-in-None-entry_state-clause-sets t c = λ sets.
    let both = subst (AreSets (program_of c.args.program.now) (func_of c.args.g.now)) (first_in (program_of c.args.program.now) (func_of c.args.g.now) c.args.origin (map entry_of c.args.entries.now) (entry_of c.in-Some.first.now) (map entry_of c.in-Some.rest.now) (entry_of c.entry_in-e.result) (ap (map entry_of) c.in-Some.ensures.cases.0) c.entry_in-e.ensures) sets in
    let on = sym c.is_held_after.ensures ∙ c.if-not-is_held_after.false in
    let set = both.0 on in
    subst (λ xs. SetsEntries (program_of c.args.program.now) (func_of c.args.g.now) (keys_of c.args.keys.now) xs c.args.left.now c.args.values.now c.args.heap.now c.args.heap.now) (sym (first_in (program_of c.args.program.now) (func_of c.args.g.now) c.args.origin (map entry_of c.args.entries.now) (entry_of c.in-Some.first.now) (map entry_of c.in-Some.rest.now) (entry_of c.entry_in-e.result) (ap (map entry_of) c.in-Some.ensures.cases.0) c.entry_in-e.ensures))
    (entry_missing (program_of c.args.program.now) (func_of c.args.g.now) (keys_of c.args.keys.now) c.args.heap.now c.args.values.now (entry_of c.entry_in-e.result) (entries_in (program_of c.args.program.now) (func_of c.args.g.now) c.args.origin (map entry_of c.in-Some.rest.now)) c.args.left.now on
    (as_none same c.entry_state.result _ c.in-None-entry_state.is (c.entry_state.ensures set.0 set.1)))

pub returns-in-Some-entry_state-clause-sets : goal.returns-in-Some-entry_state-clause-sets
returns-in-Some-entry_state-clause-sets t c = λ sets.
    let both = subst (AreSets (program_of c.args.program.now) (func_of c.args.g.now)) (first_in (program_of c.args.program.now) (func_of c.args.g.now) c.args.origin (map entry_of c.args.entries.now) (entry_of c.in-Some.first.now) (map entry_of c.in-Some.rest.now) (entry_of c.entry_in-e.result) (ap (map entry_of) c.in-Some.ensures.cases.0) c.entry_in-e.ensures) sets in
    let on = sym c.is_held_after.ensures ∙ c.if-not-is_held_after.false in
    let set = both.0 on in
    subst (λ xs. SetsEntries (program_of c.args.program.now) (func_of c.args.g.now) (keys_of c.args.keys.now) xs c.args.left.now c.args.values.now c.args.heap.now c.set_entries-in-Some-entry_state.new.heap) (sym (first_in (program_of c.args.program.now) (func_of c.args.g.now) c.args.origin (map entry_of c.args.entries.now) (entry_of c.in-Some.first.now) (map entry_of c.in-Some.rest.now) (entry_of c.entry_in-e.result) (ap (map entry_of) c.in-Some.ensures.cases.0) c.entry_in-e.ensures))
    (first_entry (program_of c.args.program.now) (func_of c.args.g.now) (keys_of c.args.keys.now) c.args.heap.now c.set_entry.new.heap c.set_entries-in-Some-entry_state.new.heap c.args.values.now (entry_of c.entry_in-e.result) (entries_in (program_of c.args.program.now) (func_of c.args.g.now) c.args.origin (map entry_of c.in-Some.rest.now)) c.args.left.now c.in-Some-entry_state.left.now c.in-Some-entry_state.s on
    (as_some same c.entry_state.result _ _ _ c.in-Some-entry_state.is (c.entry_state.ensures set.0 set.1)) c.set_entry.ensures.sets (c.set_entries-in-Some-entry_state.ensures.sets both.1))

pub entry_in-e-requires : goal.entry_in-e-requires
entry_in-e-requires t c = first_within (program_of c.args.program.now) (func_of c.args.g.now) c.args.origin (map entry_of c.args.entries.now) (entry_of c.in-Some.first.now) (map entry_of c.in-Some.rest.now) (ap (map entry_of) c.in-Some.ensures.cases.0) c.requires.within

pub set_entries-requires : goal.set_entries-requires
set_entries-requires t c = (search rules, (c.requires.sound, (c.requires.table, more_within (program_of c.args.program.now) (func_of c.args.g.now) c.args.origin (map entry_of c.args.entries.now) (entry_of c.in-Some.first.now) (map entry_of c.in-Some.rest.now) (ap (map entry_of) c.in-Some.ensures.cases.0) c.requires.within)))

pub set_entries-requires-in-Some-entry_state : goal.set_entries-requires-in-Some-entry_state
set_entries-requires-in-Some-entry_state t c = (search rules, (c.set_entry.ensures.sound, (c.requires.table, more_within (program_of c.args.program.now) (func_of c.args.g.now) c.args.origin (map entry_of c.args.entries.now) (entry_of c.in-Some.first.now) (map entry_of c.in-Some.rest.now) (ap (map entry_of) c.in-Some.ensures.cases.0) c.requires.within)))
