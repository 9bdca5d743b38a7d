use Rattle.std.proofs.Common.{rules, map, sym, ap, ◌∙◌}
use Rattle.vlt_core.specs.View.{program_of, func_of, entry_of}
use Rattle.vlt_externals.specs.HostAnswers.Read.{same, entries_in}
use Rattle.vlt_externals.proofs.OfHostAnswers.Reading.{as_some, as_none}
use Rattle.vlt_externals.proofs.OfHostAnswers.Instances.{first_in, first_within, more_within}
use Rattle.vlt_externals.proofs.OfHostAnswers.Entries.{entries_skip, entries_none, entries_some}
use Rattle.vlt_externals.proofs.host_answers.pieces.+after_entries.Goals as goal

pub entry_in-e-requires : goal.entry_in-e-requires
entry_in-e-requires t c = first_within (program_of c.args.program.now) (func_of c.args.g.now) c.args.origin (map entry_of c.args.entries.now) (entry_of c.in-Some.first.now) (map entry_of c.in-Some.rest.now) (ap (map entry_of) c.in-Some.ensures.cases.0) c.requires.within

pub after_entries-requires : goal.after_entries-requires
after_entries-requires t c = (search rules, more_within (program_of c.args.program.now) (func_of c.args.g.now) c.args.origin (map entry_of c.args.entries.now) (entry_of c.in-Some.first.now) (map entry_of c.in-Some.rest.now) (ap (map entry_of) c.in-Some.ensures.cases.0) c.requires.within)

pub returns-then-not-is_held_after : goal.returns-then-not-is_held_after
returns-then-not-is_held_after t c = λ sets.
    entries_skip (program_of c.args.program.now) (func_of c.args.g.now) (entries_in (program_of c.args.program.now) (func_of c.args.g.now) c.args.origin (map entry_of c.args.entries.now)) (entry_of c.entry_in-e.result) (entries_in (program_of c.args.program.now) (func_of c.args.g.now) c.args.origin (map entry_of c.in-Some.rest.now)) c.args.left.now c.after_entries.result
    (first_in (program_of c.args.program.now) (func_of c.args.g.now) c.args.origin (map entry_of c.args.entries.now) (entry_of c.in-Some.first.now) (map entry_of c.in-Some.rest.now) (entry_of c.entry_in-e.result) (ap (map entry_of) c.in-Some.ensures.cases.0) c.entry_in-e.ensures)
    (sym c.is_held_after.ensures ∙ c.if-not-is_held_after.true) sets c.after_entries.ensures

pub returns-in-None-entry_state : goal.returns-in-None-entry_state
returns-in-None-entry_state t c = λ sets.
    entries_none (program_of c.args.program.now) (func_of c.args.g.now) (entries_in (program_of c.args.program.now) (func_of c.args.g.now) c.args.origin (map entry_of c.args.entries.now)) (entry_of c.entry_in-e.result) (entries_in (program_of c.args.program.now) (func_of c.args.g.now) c.args.origin (map entry_of c.in-Some.rest.now)) c.args.left.now
    (first_in (program_of c.args.program.now) (func_of c.args.g.now) c.args.origin (map entry_of c.args.entries.now) (entry_of c.in-Some.first.now) (map entry_of c.in-Some.rest.now) (entry_of c.entry_in-e.result) (ap (map entry_of) c.in-Some.ensures.cases.0) c.entry_in-e.ensures)
    (sym c.is_held_after.ensures ∙ c.if-not-is_held_after.false) sets (λ s is. as_none same c.entry_state.result _ c.in-None-entry_state.is (c.entry_state.ensures s is))

pub after_entries-requires-in-Some-entry_state : goal.after_entries-requires-in-Some-entry_state
after_entries-requires-in-Some-entry_state t c = (search rules, more_within (program_of c.args.program.now) (func_of c.args.g.now) c.args.origin (map entry_of c.args.entries.now) (entry_of c.in-Some.first.now) (map entry_of c.in-Some.rest.now) (ap (map entry_of) c.in-Some.ensures.cases.0) c.requires.within)

pub returns-in-Some-entry_state : goal.returns-in-Some-entry_state
returns-in-Some-entry_state t c = λ sets.
    entries_some (program_of c.args.program.now) (func_of c.args.g.now) (entries_in (program_of c.args.program.now) (func_of c.args.g.now) c.args.origin (map entry_of c.args.entries.now)) (entry_of c.entry_in-e.result) (entries_in (program_of c.args.program.now) (func_of c.args.g.now) c.args.origin (map entry_of c.in-Some.rest.now)) c.args.left.now c.in-Some-entry_state.field-0-0 c.in-Some-entry_state.left.now c.after_entries-in-Some-entry_state.result
    (first_in (program_of c.args.program.now) (func_of c.args.g.now) c.args.origin (map entry_of c.args.entries.now) (entry_of c.in-Some.first.now) (map entry_of c.in-Some.rest.now) (entry_of c.entry_in-e.result) (ap (map entry_of) c.in-Some.ensures.cases.0) c.entry_in-e.ensures)
    (sym c.is_held_after.ensures ∙ c.if-not-is_held_after.false) sets (λ s is. as_some same c.entry_state.result _ _ _ c.in-Some-entry_state.is (c.entry_state.ensures s is)) c.after_entries-in-Some-entry_state.ensures
