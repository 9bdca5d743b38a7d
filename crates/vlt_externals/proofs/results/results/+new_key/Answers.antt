use Rattle.std.proofs.Common.{rules, map, None, Some, sym, ap, ◌∙◌, subst}
use Rattle.std.specs.Option.{option_map}
use Rattle.vlt_core.specs.View.{program_of, func_of, entry_of, keys_of}
use Rattle.vlt_meaning.specs.Calls.{binding}
use Rattle.vlt_acts.proofs.OfFrames.Naming.{key_found, key_missing}
use Rattle.vlt_externals.specs.HostAnswers.Read.{same, AreSets, entries_in}
use Rattle.vlt_externals.proofs.OfHostAnswers.Reading.{as_some, as_none}
use Rattle.vlt_externals.proofs.OfHostAnswers.Instances.{first_in, first_within, more_within}
use Rattle.vlt_externals.specs.Results.Results.{NamesNew}
use Rattle.vlt_externals.proofs.OfResults.Giving.{skip_new, missing_new, later_new, this_new}
use Rattle.vlt_externals.proofs.results.results.+new_key.Goals as goal

pub returns-then-not-is_new-clause-names : goal.returns-then-not-is_new-clause-names
returns-then-not-is_new-clause-names t c = λ sets.
    let both = subst (AreSets (program_of c.args.program.now) (func_of c.args.g.now)) (first_in (program_of c.args.program.now) (func_of c.args.g.now) c.args.origin (map entry_of c.args.entries.now) (entry_of c.in-Some.first.now) (map entry_of c.in-Some.rest.now) (entry_of c.entry_in-e.result) (ap (map entry_of) c.in-Some.ensures.cases.0) c.entry_in-e.ensures) sets in
    let on = sym c.is_held_after.ensures ∙ c.if-not-is_held_after.false in
    let set = both.0 on in
    subst (λ xs. NamesNew (program_of c.args.program.now) (func_of c.args.g.now) (keys_of c.args.keys.now) xs c.args.left.now c.new_key-then-not-is_new.result) (sym (first_in (program_of c.args.program.now) (func_of c.args.g.now) c.args.origin (map entry_of c.args.entries.now) (entry_of c.in-Some.first.now) (map entry_of c.in-Some.rest.now) (entry_of c.entry_in-e.result) (ap (map entry_of) c.in-Some.ensures.cases.0) c.entry_in-e.ensures))
    (later_new (program_of c.args.program.now) (func_of c.args.g.now) (keys_of c.args.keys.now) (entry_of c.entry_in-e.result) (entries_in (program_of c.args.program.now) (func_of c.args.g.now) c.args.origin (map entry_of c.in-Some.rest.now)) c.args.left.now on c.in-Some-entry_state.state c.in-Some-entry_state.left.now c.new_key-then-not-is_new.result (as_some same c.entry_state.result _ _ _ c.in-Some-entry_state.is (c.entry_state.ensures set.0 set.1)) (sym c.is_new.ensures ∙ c.if-not-is_new.true) (c.new_key-then-not-is_new.ensures.names both.1))

pub returns-in-None-entry_state-clause-names : goal.returns-in-None-entry_state-clause-names
returns-in-None-entry_state-clause-names t c = λ sets.
    let both = subst (AreSets (program_of c.args.program.now) (func_of c.args.g.now)) (first_in (program_of c.args.program.now) (func_of c.args.g.now) c.args.origin (map entry_of c.args.entries.now) (entry_of c.in-Some.first.now) (map entry_of c.in-Some.rest.now) (entry_of c.entry_in-e.result) (ap (map entry_of) c.in-Some.ensures.cases.0) c.entry_in-e.ensures) sets in
    let on = sym c.is_held_after.ensures ∙ c.if-not-is_held_after.false in
    let set = both.0 on in
    subst (λ xs. NamesNew (program_of c.args.program.now) (func_of c.args.g.now) (keys_of c.args.keys.now) xs c.args.left.now None) (sym (first_in (program_of c.args.program.now) (func_of c.args.g.now) c.args.origin (map entry_of c.args.entries.now) (entry_of c.in-Some.first.now) (map entry_of c.in-Some.rest.now) (entry_of c.entry_in-e.result) (ap (map entry_of) c.in-Some.ensures.cases.0) c.entry_in-e.ensures))
    (missing_new (program_of c.args.program.now) (func_of c.args.g.now) (keys_of c.args.keys.now) (entry_of c.entry_in-e.result) (entries_in (program_of c.args.program.now) (func_of c.args.g.now) c.args.origin (map entry_of c.in-Some.rest.now)) c.args.left.now on None (as_none same c.entry_state.result _ c.in-None-entry_state.is (c.entry_state.ensures set.0 set.1)))

pub returns-in-None-caller_key-clause-names : goal.returns-in-None-caller_key-clause-names
returns-in-None-caller_key-clause-names t c = λ sets.
    let both = subst (AreSets (program_of c.args.program.now) (func_of c.args.g.now)) (first_in (program_of c.args.program.now) (func_of c.args.g.now) c.args.origin (map entry_of c.args.entries.now) (entry_of c.in-Some.first.now) (map entry_of c.in-Some.rest.now) (entry_of c.entry_in-e.result) (ap (map entry_of) c.in-Some.ensures.cases.0) c.entry_in-e.ensures) sets in
    let on = sym c.is_held_after.ensures ∙ c.if-not-is_held_after.false in
    let set = both.0 on in
    subst (λ xs. NamesNew (program_of c.args.program.now) (func_of c.args.g.now) (keys_of c.args.keys.now) xs c.args.left.now None) (sym (first_in (program_of c.args.program.now) (func_of c.args.g.now) c.args.origin (map entry_of c.args.entries.now) (entry_of c.in-Some.first.now) (map entry_of c.in-Some.rest.now) (entry_of c.entry_in-e.result) (ap (map entry_of) c.in-Some.ensures.cases.0) c.entry_in-e.ensures))
    (this_new (program_of c.args.program.now) (func_of c.args.g.now) (keys_of c.args.keys.now) (entry_of c.entry_in-e.result) (entries_in (program_of c.args.program.now) (func_of c.args.g.now) c.args.origin (map entry_of c.in-Some.rest.now)) c.args.left.now on c.in-Some-entry_state.state c.in-Some-entry_state.left.now None (as_some same c.entry_state.result _ _ _ c.in-Some-entry_state.is (c.entry_state.ensures set.0 set.1)) (sym c.is_new.ensures ∙ c.if-not-is_new.false) (sym (ap (option_map (binding c.in-Some-entry_state.state)) (key_missing c.args.keys.now c.entry_in-e.result.key.0 (sym c.caller_key.ensures ∙ c.in-None-caller_key.is)))))

pub returns-in-Some-caller_key-clause-listed : goal.returns-in-Some-caller_key-clause-listed
returns-in-Some-caller_key-clause-listed t c = record { position = c.entry_in-e.result.key.0; at = key_found c.args.keys.now c.entry_in-e.result.key.0 c.in-Some-caller_key.key (sym c.caller_key.ensures ∙ c.in-Some-caller_key.is) }

pub returns-in-Some-caller_key-clause-names : goal.returns-in-Some-caller_key-clause-names
returns-in-Some-caller_key-clause-names t c = λ sets.
    let both = subst (AreSets (program_of c.args.program.now) (func_of c.args.g.now)) (first_in (program_of c.args.program.now) (func_of c.args.g.now) c.args.origin (map entry_of c.args.entries.now) (entry_of c.in-Some.first.now) (map entry_of c.in-Some.rest.now) (entry_of c.entry_in-e.result) (ap (map entry_of) c.in-Some.ensures.cases.0) c.entry_in-e.ensures) sets in
    let on = sym c.is_held_after.ensures ∙ c.if-not-is_held_after.false in
    let set = both.0 on in
    subst (λ xs. NamesNew (program_of c.args.program.now) (func_of c.args.g.now) (keys_of c.args.keys.now) xs c.args.left.now (Some (record { key = c.in-Some-caller_key.key; state = c.in-Some-entry_state.state }))) (sym (first_in (program_of c.args.program.now) (func_of c.args.g.now) c.args.origin (map entry_of c.args.entries.now) (entry_of c.in-Some.first.now) (map entry_of c.in-Some.rest.now) (entry_of c.entry_in-e.result) (ap (map entry_of) c.in-Some.ensures.cases.0) c.entry_in-e.ensures))
    (this_new (program_of c.args.program.now) (func_of c.args.g.now) (keys_of c.args.keys.now) (entry_of c.entry_in-e.result) (entries_in (program_of c.args.program.now) (func_of c.args.g.now) c.args.origin (map entry_of c.in-Some.rest.now)) c.args.left.now on c.in-Some-entry_state.state c.in-Some-entry_state.left.now (Some (record { key = c.in-Some-caller_key.key; state = c.in-Some-entry_state.state })) (as_some same c.entry_state.result _ _ _ c.in-Some-entry_state.is (c.entry_state.ensures set.0 set.1)) (sym c.is_new.ensures ∙ c.if-not-is_new.false) (sym (ap (option_map (binding c.in-Some-entry_state.state)) (key_found c.args.keys.now c.entry_in-e.result.key.0 c.in-Some-caller_key.key (sym c.caller_key.ensures ∙ c.in-Some-caller_key.is)))))

pub entry_in-e-requires : goal.entry_in-e-requires
entry_in-e-requires t c = first_within (program_of c.args.program.now) (func_of c.args.g.now) c.args.origin (map entry_of c.args.entries.now) (entry_of c.in-Some.first.now) (map entry_of c.in-Some.rest.now) (ap (map entry_of) c.in-Some.ensures.cases.0) c.requires.within

pub new_key-requires : goal.new_key-requires
new_key-requires t c = (search rules, more_within (program_of c.args.program.now) (func_of c.args.g.now) c.args.origin (map entry_of c.args.entries.now) (entry_of c.in-Some.first.now) (map entry_of c.in-Some.rest.now) (ap (map entry_of) c.in-Some.ensures.cases.0) c.requires.within)

pub new_key-requires-then-not-is_new : goal.new_key-requires-then-not-is_new
new_key-requires-then-not-is_new t c = (search rules, more_within (program_of c.args.program.now) (func_of c.args.g.now) c.args.origin (map entry_of c.args.entries.now) (entry_of c.in-Some.first.now) (map entry_of c.in-Some.rest.now) (ap (map entry_of) c.in-Some.ensures.cases.0) c.requires.within)

pub returns-then-not-is_held_after-clause-names : goal.returns-then-not-is_held_after-clause-names
returns-then-not-is_held_after-clause-names t c = λ sets.
    let both = subst (AreSets (program_of c.args.program.now) (func_of c.args.g.now)) (first_in (program_of c.args.program.now) (func_of c.args.g.now) c.args.origin (map entry_of c.args.entries.now) (entry_of c.in-Some.first.now) (map entry_of c.in-Some.rest.now) (entry_of c.entry_in-e.result) (ap (map entry_of) c.in-Some.ensures.cases.0) c.entry_in-e.ensures) sets in
    subst (λ xs. NamesNew (program_of c.args.program.now) (func_of c.args.g.now) (keys_of c.args.keys.now) xs c.args.left.now c.new_key.result) (sym (first_in (program_of c.args.program.now) (func_of c.args.g.now) c.args.origin (map entry_of c.args.entries.now) (entry_of c.in-Some.first.now) (map entry_of c.in-Some.rest.now) (entry_of c.entry_in-e.result) (ap (map entry_of) c.in-Some.ensures.cases.0) c.entry_in-e.ensures))
    (skip_new (program_of c.args.program.now) (func_of c.args.g.now) (keys_of c.args.keys.now) (entry_of c.entry_in-e.result) (entries_in (program_of c.args.program.now) (func_of c.args.g.now) c.args.origin (map entry_of c.in-Some.rest.now)) c.args.left.now c.new_key.result (sym c.is_held_after.ensures ∙ c.if-not-is_held_after.true) (c.new_key.ensures.names both.1))
