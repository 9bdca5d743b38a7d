use Rattle.std.proofs.Common.{◌≡◌, map, filter, sym, ap, ◌∙◌, subst}
use Rattle.vlt_core.specs.Lookups.{is_held_after, after_set}
use Rattle.vlt_core.specs.Instances.{instance}
use Rattle.vlt_core.specs.View.{program_of, func_of, entry_of}
use Rattle.vlt_meaning.specs.HostAnswers.{each, state_in}
use Rattle.vlt_externals.specs.HostAnswers.Read.{rest_of, left_in, AreSets, entries_in, AreWithin}
use Rattle.vlt_externals.proofs.OfHostAnswers.Instances.{clause_is}
use Rattle.vlt_externals.proofs.OfHostAnswers.Finishing.{no_states, no_result, fits_empty, fits_not}
use Rattle.vlt_externals.proofs.host_answers.whole.fitting.Goals as goal

pub after_entries-requires : goal.after_entries-requires
after_entries-requires c = record { within = subst (λ es. AreWithin (program_of c.args.program.now) (func_of c.args.g.now) c.args.origin (map entry_of es)) (sym c.as_slice.ensures) c.requires.within }

pub returns-in-None : goal.returns-in-None
returns-in-None c = λ sets.
    let p = program_of c.args.program.now in
    let g = func_of c.args.g.now in
    let read = subst (λ xs. AreSets p g xs → left_in c.after_entries.result ≡ rest_of (each (λ e. state_in (after_set p g e)) (filter is_held_after xs) c.args.answer.now)) (ap (λ es. entries_in p g c.args.origin (map entry_of es)) c.as_slice.ensures ∙ clause_is p g c.args.origin g.clause) c.after_entries.ensures in
    no_states p (instance p g c.args.origin) c.args.answer.now (sym (ap left_in c.in-None.is) ∙ read sets)

pub returns-in-None-following_result : goal.returns-in-None-following_result
returns-in-None-following_result c = λ sets.
    let p = program_of c.args.program.now in
    let g = func_of c.args.g.now in
    let read = subst (λ xs. AreSets p g xs → left_in c.after_entries.result ≡ rest_of (each (λ e. state_in (after_set p g e)) (filter is_held_after xs) c.args.answer.now)) (ap (λ es. entries_in p g c.args.origin (map entry_of es)) c.as_slice.ensures ∙ clause_is p g c.args.origin g.clause) c.after_entries.ensures in
    no_result p (instance p g c.args.origin) c.args.answer.now c.in-Some.result.now (sym (ap left_in c.in-Some.is) ∙ read sets) (sym (ap left_in c.in-None-following_result.is) ∙ c.following_result.ensures)

pub returns-in-Some-empty : goal.returns-in-Some-empty
returns-in-Some-empty c = λ sets.
    let p = program_of c.args.program.now in
    let g = func_of c.args.g.now in
    let read = subst (λ xs. AreSets p g xs → left_in c.after_entries.result ≡ rest_of (each (λ e. state_in (after_set p g e)) (filter is_held_after xs) c.args.answer.now)) (ap (λ es. entries_in p g c.args.origin (map entry_of es)) c.as_slice.ensures ∙ clause_is p g c.args.origin g.clause) c.after_entries.ensures in
    fits_empty p (instance p g c.args.origin) c.args.answer.now c.in-Some.result.now c.in-Some-empty.field-0.now (sym (ap left_in c.in-Some.is) ∙ read sets) (sym (ap left_in c.in-Some-empty.is) ∙ c.following_result.ensures) c.in-Some-empty.len_below

pub returns-in-Some-following_result : goal.returns-in-Some-following_result
returns-in-Some-following_result c = λ sets.
    let p = program_of c.args.program.now in
    let g = func_of c.args.g.now in
    let read = subst (λ xs. AreSets p g xs → left_in c.after_entries.result ≡ rest_of (each (λ e. state_in (after_set p g e)) (filter is_held_after xs) c.args.answer.now)) (ap (λ es. entries_in p g c.args.origin (map entry_of es)) c.as_slice.ensures ∙ clause_is p g c.args.origin g.clause) c.after_entries.ensures in
    fits_not p (instance p g c.args.origin) c.args.answer.now c.in-Some.result.now c.in-Some-following_result.field-0.now (sym (ap left_in c.in-Some.is) ∙ read sets) (sym (ap left_in c.in-Some-following_result.is) ∙ c.following_result.ensures) c.in-Some-following_result.len_at_least
