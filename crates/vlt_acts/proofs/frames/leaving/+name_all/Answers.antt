use Rattle.std.proofs.Common.{◌≡◌, ◌∷◌, ◌∙◌, sym, ap, subst, map, filter}
use Rattle.vlt_core.specs.Lookups.{is_held_after}
use Rattle.vlt_core.specs.View.{entry_of, keys_of}
use Rattle.vlt_acts.specs.Frames.Naming.{Names}
use Rattle.vlt_acts.proofs.OfFrames.Naming.{filter_yes, more_names, named_twice, keys_still}
use Rattle.vlt_acts.proofs.frames.leaving.+name_all.Goals as goal

pub returns-then-is_held_after-clause-named : goal.returns-then-is_held_after-clause-named
returns-then-is_held_after-clause-named n c = λ top below.
    let first = c.name.ensures.named top below in
    named_twice top c.args.values.now c.name.new.values c.name_all.new.values first (c.name_all.ensures.named top (keys_still (keys_of c.args.keys.now) top c.args.values.now c.name.new.values first below))

pub returns-then-is_held_after-clause-names : goal.returns-then-is_held_after-clause-names
returns-then-is_held_after-clause-names n c = λ top below.
    let is : c.args.entries.now ≡ c.in-Some.e.now ∷ c.in-Some.rest.now = c.in-Some.ensures.cases.0 in
    let first = c.name.ensures.named top below in
    let filtered = ap (λ es. filter is_held_after (map entry_of es)) is ∙ filter_yes (entry_of c.in-Some.e.now) (map entry_of c.in-Some.rest.now) (sym c.is_held_after.ensures ∙ c.if-is_held_after.true) in
    subst (λ es. Names es (keys_of c.args.keys.now) top c.args.from c.args.value c.args.values.now c.name_all.new.values) (sym filtered)
    (more_names (entry_of c.in-Some.e.now) (filter is_held_after (map entry_of c.in-Some.rest.now)) (keys_of c.args.keys.now) top c.args.from c.args.value c.args.values.now c.name.new.values c.name_all.new.values first (c.name.ensures.names top below)
    (c.name_all.ensures.names top (keys_still (keys_of c.args.keys.now) top c.args.values.now c.name.new.values first below)))
