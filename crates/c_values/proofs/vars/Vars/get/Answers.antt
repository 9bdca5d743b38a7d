use Rattle.std.proofs.Common.{rules, option_map, sym, ap, ◌∙◌, ◌+◌, slice_get}
use Rattle.c_meaning.specs.Blocks.{option_join}
use Rattle.c_values.specs.Shown.{value_view}
use Rattle.c_values.proofs.Finding.{first_shown, second_shown, none_shown, at_position, at_after, slot_made}
use Rattle.c_values.proofs.vars.Vars.get.Goals as goal

pub returns-in-Some-clause-shown : goal.returns-in-Some-clause-shown
returns-in-Some-clause-shown c = ap (option_map value_view) c.at.ensures ∙ first_shown value_view c.args.self.params.now c.args.self.declared.now c.args.self.values.now c.args.v c.in-Some.i (sym c.find.ensures ∙ c.in-Some.is)

pub returns-in-Some-clause-made : goal.returns-in-Some-clause-made
returns-in-Some-clause-made c = slot_made c.args.self.values.now c.at.result c.in-Some.i (λ a e. at_position c.args.self.values.now c.in-Some.i a (sym c.at.ensures ∙ e))

pub returns-in-Some-find-clause-shown : goal.returns-in-Some-find-clause-shown
returns-in-Some-find-clause-shown c =
    ap (option_map value_view) (c.at-in-Some-find.ensures ∙ ap (λ l. option_join (slice_get l c.in-Some-find.j)) c.following.ensures) ∙ second_shown value_view c.args.self.params.now c.args.self.declared.now c.args.self.values.now c.args.v c.min.result c.in-Some-find.j (sym c.find.ensures ∙ c.in-None.is) (sym c.find-in-None.ensures ∙ c.in-Some-find.is) (search rules)

pub returns-in-Some-find-clause-made : goal.returns-in-Some-find-clause-made
returns-in-Some-find-clause-made c = slot_made c.args.self.values.now c.at-in-Some-find.result (c.min.result + c.in-Some-find.j) (λ a e. at_after c.args.self.values.now c.min.result c.in-Some-find.j a (sym (c.at-in-Some-find.ensures ∙ ap (λ l. option_join (slice_get l c.in-Some-find.j)) c.following.ensures) ∙ e))

pub returns-in-None-find-clause-shown : goal.returns-in-None-find-clause-shown
returns-in-None-find-clause-shown c = none_shown value_view c.args.self.params.now c.args.self.declared.now c.args.self.values.now c.args.v (sym c.find.ensures ∙ c.in-None.is) (sym c.find-in-None.ensures ∙ c.in-None-find.is)
