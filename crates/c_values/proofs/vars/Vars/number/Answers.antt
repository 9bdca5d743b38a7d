use Rattle.std.proofs.Common.{rules, sym, ap, ◌∙◌, slice_get, option_map}
use Rattle.c_meaning.specs.Blocks.{option_join}
use Rattle.c_values.specs.Shown.{value_view}
use Rattle.c_values.proofs.Finding.{first_shown, second_shown, number_shown}
use Rattle.c_values.proofs.vars.Vars.number.Goals as goal

pub returns-in-Some : goal.returns-in-Some
returns-in-Some c = number_shown c.number_at.result _ _ c.number_at.ensures (first_shown value_view c.args.self.now.params.now c.args.self.now.declared.now c.args.self.now.values.now c.args.v c.in-Some.i (sym c.find.ensures ∙ c.in-Some.is))

pub returns-in-Some-find : goal.returns-in-Some-find
returns-in-Some-find c =
    number_shown c.number_at-in-Some-find.result _ _ c.number_at-in-Some-find.ensures
    (ap (λ l. option_map value_view (option_join (slice_get l c.in-Some-find.j))) c.following.ensures ∙ second_shown value_view c.args.self.now.params.now c.args.self.now.declared.now c.args.self.now.values.now c.args.v c.min.result c.in-Some-find.j (sym c.find.ensures ∙ c.in-None.is) (sym c.find-in-None.ensures ∙ c.in-Some-find.is) (search rules))
