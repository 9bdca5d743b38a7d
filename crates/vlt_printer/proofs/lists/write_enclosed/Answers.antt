use Rattle.std.proofs.Common.{◌≡◌, ◌++◌, map, length, arith, rules}
use Rattle.std.proofs.lemmas.Grind.{common_steps}
use Rattle.vlt_base.specs.Layout.{written}
use Rattle.vlt_printer.specs.Lists.{listed_after}
use Rattle.vlt_printer.proofs.Braces.{some_enclosed}
use Rattle.vlt_printer.proofs.lists.write_enclosed.Goals as goal

pub returns : goal.returns
returns g c =
    let items = c.args.items.now in
    let before = c.args.out.now.items in
    let some : length items ≡ 0 → ⊥ = first_of (search rules, grind (arith, common_steps)) in
    let whole = some_enclosed (written c.args.opening.now) (written c.args.closing.now) g.T.Part.after g.T.Part.view items before some in
    let list : c.write_listed.new.out.items ≡ listed_after g.T.Part.after (map g.T.Part.view items) (before ++ c.args.opening.now) = first_of (search rules, grind (arith, common_steps)) in
    first_of (search rules, grind (arith, common_steps))
