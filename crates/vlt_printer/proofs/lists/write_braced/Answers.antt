use Rattle.std.proofs.Common.{◌≡◌, ◌++◌, map, length, arith, rules}
use Rattle.std.specs.Prelude.{codes}
use Rattle.std.proofs.lemmas.Grind.{common_steps}
use Rattle.vlt_printer.specs.Lists.{listed_after}
use Rattle.vlt_printer.proofs.Braces.{some_braced}
use Rattle.vlt_printer.proofs.lists.write_braced.Goals as goal

pub returns : goal.returns
returns g c =
    let items = c.args.items.now in
    let before = c.args.out.now.items in
    let some : length items ≡ 0 → ⊥ = first_of (search rules, grind (arith, common_steps)) in
    let whole = some_braced g.T.Part.after g.T.Part.view items before some in
    let list : c.write_listed.new.out.items ≡ listed_after g.T.Part.after (map g.T.Part.view items) (before ++ codes "{ ") = first_of (search rules, grind (arith, common_steps)) in
    first_of (search rules, grind (arith, common_steps))
