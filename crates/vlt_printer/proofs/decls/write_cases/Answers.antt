use Rattle.std.proofs.Common.{◌≡◌, ◌++◌, map, length, arith, rules}
use Rattle.std.specs.Prelude.{codes}
use Rattle.std.proofs.lemmas.Grind.{common_steps}
use Rattle.vlt_syntax.specs.View.{case_of}
use Rattle.vlt_base.specs.Layout.{text}
use Rattle.vlt_printer.specs.Lists.{separated_after}
use Rattle.vlt_printer.specs.Layout.{case_after}
use Rattle.vlt_printer.proofs.Braces.{some_cases}
use Rattle.vlt_printer.proofs.decls.write_cases.Goals as goal

pub returns : goal.returns
returns c =
    let cases = c.args.cases.now in
    let before = c.args.out.now.items in
    let some : length cases ≡ 0 → ⊥ = first_of (search rules, grind (arith, common_steps)) in
    let whole = some_cases case_of cases before some in
    let list : c.write_separated.new.out.items ≡ separated_after (text ",\n    ") case_after (map case_of cases) (before ++ codes "{\n    ") = first_of (search rules, grind (arith, common_steps)) in
    first_of (search rules, grind (arith, common_steps))
