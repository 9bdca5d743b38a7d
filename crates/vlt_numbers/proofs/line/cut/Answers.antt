use Rattle.std.proofs.Common.{◌≡◌, ap, ◌∙◌, sym, ◌+◌, ◌≤◌, length, take, drop, rules, tests, arith}
use Rattle.std.specs.List.{position_or_len}
use Rattle.std.proofs.lemmas.Iterator.{YieldsList-from_slice}
use Rattle.std.proofs.lemmas.Iterator.Search.{position_from_yields_List}
use Rattle.std.proofs.lemmas.List.{take_rest, take_all, drop_all}
use Rattle.vlt_numbers.proofs.Cuts.{found, not_found}
use Rattle.vlt_numbers.specs.Text.{is_one_of}
use Rattle.vlt_numbers.proofs.line.cut.Goals as goal

at_is : (c : goal.After-result-1) → c.in-Some.at ≡ position_or_len (is_one_of c.args.separators.now) c.args.text.now
at_is c =
    let place = position_from_yields_List (is_one_of c.args.separators.now) _ _ c.position.result c.position.ensures.ran (YieldsList-from_slice c.args.text.now cc) (λ x b q k. search (rules, tests)) in
    found _ c.args.text.now c.position.result _ place c.in-Some.is

pub returns-in-Some-clause-before : goal.returns-in-Some-clause-before
returns-in-Some-clause-before c = ap (λ at. take at c.args.text.now) (at_is c)

pub returns-in-Some-clause-following : goal.returns-in-Some-clause-following
returns-in-Some-clause-following c = take_rest c.args.text.now (c.in-Some.at + 1) ∙ ap (λ at. drop (at + 1) c.args.text.now) (at_is c)

none_in : (c : goal.After-result-in-None-2-1) → length c.args.text.now ≤ position_or_len (is_one_of c.args.separators.now) c.args.text.now
none_in c =
    let place = position_from_yields_List (is_one_of c.args.separators.now) _ _ c.position.result c.position.ensures.ran (YieldsList-from_slice c.args.text.now cc) (λ x b q k. search (rules, tests)) in
    not_found _ c.args.text.now c.position.result place c.in-None.is

pub returns-in-None-clause-before : goal.returns-in-None-clause-before
returns-in-None-clause-before c = sym (take_all _ c.args.text.now (none_in c))

pub returns-in-None-clause-following : goal.returns-in-None-clause-following
returns-in-None-clause-following c = sym (drop_all (position_or_len (is_one_of c.args.separators.now) c.args.text.now + 1) c.args.text.now (let n = none_in c in omega arith))
