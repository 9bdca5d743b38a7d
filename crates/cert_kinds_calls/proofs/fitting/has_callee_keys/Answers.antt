use Rattle.std.proofs.Common.{◌∙◌, ap, map, ◌||◌, not, nat_lt}
use Rattle.std.specs.List.{list_all}
use Rattle.vlt_core.specs.View.{func_of, entry_of}
use Rattle.vlt_core.specs.Lookups.{is_new}
use Rattle.vlt_core.specs.Types.{keys_of_ty}
use Rattle.vlt_core.specs.KindedHeads.{parameters_of}
use Rattle.cert_kinds_calls.proofs.Keys.{all_callee, then_all, else_all}
use Rattle.cert_kinds_calls.proofs.fitting.has_callee_keys.Goals as goal

pub returns-then-are_types_below : goal.returns-then-are_types_below
returns-then-are_types_below c =
    let n = c.args.count in
    then_all _ _ _ (all_callee n (parameters_of (func_of c.args.g.now)) (map entry_of c.args.g.now.clause))
    (c.are_types_below.ensures ∙ ap (list_all (λ ty. list_all (λ k. nat_lt k n) (keys_of_ty ty))) c.parameters.ensures)
    (c.are_new_below.ensures ∙ ap (λ es. list_all (λ e. not (is_new e) || nat_lt e.key n) (map entry_of es)) c.as_slice.ensures)
    c.if-are_types_below.true

pub returns-else-are_types_below : goal.returns-else-are_types_below
returns-else-are_types_below c =
    let n = c.args.count in
    else_all _ _ _ (all_callee n (parameters_of (func_of c.args.g.now)) (map entry_of c.args.g.now.clause))
    (c.are_types_below.ensures ∙ ap (list_all (λ ty. list_all (λ k. nat_lt k n) (keys_of_ty ty))) c.parameters.ensures)
    c.if-are_types_below.false
