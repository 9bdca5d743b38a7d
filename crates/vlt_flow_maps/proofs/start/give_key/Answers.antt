use Rattle.std.proofs.Common.{refl, sym, ◌∙◌}
use Rattle.vlt_core.specs.View.{program_of, func_of, entry_of}
use Rattle.vlt_flow_maps.proofs.Starting.{started_in, wide_in, stray_in, not_so}
use Rattle.vlt_flow_maps.proofs.start.give_key.Goals as goal

pub returns-in_default-clause-unfit : goal.returns-in_default-clause-unfit
returns-in_default-clause-unfit c =
    let none = rw c.in_default.is at c.set.ensures in
    (refl, sym c.is_before.ensures ∙ c.if-not-is_before.false, wide_in (program_of c.args.p.now) (func_of c.args.f.now) c.args.origin (entry_of c.args.e) _ none c.states_before.ensures)

pub returns-then-not-has-clause-unfit : goal.returns-then-not-has-clause-unfit
returns-then-not-has-clause-unfit c = (
  refl,
  sym c.is_before.ensures ∙ c.if-not-is_before.false,
  stray_in (program_of c.args.p.now) (func_of c.args.f.now) c.args.origin (entry_of c.args.e) _ c.requires (λ place. not_so _ c.if-not-has.true (c.has.ensures.1 place)),
)

pub returns-clause-started : goal.returns-clause-started
returns-clause-started c =
    let states = rw c.in-Some.is at c.set.ensures in
    started_in (program_of c.args.p.now) (func_of c.args.f.now) c.args.origin (entry_of c.args.e) _ _ _
    (sym c.is_before.ensures ∙ c.if-not-is_before.false) (states ∙ c.states_before.ensures) c.give.ensures.given
