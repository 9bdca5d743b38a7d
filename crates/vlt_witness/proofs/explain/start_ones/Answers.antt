use Rattle.std.proofs.Common.{◌≡◌, ◌∙◌, rules, false, IsTrue, sym, ap, subst}
use Rattle.vlt_base.specs.States.{has_state}
use Rattle.vlt_core.specs.Maps.{absent, full, held, lent}
use Rattle.vlt_core.specs.View.{tok_of}
use Rattle.vlt_core.specs.HeldView.{status_of}
use Rattle.vlt_keyset.specs.Held.{map_of}
use Rattle.vlt_witness.proofs.Starting.{no_place, singles_absent, singles_full, singles_held, singles_lent}
use Rattle.vlt_witness.proofs.Showing.{same_start}
use Rattle.vlt_witness.proofs.explain.start_ones.Goals as goal

not_true : IsTrue false → ⊥
not_true h = search rules

pub returns-then-not-has : goal.returns-then-not-has
returns-then-not-has c =
    let r = c.made in
    let e : absent ≡ map_of c.args.start.now (tok_of c.args.tok) = sym (no_place c.args.start.now (tok_of c.args.tok) (λ p. not_true (subst IsTrue (search rules) (c.has.ensures.1 p)))) in
    same_start r.result absent (map_of c.args.start.now (tok_of c.args.tok)) e (singles_absent r.result r.ensures.absent r.ensures.full r.ensures.held r.ensures.lent)

pub returns-in-Absent : goal.returns-in-Absent
returns-in-Absent c =
    let r = c.made-in-Absent in
    let e : absent ≡ map_of c.args.start.now (tok_of c.args.tok) = ap status_of (sym c.in-Absent.is) ∙ c.status.ensures in
    same_start r.result absent (map_of c.args.start.now (tok_of c.args.tok)) e (singles_absent r.result r.ensures.absent r.ensures.full r.ensures.held r.ensures.lent)

pub returns-in-Full : goal.returns-in-Full
returns-in-Full c =
    let r = c.made-in-Full in
    let e : full ≡ map_of c.args.start.now (tok_of c.args.tok) = ap status_of (sym c.in-Full.is) ∙ c.status.ensures in
    same_start r.result full (map_of c.args.start.now (tok_of c.args.tok)) e (singles_full r.result r.ensures.absent r.ensures.full r.ensures.held r.ensures.lent)

pub returns-in-Held : goal.returns-in-Held
returns-in-Held c =
    let r = c.made-in-Held in
    let states = has_state c.in-Held.states in
    let e : held states ≡ map_of c.args.start.now (tok_of c.args.tok) = ap status_of (sym c.in-Held.is) ∙ c.status.ensures in
    same_start r.result (held states) (map_of c.args.start.now (tok_of c.args.tok)) e (singles_held r.result states c.mask.result c.mask.ensures.states r.ensures.absent r.ensures.full r.ensures.held r.ensures.lent)

pub returns-in-Lent : goal.returns-in-Lent
returns-in-Lent c =
    let r = c.made-in-Lent in
    let states = has_state c.in-Lent.states in
    let e : lent states ≡ map_of c.args.start.now (tok_of c.args.tok) = ap status_of (sym c.in-Lent.is) ∙ c.status.ensures in
    same_start r.result (lent states) (map_of c.args.start.now (tok_of c.args.tok)) e (singles_lent r.result states c.mask-in-Lent.result c.mask-in-Lent.ensures.states r.ensures.absent r.ensures.full r.ensures.held r.ensures.lent)
