use Rattle.std.proofs.Common.{rules, ◌≡◌, ◌++◌, IsTrue, false, [], refl, sym, subst}
use Rattle.std.proofs.lemmas.List.{append-nil}
use Rattle.std.proofs.lemmas.Result.{on_ok_weaker}
use Rattle.vlt_core.specs.FaultView.{choices_of}
use Rattle.vlt_witness.specs.declared.ways.Way.{Way}
use Rattle.vlt_witness.specs.Ways.{On}
use Rattle.vlt_witness.proofs.Steps.{extended_way, skipped_way}
use Rattle.vlt_witness.proofs.ways.extend_by.Goals as goal

pub returns-then-not-has : goal.returns-then-not-has
returns-then-not-has c = record {
  spreads = skipped_way c.args.way.now c.args.step.now (On c.args.list.now) (λ h. never (subst IsTrue (search rules) (c.has.ensures.1 h)));
  grows = record { more = []; is = sym (append-nil c.args.list.now) };
}
  where
    never : IsTrue false → ⊥
    never h = search rules

pub returns-clause-spreads : goal.returns-clause-spreads
returns-clause-spreads c =
    let x = c.args.way.now in
    let s = c.args.step.now in
    let y : Way = record { from = x.from; ones = s.ones; path = c.in_ok-path.path } in
    let path : choices_of c.in_ok-path.path ≡ choices_of x.path ++ choices_of s.path = rw (c.as_slice.ensures, c.as_slice-2.ensures) at c.in_ok-path.ensures in
    on_ok_weaker c.add.result (λ j. extended_way x s y refl refl path (c.has.ensures.0 (search rules)) (On c.args.list.now) (On c.add.new.list) j) c.add.ensures.joined
