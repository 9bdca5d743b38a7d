use Rattle.std.proofs.Common.{rules, ◌≡◌, ◌++◌, IsTrue, false, refl, subst}
use Rattle.std.proofs.lemmas.Result.{on_ok_weaker}
use Rattle.vlt_core.specs.FaultView.{choices_of}
use Rattle.vlt_witness.specs.declared.seen.Seen.{Seen}
use Rattle.vlt_witness.specs.Ways.{OnSeen}
use Rattle.vlt_witness.proofs.Steps.{extended_seen, skipped_seen}
use Rattle.vlt_witness.proofs.seen.extend_by.Goals as goal

never : IsTrue false → ⊥
never h = search rules

pub returns-then-not-has : goal.returns-then-not-has
returns-then-not-has c = skipped_seen c.args.way.now c.args.step.now (OnSeen c.args.list.now) (λ h. never (subst IsTrue (search rules) (c.has.ensures.1 h)))

pub returns : goal.returns
returns c =
    let x = c.args.way.now in
    let s = c.args.step.now in
    let y : Seen = record { from = x.from; join = s.join; path = c.in_ok-path.path } in
    let path : choices_of c.in_ok-path.path ≡ choices_of x.path ++ choices_of s.path = rw (c.as_slice.ensures, c.as_slice-2.ensures) at c.in_ok-path.ensures in
    on_ok_weaker c.note.result (λ j. extended_seen x s y refl refl path (c.has.ensures.0 (search rules)) (OnSeen c.args.list.now) (OnSeen c.note.new.list) j) c.note.ensures
