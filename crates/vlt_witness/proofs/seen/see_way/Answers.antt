use Rattle.std.proofs.Common.{rules, ◌≡◌, IsTrue, false, refl, ap, subst}
use Rattle.std.proofs.lemmas.Result.{on_ok_weaker}
use Rattle.vlt_witness.specs.declared.seen.Seen.{Seen}
use Rattle.vlt_witness.specs.Ways.{OnSeen}
use Rattle.std.specs.Prelude.{Some}
use Rattle.vlt_core.specs.FaultView.{choices_of}
use Rattle.vlt_witness.proofs.Rowing.{join_met, join_unmet}
use Rattle.vlt_witness.proofs.seen.see_way.Goals as goal

never : IsTrue false → ⊥
never h = search rules

pub returns-then-not-is_met_at_join : goal.returns-then-not-is_met_at_join
returns-then-not-is_met_at_join c =
    join_unmet c.args.aim c.args.at c.args.join c.args.way.now (OnSeen c.args.list.now) (λ h. never (subst IsTrue (search rules) (c.is_met_at_join.ensures.1 h)))

pub returns : goal.returns
returns c =
    let x = c.args.way.now in
    let y : Seen = record { from = x.from; join = Some c.args.join; path = c.in_ok-path.path } in
    let path : choices_of c.in_ok-path.path ≡ choices_of x.path = rw c.as_slice.ensures at (ap choices_of c.in_ok-path.ensures) in
    on_ok_weaker c.note.result (λ j. join_met c.args.aim c.args.at c.args.join x y (OnSeen c.args.list.now) (OnSeen c.note.new.list) (c.is_met_at_join.ensures.0 (search rules)) refl refl path j) c.note.ensures
