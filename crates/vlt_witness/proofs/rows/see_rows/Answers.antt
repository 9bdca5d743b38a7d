use Rattle.std.proofs.Common.{rules, ◌≡◌, IsTrue, false, None, refl, ap, subst}
use Rattle.std.proofs.lemmas.Result.{on_ok_weaker}
use Rattle.vlt_core.specs.FaultView.{choices_of}
use Rattle.vlt_rows.specs.FlowView.{rows_view}
use Rattle.vlt_witness.specs.declared.seen.Seen.{Seen}
use Rattle.vlt_witness.specs.Ways.{OnSeen}
use Rattle.vlt_witness.proofs.Rowing.{way_met, way_unmet}
use Rattle.vlt_witness.proofs.rows.see_rows.Goals as goal

never : IsTrue false → ⊥
never h = search rules

pub returns-then-not-look : goal.returns-then-not-look
returns-then-not-look c =
    way_unmet c.args.aim c.args.at (rows_view c.args.rows.now) c.args.way.now (OnSeen c.args.list.now) (λ h. never (subst IsTrue (search rules) (c.look.ensures.met.1 h)))

pub returns : goal.returns
returns c =
    let x = c.args.way.now in
    let y : Seen = record { from = x.from; join = None; path = c.in_ok-path.path } in
    let path : choices_of c.in_ok-path.path ≡ choices_of x.path = rw c.as_slice.ensures at (ap choices_of c.in_ok-path.ensures) in
    on_ok_weaker c.note.result (λ j. way_met c.args.aim c.args.at (rows_view c.args.rows.now) x y (OnSeen c.args.list.now) (OnSeen c.note.new.list) (c.look.ensures.met.0 (search rules)) refl refl path j) c.note.ensures
