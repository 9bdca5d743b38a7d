use Rattle.std.proofs.Common.{◌≡◌, false, true, refl, inl, inr}
use Rattle.vlt_core.specs.Maps.{is_absent, is_held, is_full}
use Rattle.vlt_blame_meaning.specs.Samples.{conf_after}
use Rattle.vlt_blame_meaning.proofs.runs_go_wrong.Goals as goal

absent_held : is_absent ≡ is_held → ⊥
absent_held e = cc

held_absent : is_held ≡ is_absent → ⊥
held_absent e = cc

full_absent : is_full ≡ is_absent → ⊥
full_absent e = cc

false_true : false ≡ true → ⊥
false_true e = cc

pub returns-clause-again : goal.returns-clause-again
unfolding conf_after
returns-clause-again c = record { main = _; is_main = refl; ends_so = refl; blamed = inl (refl, λ w. absent_held w.0) }

pub returns-clause-kept : goal.returns-clause-kept
unfolding conf_after
returns-clause-kept c = record { main = _; is_main = refl; ends_so = refl; blamed = inl (refl, λ w. held_absent w) }

pub returns-clause-raw : goal.returns-clause-raw
unfolding conf_after
returns-clause-raw c = record { main = _; is_main = refl; ends_so = refl; blamed = inl (refl, λ w. false_true (w.1.each 0 refl)) }

pub returns-clause-filled : goal.returns-clause-filled
unfolding conf_after
returns-clause-filled c = record { main = _; is_main = refl; ends_so = refl; blamed = inr (refl, inl (refl, λ w. full_absent w)) }
