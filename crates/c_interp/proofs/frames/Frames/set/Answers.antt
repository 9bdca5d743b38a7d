use Rattle.std.proofs.Common.{subst, sym, ◌∙◌}
use Rattle.c_values.specs.Shown.{AreMadeSlots}
use Rattle.c_interp.proofs.Setting.{set_here, set_nowhere, made_set}
use Rattle.c_interp.proofs.frames.Frames.set.Goals as goal

pub returns-in-Some-clause-state : goal.returns-in-Some-clause-state
returns-in-Some-clause-state c = λ w. set_here c.args.self.now c.args.self.now c.args.v c.args.a w c.in-Some.i c.put_at.new.values.items (sym c.place.ensures.is ∙ c.in-Some.is) c.put_at.ensures.items

pub returns-in-Some-clause-kept : goal.returns-in-Some-clause-kept
returns-in-Some-clause-kept c = record {
  made = λ ts m made. subst (AreMadeSlots ts) (sym c.put_at.ensures.items) (made_set ts c.args.self.now.values.items _ c.args.a m made);
  room = c.put_at.ensures.room;
}

pub returns-in_default-clause-state : goal.returns-in_default-clause-state
returns-in_default-clause-state c = λ w. set_nowhere c.args.self.now c.args.self.now c.args.v c.args.a w (sym c.place.ensures.is ∙ c.in_default.is)
