use Rattle.std.proofs.Common.{◌≡◌, ◌-◌, ◌++◌, map, replicate, true, false, None, refl, ap, subst, sym, ◌∙◌, arith}
use Rattle.c_meaning.specs.Run.{has_room}
use Rattle.c_values.specs.Shown.{value_view, AreMadeSlots}
use Rattle.c_interp.specs.Shown.{setup_of}
use Rattle.c_interp.specs.Calling.{numbered_of}
use Rattle.c_interp.proofs.Setting.{made_none}
use Rattle.c_interp.proofs.Entering.{ready_fuel, room_fuel, keeps_room, less, enters_no_fuel, enters_no_depth, enters, callee_is, tasks_are}
use Rattle.c_interp.proofs.calls.enter.Goals as goal

pub returns-then-world-eq0 : goal.returns-then-world-eq0
returns-then-world-eq0 c = λ before values b pushed long. record {
  ready = c.requires.ready;
  world = keeps_room c.args.world.now;
  tasks = omega arith;
  slots = pushed.room;
  comes = λ things w h made. enters_no_fuel things c.args.world.now w b h (setup_of c.args.rules.now) c.args.n c.args.target c.args.glue (numbered_of c.args.found) (map value_view values) before c.args.tasks.now.items c.args.frames.now c.args.tasks.now.items c.if-world-eq0.true;
}

pub returns-in_default : goal.returns-in_default
returns-in_default c = λ before values b pushed long. record {
  ready = ready_fuel c.args.world.now (record c.args.world.now { fuel = c.args.world.now.fuel - 1 }) c.requires.ready;
  world = room_fuel c.args.world.now (record c.args.world.now { fuel = c.args.world.now.fuel - 1 });
  tasks = omega arith;
  slots = pushed.room;
  comes = λ things w h made. enters_no_depth things c.args.world.now w b h (setup_of c.args.rules.now) c.args.n c.args.target c.args.glue (numbered_of c.args.found) (map value_view values) before c.args.tasks.now.items c.args.frames.now c.args.tasks.now.items (record c.args.world.now { fuel = c.args.world.now.fuel - 1 })
      (omega (arith, c.if-world-eq0.false)) refl (subst (λ d. has_room (setup_of c.args.rules.now) c.args.glue d ≡ false) pushed.same.depth (c.in_default.ensures (setup_of c.args.rules.now) refl));
}

pub returns : goal.returns
returns c = λ before values b pushed long.
    record {
      ready = ready_fuel c.args.world.now (record c.args.world.now { fuel = c.args.world.now.fuel - 1 }) c.requires.ready;
      world = room_fuel c.args.world.now (record c.args.world.now { fuel = c.args.world.now.fuel - 1 });
      tasks = omega (arith, c.put.ensures.room, c.put-2.ensures.room);
      slots = omega (arith, pushed.room, c.fill.ensures.room);
      comes = λ things w h made. enters things c.args.world.now w b h (setup_of c.args.rules.now) c.args.n c.args.target c.args.glue (numbered_of c.args.found) (map value_view values) before c.args.tasks.now.items
          (record c.args.frames.now { values = c.fill.new.values; base = c.args.end; func = c.args.found.func; is_glue = c.args.glue; depth = c.in-Some.depth }) c.put-2.new.items.items (record c.args.world.now { fuel = c.args.world.now.fuel - 1 })
          (omega (arith, c.if-world-eq0.false)) refl
          (subst (λ d. has_room (setup_of c.args.rules.now) c.args.glue d ≡ true) pushed.same.depth (c.in-Some.ensures (setup_of c.args.rules.now) refl).0)
          (tasks_are before c.args.frames.now c.args.n c.args.target c.args.found (less things c.args.world.now w b h) c.args.tasks.now.items c.put.new.items.items c.put-2.new.items.items c.as_slice.result pushed.same c.put.ensures.items c.put-2.ensures.items c.as_slice.ensures)
          (callee_is before (record c.args.frames.now { values = c.fill.new.values; base = c.args.end; func = c.args.found.func; is_glue = c.args.glue; depth = c.in-Some.depth }) c.args.frames.now c.args.found values c.args.glue (less things c.args.world.now w b h) c.in-Some.depth c.args.end pushed long
          (c.fill.ensures.items ∙ ap (λ k. c.args.frames.now.values.items ++ replicate k None) c.len.ensures) refl refl refl refl (c.in-Some.ensures (setup_of c.args.rules.now) refl).1)
          (subst (AreMadeSlots things) (sym c.fill.ensures.items) (made_none things c.args.frames.now.values.items _ (pushed.made things made)));
    }
