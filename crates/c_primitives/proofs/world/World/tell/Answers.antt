use Rattle.std.proofs.Common.{rules, ◌+◌, ◌++◌, Ok, Err, None, SFits, w64, map, ap, sym, ◌∙◌, refl, arith}
use Rattle.std.proofs.lemmas.Int.{to_z-of_z}
use Rattle.c_syntax.specs.View.{arg_of}
use Rattle.c_values.specs.Shown.{shown_vars}
use Rattle.c_primitives.specs.declared.halt.Halt.TheVariants.{Broken}
use Rattle.c_primitives.specs.declared.world.Talk.TheVariants.{Calling}
use Rattle.c_primitives.proofs.Coming.{same_room, number_come, number_breaks}
use Rattle.c_primitives.proofs.Telling.{tell_number_come, tell_number_full, tell_number_breaks, line_room, ready_told, room_told}
use Rattle.c_meaning.specs.World.{told_text, told_number}
use Rattle.c_primitives.proofs.world.World.tell.Goals as goal

pub tell_number-requires : goal.tell_number-requires
tell_number-requires c = let k = line_room c.args.self.now.talk c.in-Some.told _ _ (sym c.told_so_far.ensures ∙ c.in-Some.is) c.requires.ready.line in omega (arith, k.1, c.if-told-ge-MAX_TOLD.false)

pub returns-in_default : goal.returns-in_default
returns-in_default c = λ b. record {
  ready = c.requires.ready;
  room = same_room c.args.self.now;
  comes = λ ts w h made. number_come ts c.args.self.now w b b (map arg_of c.args.args.now) (shown_vars c.args.vars) (Err (Broken 8)) c.one_number.result c.in-Ok.z _ c.in-Ok.is (c.one_number.ensures ts made) (tell_number_breaks ts c.args.self.now w b h (sym c.told_so_far.ensures ∙ c.in_default.is) c.in-Ok.z);
}

pub returns-then-told-ge-MAX_TOLD : goal.returns-then-told-ge-MAX_TOLD
returns-then-told-ge-MAX_TOLD c = λ b. record {
  ready = c.requires.ready;
  room = same_room c.args.self.now;
  comes = λ ts w h made. number_come ts c.args.self.now w b b (map arg_of c.args.args.now) (shown_vars c.args.vars) (Err (Broken 8)) c.one_number.result c.in-Ok.z _ c.in-Ok.is (c.one_number.ensures ts made) (tell_number_full ts c.args.self.now w b h c.in-Some.told (sym c.told_so_far.ensures ∙ c.in-Some.is) c.in-Ok.z (omega (arith, c.if-told-ge-MAX_TOLD.true)));
}

pub returns-else-told-ge-MAX_TOLD : goal.returns-else-told-ge-MAX_TOLD
returns-else-told-ge-MAX_TOLD c = let fits : SFits w64 c.in-Ok.z = search rules in λ b. record {
  ready = ready_told c.args.self.now (record c.args.self.now { talk = Calling (c.in-Some.told + 1); line = c.tell_number.new.line }) c.in-Some.told c.requires.ready (sym c.told_so_far.ensures ∙ c.in-Some.is) refl (omega (arith, c.if-told-ge-MAX_TOLD.false)) c.tell_number.ensures.short c.tell_number.ensures.room;
  room = room_told c.args.self.now (record c.args.self.now { talk = Calling (c.in-Some.told + 1); line = c.tell_number.new.line }) c.tell_number.ensures.room;
  comes = λ ts w h made. number_come ts _ w b b (map arg_of c.args.args.now) (shown_vars c.args.vars) (Ok None) c.one_number.result c.in-Ok.z _ c.in-Ok.is (c.one_number.ensures ts made) (tell_number_come ts c.args.self.now w b h c.in-Some.told (sym c.told_so_far.ensures ∙ c.in-Some.is) (record c.args.self.now { talk = Calling (c.in-Some.told + 1); line = c.tell_number.new.line }) c.in-Ok.z refl (c.tell_number.ensures.items ∙ ap (λ z. c.args.self.now.line.items ++ told_text (told_number z)) (to_z-of_z w64 c.in-Ok.z fits)) (omega (arith, c.if-told-ge-MAX_TOLD.false)));
}

pub returns-in-Err : goal.returns-in-Err
returns-in-Err c = λ b. record {
  ready = c.requires.ready;
  room = same_room c.args.self.now;
  comes = λ ts w h made. number_breaks ts c.args.self.now w b (map arg_of c.args.args.now) (shown_vars c.args.vars) c.in-Err.rule h c.one_number.result _ c.in-Err.is (c.one_number.ensures ts made);
}
