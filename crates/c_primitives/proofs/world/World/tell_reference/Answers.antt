use Rattle.std.proofs.Common.{◌+◌, Ok, Err, Some, None, map, ap, sym, ◌∙◌, refl, arith}
use Rattle.c_syntax.specs.View.{arg_of}
use Rattle.c_values.specs.Shown.{shown_vars}
use Rattle.c_primitives.specs.declared.halt.Halt.TheVariants.{Broken}
use Rattle.c_primitives.specs.declared.world.Talk.TheVariants.{Calling}
use Rattle.c_primitives.proofs.Coming.{same_room, reference_come, reference_breaks}
use Rattle.c_primitives.proofs.Telling.{tell_block_come, tell_block_full, tell_block_breaks, tell_null_breaks, line_room, ready_told, room_told}
use Rattle.c_primitives.proofs.world.World.tell_reference.Goals as goal

pub tell_object-requires : goal.tell_object-requires
tell_object-requires c = let k = line_room c.args.self.now.talk c.in-Some.told _ _ (sym c.told_so_far.ensures ∙ c.in-Some.is) c.requires.ready.line in omega (arith, k.1, c.if-told-ge-MAX_TOLD.false)

pub returns-in_default : goal.returns-in_default
returns-in_default c = λ b. record {
  ready = c.requires.ready;
  room = same_room c.args.self.now;
  comes = λ ts w h made. reference_come ts c.args.self.now w b b (map arg_of c.args.args.now) (shown_vars c.args.vars) (Err (Broken 8)) c.one_reference.result (Some c.in-Ok-Some.block) _ (c.in-Ok-Some.is ∙ ap (λ x. Ok x) c.in-Ok-Some.field-0-is) (c.one_reference.ensures ts made) (λ m. tell_block_breaks ts c.args.self.now w b h (sym c.told_so_far.ensures ∙ c.in_default.is) c.in-Ok-Some.block.number);
}

pub returns-then-told-ge-MAX_TOLD : goal.returns-then-told-ge-MAX_TOLD
returns-then-told-ge-MAX_TOLD c = λ b. record {
  ready = c.requires.ready;
  room = same_room c.args.self.now;
  comes = λ ts w h made. reference_come ts c.args.self.now w b b (map arg_of c.args.args.now) (shown_vars c.args.vars) (Err (Broken 8)) c.one_reference.result (Some c.in-Ok-Some.block) _ (c.in-Ok-Some.is ∙ ap (λ x. Ok x) c.in-Ok-Some.field-0-is) (c.one_reference.ensures ts made) (λ m. tell_block_full ts c.args.self.now w b h c.in-Some.told (sym c.told_so_far.ensures ∙ c.in-Some.is) c.in-Ok-Some.block.number (omega (arith, c.if-told-ge-MAX_TOLD.true)));
}

pub returns-else-told-ge-MAX_TOLD : goal.returns-else-told-ge-MAX_TOLD
returns-else-told-ge-MAX_TOLD c = λ b. record {
  ready = ready_told c.args.self.now (record c.args.self.now { talk = Calling (c.in-Some.told + 1); line = c.tell_object.new.line }) c.in-Some.told c.requires.ready (sym c.told_so_far.ensures ∙ c.in-Some.is) refl (omega (arith, c.if-told-ge-MAX_TOLD.false)) c.tell_object.ensures.short c.tell_object.ensures.room;
  room = room_told c.args.self.now (record c.args.self.now { talk = Calling (c.in-Some.told + 1); line = c.tell_object.new.line }) c.tell_object.ensures.room;
  comes = λ ts w h made. reference_come ts _ w b b (map arg_of c.args.args.now) (shown_vars c.args.vars) (Ok None) c.one_reference.result (Some c.in-Ok-Some.block) _ (c.in-Ok-Some.is ∙ ap (λ x. Ok x) c.in-Ok-Some.field-0-is) (c.one_reference.ensures ts made) (λ m. tell_block_come ts c.args.self.now w b h c.in-Some.told (sym c.told_so_far.ensures ∙ c.in-Some.is) (record c.args.self.now { talk = Calling (c.in-Some.told + 1); line = c.tell_object.new.line }) c.in-Ok-Some.block.number refl c.tell_object.ensures.items (omega (arith, c.if-told-ge-MAX_TOLD.false)));
}

pub returns-in-Ok-None : goal.returns-in-Ok-None
returns-in-Ok-None c = λ b. record {
  ready = c.requires.ready;
  room = same_room c.args.self.now;
  comes = λ ts w h made. reference_come ts c.args.self.now w b b (map arg_of c.args.args.now) (shown_vars c.args.vars) (Err (Broken 8)) c.one_reference.result None _ (c.in-Ok-None.is ∙ ap (λ x. Ok x) c.in-Ok-None.field-0-is) (c.one_reference.ensures ts made) (λ m. tell_null_breaks ts c.args.self.now w b h);
}

pub returns-in-Err : goal.returns-in-Err
returns-in-Err c = λ b. record {
  ready = c.requires.ready;
  room = same_room c.args.self.now;
  comes = λ ts w h made. reference_breaks ts c.args.self.now w b (map arg_of c.args.args.now) (shown_vars c.args.vars) c.in-Err.rule h c.one_reference.result _ c.in-Err.is (c.one_reference.ensures ts made);
}
