use Rattle.std.proofs.Common.{refl, subst, sym, arith}
use Rattle.c_values.specs.Shown.{AreMadeSlots}
use Rattle.c_interp.proofs.Returning.{back_is}
use Rattle.c_interp.proofs.Setting.{made_take}
use Rattle.c_interp.proofs.stack.go_back.Goals as goal

pub returns-clause-state : goal.returns-clause-state
returns-clause-state c = λ w. back_is c.args.frames.now (record c.args.frames.now { values = c.truncate.new.self; base = c.args.caller.base; func = c.args.caller.func; is_glue = c.args.caller.is_glue; depth = c.depth_out-frames.result }) c.args.caller w c.truncate.ensures.items refl refl refl c.depth_out-frames.ensures

pub returns-clause-kept : goal.returns-clause-kept
returns-clause-kept c = record {
  made = λ ts m made. subst (AreMadeSlots ts) (sym c.truncate.ensures.items) (made_take ts c.args.frames.now.values.items c.args.frames.now.base made);
  room = omega (arith, c.truncate.ensures.capacity);
}
