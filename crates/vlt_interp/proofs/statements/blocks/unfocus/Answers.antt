use Rattle.std.proofs.Common.{refl, arith}
use Rattle.vlt_interp.proofs.OfTasks.Staying.{keeps_all}
use Rattle.vlt_interp.proofs.OfStatements.Acting.{same_frame}
use Rattle.vlt_interp.proofs.OfStatements.Foci.{can_end, unfocus_came, passes_end, jumps_elsewhere, leaves_elsewhere}
use Rattle.vlt_interp.proofs.statements.blocks.unfocus.Goals as goal

pub end_focus-requires-clause-can : goal.end_focus-requires-clause-can
end_focus-requires-clause-can c = can_end c.args.focus c.args.run.now c.requires.right.conf c.requires.right.shown c.requires.right.setup c.in-Goes.is c.requires.right.right

pub returns-in-Goes : goal.returns-in-Goes
returns-in-Goes c =
    let new = record c.args.run.now { heap = c.end_focus.new.heap } in
    λ s b. record {
      keeps = record { sound = c.end_focus.ensures.sound; size = c.end_focus.ensures.size; width = refl; values = omega arith; tasks = omega arith; line = omega arith };
      comes = λ k q. unfocus_came c.args.focus c.args.run.now k q s new b (record { func = refl; tasks = refl; at = refl; depth = refl; frame = same_frame c.args.run.now.values }) refl refl refl c.end_focus.ensures.does c.in-Goes.is;
    }

pub returns-in-Jumps : goal.returns-in-Jumps
returns-in-Jumps c = λ s b. record {
  keeps = keeps_all c.args.run.now c.requires.sound;
  comes = λ k q. passes_end c.args.focus c.args.run.now k q s b (jumps_elsewhere c.args.run.now.at _ c.in-Jumps.is);
}

pub returns-in-Leaves : goal.returns-in-Leaves
returns-in-Leaves c = λ s b. record {
  keeps = keeps_all c.args.run.now c.requires.sound;
  comes = λ k q. passes_end c.args.focus c.args.run.now k q s b (leaves_elsewhere c.args.run.now.at c.in-Leaves.is);
}
