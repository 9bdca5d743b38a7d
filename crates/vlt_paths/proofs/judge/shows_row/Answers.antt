use Rattle.std.proofs.Common.{◌↔◌, IsTrue, [], refl, subst}
use Rattle.vlt_core.specs.FaultView.{choices_of}
use Rattle.vlt_core.specs.Instances.{instance}
use Rattle.vlt_core.specs.View.{program_of, func_of, tok_of}
use Rattle.vlt_core.specs.Witness.{Refuses, NoJoin, PathMeets}
use Rattle.vlt_paths.specs.Comes.{wants_of}
use Rattle.vlt_paths.specs.Along.{state_of, exit_of}
use Rattle.vlt_paths.proofs.Beginning.{shown_row}
use Rattle.vlt_paths.proofs.judge.shows_row.Goals as goal

pub returns : goal.returns
returns c =
    let g = rw c.as_slice.ensures at c.go_stmts-end.ensures in
    subst (λ w. IsTrue c.go_stmts-end.result.point.met ↔ PathMeets (program_of c.args.p.now) (instance (program_of c.args.p.now) (func_of c.args.f.now) c.args.origin) (tok_of c.args.tok) (Refuses (tok_of c.args.tok) c.args.at w) NoJoin (choices_of c.args.path.now)) c.of.ensures
    (shown_row (program_of c.args.p.now) (instance (program_of c.args.p.now) (func_of c.args.f.now) c.args.origin) (tok_of c.args.tok) (Refuses (tok_of c.args.tok) c.args.at (wants_of c.of.result)) _ (state_of c.go_stmts-end.result.point) (exit_of c.go_stmts-end.result.out) refl c.start.ensures (g [] refl))
