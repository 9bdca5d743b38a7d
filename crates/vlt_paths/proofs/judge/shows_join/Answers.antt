use Rattle.std.proofs.Common.{[], refl}
use Rattle.vlt_core.specs.Instances.{instance}
use Rattle.vlt_core.specs.View.{program_of, func_of, tok_of}
use Rattle.vlt_paths.proofs.Beginning.{shown_join}
use Rattle.vlt_paths.proofs.judge.shows_join.Goals as goal

pub returns : goal.returns
returns c =
    let m = rw c.as_slice.ensures at c.meet_stmts.ensures in
    shown_join (program_of c.args.p.now) (instance (program_of c.args.p.now) (func_of c.args.f.now) c.args.origin) (tok_of c.args.tok) _ c.meet_stmts.result c.start-comes.ensures c.start-comes.ensures (m [] refl 0)
