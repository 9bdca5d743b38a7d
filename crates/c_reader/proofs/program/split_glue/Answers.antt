use Rattle.std.proofs.Common.{true, false, not, map, ap}
use Rattle.c_syntax.specs.View.{func_of}
use Rattle.c_reader.proofs.Funcs.{pushed, passed}
use Rattle.c_reader.proofs.program.split_glue.Goals as goal

pub loop-body-preserved-in_ok-push : goal.loop-body-preserved-in_ok-push
loop-body-preserved-in_ok-push c =
    let seen = c.loop-body.yielded in
    let body = c.in-Some.body in
    record {
      glue = pushed true seen body c.loop-body.glue c.push.new.self c.in_ok-func.field-0 c.if-body.true c.in_ok-push.ensures.ok c.loop-body.invariant.glue c.in_ok-func.ensures;
      fns = passed false seen body (map func_of c.loop-body.fns) (ap not c.if-body.true) c.loop-body.invariant.fns;
    }

pub loop-body-preserved : goal.loop-body-preserved
loop-body-preserved c =
    let seen = c.loop-body.yielded in
    let body = c.in-Some.body in
    record {
      glue = passed true seen body (map func_of c.loop-body.glue) c.if-body.false c.loop-body.invariant.glue;
      fns = pushed false seen body c.loop-body.fns c.push-else-body.new.self c.in_ok-func-2.field-0 (ap not c.if-body.false) c.in_ok-push-2.ensures.ok c.loop-body.invariant.fns c.in_ok-func-2.ensures;
    }
