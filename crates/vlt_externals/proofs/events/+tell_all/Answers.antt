use Rattle.std.proofs.Common.{◌+◌, ◌-◌, subst, arith}
use Rattle.vlt_externals.specs.Told.{TellsArgs}
use Rattle.vlt_externals.proofs.Telling.{tells_more}
use Rattle.vlt_externals.proofs.events.+tell_all.Goals as goal

pub returns-clause-told : goal.returns-clause-told
returns-clause-told n c =
    tells_more c.args.values.now c.args.from c.args.count (c.args.count - 1) c.read.result c.args.line.now.items c.tell.new.line.items c.tell_all.new.line.items (let l = c.if-count-eq0.false in omega (arith, l)) c.read.ensures c.tell.ensures.told
    (subst (λ w. TellsArgs c.args.values.now (c.args.from + w) (c.args.count - 1) c.tell.new.line.items c.tell_all.new.line.items) c.width.ensures c.tell_all.ensures.told)
