use Rattle.vlt_externals.proofs.Telling.{tells_call}
use Rattle.vlt_externals.proofs.events.call_line.Goals as goal

pub returns-clause-told : goal.returns-clause-told
returns-clause-told c = tells_call c.args.name.now c.args.values.now c.args.from c.args.count c.begin.new.line.items c.tell_all.new.line.items c.end.new.line.items c.begin.ensures.items c.tell_all.ensures.told c.end.ensures.items
