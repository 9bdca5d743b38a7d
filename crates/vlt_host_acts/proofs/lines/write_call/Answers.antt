use Rattle.std.proofs.Common.{map, subst}
use Rattle.std.specs.Prelude.{OnErr}
use Rattle.std.specs.List.{flat_map}
use Rattle.vlt_io.specs.Outside.{GrewByPart}
use Rattle.vlt_meaning.specs.World.{argument_text}
use Rattle.vlt_host_meaning.specs.Calls.{value_of_argument}
use Rattle.vlt_host_meaning.specs.Tables.{argument_of}
use Rattle.vlt_host_acts.proofs.Texts.{line_is}
use Rattle.vlt_host_acts.proofs.lines.write_call.Goals as goal

pub returns-clause-part : goal.returns-clause-part
returns-clause-part g c =
    subst (λ l. OnErr c.write.result (GrewByPart (g.K.Sink.written c.args.sink.now) (g.K.Sink.written c.write.new.self) l))
    (line_is 33 c.args.name.now (flat_map (λ a. argument_text (value_of_argument a)) (map argument_of c.args.args.now)) c.mark.new.line.items c.tell_all.new.line.items c.end.new.line.items c.deref.result.now
    c.mark.ensures.items c.tell_all.ensures.told c.end.ensures.items c.deref.ensures.value)
    c.write.ensures.part
