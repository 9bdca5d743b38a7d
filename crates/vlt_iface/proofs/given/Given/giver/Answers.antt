use Rattle.std.proofs.Common.{sym, ap, ◌∙◌}
use Rattle.vlt_iface.specs.Given.{key_seen, giver_in}
use Rattle.vlt_iface.proofs.given.Given.giver.Goals as goal

pub returns-in-Struct : goal.returns-in-Struct
returns-in-Struct c = c.entry.ensures ∙ ap (giver_in c.args.self.now) (sym (ap key_seen c.in-Struct.is) ∙ c.wanted_key.ensures)

pub returns-in-Function : goal.returns-in-Function
returns-in-Function c = c.entry-in-Function.ensures ∙ ap (giver_in c.args.self.now) (sym (ap key_seen c.in-Function.is) ∙ c.wanted_key.ensures)

pub returns-in-Nothing : goal.returns-in-Nothing
returns-in-Nothing c = ap (giver_in c.args.self.now) (sym (ap key_seen c.in-Nothing.is) ∙ c.wanted_key.ensures)
