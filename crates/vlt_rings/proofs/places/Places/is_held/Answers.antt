use Rattle.std.proofs.Common.{sym, ◌∙◌}
use Rattle.vlt_rings.proofs.Calls.{there_or_gone, gone_beyond, has_number}
use Rattle.vlt_rings.proofs.places.Places.is_held.Goals as goal

pub returns-in-Some-clause-things : goal.returns-in-Some-clause-things
returns-in-Some-clause-things c = λ ts holds made.
    there_or_gone c.args.self.now ts c.args.c c.args.number c.in-Some.place c.has.result (sym c.at.ensures ∙ c.in-Some.is) c.has.ensures.yes c.has.ensures.no holds made

pub returns-in-None-clause-things : goal.returns-in-None-clause-things
returns-in-None-clause-things c = λ ts holds made. gone_beyond c.args.self.now ts c.args.c c.args.number (sym c.at.ensures ∙ c.in-None.is) holds made

pub returns-in-Some-clause-number : goal.returns-in-Some-clause-number
returns-in-Some-clause-number c = λ yes. has_number c.args.self.now c.args.c c.args.number c.in-Some.place (sym c.at.ensures ∙ c.in-Some.is) (c.has.ensures.yes yes).1
