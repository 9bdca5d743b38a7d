use Rattle.c_memory.proofs.Calls.{out_is, sound_out}
use Rattle.c_memory.proofs.blocks.Blocks.send_out.Goals as goal

pub returns-clause-did : goal.returns-clause-did
returns-clause-did c = λ ts holds made. out_is c.args.self.now _ ts c.args.p c.in-Some.c (c.in-Some.ensures.things ts holds made) c.requires.sound holds c.set_out.ensures

pub returns-clause-sound : goal.returns-clause-sound
returns-clause-sound c = sound_out c.args.self.now _ _ _ c.requires.sound c.in-Some.ensures.live c.set_out.ensures
