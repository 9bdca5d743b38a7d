use Rattle.vlt_sound_worlds.proofs.Blocks.{unused}
use Rattle.vlt_sound_worlds.proofs.steps.blocks_leave_nothing_behind.Goals as goal

pub returns : goal.returns
returns c = λ p f x h ids hand frame w bound agrees own_all pass. unused w agrees bound own_all pass
