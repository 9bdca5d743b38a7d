use Rattle.std.proofs.Common.{rules}
use Rattle.c_memory.proofs.Calls.{fresh_sound}
use Rattle.c_memory.proofs.blocks.Blocks.open.Goals as goal

pub returns-clause-sound : goal.returns-clause-sound
returns-clause-sound c = fresh_sound _ (search rules)
