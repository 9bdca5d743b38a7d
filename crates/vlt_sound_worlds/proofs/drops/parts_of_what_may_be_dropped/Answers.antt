use Rattle.vlt_core_laws.proofs.Dropping.{part_is_free}
use Rattle.vlt_sound_worlds.proofs.drops.parts_of_what_may_be_dropped.Goals as goal

pub returns : goal.returns
returns c = part_is_free
