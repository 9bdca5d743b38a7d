use Rattle.c_lower_worlds.proofs.OfOperators.Slots.{leaves_stand}
use Rattle.c_lower_worlds.proofs.operators.numbers_stand_in_their_slots.Goals as goal

pub returns : goal.returns
returns c = leaves_stand
