-- What is known of the functions of a program that breaks no rule.
use Rattle.vlt_core.specs.Core.{Program}
use Rattle.vlt_core.specs.Kinded.{IsKinded}
use Rattle.vlt_sound.specs.Sizes.{HasSizes}
use Rattle.vlt_sound.proofs.Facts.{is_typed, has_head}
use Rattle.vlt_sound_calls.specs.Meet.{HasFunctions}
use Rattle.vlt_sound.proofs.HeadsDeclared.{has_fields}
use Rattle.vlt_sound.proofs.Meeting.{keys_meet}
use Rattle.vlt_sound.proofs.Bounded.{has_bound}

pub has_functions : (p : Program) → IsKinded p → HasSizes p → HasFunctions p
has_functions p kinded sizes = record {
  heads = λ i g at. has_head p i g kinded at;
  typed = λ i g at. is_typed p i g kinded sizes at;
  meet = λ f typed i g at. keys_meet p f g typed (has_fields p kinded) (has_head p i g kinded at);
  bounds = λ i g at. has_bound p i g kinded at;
}
