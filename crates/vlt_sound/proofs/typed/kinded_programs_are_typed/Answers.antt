use Rattle.vlt_sound.proofs.Facts.{is_typed, has_cases, has_keys, has_head, body_kinded, end_kinded}
use Rattle.vlt_sound.proofs.typed.kinded_programs_are_typed.Goals as goal

pub returns-clause-typed : goal.returns-clause-typed
returns-clause-typed c = λ p g f kinded sizes at. is_typed p g f kinded sizes at

pub returns-clause-cases : goal.returns-clause-cases
returns-clause-cases c = λ p g f kinded filled at. has_cases p g f kinded filled at

pub returns-clause-keys : goal.returns-clause-keys
returns-clause-keys c = λ p g f kinded at. has_keys p g f kinded at

pub returns-clause-heads : goal.returns-clause-heads
returns-clause-heads c = λ p g f kinded at. has_head p g f kinded at

pub returns-clause-bodies : goal.returns-clause-bodies
returns-clause-bodies c = λ p g f kinded at. body_kinded p g f kinded at

pub returns-clause-ends : goal.returns-clause-ends
returns-clause-ends c = λ p g f kinded at. end_kinded p g f kinded at
