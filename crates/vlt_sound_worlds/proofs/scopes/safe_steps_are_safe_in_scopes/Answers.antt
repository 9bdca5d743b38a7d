use Rattle.vlt_sound_worlds.proofs.scopes.safe_steps_are_safe_in_scopes.Goals as goal

pub returns : goal.returns
returns c = λ s safe r f x h ids frame w typed keyed scoped agrees. safe r f x h ids frame w typed agrees
