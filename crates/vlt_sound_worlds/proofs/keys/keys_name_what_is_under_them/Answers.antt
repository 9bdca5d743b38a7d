use Rattle.std.proofs.Common.{refl}
use Rattle.vlt_sound_worlds.proofs.KeysLaws.{under_is, none_under, key_kept}
use Rattle.vlt_sound_worlds.proofs.keys.keys_name_what_is_under_them.Goals as goal

pub returns-clause-named : goal.returns-clause-named
returns-clause-named c = λ type name status d k os agrees m under. under_is agrees m under

pub returns-clause-none : goal.returns-clause-none
returns-clause-none c = λ type name status d k os is agrees m under. none_under is agrees m under

pub returns-clause-kept : goal.returns-clause-kept
returns-clause-kept c = λ type name status d k os changed same agrees. key_kept refl refl same agrees
