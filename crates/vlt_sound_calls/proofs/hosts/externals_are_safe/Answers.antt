use Rattle.vlt_sound_calls.proofs.HostsLaws as hosts
use Rattle.vlt_sound_calls.proofs.hosts.externals_are_safe.Goals as goal

pub returns : goal.returns
returns c = λ r answers. hosts.externals_are_safe r answers
