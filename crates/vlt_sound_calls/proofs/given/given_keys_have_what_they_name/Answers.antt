use Rattle.vlt_sound_calls.proofs.GivenLaws.{agrees_came}
use Rattle.vlt_sound_calls.proofs.given.given_keys_have_what_they_name.Goals as goal

pub returns : goal.returns
returns c =
    λ p f x h ids hand frame os back keys es typed entered scoped agrees givable e.
    agrees_came p f typed entered scoped keys es h os back agrees givable e
