use Rattle.std.proofs.Common.{refl, None}
use Rattle.std.proofs.lemmas.Option.{none-some, slice_get_within}
use Rattle.vlt_rings.proofs.Sounds.{sound_lone, lone_home}
use Rattle.vlt_rings.proofs.Calls.{quiet_set, live_quiet, long_after, disowned_things}
use Rattle.vlt_rings.proofs.places.Places.disown.Goals as goal

pub returns-clause-settled : goal.returns-clause-settled
returns-clause-settled c =
    let live = c.requires.child in
    let set = c.set_parent.ensures.set live.what live.at in
    record {
      sound = sound_lone c.args.self.now _ c.args.child live.what (record live.what { parent = None }) c.requires.settled.sound live.at set (lone_home live.what live.is) c.unlink.ensures.whole c.unlink.ensures.long c.unlink.ensures.room c.unlink.ensures.unlinked
          (λ a e. absurd (none-some a e)) refl c.set_parent.ensures.room refl;
      quiet = quiet_set _ _ c.args.child (record live.what { parent = None }) (slice_get_within _ _ _ live.at) set (live_quiet live.what None live.is) c.requires.settled.quiet;
    }

pub returns-clause-places : goal.returns-clause-places
returns-clause-places c = record { places = long_after _ _ c.args.child _ (c.set_parent.ensures.set c.requires.child.what c.requires.child.at); made = refl; budget = refl }

pub returns-clause-things : goal.returns-clause-things
returns-clause-things c = disowned_things c.args.self.now _ c.args.child c.requires.child c.set_parent.ensures.set refl
