use Rattle.std.proofs.Common.{refl, ◌<◌, length, Some, subst}
use Rattle.std.proofs.lemmas.Option.{same_Some, slice_get_within}
use Rattle.vlt_rings.specs.Places.{head}
use Rattle.vlt_rings.proofs.Sounds.{sound_moved, even_head, owned_home}
use Rattle.vlt_rings.proofs.Calls.{quiet_set, live_quiet, long_after, owned_things}
use Rattle.vlt_rings.proofs.places.Places.own.Goals as goal

pub returns-clause-settled : goal.returns-clause-settled
returns-clause-settled c =
    let live = c.requires.child in
    let set = c.set_parent.ensures.set live.what live.at in
    record {
      sound = sound_moved c.args.self.now _ c.args.child (head c.args.parent) live.what (record live.what { parent = Some c.args.parent }) c.requires.settled.sound live.at set (owned_home live.what c.args.parent live.is) (even_head c.args.parent)
          c.move_to.ensures.whole c.move_to.ensures.long c.move_to.ensures.room c.move_to.ensures.moved
          (λ a e. subst (λ x. x < length c.args.self.now.places.items) (same_Some c.args.parent a e) (slice_get_within _ _ _ c.requires.parent.at)) refl c.set_parent.ensures.room refl;
      quiet = quiet_set _ _ c.args.child (record live.what { parent = Some c.args.parent }) (slice_get_within _ _ _ live.at) set (live_quiet live.what (Some c.args.parent) live.is) c.requires.settled.quiet;
    }

pub returns-clause-places : goal.returns-clause-places
returns-clause-places c = record { places = long_after _ _ c.args.child _ (c.set_parent.ensures.set c.requires.child.what c.requires.child.at); made = refl; budget = refl }

pub returns-clause-things : goal.returns-clause-things
returns-clause-things c = owned_things c.args.self.now _ c.args.child c.args.parent c.requires.child c.requires.parent c.set_parent.ensures.set refl
