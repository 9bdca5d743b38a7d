use Rattle.std.proofs.Common.{refl, arith, ap, ◌∙◌, None, slice_get}
use Rattle.std.proofs.lemmas.Option.{none-some, slice_get_within}
use Rattle.vlt_rings.specs.declared.places.Mark.TheVariants.{Free, Live}
use Rattle.vlt_rings.proofs.Sounds.{sound_lone, mark_count}
use Rattle.vlt_rings.proofs.Lists.{get_same}
use Rattle.vlt_rings.proofs.Calls.{quiet_set, new_made}
use Rattle.vlt_rings.proofs.places.Places.make.Goals as goal

pub returns-clause-settled : goal.returns-clause-settled
returns-clause-settled c =
    let free = c.in_ok-c.ensures.some in
    let set = c.set_place.ensures.set free.what free.at in
    let none = mark_count free.what Free free.is in
    record {
      sound = sound_lone c.find_free.new.self _ c.in_ok-c.c free.what (record { number = c.find_free.new.self.made; mark = Live; parent = None }) c.find_free.ensures.settled.sound free.at set refl c.unlink.ensures.whole c.unlink.ensures.long c.unlink.ensures.room c.unlink.ensures.unlinked
          (λ a e. absurd (none-some a e)) refl c.set_place.ensures.room (omega (arith, none));
      quiet = quiet_set _ _ c.in_ok-c.c (record { number = c.find_free.new.self.made; mark = Live; parent = None }) (slice_get_within _ _ _ free.at) set (λ e. none-some 1 e) c.find_free.ensures.settled.quiet;
    }

pub returns-clause-things : goal.returns-clause-things
returns-clause-things c = new_made c.args.self.now c.find_free.new.self _ c.in_ok-c.c c.find_free.ensures.settled.sound c.in_ok-c.ensures.some c.set_place.ensures.set c.find_free.ensures.budget c.find_free.ensures.made refl c.find_free.ensures.things

pub returns-clause-live : goal.returns-clause-live
returns-clause-live c =
    let free = c.in_ok-c.ensures.some in
    record {
      what = record { number = c.find_free.new.self.made; mark = Live; parent = None };
      at = ap (λ l. slice_get l c.in_ok-c.c) (c.set_place.ensures.set free.what free.at) ∙ get_same _ c.in_ok-c.c _ (slice_get_within _ _ _ free.at);
      is = refl;
    }
