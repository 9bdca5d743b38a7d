use Rattle.std.proofs.Common.{rules, arith, ◌≤◌, length}
use Rattle.vlt_rings.proofs.Sounds.{all_live, grown_holds}
use Rattle.vlt_rings.proofs.Calls.{quiet_pushed, pushed_at}
use Rattle.vlt_rings.proofs.places.Places.find_free.Goals as goal

pub returns-then-c-self-clause-none : goal.returns-then-c-self-clause-none
returns-then-c-self-clause-none c =
    let live = all_live c.args.self.now.places.items c.in_default.ensures.none c.requires.settled.quiet in
    let many : c.args.self.now.budget ≤ length c.args.self.now.places.items = search rules in
    omega (arith, live, many)

pub returns-clause-settled : goal.returns-clause-settled
returns-clause-settled c = record { sound = c.grow.ensures.sound; quiet = rw (c.grow.ensures.places.is) (quiet_pushed _ _ c.grow.ensures.places.free c.requires.settled.quiet) }

pub returns-clause-some : goal.returns-clause-some
returns-clause-some c = record { what = c.grow.ensures.places.what; at = pushed_at _ _ _ c.grow.ensures.places (search rules); is = c.grow.ensures.places.free }

pub returns-clause-things : goal.returns-clause-things
returns-clause-things c = λ ts hold. rw (c.grow.ensures.places.is) (grown_holds _ _ c.grow.ensures.places.free ts hold)
