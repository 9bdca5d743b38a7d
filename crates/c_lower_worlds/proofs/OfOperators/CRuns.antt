-- What a run of a C program shows.
use Rattle.std.proofs.Common.{ℕ, ℤ, Bool, true, false, List}
use Rattle.c_syntax.specs.C.{Program}
use Rattle.c_meaning.specs.World.{Outcome, done, event_text}
use Rattle.c_meaning.specs.Primitives.{at_index, no_args, on_number, on_number_and_reference, on_numbers, on_reference, on_references, or_broken}
use Rattle.c_meaning.specs.Run.{after, back_in, call_found, enter, spend, then_do, then_turn, with_found, c_run}
use Rattle.c_lower_worlds.proofs.OfOperators.SourceRuns.{Seen}

abbrev is_done : Outcome → Bool
is_done done = true
is_done _ = false

unfoldable pub c_seen : Program → (fuel heap depth : ℕ) → List ℤ → List (List ℤ) → Seen
unfolding at_index no_args on_number on_number_and_reference on_numbers on_reference on_references or_broken after back_in call_found enter spend then_do then_turn with_found
c_seen p fuel heap depth input answers =
    let r = c_run p fuel heap depth input answers in
    record { is_done = is_done r.outcome; text = event_text r.world.events; fuel = r.world.fuel }
