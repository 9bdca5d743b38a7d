-- How many moves are left, as a measure of the machine's loop.
use Rattle.std.proofs.Common.{Bool, true, false, ◌≡◌, ℕ, zero, suc, ◌<◌, refl, sym, ap, arith}
use Rattle.std.proofs.lemmas.Bool.{false≢true}
use Rattle.c_meaning.specs.World.{Outcome, World}
use Rattle.c_meaning.specs.Run.{Setup}
use Rattle.c_machine.specs.Machine.{Conf, Next, goes, stops, move_of, once, moves}

is_stop : Next → Bool
is_stop (goes c) = false
is_stop (stops o w) = true

not_stopped : (c : Conf) (o : Outcome) (w : World) → goes c ≡ stops o w → ⊥
unfolding is_stop
not_stopped c o w e = false≢true (ap is_stop e)

module _ (r : Setup) where
  -- the moves up to the stop, at most so many
  abbrev pub left : ℕ → Next → ℕ
  left zero x = 0
  left (suc k) (stops o w) = 0
  left (suc k) (goes c) = suc (left k (move_of r c.tasks c.state))

  pub stopped_stays : (k : ℕ) (o : Outcome) (w : World) → moves r k (stops o w) ≡ stops o w
  stopped_stays zero o w = refl
  stopped_stays (suc k) o w = stopped_stays k o w

  left_stopped : (k : ℕ) (o : Outcome) (w : World) → left k (stops o w) ≡ 0
  left_stopped zero o w = refl
  left_stopped (suc k) o w = refl

  -- one move more to look at changes nothing, where the machine stops before
  left_same : (k : ℕ) (x : Next) (o : Outcome) (w : World) → moves r k x ≡ stops o w → left (suc k) x ≡ left k x
  left_same k (stops q v) o w e = sym (left_stopped k q v)
  left_same zero (goes c) o w e = absurd (not_stopped c o w e)
  left_same (suc k) (goes c) o w e = ap suc (left_same k (move_of r c.tasks c.state) o w e)

  -- each move leaves fewer, where so many moves lead to the stop
  pub fewer_left : (k : ℕ) (c : Conf) (o : Outcome) (w : World) → moves r k (goes c) ≡ stops o w → left k (move_of r c.tasks c.state) < left k (goes c)
  fewer_left zero c o w e = absurd (not_stopped c o w e)
  fewer_left (suc k) c o w e = let s = left_same k (move_of r c.tasks c.state) o w e in omega (arith, s)

  stops_on : (k : ℕ) (x : Next) (o : Outcome) (w : World) → moves r k x ≡ stops o w → moves r k (once r x) ≡ stops o w
  stops_on zero x o w e = ap (once r) e
  stops_on (suc k) x o w e = stops_on k (once r x) o w e

  -- and they lead to the stop from the next place too
  pub still_stops : (k : ℕ) (c : Conf) (o : Outcome) (w : World) → moves r k (goes c) ≡ stops o w → moves r k (move_of r c.tasks c.state) ≡ stops o w
  still_stops k c o w e = stops_on k (goes c) o w e
