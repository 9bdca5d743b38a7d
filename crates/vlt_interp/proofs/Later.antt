-- Where a run comes to: what was written stays, and where it ends it stays.
use Rattle.std.proofs.Common.{◌≡◌, List, [], ◌∷◌, ◌++◌, true, false, refl, sym, ap, ◌∙◌, append_assoc, append-nil}
use Rattle.vlt_core.specs.Core.{Stmts, loop, Func}
use Rattle.vlt_meaning.specs.World.{Frame, World, Event, Outcome}
use Rattle.vlt_meaning.specs.Step.{Step, goes, jumps, leaves, ends, then_do, then_turn, left_block}
use Rattle.vlt_meaning.specs.Calls.{back_in}
use Rattle.vlt_meaning.specs.Run.{Setup, focus_end}
use Rattle.vlt_meaning.specs.Does.{does}
use Rattle.vlt_meaning_laws.specs.Keeping.{world_after}
use Rattle.vlt_meaning_laws.specs.Laws.{does_one}
use Rattle.vlt_meaning_laws.proofs.Equations.{only_adds}
use Rattle.vlt_meaning_laws.proofs.Moves.{IsKept, To, back_to, left_to, focus_to, form_to}
use Rattle.vlt_meaning_laws.specs.Machine.Machine.{Task, list, closing, turn, unfocus, back, Conf, after_move}
use Rattle.vlt_meaning_laws.proofs.OfMachine.Finishing.{finishes, ending, moves_end}

-- events were only added
pub record Adds (w v : World) : Type 0 where
  pub events : List Event
  pub are : v.events ≡ w.events ++ events

adds_then : (u v w : World) → Adds u v → Adds v w → Adds u w
adds_then u v w a b = record {
  events = a.events ++ b.events;
  are = b.are ∙ ap (λ es. es ++ b.events) a.are ∙ append_assoc u.events a.events b.events;
}

adds_kept : IsKept Adds
adds_kept = record {
  same = λ w. record { events = []; are = sym (append-nil w.events) };
  objects = λ w v os k h. record { events = h.events; are = h.are };
  event = λ w v e h. record {
    events = h.events ++ e ∷ [];
    are = ap (λ es. es ++ e ∷ []) h.are ∙ append_assoc w.events h.events (e ∷ []);
  };
  fuel = λ w v h. record { events = h.events; are = h.are };
  input = λ w v z zs e h. record { events = h.events; are = h.are };
  answer = λ w v rest h. record { events = h.events; are = h.are };
}

module _ (r : Setup) (w0 : World) where
  does_to : (f : Func) (ss : Stmts) (frame : Frame) (w : World) → Adds w0 w → To Adds w0 (does r f ss frame w)
  does_to f ss frame w h =
      let k = only_adds r f ss frame w in
      record { kept = adds_then w0 w (world_after (does r f ss frame w)) h (record { events = k.events; are = k.added }) }

  then_to : (a : Step) (go : Frame → World → Step) → To Adds w0 a → ((frame : Frame) (w : World) → Adds w0 w → To Adds w0 (go frame w)) → To Adds w0 (then_do a go)
  unfolding then_do
  then_to (goes frame w) go h t = t frame w h.kept
  then_to (jumps c frame w) go h t = record { kept = h.kept }
  then_to (leaves a kept w) go h t = record { kept = h.kept }
  then_to (ends o w) go h t = record { kept = h.kept }

  turn_to : (a : Step) (go : Frame → World → Step) → To Adds w0 a → ((frame : Frame) (w : World) → Adds w0 w → To Adds w0 (go frame w)) → To Adds w0 (then_turn a go)
  unfolding then_turn
  turn_to (goes frame w) go h t = t frame w h.kept
  turn_to (jumps true frame w) go h t = t frame w h.kept
  turn_to (jumps false frame w) go h t = record { kept = h.kept }
  turn_to (leaves a kept w) go h t = record { kept = h.kept }
  turn_to (ends o w) go h t = record { kept = h.kept }

  finishes_to : (f : Func) (ts : List Task) (a : Step) → To Adds w0 a → To Adds w0 (finishes r f ts a)
  finishes_to f [] a h = h
  finishes_to f (list ss ∷ ts) a h = finishes_to f ts (then_do a (does r f ss)) (then_to a _ h (does_to f ss))
  finishes_to f (closing bound ∷ ts) a h = finishes_to f ts (left_block bound a) (left_to Adds adds_kept w0 bound a h)
  finishes_to f (turn e b ∷ ts) a h =
      finishes_to f ts (then_turn a (does_one r f (loop e b))) (turn_to a _ h (λ frame w k. form_to Adds adds_kept w0 r (does r) does_to f (loop e b) frame w k))
  finishes_to f (unfocus g q m n ∷ ts) a h = finishes_to f ts (focus_end r g q m n a) (focus_to Adds adds_kept w0 r g q m n a h)
  finishes_to f (back k ∷ ts) a h =
      finishes_to k.func ts (back_in k.func k.target k.keys f k.frame a) (back_to Adds adds_kept w0 k.func k.target k.keys f k.frame a h)

-- what a run writes from a configuration on comes after what it wrote
pub ending_adds : (r : Setup) (c : Conf) → Adds (world_after c.step) (world_after (ending r c))
ending_adds r c = (finishes_to r (world_after c.step) c.func c.tasks c.step (record { kept = adds_kept.same (world_after c.step) })).kept

-- a run that ended stays there
pub ends_stay : (r : Setup) (f : Func) (ts : List Task) (o : Outcome) (w : World) → finishes r f ts (ends o w) ≡ ends o w
unfolding then_do then_turn left_block focus_end back_in
ends_stay r f [] o w = refl
ends_stay r f (list ss ∷ ts) o w = ends_stay r f ts o w
ends_stay r f (closing bound ∷ ts) o w = ends_stay r f ts o w
ends_stay r f (turn e b ∷ ts) o w = ends_stay r f ts o w
ends_stay r f (unfocus g q m n ∷ ts) o w = ends_stay r f ts o w
ends_stay r f (back k ∷ ts) o w = ends_stay r k.func ts o w

pub moved_end : (r : Setup) (c : Conf) → ending r (after_move r c) ≡ ending r c
moved_end r c = moves_end r 1 c

-- where a move ends the run, the run comes to that end
pub ends_there : (r : Setup) (c : Conf) (o : Outcome) (w : World) → (after_move r c).step ≡ ends o w → ending r c ≡ ends o w
ends_there r c o w e = sym (moved_end r c) ∙ ap (finishes r (after_move r c).func (after_move r c).tasks) e ∙ ends_stay r (after_move r c).func (after_move r c).tasks o w
