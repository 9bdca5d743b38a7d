-- All calls of a host, one after another.
use Rattle.std.specs.Prelude.{ℕ, suc, ℤ, if◌then◌else◌, List, [], ◌∷◌, ◌++◌, Option, Some, None, slice_get}
use Rattle.vlt_core.specs.Core.{Func, Program}
use Rattle.vlt_meaning.specs.World.{World, Outcome}
use Rattle.vlt_meaning.specs.World as world
use Rattle.vlt_meaning.specs.Run.{Setup, start}
use Rattle.vlt_host_meaning.specs.Calls.{Argument, HostCall}
use Rattle.vlt_host_meaning.specs.EntryFunctions.{function_of_name}
use Rattle.vlt_host_meaning.specs.Permitted.{is_permitted}
use Rattle.vlt_host_meaning.specs.Lines.{held_line}
use Rattle.vlt_host_meaning.specs.OneCall.{CallEnd, came_back, stopped, host_calls}

-- how a run for a host ends
pub data HostOutcome : Type 0 where
  ended : Outcome → HostOutcome
  -- the call at this position, from 1, isn't permitted
  bad_call : (position : ℕ) → HostOutcome

-- how calls end, with what they have written: all come back, or one doesn't
pub data CallsEnd : Type 0 where
  all_came_back : (text : List ℕ) → World → CallsEnd
  broke_off : (text : List ℕ) → HostOutcome → World → CallsEnd

unfoldable pub after_text : List ℕ → CallsEnd → CallsEnd
after_text text (all_came_back more w) = all_came_back (text ++ more) w
after_text text (broke_off more o w) = broke_off (text ++ more) o w

-- after a call that came back the others follow
unfoldable pub then_calls : CallEnd → (World → CallsEnd) → CallsEnd
then_calls (stopped text o w) go = broke_off text (ended o) w
then_calls (came_back text a w) go = after_text text (go w)

-- the call at a position, of this function if it is permitted
unfoldable pub call_function : Setup → (position : ℕ) → (number : ℕ) → Option Func → List Argument → World →
    (World → CallsEnd) → CallsEnd
call_function r at i None args w go = broke_off [] (bad_call at) w
call_function r at i (Some f) args w go =
    if is_permitted r.program i f args w.objects then then_calls (host_calls r f args w) go
    else broke_off [] (bad_call at) w

unfoldable pub call_number : Setup → (position : ℕ) → (number : Option ℕ) → List Argument → World →
    (World → CallsEnd) → CallsEnd
call_number r at None args w go = broke_off [] (bad_call at) w
call_number r at (Some i) args w go = call_function r at i (slice_get r.program.fns i) args w go

-- calls of which the first has this position
abbrev pub after_calls : Setup → (position : ℕ) → List HostCall → World → CallsEnd
after_calls r at [] w = all_came_back [] w
after_calls r at (c ∷ cs) w =
    call_number r at (function_of_name c.name 0 r.program.fns) c.args w (λ w. after_calls r (suc at) cs w)

-- a whole run: how it ends, its text, and the world
pub record HostRan : Type 0 where
  pub outcome : HostOutcome
  pub text : List ℕ
  pub world : World

abbrev pub host_ran_of : Program → CallsEnd → HostRan
host_ran_of p (all_came_back text w) =
    record { outcome = ended world.done; text = text ++ held_line p w.objects; world = w }
host_ran_of p (broke_off text o w) = record { outcome = o; text = text; world = w }

-- the run of a program for a host that holds nothing at first
abbrev pub host_run : Program → (fuel heap depth : ℕ) → (input : List ℤ) → (answers : List (List ℤ)) →
    List HostCall → HostRan
host_run p fuel heap depth input answers calls =
    host_ran_of p
    (after_calls (record { program = p; heap = heap; depth = depth }) 1 calls (start fuel input answers))
