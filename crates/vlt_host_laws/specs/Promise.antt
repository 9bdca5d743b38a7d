-- What is promised of programs that break no rule, where a host calls their functions in any order.
use Rattle.std.specs.Prelude.{◌≡◌, ◌⊎◌, ℕ, ℤ, Bool, true, false, IsTrue, List, Option, Some, slice_get}
use Rattle.vlt_core.specs.Core.{Mode, up_to, Entry, Func, Program}
use Rattle.vlt_core.specs.Lookups.{is_held_after, is_new, after_set}
use Rattle.vlt_core.specs.Types.{stands_for}
use Rattle.vlt_meaning.specs.World.{reference, Value, one, Object, World, is_fault}
use Rattle.vlt_meaning.specs.Externals.{is_taken}
use Rattle.vlt_meaning.specs.Run.{start}
use Rattle.vlt_sound_worlds.specs.Look.{look}
use Rattle.vlt_sound_calls.specs.Among.{Among}
use Rattle.vlt_host_meaning.specs.Calls.{Argument, HostCall}
use Rattle.vlt_host_meaning.specs.HostFrame.{host_holds}
use Rattle.vlt_host_meaning.specs.Permitted.{host_keys, is_permitted}
use Rattle.vlt_host_meaning.specs.OneCall.{came_back, host_calls}
use Rattle.vlt_host_meaning.specs.HostRun.{HostOutcome, ended, bad_call, all_came_back, after_calls, host_run}
use Rattle.vlt_host_meaning.specs.HostClean.{IsHostClean}

abbrev pub is_host_fault : HostOutcome → Bool
is_host_fault (ended o) = is_fault o
is_host_fault (bad_call n) = false

-- no run ends in a fault, whatever the host calls
abbrev pub NeverGoesWrongForHosts : Program → Type 0
NeverGoesWrongForHosts p =
    (fuel heap depth : ℕ) (zs : List ℤ) (answers : List (List ℤ)) (calls : List HostCall) →
    is_host_fault (host_run p fuel heap depth zs answers calls).outcome ≡ false

-- ---- one call

abbrev pub Holds : List Object → (n : ℕ) → Type 0
Holds objects n = host_holds objects n ≡ true

-- an entry of the clause that isn't new, with the object that its key stands for
pub record IsEntryOf (f : Func) (args : List Argument) (objects : List Object) (e : Entry) (n : ℕ) : Type 0 where
  pub among : Among e f.clause
  pub old : is_new e ≡ false
  pub stands : stands_for (host_keys f args objects) e.key ≡ n

-- the object is one that the clause takes
pub record IsTaken (f : Func) (args : List Argument) (objects : List Object) (n : ℕ) : Type 0 where
  pub entry : Entry
  pub is : IsEntryOf f args objects entry n
  pub taken : is_taken entry ≡ true

-- the object of a new entry, to which the call gives a reference
pub record IsNewObject (f : Func) (result : Option Value) (e : Entry) (n : ℕ) : Type 0 where
  pub among : Among e f.clause
  pub new : is_new e ≡ true
  pub given : result ≡ Some (one (reference n))

-- The state in which a call leaves an entry's object that is held after it: of a bound entry the one before the call, else one of
-- the entry's set.
abbrev pub IsLeftIn : Program → Func → Entry → Mode → (before after : ℕ) → Type 0
IsLeftIn p f e (up_to b) s t = t ≡ s
IsLeftIn p f e _ s t = IsTrue (after_set p f e t)

-- What a call that came back changes of what the host holds: what the clause of the function says, and nothing else.
pub record ChangesByClause (p : Program) (f : Func) (args : List Argument) (result : Option Value) (old new : List Object)
    : Type 0 where
  -- it holds what it held, without what was taken, and the new object
  pub held : (n : ℕ) → Holds new n →
      (Holds old n × (IsTaken f args old n → ⊥)) ⊎ ((e : Entry) × IsNewObject f result e n)
  pub keeps : (n : ℕ) → Holds old n → (IsTaken f args old n → ⊥) → Holds new n
  pub gets : (e : Entry) (n : ℕ) → IsNewObject f result e n → Holds new n
  -- of each new entry it gives the object
  pub made : (e : Entry) → Among e f.clause → is_new e ≡ true → (n : ℕ) × IsNewObject f result e n
  -- objects of entries that are held after are in the states that the clause says
  pub states : (e : Entry) (n : ℕ) → IsEntryOf f args old e n → is_held_after e ≡ true →
      IsLeftIn p f e e.mode (look old n).state (look new n).state
  pub new_states : (e : Entry) (n : ℕ) → IsNewObject f result e n → IsTrue (after_set p f e (look new n).state)
  -- each other object that it held is in the state that it was in
  pub others : (n : ℕ) → Holds old n → ((e : Entry) → IsEntryOf f args old e n → ⊥) →
      (look new n).state ≡ (look old n).state

-- ---- all calls

-- all these calls come back, and come to this world
pub record ComesTo (p : Program) (heap depth : ℕ) (calls : List HostCall) (old new : World) : Type 0 where
  pub text : List ℕ
  pub is : after_calls (record { program = p; heap = heap; depth = depth }) 1 calls old ≡ all_came_back text new

-- after any calls that came back, one more that comes back changes what the host holds as the clause of its function says
abbrev pub KeepsClauses : Program → Type 0
KeepsClauses p =
    (fuel heap depth : ℕ) (zs : List ℤ) (answers : List (List ℤ)) (calls : List HostCall) (w : World) →
    ComesTo p heap depth calls (start fuel zs answers) w →
    (i : ℕ) (f : Func) (args : List Argument) → slice_get p.fns i ≡ Some f →
    is_permitted p i f args w.objects ≡ true →
    (text : List ℕ) (result : Option Value) (v : World) →
    host_calls (record { program = p; heap = heap; depth = depth }) f args w ≡ came_back text result v →
    ChangesByClause p f args result w.objects v.objects

-- after any calls that came back each object is released, out or held by the host, or below such a one
abbrev pub LeavesOnlyTheHosts : Program → Type 0
LeavesOnlyTheHosts p =
    (fuel heap depth : ℕ) (zs : List ℤ) (answers : List (List ℤ)) (calls : List HostCall) (w : World) →
    ComesTo p heap depth calls (start fuel zs answers) w → IsHostClean w.objects
