-- What a function leaves to the one that called it, and what callers count on.
use Rattle.std.specs.Prelude.{◌≡◌, ℕ, ◌≤◌, ◌<◌, false, IsTrue, List, [], ◌∷◌, length, Option, None, Some, slice_get, nat_lt, ◌||◌, not, Bool, true}
use Rattle.vlt_core.specs.Core.{Ty, Entry, Func, Program}
use Rattle.vlt_core.specs.Lookups.{key_type, after_set}
use Rattle.vlt_core.specs.Instances.{instance, IsOrigin}
use Rattle.vlt_core.specs.Maps.{HeldMap}
use Rattle.vlt_core.specs.Derives.{start_map}
use Rattle.vlt_core.specs.KindedHeads.{has, keys_of_parameters}
use Rattle.vlt_core.specs.KindedScopes.{Ids}
use Rattle.vlt_core.specs.KindedBodies.{first_ids}
use Rattle.vlt_meaning.specs.World as world
use Rattle.vlt_meaning.specs.World.{Value, Object, Frame, World}
use Rattle.vlt_meaning.specs.Calls.{entries_after}
use Rattle.vlt_meaning.specs.Run.{Setup, Meaning}
use Rattle.vlt_sound_worlds.specs.Look.{look}
use Rattle.vlt_sound_worlds.specs.Members.{In, IsOnce}
use Rattle.vlt_sound_worlds.specs.Roots.{owned_by}
use Rattle.vlt_sound_worlds.specs.Keys.{IsUnder}
use Rattle.vlt_sound_worlds.specs.Scene.{Scene}
use Rattle.vlt_sound_worlds.specs.Fits.{Names, Fits}
use Rattle.vlt_sound_worlds.specs.Agrees.{Handed, values_of, Context, WaitsWell, scene, Agrees}
use Rattle.vlt_sound_worlds.specs.Safe.{Goal, Safe}
use Rattle.vlt_sound_worlds.specs.Scoped.{IsScoped}

-- ---- where a function begins

-- The keys that name the same all the time: those of the parameters' types, and numbers that are no keys of the function.
abbrev pub is_lasting : Func → (k : ℕ) → Bool
is_lasting f k = has (keys_of_parameters f) k || not (nat_lt k (length f.keys))

-- What is known of a function's context without a run, open foci and pinned keys aside: no deeper frame has anything, the
-- head is that of the parameters, and its keys name objects of their types.
pub record IsEntered (p : Program) (f : Func) (c : Context) : Type 0 where
  pub flat : c.deepest ≡ c.depth
  pub free : (d v : ℕ) → c.depth ≤ d → owned_by ((c.waiting d).frame.vars v) ≡ []
  pub head : (k : ℕ) → c.head k ≡ is_lasting f k
  pub beyond : (k : ℕ) → nat_lt k (length f.keys) ≡ false → c.names k ≡ None
  -- as long as what is known of the waiting functions holds
  pub typed : (s : Scene) → ((d : ℕ) → d < c.depth → WaitsWell p s (c.waiting d) d) → (k t n : ℕ) →
      has (keys_of_parameters f) k ≡ true → key_type f k ≡ Some t → c.names k ≡ Some n → (look s.objects n).type ≡ t

-- ---- where it ends

-- the object that is given back for an entry of the clause: the frame still holds it, in a state of the entry's
pub record IsKept (p : Program) (f : Func) (depth : ℕ) (names : Names) (os : ℕ → Object) (e : Entry)
    (n : ℕ) : Type 0 where
  pub named : names e.key ≡ Some n
  pub key : ℕ
  pub owned : (os n).owner ≡ world.held depth key
  pub state : IsTrue (after_set p f e (os n).state)

abbrev pub AreKept : Program → Func → (depth : ℕ) → Names → (ℕ → Object) → List Entry → List ℕ → Type 0
AreKept p f d names os [] [] = Unit {0}
AreKept p f d names os (e ∷ es) (n ∷ ns) = IsKept p f d names os e n × AreKept p f d names os es ns
AreKept p f d names os _ _ = ⊥

abbrev pub FitsResult : Program → Scene → Names → Option Ty → Option Value → Type 0
FitsResult p s names None a = a ≡ None
FitsResult p s names (Some ty) a = (v : Value) × (a ≡ Some v) × Fits p s names ty v

-- A function of this context has left, with this value and these objects of its clause: it has nothing else.
pub record Returned (p : Program) (f : Func) (c : Context) (a : Option Value) (given : List ℕ) (w : World) : Type 0 where
  pub map : HeldMap
  pub ids : Ids
  pub hand : List Handed
  pub frame : Frame
  pub agrees : Agrees p f c map ids hand frame w.objects
  -- no variable owns anything, and what is handed over is the value's
  pub emptied : (v : ℕ) → owned_by (frame.vars v) ≡ []
  pub owns : values_of hand ≡ owned_by a
  -- what the keys of the clause and of the result name, a new key's object too
  pub names : Names
  pub named : (k : ℕ) → IsTrue (c.head k) → names k ≡ c.names k
  pub value : FitsResult p (scene c w.objects agrees.heads) names f.result a
  pub kept : AreKept p f c.depth names (look w.objects) (entries_after f) given
  pub once : IsOnce given
  pub only : (n k : ℕ) → IsUnder c.depth k (look w.objects n).owner → In n given

abbrev pub returns_to : Program → Func → Context → Goal
returns_to p f c = record {
  goes = λ frame w. ⊥;
  jumps = λ continues frame w. ⊥;
  leaves = λ a given w. Returned p f c a given w;
}

-- ---- callees

-- What comes after a unit of fuel was spent is safe for this body, from where a call leaves it.
abbrev pub IsSafeCallee : Setup → Meaning → Func → Type 0
IsSafeCallee r rest_of g = (c : Context) (frame : Frame) (w : World) →
    IsEntered r.program g c → IsScoped g c (first_ids r.program g) →
    Agrees r.program g c (start_map r.program g) (first_ids r.program g) [] frame w.objects →
    Safe (returns_to r.program g c) (rest_of g g.body frame w)

-- and for each body of a program, in each instance
pub record CalleesAreSafe (r : Setup) (rest_of : Meaning) : Type 0 where
  pub each : (i : ℕ) (g : Func) (o : Option ℕ) → slice_get r.program.fns i ≡ Some g → g.external ≡ false →
      IsOrigin r.program g o → IsSafeCallee r rest_of (instance r.program g o)
