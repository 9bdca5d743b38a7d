-- When a held map and a scope tell the truth about a running function: the fact that each step keeps.
use Rattle.std.specs.Prelude.{◌≡◌, ℕ, ◌≤◌, ◌<◌, Bool, true, false, IsTrue, List, [], ◌∷◌, Option, None, Some}
use Rattle.std.specs.List.{flat_map}
use Rattle.vlt_core.specs.Core.{Ty, a_key, a_var, FieldDecl, Func, Program}
use Rattle.vlt_core.specs.Lookups.{var_type, is_owning, is_owning_var, key_type, fields_of, all_states, release_set}
use Rattle.vlt_core.specs.Types.{is_droppable_struct}
use Rattle.vlt_core.specs.Maps.{Status, absent, held, lent, full, HeldMap}
use Rattle.vlt_core.specs.KindedHeads.{has}
use Rattle.vlt_core.specs.KindedScopes.{Ids}
use Rattle.vlt_meaning.specs.World.{Value, objects_in, adopted_by, Object, Frame}
use Rattle.vlt_meaning.specs.World as world
use Rattle.vlt_sound_worlds.specs.Look.{look, IsLive}
use Rattle.vlt_sound_worlds.specs.Ranks.{IsRanked}
use Rattle.vlt_sound_worlds.specs.Placed.{IsPlaced}
use Rattle.vlt_sound_worlds.specs.Roots.{Stock, owned_by, content, home, owner_of}
use Rattle.vlt_sound_worlds.specs.Keys.{KeyAgrees, IsUnder}
use Rattle.vlt_sound_worlds.specs.Scene.{Focus, Scene}
use Rattle.vlt_sound_worlds.specs.Fits.{Names, names_of, Fits}

-- ---- objects, each by itself

abbrev pub FitCells : Program → Scene → Names → List FieldDecl → List Value → Type 0
FitCells p s names [] [] = Unit {0}
FitCells p s names (d ∷ ds) (a ∷ cells) = Fits p s names d.ty a × FitCells p s names ds cells
FitCells p s names _ _ = ⊥

-- an object that isn't released has a value for each field of its type, and a state of it
pub record ObjectFits (p : Program) (s : Scene) (n : ℕ) : Type 0 where
  pub cells : FitCells p s (names_of (s.heads n)) (fields_of p (look s.objects n).type) (look s.objects n).cells
  pub state : IsTrue (all_states p (look s.objects n).type (look s.objects n).state)

-- an adopted object may be released, with all below it
pub record IsAdoptable (p : Program) (o : Object) : Type 0 where
  pub released : IsTrue (release_set p o.type o.state)
  pub droppable : is_droppable_struct p o.type ≡ true

-- ---- variables

-- an owning variable has a value just where its token is full
abbrev pub HasVar : (is_owning : Bool) → Status → Option Value → Type 0
HasVar o full a = (v : Value) × (a ≡ Some v)
HasVar o absent a = o ≡ true → a ≡ None
HasVar o (held s) a = ⊥
HasVar o (lent s) a = ⊥

abbrev pub InScope : Ids → ℕ → Type 0
InScope ids v = has ids.vars v ≡ true

-- the variables in scope
pub record VarsFit (p : Program) (f : Func) (ids : Ids) (s : Scene) (names : Names)
    (vars : ℕ → Option Value) : Type 0 where
  -- a value fits the variable's type
  pub fit : (v : ℕ) (ty : Ty) (a : Value) → InScope ids v → var_type f v ≡ Some ty → vars v ≡ Some a →
      Fits p s names ty a
  -- one that doesn't own has a value
  pub there : (v : ℕ) (ty : Ty) → InScope ids v → var_type f v ≡ Some ty → is_owning ty ≡ false →
      (a : Value) × (vars v ≡ Some a)

pub record VarsAgree (f : Func) (h : HeldMap) (vars : ℕ → Option Value) : Type 0 where
  -- of a type that owns nothing, whether in scope or not
  pub plain : (v : ℕ) → is_owning_var f v ≡ false → owned_by (vars v) ≡ []
  pub full : (v : ℕ) → HasVar (is_owning_var f v) (h (a_var v)) (vars v)

-- ---- what is just handed over

pub record Handed : Type 0 where
  pub value : Value
  pub type : Ty

abbrev pub values_of : List Handed → List ℕ
values_of = flat_map (λ q. objects_in q.value)

abbrev pub FitHanded : Program → Scene → Names → List Handed → Type 0
FitHanded p s names [] = Unit {0}
FitHanded p s names (q ∷ qs) = Fits p s names q.type q.value × FitHanded p s names qs

-- ---- what stands around

-- a function that waits for a call's return, and what is known of it meanwhile
pub record Waiting : Type 0 where
  pub func : Func
  pub map : HeldMap
  pub ids : Ids
  pub frame : Frame

-- a key that names the same object all the time
pub record Pin : Type 0 where
  pub key : ℕ
  pub number : ℕ

-- The depth of the running frame, the greatest depth of a key that has an object, the keys of the function's head with
-- what they named at its start, open foci, pinned keys, and the waiting functions by depth.
pub record Context : Type 0 where
  pub depth : ℕ
  pub deepest : ℕ
  pub head : ℕ → Bool
  pub names : Names
  pub foci : List Focus
  pub pins : List Pin
  pub waiting : ℕ → Waiting

-- each open focus has lent its guard
abbrev pub FociAgree : (ℕ → Object) → List Focus → Type 0
FociAgree os [] = Unit {0}
FociAgree os (q ∷ qs) = ((os q.guard).owner ≡ world.lent q.depth q.guard_key) × FociAgree os qs

abbrev pub PinsAgree : Names → List Pin → Type 0
PinsAgree names [] = Unit {0}
PinsAgree names (q ∷ qs) = (names q.key ≡ Some q.number) × PinsAgree names qs

pub record WaitsWell (p : Program) (s : Scene) (a : Waiting) (d : ℕ) : Type 0 where
  pub depth : a.frame.depth ≡ d
  pub keys : (k : ℕ) → KeyAgrees (key_type a.func k) (a.map (a_key k)) d k (a.frame.keys k) (look s.objects)
  pub vars : VarsFit p a.func a.ids s a.frame.keys a.frame.vars

pub record RestAgrees (p : Program) (x : Context) (s : Scene) (frame : Frame) : Type 0 where
  pub depth : frame.depth ≡ x.depth
  pub within : x.depth ≤ x.deepest
  pub named : (k : ℕ) → IsTrue (x.head k) → frame.keys k ≡ x.names k
  pub bounded : (n d k : ℕ) → IsUnder d k (look s.objects n).owner → d ≤ x.deepest
  pub focused : FociAgree (look s.objects) x.foci
  pub pinned : PinsAgree frame.keys x.pins
  pub waits : (d : ℕ) → d < x.depth → WaitsWell p s (x.waiting d) d

-- ---- all

abbrev pub scene : Context → List Object → (ℕ → List (Option ℕ)) → Scene
scene x os heads = record { objects = os; heads = heads; foci = x.foci }

abbrev pub stock : Context → List Handed → Frame → List Object → Stock
stock x hand frame os = record {
  vars = frame.vars;
  hand = values_of hand;
  waits = λ d. (x.waiting d).frame.vars;
  objects = look os;
}

pub record Agrees (p : Program) (f : Func) (x : Context) (h : HeldMap) (ids : Ids) (hand : List Handed)
    (frame : Frame) (os : List Object) : Type 0 where
  -- what stood for each object's header when it was made
  pub heads : ℕ → List (Option ℕ)
  pub placed : IsPlaced (content (stock x hand frame os)) home (owner_of (look os))
  pub ranked : IsRanked (look os)
  pub objects : (n : ℕ) → IsLive (look os) n → ObjectFits p (scene x os heads) n
  pub adopted : (n g : ℕ) → (look os n).owner ≡ adopted_by g → IsAdoptable p (look os n)
  pub keys : (k : ℕ) → KeyAgrees (key_type f k) (h (a_key k)) frame.depth k (frame.keys k) (look os)
  pub vars : VarsAgree f h frame.vars
  pub fit : VarsFit p f ids (scene x os heads) frame.keys frame.vars
  pub handed : FitHanded p (scene x os heads) frame.keys hand
  pub rest : RestAgrees p x (scene x os heads) frame
