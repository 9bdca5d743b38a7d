-- Functions whose clause keeps a key in any state up to a bound: the instance for each state that the key's object can have.
use Rattle.std.specs.Prelude.{◌≡◌, ℕ, ◌==◌, ◌&&◌, IsTrue, List, [], ◌∷◌, map, filter, Option, Some, None, slice_get}
use Rattle.std.specs.List.{range_with_len}
use Rattle.vlt_core.specs.Core.{States, Mode, kept, up_to, Entry, Func, Program}
use Rattle.vlt_core.specs.Lookups.{state_count, key_type, key_states_up_to}

-- an entry's key with the state that bounds it
pub record Bound : Type 0 where
  pub key : ℕ
  pub state : ℕ

abbrev pub bound_at : (key : ℕ) → Mode → Option Bound
bound_at k (up_to b) = Some (record { key = k; state = b })
bound_at k _ = None

abbrev pub or_else : Option Bound → Option Bound → Option Bound
or_else (Some x) y = Some x
or_else None y = y

-- the first entry of a clause that is bound; the rules on names and types want no second one
abbrev pub bound_in : List Entry → Option Bound
bound_in [] = None
bound_in (e ∷ es) = or_else (bound_at e.key e.mode) (bound_in es)

-- no function of the program has a bound entry
abbrev pub HasNoBounds : Program → Type 0
HasNoBounds p = (i : ℕ) (f : Func) → slice_get p.fns i ≡ Some f → bound_in f.clause ≡ None

-- ---- instances

abbrev pub mode_of_instance : Mode → Mode
mode_of_instance (up_to b) = kept
mode_of_instance m = m

-- the one state, if it is within the bound
abbrev pub origin_states : Program → Func → (key origin : ℕ) → Mode → Option States → Option States
origin_states p f k o (up_to b) side = Some (λ s. s == o && key_states_up_to p f k b s)
origin_states p f k o _ side = side

-- a bound entry's key is kept in the one state
abbrev pub entry_of_instance : Program → Func → (origin : ℕ) → Entry → Entry
entry_of_instance p f o e = record {
  mode = mode_of_instance e.mode;
  key = e.key;
  before = origin_states p f e.key o e.mode e.before;
  after = origin_states p f e.key o e.mode e.after;
}

abbrev pub clause_of_instance : Program → Func → (origin : Option ℕ) → List Entry → List Entry
clause_of_instance p f None es = es
clause_of_instance p f (Some o) es = map (entry_of_instance p f o) es

abbrev pub entry_in : Program → Func → (origin : Option ℕ) → Entry → Entry
entry_in p f None e = e
entry_in p f (Some o) e = entry_of_instance p f o e

-- the origin is a state up to the bound, where the entry is bound
abbrev pub IsWithinBound : Program → Func → (origin : Option ℕ) → Entry → Type 0
IsWithinBound p f None e = Unit {0}
IsWithinBound p f (Some o) e = (b : ℕ) → e.mode ≡ up_to b → IsTrue (key_states_up_to p f e.key b o)

-- The function for calls with the object of the bound entry's key in this state: a function without such an entry. One that
-- has none anyway is its only instance.
abbrev pub instance : Program → Func → (origin : Option ℕ) → Func
instance p f o = record f { clause = clause_of_instance p f o f.clause }

-- the function is an instance of the program's function of this number
pub record IsInstanceOf (p : Program) (number : ℕ) (f : Func) : Type 0 where
  pub declared : Func
  pub origin : Option ℕ
  pub at : slice_get p.fns number ≡ Some declared
  pub is : instance p declared origin ≡ f

-- the states that a bound entry's object can have, and nothing for a function without such an entry
abbrev pub IsOriginOf : Program → Func → Option Bound → Option ℕ → Type 0
IsOriginOf p f None None = Unit {0}
IsOriginOf p f (Some b) (Some o) = IsTrue (key_states_up_to p f b.key b.state o)
IsOriginOf p f _ _ = ⊥

abbrev pub IsOrigin : Program → Func → (origin : Option ℕ) → Type 0
IsOrigin p f o = IsOriginOf p f (bound_in f.clause) o

-- the same in ascending order
abbrev pub origins : Program → Func → List (Option ℕ)
origins p f = of_bound (bound_in f.clause)
  where
    states_in : (key state : ℕ) → Option ℕ → List ℕ
    states_in k b None = []
    states_in k b (Some t) = filter (key_states_up_to p f k b) (range_with_len 0 (state_count p t))

    of_bound : Option Bound → List (Option ℕ)
    of_bound None = None ∷ []
    of_bound (Some b) = map Some (states_in b.key b.state (key_type f b.key))
