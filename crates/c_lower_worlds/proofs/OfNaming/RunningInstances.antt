-- The instance that a call runs has no bound entry.
use Rattle.std.proofs.Common.{◌≡◌, ℕ, List, [], ◌∷◌, map, Option, Some, None, refl}
use Rattle.std.specs.List.{list_any}
use Rattle.std.specs.Option.{option_map}
use Rattle.vlt_core.specs.Core as core
use Rattle.vlt_core.specs.Core.{Mode, Entry, Func, Program}
use Rattle.vlt_core.specs.Instances.{Bound, bound_at, or_else, bound_in, mode_of_instance, entry_of_instance, instance}
use Rattle.vlt_core.specs.Lookups.{is_fresh, is_new}

abbrev pub HasNoBound : Func → Type 0
HasNoBound f = bound_in f.clause ≡ None

pub none_bound : (p : Program) (f : Func) (o : ℕ) (es : List Entry) → bound_in (map (entry_of_instance p f o) es) ≡ None
none_bound p f o [] = refl
none_bound p f o (e ∷ es) = by e.mode (none_bound p f o es)
  where
    by : (m : Mode) → bound_in (map (entry_of_instance p f o) es) ≡ None → or_else (bound_at e.key (mode_of_instance m)) (bound_in (map (entry_of_instance p f o) es)) ≡ None
    by core.kept h = h
    by core.taken h = h
    by core.given h = h
    by core.fresh h = h
    by (core.up_to b) h = h

-- for the state of the bound entry's object, where there is such an entry
abbrev pub instance_for : Program → Func → (state : Bound → ℕ) → Func
instance_for p f state = instance p f (option_map state (bound_in f.clause))

pub runs_unbound : (p : Program) (f : Func) (state : Bound → ℕ) → HasNoBound (instance_for p f state)
runs_unbound p f state = by (bound_in f.clause) refl
  where
    by : (b : Option Bound) → bound_in f.clause ≡ b → HasNoBound (instance p f (option_map state b))
    by None e = e
    by (Some b) e = none_bound p f (state b) f.clause

pub new_of : (m : Mode) → is_fresh (mode_of_instance m) ≡ is_fresh m
new_of core.kept = refl
new_of core.taken = refl
new_of core.given = refl
new_of core.fresh = refl
new_of (core.up_to b) = refl

pub any_new_instance : (p : Program) (f : Func) (o : Option ℕ) → list_any is_new (instance p f o).clause ≡ list_any is_new f.clause
any_new_instance p f None = refl
any_new_instance p f (Some o) = all f.clause
  where
    all : (es : List Entry) → list_any is_new (map (entry_of_instance p f o) es) ≡ list_any is_new es
    all [] = refl
    all (e ∷ es) = rw (new_of e.mode, all es) refl
