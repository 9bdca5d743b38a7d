-- Clauses without a bound entry.
use Rattle.std.proofs.Common.{◌≡◌, inl, inr, ℕ, List, [], ◌∷◌, map, Option, Some, None, refl, sym, ap, ◌∙◌}
use Rattle.std.specs.Option.{option_map}
use Rattle.vlt_core.specs.Core.{Mode, kept, taken, given, fresh, up_to, Entry, Func, Program}
use Rattle.vlt_core.specs.Instances.{Bound, bound_at, or_else, bound_in, mode_of_instance, entry_of_instance, instance}
use Rattle.vlt_meaning.specs.World.{Object}
use Rattle.vlt_meaning.specs.Calls.{state_under}
use Rattle.vlt_sound_calls.specs.Among.{Among}
use Rattle.vlt_host_meaning.specs.Calls.{Argument}
use Rattle.vlt_host_meaning.specs.HostFrame.{host_frame}
use Rattle.vlt_host_meaning.specs.Permitted.{host_keys}
use Rattle.vlt_host_meaning.specs.OneCall.{host_instance}

pub not_bound : (es : List Entry) → bound_in es ≡ None → (e : Entry) (b : ℕ) → Among e es → e.mode ≡ up_to b → ⊥
not_bound [] plain e b i is = absurd i
not_bound (x ∷ es) plain e b (inl same) is = clash (sym (ap (λ m. or_else (bound_at x.key m) (bound_in es)) (ap (λ d. d.mode) (sym same) ∙ is)) ∙ plain)
  where
    clash : ◌≡◌ {A = Option Bound} (Some (record { key = x.key; state = b })) None → ⊥
    clash e = cc
not_bound (x ∷ es) plain e b (inr rest) is = by x.mode (λ r. not_bound es r e b rest is) plain
  where
    by : (m : Mode) → (bound_in es ≡ None → ⊥) → or_else (bound_at x.key m) (bound_in es) ≡ None → ⊥
    by kept more plain = more plain
    by taken more plain = more plain
    by given more plain = more plain
    by fresh more plain = more plain
    by (up_to c) more plain = cc

-- an instance for a state has none
pub instance_plain : (p : Program) (f : Func) (o : ℕ) → bound_in (instance p f (Some o)).clause ≡ None
instance_plain p f o = all f.clause
  where
    all : (es : List Entry) → bound_in (map (entry_of_instance p f o) es) ≡ None
    all [] = refl
    all (x ∷ es) = by x.mode (all es)
      where
        by : (m : Mode) → bound_in (map (entry_of_instance p f o) es) ≡ None →
            or_else (bound_at x.key (mode_of_instance m)) (bound_in (map (entry_of_instance p f o) es)) ≡ None
        by kept more = more
        by taken more = more
        by given more = more
        by fresh more = more
        by (up_to b) more = more

-- without a bound entry a host calls the function itself
pub called_itself : (p : Program) (f : Func) (args : List Argument) (os : List Object) → bound_in f.clause ≡ None → host_instance p f args os ≡ f
called_itself p f args os plain = ap (λ q. instance p f (option_map (λ b. state_under (host_keys f args os) (host_frame os) os b.key) q)) plain
