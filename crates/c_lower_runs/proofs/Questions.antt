-- Glue reports the call to the host, and takes the answer.
use Rattle.std.proofs.Common.{◌≡◌, ◌≤◌, ◌<◌, ℕ, ◌+◌, nat_lt, true, false, if◌then◌else◌, ℤ, List, [], ◌∷◌, ◌++◌, map, length, Some, refl, sym, ap, ◌∙◌, subst, arith, append_assoc, length-append, append-nil}
use Rattle.std.proofs.lemmas.Bool.Decides.{nat_tests}
use Rattle.std.proofs.lemmas.Bool.{true≢false}
use Rattle.vlt_core.specs.Core as core
use Rattle.vlt_core.specs.Core.{Ty, Func, Program}
use Rattle.vlt_meaning.specs.World as source
use Rattle.c_syntax.specs.declared.program.CVar.{CVar}
use Rattle.c_syntax.specs.declared.program.CPrim.TheVariants as prim
use Rattle.c_syntax.specs.C as syntax
use Rattle.c_syntax.specs.C.{Stmt}
use Rattle.c_meaning.specs.World as cw
use Rattle.c_meaning.specs.World.{World, Told, told_number, told_block}
use Rattle.c_meaning.specs.Primitives.{or_broken, on_number, on_reference, no_args}
use Rattle.c_meaning.specs.Run.{Setup, Meaning, Frame, goes, stops}
use Rattle.c_lower.specs.Slots.{Numbers, vars_at, slot_sorts, slot_of, first_slot}
use Rattle.c_lower.specs.Statements.{runtime_call, is_variant}
use Rattle.c_lower.specs.Glue.{argument_call, params_of, question}
use Rattle.c_lower_worlds.specs.Worlds.{told_part}
use Rattle.c_lower_worlds.specs.Shapes.{HasShape}
use Rattle.c_lower_worlds.proofs.StatementLists.{Runs, runs_then, call_runs, call_stops}

-- what is reported to the host is in the slot
abbrev pub Tell : CVar → Told → Frame → Type 0
Tell v (told_number z) f = (v.reference ≡ false) × (f.vars v ≡ Some (cw.number z))
Tell v (told_block n) f = (v.reference ≡ true) × (f.vars v ≡ Some (cw.reference (Some n)))

abbrev pub Tells : (ℕ → CVar) → List ℕ → List Told → Frame → Type 0
Tells slot [] [] f = Unit {0}
Tells slot (x ∷ xs) (t ∷ ts) f = Tell (slot x) t f × Tells slot xs ts f
Tells slot _ _ f = ⊥

-- a call under way, of which this was reported
abbrev pub telling : World → (name : List ℕ) → List Told → World
telling w name args = record w { talk = cw.calling name args }

-- the call is among the events
abbrev pub told : World → (name : List ℕ) → List Told → World
told w name args = record w { events = w.events ++ cw.called name args ∷ [] }

abbrev pub asked : World → (name : List ℕ) → List Told → List ℤ → List (List ℤ) → World
asked w name args a rest = record w { events = w.events ++ cw.called name args ∷ []; answers = rest; taken = w.taken + 1; talk = cw.reading a }

module _ (R : Setup) (rest_of : Meaning) where
  one_told : (v : CVar) (t : Told) (f : Frame) (w : World) (name : List ℕ) (args : List Told) → Tell v t f → length args < 16 →
      Runs R rest_of (argument_call v ∷ []) f (telling w name args) (goes f (telling w name (args ++ t ∷ [])))
  unfolding on_number on_reference or_broken
  one_told v (told_number z) f w name args h l =
      subst (λ b. Runs R rest_of (runtime_call (if b then prim.ArgP else prim.ArgN) (syntax.variable v ∷ []) ∷ []) f (telling w name args) (goes f (telling w name (args ++ told_number z ∷ [])))) (sym h.0)
      (call_runs R rest_of prim.ArgN (syntax.variable v ∷ []) f (telling w name args) (telling w name (args ++ told_number z ∷ [])) (rw (h.1, few) refl))
    where
      few : nat_lt (length args) 16 ≡ true
      few = grind (arith, nat_tests)
  one_told v (told_block n) f w name args h l =
      subst (λ b. Runs R rest_of (runtime_call (if b then prim.ArgP else prim.ArgN) (syntax.variable v ∷ []) ∷ []) f (telling w name args) (goes f (telling w name (args ++ told_block n ∷ [])))) (sym h.0)
      (call_runs R rest_of prim.ArgP (syntax.variable v ∷ []) f (telling w name args) (telling w name (args ++ told_block n ∷ [])) (rw (h.1, few) refl))
    where
      few : nat_lt (length args) 16 ≡ true
      few = grind (arith, nat_tests)

  all_told : (slot : ℕ → CVar) (xs : List ℕ) (ts : List Told) (f : Frame) (w : World) (name : List ℕ) (args : List Told) → Tells slot xs ts f →
      length args + length ts ≤ 16 → Runs R rest_of (map (λ x. argument_call (slot x)) xs) f (telling w name args) (goes f (telling w name (args ++ ts)))
  all_told slot [] [] f w name args h l = λ n. ap (λ args. goes f (telling w name args)) (sym (append-nil args))
  all_told slot [] (t ∷ ts) f w name args h l = absurd h
  all_told slot (x ∷ xs) [] f w name args h l = absurd h
  all_told slot (x ∷ xs) (t ∷ ts) f w name args h l =
      subst (λ all. Runs R rest_of (map (λ x. argument_call (slot x)) (x ∷ xs)) f (telling w name args) (goes f (telling w name all))) (append_assoc args (t ∷ []) ts)
      (runs_then R rest_of (argument_call (slot x) ∷ []) (map (λ x. argument_call (slot x)) xs) f f (telling w name args) (telling w name (args ++ t ∷ [])) (goes f (telling w name (args ++ t ∷ [] ++ ts)))
      (one_told (slot x) t f w name args h.0 (omega arith))
      (all_told slot xs ts f w name (args ++ t ∷ []) h.1 (let e = length-append args (t ∷ []) in omega arith)))

  -- where a call ends up whose host has these answers
  abbrev pub AsksTo : List Stmt → Frame → World → (name : List ℕ) → List Told → List (List ℤ) → Type 0
  AsksTo xs f w name ts [] = Runs R rest_of xs f w (stops cw.answers_end (telling (told w name ts) name ts))
  AsksTo xs f w name ts (a ∷ rest) = Runs R rest_of xs f w (goes f (asked w name ts a rest))

  pub question_asks : (p : Program) (fn : Func) (ts : List Told) (f : Frame) (w : World) → w.talk ≡ cw.idle → Tells (slot_of p fn) (params_of fn) ts f → length ts ≤ 16 →
      AsksTo (question p fn) f w fn.name ts w.answers
  unfolding no_args
  question_asks p fn ts f w idle h l = by w.answers refl
    where
      args : List Stmt
      args = map (λ v. argument_call (slot_of p fn v)) (params_of fn)

      called : Runs R rest_of (runtime_call prim.Call (syntax.text fn.name ∷ []) ∷ []) f w (goes f (telling w fn.name []))
      called = call_runs R rest_of prim.Call (syntax.text fn.name ∷ []) f w (telling w fn.name []) (rw idle refl)

      all : Runs R rest_of (runtime_call prim.Call (syntax.text fn.name ∷ []) ∷ args) f w (goes f (telling w fn.name ts))
      all = runs_then R rest_of (runtime_call prim.Call (syntax.text fn.name ∷ []) ∷ []) args f f w (telling w fn.name []) (goes f (telling w fn.name ts)) called
          (all_told (slot_of p fn) (params_of fn) ts f w fn.name [] h (omega arith))

      by : (answers : List (List ℤ)) → w.answers ≡ answers → AsksTo (question p fn) f w fn.name ts answers
      by [] e = runs_then R rest_of (runtime_call prim.Call (syntax.text fn.name ∷ []) ∷ args) (runtime_call prim.Ask [] ∷ []) f f w (telling w fn.name ts) (stops cw.answers_end (telling (told w fn.name ts) fn.name ts)) all
          (call_stops R rest_of prim.Ask [] f (telling w fn.name ts) (telling (told w fn.name ts) fn.name ts) cw.answers_end (rw e refl))
      by (a ∷ rest) e = runs_then R rest_of (runtime_call prim.Call (syntax.text fn.name ∷ []) ∷ args) (runtime_call prim.Ask [] ∷ []) f f w (telling w fn.name ts) (goes f (asked w fn.name ts a rest)) all
          (call_runs R rest_of prim.Ask [] f (telling w fn.name ts) (asked w fn.name ts a rest) (rw e refl))

-- ---- the arguments

-- the slot is of the kind of its part
pub tells_part : (p : Program) (types : List ℕ) (ty : Ty) (a : source.Part) (t : Numbers) (f : Frame) → is_variant (Some ty) ≡ false → HasShape p types ty (source.one a) →
    f.vars (first_slot (vars_at t (slot_sorts p ty))) ≡ Some (Rattle.c_lower_worlds.specs.Worlds.c_part a) → Tell (first_slot (vars_at t (slot_sorts p ty))) (told_part a) f
tells_part p types ty a t f plain h e = by ty plain h e
  where
    part : (b : source.Part) → source.one a ≡ source.one b → a ≡ b
    part b e = cc

    by : (ty : Ty) → is_variant (Some ty) ≡ false → HasShape p types ty (source.one a) →
        f.vars (first_slot (vars_at t (slot_sorts p ty))) ≡ Some (Rattle.c_lower_worlds.specs.Worlds.c_part a) → Tell (first_slot (vars_at t (slot_sorts p ty))) (told_part a) f
    by core.int pl h e = let q = part h.part h.is ∙ h.shape.is in subst (λ a. Tell (first_slot (vars_at t (slot_sorts p core.int))) (told_part a) f) (sym q) (refl, e ∙ ap (λ a. Some (Rattle.c_lower_worlds.specs.Worlds.c_part a)) q)
    by core.bool pl h e = let q = part h.part h.is ∙ h.shape.is in subst (λ a. Tell (first_slot (vars_at t (slot_sorts p core.bool))) (told_part a) f) (sym q) (refl, e ∙ ap (λ a. Some (Rattle.c_lower_worlds.specs.Worlds.c_part a)) q)
    by (core.tracked k u args) pl h e = let q = part h.part h.is ∙ h.shape.is in subst (λ a. Tell (first_slot (vars_at t (slot_sorts p (core.tracked k u args)))) (told_part a) f) (sym q) (refl, e ∙ ap (λ a. Some (Rattle.c_lower_worlds.specs.Worlds.c_part a)) q)
    by (core.owning states u args) pl h e = let q = part h.part h.is ∙ h.shape.is in subst (λ a. Tell (first_slot (vars_at t (slot_sorts p (core.owning states u args)))) (told_part a) f) (sym q) (refl, e ∙ ap (λ a. Some (Rattle.c_lower_worlds.specs.Worlds.c_part a)) q)
    by (core.guarded k u args) pl h e = let q = part h.part h.is ∙ h.shape.is in subst (λ a. Tell (first_slot (vars_at t (slot_sorts p (core.guarded k u args)))) (told_part a) f) (sym q) (refl, e ∙ ap (λ a. Some (Rattle.c_lower_worlds.specs.Worlds.c_part a)) q)
    by (core.variant u args) pl h e = absurd (true≢false pl)
    by (core.owning_variant u args) pl h e = absurd (true≢false pl)
