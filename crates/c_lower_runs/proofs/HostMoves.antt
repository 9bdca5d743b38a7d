-- Objects that go out to the host, and that come back, one after another.
use Rattle.std.proofs.Common.{◌≡◌, ℕ, Bool, true, false, List, [], ◌∷◌, map, Some, slice_get, Ok, Err, refl, sym, ap, ◌∙◌, subst, ℤ}
use Rattle.vlt_core.specs.Core.{Program}
use Rattle.vlt_meaning.specs.World.{Owner, out, Object, is_out}
use Rattle.vlt_meaning.specs.Found.{Found, ◌>>=◌}
use Rattle.vlt_meaning.specs.Objects.{with_owner, with_changed_object, objects_after_move}
use Rattle.c_syntax.specs.declared.program.CVar.{CVar}
use Rattle.c_syntax.specs.declared.program.CPrim.TheVariants as prim
use Rattle.c_syntax.specs.C as syntax
use Rattle.c_syntax.specs.C.{Stmt}
use Rattle.c_meaning.specs.World as cw
use Rattle.c_meaning.specs.World.{World}
use Rattle.c_meaning.specs.Primitives as effect
use Rattle.c_meaning.specs.Primitives.{or_broken, on_reference}
use Rattle.c_meaning.specs.Run.{Setup, Meaning, Frame, goes, stops}
use Rattle.c_lower.specs.Statements.{runtime_call}
use Rattle.c_lower_worlds.proofs.OfNaming.FoundObjects.{IsFree, err_ok, ok_same}
use Rattle.c_lower_worlds.proofs.BlockChanges.{out_is, back_is, not_back}
use Rattle.c_lower_worlds.proofs.StatementLists.{Runs, runs_then, stops_there, call_runs, call_stops}
use Rattle.c_lower_runs.proofs.AnswerReading.{left_to_read, BreaksOff}
use Rattle.c_lower_worlds.proofs.MovedObjects.{first_moved, Refer, with_blocks}

module _ (R : Setup) (rest_of : Meaning) (p : Program) where
  -- ---- objects go out

  pub outs_run : (from : Owner → Bool) → ((o : Owner) → from o ≡ true → IsFree o) → (vs : List CVar) (ns : List ℕ) (f : Frame) (w : World) (zs : List ℤ) (os after : List Object) →
      Refer vs ns f → objects_after_move from out ns os ≡ Ok after →
      Runs R rest_of (map (λ v. runtime_call prim.Out (syntax.variable v ∷ [])) vs) f (left_to_read (with_blocks p w os) zs) (goes f (left_to_read (with_blocks p w after) zs))
  unfolding on_reference or_broken
  outs_run from free [] [] f w zs os after h e = λ n. ap (λ os. goes f (left_to_read (with_blocks p w os) zs)) (ok_same os after e)
  outs_run from free [] (n ∷ ns) f w zs os after h e = absurd h
  outs_run from free (v ∷ vs) [] f w zs os after h e = absurd h
  outs_run from free (v ∷ vs) (n ∷ ns) f w zs os after h e =
      let a = first_moved from out n ns os after e in
      let fr = free a.object.owner a.passes in
      let moved = out_is p os n a.object (record { at = a.at; live = fr.live }) fr in
      runs_then R rest_of (runtime_call prim.Out (syntax.variable v ∷ []) ∷ []) (map (λ v. runtime_call prim.Out (syntax.variable v ∷ [])) vs) f f
      (left_to_read (with_blocks p w os) zs) (left_to_read (with_blocks p w (with_changed_object n (with_owner out) os)) zs) (goes f (left_to_read (with_blocks p w after) zs))
      (call_runs R rest_of prim.Out (syntax.variable v ∷ []) f (left_to_read (with_blocks p w os) zs) (left_to_read (with_blocks p w (with_changed_object n (with_owner out) os)) zs) (rw (h.0, moved) refl))
      (outs_run from free vs ns f w zs (with_changed_object n (with_owner out) os) after h.1 a.rest)

  -- ---- objects come back, each to its owner; one that isn't out breaks off

  abbrev pub come_all : List (ℕ × Owner) → List Object → Found (List Object)
  come_all [] os = Ok os
  come_all (q ∷ qs) os = do
    back ← objects_after_move is_out q.1 (q.0 ∷ []) os
    come_all qs back

  abbrev pub AreFreeOwners : List (ℕ × Owner) → Type 0
  AreFreeOwners [] = Unit {0}
  AreFreeOwners (q ∷ qs) = IsFree q.1 × AreFreeOwners qs

  abbrev pub BacksTo : List Stmt → Frame → World → (zs : List ℤ) → (os : List Object) → Found (List Object) → Type 0
  BacksTo xs f w zs os (Ok after) = Runs R rest_of xs f (left_to_read (with_blocks p w os) zs) (goes f (left_to_read (with_blocks p w after) zs))
  BacksTo xs f w zs os (Err o) = BreaksOff R rest_of xs f (left_to_read (with_blocks p w os) zs)

  record IsOut (os : List Object) (n : ℕ) : Type 0 where
    object : Object
    at : slice_get os n ≡ Some object
    out : is_out object.owner ≡ true

  pub backs_run : (vs : List CVar) (qs : List (ℕ × Owner)) (f : Frame) (w : World) (zs : List ℤ) (os : List Object) → Refer vs (map (λ q. q.0) qs) f → AreFreeOwners qs →
      BacksTo (map (λ v. runtime_call prim.Back (syntax.variable v ∷ [])) vs) f w zs os (come_all qs os)
  unfolding on_reference or_broken
  backs_run [] [] f w zs os h free = λ n. refl
  backs_run [] (q ∷ qs) f w zs os h free = absurd h
  backs_run (v ∷ vs) [] f w zs os h free = absurd h
  backs_run (v ∷ vs) (q ∷ qs) f w zs os h free = by (objects_after_move is_out q.1 (q.0 ∷ []) os) refl (λ os. backs_run vs qs f w zs os h.1 free.1)
    where
      back : Stmt
      back = runtime_call prim.Back (syntax.variable v ∷ [])

      backs : List Stmt
      backs = map (λ v. runtime_call prim.Back (syntax.variable v ∷ [])) vs

      after_that : (mid : List Object) → Runs R rest_of (back ∷ []) f (left_to_read (with_blocks p w os) zs) (goes f (left_to_read (with_blocks p w mid) zs)) →
          (r : Found (List Object)) → BacksTo backs f w zs mid r → BacksTo (back ∷ backs) f w zs os r
      after_that mid first (Ok after) on = runs_then R rest_of (back ∷ []) backs f f (left_to_read (with_blocks p w os) zs) (left_to_read (with_blocks p w mid) zs) (goes f (left_to_read (with_blocks p w after) zs)) first on
      after_that mid first (Err o) off = record {
        world = off.world;
        runs = runs_then R rest_of (back ∷ []) backs f f (left_to_read (with_blocks p w os) zs) (left_to_read (with_blocks p w mid) zs) (stops (cw.bad_answer w.taken) off.world) first off.runs;
        events = off.events;
        fuel = off.fuel;
      }

      by : (r : Found (List Object)) → objects_after_move is_out q.1 (q.0 ∷ []) os ≡ r → ((os : List Object) → BacksTo backs f w zs os (come_all qs os)) →
          BacksTo (back ∷ backs) f w zs os (r >>= come_all qs)
      by (Ok mid) e later =
          let a = first_moved is_out q.1 q.0 [] os mid e in
          let came = back_is p os q.0 a.object q.1 a.at a.passes free.0 in
          let same = ok_same (with_changed_object q.0 (with_owner q.1) os) mid a.rest in
          after_that mid
          (subst (λ mid. Runs R rest_of (back ∷ []) f (left_to_read (with_blocks p w os) zs) (goes f (left_to_read (with_blocks p w mid) zs))) same
          (call_runs R rest_of prim.Back (syntax.variable v ∷ []) f (left_to_read (with_blocks p w os) zs) (left_to_read (with_blocks p w (with_changed_object q.0 (with_owner q.1) os)) zs) (rw (h.0) (ap (λ r. or_broken r (λ back. effect.back_or_bad back (left_to_read (with_blocks p w os) zs))) came))))
          (come_all qs mid) (later mid)
      by (Err o) e later = record {
        world = left_to_read (with_blocks p w os) zs;
        runs = stops_there R rest_of (back ∷ []) backs f (left_to_read (with_blocks p w os) zs) (left_to_read (with_blocks p w os) zs) (cw.bad_answer w.taken)
            (call_stops R rest_of prim.Back (syntax.variable v ∷ []) f (left_to_read (with_blocks p w os) zs) (left_to_read (with_blocks p w os) zs) (cw.bad_answer w.taken)
            (rw (h.0) (ap (λ r. or_broken r (λ back. effect.back_or_bad back (left_to_read (with_blocks p w os) zs))) (not_back p os q.0 (λ x at. not_out x at (is_out x.owner) refl)))));
        events = refl;
        fuel = refl;
      }
        where
          not_out : (x : Object) → slice_get os q.0 ≡ Some x → (b : Bool) → is_out x.owner ≡ b → b ≡ false
          not_out x at false t = refl
          not_out x at true t = absurd (err_ok o (with_changed_object q.0 (with_owner q.1) os) (sym e ∙ moved))
            where
              moved : objects_after_move is_out q.1 (q.0 ∷ []) os ≡ Ok (with_changed_object q.0 (with_owner q.1) os)
              moved = rw (at, t) refl
