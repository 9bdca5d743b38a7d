-- A number or a new object that an answer gives for a result.
use Rattle.std.proofs.Common.{◌≡◌, ◌⊎◌, inl, inr, ℕ, suc, ℤ, Bool, true, false, if◌then◌else◌, IsTrue, List, [], ◌∷◌, ◌++◌, map, length, Option, Some, None, refl, sym, ap, ◌∙◌, subst, slice_get}
use Rattle.vlt_core.specs.Core.{States, Ty, int, bool, owning, Func, Program}
use Rattle.vlt_core.specs.Lookups.{fields_of, all_states}
use Rattle.vlt_core.specs.Types.{with_keys, stands_for}
use Rattle.vlt_core.specs.Maps.{HeldMap}
use Rattle.vlt_core.specs.KindedScopes.{Ids}
use Rattle.vlt_meaning.specs.World as world
use Rattle.vlt_meaning.specs.World.{Value, one, owned, Object, World, Frame, loose, out, heap_end, is_full}
use Rattle.vlt_meaning.specs.Objects.{with_owner, with_changed_object, changed_in}
use Rattle.vlt_meaning.specs.Step.{Step, ends, with_made, with_objects}
use Rattle.vlt_meaning.specs.HostAnswers.{plain, new_in, piece}
use Rattle.vlt_meaning.specs.Externals.{from_host, type_in, with_result}
use Rattle.vlt_sound_worlds.specs.Look.{look}
use Rattle.vlt_sound_worlds.proofs.Look.{makes_one}
use Rattle.vlt_sound_worlds.specs.Fits.{Fits}
use Rattle.vlt_sound_worlds.specs.Agrees.{Handed, Context, scene, Agrees}
use Rattle.vlt_sound_worlds.specs.Safe.{Goal, Safe}
use Rattle.vlt_sound_worlds.proofs.Hand.{agrees_given}
use Rattle.vlt_sound_worlds.specs.Hosted.{with_hosted, IsHosted}
use Rattle.vlt_sound_worlds.proofs.Hosting.{agrees_hosted}
use Rattle.vlt_sound_worlds.proofs.Taking.{agrees_taken}
use Rattle.vlt_sound_calls.specs.ReturnGiven.{IsGiven}

-- the last object is changed
changed_last : (os : List Object) (o : Object) (q : Object → Object) → with_changed_object (length os) q (os ++ o ∷ []) ≡ os ++ q o ∷ []
changed_last [] o q = refl
changed_last (x ∷ os) o q =
    following (slice_get (os ++ o ∷ []) (length os)) ∙ ap (λ rest. x ∷ rest) (changed_last os o q)
  where
    following : (a : Option Object) →
        changed_in (suc (length os)) q (x ∷ os ++ o ∷ []) a ≡ x ∷ changed_in (length os) q (os ++ o ∷ []) a
    following None = refl
    following (Some a) = refl

module _ {p : Program} {f : Func} {c : Context} {h : HeldMap} {ids : Ids} {frame : Frame} (w : World)
    (agrees : Agrees p f c h ids [] frame w.objects) (g : Func) (keys states : List ℕ) (heap : ℕ) (goal : Goal)
    (go : Option Value → Frame → World → Step) where
  -- what comes after a result is safe
  abbrev pub GoesOn : Ty → Type 0
  GoesOn ty = (v : Value) (w2 : World) → IsGiven p f c h ids frame w2.objects keys (Some ty) (Some v) →
      Safe goal (go (Some v) frame w2)

  number_fits : (ty : Ty) (z : ℤ) → (ty ≡ int) ⊎ (ty ≡ bool) →
      Fits p (scene c w.objects agrees.heads) frame.keys (with_keys keys ty) (one (world.number z))
  number_fits ty z (inl is) =
      subst (λ ty. Fits p (scene c w.objects agrees.heads) frame.keys (with_keys keys ty) (one (world.number z))) (sym is)
      (record { part = world.number z; is = refl; fits = (z, refl) })
  number_fits ty z (inr is) =
      subst (λ ty. Fits p (scene c w.objects agrees.heads) frame.keys (with_keys keys ty) (one (world.number z))) (sym is)
      (record { part = world.number z; is = refl; fits = (z, refl) })

  pub number_safe : (ty : Ty) (z : ℤ) → (ty ≡ int) ⊎ (ty ≡ bool) → GoesOn ty →
      Safe goal (with_result heap p g keys states (piece (plain z)) frame w go)
  unfolding with_result
  number_safe ty z basic on =
      on (one (world.number z)) w
      (one (world.number z), refl, agrees_given agrees (one (world.number z)) (with_keys keys ty) refl (number_fits ty z basic))

  pub new_safe : (S : States) (t : ℕ) (args : List ℕ) (s : ℕ) → g.result ≡ Some (owning S t args) → IsTrue (S s) →
      IsTrue (all_states p t s) → fields_of p t ≡ [] → GoesOn (owning S t args) →
      Safe goal (with_result heap p g keys states (piece (new_in s)) frame w go)
  unfolding with_result with_made
  new_safe S t args s is allowed state bare on =
      subst (λ o. Safe goal (if is_full heap w.objects then ends heap_end w
      else go (Some (one (owned (length w.objects)))) frame (with_objects w (w.objects ++ from_host (type_in o) s loose ∷ []))))
      (sym is) (by (is_full heap w.objects))
    where
      n : ℕ
      n = length w.objects

      hosted : IsHosted p f c h ids [] frame w.objects t s (map frame.keys (map (stands_for keys) args))
      hosted = agrees_hosted agrees t s (map frame.keys (map (stands_for keys) args)) bare state

      at_n : look (with_hosted t s w.objects) n ≡ from_host t s out
      at_n = (makes_one w.objects (from_host t s out)).here

      handed : Handed
      handed = record { value = one (owned n); type = with_keys keys (owning S t args) }

      taken : Agrees p f c h ids (handed ∷ []) frame (with_changed_object n (with_owner loose) (with_hosted t s w.objects))
      taken = agrees_taken hosted.now n (ap (λ o. o.owner) at_n) hosted.of.within handed refl (record {
        part = owned n;
        is = refl;
        fits = record {
          object = n;
          is = refl;
          of = hosted.of;
          state = subst (λ o. IsTrue (S o.state)) (sym at_n) allowed;
        };
      })

      now : Agrees p f c h ids (handed ∷ []) frame (w.objects ++ from_host t s loose ∷ [])
      now = subst (λ os. Agrees p f c h ids (handed ∷ []) frame os) (changed_last w.objects (from_host t s out) (with_owner loose)) taken

      by : (b : Bool) → Safe goal (if b then ends heap_end w
          else go (Some (one (owned n))) frame (with_objects w (w.objects ++ from_host t s loose ∷ [])))
      by true = refl
      by false = on (one (owned n)) (with_objects w (w.objects ++ from_host t s loose ∷ [])) (one (owned n), refl, now)
