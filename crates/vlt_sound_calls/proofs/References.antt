-- A result that is a reference to a new object.
use Rattle.std.proofs.Common.{◌≡◌, inl, inr, ℕ, ◌<◌, Bool, true, false, if◌then◌else◌, IsTrue, List, [], ◌∷◌, ◌++◌, map, length, Option, Some, refl, sym, ap, ◌∙◌, subst}
use Rattle.vlt_core.specs.Core.{States, tracked, owning, a_key, Func, Program}
use Rattle.vlt_core.specs.Lookups.{fields_of, all_states, key_type}
use Rattle.vlt_core.specs.Types.{with_keys, stands_for}
use Rattle.vlt_core.specs.Maps.{absent, held, HeldMap}
use Rattle.vlt_core.specs.KindedScopes.{Ids}
use Rattle.vlt_meaning.specs.World as world
use Rattle.vlt_meaning.specs.World.{Part, Value, one, reference, owned, loose, Object, World, Frame, heap_end, is_full}
use Rattle.vlt_meaning.specs.Objects.{with_owner, with_changed_object}
use Rattle.vlt_meaning.specs.Step.{Step, ends, with_made, with_objects, with_key}
use Rattle.vlt_meaning.specs.Calls.{binding}
use Rattle.vlt_meaning.specs.Externals.{from_host, with_fresh}
use Rattle.vlt_sound_worlds.specs.Look.{look}
use Rattle.vlt_sound_worlds.proofs.Look.{makes_one, changes_one}
use Rattle.vlt_sound_worlds.specs.Members.{In}
use Rattle.vlt_sound_worlds.specs.Keys.{IsOfType}
use Rattle.vlt_sound_worlds.specs.Scene.{IsOf}
use Rattle.vlt_sound_worlds.specs.Fits.{IsOne, Fits}
use Rattle.vlt_sound_worlds.proofs.Fits.{fits_named}
use Rattle.vlt_sound_worlds.specs.Agrees.{Context, scene, Agrees}
use Rattle.vlt_sound_worlds.specs.Safe.{Goal, Safe}
use Rattle.vlt_sound_worlds.proofs.FrameChanges.{set_here, set_other}
use Rattle.vlt_sound_worlds.proofs.FrameOwners.{ChangesTok}
use Rattle.vlt_sound_worlds.proofs.Leaving.{length_changed}
use Rattle.vlt_sound_worlds.specs.Scopes.{IsFresh}
use Rattle.vlt_sound_worlds.proofs.Coming.{agrees_bound, bound_heads}
use Rattle.vlt_sound_worlds.proofs.Hand.{given, agrees_given}
use Rattle.vlt_sound_calls.specs.ReturnGiven.{IsGiven}
use Rattle.vlt_sound_calls.proofs.ResultsPieces.{changed_last, agrees_new}

same_object : {n m : ℕ} → owned n ≡ owned m → n ≡ m
same_object {n} {m} e = ap number e
  where
    number : Part → ℕ
    number (owned n) = n
    number a = 0

same_part : {a b : Part} → one a ≡ one b → a ≡ b
same_part {a} {b} e = ap part e
  where
    part : Value → Part
    part (one a) = a
    part (world.of_case c parts keys) = reference 0

in_map : (go : ℕ → ℕ) (xs : List ℕ) (n : ℕ) → In n (map go xs) → (m : ℕ) × In m xs × (go m ≡ n)
in_map go [] n i = absurd i
in_map go (x ∷ xs) n (inl same) = (x, inl refl, sym same)
in_map go (x ∷ xs) n (inr i) = let q = in_map go xs n i in (q.0, inr q.1, q.2)

module _ {p : Program} {f : Func} {c : Context} {h : HeldMap} {ids : Ids} {frame : Frame} (w : World)
    (agrees : Agrees p f c h ids [] frame w.objects) (keys : List ℕ) (t k : ℕ) (args : List ℕ) (s : ℕ) (states : States)
    (next : HeldMap) (bare : fields_of p t ≡ []) (state : IsTrue (all_states p t s)) (allowed : IsTrue (states s))
    (fresh : IsFresh f c ids [] (stands_for keys k))
    (apart : (j : ℕ) → In j args → stands_for keys j ≡ stands_for keys k → ⊥)
    (typed : key_type f (stands_for keys k) ≡ Some t) (none : h (a_key (stands_for keys k)) ≡ absent)
    (tok : ChangesTok (a_key (stands_for keys k)) (held states) h next) where
  abbrev n : ℕ
  n = length w.objects

  abbrev key : ℕ
  key = stands_for keys k

  abbrev inner : List ℕ
  inner = map (stands_for keys) args

  abbrev os1 : List Object
  os1 = w.objects ++ from_host t s loose ∷ []

  abbrev frame' : Frame
  frame' = with_key key n frame

  -- the new object is handed over first
  first : Agrees p f c h ids (given (one (owned n)) (owning (all_states p t) t inner) ∷ []) frame os1
  first = agrees_new agrees (all_states p t) t s inner (record { bare = bare; states = λ s i. i }) state

  at_n : look os1 n ≡ from_host t s loose
  at_n = (makes_one w.objects (from_host t s loose)).here

  -- under the names that it gets
  is_of : IsOf (scene c os1 first.heads) t (map frame'.keys inner) n
  is_of =
      subst (IsOf (scene c os1 first.heads) t (map frame'.keys inner)) (same_object (sym fits.fits.is ∙ sym (same_part fits.is)))
      fits.fits.of
    where
      fits : IsOne (scene c os1 first.heads) frame'.keys (owning (all_states p t) t inner) (one (owned n))
      fits =
          fits_named p (scene c os1 first.heads) frame.keys frame'.keys (owning (all_states p t) t inner) (one (owned n))
          (λ j i. set_other key (Some n) frame.keys j (λ same. let q = in_map (stands_for keys) args j i in apart q.0 q.1 (q.2 ∙ same)))
          first.handed.0

  allowed_now : IsTrue (states (look os1 n).state)
  allowed_now = subst (λ o. IsTrue (states o.state)) (sym at_n) allowed

  typed_now : IsOfType (key_type f key) (look os1 n).type
  typed_now = subst (λ o. IsOfType o (look os1 n).type) (sym typed) (ap (λ o. o.type) at_n)

  abbrev os2 : List Object
  os2 = with_changed_object n (with_owner (world.held frame.depth key)) os1

  -- then it goes under its key
  bound : Agrees p f c next ids [] frame' os2
  bound = agrees_bound first n refl is_of.within key states next none tok allowed_now typed_now fresh

  bound_same : bound.heads ≡ first.heads
  unfolding bound
  bound_same = bound_heads first n refl is_of.within key states next none tok allowed_now typed_now fresh

  ref_fits : Fits p (scene c os2 bound.heads) frame'.keys (with_keys keys (tracked k t args)) (one (reference n))
  ref_fits = record {
    part = reference n;
    is = refl;
    fits = record {
      object = n;
      named = set_here key (Some n) frame.keys;
      is = refl;
      of = record {
        within = subst (λ l. n < l) (sym (length_changed os1 n (with_owner (world.held frame.depth key)))) is_of.within;
        typed =
            ap (λ o. o.type) (changes_one os1 n (with_owner (world.held frame.depth key)) is_of.within).here ∙ is_of.typed;
        headed = ap (λ hs. hs n) bound_same ∙ is_of.headed;
      };
    };
  }

  given_reference : Agrees p f c next ids (given (one (reference n)) (with_keys keys (tracked k t args)) ∷ []) frame'
      (w.objects ++ from_host t s (world.held frame.depth key) ∷ [])
  given_reference =
      subst (Agrees p f c next ids (given (one (reference n)) (with_keys keys (tracked k t args)) ∷ []) frame')
      (changed_last w.objects (from_host t s loose) (with_owner (world.held frame.depth key)))
      (agrees_given bound (one (reference n)) (with_keys keys (tracked k t args)) refl ref_fits)

  pub reference_safe : (heap : ℕ) (goal : Goal) (go : Option Value → Frame → World → Step) →
      ((v : Value) (now : Frame) (w2 : World) → IsGiven p f c next ids now w2.objects keys (Some (tracked k t args)) (Some v) →
      Safe goal (go (Some v) now w2)) → Safe goal (with_fresh heap t (Some (binding s key)) frame w go)
  unfolding with_fresh with_made
  reference_safe heap goal go on = by (is_full heap w.objects)
    where
      made : World
      made = with_objects w (w.objects ++ from_host t s (world.held frame.depth key) ∷ [])

      by : (b : Bool) → Safe goal (if b then ends heap_end w else go (Some (one (reference n))) frame' made)
      by true = refl
      by false = on (one (reference n)) frame' made (one (reference n), refl, given_reference)
