-- Payloads of a case: numbers, and new objects that the host made.
use Rattle.std.proofs.Common.{◌≡◌, ℕ, suc, ◌<◌, Bool, true, false, if◌then◌else◌, IsTrue, List, [], ◌∷◌, ◌++◌, map, length, Option, Some, None, refl, sym, ap, ◌∙◌, subst, arith, slice_get}
use Rattle.std.proofs.lemmas.List.{length-append, append-nil, append_assoc}
use Rattle.std.specs.List.{flat_map}
use Rattle.vlt_core.specs.Core.{States, Ty, int, bool, tracked, owning, guarded, variant, owning_variant, Func, Program}
use Rattle.vlt_core.specs.Types.{with_keys, stands_for, keys_of_ty}
use Rattle.vlt_core.specs.Maps.{HeldMap}
use Rattle.vlt_core.specs.KindedScopes.{Ids}
use Rattle.vlt_meaning.specs.World as world
use Rattle.vlt_meaning.specs.World.{Part, Value, one, owned, objects_in, objects_in_part, loose, out, Object, World, Frame, heap_end, is_full}
use Rattle.vlt_meaning.specs.Objects.{with_owner, with_changed_object, changed_in}
use Rattle.vlt_meaning.specs.Step.{Step, ends, with_made, with_objects}
use Rattle.vlt_meaning.specs.HostAnswers.{Piece, plain, new_in}
use Rattle.vlt_meaning.specs.Externals.{from_host, with_pieces}
use Rattle.vlt_sound_worlds.specs.Look.{look}
use Rattle.vlt_sound_worlds.proofs.Look.{makes_one}
use Rattle.vlt_sound_worlds.specs.Members.{In}
use Rattle.vlt_sound_worlds.specs.Scene.{Scene}
use Rattle.vlt_sound_worlds.specs.Fits.{Names, names_of, FitsPart, FitParts, Fits}
use Rattle.vlt_sound_worlds.proofs.Fits.{fits_named, fits_after}
use Rattle.vlt_sound_worlds.specs.Agrees.{Handed, FitHanded, Context, scene, Agrees}
use Rattle.vlt_sound_worlds.specs.Safe.{Goal, Safe}
use Rattle.vlt_sound_worlds.proofs.Expressions.{names_at}
use Rattle.vlt_sound_worlds.specs.Handed.{handed_values}
use Rattle.vlt_sound_worlds.proofs.Hand.{given, agrees_given}
use Rattle.vlt_sound_worlds.specs.Said.{GoTogether, IsPieceOf}
use Rattle.vlt_sound_worlds.specs.Hosted.{with_hosted, IsHosted}
use Rattle.vlt_sound_worlds.proofs.Hosting.{agrees_hosted}
use Rattle.vlt_sound_worlds.proofs.Taking.{agrees_taken}
use Rattle.vlt_sound_calls.specs.ReturnHeads.{IsHostType, IsHostPayload}
use Rattle.vlt_sound_calls.specs.TakenOver.{AreTakenOver}
use Rattle.vlt_sound_calls.proofs.TakenOver.{over_made}

-- ---- a new object

-- the last object is changed
pub changed_last : (os : List Object) (o : Object) (q : Object → Object) → with_changed_object (length os) q (os ++ o ∷ []) ≡ os ++ q o ∷ []
changed_last [] o q = refl
changed_last (x ∷ os) o q =
    following (slice_get (os ++ o ∷ []) (length os)) ∙ ap (λ rest. x ∷ rest) (changed_last os o q)
  where
    following : (a : Option Object) →
        changed_in (suc (length os)) q (x ∷ os ++ o ∷ []) a ≡ x ∷ changed_in (length os) q (os ++ o ∷ []) a
    following None = refl
    following (Some a) = refl

-- a new object of the host's is handed over
pub agrees_new : {p : Program} {f : Func} {c : Context} {h : HeldMap} {ids : Ids} {hand : List Handed} {frame : Frame} {os : List Object} →
    Agrees p f c h ids hand frame os → (S : States) (t s : ℕ) (args : List ℕ) → IsHostType p S t → IsTrue (S s) →
    Agrees p f c h ids (hand ++ given (one (owned (length os))) (owning S t args) ∷ []) frame (os ++ from_host t s loose ∷ [])
agrees_new {p} {f} {c} {h} {ids} {hand} {frame} {os} agrees S t s args type allowed =
    subst (λ os. Agrees p f c h ids (hand ++ x ∷ []) frame os) (changed_last os (from_host t s out) (with_owner loose))
    (agrees_taken hosted.now n (ap (λ o. o.owner) at_n) hosted.of.within x refl (record {
      part = owned n;
      is = refl;
      fits = record {
        object = n;
        is = refl;
        of = hosted.of;
        state = subst (λ o. IsTrue (S o.state)) (sym at_n) allowed;
      };
    }))
  where
    n : ℕ
    n = length os

    x : Handed
    x = given (one (owned n)) (owning S t args)

    hosted : IsHosted p f c h ids hand frame os t s (map frame.keys args)
    hosted = agrees_hosted agrees t s (map frame.keys args) type.bare (type.states s allowed)

    at_n : look (with_hosted t s os) n ≡ from_host t s out
    at_n = (makes_one os (from_host t s out)).here

-- ---- parts

same_part : {a b : Part} → one a ≡ one b → a ≡ b
same_part {a} {b} e = ap part e
  where
    part : Value → Part
    part (one a) = a
    part (world.of_case c parts keys) = world.reference 0

pub parts_objects : (parts : List Part) → flat_map objects_in (map one parts) ≡ flat_map objects_in_part parts
parts_objects [] = refl
parts_objects (a ∷ parts) = ap (λ ns. objects_in_part a ++ ns) (parts_objects parts)

-- a value of a payload is a part
part_fits : (p : Program) (s : Scene) (names : Names) (ty : Ty) (a : Part) → IsHostPayload p ty → Fits p s names ty (one a) →
    FitsPart s names ty a
part_fits p s names int a host fits = subst (FitsPart s names int) (sym (same_part fits.is)) fits.fits
part_fits p s names bool a host fits = subst (FitsPart s names bool) (sym (same_part fits.is)) fits.fits
part_fits p s names (owning S t args) a host fits =
    subst (FitsPart s names (owning S t args)) (sym (same_part fits.is)) fits.fits
part_fits p s names (tracked k t args) a host fits = absurd host
part_fits p s names (guarded k t args) a host fits = absurd host
part_fits p s names (variant t args) a host fits = absurd host
part_fits p s names (owning_variant t args) a host fits = absurd host

-- payloads that the host gives, whose types speak of the keys of a header alone
abbrev pub AreHostPayloads : Program → (args : List ℕ) → List Ty → Type 0
AreHostPayloads p args tys = (i : ℕ) (ty : Ty) → slice_get tys i ≡ Some ty →
    IsHostPayload p ty × ((k : ℕ) → In k (keys_of_ty ty) → k < length args)

module _ (p : Program) (s : Scene) (names : Names) (args : List ℕ) where
  pub parts_fit : (tys : List Ty) (parts : List Part) → AreHostPayloads p args tys →
      length (map one parts) ≡ length (map (with_keys args) tys) →
      FitHanded p s names (handed_values (map (with_keys args) tys) (map one parts)) → FitParts s (names_of (map names args)) tys parts
  parts_fit [] [] known long fits = tt
  parts_fit [] (a ∷ parts) known long fits = cc
  parts_fit (t ∷ tys) [] known long fits = cc
  parts_fit (t ∷ tys) (a ∷ parts) known long fits =
      let here = known 0 t refl in (
        part_fits p s (names_of (map names args)) t a here.0
            (fits_named p s (λ k. names (stands_for args k)) (names_of (map names args)) t (one a)
            (λ k i. names_at names args k (here.1 k i)) (fits_after p s names args t (one a) fits.0)),
        parts_fit tys parts (λ i. known (suc i)) (omega arith) fits.1,
      )

-- ---- one piece after another

module _ (p : Program) (f : Func) (c : Context) (h : HeldMap) (ids : Ids) (frame : Frame) (ns args : List ℕ) (heap : ℕ) (goal : Goal) where
  -- what comes after the pieces, where so many objects were there before them
  pub record Following (hand : List Handed) (tys : List Ty) (os : List Object) (parts : List Part) (w : World) : Type 0 where
    pub objects : List Object
    pub agrees : Agrees p f c h ids (hand ++ handed_values (map (with_keys args) tys) (map one parts)) frame objects
    pub long : length (map one parts) ≡ length (map (with_keys args) tys)
    pub over : AreTakenOver ns objects w.objects
    pub same : (m : ℕ) → m < length os → look objects m ≡ look os m

  abbrev GoesOn : List Handed → List Ty → List Object → (List Part → World → Step) → Type 0
  GoesOn hand tys os go = (parts : List Part) (w : World) → Following hand tys os parts w → Safe goal (go parts w)

  -- a first piece before the others
  following_more : (hand : List Handed) (ty : Ty) (tys : List Ty) (os now : List Object) (a : Part) (parts : List Part) (w : World) →
      ((m : ℕ) → m < length os → (m < length now) × (look now m ≡ look os m)) →
      Following (hand ++ given (one a) (with_keys args ty) ∷ []) tys now parts w → Following hand (ty ∷ tys) os (a ∷ parts) w
  following_more hand ty tys os now a parts w kept b = record {
    objects = b.objects;
    agrees = subst (λ hand. Agrees p f c h ids hand frame b.objects)
        (append_assoc hand (given (one a) (with_keys args ty) ∷ []) (handed_values (map (with_keys args) tys) (map one parts))) b.agrees;
    long = ap suc b.long;
    over = b.over;
    same = λ m lt. let k = kept m lt in b.same m k.0 ∙ k.1;
  }

  pub pieces_safe : (tys : List Ty) (ps : List Piece) (hand : List Handed) (os : List Object) (w : World)
      (go : List Part → World → Step) → AreHostPayloads p args tys → GoTogether IsPieceOf tys ps → Agrees p f c h ids hand frame os →
      AreTakenOver ns os w.objects → GoesOn hand tys os go → Safe goal (with_pieces heap tys ps w go)
  unfolding with_pieces with_made
  pieces_safe [] [] hand os w go known said agrees over on = on [] w (record {
    objects = os;
    agrees = subst (λ hand. Agrees p f c h ids hand frame os) (sym (append-nil hand)) agrees;
    long = refl;
    over = over;
    same = λ m lt. refl;
  })
  pieces_safe [] (a ∷ ps) hand os w go known said agrees over on = absurd said
  pieces_safe (ty ∷ tys) [] hand os w go known said agrees over on = absurd said
  pieces_safe (ty ∷ tys) (plain z ∷ ps) hand os w go known said agrees over on =
      pieces_safe tys ps (hand ++ given (one (world.number z)) (with_keys args ty) ∷ []) os w _ (λ i. known (suc i)) said.1
      (agrees_given agrees (one (world.number z)) (with_keys args ty) refl (number_fits ty (known 0 ty refl).0 said.0)) over
      (λ parts w2 b. on (world.number z ∷ parts) w2
      (following_more hand ty tys os os (world.number z) parts w2 (λ m lt. (lt, refl)) b))
    where
      number_fits : (ty : Ty) → IsHostPayload p ty → IsPieceOf ty (plain z) →
          Fits p (scene c os agrees.heads) frame.keys (with_keys args ty) (one (world.number z))
      number_fits int host said = record { part = world.number z; is = refl; fits = (z, refl) }
      number_fits bool host said = record { part = world.number z; is = refl; fits = (z, refl) }
      number_fits (owning S t others) host said = absurd said
      number_fits (tracked k t others) host said = absurd host
      number_fits (guarded k t others) host said = absurd host
      number_fits (variant t others) host said = absurd host
      number_fits (owning_variant t others) host said = absurd host
  pieces_safe (owning S t others ∷ tys) (new_in s ∷ ps) hand os w go known said agrees over on =
      by
      (pieces_safe tys ps (hand ++ given (one (owned n)) (with_keys args (owning S t others)) ∷ []) (os ++ o ∷ []) real _
      (λ i. known (suc i)) said.1
      (agrees_new agrees S t s (map (stands_for args) others) (known 0 (owning S t others) refl).0 said.0)
      (over_made ns os w.objects o over)
      (λ parts w2 b. on (owned (length w.objects) ∷ parts) w2
      (subst (λ n. Following hand (owning S t others ∷ tys) os (owned n ∷ parts) w2) (sym over.long)
      (following_more hand (owning S t others) tys os (os ++ o ∷ []) (owned n) parts w2 there b))))
      (is_full heap w.objects)
    where
      n : ℕ
      n = length os

      o : Object
      o = from_host t s loose

      real : World
      real = with_objects w (w.objects ++ o ∷ [])

      there : (m : ℕ) → m < length os → (m < length (os ++ o ∷ [])) × (look (os ++ o ∷ []) m ≡ look os m)
      there m lt =
          let long = length-append os (o ∷ []) in
          (omega arith, (makes_one os o).others m (λ e. absurd (omega arith)))

      by : Safe goal (with_pieces heap tys ps real (λ parts w2. go (owned (length w.objects) ∷ parts) w2)) → (b : Bool) →
          Safe goal (if b then ends heap_end w
          else with_pieces heap tys ps real (λ parts w2. go (owned (length w.objects) ∷ parts) w2))
      by next true = refl
      by next false = next
  pieces_safe (int ∷ tys) (new_in s ∷ ps) hand os w go known said agrees over on = absurd said.0
  pieces_safe (bool ∷ tys) (new_in s ∷ ps) hand os w go known said agrees over on = absurd said.0
  pieces_safe (tracked k t others ∷ tys) (new_in s ∷ ps) hand os w go known said agrees over on = absurd said.0
  pieces_safe (guarded k t others ∷ tys) (new_in s ∷ ps) hand os w go known said agrees over on = absurd said.0
  pieces_safe (variant t others ∷ tys) (new_in s ∷ ps) hand os w go known said agrees over on = absurd said.0
  pieces_safe (owning_variant t others ∷ tys) (new_in s ∷ ps) hand os w go known said agrees over on = absurd said.0
