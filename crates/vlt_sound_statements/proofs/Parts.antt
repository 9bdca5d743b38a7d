-- What is owned by objects and values that may be released may be released.
use Rattle.std.proofs.Common.{◌≡◌, ◌⊎◌, inl, inr, ⊎_elim, ℕ, zero, suc, ◌<◌, Bool, true, false, ◌&&◌, not, IsTrue, if◌then◌else◌, List, [], ◌∷◌, ◌++◌, length, map, filter, Option, Some, None, refl, sym, ap, ◌∙◌, subst, slice_get}
use Rattle.std.proofs.lemmas.Option.{none-some, same_Some}
use Rattle.std.specs.List.{flat_map}
use Rattle.vlt_core.specs.Core.{States, Ty, int, bool, tracked, owning, guarded, variant, owning_variant, FieldDecl, CaseDecl, Func, Program}
use Rattle.vlt_core.specs.Lookups.{is_owning, fields_of, cases_of, release_set}
use Rattle.vlt_core.specs.Maps.{HeldMap}
use Rattle.vlt_core.specs.Types.{decl_of, is_struct, is_variant, is_filled, is_keyed, is_owning_type, owning_parts, holds_undroppable, is_droppable_struct, is_droppable, lies_within}
use Rattle.vlt_core.specs.KindedScopes.{Ids}
use Rattle.vlt_meaning.specs.World.{Part, Value, objects_in, objects_in_part, Owner, loose, inside, adopted_by, gone, Object, Frame, above}
use Rattle.vlt_meaning.specs.World as world
use Rattle.vlt_sound_worlds.specs.Look.{look, IsLive}
use Rattle.vlt_sound_worlds.specs.Members.{In}
use Rattle.vlt_sound_worlds.specs.Placed.{IsOwned}
use Rattle.vlt_sound_worlds.specs.Roots.{Root, in_var, in_hand, in_wait, in_cell, owned_by, cell_of, content, home}
use Rattle.vlt_sound_worlds.proofs.Members.{in_left, in_right, in_either}
use Rattle.vlt_sound_worlds.specs.Scene.{Scene}
use Rattle.vlt_sound_worlds.specs.Fits.{Names, names_of, FitsPart, FitParts, IsCase, Fits}
use Rattle.vlt_sound_worlds.specs.Agrees.{FitCells, Handed, Context, scene, stock, Agrees}
use Rattle.vlt_sound_worlds.specs.Typed.{IsTyped}
use Rattle.vlt_sound_worlds.proofs.Empty.{both_so, within_at}
use Rattle.vlt_sound_worlds.proofs.Kept.{cells_in}
use Rattle.vlt_sound_worlds.proofs.Plain.{neither, no_keys, none_at, plain_part, plain_value}
use Rattle.vlt_core_laws.specs.Parts.{IsAmong, IsFree}
use Rattle.vlt_core_laws.proofs.Dropping.{part_is_free}
use Rattle.vlt_sound_statements.specs.Ended.{MayEnd}

-- ---- parts of a declared type

among_filter : (tys : List Ty) (ty : Ty) → IsAmong ty tys → is_owning ty ≡ true → IsAmong ty (filter is_owning tys)
among_filter [] ty i o = absurd i
among_filter (u ∷ us) ty i o = by (is_owning u) refl (λ i. among_filter us ty i o) i
  where
    by : (b : Bool) → is_owning u ≡ b → (IsAmong ty us → IsAmong ty (filter is_owning us)) → (ty ≡ u) ⊎ IsAmong ty us →
        IsAmong ty (if b then u ∷ filter is_owning us else filter is_owning us)
    by true q more i = ⊎_elim inl (λ rest. inr (more rest)) i
    by false q more i = ⊎_elim (λ e. let c = sym q ∙ (ap is_owning (sym e) ∙ o) in cc) more i

among_left : (xs ys : List Ty) (ty : Ty) → IsAmong ty xs → IsAmong ty (xs ++ ys)
among_left [] ys ty i = absurd i
among_left (x ∷ xs) ys ty i = ⊎_elim inl (λ rest. inr (among_left xs ys ty rest)) i

among_right : (xs ys : List Ty) (ty : Ty) → IsAmong ty ys → IsAmong ty (xs ++ ys)
among_right [] ys ty i = i
among_right (x ∷ xs) ys ty i = inr (among_right xs ys ty i)

among_fields : (ds : List FieldDecl) (i : ℕ) (d : FieldDecl) → slice_get ds i ≡ Some d →
    IsAmong d.ty (map (λ d. d.ty) ds)
among_fields [] i d at = absurd (none-some d at)
among_fields (x ∷ ds) zero d at = inl (ap (λ d. d.ty) (sym (same_Some x d at)))
among_fields (x ∷ ds) (suc i) d at = inr (among_fields ds i d at)

among_cases : (cs : List CaseDecl) (c : ℕ) (d : CaseDecl) → slice_get cs c ≡ Some d → (ty : Ty) →
    IsAmong ty d.payload → IsAmong ty (flat_map (λ c. c.payload) cs)
among_cases [] c d at ty i = absurd (none-some d at)
among_cases (x ∷ cs) zero d at ty i =
    among_left x.payload (flat_map (λ c. c.payload) cs) ty (subst (λ d. IsAmong ty d.payload) (sym (same_Some x d at)) i)
among_cases (x ∷ cs) (suc c) d at ty i =
    among_right x.payload (flat_map (λ c. c.payload) cs) ty (among_cases cs c d at ty i)

pub field_among : (p : Program) (t i : ℕ) (d : FieldDecl) → slice_get (fields_of p t) i ≡ Some d →
    is_owning d.ty ≡ true → IsAmong d.ty (owning_parts p t)
field_among p t i d at o =
    let fields = map (λ d. d.ty) (fields_of p t) in
    let payloads = flat_map (λ c. c.payload) (cases_of p t) in
    among_filter (fields ++ payloads) d.ty (among_left fields payloads d.ty (among_fields (fields_of p t) i d at)) o

payload_among : (p : Program) (t c : ℕ) (d : CaseDecl) → slice_get (cases_of p t) c ≡ Some d → (ty : Ty) →
    IsAmong ty d.payload → is_owning ty ≡ true → IsAmong ty (owning_parts p t)
payload_among p t c d at ty i o =
    let fields = map (λ d. d.ty) (fields_of p t) in
    let payloads = flat_map (λ c. c.payload) (cases_of p t) in
    among_filter (fields ++ payloads) ty (among_right fields payloads ty (among_cases (cases_of p t) c d at ty i)) o

not_false : (b : Bool) → not b ≡ false → b ≡ true
not_false true e = refl
not_false false e = cc

not_true : (b : Bool) → not b ≡ true → b ≡ false
not_true true e = cc
not_true false e = refl

pub droppable_free : (p : Program) (t : ℕ) → is_droppable_struct p t ≡ true → IsFree p t
droppable_free p t e =
    record { is = not_true (holds_undroppable p (length p.types) t) (both_so (is_struct (decl_of p t)) (not (holds_undroppable p (length p.types) t)) e).1 }

-- ---- values

-- each object of a list is in a state with a number below 32
abbrev pub AreSmall : Scene → List ℕ → Type 0
AreSmall s ns = (n : ℕ) → In n ns → (look s.objects n).state < 32

module _ (p : Program) (s : Scene) (names : Names) where
  -- an object of a type that may be dropped, in a state that may be released
  owned_ends : (S : States) (t : ℕ) (args : List ℕ) (a : Part) → IsFree p t → lies_within S (release_set p t) ≡ true →
      ((m : ℕ) → In m (objects_in_part a) → (look s.objects m).state < 32) →
      FitsPart s names (owning S t args) a → (m : ℕ) → In m (objects_in_part a) → MayEnd p (look s.objects m)
  owned_ends S t args a free wide small f m i =
      let same : m ≡ f.object = only (subst (λ a. In m (objects_in_part a)) f.is i) in
      let state = within_at S (release_set p t) (look s.objects m).state (small m i) wide (rw same f.state) in
      let type : (look s.objects m).type ≡ t = ap (λ n. (look s.objects n).type) same ∙ f.of.typed in
      record {
        released = subst (λ t. IsTrue (release_set p t (look s.objects m).state)) (sym type) state;
        free = subst (IsFree p) (sym type) free;
      }
    where
      only : {m n : ℕ} → (m ≡ n) ⊎ ⊥ → m ≡ n
      only (inl e) = e
      only (inr none) = absurd none

  module _ (t : ℕ) (free : IsFree p t) where
    part_ends : (ty : Ty) (a : Part) → (is_owning ty ≡ true → IsAmong ty (owning_parts p t)) →
        ((m : ℕ) → In m (objects_in_part a) → (look s.objects m).state < 32) →
        FitsPart s names ty a → (m : ℕ) → In m (objects_in_part a) → MayEnd p (look s.objects m)
    part_ends (owning S u args) a among small f m i =
        let part = part_is_free p t free (owning S u args) (among refl) in
        let both = both_so (is_struct (decl_of p u)) (lies_within S (release_set p u))
        (not_false (is_struct (decl_of p u) && lies_within S (release_set p u)) part.0) in
        owned_ends S u args a part.1 both.1 small f m i
    part_ends int a among small f m i = absurd (subst (In m) (plain_part p s names int a refl f) i)
    part_ends bool a among small f m i = absurd (subst (In m) (plain_part p s names bool a refl f) i)
    part_ends (tracked k u args) a among small f m i =
        absurd (subst (In m) (plain_part p s names (tracked k u args) a refl f) i)
    part_ends (guarded k u args) a among small f m i =
        absurd (subst (In m) (plain_part p s names (guarded k u args) a refl f) i)
    part_ends (variant u args) a among small f m i = absurd f
    part_ends (owning_variant u args) a among small f m i = absurd f

    parts_end : (tys : List Ty) (parts : List Part) →
        ((ty : Ty) → IsAmong ty tys → is_owning ty ≡ true → IsAmong ty (owning_parts p t)) →
        ((m : ℕ) → In m (flat_map objects_in_part parts) → (look s.objects m).state < 32) →
        FitParts s names tys parts → (m : ℕ) → In m (flat_map objects_in_part parts) → MayEnd p (look s.objects m)
    parts_end [] [] among small f m i = absurd i
    parts_end [] (a ∷ parts) among small f m i = absurd f
    parts_end (ty ∷ tys) [] among small f m i = absurd f
    parts_end (ty ∷ tys) (a ∷ parts) among small f m i = ⊎_elim
        (λ here. part_ends ty a (among ty (inl refl)) (λ n j. small n (in_left n (objects_in_part a) (flat_map objects_in_part parts) j)) f.0 m here)
        (λ rest. parts_end tys parts (λ u j. among u (inr j))
        (λ n j. small n (in_right n (objects_in_part a) (flat_map objects_in_part parts) j)) f.1 m rest)
        (in_either m (objects_in_part a) (flat_map objects_in_part parts) i)

    -- a value of a variant without keys
    case_ends : is_keyed p t ≡ false → (a : Value) → AreSmall s (objects_in a) → IsCase p s names t a → (m : ℕ) →
        In m (objects_in a) → MayEnd p (look s.objects m)
    case_ends unkeyed a small f m i =
        let none : f.keys ≡ [] =
        no_keys p s names t f.decl.keys f.keys (none_at (λ c. is_filled c.keys) (cases_of p t) f.case f.decl unkeyed f.declared) f.held in
        let objects : objects_in a ≡ flat_map objects_in_part f.parts ++ f.keys = ap objects_in f.is in
        ⊎_elim
        (λ here. parts_end f.decl.payload f.parts (payload_among p t f.case f.decl f.declared)
        (λ n j. small n (subst (In n) (sym objects) (in_left n (flat_map objects_in_part f.parts) f.keys j))) f.fit m here)
        (λ key. absurd (subst (In m) none key))
        (in_either m (flat_map objects_in_part f.parts) f.keys (subst (In m) objects i))

module _ (p : Program) (s : Scene) (names : Names) where
  -- what a field of an object has
  field_ends : (t : ℕ) → IsFree p t → (ty : Ty) (a : Value) → (is_owning ty ≡ true → IsAmong ty (owning_parts p t)) →
      ((u : ℕ) (args : List ℕ) → ty ≡ variant u args → is_owning_type p u ≡ false) → AreSmall s (objects_in a) →
      Fits p s names ty a → (m : ℕ) → In m (objects_in a) → MayEnd p (look s.objects m)
  field_ends t free (owning S u args) a among copied small f m i =
      part_ends p s names t free (owning S u args) f.part among
      (λ n j. small n (subst (λ a. In n (objects_in a)) (sym f.is) j)) f.fits m (subst (λ a. In m (objects_in a)) f.is i)
  field_ends t free (owning_variant u args) a among copied small f m i =
      let part = part_is_free p t free (owning_variant u args) (among refl) in
      let both = neither (not (is_variant (decl_of p u))) (is_keyed p u) part.0 in
      case_ends p s (names_of (map names args)) u part.1 both.1 a small f m i
  field_ends t free int a among copied small f m i =
      absurd (subst (In m) (plain_value p s names int a refl copied f) i)
  field_ends t free bool a among copied small f m i =
      absurd (subst (In m) (plain_value p s names bool a refl copied f) i)
  field_ends t free (tracked k u args) a among copied small f m i =
      absurd (subst (In m) (plain_value p s names (tracked k u args) a refl copied f) i)
  field_ends t free (guarded k u args) a among copied small f m i =
      absurd (subst (In m) (plain_value p s names (guarded k u args) a refl copied f) i)
  field_ends t free (variant u args) a among copied small f m i =
      absurd (subst (In m) (plain_value p s names (variant u args) a refl copied f) i)

  -- what a value has that may be dropped
  pub value_ends : (ty : Ty) (a : Value) → is_droppable p ty ≡ true → AreSmall s (objects_in a) →
      Fits p s names ty a → (m : ℕ) → In m (objects_in a) → MayEnd p (look s.objects m)
  value_ends (owning S t args) a e small f m i =
      let both = both_so (is_droppable_struct p t) (lies_within S (release_set p t)) e in
      owned_ends p s names S t args f.part (droppable_free p t both.0) both.1
      (λ n j. small n (subst (λ a. In n (objects_in a)) (sym f.is) j)) f.fits m (subst (λ a. In m (objects_in a)) f.is i)
  value_ends (owning_variant t args) a e small f m i =
      let rest = both_so (is_variant (decl_of p t) && not (is_keyed p t)) (not (holds_undroppable p (length p.types) t)) e in
      let unkeyed = both_so (is_variant (decl_of p t)) (not (is_keyed p t)) rest.0 in
      case_ends p s (names_of (map names args)) t (record { is = not_true (holds_undroppable p (length p.types) t) rest.1 })
      (not_true (is_keyed p t) unkeyed.1) a small f m i
  value_ends int a e small f m i = cc
  value_ends bool a e small f m i = cc
  value_ends (tracked k t args) a e small f m i = cc
  value_ends (guarded k t args) a e small f m i = cc
  value_ends (variant t args) a e small f m i = cc

-- ---- objects

-- a cell's value fits its field
pub cell_fits : (p : Program) (s : Scene) (names : Names) (ds : List FieldDecl) (cells : List Value) (i : ℕ)
    (a : Value) → FitCells p s names ds cells → slice_get cells i ≡ Some a →
    (d : FieldDecl) × (slice_get ds i ≡ Some d) × Fits p s names d.ty a
cell_fits p s names ds [] i a f at = absurd (none-some a at)
cell_fits p s names [] (b ∷ cells) i a f at = absurd f
cell_fits p s names (d ∷ ds) (b ∷ cells) zero a f at =
    (d, refl, subst (Fits p s names d.ty) (same_Some b a at) f.0)
cell_fits p s names (d ∷ ds) (b ∷ cells) (suc i) a f at = cell_fits p s names ds cells i a f.1 at

module _ {p : Program} {f : Func} {c : Context} {h : HeldMap} {ids : Ids} {hand : List Handed} {frame : Frame} {os : List Object}
    (typed : IsTyped p f) (agrees : Agrees p f c h ids hand frame os) where
  pub live_small : (m : ℕ) → IsLive (look os) m → (look os m).state < 32
  live_small m live = (typed.limited.narrow (look os m).type).below (look os m).state (agrees.objects m live).state

  -- objects that a place owns
  pub placed_small : (P : Root) (m : ℕ) → In m (content (stock c hand frame os) P) → (look os m).state < 32
  placed_small P m i = live_small m (λ e. owned_not_gone P (sym (agrees.placed.here P m i).1 ∙ e))
    where
      owned_not_gone : (P : Root) → home P ≡ gone → ⊥
      owned_not_gone (in_var v) e = cc
      owned_not_gone in_hand e = cc
      owned_not_gone (in_wait d v) e = cc
      owned_not_gone (in_cell n i) e = cc

  -- an object that is in a field of one whose type may be dropped
  inside_ends : (m q : ℕ) → (look os m).owner ≡ inside q → IsFree p (look os q).type → MayEnd p (look os m)
  inside_ends m q is free =
      let t = agrees.placed.there m (subst IsOwned (sym is) tt) in
      at (agrees.placed.place m) t.has (t.lies ∙ is)
    where
      live : IsLive (look os) q
      live = (agrees.ranked.linked m q (ap above is)).live

      in_cells : (i : ℕ) → (o : Option Value) → slice_get (look os q).cells i ≡ o →
          ((n : ℕ) → In n (owned_by o) → (look os n).state < 32) → In m (owned_by o) → MayEnd p (look os m)
      in_cells i None at small j = absurd j
      in_cells i (Some a) at small j =
          let s = scene c os agrees.heads in
          let names = names_of (agrees.heads q) in
          let fit = cell_fits p s names (fields_of p (look os q).type) (look os q).cells i a (agrees.objects q live).cells at in
          field_ends p s names (look os q).type free fit.0.ty a
          (field_among p (look os q).type i fit.0 fit.1)
          (λ u args e. typed.field_variants (look os q).type i u fit.0 args fit.1 e) (small_all small) fit.2 m j
        where
          small_all : ((n : ℕ) → In n (objects_in a) → (look os n).state < 32) → AreSmall (scene c os agrees.heads) (objects_in a)
          small_all small = small

      at : (P : Root) → In m (content (stock c hand frame os) P) → home P ≡ inside q → MayEnd p (look os m)
      at (in_var v) i e = cc
      at in_hand i e = cc
      at (in_wait d v) i e = cc
      at (in_cell r i) j e =
          let same : r ≡ q = ap number e in
          let here : In m (cell_of (look os q) i) = subst (λ r. In m (cell_of (look os r) i)) same j in
          in_cells i (slice_get (look os q).cells i) refl
          (λ n k. placed_small (in_cell q i) n (subst (In n) (sym (cells_in (look os q) live i)) k))
          (subst (In m) (cells_in (look os q) live i) here)
        where
          number : Owner → ℕ
          number (inside n) = n
          number o = 0

  -- an object that is in one, or was adopted by it
  pub below_ends : (m q : ℕ) → above (look os m).owner ≡ Some q → IsFree p (look os q).type → MayEnd p (look os m)
  below_ends m q is free = by (look os m).owner refl is
    where
      by : (o : Owner) → (look os m).owner ≡ o → above o ≡ Some q → MayEnd p (look os m)
      by (inside r) e up = inside_ends m q (e ∙ ap inside (same_Some r q up)) free
      by (adopted_by g) e up =
          let a = agrees.adopted m g e in
          record { released = a.released; free = droppable_free p (look os m).type a.droppable }
      by (world.held d k) e up = cc
      by (world.lent d k) e up = cc
      by loose e up = cc
      by world.out e up = cc
      by gone e up = cc
