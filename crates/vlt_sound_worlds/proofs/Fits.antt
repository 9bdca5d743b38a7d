-- A value fits a type as long as what it refers to isn't lost, its objects keep their states, and its keys their names.
use Rattle.std.proofs.Common.{◌≡◌, inl, inr, ℕ, List, [], ◌∷◌, ◌++◌, map, refl, sym, ap, ◌∙◌, subst}
use Rattle.std.specs.List.{flat_map}
use Rattle.vlt_core.specs.Core.{Ty, int, bool, tracked, owning, guarded, variant, owning_variant, CaseKey, Program}
use Rattle.vlt_core.specs.Types.{keys_of_ty, stands_for, with_keys}
use Rattle.vlt_meaning.specs.World.{Part, Value, objects_in, objects_in_part}
use Rattle.vlt_sound_worlds.specs.Members.{In}
use Rattle.vlt_sound_worlds.proofs.Members.{in_left, in_right}
use Rattle.vlt_sound_worlds.specs.Scene.{Scene, IsOf, Grows, SameStates}
use Rattle.vlt_sound_worlds.specs.Fits.{Names, names_of, FitsPart, FitParts, FitKeys, IsCase, IsOne, Fits}

states_left : {s s' : Scene} (xs ys : List ℕ) → SameStates s s' (xs ++ ys) → SameStates s s' xs
states_left xs ys same =
    record { state = λ n i. same.state n (in_left n xs ys i); type = λ n i. same.type n (in_left n xs ys i) }

states_right : {s s' : Scene} (xs ys : List ℕ) → SameStates s s' (xs ++ ys) → SameStates s s' ys
states_right xs ys same =
    record { state = λ n i. same.state n (in_right n xs ys i); type = λ n i. same.type n (in_right n xs ys i) }

module _ (p : Program) {s s' : Scene} (g : Grows s s') where
  part_kept : (names : Names) (ty : Ty) (a : Part) → SameStates s s' (objects_in_part a) → FitsPart s names ty a →
      FitsPart s' names ty a
  part_kept names int a same f = f
  part_kept names bool a same f = f
  part_kept names (tracked k t args) a same f =
      record { object = f.object; named = f.named; is = f.is; of = g.kinds t _ f.object f.of }
  part_kept names (guarded k t args) a same f = record {
    guard = f.guard;
    named = f.named;
    object = f.object;
    is = f.is;
    of = g.kinds t _ f.object f.of;
    guarded = g.guards f.guard f.object f.guarded;
  }
  part_kept names (owning states t args) a same f = record {
    object = f.object;
    is = f.is;
    of = g.kinds t _ f.object f.of;
    state = rw (same.state f.object (subst (λ a. In f.object (objects_in_part a)) (sym f.is) (inl refl))) f.state;
  }
  part_kept names (variant t args) a same f = f
  part_kept names (owning_variant t args) a same f = f

  parts_kept : (names : Names) (ts : List Ty) (ps : List Part) → SameStates s s' (flat_map objects_in_part ps) →
      FitParts s names ts ps → FitParts s' names ts ps
  parts_kept names [] [] same f = f
  parts_kept names (t ∷ ts) (a ∷ ps) same f = (
    part_kept names t a (states_left (objects_in_part a) (flat_map objects_in_part ps) same) f.0,
    parts_kept names ts ps (states_right (objects_in_part a) (flat_map objects_in_part ps) same) f.1,
  )
  parts_kept names [] (a ∷ ps) same f = f
  parts_kept names (t ∷ ts) [] same f = f

  keys_kept : (names : Names) (t : ℕ) (ks : List CaseKey) (ns : List ℕ) → SameStates s s' ns →
      FitKeys p s names t ks ns → FitKeys p s' names t ks ns
  keys_kept names t [] [] same f = f
  keys_kept names t (k ∷ ks) (n ∷ ns) same f = (
    record { named = f.0.named; typed = rw (same.type n (inl refl)) f.0.typed; state = rw (same.state n (inl refl)) f.0.state },
    keys_kept names t ks ns (record { state = λ m i. same.state m (inr i); type = λ m i. same.type m (inr i) }) f.1,
  )
  keys_kept names t [] (n ∷ ns) same f = f
  keys_kept names t (k ∷ ks) [] same f = f

  case_kept : (names : Names) (t : ℕ) (v : Value) → SameStates s s' (objects_in v) → IsCase p s names t v →
      IsCase p s' names t v
  case_kept names t v same f =
      let at : SameStates s s' (flat_map objects_in_part f.parts ++ f.keys) =
      subst (λ v. SameStates s s' (objects_in v)) f.is same in
      record {
        case = f.case;
        decl = f.decl;
        parts = f.parts;
        keys = f.keys;
        is = f.is;
        declared = f.declared;
        fit = parts_kept names f.decl.payload f.parts (states_left (flat_map objects_in_part f.parts) f.keys at) f.fit;
        held = keys_kept names t f.decl.keys f.keys (states_right (flat_map objects_in_part f.parts) f.keys at) f.held;
      }

  one_kept : (names : Names) (ty : Ty) (v : Value) → SameStates s s' (objects_in v) → IsOne s names ty v →
      IsOne s' names ty v
  one_kept names ty v same f = record {
    part = f.part;
    is = f.is;
    fits = part_kept names ty f.part (subst (λ v. SameStates s s' (objects_in v)) f.is same) f.fits;
  }

  pub fits_kept : (names : Names) (ty : Ty) (v : Value) → SameStates s s' (objects_in v) → Fits p s names ty v →
      Fits p s' names ty v
  fits_kept names int v same f = one_kept names int v same f
  fits_kept names bool v same f = one_kept names bool v same f
  fits_kept names (tracked k t args) v same f = one_kept names (tracked k t args) v same f
  fits_kept names (owning S t args) v same f = one_kept names (owning S t args) v same f
  fits_kept names (guarded k t args) v same f = one_kept names (guarded k t args) v same f
  fits_kept names (variant t args) v same f = case_kept (names_of (map names args)) t v same f
  fits_kept names (owning_variant t args) v same f = case_kept (names_of (map names args)) t v same f

-- ---- names

names_same : (names names' : Names) (ks : List ℕ) → ((k : ℕ) → In k ks → names' k ≡ names k) →
    map names' ks ≡ map names ks
names_same names names' [] same = refl
names_same names names' (k ∷ ks) same =
    ap (λ n. n ∷ map names' ks) (same k (inl refl))
    ∙ ap (λ ns. names k ∷ ns) (names_same names names' ks (λ j i. same j (inr i)))

module _ (p : Program) (s : Scene) (names names' : Names) where
  one_named : (ty : Ty) (v : Value) → ((a : Part) → FitsPart s names ty a → FitsPart s names' ty a) →
      IsOne s names ty v → IsOne s names' ty v
  one_named ty v to f = record { part = f.part; is = f.is; fits = to f.part f.fits }

  -- a value fits where the keys of its type have the same names
  pub fits_named : (ty : Ty) (v : Value) → ((k : ℕ) → In k (keys_of_ty ty) → names' k ≡ names k) →
      Fits p s names ty v → Fits p s names' ty v
  fits_named int v same f = one_named int v (λ a i. i) f
  fits_named bool v same f = one_named bool v (λ a i. i) f
  fits_named (tracked k t args) v same f = one_named (tracked k t args) v (λ a i. record {
    object = i.object;
    named = same k (inl refl) ∙ i.named;
    is = i.is;
    of = subst (λ hs. IsOf s t hs i.object) (sym (names_same names names' args (λ j q. same j (inr q)))) i.of;
  }) f
  fits_named (guarded k t args) v same f = one_named (guarded k t args) v (λ a i. record {
    guard = i.guard;
    named = same k (inl refl) ∙ i.named;
    object = i.object;
    is = i.is;
    of = subst (λ hs. IsOf s t hs i.object) (sym (names_same names names' args (λ j q. same j (inr q)))) i.of;
    guarded = i.guarded;
  }) f
  fits_named (owning S t args) v same f = one_named (owning S t args) v (λ a i. record {
    object = i.object;
    is = i.is;
    of = subst (λ hs. IsOf s t hs i.object) (sym (names_same names names' args same)) i.of;
    state = i.state;
  }) f
  fits_named (variant t args) v same f =
      subst (λ hs. IsCase p s (names_of hs) t v) (sym (names_same names names' args same)) f
  fits_named (owning_variant t args) v same f =
      subst (λ hs. IsCase p s (names_of hs) t v) (sym (names_same names names' args same)) f

-- ---- keys that stand for others

map_twice : (names : Names) (keys ks : List ℕ) →
    map names (map (stands_for keys) ks) ≡ map (λ k. names (stands_for keys k)) ks
map_twice names keys [] = refl
map_twice names keys (k ∷ ks) = ap (λ ns. names (stands_for keys k) ∷ ns) (map_twice names keys ks)

module _ (p : Program) (s : Scene) (names : Names) (keys : List ℕ) where
  abbrev following : Names
  following k = names (stands_for keys k)

  -- a value fits the type with other keys just where it fits the type under what these stand for
  pub fits_after : (ty : Ty) (v : Value) → Fits p s names (with_keys keys ty) v →
      Fits p s (λ k. names (stands_for keys k)) ty v
  fits_after int v f = record { part = f.part; is = f.is; fits = f.fits }
  fits_after bool v f = record { part = f.part; is = f.is; fits = f.fits }
  fits_after (tracked k t args) v f = record {
    part = f.part;
    is = f.is;
    fits = record {
      object = f.fits.object;
      named = f.fits.named;
      is = f.fits.is;
      of = subst (λ hs. IsOf s t hs f.fits.object) (map_twice names keys args) f.fits.of;
    };
  }
  fits_after (guarded k t args) v f = record {
    part = f.part;
    is = f.is;
    fits = record {
      guard = f.fits.guard;
      named = f.fits.named;
      object = f.fits.object;
      is = f.fits.is;
      of = subst (λ hs. IsOf s t hs f.fits.object) (map_twice names keys args) f.fits.of;
      guarded = f.fits.guarded;
    };
  }
  fits_after (owning S t args) v f = record {
    part = f.part;
    is = f.is;
    fits = record {
      object = f.fits.object;
      is = f.fits.is;
      of = subst (λ hs. IsOf s t hs f.fits.object) (map_twice names keys args) f.fits.of;
      state = f.fits.state;
    };
  }
  fits_after (variant t args) v f = subst (λ hs. IsCase p s (names_of hs) t v) (map_twice names keys args) f
  fits_after (owning_variant t args) v f = subst (λ hs. IsCase p s (names_of hs) t v) (map_twice names keys args) f

  pub fits_before : (ty : Ty) (v : Value) → Fits p s (λ k. names (stands_for keys k)) ty v →
      Fits p s names (with_keys keys ty) v
  fits_before int v f = record { part = f.part; is = f.is; fits = f.fits }
  fits_before bool v f = record { part = f.part; is = f.is; fits = f.fits }
  fits_before (tracked k t args) v f = record {
    part = f.part;
    is = f.is;
    fits = record {
      object = f.fits.object;
      named = f.fits.named;
      is = f.fits.is;
      of = subst (λ hs. IsOf s t hs f.fits.object) (sym (map_twice names keys args)) f.fits.of;
    };
  }
  fits_before (guarded k t args) v f = record {
    part = f.part;
    is = f.is;
    fits = record {
      guard = f.fits.guard;
      named = f.fits.named;
      object = f.fits.object;
      is = f.fits.is;
      of = subst (λ hs. IsOf s t hs f.fits.object) (sym (map_twice names keys args)) f.fits.of;
      guarded = f.fits.guarded;
    };
  }
  fits_before (owning S t args) v f = record {
    part = f.part;
    is = f.is;
    fits = record {
      object = f.fits.object;
      is = f.fits.is;
      of = subst (λ hs. IsOf s t hs f.fits.object) (sym (map_twice names keys args)) f.fits.of;
      state = f.fits.state;
    };
  }
  fits_before (variant t args) v f = subst (λ hs. IsCase p s (names_of hs) t v) (sym (map_twice names keys args)) f
  fits_before (owning_variant t args) v f =
      subst (λ hs. IsCase p s (names_of hs) t v) (sym (map_twice names keys args)) f
