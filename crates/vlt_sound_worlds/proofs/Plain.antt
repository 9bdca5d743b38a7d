-- Types that are the same, and values that own nothing.
use Rattle.std.proofs.Common.{◌≡◌, ℕ, zero, suc, ◌==◌, Bool, true, false, ◌||◌, List, [], ◌∷◌, ◌++◌, map, Some, refl, sym, ap, ◌∙◌, slice_get}
use Rattle.std.proofs.lemmas.Bool.{eqb-true}
use Rattle.std.proofs.lemmas.Option.{none-some, same_Some}
use Rattle.std.specs.List.{flat_map, list_any}
use Rattle.vlt_core.specs.Core.{Ty, int, bool, tracked, owning, guarded, variant, owning_variant, CaseKey, CaseDecl, Program}
use Rattle.vlt_core.specs.Lookups.{is_owning, cases_of}
use Rattle.vlt_core.specs.Types.{same_ty, same_keys, same_object, is_filled, is_keyed, is_owning_type}
use Rattle.vlt_meaning.specs.World.{Value, Part, objects_in, objects_in_part}
use Rattle.vlt_sound_worlds.specs.Scene.{Scene}
use Rattle.vlt_sound_worlds.specs.Fits.{Names, names_of, FitsPart, FitParts, FitKeys, IsCase, Fits}
use Rattle.vlt_sound_worlds.proofs.Empty.{both_so}

pub keys_same : (a b : List ℕ) → same_keys a b ≡ true → a ≡ b
keys_same [] [] e = refl
keys_same [] (b ∷ bs) e = cc
keys_same (a ∷ rest) [] e = cc
keys_same (a ∷ rest) (b ∷ bs) e =
    let both = both_so (a == b) (same_keys rest bs) e in
    ap (λ x. x ∷ rest) (eqb-true a b both.0) ∙ ap (λ xs. b ∷ xs) (keys_same rest bs both.1)

-- types that own nothing are the same where they are found so
pub same_plain : (w t : Ty) → is_owning t ≡ false → same_ty w t ≡ true → w ≡ t
same_plain int int o e = refl
same_plain int bool o e = cc
same_plain int (tracked k' t' a') o e = cc
same_plain int (owning k' t' a') o e = cc
same_plain int (guarded k' t' a') o e = cc
same_plain int (variant t' a') o e = cc
same_plain int (owning_variant t' a') o e = cc
same_plain bool int o e = cc
same_plain bool bool o e = refl
same_plain bool (tracked k' t' a') o e = cc
same_plain bool (owning k' t' a') o e = cc
same_plain bool (guarded k' t' a') o e = cc
same_plain bool (variant t' a') o e = cc
same_plain bool (owning_variant t' a') o e = cc
same_plain (tracked k t a) int o e = cc
same_plain (tracked k t a) bool o e = cc
same_plain (tracked k t a) (tracked k' t' a') o e =
    let first = both_so (k == k') (same_object t a t' a') e in
    let both = both_so (t == t') (same_keys a a') first.1 in
    ap (λ k. tracked k t a) (eqb-true k k' first.0)
    ∙ (ap (λ t. tracked k' t a) (eqb-true t t' both.0) ∙ ap (tracked k' t') (keys_same a a' both.1))
same_plain (tracked k t a) (owning k' t' a') o e = cc
same_plain (tracked k t a) (guarded k' t' a') o e = cc
same_plain (tracked k t a) (variant t' a') o e = cc
same_plain (tracked k t a) (owning_variant t' a') o e = cc
same_plain (owning k t a) int o e = cc
same_plain (owning k t a) bool o e = cc
same_plain (owning k t a) (tracked k' t' a') o e = cc
same_plain (owning k t a) (owning k' t' a') o e = cc
same_plain (owning k t a) (guarded k' t' a') o e = cc
same_plain (owning k t a) (variant t' a') o e = cc
same_plain (owning k t a) (owning_variant t' a') o e = cc
same_plain (guarded k t a) int o e = cc
same_plain (guarded k t a) bool o e = cc
same_plain (guarded k t a) (tracked k' t' a') o e = cc
same_plain (guarded k t a) (owning k' t' a') o e = cc
same_plain (guarded k t a) (guarded k' t' a') o e =
    let first = both_so (k == k') (same_object t a t' a') e in
    let both = both_so (t == t') (same_keys a a') first.1 in
    ap (λ k. guarded k t a) (eqb-true k k' first.0)
    ∙ (ap (λ t. guarded k' t a) (eqb-true t t' both.0) ∙ ap (guarded k' t') (keys_same a a' both.1))
same_plain (guarded k t a) (variant t' a') o e = cc
same_plain (guarded k t a) (owning_variant t' a') o e = cc
same_plain (variant t a) int o e = cc
same_plain (variant t a) bool o e = cc
same_plain (variant t a) (tracked k' t' a') o e = cc
same_plain (variant t a) (owning k' t' a') o e = cc
same_plain (variant t a) (guarded k' t' a') o e = cc
same_plain (variant t a) (variant t' a') o e =
    let both = both_so (t == t') (same_keys a a') e in
    ap (λ t. variant t a) (eqb-true t t' both.0) ∙ ap (variant t') (keys_same a a' both.1)
same_plain (variant t a) (owning_variant t' a') o e = cc
same_plain (owning_variant t a) int o e = cc
same_plain (owning_variant t a) bool o e = cc
same_plain (owning_variant t a) (tracked k' t' a') o e = cc
same_plain (owning_variant t a) (owning k' t' a') o e = cc
same_plain (owning_variant t a) (guarded k' t' a') o e = cc
same_plain (owning_variant t a) (variant t' a') o e = cc
same_plain (owning_variant t a) (owning_variant t' a') o e = cc

-- ---- values that own nothing

pub neither : (a b : Bool) → (a || b) ≡ false → (a ≡ false) × (b ≡ false)
neither true b e = cc
neither false b e = (refl, e)

module _ (p : Program) (s : Scene) (names : Names) where
  pub plain_part : (ty : Ty) (a : Part) → is_owning ty ≡ false → FitsPart s names ty a → objects_in_part a ≡ []
  plain_part int a o f = ap objects_in_part f.1
  plain_part bool a o f = ap objects_in_part f.1
  plain_part (tracked k t args) a o f = ap objects_in_part f.is
  plain_part (guarded k t args) a o f = ap objects_in_part f.is
  plain_part (owning S t args) a o f = cc
  plain_part (variant t args) a o f = absurd f
  plain_part (owning_variant t args) a o f = absurd f

  plain_parts : (ts : List Ty) (ps : List Part) → list_any is_owning ts ≡ false → FitParts s names ts ps →
      flat_map objects_in_part ps ≡ []
  plain_parts [] [] o f = refl
  plain_parts [] (a ∷ ps) o f = absurd f
  plain_parts (t ∷ ts) [] o f = absurd f
  plain_parts (t ∷ ts) (a ∷ ps) o f =
      let both = neither (is_owning t) (list_any is_owning ts) o in
      ap (λ ns. ns ++ flat_map objects_in_part ps) (plain_part t a both.0 f.0) ∙ plain_parts ts ps both.1 f.1

  pub no_keys : (t : ℕ) (ks : List CaseKey) (ns : List ℕ) → is_filled ks ≡ false → FitKeys p s names t ks ns → ns ≡ []
  no_keys t [] [] e f = refl
  no_keys t [] (n ∷ ns) e f = absurd f
  no_keys t (k ∷ ks) ns e f = cc

-- a test that no case passes, none of them passes
pub none_at : (test : CaseDecl → Bool) (cs : List CaseDecl) (c : ℕ) (d : CaseDecl) → list_any test cs ≡ false →
    slice_get cs c ≡ Some d → test d ≡ false
none_at test [] c d e at = absurd (none-some d at)
none_at test (x ∷ cs) zero d e at = ap test (sym (same_Some x d at)) ∙ (neither (test x) (list_any test cs) e).0
none_at test (x ∷ cs) (suc c) d e at = none_at test cs c d (neither (test x) (list_any test cs) e).1 at

plain_case : (p : Program) (s : Scene) (names : Names) (t : ℕ) (v : Value) → is_owning_type p t ≡ false →
    IsCase p s names t v → objects_in v ≡ []
plain_case p s names t v e f =
    let both = neither (is_keyed p t) (list_any (λ c. list_any is_owning c.payload) (cases_of p t)) e in
    let keys = none_at (λ c. is_filled c.keys) (cases_of p t) f.case f.decl both.0 f.declared in
    let payload = none_at (λ c. list_any is_owning c.payload) (cases_of p t) f.case f.decl both.1 f.declared in
    ap objects_in f.is ∙ (ap (λ ns. ns ++ f.keys) (plain_parts p s names f.decl.payload f.parts payload f.fit) ∙
    no_keys p s names t f.decl.keys f.keys keys f.held)

-- a value of a type that owns nothing has no objects
pub plain_value : (p : Program) (s : Scene) (names : Names) (ty : Ty) (v : Value) → is_owning ty ≡ false →
    ((t : ℕ) (args : List ℕ) → ty ≡ variant t args → is_owning_type p t ≡ false) → Fits p s names ty v →
    objects_in v ≡ []
plain_value p s names int v o var f = ap objects_in f.is ∙ plain_part p s names int f.part o f.fits
plain_value p s names bool v o var f = ap objects_in f.is ∙ plain_part p s names bool f.part o f.fits
plain_value p s names (tracked k t args) v o var f =
    ap objects_in f.is ∙ plain_part p s names (tracked k t args) f.part o f.fits
plain_value p s names (guarded k t args) v o var f =
    ap objects_in f.is ∙ plain_part p s names (guarded k t args) f.part o f.fits
plain_value p s names (owning S t args) v o var f = cc
plain_value p s names (variant t args) v o var f = plain_case p s (names_of (map names args)) t v (var t args refl) f
plain_value p s names (owning_variant t args) v o var f = cc
