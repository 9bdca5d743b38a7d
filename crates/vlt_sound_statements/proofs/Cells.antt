-- The values of an object's owning fields.
use Rattle.std.proofs.Common.{◌≡◌, ⊎_elim, ℕ, zero, suc, Bool, true, false, if◌then◌else◌, List, [], ◌∷◌, ◌++◌, map, filter, Some, refl, ap, ◌∙◌, subst, slice_get}
use Rattle.std.specs.List.{flat_map}
use Rattle.vlt_core.specs.Core.{variant, FieldDecl, Program}
use Rattle.vlt_core.specs.Lookups.{is_owning}
use Rattle.vlt_core.specs.Types.{is_owning_type, with_keys}
use Rattle.vlt_meaning.specs.World.{Value, objects_in}
use Rattle.vlt_meaning.specs.Operands.{owning_cells}
use Rattle.vlt_sound_worlds.specs.Members.{In, IsOnce}
use Rattle.vlt_sound_worlds.specs.Roots.{owned_by}
use Rattle.vlt_sound_worlds.proofs.Members.{in_left, in_right, in_either, once_both}
use Rattle.vlt_sound_worlds.specs.Scene.{Scene}
use Rattle.vlt_sound_worlds.specs.Fits.{Names, Fits}
use Rattle.vlt_sound_worlds.specs.Agrees.{FitCells, Handed, values_of, FitHanded}
use Rattle.vlt_sound_worlds.proofs.Plain.{plain_value}
use Rattle.vlt_sound_worlds.proofs.Fields.{owns_after}

-- the objects of all owning fields
abbrev pub out_of : List FieldDecl → List Value → List ℕ
out_of ds cells = flat_map objects_in (owning_cells ds cells)

-- each is in a field
pub out_in : (ds : List FieldDecl) (cells : List Value) (m : ℕ) → In m (out_of ds cells) →
    (i : ℕ) × In m (owned_by (slice_get cells i))
out_in [] cells m i = absurd i
out_in (d ∷ ds) [] m i = absurd i
out_in (d ∷ ds) (a ∷ cells) m i = by (is_owning d.ty) (out_in ds cells m) i
  where
    by : (b : Bool) → (In m (out_of ds cells) → (i : ℕ) × In m (owned_by (slice_get cells i))) →
        In m (flat_map objects_in (if b then a ∷ owning_cells ds cells else owning_cells ds cells)) →
        (i : ℕ) × In m (owned_by (slice_get (a ∷ cells) i))
    by true more i = ⊎_elim
        (λ here. (0, here))
        (λ rest. let r = more rest in (suc r.0, r.1))
        (in_either m (objects_in a) (out_of ds cells) i)
    by false more i = let r = more i in (suc r.0, r.1)

-- objects of fields are in one field each, once
pub record AreApart (cells : List Value) : Type 0 where
  pub once : (i : ℕ) → IsOnce (owned_by (slice_get cells i))
  pub one : (i j m : ℕ) → In m (owned_by (slice_get cells i)) → In m (owned_by (slice_get cells j)) → i ≡ j

abbrev number_before : ℕ → ℕ
number_before zero = zero
number_before (suc n) = n

pub out_once : (ds : List FieldDecl) (cells : List Value) → AreApart cells → IsOnce (out_of ds cells)
out_once [] cells apart = tt
out_once (d ∷ ds) [] apart = tt
out_once (d ∷ ds) (a ∷ cells) apart = by (is_owning d.ty) (out_once ds cells rest)
  where
    rest : AreApart cells
    rest = record {
      once = λ i. apart.once (suc i);
      one = λ i j m x y. ap number_before (apart.one (suc i) (suc j) m x y);
    }

    by : (b : Bool) → IsOnce (out_of ds cells) →
        IsOnce (flat_map objects_in (if b then a ∷ owning_cells ds cells else owning_cells ds cells))
    by true once = once_both (objects_in a) (out_of ds cells) (apart.once 0) once (λ m x y.
        let r = out_in ds cells m y in
        let e = apart.one 0 (suc r.0) m x r.1 in
        cc)
    by false once = once

module _ (p : Program) (s : Scene) (names : Names) where
  -- what a field has that doesn't own is nothing
  pub all_out : (ds : List FieldDecl) (cells : List Value) → FitCells p s names ds cells →
      ((i u : ℕ) (d : FieldDecl) (args : List ℕ) → slice_get ds i ≡ Some d → d.ty ≡ variant u args → is_owning_type p u ≡ false) →
      (i m : ℕ) → In m (owned_by (slice_get cells i)) → In m (out_of ds cells)
  all_out [] [] fit copied i m at = absurd at
  all_out [] (a ∷ cells) fit copied i m at = absurd fit
  all_out (d ∷ ds) [] fit copied i m at = absurd fit
  all_out (d ∷ ds) (a ∷ cells) fit copied i m at =
      by (is_owning d.ty) refl (all_out ds cells fit.1 (λ j u e args. copied (suc j) u e args)) i at
    where
      by : (b : Bool) → is_owning d.ty ≡ b → ((i m : ℕ) → In m (owned_by (slice_get cells i)) → In m (out_of ds cells)) →
          (i : ℕ) → In m (owned_by (slice_get (a ∷ cells) i)) →
          In m (flat_map objects_in (if b then a ∷ owning_cells ds cells else owning_cells ds cells))
      by true is more zero at = in_left m (objects_in a) (out_of ds cells) at
      by true is more (suc i) at = in_right m (objects_in a) (out_of ds cells) (more i m at)
      by false is more zero at =
          absurd (subst (In m) (plain_value p s names d.ty a is (λ u args e. copied 0 u d args refl e) fit.0) at)
      by false is more (suc i) at = more i m at

-- ---- as values that are handed over

abbrev pub given_out : (args : List ℕ) → List FieldDecl → List Value → List Handed
given_out args (d ∷ ds) (a ∷ cells) =
    if is_owning d.ty then record { value = a; type = with_keys args d.ty } ∷ given_out args ds cells
    else given_out args ds cells
given_out args _ _ = []

pub given_values : (args : List ℕ) (ds : List FieldDecl) (cells : List Value) →
    map (λ x. x.value) (given_out args ds cells) ≡ owning_cells ds cells
given_values args [] cells = refl
given_values args (d ∷ ds) [] = refl
given_values args (d ∷ ds) (a ∷ cells) = by (is_owning d.ty) (given_values args ds cells)
  where
    by : (b : Bool) → map (λ x. x.value) (given_out args ds cells) ≡ owning_cells ds cells →
        map (λ x. x.value) (if b then record { value = a; type = with_keys args d.ty } ∷ given_out args ds cells else given_out args ds cells)
        ≡ (if b then a ∷ owning_cells ds cells else owning_cells ds cells)
    by true e = ap (λ rest. a ∷ rest) e
    by false e = e

pub values_flat : (xs : List Handed) → values_of xs ≡ flat_map objects_in (map (λ x. x.value) xs)
values_flat [] = refl
values_flat (x ∷ xs) = ap (λ rest. objects_in x.value ++ rest) (values_flat xs)

pub given_objects : (args : List ℕ) (ds : List FieldDecl) (cells : List Value) →
    values_of (given_out args ds cells) ≡ out_of ds cells
given_objects args ds cells =
    values_flat (given_out args ds cells) ∙ ap (flat_map objects_in) (given_values args ds cells)

-- their types are those of the owning fields, where the object has a value for each field
pub given_types : (p : Program) (s : Scene) (names : Names) (args : List ℕ) (ds : List FieldDecl)
    (cells : List Value) → FitCells p s names ds cells →
    map (λ x. x.type) (given_out args ds cells) ≡ filter is_owning (map (λ d. with_keys args d.ty) ds)
given_types p s names args [] [] fit = refl
given_types p s names args [] (a ∷ cells) fit = absurd fit
given_types p s names args (d ∷ ds) [] fit = absurd fit
given_types p s names args (d ∷ ds) (a ∷ cells) fit =
    by (is_owning d.ty) (is_owning (with_keys args d.ty)) (owns_after args d.ty)
    (given_types p s names args ds cells fit.1)
  where
    by : (b c : Bool) → c ≡ b →
        map (λ x. x.type) (given_out args ds cells) ≡ filter is_owning (map (λ d. with_keys args d.ty) ds) →
        map (λ x. x.type) (if b then record { value = a; type = with_keys args d.ty } ∷ given_out args ds cells else given_out args ds cells)
        ≡ (if c then with_keys args d.ty ∷ filter is_owning (map (λ d. with_keys args d.ty) ds)
        else filter is_owning (map (λ d. with_keys args d.ty) ds))
    by true true q e = ap (λ rest. with_keys args d.ty ∷ rest) e
    by false false q e = e
    by true false q e = cc
    by false true q e = cc

-- each owns
abbrev pub AreOwningHanded : List Handed → Type 0
AreOwningHanded [] = Unit {0}
AreOwningHanded (x ∷ xs) = (is_owning x.type ≡ true) × AreOwningHanded xs

pub given_owning : (args : List ℕ) (ds : List FieldDecl) (cells : List Value) →
    AreOwningHanded (given_out args ds cells)
given_owning args [] cells = tt
given_owning args (d ∷ ds) [] = tt
given_owning args (d ∷ ds) (a ∷ cells) = by (is_owning d.ty) refl (given_owning args ds cells)
  where
    by : (b : Bool) → is_owning d.ty ≡ b → AreOwningHanded (given_out args ds cells) →
        AreOwningHanded (if b then record { value = a; type = with_keys args d.ty } ∷ given_out args ds cells else given_out args ds cells)
    by true is rest = (owns_after args d.ty ∙ is, rest)
    by false is rest = rest

-- what fits its field fits the field's type with the keys that stand for the header
pub given_fit : (p : Program) (s : Scene) (names following : Names) (args : List ℕ) (ds : List FieldDecl)
    (cells : List Value) → FitCells p s following ds cells →
    ((i : ℕ) (d : FieldDecl) (a : Value) → slice_get ds i ≡ Some d → Fits p s following d.ty a → Fits p s names (with_keys args d.ty) a) →
    FitHanded p s names (given_out args ds cells)
given_fit p s names following args [] [] fit to = tt
given_fit p s names following args [] (a ∷ cells) fit to = absurd fit
given_fit p s names following args (d ∷ ds) [] fit to = absurd fit
given_fit p s names following args (d ∷ ds) (a ∷ cells) fit to =
    by (is_owning d.ty) (given_fit p s names following args ds cells fit.1 (λ i. to (suc i)))
  where
    by : (b : Bool) → FitHanded p s names (given_out args ds cells) →
        FitHanded p s names (if b then record { value = a; type = with_keys args d.ty } ∷ given_out args ds cells else given_out args ds cells)
    by true rest = (to 0 d a refl fit.0, rest)
    by false rest = rest
