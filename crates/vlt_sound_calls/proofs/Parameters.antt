-- What is handed over goes to the parameters of a callee, and the caller's variables wait.
use Rattle.std.proofs.Common.{◌≡◌, ◌⊎◌, ⊎_elim, ℕ, zero, suc, ◌==◌, ◌+◌, ◌<◌, ◌≤◌, Bool, true, false, ◌||◌, if◌then◌else◌, List, [], ◌∷◌, ◌++◌, map, length, take, Option, Some, None, refl, sym, ap, ◌∙◌, subst, arith, slice_get}
use Rattle.std.proofs.lemmas.Bool.{cases_eq, eq-eqb, ne_eqb}
use Rattle.std.proofs.lemmas.List.{append-nil, append_assoc}
use Rattle.std.proofs.lemmas.Option.{none-some, same_Some, slice_get_past}
use Rattle.std.specs.List.{flat_map, range_with_len}
use Rattle.std.specs.Option.{option_map}
use Rattle.vlt_core.specs.Core.{Ty, VarDecl, Program}
use Rattle.vlt_core.specs.Types.{with_keys}
use Rattle.vlt_core.specs.KindedHeads.{has}
use Rattle.vlt_meaning.specs.World.{Value, objects_in, Owner, Object}
use Rattle.vlt_meaning_laws.proofs.Lists.{get_last}
use Rattle.vlt_sound_worlds.specs.Members.{In, IsOnce}
use Rattle.vlt_sound_worlds.specs.Placed.{IsPlaced}
use Rattle.vlt_sound_worlds.specs.Roots.{Root, in_var, in_hand, in_wait, in_cell, owned_by, content, home}
use Rattle.vlt_sound_worlds.proofs.Members.{in_left}
use Rattle.vlt_sound_worlds.proofs.Placed as placed
use Rattle.vlt_sound_worlds.proofs.Roots.{same_root}
use Rattle.vlt_sound_worlds.specs.Scene.{Scene}
use Rattle.vlt_sound_worlds.specs.Fits.{Names, Fits}
use Rattle.vlt_sound_worlds.specs.Agrees.{values_of, FitHanded, Waiting}
use Rattle.vlt_sound_worlds.proofs.Binding.{first_or_other}
use Rattle.vlt_sound_worlds.specs.Handed.{handed_values}
use Rattle.vlt_sound_calls.specs.Callee.{with_waiting}

-- ---- waiting functions by depth

pub waiting_here : (d : ℕ) (a : Waiting) (old : ℕ → Waiting) (e : ℕ) → e ≡ d → with_waiting d a old e ≡ a
waiting_here d a old e same = ap (λ b. if b then a else old e) (eq-eqb e d same)

pub waiting_other : (d : ℕ) (a : Waiting) (old : ℕ → Waiting) (e : ℕ) → (e ≡ d → ⊥) → with_waiting d a old e ≡ old e
waiting_other d a old e other = ap (λ b. if b then a else old e) (ne_eqb e d other)

-- the variables of the caller are now those of one that waits
module _ (vars : ℕ → Option Value) (hand : List ℕ) (d : ℕ) (a : Waiting) (old : ℕ → Waiting) (os : ℕ → Object)
    (owner : ℕ → Owner) (mine : a.frame.vars ≡ vars) (free : (v : ℕ) → owned_by ((old d).frame.vars v) ≡ []) where
  abbrev before : Root → List ℕ
  before = content (record { vars = vars; hand = hand; waits = λ e. (old e).frame.vars; objects = os })

  abbrev following : Root → List ℕ
  following =
      content (record { vars = λ v. None; hand = hand; waits = λ e. (with_waiting d a old e).frame.vars; objects = os })

  to_wait : Root → Root
  to_wait (in_var v) = in_wait d v
  to_wait in_hand = in_hand
  to_wait (in_wait e v) = in_wait e v
  to_wait (in_cell n i) = in_cell n i

  here : (v e : ℕ) → e ≡ d → owned_by ((with_waiting d a old e).frame.vars v) ≡ owned_by (vars v)
  here v e same =
      ap (λ b. owned_by (b.frame.vars v)) (waiting_here d a old e same) ∙ ap (λ vs. owned_by (vs v)) mine

  there : (v e : ℕ) → (e ≡ d → ⊥) → owned_by ((with_waiting d a old e).frame.vars v) ≡ owned_by ((old e).frame.vars v)
  there v e other = ap (λ b. owned_by (b.frame.vars v)) (waiting_other d a old e other)

  pub vars_wait : IsPlaced before home owner → IsPlaced following home owner
  unfolding to_wait
  vars_wait was = placed.renamed home same_root was to_wait to back once (λ n. refl)
    where
      to : (P : Root) (n : ℕ) → In n (before P) → In n (following (to_wait P)) × (home (to_wait P) ≡ home P)
      to (in_var v) n i = (subst (In n) (sym (here v d refl)) i, refl)
      to in_hand n i = (i, refl)
      to (in_wait e v) n i = (
        ⊎_elim
            (λ same. absurd (subst (In n) (free v) (subst (λ e. In n (owned_by ((old e).frame.vars v))) same i)))
            (λ other. subst (In n) (sym (there v e other)) i)
            (cases_eq e d),
        refl,
      )
      to (in_cell m j) n i = (i, refl)

      back : (P : Root) (n : ℕ) → In n (following P) → (Q : Root) × (to_wait Q ≡ P) × In n (before Q)
      back (in_var v) n i = absurd i
      back in_hand n i = (in_hand, refl, i)
      back (in_wait e v) n i = ⊎_elim
          (λ same. (in_var v, ap (λ k. in_wait k v) (sym same), subst (In n) (here v e same) i))
          (λ other. (in_wait e v, refl, subst (In n) (there v e other) i))
          (cases_eq e d)
      back (in_cell m j) n i = (in_cell m j, refl, i)

      once : (P : Root) → IsOnce (following P)
      once (in_var v) = tt
      once in_hand = was.once in_hand
      once (in_wait e v) = ⊎_elim
          (λ same. subst IsOnce (sym (here v e same)) (was.once (in_var v)))
          (λ other. subst IsOnce (sym (there v e other)) (was.once (in_wait e v)))
          (cases_eq e d)
      once (in_cell m j) = was.once (in_cell m j)

-- ---- values of a list go to variables

more_other : {A : Type 0} (xs : List A) (x : A) (m : ℕ) → (m ≡ length xs → ⊥) → slice_get (xs ++ x ∷ []) m ≡ slice_get xs m
more_other [] x zero other = absurd (other refl)
more_other [] x (suc m) other = refl
more_other (y ∷ xs) x zero other = refl
more_other (y ∷ xs) x (suc m) other = more_other xs x m (λ e. other (ap suc e))

module _ (waits : (d v : ℕ) → Option Value) (os : ℕ → Object) (owner : ℕ → Owner) where
  abbrev with_values : List Value → List Value → Root → List ℕ
  with_values done rest =
      content (record { vars = slice_get done; hand = flat_map objects_in rest; waits = waits; objects = os })

  pub values_fill : (rest done : List Value) → IsPlaced (with_values done rest) home owner →
      IsPlaced (with_values (done ++ rest) []) home owner
  values_fill [] done was = subst (λ vs. IsPlaced (with_values vs []) home owner) (sym (append-nil done)) was
  values_fill (a ∷ rest) done was =
      subst (λ vs. IsPlaced (with_values vs []) home owner) (append_assoc done (a ∷ []) rest)
      (values_fill rest (done ++ a ∷ []) next)
    where
      next : IsPlaced (with_values (done ++ a ∷ []) rest) home owner
      next = placed.shifted home same_root was in_hand (in_var (length done)) (objects_in a) (flat_map objects_in rest) []
          (record {
            apart = λ e. cc;
            was = refl;
            left = refl;
            before = ap owned_by (slice_get_past done (length done) (omega arith));
            now = ap owned_by (get_last done a);
            others = others;
          })
          (record {
            those = λ n i. (was.here in_hand n (in_left n (objects_in a) (flat_map objects_in rest) i)).1;
            others = λ n i. refl;
          })
        where
          others : (P : Root) → (P ≡ in_hand → ⊥) → (P ≡ in_var (length done) → ⊥) →
              with_values (done ++ a ∷ []) rest P ≡ with_values done (a ∷ rest) P
          others (in_var v) x y = ap owned_by (more_other done a v (λ e. y (ap in_var e)))
          others in_hand x y = absurd (x refl)
          others (in_wait d v) x y = refl
          others (in_cell n i) x y = refl

-- what is handed over has the objects of the values
pub handed_objects : (types : List Ty) (values : List Value) → length values ≡ length types →
    values_of (handed_values types values) ≡ flat_map objects_in values
handed_objects [] [] e = refl
handed_objects [] (a ∷ values) e = cc
handed_objects (t ∷ types) [] e = refl
handed_objects (t ∷ types) (a ∷ values) e =
    ap (λ ns. objects_in a ++ ns) (handed_objects types values (suc_same e))
  where
    suc_same : {n m : ℕ} → suc n ≡ suc m → n ≡ m
    suc_same e = omega arith

-- ---- parameters

-- the value of a parameter fits its type
pub param_fits : (p : Program) (s : Scene) (names : Names) (keys : List ℕ) (n : ℕ) (ds : List VarDecl) (values : List Value) →
    length values ≡ length (map (with_keys keys) (map (λ d. d.ty) (take n ds))) →
    FitHanded p s names (handed_values (map (with_keys keys) (map (λ d. d.ty) (take n ds))) values) → (v : ℕ) (ty : Ty) (a : Value) →
    option_map (λ d. d.ty) (slice_get ds v) ≡ Some ty → slice_get values v ≡ Some a → Fits p s names (with_keys keys ty) a
param_fits p s names keys zero ds [] long fit v ty a is at = absurd (none-some a at)
param_fits p s names keys zero ds (b ∷ values) long fit v ty a is at = cc
param_fits p s names keys (suc n) [] [] long fit v ty a is at = absurd (none-some a at)
param_fits p s names keys (suc n) [] (b ∷ values) long fit v ty a is at = cc
param_fits p s names keys (suc n) (d ∷ ds) [] long fit v ty a is at = absurd (none-some a at)
param_fits p s names keys (suc n) (d ∷ ds) (b ∷ values) long fit zero ty a is at =
    subst (λ t. Fits p s names (with_keys keys t) a) (same_Some d.ty ty is)
    (subst (Fits p s names (with_keys keys d.ty)) (same_Some b a at) fit.0)
param_fits p s names keys (suc n) (d ∷ ds) (b ∷ values) long fit (suc v) ty a is at =
    param_fits p s names keys n ds values (suc_same long) fit.1 v ty a is at
  where
    suc_same : {n m : ℕ} → suc n ≡ suc m → n ≡ m
    suc_same e = omega arith

-- the numbers of a range
pub range_within : (v from n : ℕ) → has (range_with_len from n) v ≡ true → (from ≤ v) × (v < from + n)
range_within v from zero e = cc
range_within v from (suc n) e = ⊎_elim
    (λ same. (omega arith, omega arith))
    (λ rest. let b = range_within v (from + 1) n rest in let lo = b.0 in let hi = b.1 in (omega arith, omega arith))
    (first_or_other v from (range_with_len (from + 1) n) e)

pub in_range : (v from n : ℕ) → from ≤ v → v < from + n → has (range_with_len from n) v ≡ true
in_range v from zero lo hi = absurd (omega arith)
in_range v from (suc n) lo hi = ⊎_elim
    (λ same. rw (eq-eqb from v (sym same)) refl)
    (λ other. by (from == v) (in_range v (from + 1) n (omega arith) (omega arith)))
    (cases_eq v from)
  where
    by : (b : Bool) → has (range_with_len (from + 1) n) v ≡ true →
        (b || has (range_with_len (from + 1) n) v) ≡ true
    by true e = refl
    by false e = e
