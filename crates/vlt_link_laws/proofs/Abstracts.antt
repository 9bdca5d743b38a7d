-- Which types of a file are abstract, and which stay so in the joined file.
use Rattle.std.proofs.Common.{◌≡◌, ◌⊎◌, inl, inr, ⊎_elim, ℕ, zero, suc, Bool, true, false, true≢false, if◌then◌else◌, List, [], ◌∷◌, ◌++◌, Option, Some, None, slice_get, refl, sym, ap, ◌∙◌, subst, arith}
use Rattle.std.proofs.lemmas.Option.{none-some, same_Some}
use Rattle.std.specs.List.{list_any}
use Rattle.std.specs.Str.{bytes_eq}
use Rattle.vlt_syntax.specs.Tree as s
use Rattle.vlt_syntax.specs.Tree.{Case, Decl}
use Rattle.vlt_syntax.specs.Lists.{Each}
use Rattle.vlt_core.specs.Core.{TypeDecl}
use Rattle.vlt_core.specs.Types.{is_abstract}
use Rattle.vlt_kinds_types.specs.Names.Globals.{Globals}
use Rattle.vlt_kinds_types.specs.Names.Refusals.{of_each}
use Rattle.vlt_kinds_types.specs.declared.shapes.Sort.{Sort}
use Rattle.vlt_kinds_types.specs.declared.shapes.Sort.TheVariants as sort
use Rattle.vlt_kinds_types.specs.declared.shapes.Shape.{Shape}
use Rattle.vlt_kinds_types.specs.Files.{File, shapes_in, variant_sort, sort_of_cases, lists_keys, owns_payload, leaves_payload_open}
use Rattle.vlt_kinds_decls.specs.Made.{core_types_in}
use Rattle.vlt_link_laws.specs.Moves.Joins.{Joins, befores, afters, counted, at_in, is_type}
use Rattle.vlt_link_laws.proofs.OfMoves.Joins.{Gives, GivesBoth, JoinGives, stands}
use Rattle.vlt_link_laws.proofs.OfMoves.Names.{Kind, a_type, kind_of, IsJoin, AreJoined}
use Rattle.vlt_link_laws.proofs.Fits.{IsGiven, FitsIf, Fits}
use Rattle.vlt_views.specs.Hidden.{type_name, is_hidden}
use Rattle.vlt_link_laws.proofs.Parts.{IsSame, Covers}
use Rattle.vlt_link_laws.proofs.Given.{given_elim, each_both}

-- ---- by declarations alone

abbrev pub is_abstract_decl : Decl → Bool
is_abstract_decl (s.abstract n ss at) = true
is_abstract_decl d = false

-- a declared type, with whether it is abstract
abbrev flags : Decl → List Bool
flags d = if is_type d then is_abstract_decl d ∷ [] else []

abbrev flagged : Option Bool → Bool
flagged None = false
flagged (Some b) = b

by_flags : (f : File) (ds : List Decl) (t : ℕ) → is_abstract (slice_get (of_each (core_types_in f) ds) t) ≡ flagged (slice_get (of_each flags ds) t)
by_flags f [] t = refl
by_flags f (s.stateset n ss at ∷ ds) t = by_flags f ds t
by_flags f (s.abstract n ss at ∷ ds) zero = refl
by_flags f (s.abstract n ss at ∷ ds) (suc t) = by_flags f ds t
by_flags f (s.struct n ps ss fs r at ∷ ds) zero = refl
by_flags f (s.struct n ps ss fs r at ∷ ds) (suc t) = by_flags f ds t
by_flags f (s.variant n ps cs at ∷ ds) zero = refl
by_flags f (s.variant n ps cs at ∷ ds) (suc t) = by_flags f ds t
by_flags f (s.extern h at ∷ ds) t = by_flags f ds t
by_flags f (s.function h x at ∷ ds) t = by_flags f ds t

-- ---- shapes say it too

abbrev pub is_abstract_sort : Sort → Bool
is_abstract_sort sort.Abstract = true
is_abstract_sort k = false

no_variant_sort : (x y z : Bool) → is_abstract_sort (variant_sort x y z) ≡ false
no_variant_sort true y z = refl
no_variant_sort false true z = refl
no_variant_sort false false true = refl
no_variant_sort false false false = refl

no_cases_sort : (known : Globals) (cs : List Case) → is_abstract_sort (sort_of_cases known cs) ≡ false
unfolding sort_of_cases
no_cases_sort known cs =
    no_variant_sort (list_any lists_keys cs) (list_any (λ c. list_any (owns_payload known) c.payload) cs) (list_any (λ c. list_any (leaves_payload_open known) c.payload) cs)

pub sorted : (known : Globals) (f : File) (ds : List Decl) (t : ℕ) (x : Shape) → slice_get (of_each (shapes_in known) ds) t ≡ Some x →
    is_abstract (slice_get (of_each (core_types_in f) ds) t) ≡ is_abstract_sort x.sort
sorted known f [] t x e = absurd (none-some x e)
sorted known f (s.stateset n ss at ∷ ds) t x e = sorted known f ds t x e
sorted known f (s.abstract n ss at ∷ ds) zero x e = ap (λ y. is_abstract_sort y.sort) (same_Some _ x e)
sorted known f (s.abstract n ss at ∷ ds) (suc t) x e = sorted known f ds t x e
sorted known f (s.struct n ps ss fs r at ∷ ds) zero x e = ap (λ y. is_abstract_sort y.sort) (same_Some _ x e)
sorted known f (s.struct n ps ss fs r at ∷ ds) (suc t) x e = sorted known f ds t x e
sorted known f (s.variant n ps cs at ∷ ds) zero x e = sym (no_cases_sort known cs) ∙ ap (λ y. is_abstract_sort y.sort) (same_Some _ x e)
sorted known f (s.variant n ps cs at ∷ ds) (suc t) x e = sorted known f ds t x e
sorted known f (s.extern h at ∷ ds) t x e = sorted known f ds t x e
sorted known f (s.function h y at ∷ ds) t x e = sorted known f ds t x e

-- ---- abstract in both views

abbrev type_kind : Kind → Bool
type_kind a_type = true
type_kind k = false

by_kind : (d : Decl) → is_type d ≡ type_kind (kind_of d)
by_kind (s.stateset n ss at) = refl
by_kind (s.abstract n ss at) = refl
by_kind (s.struct n ps ss fs r at) = refl
by_kind (s.variant n ps cs at) = refl
by_kind (s.extern h at) = refl
by_kind (s.function h x at) = refl

abbrev IsTypeIf : Option Decl → Bool → Type 0
IsTypeIf None b = Unit {0}
IsTypeIf (Some d) b = is_type d ≡ b

type_if : (o : Option Decl) (e : Decl) (js : Joins) → IsJoin o e js → IsTypeIf o (is_type e)
type_if None e js h = tt
type_if (Some d) e js h = by_kind d ∙ (ap type_kind (sym h.0) ∙ sym (by_kind e))

abbrev flags_if : Option Decl → Bool → List Bool
flags_if None b = []
flags_if (Some d) b = if b then is_abstract_decl d ∷ [] else []

-- the flags of what stands before, and of the rest
following : (o : Option Decl) (e : Decl) (js : Joins) (b : Bool) (t : ℕ) → IsTypeIf o b →
    slice_get (of_each flags (befores (record { before = o; after = e } ∷ js))) t ≡ slice_get (flags_if o b ++ of_each flags (befores js)) t
following None e js b t is = refl
following (Some d) e js b t is = ap (λ b. slice_get ((if b then is_abstract_decl d ∷ [] else []) ++ of_each flags (befores js)) t) is

abbrev Both : (js ks : Joins) → Type 0
Both js ks = (t u : ℕ) → at_in is_type js t ≡ at_in is_type ks u → flagged (slice_get (of_each flags (befores js)) t) ≡ true → flagged (slice_get (of_each flags (befores ks)) u) ≡ true →
    flagged (slice_get (of_each flags (afters js)) (at_in is_type js t)) ≡ true

same_suc : (i j : ℕ) → suc i ≡ suc j → i ≡ j
same_suc i j e = omega (arith, e)

no_zero_suc : (i : ℕ) → zero ≡ suc i → ⊥
no_zero_suc i e = omega (arith, e)

module _ (js ks : Joins) (rest : Both js ks) (e : Decl) where
  -- where a type stands
  stays : (o p : Option Decl) → (o ≡ Some e) ⊎ (p ≡ Some e) → (t u : ℕ) →
      counted (at_in is_type js) o t ≡ counted (at_in is_type ks) p u →
      flagged (slice_get (flags_if o true ++ of_each flags (befores js)) t) ≡ true → flagged (slice_get (flags_if p true ++ of_each flags (befores ks)) u) ≡ true →
      flagged (slice_get (is_abstract_decl e ∷ of_each flags (afters js)) (counted (at_in is_type js) o t)) ≡ true
  stays None None same t u at x y = rest t u (same_suc _ _ at) x y
  stays None (Some k) same t zero at x y = absurd (no_zero_suc _ (sym at))
  stays None (Some k) same t (suc u) at x y = rest t u (same_suc _ _ at) x y
  stays (Some d) None same zero u at x y = absurd (no_zero_suc _ at)
  stays (Some d) None same (suc t) u at x y = rest t u (same_suc _ _ at) x y
  stays (Some d) (Some k) (inl same) zero zero at x y = ap is_abstract_decl (sym (same_Some d e same)) ∙ x
  stays (Some d) (Some k) (inr same) zero zero at x y = ap is_abstract_decl (sym (same_Some k e same)) ∙ y
  stays (Some d) (Some k) same zero (suc u) at x y = absurd (no_zero_suc _ at)
  stays (Some d) (Some k) same (suc t) zero at x y = absurd (no_zero_suc _ (sym at))
  stays (Some d) (Some k) same (suc t) (suc u) at x y = rest t u (same_suc _ _ at) x y

  passes : (o p : Option Decl) → (t u : ℕ) → at_in is_type js t ≡ at_in is_type ks u →
      flagged (slice_get (flags_if o false ++ of_each flags (befores js)) t) ≡ true → flagged (slice_get (flags_if p false ++ of_each flags (befores ks)) u) ≡ true →
      flagged (slice_get (of_each flags (afters js)) (at_in is_type js t)) ≡ true
  passes None None t u at x y = rest t u at x y
  passes None (Some k) t u at x y = rest t u at x y
  passes (Some d) None t u at x y = rest t u at x y
  passes (Some d) (Some k) t u at x y = rest t u at x y

  step : (o p : Option Decl) (e2 : Decl) → (o ≡ Some e) ⊎ (p ≡ Some e) → (b : Bool) → is_type e ≡ b → is_type e2 ≡ b → IsTypeIf o b → IsTypeIf p b →
      Both (record { before = o; after = e } ∷ js) (record { before = p; after = e2 } ∷ ks)
  step o p e2 same true is is2 io ip t u at x y =
      ap (λ b. flagged (slice_get ((if b then is_abstract_decl e ∷ [] else []) ++ of_each flags (afters js)) (if b then counted (at_in is_type js) o t else at_in is_type js t))) is ∙
      stays o p same t u
      (sym (ap (λ b. if b then counted (at_in is_type js) o t else at_in is_type js t) is) ∙ (at ∙ ap (λ b. if b then counted (at_in is_type ks) p u else at_in is_type ks u) is2))
      (sym (ap flagged (following o e js true t io)) ∙ x) (sym (ap flagged (following p e2 ks true u ip)) ∙ y)
  step o p e2 same false is is2 io ip t u at x y =
      ap (λ b. flagged (slice_get ((if b then is_abstract_decl e ∷ [] else []) ++ of_each flags (afters js)) (if b then counted (at_in is_type js) o t else at_in is_type js t))) is ∙
      passes o p t u
      (sym (ap (λ b. if b then counted (at_in is_type js) o t else at_in is_type js t) is) ∙ (at ∙ ap (λ b. if b then counted (at_in is_type ks) p u else at_in is_type ks u) is2))
      (sym (ap flagged (following o e js false t io)) ∙ x) (sym (ap flagged (following p e2 ks false u ip)) ∙ y)

both_stay : (js ks : Joins) → Covers js ks → AreJoined js → AreJoined ks → Both js ks
both_stay [] [] c one two t u at x y = absurd (true≢false (sym x))
both_stay [] (k ∷ ks) c one two t u at x y = absurd c
both_stay (j ∷ js) [] c one two t u at x y = absurd c
both_stay (j ∷ js) (k ∷ ks) c one two t u at x y =
    step js ks (both_stay js ks c.2 one.1 two.1) j.after j.before k.before k.after (turn c.1) (is_type j.after) refl (ap is_type (sym c.0))
    (type_if j.before j.after js one.0) (subst (λ d. IsTypeIf k.before (is_type d)) (sym c.0) (type_if k.before k.after ks two.0)) t u at x y
  where
    turn : IsSame j ⊎ IsSame k → (j.before ≡ Some j.after) ⊎ (k.before ≡ Some j.after)
    turn (inl same) = inl same
    turn (inr same) = inr (same ∙ ap Some (sym c.0))

-- a type that is abstract in both views is so in the joined file
pub both_abstract : (js ks : Joins) → Covers js ks → AreJoined js → AreJoined ks → (f g h : File) (t u : ℕ) → at_in is_type js t ≡ at_in is_type ks u →
    is_abstract (slice_get (of_each (core_types_in f) (befores js)) t) ≡ true → is_abstract (slice_get (of_each (core_types_in g) (befores ks)) u) ≡ true →
    is_abstract (slice_get (of_each (core_types_in h) (afters js)) (at_in is_type js t)) ≡ true
both_abstract js ks c one two f g h t u at x y =
    by_flags h (afters js) (at_in is_type js t) ∙ both_stay js ks c one two t u at (sym (by_flags f (befores js) t) ∙ x) (sym (by_flags g (befores ks) u) ∙ y)

-- ---- abstract and not hidden

-- an abstract type that something else stands for is one of these
abbrev pub Veiled : List (List ℕ) → Option Decl → Decl → Type 0
Veiled hidden (Some (s.abstract n ss at)) e = (e ≡ s.abstract n ss at) ⊎ (list_any (bytes_eq n.text) hidden ≡ true)
Veiled hidden o e = Unit {0}

module _ (hidden : List (List ℕ)) (f h : File) where
  abbrev Kept : TypeDecl → TypeDecl → Type 0
  Kept x y = is_abstract (Some x) ≡ true → (is_abstract (Some y) ≡ true) ⊎ (list_any (bytes_eq (type_name x)) hidden ≡ true)

  new_types : (e : Decl) → Gives (is_type e) (core_types_in h e)
  new_types (s.stateset n ss at) = refl
  new_types (s.abstract n ss at) = (_, refl)
  new_types (s.struct n ps ss fs r at) = (_, refl)
  new_types (s.variant n ps cs at) = (_, refl)
  new_types (s.extern g at) = refl
  new_types (s.function g x at) = refl

  self_types : (d : Decl) → GivesBoth (λ x y. Kept x y) (is_type d) (core_types_in f d) (core_types_in h d)
  self_types (s.stateset n ss at) = (refl, refl)
  self_types (s.abstract n ss at) = (_, _, refl, refl, λ e. inl refl)
  self_types (s.struct n ps ss fs r at) = (_, _, refl, refl, λ e. absurd (true≢false (sym e)))
  self_types (s.variant n ps cs at) = (_, _, refl, refl, λ e. absurd (true≢false (sym e)))
  self_types (s.extern g at) = (refl, refl)
  self_types (s.function g x at) = (refl, refl)

  off_struct : (e : Decl) → is_abstract_decl e ≡ false → (x : Decl) → is_abstract_decl x ≡ true → e ≡ x → ⊥
  off_struct e off x on same = true≢false (sym on ∙ (sym (ap is_abstract_decl same) ∙ off))

  given_types : (d e : Decl) → IsGiven d e → Veiled hidden (Some d) e → GivesBoth (λ x y. Kept x y) (is_type e) (core_types_in f d) (core_types_in h e)
  given_types = given_elim (λ d e. Veiled hidden (Some d) e → GivesBoth (λ x y. Kept x y) (is_type e) (core_types_in f d) (core_types_in h e))
      (λ n ss at k ps rs fs r kat g veil. (_, _, refl, refl, λ on. ⊎_elim (λ same. absurd (off_struct (s.struct k ps rs fs r kat) refl (s.abstract n ss at) refl same)) (λ in_it. inr in_it) veil))
      (λ g at k b kat is veil. (refl, refl))

  one : (o : Option Decl) (e : Decl) → FitsIf o e → Veiled hidden o e → JoinGives (λ x y. Kept x y) (core_types_in f) (core_types_in h) is_type (record { before = o; after = e })
  one None e fits veil = new_types e
  one (Some d) e (inl same) veil = subst (λ e. GivesBoth (λ x y. Kept x y) (is_type e) (core_types_in f d) (core_types_in h e)) (sym same) (self_types d)
  one (Some d) e (inr given) veil = given_types d e given veil

  pub own_abstract : (js : Joins) → Each Fits js → Each (λ j. Veiled hidden j.before j.after) js → (t : ℕ) →
      is_abstract (slice_get (of_each (core_types_in f) (befores js)) t) ≡ true →
      is_hidden hidden (slice_get (of_each (core_types_in f) (befores js)) t) ≡ false →
      is_abstract (slice_get (of_each (core_types_in h) (afters js)) (at_in is_type js t)) ≡ true
  own_abstract js fits veils t on shown = by (slice_get (of_each (core_types_in f) (befores js)) t) refl on shown
    where
      all : Each (JoinGives (λ x y. Kept x y) (core_types_in f) (core_types_in h) is_type) js
      all = each_both {P = Fits} {Q = λ j. Veiled hidden j.before j.after} {R = JoinGives (λ x y. Kept x y) (core_types_in f) (core_types_in h) is_type} (λ j x y. one j.before j.after x y) js fits veils

      by : (o : Option TypeDecl) → slice_get (of_each (core_types_in f) (befores js)) t ≡ o → is_abstract o ≡ true → is_hidden hidden o ≡ false →
          is_abstract (slice_get (of_each (core_types_in h) (afters js)) (at_in is_type js t)) ≡ true
      by None e on shown = absurd (true≢false (sym on))
      by (Some x) e on shown =
          let r = stands (λ x y. Kept x y) (core_types_in f) (core_types_in h) is_type js all t x e in
          ap is_abstract r.there ∙ ⊎_elim (λ y. y) (λ in_it. absurd (true≢false (sym in_it ∙ shown))) (r.fits on)
