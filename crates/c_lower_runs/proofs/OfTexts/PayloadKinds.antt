-- The slots of a variant's payloads have their sorts.
use Rattle.std.proofs.Common.{◌≡◌, ◌≤◌, ◌<◌, ℕ, zero, suc, ◌+◌, ◌-◌, ◌==◌, Bool, true, false, if◌then◌else◌, List, [], ◌∷◌, ◌++◌, length, replicate, Some, slice_get, length-append, refl, sym, ap, ◌∙◌, subst, arith}
use Rattle.std.proofs.lemmas.Bool.{false≢true, eqb-true}
use Rattle.std.proofs.lemmas.Option.{none-some, same_Some}
use Rattle.vlt_core.specs.Core as core
use Rattle.vlt_core.specs.Core.{Ty, CaseDecl, Program}
use Rattle.vlt_core.specs.Lookups.{is_owning, case_at}
use Rattle.vlt_core.specs.Widths.{is_number, is_guarded, most_of}
use Rattle.vlt_core.specs.KindedHeads.{is_payload_type}
use Rattle.c_syntax.specs.declared.program.CVar.{CVar}
use Rattle.c_lower.specs.Slots.{Sort, of_number, of_reference, of_owner, variant_sorts, sorted_slots, Starts, start_of, after_start, payload_sort, payload_positions, variant_starts}
use Rattle.c_lower.specs.Expressions.{Atom, atom_expr}
use Rattle.c_lower.specs.Statements.{case_positions, payload_in, atom_for, build_slots}
use Rattle.c_lower_worlds.proofs.VariantSlots.{Inside, Zone, inside, length_replicate}
use Rattle.c_lower_runs.proofs.OfTexts.Ruled.{Place, IsVar, IsTyped, AllRuled}
use Rattle.c_lower_runs.proofs.OfTexts.SlotTypes.{kind_of, VarsFit, set_ruled}
use Rattle.c_lower_runs.proofs.OfTexts.ExpressionKinds.{small_numeral}

-- ---- lists

get_left : {A : Type 0} (xs ys : List A) (i : ℕ) → i < length xs → slice_get (xs ++ ys) i ≡ slice_get xs i
get_left [] ys i h = absurd (omega (arith, h))
get_left (x ∷ xs) ys zero h = refl
get_left (x ∷ xs) ys (suc i) h = get_left xs ys i (omega (arith, h))

get_right : {A : Type 0} (xs ys : List A) (i : ℕ) → length xs ≤ i → slice_get (xs ++ ys) i ≡ slice_get ys (i - length xs)
get_right [] ys i h = ap (slice_get ys) (none i)
  where
    none : (i : ℕ) → i ≡ i - 0
    none i = omega arith
get_right (x ∷ xs) ys zero h = absurd (omega (arith, h))
get_right (x ∷ xs) ys (suc i) h = get_right xs ys i (omega (arith, h)) ∙ ap (slice_get ys) (less i (length xs))
  where
    less : (i n : ℕ) → i - n ≡ suc i - suc n
    less i n = omega arith

get_replicate : {A : Type 0} (n : ℕ) (x : A) (i : ℕ) → i < n → slice_get (replicate n x) i ≡ Some x
get_replicate zero x i h = absurd (omega (arith, h))
get_replicate (suc n) x zero h = refl
get_replicate (suc n) x (suc i) h = get_replicate n x i (omega (arith, h))

-- ---- sorts at positions

zones : (n r o : ℕ) (u : Sort) (i : ℕ) → Zone u n (n + r) (n + r + o) i → slice_get (replicate n of_number ++ replicate r of_reference ++ replicate o of_owner) i ≡ Some u
zones n r o of_number i z =
    get_left (replicate n of_number ++ replicate r of_reference) (replicate o of_owner) i
    (let a = length-append (replicate n of_number) (replicate r of_reference) in let b = length_replicate n of_number in let c = length_replicate r of_reference in omega (arith, a, b, c, z))
    ∙ get_left (replicate n of_number) (replicate r of_reference) i (let b = length_replicate n of_number in omega (arith, b, z))
    ∙ get_replicate n of_number i z
zones n r o of_reference i z =
    let a = length-append (replicate n of_number) (replicate r of_reference) in
    let b = length_replicate n of_number in
    let c = length_replicate r of_reference in
    let f = z.from in
    let g = z.below in
    get_left (replicate n of_number ++ replicate r of_reference) (replicate o of_owner) i (omega (arith, a, b, c, g))
    ∙ get_right (replicate n of_number) (replicate r of_reference) i (omega (arith, b, f))
    ∙ get_replicate r of_reference (i - length (replicate n of_number)) (omega (arith, b, f, g))
zones n r o of_owner i z =
    let a = length-append (replicate n of_number) (replicate r of_reference) in
    let b = length_replicate n of_number in
    let c = length_replicate r of_reference in
    let f = z.from in
    let g = z.below in
    get_right (replicate n of_number ++ replicate r of_reference) (replicate o of_owner) i (omega (arith, a, b, c, f))
    ∙ get_replicate o of_owner (i - length (replicate n of_number ++ replicate r of_reference)) (omega (arith, a, b, c, f, g))

-- the next payload lies in the zone of its sort, and the others after it
record IsNextPlace (t : Ty) (s : Starts) (ts : List Ty) (a b c : ℕ) : Type 0 where
  here : Zone (payload_sort t) a b c (start_of (payload_sort t) s)
  rest : Inside (after_start (payload_sort t) s) ts a b c

next_place : (t : Ty) (s : Starts) (ts : List Ty) (a b c : ℕ) → is_payload_type t ≡ true → Inside s (t ∷ ts) a b c → IsNextPlace t s ts a b c
next_place core.int s ts a b c e h =
    let n = h.numbers in let bn = h.after_numbers in let r = h.references in let br = h.after_references in let o = h.owners in
    record { here = omega arith; rest = record { numbers = omega arith; after_numbers = bn; references = r; after_references = br; owners = o } }
next_place core.bool s ts a b c e h =
    let n = h.numbers in let bn = h.after_numbers in let r = h.references in let br = h.after_references in let o = h.owners in
    record { here = omega arith; rest = record { numbers = omega arith; after_numbers = bn; references = r; after_references = br; owners = o } }
next_place (core.guarded k t args) s ts a b c e h =
    let n = h.numbers in let bn = h.after_numbers in let r = h.references in let br = h.after_references in let o = h.owners in
    record { here = record { from = bn; below = omega arith }; rest = record { numbers = n; after_numbers = omega arith; references = omega arith; after_references = br; owners = o } }
next_place (core.owning states t args) s ts a b c e h =
    let n = h.numbers in let bn = h.after_numbers in let r = h.references in let br = h.after_references in let o = h.owners in
    record { here = record { from = br; below = omega arith }; rest = record { numbers = n; after_numbers = bn; references = r; after_references = omega arith; owners = omega arith } }
next_place (core.tracked k t args) s ts a b c e h = absurd (false≢true e)
next_place (core.variant t args) s ts a b c e h = absurd (false≢true e)
next_place (core.owning_variant t args) s ts a b c e h = absurd (false≢true e)

-- each payload's position with the sort of the slot there
abbrev pub SortsAt : List Sort → List ℕ → List Ty → Type 0
SortsAt ss [] [] = Unit {0}
SortsAt ss (j ∷ js) (t ∷ ts) = (slice_get ss j ≡ Some (payload_sort t)) × SortsAt ss js ts
SortsAt ss _ _ = ⊥

abbrev pub ArePayloads : List Ty → Type 0
ArePayloads tys = (j : ℕ) (ty : Ty) → slice_get tys j ≡ Some ty → is_payload_type ty ≡ true

positions_sorts : (n r o : ℕ) (ts : List Ty) (s : Starts) → ArePayloads ts → Inside s ts n (n + r) (n + r + o) →
    SortsAt (replicate n of_number ++ replicate r of_reference ++ replicate o of_owner) (payload_positions s ts) ts
positions_sorts n r o [] s all h = tt
positions_sorts n r o (t ∷ ts) s all h =
    let next = next_place t s ts n (n + r) (n + r + o) (all 0 t refl) h in
    (zones n r o (payload_sort t) (start_of (payload_sort t) s) next.here, positions_sorts n r o ts (after_start (payload_sort t) s) (λ j ty at. all (suc j) ty at) next.rest)

-- the positions of a case's payloads
pub case_sorts : (p : Program) (t k : ℕ) (d : CaseDecl) → case_at p t k ≡ Some d → ArePayloads d.payload → SortsAt (variant_sorts p t) (case_positions p t k) d.payload
case_sorts p t k d at all =
    subst (λ o. SortsAt (variant_sorts p t) (payload_positions (variant_starts p t) (payload_in o)) d.payload) (sym at)
    (positions_sorts (suc (most_of is_number p t)) (most_of is_guarded p t) (most_of is_owning p t) d.payload (variant_starts p t) all (inside p t k d at))

-- ---- slots and atoms at positions

-- the variable at a position has the type of the sort there
pub record VarAt (a : Place) (s : Sort) (vs : List CVar) (i : ℕ) : Type 0 where
  pub var : CVar
  pub at : slice_get vs i ≡ Some var
  pub is : IsVar a (kind_of s) var

pub var_at_position : (a : Place) (ss : List Sort) (vs : List CVar) (i : ℕ) (s : Sort) → VarsFit a ss vs → slice_get ss i ≡ Some s → VarAt a s vs i
var_at_position a [] [] i s h at = absurd (none-some s at)
var_at_position a [] (v ∷ vs) i s h at = absurd h
var_at_position a (u ∷ ss) [] i s h at = absurd h
var_at_position a (u ∷ ss) (v ∷ vs) zero s h at = record { var = v; at = refl; is = subst (λ s. IsVar a (kind_of s) v) (same_Some u s at) h.0 }
var_at_position a (u ∷ ss) (v ∷ vs) (suc i) s h at = let r = var_at_position a ss vs i s h.1 at in record { var = r.var; at = r.at; is = r.is }

-- atoms that fit the sorts at their positions
abbrev pub Placed : Place → List Sort → List ℕ → List Atom → Type 0
Placed a ss [] [] = Unit {0}
Placed a ss (j ∷ js) (x ∷ xs) = ((s : Sort) → slice_get ss j ≡ Some s → IsTyped a (kind_of s) (atom_expr x)) × Placed a ss js xs
Placed a ss _ _ = ⊥

unused_typed : (a : Place) (s : Sort) (i : ℕ) (xs : List Atom) → IsTyped a (kind_of s) (atom_expr (atom_for s i [] xs))
unused_typed a of_number i xs = (refl, small_numeral 0 (omega arith))
unused_typed a of_reference i xs = refl
unused_typed a of_owner i xs = refl

atom_for_typed : (a : Place) (ss : List Sort) (s : Sort) (i : ℕ) (js : List ℕ) (xs : List Atom) → slice_get ss i ≡ Some s → Placed a ss js xs → IsTyped a (kind_of s) (atom_expr (atom_for s i js xs))
atom_for_typed a ss s i [] xs at h = unused_typed a s i xs
atom_for_typed a ss s i (j ∷ js) [] at h = absurd h
atom_for_typed a ss s i (j ∷ js) (x ∷ xs) at h = by (i == j) refl (atom_for_typed a ss s i js xs at h.1)
  where
    by : (b : Bool) → (i == j) ≡ b → IsTyped a (kind_of s) (atom_expr (atom_for s i js xs)) → IsTyped a (kind_of s) (atom_expr (if b then x else atom_for s i js xs))
    by true e later = h.0 s (ap (slice_get ss) (sym (eqb-true i j e)) ∙ at)
    by false e later = later

pub builds_ruled : (a : Place) (l : Bool) (all : List Sort) (i : ℕ) (js : List ℕ) (xs : List Atom) (ss : List Sort) (vs : List CVar) → Placed a all js xs → VarsFit a ss vs →
    ((m : ℕ) (s : Sort) → slice_get ss m ≡ Some s → slice_get all (i + m) ≡ Some s) → AllRuled a l (build_slots i js xs (sorted_slots ss vs))
builds_ruled a l all i js xs [] [] h k at = tt
builds_ruled a l all i js xs [] (v ∷ vs) h k at = absurd k
builds_ruled a l all i js xs (s ∷ ss) [] h k at = absurd k
builds_ruled a l all i js xs (s ∷ ss) (v ∷ vs) h k at = (
  set_ruled a l (kind_of s) v (atom_expr (atom_for s i js xs)) k.0 (atom_for_typed a all s i js xs (ap (slice_get all) (none i) ∙ at 0 s refl) h),
  builds_ruled a l all (suc i) js xs ss vs h k.1 (λ m u e. ap (slice_get all) (more i m) ∙ at (suc m) u e),
)
  where
    none : (i : ℕ) → i ≡ i + 0
    none i = omega arith

    more : (i m : ℕ) → suc i + m ≡ i + suc m
    more i m = omega arith
