-- What a step finds in C of the variables and objects that the source has found.
use Rattle.std.proofs.Common.{◌≡◌, ◌≢◌, ◌≤◌, ◌<◌, ℕ, zero, suc, ◌==◌, ◌&&◌, Bool, true, false, if◌then◌else◌, List, [], ◌∷◌, Option, Some, None, slice_get, slice_set, refl, sym, ap, ◌∙◌, subst, arith}
use Rattle.std.proofs.lemmas.Bool.Decides.{nat_tests}
use Rattle.std.proofs.lemmas.Option.{none-some, same_Some}
use Rattle.vlt_core.specs.Core as core
use Rattle.vlt_core.specs.Core.{Ty, Func, Program}
use Rattle.vlt_core.specs.Lookups.{var_type, fields_of}
use Rattle.vlt_meaning.specs.World as source
use Rattle.vlt_meaning.specs.World.{one, reference, Owner, Object}
use Rattle.vlt_meaning.specs.Objects.{with_owner, with_changed_object, changed_in}
use Rattle.c_syntax.specs.declared.program.CVar.{CVar}
use Rattle.c_syntax.specs.Kinds.{same_bool}
use Rattle.c_meaning.specs.World.{Value}
use Rattle.c_meaning.specs.Run.{Frame, with_var}
use Rattle.c_lower.specs.Slots.{Sort, of_number, of_reference, of_owner, Numbers, var_at, vars_at, slot_vars, slot_of, first_slot, sorts_of, first_temps}
use Rattle.c_lower_worlds.specs.Operators.Codes.{IsBelow, AreUpTo, AreAlike}
use Rattle.c_lower_worlds.specs.Worlds.{c_part}
use Rattle.c_lower_worlds.specs.Shapes.{HasShape, types_of, AreShaped, HaveCellShapes}
use Rattle.c_lower_worlds.specs.Frames.{HaveValues, HoldsTyped, HoldsVar, StandsFor, IsBetween, Spares}
use Rattle.c_lower_worlds.specs.Naming.Lists.{Each}
use Rattle.c_lower_worlds.proofs.VariableSlots.{Apart, below_temps, starts}
use Rattle.c_lower_worlds.proofs.FrameChanges.{var_kept}
use Rattle.c_lower_worlds.proofs.OfNaming.TouchedFields.{referred}

-- ---- variables with one slot

-- the slot of a variable whose value is no variant's
pub slot_holds : (p : Program) (types : List ℕ) (fn : Func) (s : source.Frame) (f : Frame) (x : ℕ) (a : source.Part) → StandsFor p types fn s f →
    s.vars x ≡ Some (one a) → f.vars (slot_of p fn x) ≡ Some (c_part a)
slot_holds p types fn s f x a h e = by (var_type fn x) (slot_vars p fn x) (subst (λ b. HoldsVar p types fn x b f) e (h.vars x))
  where
    first : (vs : List CVar) → HaveValues vs (c_part a ∷ []) f → f.vars (first_slot vs) ≡ Some (c_part a)
    first [] k = absurd k
    first (v ∷ vs) k = k.0

    by : (ty : Option Ty) (vs : List CVar) → HoldsTyped p types ty vs (one a) f → f.vars (first_slot vs) ≡ Some (c_part a)
    by None vs k = absurd k
    by (Some ty) vs k = first vs k.at

-- a variable with a value is declared, and the value has the shape of its type
pub record Typed (p : Program) (types : List ℕ) (fn : Func) (x : ℕ) (a : source.Value) : Type 0 where
  pub ty : Ty
  pub declared : var_type fn x ≡ Some ty
  pub shape : HasShape p types ty a

pub typed : (p : Program) (types : List ℕ) (fn : Func) (s : source.Frame) (f : Frame) (x : ℕ) (a : source.Value) → StandsFor p types fn s f →
    s.vars x ≡ Some a → Typed p types fn x a
typed p types fn s f x a h e = by (var_type fn x) refl (subst (λ b. HoldsVar p types fn x b f) e (h.vars x))
  where
    by : (ty : Option Ty) → var_type fn x ≡ ty → HoldsTyped p types ty (slot_vars p fn x) a f → Typed p types fn x a
    by None d k = absurd k
    by (Some ty) d k = record { ty = ty; declared = d; shape = k.shape }

pub part_same : (a b : source.Part) → one a ≡ one b → a ≡ b
part_same a b e = cc

pub object_same : (n m : ℕ) → reference n ≡ reference m → n ≡ m
object_same n m e = cc

-- what a reference's type says of its object
pub reference_to : (p : Program) (types : List ℕ) (ty : Ty) (n t : ℕ) → HasShape p types ty (one (reference n)) → referred ty ≡ Some t → slice_get types n ≡ Some t
reference_to p types (core.tracked k u args) n t h e =
    let same = part_same (reference n) h.part h.is in
    let o = object_same n h.shape.object (same ∙ h.shape.is) in
    ap (slice_get types) o ∙ h.shape.of ∙ e
reference_to p types (core.guarded k u args) n t h e =
    let same = part_same (reference n) h.part h.is in
    let o = object_same n h.shape.object (same ∙ h.shape.is) in
    ap (slice_get types) o ∙ h.shape.of ∙ e
reference_to p types core.int n t h e = absurd (none-some t e)
reference_to p types core.bool n t h e = absurd (none-some t e)
reference_to p types (core.owning states u args) n t h e = absurd (none-some t e)
reference_to p types (core.variant u args) n t h e = absurd (none-some t e)
reference_to p types (core.owning_variant u args) n t h e = absurd (none-some t e)

-- ---- slots and temps that are assigned

-- a slot is below the first temps, where the variable is declared
pub slot_below : (p : Program) (fn : Func) (x : ℕ) (ty : Ty) → var_type fn x ≡ Some ty → IsBelow (first_temps p fn) (slot_of p fn x)
slot_below p fn x ty d = by (slot_vars p fn x) (rw d (is_some ty (starts p fn x))) (below_temps p fn x)
  where
    some_slots : List CVar → Type 0
    some_slots [] = ⊥
    some_slots (v ∷ vs) = Unit {0}

    is_some : (ty : Ty) (t : Numbers) → some_slots (vars_at t (sorts_of p (Some ty)))
    is_some core.int t = tt
    is_some core.bool t = tt
    is_some (core.tracked k u args) t = tt
    is_some (core.owning states u args) t = tt
    is_some (core.guarded k u args) t = tt
    is_some (core.variant u args) t = tt
    is_some (core.owning_variant u args) t = tt

    by : (vs : List CVar) → some_slots vs → Each (IsBelow (first_temps p fn)) vs → IsBelow (first_temps p fn) (first_slot vs)
    by [] k h = absurd k
    by (v ∷ vs) k h = h.0

pub spares_slot : (t u : Numbers) (v : CVar) (a : Value) (f : Frame) → IsBelow t v → Spares t u f (with_var v a f)
spares_slot t u v a f below = record { vars = λ x b. sym (var_kept v a x f (apart x b)); depth = refl; is_glue = refl }
  where
    apart : (x : CVar) → IsBetween t u x → Apart x v
    apart x b = by x.reference v.reference b.from below
      where
        by : (r q : Bool) → (if r then t.p else t.n) ≤ x.number → v.number < (if q then t.p else t.n) → (same_bool r q && (x.number == v.number)) ≡ false
        by true true l k = grind (arith, nat_tests)
        by false false l k = grind (arith, nat_tests)
        by true false l k = refl
        by false true l k = refl

pub spares_temp : (t u x : Numbers) (s : Sort) (a : Value) (f : Frame) → AreUpTo u x → Spares t u f (with_var (var_at x s) a f)
spares_temp t u x s a f m = record { vars = λ v b. sym (var_kept (var_at x s) a v f (apart s v b)); depth = refl; is_glue = refl }
  where
    apart : (s : Sort) (v : CVar) → IsBetween t u v → Apart v (var_at x s)
    apart s v b = by s v.reference b.below
      where
        by : (s : Sort) (r : Bool) → v.number < (if r then u.p else u.n) → (same_bool r (var_at x s).reference && (v.number == (var_at x s).number)) ≡ false
        by of_number true l = refl
        by of_number false l = let e = m.n in grind (arith, nat_tests)
        by of_reference true l = let e = m.p in grind (arith, nat_tests)
        by of_reference false l = refl
        by of_owner true l = let e = m.p in grind (arith, nat_tests)
        by of_owner false l = refl

-- temps alone change, none of those that are spared
pub alike_spares : (t u : Numbers) (f g : Frame) → AreAlike u f g → Spares t u f g
alike_spares t u f g alike = record { vars = λ v b. alike.vars v b.below; depth = alike.depth; is_glue = alike.is_glue }

-- fewer temps
pub spares_fewer : (t u x : Numbers) (f g : Frame) → AreUpTo u x → Spares t x f g → Spares t u f g
spares_fewer t u x f g m h = record { vars = λ v b. h.vars v (record { from = b.from; below = more v.reference v b.below }); depth = h.depth; is_glue = h.is_glue }
  where
    more : (r : Bool) (v : CVar) → v.number < (if r then u.p else u.n) → v.number < (if r then x.p else x.n)
    more true v l = let e = m.p in omega arith
    more false v l = let e = m.n in omega arith

-- a temp that is set changes no slot
pub temp_alike : (t x : Numbers) (s : Sort) (a : Value) (f : Frame) → AreUpTo t x → AreAlike t f (with_var (var_at x s) a f)
temp_alike t x s a f m = record {
  vars = λ v b. sym (var_kept (var_at x s) a v f (Rattle.c_lower_worlds.proofs.VariableSlots.temp_apart x s t v m b));
  depth = refl;
  is_glue = refl;
}

-- ---- objects: owners and states are no matter for types and shapes

pub types_set : (os : List Object) (n : ℕ) (o q : Object) → slice_get os n ≡ Some o → q.type ≡ o.type → types_of (slice_set os n q) ≡ types_of os
types_set [] n o q at e = refl
types_set (x ∷ os) zero o q at e = ap (λ t. t ∷ types_of os) (e ∙ ap (λ (o : Object). o.type) (sym (same_Some x o at)))
types_set (x ∷ os) (suc n) o q at e = ap (λ ts. x.type ∷ ts) (types_set os n o q at e)

pub types_kept : (os : List Object) (n : ℕ) (change : Object → Object) → ((o : Object) → (change o).type ≡ o.type) →
    types_of (with_changed_object n change os) ≡ types_of os
types_kept os n change e = by (slice_get os n) refl
  where
    by : (o : Option Object) → slice_get os n ≡ o → types_of (changed_in n change os o) ≡ types_of os
    by None at = refl
    by (Some o) at = types_set os n o (change o) at (e o)

pub get_set : {A : Type 0} (xs : List A) (n m : ℕ) (y z : A) → slice_get (slice_set xs n y) m ≡ Some z →
    (P : A → Type 0) → P y → ((slice_get xs m ≡ Some z) → P z) → P z
get_set [] n m y z e P here there = absurd (none-some z e)
get_set (x ∷ xs) zero zero y z e P here there = subst P (same_Some y z e) here
get_set (x ∷ xs) zero (suc m) y z e P here there = there e
get_set (x ∷ xs) (suc n) zero y z e P here there = there e
get_set (x ∷ xs) (suc n) (suc m) y z e P here there = get_set xs n m y z e P here there

-- a change that keeps type and cells keeps shapes
pub shaped_kept : (p : Program) (os : List Object) (n : ℕ) (change : Object → Object) →
    ((o : Object) → (change o).type ≡ o.type) → ((o : Object) → (change o).cells ≡ o.cells) →
    AreShaped p os → AreShaped p (with_changed_object n change os)
shaped_kept p os n change same cells h = record { each = λ m o at. rw (types_kept os n change same) (by (slice_get os n) refl m o at) }
  where
    by : (q : Option Object) → slice_get os n ≡ q → (m : ℕ) (o : Object) → slice_get (changed_in n change os q) m ≡ Some o →
        HaveCellShapes p (types_of os) (fields_of p o.type) o.cells
    by None e m o at = h.each m o at
    by (Some q) e m o at =
        get_set os n m (change q) o at (λ o. HaveCellShapes p (types_of os) (fields_of p o.type) o.cells)
        (rw (same q, cells q) (h.each n q e)) (h.each m o)

pub owner_shaped : (p : Program) (os : List Object) (n : ℕ) (q : Owner) → AreShaped p os → AreShaped p (with_changed_object n (with_owner q) os)
owner_shaped p os n q h = shaped_kept p os n (with_owner q) (λ o. refl) (λ o. refl) h

pub owner_types : (os : List Object) (n : ℕ) (q : Owner) → types_of (with_changed_object n (with_owner q) os) ≡ types_of os
owner_types os n q = types_kept os n (with_owner q) (λ o. refl)

-- the other objects are as they were
pub get_other : (os : List Object) (n m : ℕ) (change : Object → Object) → m ≢ n → slice_get (with_changed_object n change os) m ≡ slice_get os m
get_other os n m change apart = by (slice_get os n)
  where
    set_other : (os : List Object) (n m : ℕ) (q : Object) → m ≢ n → slice_get (slice_set os n q) m ≡ slice_get os m
    set_other [] n m q e = refl
    set_other (x ∷ os) zero zero q e = absurd (e refl)
    set_other (x ∷ os) zero (suc m) q e = refl
    set_other (x ∷ os) (suc n) zero q e = refl
    set_other (x ∷ os) (suc n) (suc m) q e = set_other os n m q (λ f. e (ap suc f))

    by : (o : Option Object) → slice_get (changed_in n change os o) m ≡ slice_get os m
    by None = refl
    by (Some o) = set_other os n m (change o) apart
