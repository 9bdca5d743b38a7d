-- A change of the objects that slots own, slot by slot.
use Rattle.std.proofs.Common.{◌≡◌, ℕ, ℤ, Bool, List, [], ◌∷◌, ◌++◌, Option, Some, None, Ok, Err, refl, sym, ap, ◌∙◌, subst}
use Rattle.std.proofs.lemmas.List.{append-nil}
use Rattle.std.proofs.lemmas.Option.{none-some, same_Some}
use Rattle.vlt_core.specs.Core.{Program}
use Rattle.vlt_heap.specs.declared.slots.Obj.{Obj}
use Rattle.vlt_heap.specs.declared.slots.Slot.{Slot}
use Rattle.vlt_heap.specs.declared.slots.Slot.TheVariants.{Number, Object, Owned}
use Rattle.vlt_heap.specs.declared.heap.Heap.{Heap}
use Rattle.vlt_heap.specs.Items.{Items, IsMadeAt}
use Rattle.vlt_heap.proofs.Listed.{KeepMade}
use Rattle.vlt_meaning.specs.World.{Part, number, reference, owned, objects_in_part, Owner, Object as Thing, is_loose, wrong_state}
use Rattle.vlt_meaning.specs.Found.{Found, ◌>>=◌, if_so}
use Rattle.vlt_meaning.specs.Objects.{owned_at, with_owner, with_changed_object, objects_after_move, is_releasable, objects_after_release}
use Rattle.vlt_meaning_laws.proofs.Keeping.{bound}
use Rattle.vlt_acts.specs.Values.Parts.{HasPart}
use Rattle.vlt_acts.specs.Values.Shown.{ShowObjects}
use Rattle.vlt_acts.proofs.OfActs.Keeping.{part_kept}
use Rattle.vlt_acts.specs.Objects.Owned.{AreParts, owned_in, Sees, ShowsAll, Change, objects_after_drop, Can, Makes}

-- ---- changes of more objects are made one after another

abbrev pub Joins : Change → Type 0
Joins change = (ns ms : List ℕ) (os : List Thing) → change (ns ++ ms) os ≡ (change ns os >>= change ms)

same_bound : {A B C : Type 0} (x : Found A) (f : A → Found B) (g : B → Found C) → (x >>= (λ a. f a >>= g)) ≡ ((x >>= f) >>= g)
same_bound (Ok a) f g = refl
same_bound (Err o) f g = refl

same_go : {A B : Type 0} (x : Found A) (f g : A → Found B) → ((a : A) → f a ≡ g a) → (x >>= f) ≡ (x >>= g)
same_go (Ok a) f g h = h a
same_go (Err o) f g h = refl

pub moves_join : (from : Owner → Bool) (to : Owner) → Joins (objects_after_move from to)
moves_join from to [] ms os = refl
moves_join from to (n ∷ ns) ms os =
    same_go (owned_at from os n) _ _ (λ m. moves_join from to ns ms (with_changed_object n (with_owner to) os)) ∙ same_bound (owned_at from os n) (λ m. objects_after_move from to ns (with_changed_object n (with_owner to) os)) (objects_after_move from to ms)

pub drops_join : (p : Program) → Joins (objects_after_drop p)
drops_join p [] ms os = refl
drops_join p (n ∷ ns) ms os =
    same_go (owned_at is_loose os n) _ _ (λ m. same_go (if_so (is_releasable p os n) wrong_state m) _ _ (λ k. drops_join p ns ms (objects_after_release n os)) ∙ same_bound (if_so (is_releasable p os n) wrong_state m) (λ k. objects_after_drop p ns (objects_after_release n os)) (objects_after_drop p ms))
    ∙ same_bound (owned_at is_loose os n) (λ m. if_so (is_releasable p os n) wrong_state m >>= (λ k. objects_after_drop p ns (objects_after_release n os))) (objects_after_drop p ms)

-- ---- parts

pub parts_known : (old new : Items) (slots : List Slot) (ps : List Part) → KeepMade old new → AreParts old slots ps → AreParts new slots ps
parts_known old new [] [] keep have = tt
parts_known old new [] (p ∷ ps) keep have = have
parts_known old new (a ∷ slots) [] keep have = have
parts_known old new (a ∷ slots) (p ∷ ps) keep have = (part_kept old new p a keep have.0, parts_known old new slots ps keep have.1)

-- the first slot, and the others
pub record Split (items : Items) (a : Slot) (slots : List Slot) (ps : List Part) : Type 0 where
  pub part : Part
  pub parts : List Part
  pub is : ps ≡ part ∷ parts
  pub has : HasPart items part a
  pub have : AreParts items slots parts

pub split : (items : Items) (a : Slot) (slots : List Slot) (ps : List Part) → AreParts items (a ∷ slots) ps → Split items a slots ps
split items a slots [] have = absurd have
split items a slots (p ∷ ps) have = record { part = p; parts = ps; is = refl; has = have.0; have = have.1 }

-- ---- the slot alone, then the others

abbrev pub first_seen : (h : Heap) (a : Slot) (slots : List Slot) (s : Sees h (a ∷ slots)) → Split s.items a slots s.parts → Sees h (a ∷ [])
first_seen h a slots s q = record { items = s.items; width = s.width; objects = s.objects; parts = q.part ∷ []; holds = s.holds; shown = s.shown; have = (q.has, tt) }

abbrev pub rest_seen : (new : Heap) (items : Items) (a : Slot) (slots : List Slot) (ps : List Part) (width : ℕ) (after : List Thing) → Split items a slots ps → ShowsAll items new width after → Sees new slots
rest_seen new items a slots ps width after q m = record { items = m.items; width = width; objects = after; parts = q.parts; holds = m.holds; shown = m.shown; have = parts_known items m.items slots q.parts m.kept q.have }

pub record Middle (change : Change) (p : Part) (ps : List Part) (os after : List Thing) : Type 0 where
  pub objects : List Thing
  pub first : change (owned_in (p ∷ [])) os ≡ Ok objects
  pub rest : change (owned_in ps) objects ≡ Ok after

pub middle : (change : Change) → Joins change → (p : Part) (ps qs : List Part) (os after : List Thing) → qs ≡ p ∷ ps → change (owned_in qs) os ≡ Ok after → Middle change p ps os after
middle change joins p ps qs os after e is =
    let b = bound (change (objects_in_part p) os) (change (owned_in ps)) after (sym (joins (objects_in_part p) (owned_in ps) os) ∙ ap (λ z. change (owned_in z) os) (sym e) ∙ is) in
    record { objects = b.0; first = ap (λ z. change z os) (append-nil (objects_in_part p)) ∙ b.1; rest = b.2 }

abbrev pub then_kept : (before : Items) (h : Heap) (width : ℕ) (os : List Thing) (items : Items) → KeepMade before items → ShowsAll items h width os → ShowsAll before h width os
then_kept before h width os items keep s = record { items = s.items; holds = s.holds; shown = s.shown; kept = λ c n made. s.kept c n (keep c n made) }

pub can_first : (change : Change) → Joins change → (h : Heap) (a : Slot) (slots : List Slot) → Can change h (a ∷ slots) → Can change h (a ∷ [])
can_first change joins h a slots c =
    let q = split c.sees.items a slots c.sees.parts c.sees.have in
    let m = middle change joins q.part q.parts c.sees.parts c.sees.objects c.after q.is c.is in
    record { sees = first_seen h a slots c.sees q; after = m.objects; is = m.first }

pub can_rest : (change : Change) → Joins change → (old new : Heap) (a : Slot) (slots : List Slot) → Can change old (a ∷ slots) → Makes change (a ∷ []) old new → Can change new slots
can_rest change joins old new a slots c does =
    let q = split c.sees.items a slots c.sees.parts c.sees.have in
    let m = middle change joins q.part q.parts c.sees.parts c.sees.objects c.after q.is c.is in
    let s = does (first_seen old a slots c.sees q) m.objects m.first in
    record { sees = rest_seen new c.sees.items a slots c.sees.parts c.sees.width m.objects q s; after = c.after; is = m.rest }

pub makes_both : (change : Change) → Joins change → (old mid new : Heap) (a : Slot) (slots : List Slot) → Makes change (a ∷ []) old mid → Makes change slots mid new → Makes change (a ∷ slots) old new
makes_both change joins old mid new a slots first rest s after is =
    let q = split s.items a slots s.parts s.have in
    let m = middle change joins q.part q.parts s.parts s.objects after q.is is in
    let t = first (first_seen old a slots s q) m.objects m.first in
    then_kept s.items new s.width after t.items t.kept (rest (rest_seen mid s.items a slots s.parts s.width m.objects q t) after m.rest)

-- ---- no slots, and slots that own nothing

abbrev pub IsIdle : Change → Type 0
IsIdle change = (os : List Thing) → change [] os ≡ Ok os

pub same_objects : {os after : List Thing} → ◌≡◌ {A = Found (List Thing)} (Ok os) (Ok after) → os ≡ after
same_objects {os = os} e = ap of_ok e
  where
    of_ok : Found (List Thing) → List Thing
    of_ok (Ok z) = z
    of_ok (Err o) = os

pub idle : (change : Change) → IsIdle change → (h : Heap) (slots : List Slot) (s : Sees h slots) (after : List Thing) → owned_in s.parts ≡ [] → change (owned_in s.parts) s.objects ≡ Ok after → ShowsAll s.items h s.width after
idle change still h slots s after none is =
    let e : s.objects ≡ after = same_objects (sym (still s.objects) ∙ ap (λ z. change z s.objects) (sym none) ∙ is) in
    record { items = s.items; holds = s.holds; shown = subst (ShowObjects s.items s.width) e s.shown; kept = λ c n made. made }

pub no_parts : (items : Items) (ps : List Part) → AreParts items [] ps → owned_in ps ≡ []
no_parts items [] have = refl
no_parts items (p ∷ ps) have = absurd have

-- ---- what a slot owns

abbrev owned_slot : Slot → Option (Obj × ℕ)
owned_slot (Number z) = None
owned_slot (Object o n) = None
owned_slot (Owned o n) = Some (o, n)

-- a slot that owns an object has that part
pub record Owns (items : Items) (o : Obj) (ps : List Part) : Type 0 where
  pub number : ℕ
  pub is : owned_in ps ≡ number ∷ []
  pub made : IsMadeAt items o.0 number

pub owns : (items : Items) (a : Slot) (o : Obj) (k : ℕ) (ps : List Part) → a ≡ Owned o k → AreParts items (a ∷ []) ps → Owns items o ps
owns items a o k [] e have = absurd have
owns items a o k (number z ∷ ps) e have = absurd (none-some _ (ap owned_slot (sym have.0 ∙ e)))
owns items a o k (reference n ∷ ps) e have = absurd (none-some _ (ap owned_slot (sym have.0.is ∙ e)))
owns items a o k (owned n ∷ []) e have =
    let s = same_Some _ _ (ap owned_slot (sym have.0.is ∙ e)) in
    record { number = n; is = refl; made = subst (λ q. IsMadeAt items q n) (ap (λ q. q.0.0) s) have.0.made }
owns items a o k (owned n ∷ p ∷ ps) e have = absurd have.1

-- any other slot owns nothing
pub owns_none : (items : Items) (a : Slot) (ps : List Part) → owned_slot a ≡ None → AreParts items (a ∷ []) ps → owned_in ps ≡ []
owns_none items a [] e have = refl
owns_none items a (number z ∷ []) e have = refl
owns_none items a (reference n ∷ []) e have = refl
owns_none items a (owned n ∷ ps) e have = absurd (none-some _ (sym e ∙ ap owned_slot have.0.is))
owns_none items a (number z ∷ p ∷ ps) e have = absurd have.1
owns_none items a (reference n ∷ p ∷ ps) e have = absurd have.1

pub number_owns : (items : Items) (a : Slot) (z : ℤ) (ps : List Part) → a ≡ Number z → AreParts items (a ∷ []) ps → owned_in ps ≡ []
number_owns items a z ps e = owns_none items a ps (ap owned_slot e)

pub object_owns : (items : Items) (a : Slot) (o : Obj) (k : ℕ) (ps : List Part) → a ≡ Object o k → AreParts items (a ∷ []) ps → owned_in ps ≡ []
object_owns items a o k ps e = owns_none items a ps (ap owned_slot e)
