-- Objects that arguments own go out.
use Rattle.std.proofs.Common.{◌≡◌, ◌+◌, ℕ, ℤ, suc, List, [], ◌∷◌, length, Ok, refl, sym, ap, ◌∙◌, subst, append-nil, arith}
use Rattle.std.specs.List.{flat_map}
use Rattle.std.proofs.lemmas.Option.{none-some, same_Some}
use Rattle.vlt_heap.specs.declared.slots.Obj.{Obj}
use Rattle.vlt_heap.specs.declared.slots.Slot.{Slot}
use Rattle.vlt_heap.specs.declared.slots.Slot.TheVariants.{Number, Object, Owned}
use Rattle.vlt_heap.specs.declared.heap.Heap.{Heap}
use Rattle.vlt_heap.specs.Items.{Items, IsMadeAt}
use Rattle.vlt_meaning.specs.World.{Part, number, reference, owned, objects_in_part, objects_in, Value, one, of_case, is_loose, out, Object as Thing}
use Rattle.vlt_meaning.specs.Objects.{with_owner, with_changed_object, objects_after_move}
use Rattle.vlt_acts.specs.declared.values.values.Values.{Values}
use Rattle.vlt_acts.specs.Values.Parts.{HasPart}
use Rattle.vlt_acts.specs.Values.Shown.{Seen}
use Rattle.vlt_acts.specs.Values.Pushed.{HaveValues}
use Rattle.vlt_acts.proofs.OfValues.Fronts.{IsSlotAt}
use Rattle.vlt_acts.specs.Acts.Acts.{Shows}
use Rattle.vlt_acts.proofs.OfActs.Keeping.{value_kept}
use Rattle.vlt_acts.specs.Frames.Left.{IsRootAt}
use Rattle.vlt_externals.specs.Told.{AreArgs}
use Rattle.vlt_externals.specs.Sent.{ShowsAll, CanGo, Goes, owned_out, CanHand, Hands}
use Rattle.vlt_externals.proofs.Telling.{owned_of, first_is}
use Rattle.vlt_externals.proofs.Going.{all_shown, seen_after, shows_twice, shows_same, moved_one, moved_append, same_found, loose_root}

-- ---- one argument

-- a slot that owns nothing
abbrev pub OwnsNothing : Slot → Type 0
OwnsNothing a = (o : Obj) (m : ℕ) → a ≡ Owned o m → ⊥

pub object_owns_nothing : (a : Slot) (o : Obj) (n : ℕ) → a ≡ Object o n → OwnsNothing a
object_owns_nothing a o n is q m e = none-some (q, m) (ap owned_of (sym is ∙ e))

pub number_owns_nothing : (a : Slot) (z : ℤ) → a ≡ Number z → OwnsNothing a
number_owns_nothing a z is q m e = none-some (q, m) (ap owned_of (sym is ∙ e))

nothing_owned : (items : Items) (p : Part) (a : Slot) → OwnsNothing a → HasPart items p a → objects_in_part p ≡ []
nothing_owned items (number z) a none part = refl
nothing_owned items (reference n) a none part = refl
nothing_owned items (owned n) a none part = absurd (none part.object n part.is)

-- what the tables have of the object that an argument owns
record IsOwnedAt (items : Items) (objects : List Thing) (o : Obj) (after : List Thing) : Type 0 where
  number : ℕ
  root : IsRootAt objects number
  made : IsMadeAt items o.0 number
  is : with_changed_object number (with_owner out) objects ≡ after

owned_part : (items : Items) (p : Part) (a : Slot) (o : Obj) (m : ℕ) (objects after : List Thing) → a ≡ Owned o m → HasPart items p a → objects_after_move is_loose out (objects_in_part p) objects ≡ Ok after → IsOwnedAt items objects o after
owned_part items (number z) a o m objects after is part went = absurd (none-some (o, m) (ap owned_of (sym part ∙ is)))
owned_part items (reference n) a o m objects after is part went = absurd (none-some (o, m) (ap owned_of (sym part.is ∙ is)))
owned_part items (owned n) a o m objects after is part went =
    let r = moved_one is_loose out n objects after went in
    let root = loose_root r.object.owner r.passes in
    let same : (part.object, n) ≡ (o, m) = same_Some _ _ (ap owned_of (sym part.is ∙ is)) in
    record { number = n; root = record { object = r.object; at = r.at; live = root.0; root = root.1; here = root.2 }; made = subst (λ q. IsMadeAt items q.0 n) (ap (λ q. q.0) same) part.made; is = r.is }

module _ (h : Heap) (values : Values) (from : ℕ) (a : Slot) (slot : IsSlotAt values.slots.items from a) where
  part_out : (p : Part) (rest : List Value) (objects after : List Thing) → length (one p ∷ rest) ≡ 1 → owned_out (one p ∷ rest) objects ≡ Ok after → objects_after_move is_loose out (objects_in_part p) objects ≡ Ok after
  part_out p [] objects after l went = ap (λ ns. objects_after_move is_loose out ns objects) (sym (append-nil (objects_in_part p))) ∙ went
  part_out p (b ∷ rest) objects after l went = absurd (omega (arith, l))

  hand_at : (c : Seen h values) (args : List Value) (after : List Thing) (o : Obj) (m : ℕ) → a ≡ Owned o m → AreArgs c.items values from 1 args → owned_out args c.objects ≡ Ok after → IsOwnedAt c.items c.objects o after
  hand_at c [] after o m is are went = let l = are.count_is in absurd (omega (arith, l))
  hand_at c (of_case d ps keys ∷ rest) after o m is are went = absurd are.single
  hand_at c (one p ∷ rest) after o m is are went = owned_part c.items p a o m c.objects after is (first_is c.items values from 1 p rest a are slot) (part_out p rest c.objects after are.count_is went)

  pub can_hand : (o : Obj) (m : ℕ) → a ≡ Owned o m → CanHand h values from 1 → CanGo h o
  can_hand o m is can =
      let t = hand_at can.seen can.args can.after o m is can.are can.is in
      record { items = can.seen.items; width = values.width; objects = can.seen.objects; number = t.number; holds = can.seen.holds; shown = can.seen.shown; root = t.root; made = t.made }

  pub hands_it : (new : Heap) (o : Obj) (m : ℕ) → a ≡ Owned o m → Goes o h new → Hands from 1 values h new
  hands_it new o m is goes c args after are went =
      let t = hand_at c args after o m is are went in
      all_shown h new values c after (subst (ShowsAll c.items new values.width) t.is (goes c.items values.width c.objects t.number c.holds c.shown t.root t.made))

  pub hands_nothing : OwnsNothing a → Hands from 1 values h h
  hands_nothing none c [] after are went = let l = are.count_is in absurd (omega (arith, l))
  hands_nothing none c (of_case d ps keys ∷ rest) after are went = absurd are.single
  hands_nothing none c (one p ∷ rest) after are went =
      let e = nothing_owned c.items p a none (first_is c.items values from 1 p rest a are slot) in
      subst (λ os. Shows c.items h values c.frame os) (same_found c.objects after (ap (λ ns. objects_after_move is_loose out ns c.objects) (sym e) ∙ part_out p rest c.objects after are.count_is went)) (shows_same h values c)

-- ---- one argument, then the others

args_first : (items : Items) (values : Values) (from m : ℕ) (a : Value) (rest : List Value) → AreArgs items values from (suc m) (a ∷ rest) → AreArgs items values from 1 (a ∷ [])
args_first items values from m (of_case d ps keys) rest are = absurd are.single
args_first items values from m (one p) rest are = record { count_is = refl; single = tt; at = (are.at.0, tt) }

args_rest : (items : Items) (values : Values) (from m : ℕ) (a : Value) (rest : List Value) → AreArgs items values from (suc m) (a ∷ rest) → AreArgs items values (from + values.width) m rest
args_rest items values from m (of_case d ps keys) rest are = absurd are.single
args_rest items values from m (one p) rest are = record { count_is = (let l = are.count_is in omega (arith, l)); single = are.single; at = are.at.1 }

owned_split : (a : Value) (rest : List Value) (objects after : List Thing) → owned_out (a ∷ rest) objects ≡ Ok after → (mid : List Thing) × (owned_out (a ∷ []) objects ≡ Ok mid) × (owned_out rest mid ≡ Ok after)
owned_split a rest objects after went =
    let r = moved_append is_loose out (objects_in a) (flat_map objects_in rest) objects after went in
    (r.0, ap (λ ns. objects_after_move is_loose out ns objects) (append-nil (objects_in a)) ∙ r.1, r.2)

-- what it takes of the first one and of the others
record Split (h : Heap) (values : Values) (from m : ℕ) (c : Seen h values) (args : List Value) (after : List Thing) : Type 0 where
  first : Value
  rest : List Value
  first_are : AreArgs c.items values from 1 (first ∷ [])
  rest_are : AreArgs c.items values (from + values.width) m rest
  mid : List Thing
  first_out : owned_out (first ∷ []) c.objects ≡ Ok mid
  rest_out : owned_out rest mid ≡ Ok after

split : (h : Heap) (values : Values) (from m n : ℕ) (c : Seen h values) (args : List Value) (after : List Thing) → n ≡ suc m → AreArgs c.items values from n args → owned_out args c.objects ≡ Ok after → Split h values from m c args after
split h values from m n c [] after e are went = let l = are.count_is in absurd (omega (arith, l, e))
split h values from m n c (a ∷ rest) after e are went =
    let k = subst (λ i. AreArgs c.items values from i (a ∷ rest)) e are in
    let r = owned_split a rest c.objects after went in
    record { first = a; rest = rest; first_are = args_first c.items values from m a rest k; rest_are = args_rest c.items values from m a rest k; mid = r.0; first_out = r.1; rest_out = r.2 }

-- arguments are known still
pub args_kept : (old new : Items) (values : Values) (from n : ℕ) (args : List Value) → ((k i : ℕ) → IsMadeAt old k i → IsMadeAt new k i) → AreArgs old values from n args → AreArgs new values from n args
args_kept old new values from n args keep are = record { count_is = are.count_is; single = are.single; at = all args from are.at }
  where
    all : (xs : List Value) (k : ℕ) → HaveValues old values.slots.items k values.width xs → HaveValues new values.slots.items k values.width xs
    all [] k h = tt
    all (x ∷ xs) k h = (value_kept old new values.slots.items k values.width x keep h.0, all xs (k + values.width) h.1)

pub hand_first : (h : Heap) (values : Values) (from m n : ℕ) → n ≡ suc m → CanHand h values from n → CanHand h values from 1
hand_first h values from m n e can =
    let s = split h values from m n can.seen can.args can.after e can.are can.is in
    record { seen = can.seen; args = s.first ∷ []; are = s.first_are; after = s.mid; is = s.first_out }

pub hand_rest : (old new : Heap) (values : Values) (from m n : ℕ) → n ≡ suc m → CanHand old values from n → Hands from 1 values old new → CanHand new values (from + values.width) m
hand_rest old new values from m n e can hands =
    let s = split old values from m n can.seen can.args can.after e can.are can.is in
    let t = hands can.seen (s.first ∷ []) s.mid s.first_are s.first_out in
    record { seen = seen_after old new values can.seen s.mid t; args = s.rest; are = args_kept can.seen.items t.items values (from + values.width) m s.rest t.kept s.rest_are; after = can.after; is = s.rest_out }

pub hands_both : (old between new : Heap) (values : Values) (from m n : ℕ) → n ≡ suc m → Hands from 1 values old between → Hands (from + values.width) m values between new → Hands from n values old new
hands_both old between new values from m n e first rest c args after are went =
    let s = split old values from m n c args after e are went in
    let t = first c (s.first ∷ []) s.mid s.first_are s.first_out in
    shows_twice old between new values c s.mid after t
    (rest (seen_after old between values c s.mid t) s.rest after (args_kept c.items t.items values (from + values.width) m s.rest t.kept s.rest_are) s.rest_out)

pub hands_none : (h : Heap) (values : Values) (from n : ℕ) → n ≡ 0 → Hands from n values h h
hands_none h values from n e c [] after are went = subst (λ os. Shows c.items h values c.frame os) (same_found c.objects after went) (shows_same h values c)
hands_none h values from n e c (a ∷ args) after are went = let l = are.count_is in absurd (omega (arith, l, e))
