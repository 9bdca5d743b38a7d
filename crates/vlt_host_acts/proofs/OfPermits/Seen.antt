-- Objects that a host holds, where they are.
use Rattle.std.proofs.Common.{◌≡◌, ℕ, ◌+◌, ◌<◌, ◌≤◌, ◌==◌, nat_lt, Bool, true, false, ◌&&◌, List, Option, Some, None, refl, sym, ap, ◌∙◌, subst, arith, slice_get, length}
use Rattle.std.proofs.lemmas.Bool.Decides.{nat_tests}
use Rattle.std.proofs.lemmas.Option.{none-some, same_Some, slice_get_within}
use Rattle.vlt_rings.proofs.Calls.{item_at}
use Rattle.vlt_core.specs.KindedHeads.{has}
use Rattle.vlt_core.specs.Core.{States}
use Rattle.vlt_heap.specs.Items.{Item, Items, IsAt, is_there, IsMadeAt}
use Rattle.vlt_heap.specs.Shown.{Holds, IsLive, ForObject, IsThereOrGone}
use Rattle.vlt_heap.specs.declared.heap.Heap.{Heap}
use Rattle.vlt_heap.specs.declared.slots.Obj.{Obj}
use Rattle.vlt_heap.proofs.Calls.{found, place_within}
use Rattle.vlt_heap.proofs.Listed.{made_at}
use Rattle.vlt_meaning.specs.World.{Object}
use Rattle.vlt_acts.specs.Values.Shown.{ShowsObject}
use Rattle.vlt_host_meaning.specs.HostFrame.{holds_in, host_holds}
use Rattle.vlt_host_meaning.specs.Permitted.{is_of_type, is_object_in}
use Rattle.vlt_host_acts.specs.declared.permits.hosted.Hosted.{Hosted}
use Rattle.vlt_host_acts.specs.Permits.Held.{numbers_in}
use Rattle.vlt_host_acts.specs.Permits.Hosted.{ShowsHosted, IsHosted}
use Rattle.vlt_host_acts.proofs.OfPermits.Holding.{held_has, is_held_there}

module _ (h : Hosted) (objects : List Object) (s : ShowsHosted h objects) where
  pub table_has : (n : ℕ) → has (numbers_in h.held.now) n ≡ host_holds objects n
  table_has n = ap (λ ns. has ns n) s.numbers ∙ held_has objects n

  -- an object that the host holds has an item
  pub record HasItem (n : ℕ) : Type 0 where
    pub item : Item
    pub at : IsAt s.items n item

  pub has_item : (n : ℕ) → host_holds objects n ≡ true → HasItem n
  has_item n e =
      let within = within_objects in
      let q = item_at s.items n (omega (arith, within, s.shown.long)) in
      by q.item q.at (is_held_there s.items s.width objects s.shown n q.item q.at e)
    where
      within_objects : n < length objects
      within_objects = of (slice_get objects n) refl e
        where
          of : (o : Option Object) → slice_get objects n ≡ o → holds_in n o ≡ true → n < length objects
          of None at e = cc
          of (Some o) at e = slice_get_within objects n o at

      by : (x : Option Item) → slice_get s.items n ≡ Some x → is_there x ≡ true → HasItem n
      by None at e = cc
      by (Some x) at e = record { item = x; at = at }

  -- an object of a number, at a place
  pub record IsSeen (o : Obj) (n : ℕ) : Type 0 where
    pub item : Item
    pub at : IsAt s.items n item
    pub place : item.place ≡ o.0
    pub object : Object
    pub there : slice_get objects n ≡ Some object
    pub shows : ShowsObject s.items s.width item object

  pub seen : (o : Obj) (n : ℕ) → IsLive h.heap.now o → ForObject h.heap.now o (λ items m x. m ≡ n) → IsSeen o n
  seen o n live number =
      let f = found h.heap.now s.items o.0 s.holds live in
      let same = number s.items f.number f.item s.holds f.at f.place in
      let at : IsAt s.items n f.item = subst (λ m. IsAt s.items m f.item) same f.at in
      let within = slice_get_within s.items n (Some f.item) at in
      let q = item_at objects n (omega (arith, within, s.shown.long)) in
      record {
        item = f.item;
        at = at;
        place = f.place;
        object = q.item;
        there = q.at;
        shows = s.shown.each n (Some f.item) q.item at q.at;
      }

  pub type_seen : (o : Obj) (n t u : ℕ) → IsLive h.heap.now o → ForObject h.heap.now o (λ items m x. m ≡ n) →
      ForObject h.heap.now o (λ items m x. t ≡ x.type) → host_holds objects n ≡ true →
      (t == u) ≡ (host_holds objects n && is_of_type u (slice_get objects n))
  type_seen o n t u live number is_type holds =
      let q = seen o n live number in
      let is = is_type s.items n q.item s.holds q.at q.place ∙ q.shows.type in
      ap (λ m. m == u) is ∙ (sym (ap (is_of_type u) q.there) ∙ sym (ap (λ b. b && is_of_type u (slice_get objects n)) holds))

  pub state_seen : (o : Obj) (n t : ℕ) (states : States) (b : Bool) → IsLive h.heap.now o → ForObject h.heap.now o (λ items m x. m ≡ n) →
      ForObject h.heap.now o (λ items m x. t ≡ x.state) → host_holds objects n ≡ true → b ≡ states t →
      b ≡ (host_holds objects n && is_object_in states (slice_get objects n))
  state_seen o n t states b live number is_state holds e =
      let q = seen o n live number in
      let is = is_state s.items n q.item s.holds q.at q.place ∙ q.shows.state in
      e ∙ (ap states is ∙ (sym (ap (is_object_in states) q.there) ∙ sym (ap (λ b. b && is_object_in states (slice_get objects n)) holds)))

  pub not_held : (n : ℕ) (x : Bool) → host_holds objects n ≡ false → false ≡ (host_holds objects n && x)
  not_held n x e = sym (ap (λ b. b && x) e)

-- no object of this number is at the place
abbrev pub IsNotAt : Heap → (place number : ℕ) → Type 0
IsNotAt heap c n = (items : Items) → Holds heap items → IsMadeAt items c n → slice_get items n ≡ Some None

pub tells_not : (heap : Heap) (c n : ℕ) (b : Bool) → b ≡ false →
    ((items : Items) → Holds heap items → IsMadeAt items c n → IsThereOrGone b items n c) → IsNotAt heap c n
tells_not heap c n true e t = cc
tells_not heap c n false e t = t

-- after one more place
pub none_yet : (heap : Heap) (n c : ℕ) → ((d : ℕ) → d < c → IsNotAt heap d n) → IsNotAt heap c n → (d : ℕ) → d < c + 1 → IsNotAt heap d n
none_yet heap n c before here d k = by (nat_lt d c) refl
  where
    by : (b : Bool) → nat_lt d c ≡ b → IsNotAt heap d n
    by true e = before d (grind (arith, nat_tests))
    by false e =
        let more : c ≤ d = grind (arith, nat_tests) in
        let same : c ≡ d = omega (arith, more, k) in
        subst (λ m. IsNotAt heap m n) same here

-- it is at one of the places
pub somewhere : (h : Hosted) → IsHosted h → (n : ℕ) → has (numbers_in h.held.now) n ≡ true →
    ((c : ℕ) → c < h.places → IsNotAt h.heap.now c n) → ⊥
somewhere h k n e none =
    let s = k.shown in
    let q = has_item h k.objects s n (sym (table_has h k.objects s n) ∙ e) in
    let within = place_within h.heap.now s.items s.holds n q.item q.at in
    none-some q.item (same_Some None (Some q.item) (sym (none q.item.place (omega (arith, within, k.places, k.heap.settled.sound.within)) s.items s.holds (made_at s.items n q.item q.at)) ∙ q.at))
