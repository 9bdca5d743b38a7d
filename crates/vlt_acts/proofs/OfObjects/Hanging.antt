-- Objects go into one that a function holds, slot by slot.
use Rattle.std.proofs.Common.{◌≡◌, ◌≢◌, ℕ, Bool, true, false, List, [], ◌∷◌, Some, Ok, sym, ap, ◌∙◌, slice_get}
use Rattle.std.proofs.lemmas.Bool.{false≢true}
use Rattle.std.proofs.lemmas.Option.{same_Some}
use Rattle.vlt_heap.specs.declared.slots.Obj.{Obj}
use Rattle.vlt_heap.specs.declared.slots.Slot.{Slot}
use Rattle.vlt_heap.specs.declared.heap.Heap.{Heap}
use Rattle.vlt_heap.specs.Items.{Items}
use Rattle.vlt_heap.proofs.Listed.{KeepMade}
use Rattle.vlt_meaning.specs.World.{Owner, inside, is_loose, Object as Thing}
use Rattle.vlt_meaning.specs.Objects.{owned_at, with_owner, with_changed_object, objects_after_move}
use Rattle.vlt_meaning_laws.proofs.Keeping.{bound, change_elsewhere}
use Rattle.vlt_acts.specs.Objects.Owned.{owned_in, IsHeldAt, put_in, CanHang, HangsAll}
use Rattle.vlt_acts.proofs.OfObjects.Chains.{split, first_seen, rest_seen, middle, moves_join, same_objects, then_kept}
use Rattle.vlt_acts.proofs.OfObjects.Owning.{FoundAt, found_at}

-- an object that fails the test isn't moved
pub moved_others : (from : Owner → Bool) (to : Owner) (ns : List ℕ) (os after : List Thing) (n : ℕ) (x : Thing) → slice_get os n ≡ Some x → from x.owner ≡ false → objects_after_move from to ns os ≡ Ok after → slice_get after n ≡ Some x
moved_others from to [] os after n x at isnt is = ap (λ l. slice_get l n) (sym (same_objects is)) ∙ at
moved_others from to (m ∷ ns) os after n x at isnt is =
    let b = bound (owned_at from os m) _ after is in
    let f = found_at from os m b.0 b.1 in
    moved_others from to ns (with_changed_object m (with_owner to) os) after n x (change_elsewhere os m (with_owner to) n (other f) ∙ at) isnt b.2
  where
    other : FoundAt from os m → n ≢ m
    other f e = absurd (false≢true (sym isnt ∙ ap (λ z. from z.owner) (same_Some x f.object (sym at ∙ ap (slice_get os) e ∙ f.at)) ∙ f.test))

-- the holder stays where it is
pub holder_stays : (items news : Items) (os after : List Thing) (n place : ℕ) (ns : List ℕ) → KeepMade items news → put_in n ns os ≡ Ok after → IsHeldAt items os n place → IsHeldAt news after n place
holder_stays items news os after n place ns keep is k = record {
  object = k.object;
  at = moved_others is_loose (inside n) ns os after n k.object k.at (ap is_loose k.owner) is;
  depth = k.depth;
  key = k.key;
  owner = k.owner;
  made = keep place n k.made;
}

pub hang_first : (h : Heap) (a : Slot) (slots : List Slot) (q : Obj) → CanHang h (a ∷ slots) q → CanHang h (a ∷ []) q
hang_first h a slots q c =
    let p = split c.can.sees.items a slots c.can.sees.parts c.can.sees.have in
    let m = middle (put_in c.number) (moves_join is_loose (inside c.number)) p.part p.parts c.can.sees.parts c.can.sees.objects c.can.after p.is c.can.is in
    record { number = c.number; can = record { sees = first_seen h a slots c.can.sees p; after = m.objects; is = m.first }; holder = c.holder }

pub hang_rest : (old new : Heap) (a : Slot) (slots : List Slot) (q : Obj) → CanHang old (a ∷ slots) q → HangsAll (a ∷ []) q old new → CanHang new slots q
hang_rest old new a slots q c does =
    let p = split c.can.sees.items a slots c.can.sees.parts c.can.sees.have in
    let m = middle (put_in c.number) (moves_join is_loose (inside c.number)) p.part p.parts c.can.sees.parts c.can.sees.objects c.can.after p.is c.can.is in
    let s = does (first_seen old a slots c.can.sees p) c.number m.objects c.holder m.first in
    record {
      number = c.number;
      can = record { sees = rest_seen new c.can.sees.items a slots c.can.sees.parts c.can.sees.width m.objects p s; after = c.can.after; is = m.rest };
      holder = holder_stays c.can.sees.items s.items c.can.sees.objects m.objects c.number q.0 (owned_in (p.part ∷ [])) s.kept m.first c.holder;
    }

pub hangs_both : (old mid new : Heap) (a : Slot) (slots : List Slot) (q : Obj) → HangsAll (a ∷ []) q old mid → HangsAll slots q mid new → HangsAll (a ∷ slots) q old new
hangs_both old mid new a slots q first rest s n after holder is =
    let p = split s.items a slots s.parts s.have in
    let m = middle (put_in n) (moves_join is_loose (inside n)) p.part p.parts s.parts s.objects after p.is is in
    let t = first (first_seen old a slots s p) n m.objects holder m.first in
    then_kept s.items new s.width after t.items t.kept
    (rest (rest_seen mid s.items a slots s.parts s.width m.objects p t) n after (holder_stays s.items t.items s.objects m.objects n q.0 (owned_in (p.part ∷ [])) t.kept m.first holder) m.rest)
