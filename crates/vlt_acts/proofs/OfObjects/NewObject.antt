-- The statement that makes an object.
use Rattle.std.proofs.Common.{◌≡◌, ◌≤◌, ℕ, suc, ◌+◌, ◌*◌, ◌==◌, List, [], ◌∷◌, length, Some, None, Result, Ok, Err, refl, sym, ap, ◌∙◌, subst, arith}
use Rattle.std.proofs.lemmas.Option.{none-some, same_Some}
use Rattle.vlt_base.specs.declared.HeapEnd.{HeapEnd}
use Rattle.vlt_ops.specs.declared.TrapKind.{TrapKind}
use Rattle.vlt_core.specs.Core.{Operand, Func, Program}
use Rattle.vlt_core.specs.Core as core
use Rattle.vlt_core.specs.Lookups.{Reference, reference_of, fields_of}
use Rattle.vlt_heap.specs.declared.slots.Slot.{Slot}
use Rattle.vlt_heap.specs.declared.heap.Heap.{Heap}
use Rattle.vlt_heap.specs.Items.{Items}
use Rattle.vlt_heap.specs.Shown.{heap_of}
use Rattle.vlt_meaning.specs.World.{Value, Frame, World, missing}
use Rattle.vlt_meaning.specs.Found.{or_fault}
use Rattle.vlt_meaning.specs.Run.{made_in, does_simple}
use Rattle.vlt_meaning_laws.specs.Machine.Got.{Got, got, stopped, then_got, operand_got, operands_got}
use Rattle.vlt_acts.specs.declared.values.values.Values.{Values}
use Rattle.vlt_acts.specs.Values.Shown.{ShowObjects, Seen, IsGrown}
use Rattle.vlt_acts.specs.Values.Pushed.{HaveValues, ArePushed}
use Rattle.vlt_acts.proofs.OfValues.Touching.{some_fault, some_is}
use Rattle.vlt_acts.proofs.OfValues.Pushing.{frame_grown}
use Rattle.vlt_acts.specs.Acts.Acts.{setup}
use Rattle.vlt_acts.proofs.OfActs.Keeping.{frame_kept}
use Rattle.vlt_acts.specs.declared.objects.halt.Halt.{Halt}
use Rattle.vlt_acts.specs.declared.objects.halt.Halt.TheVariants as h
use Rattle.vlt_acts.specs.Objects.Made.{SeesCells, CanMake, MakesNew, IsMadeOrFull, NamesIt, Comes, IsRightHere}
use Rattle.vlt_acts.proofs.OfObjects.Going.{IsSafe, found_safe, so_safe}
use Rattle.vlt_acts.proofs.OfObjects.Putting.{ok_err}
use Rattle.vlt_acts.proofs.OfObjects.Coming.{Pushes, pushed_safe, made_safe, found_comes, so_comes, pushed_comes, made_comes, full_comes, less_shown}

-- ---- as many values as operands

abbrev Counts : {A : Type 0} → ℕ → Got (List A) → Type 0
Counts n (got xs frame w) = length xs ≡ n
Counts n (stopped o w) = Unit {0}

operands_count : (p : Program) (f : Func) (os : List Operand) (frame : Frame) (w : World) → Counts (length os) (operands_got p f os frame w)
unfolding then_got
operands_count p f [] frame w = refl
operands_count p f (o ∷ os) frame w = by (operand_got p f o frame w) (λ f2 v. operands_count p f os f2 v)
  where
    rest : (a : Value) (n : ℕ) (y : Got (List Value)) → Counts n y → Counts (suc n) (then_got y (λ xs f3 v. got (a ∷ xs) f3 v))
    rest a n (got xs f3 v) e = ap suc e
    rest a n (stopped q v) e = tt

    by : (x : Got Value) → ((f2 : Frame) (v : World) → Counts (length os) (operands_got p f os f2 v)) → Counts (suc (length os)) (then_got x (λ a frame w. then_got (operands_got p f os frame w) (λ xs frame w. got (a ∷ xs) frame w)))
    by (got a f2 v) again = rest a (length os) (operands_got p f os f2 v) (again f2 v)
    by (stopped q v) again = tt

pub pushes_count : (items : Items) (old mid : Values) (p : Program) (f : Func) (os : List Operand) (frame : Frame) (w : World) (q : Pushes items old mid p f os frame w) → length q.cells ≡ length os
pushes_count items old mid p f os frame w q = subst (Counts (length os)) q.is (operands_count p f os frame w)

-- ---- the values of operands that were pushed

abbrev pub pushed_seen : (heap : Heap) (old mid : Values) (c : Seen heap old) (os : List Operand) (w : World) → IsGrown old mid → Pushes c.items old mid c.program c.func os c.frame w → SeesCells heap mid (length old.slots.items)
pushed_seen heap old mid c os w g q = record {
  items = c.items;
  objects = q.world.objects;
  cells = q.cells;
  holds = c.holds;
  shown = q.have.shows.objects_shown;
  have = subst (λ z. HaveValues c.items mid.slots.items (length old.slots.items) z q.cells) (sym g.width) q.have.values_at;
}

abbrev pub PushesAll : (heap : Heap) (old mid : Values) (os : List Operand) (r : Result (Unit {0}) TrapKind) → Type 0
PushesAll heap old mid os r = (c : Seen heap old) (w : World) → w.objects ≡ c.objects → ArePushed c.items old mid r (operands_got c.program c.func os c.frame w)

pub has_reference : (heap : Heap) (old : Values) (x : ℕ) (os : List Operand) (f : Func) → IsRightHere f heap old (core.make x os) → reference_of f x ≡ None → ⊥
has_reference heap old x os f q none =
    let c = q.right.seen in
    let a = found_safe (or_fault missing (reference_of c.func x)) q.right.world _ (some_fault missing (reference_of c.func x)) q.right.right in
    none-some a.value (sym none ∙ ap (λ z. reference_of z x) (sym q.func) ∙ some_is missing (reference_of c.func x) a.value a.is)

pub makes_at : (t from place n m : ℕ) (values : Values) (old new : Heap) (o : Result Slot HeapEnd) → from ≡ place → n ≡ m → MakesNew t from n values old new o → MakesNew t place m values old new o
makes_at t from place n m values old new o same_place same_count makes =
    subst (λ z. MakesNew t z m values old new o) same_place (subst (λ z. MakesNew t from z values old new o) same_count makes)

module _ (heap : Heap) (old mid : Values) (x : ℕ) (os : List Operand) (r : Result (Unit {0}) TrapKind) (pushed : PushesAll heap old mid os r) (g : IsGrown old mid) (f : Func) where
  -- what a statement that doesn't go wrong finds
  record Right (ok : r ≡ Ok tt) : Type 0 where
    seen : Seen heap old
    world : World
    func : seen.func ≡ f
    ref : Reference
    is_ref : reference_of seen.func x ≡ Some ref
    pushes : Pushes seen.items old mid seen.program seen.func os seen.frame world
    depth : ℕ
    safe : IsSafe (made_in (setup seen.program (heap_of heap) depth) ref x pushes.cells pushes.left pushes.world)

  right_is : IsRightHere f heap old (core.make x os) → (ok : r ≡ Ok tt) → Right ok
  right_is q ok =
      let c = q.right.seen in
      let w = q.right.world in
      let a = found_safe (or_fault missing (reference_of c.func x)) w _ (some_fault missing (reference_of c.func x)) q.right.right in
      let b = so_safe (length os == length (fields_of c.program a.value.type)) missing None w _ a.safe in
      let d = pushed_safe c.items old mid c.program c.func os c.frame w r (λ cells frame w. made_in (setup c.program q.right.heap_budget q.right.depth) a.value x cells frame w) ok (pushed c w q.right.objects) b.1 in
      record {
        seen = c;
        world = w;
        func = q.func;
        ref = a.value;
        is_ref = some_is missing (reference_of c.func x) a.value a.is;
        pushes = d.0;
        depth = q.right.depth;
        safe = subst (λ z. IsSafe (made_in (setup c.program z q.right.depth) a.value x d.0.cells d.0.left d.0.world)) q.budget d.1;
      }

  pub pushed_within : IsRightHere f heap old (core.make x os) → r ≡ Ok tt → length old.slots.items + length os * mid.width ≤ length mid.slots.items
  pushed_within q ok =
      let d = right_is q ok in
      let l = d.pushes.have.long in
      let n = pushes_count d.seen.items old mid d.seen.program d.seen.func os d.seen.frame d.world d.pushes in
      let e : length d.pushes.cells * old.width ≡ length os * mid.width = ap (λ z. z * old.width) n ∙ ap (λ z. length os * z) (sym g.width) in
      omega (arith, l, e)

  pub can_make : IsRightHere f heap old (core.make x os) → r ≡ Ok tt → (t : Reference) → reference_of f x ≡ Some t → CanMake t.type (length old.slots.items) (length os) mid heap
  can_make q ok t is =
      let d = right_is q ok in
      record {
        sees = pushed_seen heap old mid d.seen os d.world g d.pushes;
        counted = pushes_count d.seen.items old mid d.seen.program d.seen.func os d.seen.frame d.world d.pushes;
        frame = d.pushes.left;
        ref = d.ref;
        typed = ap (λ z. z.type) (same_Some d.ref t (sym d.is_ref ∙ ap (λ z. reference_of z x) d.func ∙ is));
        right = λ room. made_safe (setup d.seen.program (heap_of heap) d.depth) d.ref x d.pushes.cells d.pushes.left d.pushes.world d.safe room;
      }

  -- ---- what it comes to

  module _ (cut : Values) (k : IsGrown old cut) (c : Seen heap old) (w : World) (d : ℕ) (func : c.func ≡ f) (same : w.objects ≡ c.objects) (t : Reference) (is_ref : reference_of f x ≡ Some t) where
    pub make_traps : (e : TrapKind) → r ≡ Err e → Comes c.items heap cut (Err (h.Trap e)) (does_simple (setup c.program (heap_of heap) d) c.func (core.make x os) c.frame w)
    make_traps e is =
        found_comes c.items heap cut _ (or_fault missing (reference_of c.func x)) w _ (some_fault missing (reference_of c.func x)) (λ q at.
        so_comes c.items heap cut _ (length os == length (fields_of c.program q.type)) missing None w _
        (pushed_comes c.items heap cut c.items old mid c.program c.func os c.frame w r _ _ (pushed c w same) (λ s e2. ap (λ z. Err (h.Trap z)) (kind s e2)) (λ u ok. absurd (ok_err (sym ok ∙ is)))))
      where
        kind : (s : TrapKind) → r ≡ Err s → e ≡ s
        kind s e2 = ap of_err (sym is ∙ e2)
          where
            of_err : Result (Unit {0}) TrapKind → TrapKind
            of_err (Ok z) = e
            of_err (Err z) = z

    -- the object is made or there is no room, once the operands are pushed
    made_now : (new : Heap) (values : Values) (o : Result Slot HeapEnd) (z : Result (Unit {0}) Halt) → r ≡ Ok tt
        → ((u : Pushes c.items old mid c.program c.func os c.frame w) → IsMadeOrFull heap mid (length old.slots.items) (pushed_seen heap old mid c os w g u) u.left t new o → Comes c.items new values z (made_in (setup c.program (heap_of heap) d) t x u.cells u.left u.world))
        → MakesNew t.type (length old.slots.items) (length os) mid heap new o → Comes c.items new values z (does_simple (setup c.program (heap_of heap) d) c.func (core.make x os) c.frame w)
    made_now new values o z ok rest makes =
        found_comes c.items new values z (or_fault missing (reference_of c.func x)) w _ (some_fault missing (reference_of c.func x)) (λ q at.
        let e : t ≡ q = same_Some t q (sym is_ref ∙ ap (λ y. reference_of y x) (sym func) ∙ some_is missing (reference_of c.func x) q at) in
        so_comes c.items new values z (length os == length (fields_of c.program q.type)) missing None w _
        (pushed_comes c.items new values c.items old mid c.program c.func os c.frame w r z _ (pushed c w same) (λ s e2. absurd (ok_err (sym ok ∙ e2))) (λ u ok2.
        subst (λ y. Comes c.items new values z (made_in (setup c.program (heap_of heap) d) y x u.cells u.left u.world)) e
        (rest u (makes (pushed_seen heap old mid c os w g u) u.left t (pushes_count c.items old mid c.program c.func os c.frame w u) refl)))))

    pub make_full : (new : Heap) (o : Result Slot HeapEnd) (e : HeapEnd) → r ≡ Ok tt → o ≡ Err e → MakesNew t.type (length old.slots.items) (length os) mid heap new o → Comes c.items new cut (Err h.HeapEnd) (does_simple (setup c.program (heap_of heap) d) c.func (core.make x os) c.frame w)
    make_full new o e ok is makes = made_now new cut (Err e) (Err h.HeapEnd) ok (λ u full.
        full_comes c.items new cut (heap_of heap) d c.program t x u.cells u.left u.world full.0) (subst (MakesNew t.type (length old.slots.items) (length os) mid heap new) is makes)

    pub make_does : (new : Heap) (last : Values) (o : Result Slot HeapEnd) (a : Slot) → r ≡ Ok tt → o ≡ Ok a → last.width ≡ cut.width → MakesNew t.type (length old.slots.items) (length os) mid heap new o → NamesIt x t.key a cut last
        → Comes c.items new last (Ok tt) (does_simple (setup c.program (heap_of heap) d) c.func (core.make x os) c.frame w)
    make_does new last o a ok is wide makes names = made_now new last (Ok a) (Ok tt) ok (λ u made.
        made_comes c.items new last (heap_of heap) d c.program t x u.cells u.left u.world (λ room after moved.
        let n = made.shows after moved in
        record {
          is = refl;
          shows = record {
            items = n.shows.items;
            holds = n.shows.holds;
            objects_shown = subst (λ y. ShowObjects n.shows.items y after) (g.width ∙ sym k.width ∙ sym wide) n.shows.shown;
            frame_shown = names n.shows.items u.left (length u.world.objects) (frame_grown n.shows.items old cut u.left k (frame_kept c.items n.shows.items old u.left n.shows.kept (less_shown c.items old c.frame u.left u.less c.fits))) n.object;
            kept = n.shows.kept;
          };
        }) made.room) (subst (MakesNew t.type (length old.slots.items) (length os) mid heap new) is makes)
