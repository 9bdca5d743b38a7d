-- Objects that a host made, and slots for what is read.
use Rattle.std.proofs.Common.{◌≡◌, ◌≢◌, inl, ◌+◌, ◌*◌, ℕ, suc, ℤ, true, false, if◌then◌else◌, List, [], ◌∷◌, ◌++◌, take, drop, length, Option, None, Some, Result, Ok, Err, refl, sym, ap, ◌∙◌, subst, arith, slice_get}
use Rattle.std.specs.Result.{is_ok}
use Rattle.std.proofs.lemmas.Bool.{false≢true}
use Rattle.std.proofs.lemmas.Option.{none-some, same_Some}
use Rattle.vlt_base.specs.declared.HeapEnd.{HeapEnd}
use Rattle.vlt_core.specs.Core.{Ty}
use Rattle.vlt_core.specs.Lookups.{Reference}
use Rattle.vlt_rings.proofs.Lists.{get_last}
use Rattle.vlt_heap.specs.declared.slots.Obj.{Obj}
use Rattle.vlt_heap.specs.declared.slots.Slot.{Slot}
use Rattle.vlt_heap.specs.declared.slots.Slot.TheVariants.{Number, Owned}
use Rattle.vlt_heap.specs.declared.heap.Heap.{Heap}
use Rattle.vlt_heap.specs.Items.{Items, with_item, with_state}
use Rattle.vlt_heap.specs.Shown.{Holds, heap_of, slots_of, ForObject, Makes, Changes}
use Rattle.vlt_heap.proofs.Listed.{KeepMade, kept_with}
use Rattle.vlt_meaning.specs.World.{Part, number, owned, loose, Object as Thing, Frame, heap_end}
use Rattle.vlt_meaning.specs.Found.{Found, ◌>>=◌}
use Rattle.vlt_meaning.specs.Objects.{with_changed_object, changed_in}
use Rattle.vlt_meaning.specs.Run.{new_object}
use Rattle.vlt_meaning.specs.HostAnswers.{Piece, plain, new_in, then_reads, reads, each, piece_of}
use Rattle.vlt_meaning.specs.Externals.{from_host, type_in}
use Rattle.vlt_acts.specs.declared.values.values.Values.{Values}
use Rattle.vlt_acts.specs.Values.Parts.{HasPart, HaveParts}
use Rattle.vlt_acts.specs.Values.Shown.{ShowObjects, IsRowSet, IsSlotSet}
use Rattle.vlt_acts.proofs.OfValues.Fronts.{Following, following}
use Rattle.vlt_acts.proofs.OfActs.Keeping.{part_kept}
use Rattle.vlt_acts.proofs.OfActs.Showing.{one_shown}
use Rattle.vlt_acts.specs.Objects.Made.{SeesCells}
use Rattle.vlt_acts.proofs.OfObjects.Storing.{none_stored}
use Rattle.vlt_acts.proofs.OfObjects.NewCells.{Stored, stored, full_made, full_same}
use Rattle.vlt_externals.specs.Sent.{ShowsAll}
use Rattle.vlt_externals.proofs.OfHostAnswers.Reading.{each_none, each_some}
use Rattle.vlt_externals.specs.Results.Results.{part_made, pieces_made, IsKeeper, MakesIn, HasPartMade, IsPartMade, MakesPart, ArePartsMade, PutsPieces}

-- ---- the new object

change_last : (objects : List Thing) (x y : Thing) → with_changed_object (length objects) (λ z. y) (objects ++ x ∷ []) ≡ objects ++ y ∷ []
change_last objects x y = ap (λ z. changed_in (length objects) (λ z. y) (objects ++ x ∷ []) z) (get_last objects x) ∙ set_last objects
  where
    set_last : (xs : List Thing) → changed_in (length xs) (λ z. y) (xs ++ x ∷ []) (Some x) ≡ xs ++ y ∷ []
    set_last [] = refl
    set_last (z ∷ xs) = ap (λ l. z ∷ l) (set_last xs)

-- a reference of the type, and a frame that has nothing
abbrev any_reference : (type : ℕ) → Reference
any_reference t = record { key = 0; type = t }

abbrev any_frame : Frame
any_frame = record { depth = 0; vars = λ v. None; keys = λ k. None }

none_taken : (slots : List Slot) (w : ℕ) → [] ≡ take (0 * w) (drop 0 slots)
none_taken slots w = let e : 0 * w ≡ 0 = omega arith in subst (λ n. [] ≡ take n (drop 0 slots)) (sym e) refl

module _ (old mid new : Heap) (t s serial : ℕ) (o : Obj) (makes : Makes (Ok o) t old mid) (size : slots_of mid ≡ slots_of old) (is_number : ForObject mid o (λ items n x. serial ≡ n)) (changes : Changes o (with_state s) mid new) where
  abbrev seen : (items : Items) (values : Values) (objects : List Thing) → Holds old items → ShowObjects items values.width objects → SeesCells old values 0
  seen items values objects holds shown = record { items = items; objects = objects; cells = []; holds = holds; shown = shown; have = tt }

  pub new_made : MakesIn t s old new (Ok (o, serial))
  new_made items values objects owner keeper holds shown =
      let see = seen items values objects holds shown in
      let k : Stored old values 0 see (any_reference t) any_frame mid o =
      stored old mid values 0 0 t o makes (omega arith) (omega arith) size [] (none_taken values.slots.items values.width) mid (length items) 0 refl (none_stored mid o (length items) 0) see refl refl (any_reference t) any_frame refl in
      let x : Thing = new_object (any_reference t) [] any_frame in
      let y : Thing = from_host t s owner in
      let at : slice_get (objects ++ x ∷ []) (length objects) ≡ Some x = get_last objects x in
      let b : Following k.items values.width (length objects) x = following k.items values.width (length objects) (objects ++ x ∷ []) x k.shown at refl in
      let place = k.made.place b.item b.at in
      let keep : KeepMade k.items (with_item (length objects) (with_state s b.item) k.items) = kept_with k.items (length objects) b.item (with_state s b.item) b.at refl in (
        sym (full_same items values.width (heap_of old) objects shown) ∙ (makes items holds).room,
        record {
          shows = record {
            items = with_item (length objects) (with_state s b.item) k.items;
            holds = changes k.items (length objects) b.item k.holds b.at place;
            shown = subst (ShowObjects (with_item (length objects) (with_state s b.item) k.items) values.width) (change_last objects x y)
                (one_shown k.items values.width (length objects) (objects ++ x ∷ []) b.item (with_state s b.item) x (λ z. y) keep k.shown b.at at (record {
                  live = keeper.live;
                  type = b.shown.type;
                  state = refl;
                  parent = b.shown.parent ∙ sym keeper.root;
                  is_out = b.shown.is_out ∙ sym keeper.here;
                  cells = λ i a none. absurd (none-some a none);
                }));
            kept = λ c n made. keep c n (k.kept c n made);
          };
          made = keep o.0 (length objects) k.made;
          number = is_number k.items (length objects) b.item k.holds b.at place;
        },
      )

pub none_made : (old new : Heap) (t s : ℕ) (e : HeapEnd) → Makes (Err e) t old new → MakesIn t s old new (Err e)
none_made old new t s e makes items values objects owner keeper holds shown =
    full_made old new values 0 t e makes (record { items = items; objects = objects; cells = []; holds = holds; shown = shown; have = tt })

-- ---- one part

all_still : (heap : Heap) (items : Items) (width : ℕ) (objects : List Thing) → Holds heap items → ShowObjects items width objects → ShowsAll items heap width objects
all_still heap items width objects holds shown = record { items = items; holds = holds; shown = shown; kept = λ c n made. made }

pub number_part : (heap : Heap) (t : ℕ) (z : ℤ) → MakesPart t (plain z) heap heap (Ok (Number z))
number_part heap t z items values objects holds shown = record { slot = Number z; is = refl; shows = all_still heap items values.width objects holds shown; part = refl }

loose_keeper : IsKeeper loose
loose_keeper = record { live = refl; root = refl; here = refl }

pub owned_part : (old new : Heap) (t s number : ℕ) (o : Obj) → MakesIn t s old new (Ok (o, number)) → MakesPart t (new_in s) old new (Ok (Owned o number))
owned_part old new t s serial o makes items values objects holds shown =
    let m = makes items values objects loose loose_keeper holds shown in
    subst (λ b. IsPartMade items new values.width (Ok (Owned o serial)) (if b then Err heap_end else Ok (owned (length objects), objects ++ from_host t s loose ∷ []))) (sym m.0)
    (record { slot = Owned o serial; is = refl; shows = m.1.shows; part = record { object = o; is = ap (λ n. Owned o n) m.1.number; made = m.1.made } })

pub no_part : (old new : Heap) (t s : ℕ) (e : HeapEnd) → MakesIn t s old new (Err e) → MakesPart t (new_in s) old new (Err e)
no_part old new t s e makes items values objects holds shown =
    subst (λ b. IsPartMade items new values.width (Err e) (if b then Err heap_end else Ok (owned (length objects), objects ++ from_host t s loose ∷ []))) (sym (makes items values objects loose loose_keeper holds shown))
    (refl, refl)

-- ---- parts one after another

pub no_pieces : (heap : Heap) (values : Values) (zs : List ℤ) (to : ℕ) → PutsPieces [] zs to values values heap heap (Ok tt)
no_pieces heap values zs to items objects xs rest holds shown e = record { is = refl; shows = all_still heap items values.width objects holds shown; parts = tt }

pub piece_missing : (old new : Values) (h q : Heap) (t : Ty) (ts : List Ty) (zs : List ℤ) (to : ℕ) (r : Result (Unit {0}) HeapEnd) → piece_of t zs ≡ None → PutsPieces (t ∷ ts) zs to old new h q r
piece_missing old new h q t ts zs to r none items objects xs rest holds shown e =
    absurd (none-some (xs, rest) (sym (each_none piece_of t ts zs none) ∙ e))

record Pieces (t : Ty) (ts : List Ty) (x : Piece) (more : List ℤ) (xs : List Piece) (rest : List ℤ) : Type 0 where
  others : List Piece
  read : each piece_of ts more ≡ Some (others, rest)
  are : x ∷ others ≡ xs

pieces_are : (t : Ty) (ts : List Ty) (zs more : List ℤ) (x : Piece) (xs : List Piece) (rest : List ℤ) → piece_of t zs ≡ Some (x, more) → each piece_of (t ∷ ts) zs ≡ Some (xs, rest) → Pieces t ts x more xs rest
pieces_are t ts zs more x xs rest one all = by (each piece_of ts more) refl (sym (each_some piece_of t ts zs x more one) ∙ all)
  where
    by : (q : Option (List Piece × List ℤ)) → each piece_of ts more ≡ q → then_reads (λ bs. reads (x ∷ bs)) q ≡ Some (xs, rest) → Pieces t ts x more xs rest
    by None at e = absurd (none-some (xs, rest) e)
    by (Some q) at e =
        let same : (x ∷ q.0, q.1) ≡ (xs, rest) = same_Some (x ∷ q.0, q.1) (xs, rest) e in
        record { others = q.0; read = at ∙ ap (λ l. Some (q.0, l)) (ap (λ z. z.1) same); are = ap (λ z. z.0) same }

pub piece_full : (old new : Values) (h q : Heap) (t : Ty) (ts : List Ty) (zs more : List ℤ) (to : ℕ) (x : Piece) (e : HeapEnd) → piece_of t zs ≡ Some (x, more) → MakesPart (type_in (Some t)) x h q (Err e) → PutsPieces (t ∷ ts) zs to old new h q (Err e)
piece_full old new h q t ts zs more to x e read made items objects xs rest holds shown all =
    let p = pieces_are t ts zs more x xs rest read all in
    subst (λ l. ArePartsMade items q new to (Err e) (pieces_made (heap_of h) (t ∷ ts) l objects)) p.are
    (by p.others (part_made (heap_of h) (type_in (Some t)) x objects) (made items old objects holds shown))
  where
    by : (ys : List Piece) (z : Found (Part × List Thing)) → IsPartMade items q old.width (Err e) z → ArePartsMade items q new to (Err e) (z >>= (λ a. pieces_made (heap_of h) ts ys a.1 >>= (λ b. Ok (a.0 ∷ b.0, b.1))))
    by ys (Ok a) k = absurd (false≢true (ap is_ok k.is))
    by ys (Err o) k = k

pub one_piece : (old mid new : Values) (h k q : Heap) (t : Ty) (ts : List Ty) (zs more : List ℤ) (to next : ℕ) (x : Piece) (a : Slot) (r : Result (Unit {0}) HeapEnd) → next ≡ suc to → heap_of k ≡ heap_of h → piece_of t zs ≡ Some (x, more) → MakesPart (type_in (Some t)) x h k (Ok a)
    → IsSlotSet to a old mid → IsRowSet next (length ts) mid new → PutsPieces ts more next mid new k q r → PutsPieces (t ∷ ts) zs to old new h q r
one_piece old mid new h k q t ts zs more to next x a r is budget read made set row rest_put items objects xs rest holds shown all =
    let p = pieces_are t ts zs more x xs rest read all in
    subst (λ l. ArePartsMade items q new to r (pieces_made (heap_of h) (t ∷ ts) l objects)) p.are
    (by p.others p.read (part_made (heap_of h) (type_in (Some t)) x objects) (made items old objects holds shown))
  where
    slot_in : Result Slot HeapEnd → Slot
    slot_in (Ok b) = b
    slot_in (Err e) = a

    last : (z : Part) (os : List Thing) (m : HasPartMade items k old.width (Ok a) z os) (y : Found (List Part × List Thing)) → ArePartsMade m.shows.items q new next r y → ArePartsMade items q new to r (y >>= (λ b. Ok (z ∷ b.0, b.1)))
    last z os m (Ok b) d = record {
      is = d.is;
      shows = record { items = d.shows.items; holds = d.shows.holds; shown = d.shows.shown; kept = λ c n e. d.shows.kept c n (m.shows.kept c n e) };
      parts = (
        record {
          slot = a;
          at = row.outside to (inl (omega (arith, is))) ∙ set.here;
          part = part_kept m.shows.items d.shows.items z a d.shows.kept (subst (HasPart m.shows.items z) (sym (ap slot_in m.is)) m.part);
        },
        subst (λ j. HaveParts d.shows.items new.slots.items j b.0) is d.parts,
      );
    }
    last z os m (Err o) d = d

    by : (ys : List Piece) → each piece_of ts more ≡ Some (ys, rest) → (z : Found (Part × List Thing)) → IsPartMade items k old.width (Ok a) z → ArePartsMade items q new to r (z >>= (λ c. pieces_made (heap_of h) ts ys c.1 >>= (λ b. Ok (c.0 ∷ b.0, b.1))))
    by ys at (Ok c) m =
        last c.0 c.1 m (pieces_made (heap_of h) ts ys c.1)
        (subst (λ n. ArePartsMade m.shows.items q new next r (pieces_made n ts ys c.1)) budget
        (rest_put m.shows.items c.1 ys rest m.shows.holds (subst (λ w. ShowObjects m.shows.items w c.1) (sym set.width) m.shows.shown) at))
    by ys at (Err o) m = absurd (false≢true (sym m.1))
