-- What a host holds, one object after another.
use Rattle.std.proofs.Common.{◌≡◌, ℕ, zero, suc, ◌+◌, ◌≤◌, ◌<◌, Bool, true, false, List, [], ◌∷◌, ◌++◌, length, take, Option, Some, None, IfSome, refl, sym, ap, ◌∙◌, subst, arith, slice_get, cond, append_assoc, append-nil}
use Rattle.std.specs.Prelude.{codes, ◌^◌, drop}
use Rattle.std.specs.List.{count_by, flat_map}
use Rattle.std.specs.Option.{option_map}
use Rattle.std.proofs.lemmas.Grind.{flat_map-append}
use Rattle.std.proofs.lemmas.List.{length-map}
use Rattle.std.proofs.lemmas.Option.{slice_get_within}
use Rattle.vlt_io.specs.Outside.{Grew, GrewByPart}
use Rattle.std.proofs.lemmas.List.Sums.{sum_by-cons}
use Rattle.vlt_core.specs.Core.{Program}
use Rattle.vlt_rings.specs.Places.{count_of}
use Rattle.vlt_heap.specs.Items.{live_count}
use Rattle.vlt_heap.proofs.Listed.{count_items}
use Rattle.vlt_meaning.specs.World.{object_text, Object}
use Rattle.vlt_meaning.specs.Run.{Setup}
use Rattle.vlt_host_acts.proofs.OfPermits.Holding.{few_held}
use Rattle.vlt_host_meaning.specs.HostFrame.{held_objects}
use Rattle.vlt_host_meaning.specs.HostClean.{held_numbers}
use Rattle.vlt_host_meaning.specs.Lines.{held_line, state_text}
use Rattle.vlt_host.specs.declared.machine.tables.Tables.{Tables}
use Rattle.vlt_host.specs.declared.machine.host_machine.HostMachine.{HostMachine}
use Rattle.vlt_host.specs.declared.machine.host_machine.HeldObject.{HeldObject}
use Rattle.vlt_host.specs.Machine.Room.{IsReady}
use Rattle.vlt_host.specs.Machine.HostMachine.{IsHosted, HaveObjects, ShowsObjects, setup_in, seen, seen_of}
use Rattle.vlt_steps.proofs.Writing.{grew_both}
use Rattle.vlt_host.proofs.OfRuns.Written.{part_first, part_after}

-- ---- they are few

count_few : {A : Type 0} (test : A → Bool) (xs : List A) → count_by test xs ≤ length xs
count_few test [] = omega arith
count_few test (x ∷ xs) = by (test x) refl (count_few test xs)
  where
    counted : count_by test (x ∷ xs) ≡ cond (test x) 1 0 + count_by test xs
    counted = sum_by-cons (λ z. cond (test z) 1 0) x xs

    by : (b : Bool) → test x ≡ b → count_by test xs ≤ length xs → count_by test (x ∷ xs) ≤ length (x ∷ xs)
    by true e few =
        let n : count_by test (x ∷ xs) ≡ 1 + count_by test xs = counted ∙ ap (λ c. cond c 1 0 + count_by test xs) e in
        omega (arith, n, few)
    by false e few =
        let n : count_by test (x ∷ xs) ≡ 0 + count_by test xs = counted ∙ ap (λ c. cond c 1 0 + count_by test xs) e in
        omega (arith, n, few)

few_in : (r : Setup) (t : Option Tables) (objects : List Object) → IfSome t (IsReady r) → HaveObjects r t objects → length (held_objects objects) ≤ 2 ^ 30
few_in r None objects ready have = absurd have
few_in r (Some t) objects ready have =
    let shows = have.shows in
    let held : length (held_numbers objects) ≤ live_count shows.items = few_held shows.items shows.width objects shows.shown in
    let long : length (held_numbers objects) ≡ length (held_objects objects) = length-map (held_objects objects) (λ q. q.0) in
    let live = count_items shows.items in
    let things = shows.holds.things.hold.count in
    let places = t.start.heap.places in
    let counted : count_of places.places.items ≤ length places.places.items = count_few _ places.places.items in
    let sound = ready.room.sound.settled.sound in
    omega (arith, held, long, live, things, counted, sound.within, sound.few)

-- a host holds so few objects that an index of 32 bits tells them
pub few_objects : (m : HostMachine) (objects : List Object) → IsHosted m → ShowsObjects m objects → length (held_objects objects) ≤ 2 ^ 30
few_objects m objects hosted shows = few_in (setup_in m) m.tables objects hosted.ready shows

-- ---- their texts

abbrev pub text_of : Program → ℕ × Object → List ℕ
text_of p q = object_text q.0 ++ state_text p q.1

abbrev pub texts_up_to : Program → List Object → (index : ℕ) → List ℕ
texts_up_to p objects index = codes "held" ++ flat_map (text_of p) (take index (held_objects objects))

take_more : {A : Type 0} (xs : List A) (i : ℕ) (x : A) → slice_get xs i ≡ Some x → take (suc i) xs ≡ take i xs ++ x ∷ []
take_more [] i x e = absurd cc
take_more (y ∷ ys) zero x e = ap (λ z. z ∷ []) (same y x e)
  where
    same : {A : Type 0} (a b : A) → Some a ≡ Some b → a ≡ b
    same a b h = cc
take_more (y ∷ ys) (suc i) x e = ap (λ l. y ∷ l) (take_more ys i x e)

take_whole : {A : Type 0} (xs : List A) (i : ℕ) → slice_get xs i ≡ None → take i xs ≡ xs
take_whole [] zero e = refl
take_whole [] (suc i) e = refl
take_whole (y ∷ ys) zero e = absurd cc
take_whole (y ∷ ys) (suc i) e = ap (λ l. y ∷ l) (take_whole ys i e)

pub texts_more : (p : Program) (objects : List Object) (index : ℕ) (q : ℕ × Object) → slice_get (held_objects objects) index ≡ Some q →
    texts_up_to p objects (suc index) ≡ texts_up_to p objects index ++ text_of p q
texts_more p objects index q at =
    ap (λ l. codes "held" ++ flat_map (text_of p) l) (take_more (held_objects objects) index q at)
    ∙ ap (λ l. codes "held" ++ l) (flat_map-append (text_of p) (take index (held_objects objects)) (q ∷ []) ∙ ap (λ l. flat_map (text_of p) (take index (held_objects objects)) ++ l) (append-nil (text_of p q)))
    ∙ sym (append_assoc (codes "held") (flat_map (text_of p) (take index (held_objects objects))) (text_of p q))

pub texts_all : (p : Program) (objects : List Object) (index : ℕ) → slice_get (held_objects objects) index ≡ None →
    texts_up_to p objects index ++ codes "\n" ≡ held_line p objects
texts_all p objects index at =
    ap (λ l. (codes "held" ++ flat_map (text_of p) l) ++ codes "\n") (take_whole (held_objects objects) index at)
    ∙ append_assoc (codes "held") (flat_map (text_of p) (held_objects objects)) (codes "\n")

-- ---- one object

-- what is seen of an object is what it is
pub record IsSeen (h : HeldObject) (q : ℕ × Object) : Type 0 where
  pub position : h.position ≡ q.0
  pub type : q.1.type ≡ h.type_id.0
  pub state : q.1.state ≡ h.state

pub seen_at : (h : HeldObject) (o : Option (ℕ × Object)) → option_map seen (Some h) ≡ option_map seen_of o → (q : ℕ × Object) × (o ≡ Some q) × IsSeen h q
seen_at h None e = absurd cc
seen_at h (Some q) e = (q, refl, record { position = ap (λ z. z.position) same; type = sym (ap (λ z. z.type) same); state = sym (ap (λ z. z.state) same) })
  where
    same : seen h ≡ seen_of q
    same = cc

pub none_at : (o : Option (ℕ × Object)) → option_map seen None ≡ option_map seen_of o → o ≡ None
none_at None e = refl
none_at (Some q) e = absurd cc

-- ---- one object after another

split_at : {A : Type 0} (xs : List A) (i : ℕ) (x : A) → slice_get xs i ≡ Some x → xs ≡ take i xs ++ x ∷ drop (suc i) xs
split_at [] i x e = absurd cc
split_at (y ∷ ys) zero x e = ap (λ z. z ∷ ys) (same y x e)
  where
    same : {A : Type 0} (a b : A) → Some a ≡ Some b → a ≡ b
    same a b h = cc
split_at (y ∷ ys) (suc i) x e = ap (λ l. y ∷ l) (split_at ys i x e)

-- what comes after an object's text leaves it where it is
held_split : (p : Program) (objects : List Object) (index : ℕ) (q : ℕ × Object) → slice_get (held_objects objects) index ≡ Some q →
    (rest : List ℕ) × (held_line p objects ≡ texts_up_to p objects index ++ (text_of p q ++ rest))
held_split p objects index q at =
    let xs = held_objects objects in
    let f = text_of p in
    let before = flat_map f (take index xs) in
    let after = flat_map f (drop (suc index) xs) in
    let split : flat_map f xs ≡ before ++ (f q ++ after) = ap (flat_map f) (split_at xs index q at) ∙ flat_map-append f (take index xs) (q ∷ drop (suc index) xs) in (
      after ++ codes "\n",
      ap (λ l. codes "held" ++ (l ++ codes "\n")) split
          ∙ ap (λ l. codes "held" ++ l) (append_assoc before (f q ++ after) (codes "\n") ∙ ap (λ l. before ++ l) (append_assoc (f q) after (codes "\n")))
          ∙ sym (append_assoc (codes "held") before (f q ++ (after ++ codes "\n"))),
    )

module _ (m : HostMachine) (p : Program) (objects : List Object) (shows : ShowsObjects m objects) (index : ℕ) where
  -- an object of a machine is one of few
  pub index_below : (h : HeldObject) → IsHosted m → option_map seen (Some h) ≡ option_map seen_of (slice_get (held_objects objects) index) → index < 2 ^ 30
  index_below h hosted is =
      let x = seen_at h (slice_get (held_objects objects) index) is in
      let few = few_objects m objects hosted shows in
      let within = slice_get_within (held_objects objects) index x.0 x.1 in
      omega (arith, few, within)

  -- a part of the object's text was written
  pub object_cut : (h : HeldObject) (a b c : Option (List ℕ)) → option_map seen (Some h) ≡ option_map seen_of (slice_get (held_objects objects) index) →
      Grew a b (texts_up_to p objects index) →
      ((o : Object) → o.type ≡ h.type_id.0 → o.state ≡ h.state → GrewByPart b c (object_text h.position ++ state_text p o)) → GrewByPart a c (held_line p objects)
  object_cut h a b c is wrote part =
      let x = seen_at h (slice_get (held_objects objects) index) is in
      let split = held_split p objects index x.0 x.1 in
      let piece : GrewByPart b c (text_of p x.0) = subst (λ n. GrewByPart b c (object_text n ++ state_text p x.0.1)) x.2.position (part x.0.1 x.2.type x.2.state) in
      subst (GrewByPart a c) (sym split.1) (part_after a b c (texts_up_to p objects index) (text_of p x.0 ++ split.0) wrote (part_first b c (text_of p x.0) split.0 piece))

  -- the object's text was written
  pub object_written : (h : HeldObject) (a b c : Option (List ℕ)) → option_map seen (Some h) ≡ option_map seen_of (slice_get (held_objects objects) index) →
      Grew a b (texts_up_to p objects index) →
      ((o : Object) → o.type ≡ h.type_id.0 → o.state ≡ h.state → Grew b c (object_text h.position ++ state_text p o)) → Grew a c (texts_up_to p objects (index + 1))
  object_written h a b c is wrote grew =
      let x = seen_at h (slice_get (held_objects objects) index) is in
      let piece : Grew b c (text_of p x.0) = subst (λ n. Grew b c (object_text n ++ state_text p x.0.1)) x.2.position (grew x.0.1 x.2.type x.2.state) in
      let next : suc index ≡ index + 1 = omega arith in
      subst (λ i. Grew a c (texts_up_to p objects i)) next
      (subst (Grew a c) (sym (texts_more p objects index x.0 x.1)) (grew_both a b c (texts_up_to p objects index) (text_of p x.0) wrote piece))

  -- all objects were written, and then the end of the line, or a part of it
  pub line_written : (a b c : Option (List ℕ)) → option_map seen None ≡ option_map seen_of (slice_get (held_objects objects) index) → Grew a b (texts_up_to p objects index) →
      Grew b c (codes "\n") → Grew a c (held_line p objects)
  line_written a b c none wrote end =
      subst (Grew a c) (texts_all p objects index (none_at (slice_get (held_objects objects) index) none)) (grew_both a b c (texts_up_to p objects index) (codes "\n") wrote end)

  pub line_cut : (a b c : Option (List ℕ)) → option_map seen None ≡ option_map seen_of (slice_get (held_objects objects) index) → Grew a b (texts_up_to p objects index) →
      GrewByPart b c (codes "\n") → GrewByPart a c (held_line p objects)
  line_cut a b c none wrote end =
      subst (GrewByPart a c) (texts_all p objects index (none_at (slice_get (held_objects objects) index) none)) (part_after a b c (texts_up_to p objects index) (codes "\n") wrote end)
