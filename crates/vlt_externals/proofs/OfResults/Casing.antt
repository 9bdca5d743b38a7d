-- Values of variants that a call gives.
use Rattle.std.proofs.Common.{◌≡◌, ◌≢◌, ◌⊎◌, inl, inr, ◌<◌, ◌≤◌, ◌==◌, ◌+◌, ◌-◌, ℕ, suc, ℤ, pos, true, false, List, [], ◌∷◌, ◌++◌, map, length, Option, None, Some, Result, Ok, Err, refl, sym, ap, ◌∙◌, subst, arith, slice_get}
use Rattle.std.specs.List.{cons_option}
use Rattle.std.specs.Option.{option_map, option_to_list, option_and_then}
use Rattle.std.specs.Result.{is_ok}
use Rattle.std.proofs.lemmas.Bool.{false≢true}
use Rattle.std.proofs.lemmas.Bool.Decides.{nat_tests}
use Rattle.std.proofs.lemmas.Option.{none-some, same_Some}
use Rattle.std.proofs.lemmas.List.{length-append, length-map}
use Rattle.vlt_base.specs.declared.HeapEnd.{HeapEnd}
use Rattle.vlt_core.specs.Core.{Ty, CaseKey, CaseDecl, Program}
use Rattle.vlt_core.specs.Lookups.{VariantOf, keys_in, cases_of, case_at}
use Rattle.vlt_heap.specs.declared.slots.Obj.{Obj}
use Rattle.vlt_heap.specs.declared.slots.Slot.{Slot}
use Rattle.vlt_heap.specs.declared.slots.Slot.TheVariants.{Number, Object, Owned}
use Rattle.vlt_heap.specs.declared.heap.Heap.{Heap}
use Rattle.vlt_heap.specs.Items.{Items}
use Rattle.vlt_heap.specs.Shown.{heap_of}
use Rattle.vlt_heap.proofs.Listed.{KeepMade}
use Rattle.vlt_meaning.specs.World.{Part, reference, owned, of_case, Object as Thing, Frame}
use Rattle.vlt_meaning.specs.Found.{Found, ◌>>=◌}
use Rattle.vlt_meaning.specs.HostAnswers.{Piece, then_reads, each, piece_of, key_state, case_read}
use Rattle.vlt_meaning.specs.Externals.{type_in, payload_in, objects_of_keys}
use Rattle.vlt_meaning_laws.proofs.Keeping.{bound}
use Rattle.vlt_acts.specs.declared.values.values.Values.{Values}
use Rattle.vlt_acts.specs.Values.Parts.{IsObject, HaveParts, HaveValue}
use Rattle.vlt_acts.specs.Values.Filled.{IsFilled, IsSingleSlot}
use Rattle.vlt_acts.specs.Values.Shown.{ShowObjects, key_at, IsKept, IsRowSet, IsSlotSet}
use Rattle.vlt_acts.proofs.OfValues.Fronts.{packed_object}
use Rattle.vlt_acts.proofs.OfValues.Padding.{have_zeros}
use Rattle.vlt_acts.proofs.OfActs.Keeping.{part_kept}
use Rattle.vlt_acts.specs.Objects.Cases.{keys_for, ShowsKeys}
use Rattle.vlt_acts.proofs.OfObjects.NewCells.{parts_both}
use Rattle.vlt_externals.specs.HostAnswers.Read.{rest_of}
use Rattle.vlt_externals.specs.HostAnswers.Whole.{case_number}
use Rattle.vlt_externals.proofs.OfResults.Readings.{each_long, case_is}
use Rattle.vlt_externals.specs.Results.Stated.{key_for, AreCaseObjects}
use Rattle.vlt_externals.specs.Results.Results.{part_made, pieces_made, ArePartsMade, PutsPieces, AreBefore, PutsKeys, case_made, IsValueMade, PutsCase, variant_made, PutsVariant}

-- ---- the keys of a case

pub keys_none : (keys args : List ℕ) (to : ℕ) (values : Values) → PutsKeys keys args [] to values values
keys_none keys args to values items frame ns shown before are = by ns are
  where
    by : (ns : List ℕ) → AreCaseObjects keys args frame [] ns → HaveParts items values.slots.items to (map owned ns)
    by [] are = tt
    by (n ∷ ns) are = absurd are

pub keys_missing : (keys args : List ℕ) (k : CaseKey) (ks : List CaseKey) (to : ℕ) (old new : Values) → key_for keys args k.position ≡ None → PutsKeys keys args (k ∷ ks) to old new
keys_missing keys args k ks to old new none items frame ns shown before are = by ns are
  where
    by : (ns : List ℕ) → AreCaseObjects keys args frame (k ∷ ks) ns → HaveParts items new.slots.items to (map owned ns)
    by [] are = absurd are
    by (n ∷ ns) are = absurd (none-some n (ap (option_and_then frame.keys) (sym none) ∙ are.0))

pub keys_one : (keys args : List ℕ) (k : CaseKey) (ks : List CaseKey) (old mid new : Values) (to next count key : ℕ) (a b : Slot) → next ≡ suc to → key_for keys args k.position ≡ Some key → ((c : Slot) → slice_get old.slots.items (key_at old key) ≡ Some c → a ≡ c)
    → ((o : Obj) (m : ℕ) → a ≡ Object o m → b ≡ Owned o m) → IsSlotSet to b old mid → IsRowSet next count mid new → PutsKeys keys args ks next mid new → PutsKeys keys args (k ∷ ks) to old new
keys_one keys args k ks old mid new to next count key a b is key_is reads packed set row rest items frame ns shown before are = by ns are
  where
    mid_shown : ShowsKeys items mid frame
    mid_shown j m e =
        let r = shown j m e in
        rw (set.base, set.vars, set.width) (record {
          slot = r.slot;
          at = set.others (key_at old j) (λ e2. absurd (let l = before j m e in omega (arith, e2, l))) ∙ r.at;
          part = r.part;
        })

    mid_before : AreBefore next mid frame
    mid_before j m e = rw (set.base, set.vars, set.width) (let l = before j m e in omega (arith, l, is))

    by : (ns : List ℕ) → AreCaseObjects keys args frame (k ∷ ks) ns → HaveParts items new.slots.items to (map owned ns)
    by [] are = absurd are
    by (n ∷ ns) are =
        let named : frame.keys key ≡ Some n = ap (option_and_then frame.keys) (sym key_is) ∙ are.0 in
        let q = shown key n named in
        let ref : IsObject items n a = subst (IsObject items n) (sym (reads q.slot q.at)) q.part in (
          record { slot = b; at = row.outside to (inl (omega (arith, is))) ∙ set.here; part = packed_object items n a b packed ref },
          subst (λ j. HaveParts items new.slots.items j (map owned ns)) is (rest items frame ns mid_shown mid_before are.1),
        )

-- ---- the value

objects_long : (keys args : List ℕ) (frame : Frame) (ks : List CaseKey) (ns : List ℕ) → AreCaseObjects keys args frame ks ns → length ns ≡ length ks
objects_long keys args frame [] [] are = refl
objects_long keys args frame [] (n ∷ ns) are = absurd are
objects_long keys args frame (k ∷ ks) [] are = absurd are
objects_long keys args frame (k ∷ ks) (n ∷ ns) are = ap suc (objects_long keys args frame ks ns are.1)

-- slots that stand as they were
pub parts_still : (items : Items) (slots news : List Slot) (from : ℕ) (ps : List Part) → ((j : ℕ) → from ≤ j → j < from + length ps → slice_get news j ≡ slice_get slots j) → HaveParts items slots from ps → HaveParts items news from ps
parts_still items slots news from [] same have = tt
parts_still items slots news from (p ∷ ps) same have =
    let h = have.0 in (
      record { slot = h.slot; at = same from (omega arith) (omega arith) ∙ h.at; part = h.part },
      parts_still items slots news (suc from) ps (λ j l m. same j (omega (arith, l)) (omega (arith, m))) have.1,
    )

abbrev parts_in : Found (List Part × List Thing) → List Part
parts_in (Ok q) = q.0
parts_in (Err o) = []

pieces_long : (b : ℕ) (ts : List Ty) (xs : List Piece) (objects : List Thing) (q : List Part × List Thing) → length xs ≡ length ts → pieces_made b ts xs objects ≡ Ok q → length q.0 ≡ length ts
pieces_long b [] xs objects q long is = sym (ap (λ x. length (parts_in x)) is)
pieces_long b (t ∷ ts) [] objects q long is = absurd (omega (arith, long))
pieces_long b (t ∷ ts) (x ∷ xs) objects q long is =
    let m = bound (part_made b (type_in (Some t)) x objects) _ q is in
    let n = bound (pieces_made b ts xs m.0.1) _ q m.2 in
    sym (ap (λ x. length (parts_in x)) n.2) ∙ ap suc (pieces_long b ts xs m.0.1 n.0 (omega (arith, long)) n.1)

module _ (old a b new : Values) (h k : Heap) (d : CaseDecl) (keys args : List ℕ) (c to first second : ℕ) (is_first : first ≡ suc to) (is_second : second ≡ suc to + length d.payload) (fits : 1 + length d.payload + length d.keys ≤ old.width)
    (kept : IsKept to old a) (filled : IsFilled (IsSingleSlot (Number (pos c))) a.slots.items to old.width) (row : IsRowSet first (length d.payload) a b) (key_row : IsRowSet second (length d.keys) b new) where
  pub case_kept : IsKept to old new
  case_kept = record {
    outside = λ j out. key_row.outside j (by_keys j out) ∙ row.outside j (by_row j out) ∙ kept.outside j out;
    long = key_row.long ∙ row.long ∙ kept.long;
    room = key_row.room ∙ row.room ∙ kept.room;
    base = key_row.base ∙ row.base ∙ kept.base;
    vars = key_row.vars ∙ row.vars ∙ kept.vars;
    width = key_row.width ∙ row.width ∙ kept.width;
  }
    where
      by_keys : (j : ℕ) → (j < to) ⊎ (to + old.width ≤ j) → (j < second) ⊎ (second + length d.keys ≤ j)
      by_keys j (inl l) = inl (omega (arith, l, is_second))
      by_keys j (inr l) = inr (omega (arith, l, is_second, fits))

      by_row : (j : ℕ) → (j < to) ⊎ (to + old.width ≤ j) → (j < first) ⊎ (first + length d.payload ≤ j)
      by_row j (inl l) = inl (omega (arith, l, is_first))
      by_row j (inr l) = inr (omega (arith, l, is_first, fits))

  -- what was there before the payload and the keys were put
  as_single : (j : ℕ) (s : Slot) → j < old.width → (j ≡ 0) ⊎ (1 + length d.payload + length d.keys ≤ j) → IsSingleSlot (Number (pos c)) j s → slice_get new.slots.items (to + j) ≡ Some s
  as_single j s l out is = key_row.outside (to + j) (by_keys out) ∙ row.outside (to + j) (by_row out) ∙ filled j s l is
    where
      by_keys : (j ≡ 0) ⊎ (1 + length d.payload + length d.keys ≤ j) → (to + j < second) ⊎ (second + length d.keys ≤ to + j)
      by_keys (inl e) = inl (omega (arith, e, is_second))
      by_keys (inr m) = inr (omega (arith, m, is_second))

      by_row : (j ≡ 0) ⊎ (1 + length d.payload + length d.keys ≤ j) → (to + j < first) ⊎ (first + length d.payload ≤ to + j)
      by_row (inl e) = inl (omega (arith, e, is_first))
      by_row (inr m) = inr (omega (arith, m, is_first))

  written : (items : Items) (ps : List Part) (ns : List ℕ) → length ps ≡ length d.payload → length ns ≡ length d.keys → HaveParts items b.slots.items first ps → HaveParts items new.slots.items second (map owned ns) → HaveValue items new.slots.items to new.width (of_case c ps ns)
  written items ps ns counted listed payload packed = subst (λ w. HaveValue items new.slots.items to w (of_case c ps ns)) (sym case_kept.width) (record {
    narrow = omega (arith, long, fits);
    parts = (
      record { slot = Number (pos c); at = subst (λ j. slice_get new.slots.items j ≡ Some (Number (pos c))) (omega arith) (as_single 0 (Number (pos c)) (omega (arith, fits)) (inl refl) refl); part = refl },
      parts_both items new.slots.items (suc to) (ps ++ map owned ns) _
          (parts_both items new.slots.items (suc to) ps (map owned ns)
          (subst (λ j. HaveParts items new.slots.items j ps) is_first (parts_still items b.slots.items new.slots.items first ps (λ j l m. key_row.outside j (inl (omega (arith, m, counted, is_first, is_second)))) payload))
          (subst (λ j. HaveParts items new.slots.items j (map owned ns)) (is_second ∙ ap (λ j. suc to + j) (sym counted)) packed))
          (have_zeros items new.slots.items (suc to + length (ps ++ map owned ns)) (old.width - suc (length (ps ++ map owned ns))) (λ j l.
          subst (λ i. slice_get new.slots.items i ≡ Some (Number (pos 0))) (omega arith) (as_single (suc (length (ps ++ map owned ns)) + j) (Number (pos 0)) (omega (arith, l)) (inr (omega (arith, long))) (later j)))),
    );
  })
    where
      long : length (ps ++ map owned ns) ≡ length d.payload + length d.keys
      long = length-append ps (map owned ns) ∙ ap (λ j. j + length (map owned ns)) counted ∙ ap (λ j. length d.payload + j) (length-map ns owned ∙ listed)

      later : (j : ℕ) → IsSingleSlot (Number (pos c)) (suc (length (ps ++ map owned ns)) + j) (Number (pos 0))
      later j = let e : (suc (length (ps ++ map owned ns)) + j == 0) ≡ false = grind (arith, nat_tests) in rw e refl

  pub case_put : (zs left : List ℤ) → Some left ≡ rest_of (each key_state d.keys zs) → PutsPieces d.payload left first a b h k (Ok tt) → PutsKeys keys args d.keys second b new → PutsCase keys args c d zs to old new h k (Ok tt)
  case_put zs left following puts packs items objects frame ns ss xs more rest holds shown key_slots before are read_keys read_payload =
      by (pieces_made (heap_of h) d.payload xs objects) refl
      (puts items objects xs rest holds (subst (λ w. ShowObjects items w objects) (sym kept.width) shown) (ap (each piece_of d.payload) same ∙ read_payload))
    where
      same : left ≡ more
      same = same_Some left more (following ∙ ap rest_of read_keys)

      before_second : AreBefore second b frame
      before_second j m e = rw (row.base, row.vars, row.width, kept.base, kept.vars, kept.width) (let l = before j m e in omega (arith, l, is_second))

      known : (after : Items) → KeepMade items after → ShowsKeys after b frame
      known after keep j m e =
          let r = key_slots j m e in
          let l = before j m e in
          rw (row.base, row.vars, row.width, kept.base, kept.vars, kept.width) (record {
            slot = r.slot;
            at = row.outside (key_at old j) (inl (omega (arith, l, is_first))) ∙ kept.outside (key_at old j) (inl l) ∙ r.at;
            part = part_kept items after (reference m) r.slot keep r.part;
          })

      by : (z : Found (List Part × List Thing)) → pieces_made (heap_of h) d.payload xs objects ≡ z → ArePartsMade items k b first (Ok tt) z → IsValueMade items k new to (Ok tt) (z >>= (λ q. Ok (of_case c q.0 ns, q.1)))
      by (Ok q) is m = record {
        is = refl;
        shows = record { items = m.shows.items; holds = m.shows.holds; shown = subst (λ w. ShowObjects m.shows.items w q.1) (sym key_row.width) m.shows.shown; kept = m.shows.kept };
        value = written m.shows.items q.0 ns (pieces_long (heap_of h) d.payload xs objects q (each_long piece_of d.payload more xs rest read_payload) is) (objects_long keys args frame d.keys ns are) m.parts
            (packs m.shows.items frame ns (known m.shows.items m.shows.kept) before_second are);
      }
      by (Err o) is m = m

-- the states of the case's keys can't be read
pub case_missing : (old new : Values) (h k : Heap) (d : CaseDecl) (keys args : List ℕ) (c to : ℕ) (zs : List ℤ) (r : Result (Unit {0}) HeapEnd) → None ≡ rest_of (each key_state d.keys zs) → PutsCase keys args c d zs to old new h k r
case_missing old new h k d keys args c to zs r none items objects frame ns ss xs more rest holds shown key_slots before are read_keys read_payload = absurd (none-some more (none ∙ ap rest_of read_keys))

pub case_full : (old a b : Values) (h k : Heap) (d : CaseDecl) (keys args : List ℕ) (c to first : ℕ) (zs left : List ℤ) (e : HeapEnd) → a.width ≡ old.width → Some left ≡ rest_of (each key_state d.keys zs) → PutsPieces d.payload left first a b h k (Err e) → PutsCase keys args c d zs to old b h k (Err e)
case_full old a b h k d keys args c to first zs left e width following puts items objects frame ns ss xs more rest holds shown key_slots before are read_keys read_payload =
    by (pieces_made (heap_of h) d.payload xs objects)
    (puts items objects xs rest holds (subst (λ w. ShowObjects items w objects) (sym width) shown) (ap (each piece_of d.payload) (same_Some left more (following ∙ ap rest_of read_keys)) ∙ read_payload))
  where
    by : (z : Found (List Part × List Thing)) → ArePartsMade items k b first (Err e) z → IsValueMade items k b to (Err e) (z >>= (λ q. Ok (of_case c q.0 ns, q.1)))
    by (Ok q) m = absurd (false≢true (ap is_ok m.is))
    by (Err o) m = m

-- ---- the case that is read

pub objects_are : (keys args : List ℕ) (frame : Frame) (ks : List CaseKey) (ns : List ℕ) → AreCaseObjects keys args frame ks ns → objects_of_keys keys frame (keys_for args ks) ≡ ns
objects_are keys args frame [] [] are = refl
objects_are keys args frame [] (n ∷ ns) are = absurd are
objects_are keys args frame (k ∷ ks) [] are = absurd are
objects_are keys args frame (k ∷ ks) (n ∷ ns) are = by (slice_get args k.position) are.0 (objects_are keys args frame ks ns are.1)
  where
    by : (x : Option ℕ) → option_and_then frame.keys (option_and_then (slice_get keys) x) ≡ Some n → objects_of_keys keys frame (keys_for args ks) ≡ ns
        → objects_of_keys keys frame (cons_option (option_map (λ j. record { key = j; states = k.states }) x) (keys_for args ks)) ≡ n ∷ ns
    by None e rest = absurd (none-some n e)
    by (Some j) e rest = ap (λ x. option_to_list x ++ objects_of_keys keys frame (keys_for args ks)) e ∙ ap (λ l. n ∷ l) rest

pub variant_put : (p : Program) (keys : List ℕ) (v : VariantOf) (zs left : List ℤ) (c to : ℕ) (d : CaseDecl) (old new : Values) (h k : Heap) (r : Result (Unit {0}) HeapEnd) → case_number p v.type zs ≡ Some (c, left) → case_at p v.type c ≡ Some d → PutsCase keys v.args c d left to old new h k r → PutsVariant p keys v zs to old new h k r
variant_put p keys v zs left c to d old new h k r counted decl puts items objects frame given holds shown key_slots before names read =
    let is = case_is p v.type zs left c d given counted decl read in
    let n = names c d decl in
    subst (λ g. IsValueMade items k new to r (variant_made (heap_of h) p v keys frame g objects)) is.is
    (subst (λ x. IsValueMade items k new to r (case_made (heap_of h) c (payload_in x) is.pieces (objects_of_keys keys frame (keys_in v.args x)) objects)) (sym decl)
    (subst (λ l. IsValueMade items k new to r (case_made (heap_of h) c d.payload is.pieces l objects)) (sym (objects_are keys v.args frame d.keys n.numbers n.are))
    (puts items objects frame n.numbers is.states is.pieces is.more [] holds shown key_slots before n.are is.keys is.payload)))

pub variant_missing : (p : Program) (keys : List ℕ) (v : VariantOf) (zs : List ℤ) (to : ℕ) (old new : Values) (h k : Heap) (r : Result (Unit {0}) HeapEnd) → case_number p v.type zs ≡ None → PutsVariant p keys v zs to old new h k r
variant_missing p keys v zs to old new h k r none items objects frame given holds shown key_slots before names read =
    absurd (none-some (given, []) (sym (ap (then_reads (λ c. case_read c (slice_get (cases_of p v.type) c))) none) ∙ read))
