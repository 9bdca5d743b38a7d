-- A value of a variant that is built.
use Rattle.std.proofs.Common.{◌≡◌, ◌⊎◌, inl, inr, ℕ, suc, ◌+◌, ◌-◌, ◌*◌, ◌<◌, ◌≤◌, ◌==◌, pos, false, List, [], ◌∷◌, ◌++◌, map, length, Option, Some, None, Result, Ok, Err, refl, sym, ap, ◌∙◌, subst, arith, slice_get}
use Rattle.std.specs.List.{cons_option}
use Rattle.std.specs.Option.{option_map}
use Rattle.std.proofs.lemmas.Bool.Decides.{nat_tests}
use Rattle.std.proofs.lemmas.Option.{none-some, same_Some}
use Rattle.std.proofs.lemmas.List.{length-append, length-map}
use Rattle.vlt_ops.specs.declared.TrapKind.{TrapKind}
use Rattle.vlt_core.specs.Core.{CaseKey, CaseDecl, Operand, Func, Program}
use Rattle.vlt_core.specs.Core as core
use Rattle.vlt_core.specs.Lookups.{KeyIn, VariantOf, keys_in, variant_of, case_keys, case_at}
use Rattle.vlt_heap.specs.declared.slots.Slot.{Slot}
use Rattle.vlt_heap.specs.declared.slots.Slot.TheVariants.{Number}
use Rattle.vlt_heap.specs.declared.heap.Heap.{Heap}
use Rattle.vlt_heap.specs.Items.{Items}
use Rattle.vlt_meaning.specs.World.{Part, number, owned, Value, one, of_case, loose, World, Frame, trap, fault, done, fuel_end, heap_end, depth_end, input_end, answers_end, bad_answer, missing, not_empty}
use Rattle.vlt_meaning.specs.Found.{Found, ◌>>=◌, or_fault}
use Rattle.vlt_meaning.specs.Objects.{in_states, with_owner}
use Rattle.vlt_meaning.specs.Values.{held_object}
use Rattle.vlt_meaning.specs.Step.{Step, with_changed, with_var, fill, is_fillable}
use Rattle.vlt_meaning.specs.Operands.{with_operands, part_of, parts_of, with_case_packed}
use Rattle.vlt_meaning.specs.Externals.{payload_in}
use Rattle.vlt_meaning_laws.proofs.Keeping.{bound, err-ok}
use Rattle.vlt_meaning_laws.specs.Machine.Got.{Got, got, stopped, then_step, operands_got}
use Rattle.vlt_meaning_laws.proofs.OfMachine.Gots.{operands_step}
use Rattle.vlt_acts.specs.declared.values.values.Values.{Values}
use Rattle.vlt_acts.specs.Values.Parts.{HaveParts, HaveValue}
use Rattle.vlt_acts.specs.Values.Filled.{IsFilled, IsSingleSlot}
use Rattle.vlt_acts.specs.Values.Shown.{ShowObjects, IsTable, var_at, key_at, IsKept, IsGrown, IsCut, IsRowSet, IsFrontOf}
use Rattle.vlt_acts.specs.Values.Pushed.{HaveValues, ArePushed}
use Rattle.vlt_acts.proofs.OfValues.Touching.{OrFault, IsHeld, then_fault, some_fault, some_is, so_fault, held_fault, held_is, so_is}
use Rattle.vlt_acts.proofs.OfValues.Padding.{have_zeros}
use Rattle.vlt_acts.proofs.OfValues.Pushing.{owner_shown}
use Rattle.vlt_acts.specs.Acts.Acts.{HasDone, Does, IsRight}
use Rattle.vlt_acts.proofs.OfActs.Keeping.{assigned}
use Rattle.vlt_acts.specs.Objects.Cases.{keys_listed, keys_for, ShowsKeys, NameAll, PacksKeys, WritesCase, DoesFor}
use Rattle.vlt_acts.proofs.OfObjects.Going.{found_safe, so_safe, found_goes, so_goes}
use Rattle.vlt_acts.proofs.OfObjects.NewCells.{parts_both}
use Rattle.vlt_acts.proofs.OfObjects.NewObject.{PushesAll, pushes_count}
use Rattle.vlt_acts.proofs.OfObjects.Coming.{Pushes, pushed_safe, Lessens, operands_lessen}
use Rattle.vlt_acts.proofs.OfObjects.Putting.{ok_err}
use Rattle.vlt_acts.proofs.OfObjects.Tables.{cut_shown, keys_within}

-- ---- how many keys

names_long : (frame : Frame) (ks : List KeyIn) (ns : List ℕ) → NameAll frame ks ns → length ns ≡ length ks
names_long frame [] [] h = refl
names_long frame [] (n ∷ ns) h = absurd h
names_long frame (k ∷ ks) [] h = absurd h
names_long frame (k ∷ ks) (n ∷ ns) h = ap suc (names_long frame ks ns h.1)

pub keys_few : (args : List ℕ) (ks : List CaseKey) → length (keys_for args ks) ≤ length ks
keys_few args [] = omega arith
keys_few args (k ∷ ks) = by (slice_get args k.position) (keys_few args ks)
  where
    by : (x : Option ℕ) → length (keys_for args ks) ≤ length ks → length (cons_option (option_map (λ j. record { key = j; states = k.states }) x) (keys_for args ks)) ≤ suc (length ks)
    by None l = omega (arith, l)
    by (Some j) l = omega (arith, l)

-- ---- the value

fronts_parts : (items : Items) (slots news : List Slot) (from w to : ℕ) (ps : List Part) → HaveValues items slots from w (map one ps) → ((j : ℕ) (b : Slot) → j < length ps → slice_get slots (from + j * w) ≡ Some b → slice_get news (to + j) ≡ Some b) → HaveParts items news to ps
fronts_parts items slots news from w to [] have same = tt
fronts_parts items slots news from w to (p ∷ ps) have same =
    let h = have.0.parts.0 in
    let z : from + 0 * w ≡ from = omega arith in
    let y : to + 0 ≡ to = omega arith in (
      record { slot = h.slot; at = subst (λ k. slice_get news k ≡ Some h.slot) y (same 0 h.slot (omega arith) (ap (slice_get slots) z ∙ h.at)); part = h.part },
      fronts_parts items slots news (from + w) w (suc to) ps have.1 (λ j b l at.
          let e : from + suc j * w ≡ from + w + j * w = omega arith in
          let f : to + suc j ≡ suc to + j = omega arith in
          subst (λ k. slice_get news k ≡ Some b) f (same (suc j) b (omega (arith, l)) (ap (slice_get slots) e ∙ at))),
    )

module _ (old a b new : Values) (ks : List KeyIn) (c from count to first second : ℕ) (is_first : first ≡ suc to) (is_second : second ≡ suc to + count) (fits : 1 + count + length ks ≤ old.width) (before : to + old.width ≤ old.base + old.vars * old.width) (following : old.base + old.vars * old.width ≤ from)
    (kept : IsKept to old a) (filled : IsFilled (IsSingleSlot (Number (pos c))) a.slots.items to old.width) (row : IsRowSet first count a b) (fronts : IsFilled (IsFrontOf a from) b.slots.items first count) (keys : IsRowSet second (length ks) b new) (packs : PacksKeys ks second b new) where
  pub case_kept : IsKept to old new
  case_kept = record {
    outside = λ k out. keys.outside k (by_keys k out) ∙ row.outside k (by_row k out) ∙ kept.outside k out;
    long = keys.long ∙ row.long ∙ kept.long;
    room = keys.room ∙ row.room ∙ kept.room;
    base = keys.base ∙ row.base ∙ kept.base;
    vars = keys.vars ∙ row.vars ∙ kept.vars;
    width = keys.width ∙ row.width ∙ kept.width;
  }
    where
      by_keys : (k : ℕ) → (k < to) ⊎ (to + old.width ≤ k) → (k < second) ⊎ (second + length ks ≤ k)
      by_keys k (inl l) = inl (omega (arith, l, is_second))
      by_keys k (inr l) = inr (omega (arith, l, is_second, fits))

      by_row : (k : ℕ) → (k < to) ⊎ (to + old.width ≤ k) → (k < first) ⊎ (first + count ≤ k)
      by_row k (inl l) = inl (omega (arith, l, is_first))
      by_row k (inr l) = inr (omega (arith, l, is_first, fits))

  -- what was there before the payload and the keys were put
  as_single : (j : ℕ) (s : Slot) → j < old.width → (j ≡ 0) ⊎ (1 + count + length ks ≤ j) → IsSingleSlot (Number (pos c)) j s → slice_get new.slots.items (to + j) ≡ Some s
  as_single j s l out is = keys.outside (to + j) (by_keys out) ∙ row.outside (to + j) (by_row out) ∙ filled j s l is
    where
      by_keys : (j ≡ 0) ⊎ (1 + count + length ks ≤ j) → (to + j < second) ⊎ (second + length ks ≤ to + j)
      by_keys (inl e) = inl (omega (arith, e, is_second))
      by_keys (inr m) = inr (omega (arith, m, is_second))

      by_row : (j ≡ 0) ⊎ (1 + count + length ks ≤ j) → (to + j < first) ⊎ (first + count ≤ to + j)
      by_row (inl e) = inl (omega (arith, e, is_first))
      by_row (inr m) = inr (omega (arith, m, is_first))

  pub case_written : WritesCase ks c from count to old new
  case_written items frame ps ns shown named counted have = record {
    narrow = omega (arith, long, fits);
    parts = (
      record { slot = Number (pos c); at = subst (λ k. slice_get new.slots.items k ≡ Some (Number (pos c))) (omega arith) (as_single 0 (Number (pos c)) (omega (arith, fits)) (inl refl) refl); part = refl },
      parts_both items new.slots.items (suc to) (ps ++ map owned ns) _
          (parts_both items new.slots.items (suc to) ps (map owned ns) payload (subst (λ k. HaveParts items new.slots.items k (map owned ns)) (is_second ∙ ap (λ k. suc to + k) (sym counted)) (packs items frame ns key_slots named)))
          (have_zeros items new.slots.items (suc to + length (ps ++ map owned ns)) (old.width - suc (length (ps ++ map owned ns))) (λ j l.
          subst (λ k. slice_get new.slots.items k ≡ Some (Number (pos 0))) (omega arith) (as_single (suc (length (ps ++ map owned ns)) + j) (Number (pos 0)) (omega (arith, l)) (inr (omega (arith, long))) (later j)))),
    );
  }
    where
      long : length (ps ++ map owned ns) ≡ count + length ks
      long = length-append ps (map owned ns) ∙ ap (λ k. k + length (map owned ns)) counted ∙ ap (λ k. count + k) (length-map ns owned ∙ names_long frame ks ns named)

      later : (j : ℕ) → IsSingleSlot (Number (pos c)) (suc (length (ps ++ map owned ns)) + j) (Number (pos 0))
      later j = let e : (suc (length (ps ++ map owned ns)) + j == 0) ≡ false = grind (arith, nat_tests) in rw e refl

      payload : HaveParts items new.slots.items (suc to) ps
      payload = fronts_parts items old.slots.items new.slots.items from old.width (suc to) ps have (λ j s l at.
          let m : j < count = subst (λ k. j < k) counted l in
          let e : suc to + j ≡ first + j = omega (arith, is_first) in
          keys.outside (suc to + j) (inl (omega (arith, m, is_second))) ∙ ap (slice_get b.slots.items) e
          ∙ fronts j s m (kept.outside (from + j * a.width) (inr (omega (arith, before, following))) ∙ ap (λ w. slice_get old.slots.items (from + j * w)) kept.width ∙ at))

      key_slots : ShowsKeys items b frame
      key_slots j m e =
          let r = shown j m e in
          rw (row.base, row.vars, row.width, kept.base, kept.vars, kept.width) (record {
            slot = r.slot;
            at = row.outside (key_at old j) (inr (omega (arith, is_first, fits, before))) ∙ kept.outside (key_at old j) (inr (omega (arith, before))) ∙ r.at;
            part = r.part;
          })

-- ---- operands, parts and keys of the definition

parts_fault : (xs : List Value) → OrFault (parts_of xs)
parts_fault [] = tt
parts_fault (a ∷ xs) = then_fault (part_of a) _ (one_fault a) (λ p. then_fault (parts_of xs) _ (parts_fault xs) (λ ps. tt))
  where
    one_fault : (a : Value) → OrFault (part_of a)
    one_fault (one p) = tt
    one_fault (of_case d ps ns) = refl

ok_is : {A : Type 0} {a b : A} → ◌≡◌ {A = Found A} (Ok a) (Ok b) → a ≡ b
ok_is {A = A} {a = a} e = ap of_ok e
  where
    of_ok : Found A → A
    of_ok (Ok z) = z
    of_ok (Err o) = a

parts_are : (xs : List Value) (ps : List Part) → parts_of xs ≡ Ok ps → xs ≡ map one ps
parts_are [] ps e = subst (λ z. [] ≡ map one z) (ok_is e) refl
parts_are (a ∷ xs) ps e =
    let b = bound (part_of a) _ ps e in
    let d = bound (parts_of xs) _ ps b.2 in
    subst (λ z. a ∷ xs ≡ map one z) (ok_is d.2) (ap (λ z. z ∷ xs) (part_is a b.0 b.1) ∙ ap (λ z. one b.0 ∷ z) (parts_are xs d.0 d.1))
  where
    part_is : (a : Value) (p : Part) → part_of a ≡ Ok p → a ≡ one p
    part_is (one q) p e = ap one (ok_is e)
    part_is (of_case k qs ns) p e = absurd (err-ok e)

module _ (items : Items) (h : Heap) (v : Values) (r : Result (Unit {0}) TrapKind) where
  -- operands that were pushed, or that trap
  pushed_goes : (before : Items) (old new : Values) (p : Program) (f : Func) (os : List Operand) (frame : Frame) (w : World) (q : Result (Unit {0}) TrapKind) (go : List Value → Frame → World → Step) → ArePushed before old new q (operands_got p f os frame w)
      → ((t : TrapKind) → q ≡ Err t → r ≡ Err t) → ((u : Pushes before old new p f os frame w) → q ≡ Ok tt → Does items h v r (go u.cells u.left u.world)) → Does items h v r (with_operands p f os frame w go)
  unfolding then_step
  pushed_goes before old new p f os frame w q go pushed traps rest =
      subst (Does items h v r) (sym (operands_step p f os frame w go)) (by (operands_got p f os frame w) refl pushed (operands_lessen p f os frame w))
    where
      by : (x : Got (List Value)) → operands_got p f os frame w ≡ x → ArePushed before old new q x → Lessens frame x → Does items h v r (then_step x go)
      by (got xs left u) e have less = rest (record { cells = xs; left = left; world = u; is = e; have = record { is = refl; long = have.long; values_at = have.values_at; shows = have.shows }; less = less }) have.is
      by (stopped (trap t) u) e have less = traps t have
      by (stopped done u) e have less = have
      by (stopped fuel_end u) e have less = have
      by (stopped heap_end u) e have less = have
      by (stopped depth_end u) e have less = have
      by (stopped input_end u) e have less = have
      by (stopped answers_end u) e have less = have
      by (stopped (bad_answer n) u) e have less = have
      by (stopped (fault s n) u) e have less = have

  -- the objects of a case's keys leave the frame
  packed_goes : (shown : Items) (width : ℕ) (ks : List KeyIn) (frame : Frame) (w : World) (go : List ℕ → World → Step) → ShowObjects shown width w.objects
      → ((ns : List ℕ) (u : World) → NameAll frame ks ns → ShowObjects shown width u.objects → Does items h v r (go ns u)) → Does items h v r (with_case_packed ks frame w go)
  unfolding with_case_packed
  packed_goes shown width [] frame w go objects rest = rest [] w tt objects
  packed_goes shown width (k ∷ ks) frame w go objects rest =
      found_goes items h v r (held_object k.key frame w.objects >>= in_states k.states) w _ (then_fault (held_object k.key frame w.objects) _ (held_fault k.key frame w.objects) (λ m. so_fault _ _ m)) (λ m e.
      let b = bound (held_object k.key frame w.objects) _ m e in
      let held = subst (IsHeld k.key frame w.objects) (so_is _ _ b.0 m b.2).1 (held_is k.key frame w.objects b.0 b.1) in
      packed_goes shown width ks frame (with_changed w m.number (with_owner loose)) (λ ns w. go (m.number ∷ ns) w)
      (owner_shown shown width m.number w.objects m.object loose objects held.at (sym held.root.live) (sym held.root.above) (sym held.root.here))
      (λ ns u named s. rest (m.number ∷ ns) u (held.key, named) s))

-- ---- the statement

keys_same : (args : List ℕ) (o : Option CaseDecl) → keys_in args o ≡ keys_for args (keys_listed o)
keys_same args None = refl
keys_same args (Some d) = refl

module _ (heap : Heap) (old mid : Values) (p : Program) (f : Func) (v c : ℕ) (os : List Operand) (r : Result (Unit {0}) TrapKind) (pushed : PushesAll heap old mid os r) (g : IsGrown old mid) where
  pub build_traps : (last : Values) (t : TrapKind) → r ≡ Err t → DoesFor p f heap old heap last (Err t) (core.build v c os)
  build_traps last t is d w n depth program func same =
      found_goes d.items heap last (Err t) (or_fault missing (variant_of d.func v)) w _ (some_fault missing (variant_of d.func v)) (λ q at.
      so_goes d.items heap last (Err t) (length os == length (payload_in (case_at d.program q.type c))) missing None w _ (λ counted.
      pushed_goes d.items heap last (Err t) d.items old mid d.program d.func os d.frame w r _ (pushed d w same) (λ s e. sym is ∙ e) (λ u ok. absurd (ok_err (sym ok ∙ is)))))

  pub build_does : (set last : Values) (t : VariantOf) (ks : List KeyIn) (from to n : ℕ) → r ≡ Ok tt → variant_of f v ≡ Some t → ks ≡ keys_for t.args (keys_listed (case_at p t.type c)) → from ≡ length old.slots.items → length os ≡ n → IsTable old → v < old.vars → to ≡ var_at mid v
      → IsKept to mid set → WritesCase ks c from n to mid set → IsCut from set last → DoesFor p f heap old heap last (Ok tt) (core.build v c os)
  unfolding fill
  build_does set last t ks from to n ok variant is_ks is_from count table within is_to kept writes cut d w b depth program func same =
      found_goes d.items heap last (Ok tt) (or_fault missing (variant_of d.func v)) w _ (some_fault missing (variant_of d.func v)) (λ q at.
      let e : t ≡ q = same_Some t q (sym variant ∙ ap (λ z. variant_of z v) (sym func) ∙ some_is missing (variant_of d.func v) q at) in
      let listed : ks ≡ case_keys d.program q c = is_ks ∙ sym (keys_same t.args (case_at p t.type c)) ∙ ap (λ z. case_keys p z c) e ∙ ap (λ z. case_keys z q c) (sym program) in
      so_goes d.items heap last (Ok tt) (length os == length (payload_in (case_at d.program q.type c))) missing None w _ (λ counted.
      pushed_goes d.items heap last (Ok tt) d.items old mid d.program d.func os d.frame w r _ (pushed d w same) (λ s e2. absurd (ok_err (sym ok ∙ e2))) (λ u ok2.
      found_goes d.items heap last (Ok tt) (parts_of u.cells) u.world _ (parts_fault u.cells) (λ ps parts.
      packed_goes d.items heap last (Ok tt) d.items mid.width (case_keys d.program q c) u.left u.world _ u.have.shows.objects_shown (λ ns z named shown.
      so_goes d.items heap last (Ok tt) (is_fillable d.func v u.left) not_empty None z _ (λ empty.
      filled u ps ns z (parts_are u.cells ps parts) (subst (λ y. NameAll u.left y ns) (sym listed) named) shown))))))
    where
      filled : (u : Pushes d.items old mid d.program d.func os d.frame w) (ps : List Part) (ns : List ℕ) (z : World) → u.cells ≡ map one ps → NameAll u.left ks ns → ShowObjects d.items mid.width z.objects → HasDone d.items heap last (Ok tt) (with_var v (Some (of_case c ps ns)) u.left) z
      filled u ps ns z cells named shown =
          let counted : length ps ≡ n = sym (length-map ps one) ∙ ap length (sym cells) ∙ pushes_count d.items old mid d.program d.func os d.frame w u ∙ count in
          let values : HaveValues d.items mid.slots.items from mid.width (map one ps) = subst (HaveValues d.items mid.slots.items from mid.width) cells
          (subst (λ y. HaveValues d.items mid.slots.items from y u.cells) (sym g.width) (subst (λ y. HaveValues d.items mid.slots.items y old.width u.cells) (sym is_from) u.have.values_at)) in
          let has : HaveValue d.items set.slots.items to mid.width (of_case c ps ns) = writes d.items u.left ps ns u.have.shows.frame_shown.keys named counted values in
          record {
            is = refl;
            shows = record {
              items = d.items;
              holds = d.holds;
              objects_shown = subst (λ y. ShowObjects d.items y z.objects) (sym (cut.width ∙ kept.width)) shown;
              frame_shown = cut_shown d.items set last (with_var v (Some (of_case c ps ns)) u.left) from cut (rw (kept.base, kept.vars, kept.width, g.base, g.vars, g.width) (omega (arith, table, is_from)))
                  (λ k m e. rw (kept.base, kept.vars, kept.width) (subst (λ y. key_at mid k < y) (sym is_from) (keys_within d.items old mid d.frame g d.fits k m (ap (λ y. y k) (sym u.less.keys) ∙ e))))
                  (assigned d.items mid set u.left v (of_case c ps ns) (subst (λ y. v < y) (sym g.vars) within) (subst (λ y. IsKept y mid set) is_to kept)
                  (subst (λ y. HaveValue d.items set.slots.items y set.width (of_case c ps ns)) is_to (subst (λ y. HaveValue d.items set.slots.items to y (of_case c ps ns)) (sym kept.width) has)) u.have.shows.frame_shown);
              kept = λ a m made. made;
            };
          }

-- the values of the operands are in the table
pub build_within : (heap : Heap) (old mid : Values) (v c : ℕ) (os : List Operand) (r : Result (Unit {0}) TrapKind) → PushesAll heap old mid os r → IsGrown old mid → IsRight heap old (core.build v c os) → r ≡ Ok tt → length old.slots.items + length os * mid.width ≤ length mid.slots.items
build_within heap old mid v c os r pushed g q ok =
    let d = q.seen in
    let w = q.world in
    let a = found_safe (or_fault missing (variant_of d.func v)) w _ (some_fault missing (variant_of d.func v)) q.right in
    let b = so_safe (length os == length (payload_in (case_at d.program a.value.type c))) missing None w _ a.safe in
    let u = pushed_safe d.items old mid d.program d.func os d.frame w r _ ok (pushed d w q.objects) b.1 in
    let l = u.0.have.long in
    let n = pushes_count d.items old mid d.program d.func os d.frame w u.0 in
    let e : length u.0.cells * old.width ≡ length os * mid.width = ap (λ z. z * old.width) n ∙ ap (λ z. length os * z) (sym g.width) in
    omega (arith, l, e)

pub build_none : (heap : Heap) (values : Values) (p : Program) (f : Func) (v c : ℕ) (os : List Operand) → variant_of f v ≡ None → DoesFor p f heap values heap values (Ok tt) (core.build v c os)
build_none heap values p f v c os none d w n depth program func same =
    found_goes d.items heap values (Ok tt) (or_fault missing (variant_of d.func v)) w _ (some_fault missing (variant_of d.func v)) (λ q at.
    absurd (none-some q (sym none ∙ ap (λ z. variant_of z v) (sym func) ∙ some_is missing (variant_of d.func v) q at)))
