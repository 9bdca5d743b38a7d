-- A case's keys that are packed, and an arm's variables.
use Rattle.std.proofs.Common.{◌≡◌, ◌≢◌, ◌⊎◌, inl, inr, ℕ, suc, ◌+◌, ◌*◌, ◌<◌, ◌≤◌, Bool, true, false, List, [], ◌∷◌, map, Some, None, refl, sym, ◌∙◌, subst, arith, slice_get}
use Rattle.std.specs.List.{All}
use Rattle.std.proofs.lemmas.Option.{same_Some}
use Rattle.vlt_core.specs.Core.{CaseKey}
use Rattle.vlt_core.specs.Lookups.{KeyIn}
use Rattle.vlt_rings.proofs.Rows.{row_fits}
use Rattle.vlt_heap.specs.declared.slots.Obj.{Obj}
use Rattle.vlt_heap.specs.declared.slots.Slot.{Slot}
use Rattle.vlt_heap.specs.declared.slots.Slot.TheVariants.{Object, Owned}
use Rattle.vlt_heap.specs.Items.{Items}
use Rattle.vlt_meaning.specs.World.{Part, owned, one, not_empty}
use Rattle.vlt_meaning.specs.Step.{with_var, is_fillable}
use Rattle.vlt_meaning_laws.specs.Machine.Got.{Got, got, stopped, got_if, filled_got}
use Rattle.vlt_acts.specs.declared.values.values.Values.{Values}
use Rattle.vlt_acts.specs.Values.Parts.{IsObject, HasPart, HaveParts}
use Rattle.vlt_acts.specs.Values.Filled.{IsFilled, IsSingleSlot}
use Rattle.vlt_acts.specs.Values.Shown.{var_at, key_at, IsKept, IsSlotSet, IsRowSet}
use Rattle.vlt_acts.proofs.OfValues.Fronts.{packed_object}
use Rattle.vlt_acts.proofs.OfActs.Keeping.{single_at, assigned}
use Rattle.vlt_acts.specs.Objects.Cases.{keys_for, NameAll, PacksKeys, IsFrameSet, IsFilledWith, FillsParts}

-- ---- parts that stand where they stood

pub parts_there : (items : Items) (slots news : List Slot) (k : ℕ) (ps : List Part) → ((j : ℕ) → k ≤ j → slice_get news j ≡ slice_get slots j) → HaveParts items slots k ps → HaveParts items news k ps
parts_there items slots news k [] same have = tt
parts_there items slots news k (p ∷ ps) same have =
    let h = have.0 in (record { slot = h.slot; at = same k (omega arith) ∙ h.at; part = h.part }, parts_there items slots news (suc k) ps (λ j l. same j (omega (arith, l))) have.1)

-- ---- the keys of a case

pub none_packed : (ks : List KeyIn) (to : ℕ) (values : Values) → ks ≡ [] → PacksKeys ks to values values
none_packed ks to values is items frame ns shown named = by ns (subst (λ z. NameAll frame z ns) is named)
  where
    by : (ns : List ℕ) → NameAll frame [] ns → HaveParts items values.slots.items to (map owned ns)
    by [] h = tt
    by (n ∷ ns) h = absurd h

-- a position that no key of the function stands for is passed over
pub key_missing : (args : List ℕ) (k : CaseKey) (ks : List CaseKey) → slice_get args k.position ≡ None → keys_for args (k ∷ ks) ≡ keys_for args ks
key_missing args k ks e = rw e refl

pub key_there : (args : List ℕ) (k : CaseKey) (ks : List CaseKey) (j : ℕ) → slice_get args k.position ≡ Some j → keys_for args (k ∷ ks) ≡ record { key = j; states = k.states } ∷ keys_for args ks
key_there args k ks j e = rw e refl

pub one_packed : (old mid new : Values) (k : KeyIn) (ks : List KeyIn) (to next count : ℕ) (a b : Slot) → next ≡ suc to → to < old.base + old.vars * old.width → ((c : Slot) → slice_get old.slots.items (key_at old k.key) ≡ Some c → a ≡ c)
    → ((o : Obj) (m : ℕ) → a ≡ Object o m → b ≡ Owned o m) → IsSlotSet to b old mid → IsRowSet next count mid new → PacksKeys ks next mid new → PacksKeys (k ∷ ks) to old new
one_packed old mid new k ks to next count a b is before reads packed set row rest items frame [] shown named = absurd named
one_packed old mid new k ks to next count a b is before reads packed set row rest items frame (n ∷ ns) shown named =
    let q = shown k.key n named.0 in
    let ref : IsObject items n a = subst (IsObject items n) (sym (reads q.slot q.at)) q.part in (
      record { slot = b; at = row.outside to (inl (omega (arith, is))) ∙ set.here; part = packed_object items n a b packed ref },
      subst (λ j. HaveParts items new.slots.items j (map owned ns)) is (rest items frame ns (λ j m e. let r = shown j m e in rw (set.base, set.vars, set.width) (record {
        slot = r.slot;
        at = set.others (key_at old j) (λ e2. absurd (omega (arith, e2, before))) ∙ r.at;
        part = r.part;
      })) named.1),
    )

pub row_joined : (old mid new : Values) (to next count : ℕ) (a : Slot) → next ≡ suc to → IsSlotSet to a old mid → IsRowSet next count mid new → IsRowSet to (suc count) old new
row_joined old mid new to next count a is set row = record {
  outside = λ k out. row.outside k (side k out) ∙ set.others k (other k out);
  long = row.long ∙ set.long;
  room = row.room ∙ set.room;
  base = row.base ∙ set.base;
  vars = row.vars ∙ set.vars;
  width = row.width ∙ set.width;
}
  where
    side : (k : ℕ) → (k < to) ⊎ (to + suc count ≤ k) → (k < next) ⊎ (next + count ≤ k)
    side k (inl l) = inl (omega (arith, l, is))
    side k (inr l) = inr (omega (arith, l, is))

    other : (k : ℕ) → (k < to) ⊎ (to + suc count ≤ k) → k ≢ to
    other k (inl l) e = absurd (omega (arith, l, e))
    other k (inr l) e = absurd (omega (arith, l, e))

-- ---- an arm's variables

pub all_rest : {X : Type 0} (P : X → Type 0) (x : X) (xs ys : List X) → ys ≡ x ∷ xs → All P ys → All P xs
all_rest P x xs ys is all k d l = subst (All P) is all (suc k) d (omega (arith, l))

pub all_first : {X : Type 0} (P : X → Type 0) (x : X) (xs ys : List X) → ys ≡ x ∷ xs → All P ys → P x
all_first P x xs ys is all = subst (All P) is all 0 x (omega arith)

pub none_filled : (from : ℕ) (values : Values) → FillsParts from [] values values
none_filled from values items f frame w [] shown have = (shown, refl, refl)
none_filled from values items f frame w (p ∷ ps) shown have = refl

pub one_filled : (old mid new : Values) (v from next to : ℕ) (vs : List ℕ) (a : Slot) → next ≡ suc from → v < old.vars → 1 ≤ old.width → old.base + old.vars * old.width ≤ from → slice_get old.slots.items from ≡ Some a → to ≡ var_at old v → IsKept to old mid
    → IsFilled (IsSingleSlot a) mid.slots.items to old.width → FillsParts next vs mid new → FillsParts from (v ∷ vs) old new
unfolding got_if
one_filled old mid new v from next to vs a is within wide following at is_to kept filled rest items f frame w [] shown have = refl
one_filled old mid new v from next to vs a is within wide following at is_to kept filled rest items f frame w (p ∷ ps) shown have = by (is_fillable f v frame)
  where
    fits : to + old.width ≤ from
    fits = let r = row_fits v old.vars old.width old.width within (omega arith) in omega (arith, r, following, is_to)

    more : IsFilledWith items new (with_var v (Some (one p)) frame) w (filled_got f vs (map one ps) (with_var v (Some (one p)) frame) w)
    more =
        let h = have.0 in
        let part : HasPart items p a = subst (HasPart items p) (same_Some h.slot a (sym h.at ∙ at)) h.part in
        rest items f (with_var v (Some (one p)) frame) w ps
        (assigned items old mid frame v (one p) within (subst (λ z. IsKept z old mid) is_to kept) (single_at items mid.slots.items to (var_at old v) old.width mid.width a p is_to kept.width wide part filled) shown)
        (subst (λ j. HaveParts items mid.slots.items j ps) (sym is) (parts_there items old.slots.items mid.slots.items (suc from) ps (λ j l. kept.outside j (inr (omega (arith, l, fits)))) have.1))

    same_keys : (x : Got (Unit {0})) → IsFilledWith items new (with_var v (Some (one p)) frame) w x → IsFilledWith items new frame w x
    same_keys (got u g z) h = h
    same_keys (stopped o z) h = h

    by : (t : Bool) → IsFilledWith items new frame w (got_if t not_empty w (filled_got f vs (map one ps) (with_var v (Some (one p)) frame) w))
    by true = same_keys (filled_got f vs (map one ps) (with_var v (Some (one p)) frame) w) more
    by false = refl

pub frame_joined : (old mid new : Values) (v to : ℕ) → v < old.vars → to ≡ var_at old v → IsKept to old mid → IsFrameSet mid new → IsFrameSet old new
frame_joined old mid new v to within is_to kept set = record {
  below = λ k l. set.below k (rw kept.base l) ∙ kept.outside k (inl (omega (arith, l, is_to)));
  following = λ k l. set.following k (rw (kept.base, kept.vars, kept.width) l) ∙ kept.outside k (inr (let r = row_fits v old.vars old.width old.width within (omega arith) in omega (arith, l, r, is_to)));
  long = set.long ∙ kept.long;
  room = set.room ∙ kept.room;
  base = set.base ∙ kept.base;
  vars = set.vars ∙ kept.vars;
  width = set.width ∙ kept.width;
}
