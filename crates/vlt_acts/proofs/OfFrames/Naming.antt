-- The caller's keys name the objects that are kept.
use Rattle.std.proofs.Common.{◌≡◌, ◌<◌, ◌+◌, ℕ, true, false, if◌then◌else◌, List, [], ◌∷◌, ◌++◌, filter, zero, suc, length, Option, Some, None, refl, sym, ap, ◌∙◌, subst, arith, slice_get}
use Rattle.std.specs.Option.{option_map, option_to_list}
use Rattle.std.proofs.lemmas.Option.{same_Some, slice_get_within, slice_get-map}
use Rattle.vlt_base.specs.declared.ids.KeyId.{KeyId}
use Rattle.vlt_core.specs.View.{keys_of}
use Rattle.vlt_acts.specs.Frames.Named.{AreNamed}
use Rattle.vlt_core.specs.Core.{Entry}
use Rattle.vlt_core.specs.Lookups.{is_held_after}
use Rattle.vlt_heap.specs.declared.slots.Slot.{Slot}
use Rattle.vlt_heap.specs.Items.{Items}
use Rattle.vlt_meaning.specs.World.{reference, Frame}
use Rattle.vlt_meaning.specs.Calls.{binding, bindings, with_names}
use Rattle.vlt_acts.specs.declared.values.values.Values.{Values}
use Rattle.vlt_acts.specs.Values.Shown.{ShowsFrame, key_at, IsKeySet, IsGrown}
use Rattle.vlt_acts.proofs.OfValues.Fronts.{IsSlotAt, has_part}
use Rattle.vlt_acts.proofs.OfActs.Naming.{named_shown}
use Rattle.vlt_acts.specs.Frames.Left.{kept_at, AreKept}
use Rattle.vlt_acts.specs.Frames.Naming.{KeysBelow, IsNamed, Names}

-- ---- nothing changes

pub same_named : (top : ℕ) (values : Values) → IsNamed top values values
same_named top values = record { following = λ j l. refl; below = λ j l. refl; long = refl; room = refl; base = refl; vars = refl; width = refl }

-- an entry whose key the caller has no key for
pub none_names : (e : Entry) (keys : List ℕ) (top from value : ℕ) (values : Values) → slice_get keys e.key ≡ None → Names (e ∷ []) keys top from value values values
none_names e keys top from value values is items frame [] kept h = h
none_names e keys top from value values is items frame (n ∷ ns) kept h = subst (λ x. ShowsFrame items values (with_names (option_to_list (option_map (binding n) x) ++ []) frame)) (sym is) h

-- ---- a key is set

pub set_named : (k top : ℕ) (a : Slot) (old new : Values) → key_at old k < top → IsKeySet k a old new → IsNamed top old new
set_named k top a old new l set = record {
  following = λ j m. set.others j (λ e. absurd (omega (arith, e, m, l)));
  below = λ j m. set.others j (λ e. absurd (omega (arith, e, m)));
  long = set.long;
  room = set.room;
  base = set.base;
  vars = set.vars;
  width = set.width;
}

pub set_names : (e : Entry) (keys : List ℕ) (top from value k : ℕ) (a : Slot) (old new : Values) → slice_get keys e.key ≡ Some k → IsSlotAt old.slots.items (kept_at from value e) a → IsKeySet k a old new → Names (e ∷ []) keys top from value old new
set_names e keys top from value k a old new is at set items frame [] kept h = absurd kept
set_names e keys top from value k a old new is at set items frame (n ∷ m ∷ ns) kept h = absurd kept.1
set_names e keys top from value k a old new is at set items frame (n ∷ []) kept h =
    subst (λ x. ShowsFrame items new (with_names (option_to_list (option_map (binding n) x) ++ []) frame)) (sym is)
    (named_shown items old new frame k n a set (has_part items old.slots.items (kept_at from value e) (reference n) a at kept.0.part) h)

-- ---- one entry, then the others

kept_still : (items : Items) (old mid : Values) (top from value : ℕ) (es : List Entry) (ns : List ℕ) → IsNamed top old mid → AreKept items old.slots.items top from value es ns → AreKept items mid.slots.items top from value es ns
kept_still items old mid top from value [] [] named h = tt
kept_still items old mid top from value [] (n ∷ ns) named h = h
kept_still items old mid top from value (e ∷ es) [] named h = h
kept_still items old mid top from value (e ∷ es) (n ∷ ns) named h = (
  record { following = h.0.following; part = record { slot = h.0.part.slot; at = named.following (kept_at from value e) h.0.following ∙ h.0.part.at; part = h.0.part.part } },
  kept_still items old mid top from value es ns named h.1,
)

named_append : (x : Option ℕ) (n : ℕ) (keys : List ℕ) (es : List Entry) (ns : List ℕ) (frame : Frame) → with_names (option_to_list (option_map (binding n) x) ++ bindings keys es ns) frame ≡ with_names (bindings keys es ns) (with_names (option_to_list (option_map (binding n) x) ++ []) frame)
named_append None n keys es ns frame = refl
named_append (Some k) n keys es ns frame = refl

pub more_names : (e : Entry) (es : List Entry) (keys : List ℕ) (top from value : ℕ) (old mid new : Values) → IsNamed top old mid → Names (e ∷ []) keys top from value old mid → Names es keys top from value mid new → Names (e ∷ es) keys top from value old new
more_names e es keys top from value old mid new named one rest items frame [] kept h = absurd kept
more_names e es keys top from value old mid new named one rest items frame (n ∷ ns) kept h =
    subst (ShowsFrame items new) (sym (named_append (slice_get keys e.key) n keys es ns frame))
    (rest items _ ns (kept_still items old mid top from value es ns named kept.1) (one items frame (n ∷ []) (kept.0, tt) h))

pub no_names : (keys : List ℕ) (top from value : ℕ) (values : Values) → Names [] keys top from value values values
no_names keys top from value values items frame [] kept h = h
no_names keys top from value values items frame (n ∷ ns) kept h = absurd kept

pub named_twice : (top : ℕ) (old mid new : Values) → IsNamed top old mid → IsNamed top mid new → IsNamed top old new
named_twice top old mid new a b = record {
  following = λ j l. b.following j l ∙ a.following j l;
  below = λ j l. b.below j (subst (λ n. j < n) (sym a.base) l) ∙ a.below j l;
  long = b.long ∙ a.long;
  room = b.room ∙ a.room;
  base = b.base ∙ a.base;
  vars = b.vars ∙ a.vars;
  width = b.width ∙ a.width;
}

pub keys_still : (keys : List ℕ) (top : ℕ) (old new : Values) → IsNamed top old new → KeysBelow keys top old → KeysBelow keys top new
keys_still keys top old new named h i k at = let l = h i k at in rw (named.base, named.vars, named.width) l

-- ---- entries that are held after

pub filter_yes : (e : Entry) (es : List Entry) → is_held_after e ≡ true → filter is_held_after (e ∷ es) ≡ e ∷ filter is_held_after es
filter_yes e es is = ap (λ b. if b then e ∷ filter is_held_after es else filter is_held_after es) is

pub filter_no : (e : Entry) (es : List Entry) → is_held_after e ≡ false → filter is_held_after (e ∷ es) ≡ filter is_held_after es
filter_no e es is = ap (λ b. if b then e ∷ filter is_held_after es else filter is_held_after es) is

-- ---- keys that were copied

pub pushed_named : (k : ℕ) (rest : List ℕ) (old mid new : Values) (a : Slot) → IsSlotAt old.slots.items (key_at old k) a → IsGrown old mid → slice_get mid.slots.items (length old.slots.items) ≡ Some a → length mid.slots.items ≡ length old.slots.items + 1 → IsGrown mid new
    → AreNamed rest mid (length mid.slots.items) new → AreNamed (k ∷ rest) old (length old.slots.items) new
pushed_named k rest old mid new a is first last long second named zero j b at from =
    ap (slice_get new.slots.items) (omega arith) ∙ second.same (length old.slots.items) (omega (arith, long)) ∙ last ∙ ap (λ z. Some z) (is b (ap (λ z. slice_get old.slots.items (key_at old z)) (same_Some k j at) ∙ from))
pushed_named k rest old mid new a is first last long second named (suc i) j b at from =
    ap (slice_get new.slots.items) (omega (arith, long)) ∙ named i j b at (rw (first.base, first.vars, first.width) (first.same (key_at old j) (slice_get_within old.slots.items (key_at old j) b from) ∙ from))

-- the key of a caller by its position
pub key_found : (keys : List KeyId) (i : ℕ) (k : KeyId) → slice_get keys i ≡ Some k → slice_get (keys_of keys) i ≡ Some k.0
key_found keys i k at = slice_get-map (λ q. q.0) keys i ∙ ap (option_map (λ q. q.0)) at

pub key_missing : (keys : List KeyId) (i : ℕ) → slice_get keys i ≡ None → slice_get (keys_of keys) i ≡ None
key_missing keys i at = slice_get-map (λ q. q.0) keys i ∙ ap (option_map (λ q. q.0)) at
