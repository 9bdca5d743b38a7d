-- Tables that grew and were cut again.
use Rattle.std.proofs.Common.{◌≡◌, ℕ, zero, suc, refl, subst, ◌*◌, Some, ◌+◌, ◌<◌, ◌≤◌, length, sym, ◌∙◌, arith, vec_capacity}
use Rattle.std.proofs.lemmas.Option.{slice_get_within}
use Rattle.vlt_rings.proofs.Calls.{item_at}
use Rattle.vlt_rings.proofs.Rows.{row_fits}
use Rattle.vlt_heap.specs.Items.{Items}
use Rattle.vlt_meaning.specs.World.{Frame}
use Rattle.vlt_acts.specs.declared.values.values.Values.{Values}
use Rattle.vlt_acts.specs.Values.Shown.{IsTable, var_at, key_at, ShowsFrame, IsGrown, IsCut}
use Rattle.vlt_acts.specs.Acts.Acts.{IsSameFrame}
use Rattle.vlt_acts.proofs.OfActs.Keeping.{value_same}

pub grown_cut : (old mid new : Values) (n : ℕ) → n ≡ length old.slots.items → IsGrown old mid → IsCut n mid new → IsGrown old new
grown_cut old mid new n is g c = record {
  same = λ k l. c.same k (omega (arith, is, l)) ∙ g.same k l;
  base = c.base ∙ g.base;
  vars = c.vars ∙ g.vars;
  width = c.width ∙ g.width;
}

pub cut_frame : (old mid new : Values) (n : ℕ) → n ≡ length old.slots.items → IsTable old → IsGrown old mid → vec_capacity old.slots ≤ vec_capacity mid.slots → IsCut n mid new → vec_capacity new.slots ≡ vec_capacity mid.slots → IsSameFrame old new
cut_frame old mid new n is table g room c same = record {
  below = λ k l. c.same k (omega (arith, is, l, table)) ∙ g.same k (omega (arith, l, table));
  long = c.long ∙ is;
  room = omega (arith, room, same);
  base = c.base ∙ g.base;
  vars = c.vars ∙ g.vars;
  width = c.width ∙ g.width;
}

pub grown_long : (old new : Values) → IsGrown old new → length old.slots.items ≤ length new.slots.items
grown_long old new g = by (length old.slots.items) refl
  where
    last : (n : ℕ) → length old.slots.items ≡ suc n → length old.slots.items ≤ length new.slots.items
    last n e =
        let a = item_at old.slots.items n (omega (arith, e)) in
        let l = slice_get_within new.slots.items n a.item (g.same n (omega (arith, e)) ∙ a.at) in omega (arith, e, l)

    by : (n : ℕ) → length old.slots.items ≡ n → length old.slots.items ≤ length new.slots.items
    by zero e = omega (arith, e)
    by (suc n) e = last n e

-- a frame whose variables and keys all stand in what is left
pub cut_shown : (items : Items) (mid new : Values) (frame : Frame) (n : ℕ) → IsCut n mid new → mid.base + mid.vars * mid.width ≤ n → ((k m : ℕ) → frame.keys k ≡ Some m → key_at mid k < n) → ShowsFrame items mid frame → ShowsFrame items new frame
cut_shown items mid new frame n c table keys s = record {
  vars = λ v a e.
      let q = s.vars v a e in
      let fits = row_fits v mid.vars mid.width mid.width q.within (omega arith) in
      record {
        within = subst (λ z. v < z) (sym c.vars) q.within;
        value = rw (c.base, c.width) (value_same items mid.slots.items new.slots.items (var_at mid v) mid.width a (λ j low high. c.same j (omega (arith, high, fits, table))) q.value);
      };
  keys = λ k m e. let q = s.keys k m e in rw (c.base, c.vars, c.width) (record { slot = q.slot; at = c.same (key_at mid k) (keys k m e) ∙ q.at; part = q.part });
}

-- keys that are shown stand in the table
pub keys_within : (items : Items) (old mid : Values) (frame : Frame) → IsGrown old mid → ShowsFrame items old frame → (k m : ℕ) → frame.keys k ≡ Some m → key_at mid k < length old.slots.items
keys_within items old mid frame g s k m e =
    let q = s.keys k m e in
    let l : key_at old k < length old.slots.items = slice_get_within old.slots.items (key_at old k) q.slot q.at in
    rw (g.base, g.vars, g.width) l
