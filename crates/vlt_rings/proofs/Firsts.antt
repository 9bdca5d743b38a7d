-- The first place of a ring.
use Rattle.std.proofs.Common.{◌≡◌, ◌≢◌, inl, ℕ, ◌-◌, ◌/◌, ◌≤◌, List, [], ◌∷◌, Some, refl, sym, ◌∙◌, subst, arith, slice_get}
use Rattle.std.proofs.lemmas.Option.{same_Some}
use Rattle.vlt_rings.specs.Rings.{IsRing}
use Rattle.vlt_rings.specs.declared.places.Place.{Place}
use Rattle.vlt_rings.specs.Places.{member, home, IsIn, IsMember, HasMembers, StandsIn, HasNone}

record First (ps : List Place) (h x : ℕ) : Type 0 where
  pub place : ℕ
  pub is : x ≡ member place
  pub stands : StandsIn ps h place

first_of : (ps : List Place) (next : List ℕ) (h x : ℕ) → HasMembers ps next h → slice_get next h ≡ Some x → x ≢ h → First ps h x
first_of ps next h x m at other = by m.nodes m.ring m.are
  where
    by : (nodes : List ℕ) → IsRing next h nodes → ((y : ℕ) → IsIn y nodes → IsMember ps h y) → First ps h x
    by [] ring are = absurd (other (same_Some x h (sym at ∙ ring.path)))
    by (y ∷ ys) ring are =
        let w = are y (inl refl) in
        record { place = w.place; is = same_Some x y (sym at ∙ ring.path.0) ∙ w.is; stands = record { what = w.what; at = w.at; home = w.home } }

pub first_above : (ps : List Place) (next : List ℕ) (h x : ℕ) → HasMembers ps next h → slice_get next h ≡ Some x → x ≢ h → 3 ≤ x
first_above ps next h x m at other = let f = first_of ps next h x m at other in let e = f.is in omega arith

pub first_stands : (ps : List Place) (next : List ℕ) (h x : ℕ) → HasMembers ps next h → slice_get next h ≡ Some x → x ≢ h → StandsIn ps h ((x - 3) / 2)
first_stands ps next h x m at other =
    let f = first_of ps next h x m at other in
    let e = f.is in
    let same : (x - 3) / 2 ≡ f.place = omega arith in
    subst (StandsIn ps h) (sym same) f.stands

pub has_none : (ps : List Place) (next : List ℕ) (h : ℕ) → HasMembers ps next h → slice_get next h ≡ Some h → HasNone ps h
has_none ps next h m at = by m.nodes m.ring m.all
  where
    by : (nodes : List ℕ) → IsRing next h nodes → ((c : ℕ) (p : Place) → slice_get ps c ≡ Some p → home p ≡ Some h → IsIn (member c) nodes) → HasNone ps h
    by [] ring all = λ c p at_c is. all c p at_c is
    by (y ∷ ys) ring all = absurd (ring.apart.0.0 (same_Some y h (sym ring.path.0 ∙ at)))
