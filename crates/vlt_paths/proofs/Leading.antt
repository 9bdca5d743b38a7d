-- Where a path comes by a leg.
use Rattle.std.proofs.Common.{◌≡◌, ◌∙◌, ◌↔◌, ℕ, List, [], ◌∷◌, Option, Some, refl, sym, ap, subst}
use Rattle.vlt_core.specs.Core.{Tok}
use Rattle.vlt_core.specs.Maps.{Row}
use Rattle.vlt_core.specs.Found.{One, Exit}
use Rattle.vlt_core.specs.Witness.{Choice}
use Rattle.vlt_paths.specs.Along.{State, Sought, Passes, Goes}
use Rattle.vlt_paths.specs.Legs.{Leg, Led, Past, Takes}
use Rattle.vlt_paths.proofs.Going.{come, lead}

-- the leg leads nowhere
pub led_nowhere : (leg : Leg) (v u : State) → ((o : One) → u.brings o → ⊥) → ((o q : One) (ds : List Choice) → v.brings o → leg o v.left q ds → ⊥) → Led leg v u
led_nowhere leg v u none off = record { there = λ q ds. (λ h. absurd (off h.0 q ds h.1 h.2), λ y. absurd (none q y.0)) }

pub led_past : (P : Sought) (t : Tok) (at : ℕ) (rs : List Row) (v u : State) → Passes P t at rs v u → Led (Past t rs) v u
led_past P t at rs v u p = record {
  there = λ q ds. (
    λ h. (lead P t at rs v u p h.0 q h.1 h.2.0, h.2.1 ∙ sym p.left),
    λ y. let c = come P t at rs v u p q y.0 in (c.0, c.1, (c.2, y.1 ∙ p.left)),
  );
}

abbrev rest_of : List Choice → List Choice
rest_of [] = []
rest_of (c ∷ cs) = cs

pub led_by : (c : Choice) (v u : State) → ((o : One) → v.brings o ↔ u.brings o) → v.left ≡ c ∷ u.left → Led (Takes c) v u
led_by c v u same e = record {
  there = λ q ds. (
    λ h. (subst u.brings (sym h.2.0) ((same h.0).0 h.1), ap rest_of (sym h.2.1 ∙ e)),
    λ y. (q, (same q).1 y.0, (refl, e ∙ ap (λ l. c ∷ l) (sym y.1))),
  );
}

-- a path that comes out of a part by an exit, or doesn't
module _ (way : One → List Choice → Exit → One → List Choice → Type 0) (sight : One → List Choice → Type 0) (v u : State) where
  pub led_out : (x : Exit) → Goes way sight v u (Some x) → Led (λ o cs q ds. way o cs x q ds) v u
  led_out x g = record {
    there = λ q ds. (
      λ h. let a = (g.there x q ds).0 h in (a.1, a.2),
      λ y. (g.there x q ds).1 (refl, y.0, y.1),
    );
  }

  pub not_out : (x : Exit) (r : Option Exit) → (r ≡ Some x → ⊥) → Goes way sight v u r → (o q : One) (ds : List Choice) → v.brings o → way o v.left x q ds → ⊥
  not_out x r other g o q ds b h = other ((g.there x q ds).0 (o, b, h)).0
