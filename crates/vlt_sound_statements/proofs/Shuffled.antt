-- Objects that go from one place to another, and change in nothing else.
use Rattle.std.proofs.Common.{◌≡◌, ◌⊎◌, inl, inr, ⊎_elim, ℕ, List, [], ◌∷◌, Option, refl, sym, ap, ◌∙◌, subst, slice_get}
use Rattle.vlt_meaning.specs.World.{Value, Owner, gone, adopted_by, Object}
use Rattle.vlt_meaning.specs.World as world
use Rattle.vlt_sound_worlds.specs.Placed.{IsOwned}
use Rattle.vlt_sound_worlds.specs.Roots.{cell_of, unless_gone, owned_by}
use Rattle.vlt_sound_worlds.specs.Keys.{IsUnder, IsSameObject}
use Rattle.vlt_sound_worlds.specs.Scene.{Focus}
use Rattle.vlt_sound_worlds.specs.Agrees.{FociAgree}

-- the object has its owner still, or it was owned by a value or a field and is
pub record Shuffles (old new : Object) : Type 0 where
  pub type : new.type ≡ old.type
  pub state : new.state ≡ old.state
  pub owner : (new.owner ≡ old.owner) ⊎ (IsOwned old.owner × IsOwned new.owner)

-- one that wasn't owned so has its owner still
pub was_unowned : {old new : Object} → Shuffles old new → (IsOwned old.owner → ⊥) → new.owner ≡ old.owner
was_unowned s off = ⊎_elim (λ same. same) (λ both. absurd (off both.0)) s.owner

pub is_unowned : {old new : Object} → Shuffles old new → (IsOwned new.owner → ⊥) → new.owner ≡ old.owner
is_unowned s off = ⊎_elim (λ same. same) (λ both. absurd (off both.1)) s.owner

pub gone_unowned : {q : Owner} → q ≡ gone → IsOwned q → ⊥
gone_unowned e owned = subst IsOwned e owned

pub adopted_unowned : {q : Owner} (g : ℕ) → q ≡ adopted_by g → IsOwned q → ⊥
adopted_unowned g e owned = subst IsOwned e owned

pub held_unowned : {q : Owner} (d k : ℕ) → q ≡ world.held d k → IsOwned q → ⊥
held_unowned d k e owned = subst IsOwned e owned

pub under_unowned : (d k : ℕ) (q : Owner) → IsUnder d k q → IsOwned q → ⊥
under_unowned d k (world.held e j) under owned = owned
under_unowned d k (world.lent e j) under owned = owned
under_unowned d k world.loose under owned = under
under_unowned d k (world.inside n) under owned = under
under_unowned d k (adopted_by n) under owned = under
under_unowned d k world.out under owned = under
under_unowned d k gone under owned = under

pub under_stays : {old new : Object} (d k : ℕ) → Shuffles old new → IsUnder d k old.owner → new.owner ≡ old.owner
under_stays {old} d k s under = was_unowned s (under_unowned d k old.owner under)

pub under_was : {old new : Object} (d k : ℕ) → Shuffles old new → IsUnder d k new.owner → IsSameObject old new
under_was {old} {new} d k s under =
    record { owner = is_unowned s (under_unowned d k new.owner under); type = s.type; state = s.state }

-- what its cells have is the same, where the cells are
pub cells_shuffle : {old new : Object} → Shuffles old new → (i : ℕ) → slice_get new.cells i ≡ slice_get old.cells i →
    cell_of new i ≡ cell_of old i
cells_shuffle {old} {new} s i same = ⊎_elim
    (λ owner. ap (λ q. unless_gone q (owned_by (slice_get new.cells i))) owner ∙ ap (λ a. unless_gone old.owner (owned_by a)) same)
    (λ both. live new.owner (slice_get new.cells i) both.1 ∙ (ap owned_by same ∙ sym (live old.owner (slice_get old.cells i) both.0)))
    s.owner
  where
    live : (q : Owner) (a : Option Value) → IsOwned q → unless_gone q (owned_by a) ≡ owned_by a
    live (world.held e j) a owned = absurd owned
    live (world.lent e j) a owned = absurd owned
    live world.loose a owned = refl
    live (world.inside n) a owned = refl
    live (adopted_by n) a owned = absurd owned
    live world.out a owned = absurd owned
    live gone a owned = absurd owned

pub foci_shuffle : (old new : ℕ → Object) → ((n : ℕ) → (old n).owner ≡ gone ⊎ Shuffles (old n) (new n)) →
    (fs : List Focus) → FociAgree old fs → FociAgree new fs
foci_shuffle old new each [] a = tt
foci_shuffle old new each (q ∷ qs) a = (by (each q.guard), foci_shuffle old new each qs a.1)
  where
    clash : gone ≡ world.lent q.depth q.guard_key → ⊥
    clash e = cc

    by : (old q.guard).owner ≡ gone ⊎ Shuffles (old q.guard) (new q.guard) →
        (new q.guard).owner ≡ world.lent q.depth q.guard_key
    by (inl ended) = absurd (clash (sym ended ∙ a.0))
    by (inr s) = under_stays q.depth q.guard_key s (subst (IsUnder q.depth q.guard_key) (sym a.0) (refl, refl)) ∙ a.0
