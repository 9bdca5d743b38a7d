-- What references stand for is kept by each change of the objects.
use Rattle.std.proofs.Common.{◌≡◌, inl, inr, ℕ, ◌<◌, List, length, ◌∙◌}
use Rattle.vlt_meaning.specs.World.{gone, adopted_by, Object}
use Rattle.vlt_sound_worlds.specs.Look.{look}
use Rattle.vlt_sound_worlds.specs.Scene.{Scene, IsFocusOn, IsGuardedBy, Grows}

pub grows_itself : (s : Scene) → Grows s s
grows_itself s = record { kinds = λ t hs n i. i; guards = λ g n i. i }

pub grows_then : {a b c : Scene} → Grows a b → Grows b c → Grows a c
grows_then g h =
    record { kinds = λ t hs n i. h.kinds t hs n (g.kinds t hs n i); guards = λ a n i. h.guards a n (g.guards a n i) }

-- each object of the list is in the later one, with its type
pub record SameTypes (os os' : List Object) : Type 0 where
  pub long : (n : ℕ) → n < length os → n < length os'
  pub type : (n : ℕ) → n < length os → (look os' n).type ≡ (look os n).type

-- What each step has to show: types and heads stay, released objects stay released, and an adopted object stays so
-- until its adopter is released or a focus on it is open.
pub record Stays (s s' : Scene) : Type 0 where
  pub types : SameTypes s.objects s'.objects
  pub heads : (n : ℕ) → n < length s.objects → s'.heads n ≡ s.heads n
  pub ended : (g : ℕ) → g < length s.objects → (look s.objects g).owner ≡ gone → (look s'.objects g).owner ≡ gone
  pub adopted : (g n : ℕ) → (look s.objects n).owner ≡ adopted_by g → IsGuardedBy s' g n
  pub foci : (g n : ℕ) → IsFocusOn s.foci g n → IsGuardedBy s' g n

pub grows : (s s' : Scene) → Stays s s' → Grows s s'
grows s s' st = record {
  kinds = λ t hs n i. record {
    within = st.types.long n i.within;
    typed = st.types.type n i.within ∙ i.typed;
    headed = st.heads n i.within ∙ i.headed;
  };
  guards = λ g n i. by g n i;
}
  where
    by : (g n : ℕ) → IsGuardedBy s g n → IsGuardedBy s' g n
    by g n (inl e) = inl (record { within = st.types.long g e.within; gone = st.ended g e.within e.gone })
    by g n (inr (inl a)) = st.adopted g n a
    by g n (inr (inr f)) = st.foci g n f
