-- What a search takes and gives. Each thing found is where some path leads, and where some path leads is found.
use Rattle.std.specs.Prelude.{◌≡◌, ◌⊎◌, ◌++◌, ℕ, zero, suc, List, [], ◌∷◌}
use Rattle.vlt_core.specs.Core.{Tok}
use Rattle.vlt_core.specs.Maps.{Row}
use Rattle.vlt_core.specs.Found.{One, to_next, to_break, to_continue}
use Rattle.vlt_core.specs.Witness.{Choice, Way as Through, LeadsOn}
use Rattle.vlt_witness.specs.declared.seen.Seen.{Seen}
use Rattle.vlt_witness.specs.declared.ways.Way.{Way}
use Rattle.vlt_witness.specs.declared.search.Jumps.{Jumps}
use Rattle.vlt_witness.specs.declared.search.Went.{Went}
use Rattle.vlt_witness.specs.Ways.{Finds, nothing_found, On, OnSeen, End, IsSmall}

-- what is found and goes on by G
pub record Led {E : Type 0} (G : One → List Choice → E → Type 0) (from : Finds One) (f : One) (e : E) (cs : List Choice) : Type 0 where
  pub begin : One
  pub before : List Choice
  pub following : List Choice
  pub comes : from f begin before
  pub goes : G begin following e
  pub whole : cs ≡ before ++ following

-- What was found before stays found, in `new` by some path. What else is there goes on by G from what came, and all that
-- can go on from there by C is there.
pub record Spreads {E : Type 0} (G : One → List Choice → E → Type 0) (C : One → E → Type 0) (from : Finds One) (old new : Finds E) : Type 0 where
  pub found : (f : One) (e : E) (cs : List Choice) → new f e cs → old f e cs ⊎ Led G from f e cs
  pub kept : (f : One) (e : E) (cs : List Choice) → old f e cs → (ds : List Choice) × new f e ds
  pub all : (f o : One) (cs : List Choice) (e : E) → from f o cs → C o e → (ds : List Choice) × new f e ds

-- two findings together
pub record Joined {E : Type 0} (a b new : Finds E) : Type 0 where
  pub found : (f : One) (e : E) (cs : List Choice) → new f e cs → a f e cs ⊎ b f e cs
  pub first : (f : One) (e : E) (cs : List Choice) → a f e cs → (ds : List Choice) × new f e ds
  pub second : (f : One) (e : E) (cs : List Choice) → b f e cs → (ds : List Choice) × new f e ds

-- more after what there was
pub record Grows (old new : List Way) : Type 0 where
  pub more : List Way
  pub is : new ≡ old ++ more

-- ---- parts of a path

-- with a status and choices that are still to be made, to another with fewer
abbrev pub Leg : Type 1
Leg = One → List Choice → One → List Choice → Type 0

-- these choices lead on, whatever follows
abbrev pub Leads : Leg → One → List Choice → One → Type 0
Leads T o cs q = (rest : List Choice) → T o (cs ++ rest) q rest

abbrev pub CanLead : Leg → One → One → Type 0
CanLead T o q = (cs : List Choice) × ((ds : List Choice) × T o cs q ds)

abbrev pub Walks : Leg → Finds One → (old new : Finds One) → Type 0
Walks T = Spreads (Leads T) (CanLead T)

-- what a path meets that has made all its choices
abbrev pub Sight : Type 1
Sight = End → One → List Choice → Type 0

abbrev pub Meets : Sight → One → List Choice → End → Type 0
Meets M o cs e = M e o cs

abbrev pub CanMeet : Sight → One → End → Type 0
CanMeet M o e = (cs : List Choice) × M e o cs

abbrev pub Sees : Sight → Finds One → (old new : Finds End) → Type 0
Sees M = Spreads (Meets M) (CanMeet M)

-- what was found from a status
abbrev pub By : {E : Type 0} → Finds E → One → List Choice → E → Type 0
By S o cs e = S o e cs

abbrev pub CanBy : {E : Type 0} → Finds E → One → E → Type 0
CanBy S o e = (cs : List Choice) × S o e cs

-- one after the other
abbrev pub Then : Leg → Leg → Leg
Then T U o cs q ds = (m : One) × ((es : List Choice) × T o cs m es × U m es q ds)

abbrev pub ThenSight : Leg → Sight → Sight
ThenSight T M e o cs = (m : One) × ((es : List Choice) × T o cs m es × M e m es)

-- one or the other
abbrev pub Either : Leg → Leg → Leg
Either T U o cs q ds = T o cs q ds ⊎ U o cs q ds

abbrev pub EitherSight : Sight → Sight → Sight
EitherSight M N e o cs = M e o cs ⊎ N e o cs

-- by a choice, and then on
abbrev pub Picked : Choice → Leg → Leg
Picked c T o cs q ds = (es : List Choice) × (cs ≡ c ∷ es) × T o es q ds

abbrev pub PickedSight : Choice → Sight → Sight
PickedSight c M e o cs = (es : List Choice) × (cs ≡ c ∷ es) × M e o es

-- through rows
abbrev pub Passes : Tok → List Row → Leg
Passes t rs o cs q ds = LeadsOn t rs o q × (ds ≡ cs)

-- by a choice
abbrev pub Takes : Choice → Leg
Takes c o cs q ds = (q ≡ o) × (cs ≡ c ∷ ds)

-- ---- loops

-- so many turns, by what was found of one
abbrev pub Times : Finds One → ℕ → One → List Choice → One → Type 0
Times S zero o cs q = (q ≡ o) × (cs ≡ [])
Times S (suc n) o cs q = (m : One) × ((ds : List Choice) × ((es : List Choice) × (cs ≡ ds ++ es) × S o m ds × Times S n m es q))

abbrev pub Often : Finds One → One → List Choice → One → Type 0
Often S o cs q = (n : ℕ) × Times S n o cs q

-- all that comes to the head of a loop
pub record IsClosed (turn from heads : Finds One) : Type 0 where
  pub found : (f q : One) (cs : List Choice) → heads f q cs → Led (Often turn) from f q cs
  pub kept : (f q : One) (cs : List Choice) → from f q cs → (ds : List Choice) × heads f q ds
  pub all : (f m q : One) (cs es : List Choice) → heads f m cs → turn m q es → (ds : List Choice) × heads f q ds

-- each status by itself, with no choice
pub record IsEvery (every : Finds One) : Type 0 where
  pub found : (f q : One) (cs : List Choice) → every f q cs → (f ≡ q) × (cs ≡ [])

-- from each status with a small number, all that G leads to
pub record IsTable {E : Type 0} (G : One → List Choice → E → Type 0) (C : One → E → Type 0) (table : Finds E) : Type 0 where
  pub found : (o : One) (e : E) (cs : List Choice) → table o e cs → G o cs e
  pub all : (o : One) (e : E) → IsSmall o → C o e → (cs : List Choice) × table o e cs

-- ---- a part

-- what a search of a part found: where its ways go on, the jumps out of it, and what is met in it
pub record IsSearched (way : Through) (sight : Sight) (end : ℕ) (from : List Way) (old new : Jumps) (seen seen' : List Seen) (r : Went) : Type 0 where
  pub next : Walks (λ o cs q ds. way o cs to_next q ds) (On from) nothing_found (On r.next)
  pub breaks : Walks (λ o cs q ds. way o cs to_break q ds) (On from) (On old.breaks) (On new.breaks)
  pub continues : Walks (λ o cs q ds. way o cs to_continue q ds) (On from) (On old.continues) (On new.continues)
  pub met : Sees sight (On from) (OnSeen seen) (OnSeen seen')
  pub number : r.number ≡ end
