-- Why notes aren't tested: a program or notes as no certificate has them.
use Rattle.std.specs.Prelude.{◌≡◌, ◌≤◌, ◌<◌, ◌^◌, ℕ, true, false, List, [], ◌∷◌, length, Option, Some, slice_get}
use Rattle.vlt_core.specs.Core.{done, Func, Program}
use Rattle.vlt_core.specs.Maps.{Status, absent}
use Rattle.vlt_core.specs.Flow.{size_block}
use Rattle.vlt_core.specs.Bodies.{body_flow}
use Rattle.vlt_core.specs.Least.{first_number}
use Rattle.vlt_core.specs.Instances.{instance, origins}
use Rattle.vlt_keyset.specs.Pairs.{IsBefore}
use Rattle.vlt_rows.specs.Unfit.{HasNoFlow}
use Rattle.vlt_flow_maps.specs.Unfit.{HasNoStart}
use Rattle.cert_rows.specs.Values.{TokenStatus, ListedMap}
use Rattle.cert_rows.specs.Rows.{Maps}
use Rattle.cert_format.specs.Notes.{Note, at_loop, at_join}
use Rattle.cert_fit_laws.specs.Annotation.{map_or_empty, annotation}
use Rattle.cert_check.specs.Tests.{body_tests, FirstFails, lost}

-- ---- notes that are in order in one instance

abbrev pub IsPresent : Status → Type 0
IsPresent absent = ⊥
IsPresent s = Unit {0}

abbrev pub ComesFirst : TokenStatus → ListedMap → Type 0
ComesFirst x [] = Unit {0}
ComesFirst x (y ∷ ys) = IsBefore x.0 y.0 × ComesFirst x ys

-- keys first, each kind in ascending order; none is absent
abbrev pub IsMapInOrder : ListedMap → Type 0
IsMapInOrder [] = Unit {0}
IsMapInOrder (x ∷ xs) = IsPresent x.1 × ComesFirst x xs × IsMapInOrder xs

abbrev pub map_at : Maps → (instance : ℕ) → ListedMap
map_at maps i = map_or_empty (slice_get maps i)

abbrev pub HasMapsInOrder : (instance : ℕ) → Note → Type 0
HasMapsInOrder i (at_loop n around exit) = IsMapInOrder (map_at around i) × IsMapInOrder (map_at exit i)
HasMapsInOrder i (at_join n maps) = IsMapInOrder (map_at maps i)

abbrev pub number_of : Note → ℕ
number_of (at_loop n around exit) = n
number_of (at_join n maps) = n

abbrev pub IsBelowAll : ℕ → List Note → Type 0
IsBelowAll n [] = Unit {0}
IsBelowAll n (x ∷ xs) = (n < number_of x) × IsBelowAll n xs

-- the numbers of statements ascend, and each map of the instance is in order
abbrev pub AreInOrder : (instance : ℕ) → List Note → Type 0
AreInOrder i [] = Unit {0}
AreInOrder i (x ∷ xs) = HasMapsInOrder i x × IsBelowAll (number_of x) xs × AreInOrder i xs

-- ---- bodies

pub data IsUnfitBody (p : Program) (f : Func) (notes : List Note) (instance : ℕ) : Type 0 where
  disordered : (AreInOrder instance notes → ⊥) → IsUnfitBody p f notes instance
  -- the code has no flow of the body, or no map that it begins with
  no_flow : HasNoFlow p f → IsUnfitBody p f notes instance
  no_start : HasNoStart p f → IsUnfitBody p f notes instance
  many_statements : 2 ^ 62 ≤ size_block (body_flow p f) → IsUnfitBody p f notes instance
  -- the first test that fails is that of a jump in no loop
  lost_jump : FirstFails (body_tests p f (annotation notes instance)) lost → IsUnfitBody p f notes instance

-- ---- programs

pub data IsUnfitFunc (p : Program) (f : Func) (notes : List Note) : Type 0 where
  -- the bound of its clause is no state of its key, so that it has no instance
  no_instance : origins p f ≡ [] → IsUnfitFunc p f notes
  -- in some instance the body or the notes are unfit
  body : (i : ℕ) (o : Option ℕ) → slice_get (origins p f) i ≡ Some o → IsUnfitBody p (instance p f o) notes i → IsUnfitFunc p f notes

pub data IsUnfit (p : Program) (all : List (List Note)) : Type 0 where
  -- there isn't one list of notes for each function
  other_count : (length all ≡ length p.fns → ⊥) → IsUnfit p all
  -- so many statements come before a function
  many_statements : (g : ℕ) → 2 ^ 62 ≤ first_number p g → IsUnfit p all
  external_body : (g : ℕ) (f : Func) → slice_get p.fns g ≡ Some f → f.external ≡ true → (f.body ≡ done → ⊥) → IsUnfit p all
  unfit_func : (g : ℕ) (f : Func) (notes : List Note) → slice_get p.fns g ≡ Some f → slice_get all g ≡ Some notes →
      f.external ≡ false → IsUnfitFunc p f notes → IsUnfit p all
