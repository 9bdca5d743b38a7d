-- When a value fits a type, where keys stand for objects.
use Rattle.std.specs.Prelude.{◌≡◌, ℕ, ℤ, IsTrue, List, [], ◌∷◌, map, Option, None, Some, slice_get}
use Rattle.vlt_core.specs.Core.{States, Ty, int, bool, tracked, owning, guarded, variant, owning_variant, CaseKey, CaseDecl, Program}
use Rattle.vlt_core.specs.Lookups.{case_at}
use Rattle.vlt_core.specs.Types.{header_of}
use Rattle.vlt_meaning.specs.World.{Part, number, reference, owned, Value, one, of_case}
use Rattle.vlt_sound_worlds.specs.Look.{look}
use Rattle.vlt_sound_worlds.specs.Keys.{IsOfType}
use Rattle.vlt_sound_worlds.specs.Scene.{Scene, IsOf, IsGuardedBy}

-- the object that a key stands for, if it does
abbrev pub Names : Type 0
Names = ℕ → Option ℕ

abbrev pub option_join : Option (Option ℕ) → Option ℕ
option_join None = None
option_join (Some n) = n

-- what stands for the keys of a header
abbrev pub names_of : List (Option ℕ) → Names
names_of heads k = option_join (slice_get heads k)

pub record IsReference (s : Scene) (names : Names) (key type : ℕ) (args : List ℕ) (part : Part) : Type 0 where
  pub object : ℕ
  pub named : names key ≡ Some object
  pub is : part ≡ reference object
  pub of : IsOf s type (map names args) object

pub record IsGuarded (s : Scene) (names : Names) (key type : ℕ) (args : List ℕ) (part : Part) : Type 0 where
  pub guard : ℕ
  pub named : names key ≡ Some guard
  pub object : ℕ
  pub is : part ≡ reference object
  pub of : IsOf s type (map names args) object
  pub guarded : IsGuardedBy s guard object

pub record IsOwnedPart (s : Scene) (names : Names) (states : States) (type : ℕ) (args : List ℕ)
    (part : Part) : Type 0 where
  pub object : ℕ
  pub is : part ≡ owned object
  pub of : IsOf s type (map names args) object
  pub state : IsTrue (states (look s.objects object).state)

abbrev pub FitsPart : Scene → Names → Ty → Part → Type 0
FitsPart s names int part = (z : ℤ) × (part ≡ number z)
FitsPart s names bool part = (z : ℤ) × (part ≡ number z)
FitsPart s names (tracked k t args) part = IsReference s names k t args part
FitsPart s names (guarded k t args) part = IsGuarded s names k t args part
FitsPart s names (owning states t args) part = IsOwnedPart s names states t args part
FitsPart s names (variant t args) part = ⊥
FitsPart s names (owning_variant t args) part = ⊥

abbrev pub FitParts : Scene → Names → List Ty → List Part → Type 0
FitParts s names [] [] = Unit {0}
FitParts s names (t ∷ ts) (a ∷ rest) = FitsPart s names t a × FitParts s names ts rest
FitParts s names _ _ = ⊥

abbrev pub header_type : Program → (type position : ℕ) → Option ℕ
header_type p t i = option_join (slice_get (header_of p t) i)

-- an object of a value is the one that the key of its case names, of the header's type and in one of the case's states
pub record IsCaseObject (p : Program) (s : Scene) (names : Names) (type : ℕ) (k : CaseKey) (n : ℕ) : Type 0 where
  pub named : names k.position ≡ Some n
  pub typed : IsOfType (header_type p type k.position) (look s.objects n).type
  pub state : IsTrue (k.states (look s.objects n).state)

abbrev pub FitKeys : Program → Scene → Names → (type : ℕ) → List CaseKey → List ℕ → Type 0
FitKeys p s names t [] [] = Unit {0}
FitKeys p s names t (k ∷ ks) (n ∷ ns) = IsCaseObject p s names t k n × FitKeys p s names t ks ns
FitKeys p s names t _ _ = ⊥

-- a value of a case, whose header's keys stand for objects by `names`
pub record IsCase (p : Program) (s : Scene) (names : Names) (type : ℕ) (value : Value) : Type 0 where
  pub case : ℕ
  pub decl : CaseDecl
  pub parts : List Part
  pub keys : List ℕ
  pub is : value ≡ of_case case parts keys
  pub declared : case_at p type case ≡ Some decl
  pub fit : FitParts s names decl.payload parts
  pub held : FitKeys p s names type decl.keys keys

pub record IsOne (s : Scene) (names : Names) (ty : Ty) (value : Value) : Type 0 where
  pub part : Part
  pub is : value ≡ one part
  pub fits : FitsPart s names ty part

abbrev pub Fits : Program → Scene → Names → Ty → Value → Type 0
Fits p s names (variant t args) v = IsCase p s (names_of (map names args)) t v
Fits p s names (owning_variant t args) v = IsCase p s (names_of (map names args)) t v
Fits p s names ty v = IsOne s names ty v
