-- Paths through a body that show a fault, as those of a witness do.
use Rattle.std.specs.Prelude.{◌≡◌, ℕ, List, Option, Some, None}
use Rattle.std.specs.Option.{option_map}
use Rattle.vlt_core.specs.Core.{Tok}
use Rattle.vlt_core.specs.Maps.{Wanted, Row}
use Rattle.vlt_core.specs.Flow.{Block}
use Rattle.vlt_core.specs.Found.{One, one_absent, Ones}
use Rattle.vlt_core.specs.Faults.{Spot, IsPresent, FaultKind, at_row, at_join, FlowFault}
use Rattle.vlt_core.specs.Witness.{Choice, MetBlock, Refuses, NoJoin, NoRow, IsJoin}
use Rattle.vlt_core.specs.FaultView.{choices_of}
use Rattle.vlt_core.specs.declared.notes.Choice as D
use Rattle.vlt_witness.specs.declared.aim.Aim.{Aim}
use Rattle.vlt_witness.specs.declared.seen.Seen.{Seen}
use Rattle.vlt_witness.specs.declared.explain.Paths.{Paths}
use Rattle.vlt_witness.specs.Ways.{Finds, OnSeen, End, join_end}
use Rattle.vlt_witness.specs.Parts.{SeenInBlock}

-- each that is listed meets the aim in the body, and where some path meets it one is listed
pub record ArePaths (a : Aim) (s : Block) (S : Ones) (list : List Seen) : Type 0 where
  pub found : (f : One) (e : End) (cs : List Choice) → OnSeen list f e cs → (o : One) × S o × SeenInBlock a 0 s e o cs
  pub all : (o : One) (e : End) (cs : List Choice) → S o → SeenInBlock a 0 s e o cs → (f : One) × ((ds : List Choice) × OnSeen list f e ds)

-- ---- what is given, if there is any

-- the choices of one that is found to this end; or none is
abbrev pub GivesPath : Finds End → End → Option (List D.Choice) → Type 0
GivesPath A e (Some cs) = (f : One) × A f e (choices_of cs)
GivesPath A e None = (f : One) (cs : List Choice) → A f e cs → ⊥

-- one path, or two, of which this is so; or it is so of none
abbrev pub GivesPaths : (List Choice → Option (List Choice) → Type 0) → Option Paths → Type 0
GivesPaths P (Some x) = P (choices_of x.first) (option_map choices_of x.second)
GivesPaths P None = (first : List Choice) (second : Option (List Choice)) → P first second → ⊥

-- ---- which paths show a fault

-- two to one join
abbrev pub IsPair : Finds End → Finds End → List Choice → Option (List Choice) → Type 0
IsPair A B first None = ⊥
IsPair A B first (Some second) =
    (c : ℕ) × ((n : ℕ) × ((f : One) × A f (join_end c n) first) × ((g : One) × B g (join_end c n) second))

pub record HasNoPair (A B : Finds End) : Type 0 where
  pub none : (f g : One) (c n : ℕ) (cs ds : List Choice) → A f (join_end c n) cs → B g (join_end c n) ds → ⊥

-- a path through a body that begins with one of these statuses
abbrev pub BlockMeets : Block → Ones → Tok → ((at : ℕ) → Row → One → Type 0) → (Spot → One → Type 0) → List Choice → Type 0
BlockMeets s S t P Q cs = (o : One) × S o × MetBlock P Q t 0 s o cs

abbrev pub IsShownRow : Block → Ones → Tok → (at : ℕ) → Wanted → List Choice → Option (List Choice) → Type 0
IsShownRow s S t at wanted first None = BlockMeets s S t (Refuses t at wanted) NoJoin first
IsShownRow s S t at wanted first (Some second) = ⊥

abbrev pub IsShownJoin : Block → Ones → Tok → (at : ℕ) → List Choice → Option (List Choice) → Type 0
IsShownJoin s S t at first None = ⊥
IsShownJoin s S t at first (Some second) =
    (p : Spot) × (p.at ≡ at) ×
    BlockMeets s S t NoRow (IsJoin p (λ o. o ≡ one_absent)) first ×
    BlockMeets s S t NoRow (IsJoin p IsPresent) second

abbrev pub IsShownBy : Block → Ones → FlowFault → List Choice → Option (List Choice) → Type 0
IsShownBy s S x first second = by x.kind
  where
    by : FaultKind → Type 0
    by (at_row found wanted) = IsShownRow s S x.tok x.at wanted first second
    by (at_join present) = IsShownJoin s S x.tok x.at first second
