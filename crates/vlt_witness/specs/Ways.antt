-- What a search finds: statuses that paths come with, each with the choices of one path.
use Rattle.std.specs.Prelude.{◌≡◌, ◌⊎◌, ◌<◌, ℕ, Bool, true, false, List, [], ◌∷◌, Option, None, Some}
use Rattle.vlt_core.specs.Found.{One, one_absent, one_held, one_lent, one_full}
use Rattle.vlt_core.specs.FaultView.{choices_of}
use Rattle.vlt_core.specs.Witness as w
use Rattle.vlt_core_laws.specs.Sweep.{In}
use Rattle.vlt_faults.specs.Finding.Ones.{many_of}
use Rattle.vlt_witness.specs.declared.single.Single.{Single}
use Rattle.vlt_witness.specs.declared.single.Single.TheVariants as single
use Rattle.vlt_witness.specs.declared.ways.Way.{Way}
use Rattle.vlt_witness.specs.declared.seen.JoinName.{JoinName}
use Rattle.vlt_witness.specs.declared.seen.Seen.{Seen}

-- ---- the code's statuses as plain ones

abbrev pub one_of : Single → One
one_of single.Absent = one_absent
one_of single.Full = one_full
one_of (single.Held state) = one_held state
one_of (single.Lent state) = one_lent state

-- a set of states has numbers below 32
abbrev pub IsSmall : One → Type 0
IsSmall (one_held state) = state < 32
IsSmall (one_lent state) = state < 32
IsSmall _ = Unit {0}

-- ---- what is found

-- from a status, to an end, by choices
abbrev pub Finds : Type 0 → Type 1
Finds E = One → E → List w.Choice → Type 0

abbrev pub nothing_found : {E : Type 0} → Finds E
nothing_found f e cs = ⊥

-- what one of the list finds
abbrev pub Among : {X E : Type 0} → (X → Finds E) → List X → Finds E
Among P [] f e cs = ⊥
Among P (x ∷ xs) f e cs = P x f e cs ⊎ Among P xs f e cs

-- a way leads to statuses
pub record IsWay (x : Way) (f q : One) (cs : List w.Choice) : Type 0 where
  pub from : one_of x.from ≡ f
  pub there : In (many_of x.ones) q
  pub path : choices_of x.path ≡ cs

abbrev pub On : List Way → Finds One
On = Among IsWay

-- what a path met: a row, or a join by its class and number
pub data End : Type 0 where
  row_end : End
  join_end : (class number : ℕ) → End

abbrev pub class_of : (is_head : Bool) → ℕ
class_of true = 0
class_of false = 2

abbrev pub end_of_join : Option JoinName → End
end_of_join None = row_end
end_of_join (Some j) = join_end (class_of j.is_head) j.number

pub record IsSeen (x : Seen) (f : One) (e : End) (cs : List w.Choice) : Type 0 where
  pub from : one_of x.from ≡ f
  pub met : end_of_join x.join ≡ e
  pub path : choices_of x.path ≡ cs

abbrev pub OnSeen : List Seen → Finds End
OnSeen = Among IsSeen
