-- The event of a call, and its answer.
use Rattle.std.specs.Prelude.{◌≡◌, ◌+◌, ℕ, ℤ, List, [], ◌∷◌, ◌++◌, drop, length, Option, None, Some}
use Rattle.std.specs.List.{flat_map}
use Rattle.std.specs.Borrow.{Bor}
use Rattle.vlt_numbers.specs.HostAnswers.{lists_of}
use Rattle.vlt_heap.specs.declared.slots.Slot.{Slot}
use Rattle.vlt_heap.specs.Items.{Items}
use Rattle.vlt_meaning.specs.World.{Part, part_text, Value, one, of_case, argument_text, called, line_of}
use Rattle.vlt_acts.specs.declared.values.values.Values.{Values}
use Rattle.vlt_acts.specs.Values.Parts.{HasPart}
use Rattle.vlt_acts.specs.Values.Pushed.{HaveValues}
use Rattle.vlt_acts.specs.declared.hosts.host.Host.{Host}

-- no argument is of a variant
abbrev pub AreSingle : List Value → Type 0
AreSingle [] = Unit {0}
AreSingle (one a ∷ rest) = AreSingle rest
AreSingle (of_case c parts keys ∷ rest) = ⊥

-- the values of arguments that stand from a position on
pub record AreArgs (items : Items) (values : Values) (from count : ℕ) (args : List Value) : Type 0 where
  pub count_is : length args ≡ count
  pub single : AreSingle args
  pub at : HaveValues items values.slots.items from values.width args

-- the text of the part that a slot has
abbrev pub TellsPart : Slot → (old new : List ℕ) → Type 0
TellsPart a old new = (items : Items) (p : Part) → HasPart items p a → new ≡ old ++ part_text p

-- the text of arguments
abbrev pub TellsArgs : Values → (from count : ℕ) → (old new : List ℕ) → Type 0
TellsArgs values from n old new =
    (items : Items) (args : List Value) → AreArgs items values from n args → new ≡ old ++ flat_map argument_text args

-- the line of the event
abbrev pub TellsCall : (name : List ℕ) → Values → (from count : ℕ) → (line : List ℕ) → Type 0
TellsCall name values from n line =
    (items : Items) (args : List Value) → AreArgs items values from n args → line ≡ line_of (called name args)

-- the next answer, if there is one
abbrev pub IsTaken : Option (Bor (List ℤ)) → (old new : Host) → Type 0
IsTaken None old new = (drop old.taken (lists_of old.answers.now) ≡ []) × (new ≡ old)
IsTaken (Some a) old new =
    (drop old.taken (lists_of old.answers.now) ≡ a.now ∷ drop (old.taken + 1) (lists_of old.answers.now)) ×
    (new ≡ record old { taken = old.taken + 1 })
