-- Values of variants: their cases' keys, and the parts of an arm's variables.
use Rattle.std.specs.Prelude.{◌≡◌, ◌+◌, ◌*◌, ◌<◌, ◌≤◌, ℕ, ℤ, pos, true, List, [], ◌∷◌, map, length, Option, Some, None, Result, Ok, slice_get, vec_capacity, IfSome}
use Rattle.std.specs.List.{filter_map}
use Rattle.std.specs.Option.{option_map}
use Rattle.vlt_ops.specs.declared.TrapKind.{TrapKind}
use Rattle.vlt_core.specs.Core.{CaseKey, CaseDecl, Simple, Func, Program}
use Rattle.vlt_core.specs.Lookups.{KeyIn, variant_of, case_at}
use Rattle.vlt_meaning.specs.World.{Part, reference, owned, one, of_case, World, Frame, is_fault}
use Rattle.vlt_meaning.specs.Run.{does_simple}
use Rattle.vlt_meaning.specs.Operands.{Case, case_in, with_empty_variable}
use Rattle.vlt_meaning_laws.specs.Machine.Got.{Got, got, stopped, then_got, opened_got, filled_got}
use Rattle.vlt_heap.specs.declared.heap.Heap.{Heap}
use Rattle.vlt_heap.specs.Items.{Items}
use Rattle.vlt_acts.specs.declared.values.values.Values.{Values}
use Rattle.vlt_acts.specs.Values.Parts.{HasPartAt, HaveParts, HaveValue}
use Rattle.vlt_acts.specs.Values.Shown.{key_at, ShowsFrame, Seen}
use Rattle.vlt_acts.specs.Values.Pushed.{HaveValues}
use Rattle.vlt_acts.specs.Acts.Acts.{setup, Shows, Does}

-- ---- the keys of a case

abbrev pub keys_listed : Option CaseDecl → List CaseKey
keys_listed None = []
keys_listed (Some d) = d.keys

-- those of a function that stand for the keys of a header
abbrev pub keys_for : (args : List ℕ) → List CaseKey → List KeyIn
keys_for args = filter_map (λ k. option_map (λ j. record { key = j; states = k.states }) (slice_get args k.position))

-- the keys name these objects
abbrev pub NameAll : Frame → List KeyIn → (ns : List ℕ) → Type 0
NameAll frame [] [] = Unit {0}
NameAll frame (k ∷ ks) (n ∷ ns) = (frame.keys k.key ≡ Some n) × NameAll frame ks ns
NameAll frame _ _ = ⊥

-- the keys' objects are shown
abbrev pub ShowsKeys : Items → Values → Frame → Type 0
ShowsKeys items values frame =
    (k n : ℕ) → frame.keys k ≡ Some n → HasPartAt items values.slots.items (key_at values k) (reference n)

-- slots from a position on own what the keys name
abbrev pub PacksKeys : List KeyIn → (to : ℕ) → (old new : Values) → Type 0
PacksKeys ks to old new =
    (items : Items) (frame : Frame) (ns : List ℕ) → ShowsKeys items old frame → NameAll frame ks ns →
    HaveParts items new.slots.items to (map owned ns)

-- ---- a value that is built

-- slots from a position on have a value of the case, whose payload stood one part a value from another one on
abbrev pub WritesCase : List KeyIn → (case from count to : ℕ) → (old new : Values) → Type 0
WritesCase ks c from count to old new =
    (items : Items) (frame : Frame) (ps : List Part) (ns : List ℕ) → ShowsKeys items old frame → NameAll frame ks ns →
    length ps ≡ count → HaveValues items old.slots.items from old.width (map one ps) →
    HaveValue items new.slots.items to old.width (of_case c ps ns)

-- a value takes no more slots than there are
abbrev pub FitsCase : Program → Func → (v case count width : ℕ) → Type 0
FitsCase p f v c n width =
    IfSome (variant_of f v) (λ t. 1 + n + length (keys_listed (case_at p t.type c)) ≤ width)

-- in this function of the program, whatever frame and objects the tables showed
abbrev pub DoesFor : Program → Func → (old : Heap) → Values → (new : Heap) → Values → Result (Unit {0}) TrapKind → Simple → Type 0
DoesFor p f old before new after r s =
    (c : Seen old before) (w : World) (n d : ℕ) → c.program ≡ p → c.func ≡ f → w.objects ≡ c.objects →
    Does c.items new after r (does_simple (setup c.program n d) c.func s c.frame w)

-- ---- the variables of an arm

-- only slots of the running frame's variables were set
pub record IsFrameSet (old new : Values) : Type 0 where
  pub below : (k : ℕ) → k < old.base → slice_get new.slots.items k ≡ slice_get old.slots.items k
  pub following : (k : ℕ) → old.base + old.vars * old.width ≤ k → slice_get new.slots.items k ≡ slice_get old.slots.items k
  pub long : length new.slots.items ≡ length old.slots.items
  pub room : vec_capacity new.slots ≡ vec_capacity old.slots
  pub base : new.base ≡ old.base
  pub vars : new.vars ≡ old.vars
  pub width : new.width ≡ old.width

-- the variables have their values, where there are as many
abbrev pub IsFilledWith : Items → Values → Frame → World → Got (Unit {0}) → Type 0
IsFilledWith items values before w (got u frame v) =
    ShowsFrame items values frame × (frame.keys ≡ before.keys) × (v ≡ w)
IsFilledWith items values before w (stopped o v) = is_fault o ≡ true

-- the parts from a position on are the values of the variables
abbrev pub FillsParts : (from : ℕ) → (vs : List ℕ) → (old new : Values) → Type 0
FillsParts from vs old new =
    (items : Items) (f : Func) (frame : Frame) (w : World) (ps : List Part) → ShowsFrame items old frame →
    HaveParts items old.slots.items from ps → IsFilledWith items new frame w (filled_got f vs (map one ps) frame w)

-- ---- a switch

-- the case that a variable's value has
abbrev pub TellsCase : (v : ℕ) → Values → (number : ℤ) → Type 0
TellsCase v values z = (h : Heap) (c : Seen h values) (d : Case) → case_in (c.frame.vars v) ≡ Ok d → z ≡ pos d.number

abbrev pub IsOpened : (before : Items) → Heap → Values → Got (Unit {0}) → Type 0
IsOpened before heap values (got u frame w) = Shows before heap values frame w.objects
IsOpened before heap values (stopped o w) = is_fault o ≡ true

-- The objects of the case come back to its keys, the variable is emptied where it owns its value, and the arm's
-- variables get the payload.
abbrev pub OpensArm : (v : ℕ) → (vs : List ℕ) → Heap → (old new : Values) → Type 0
OpensArm v vs heap old new =
    (c : Seen heap old) (w : World) (d : Case) (ks : List KeyIn) → w.objects ≡ c.objects →
    case_in (c.frame.vars v) ≡ Ok d →
    IsOpened c.items heap new (then_got (opened_got ks d.keys c.frame w) (λ u same w.
    filled_got c.func vs (map one d.parts) (with_empty_variable c.func v c.frame) w))
