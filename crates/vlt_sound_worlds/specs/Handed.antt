-- What is known after operands.
use Rattle.std.specs.Prelude.{◌≡◌, List, [], ◌∷◌, ◌++◌, length, Some}
use Rattle.vlt_core.specs.Core.{Ty, Operand, Func, Program}
use Rattle.vlt_core.specs.Maps.{HeldMap, CanPass, map_after}
use Rattle.vlt_core.specs.Rows.{operand_rows, operands_rows}
use Rattle.vlt_core.specs.KindedScopes.{Ids}
use Rattle.vlt_core.specs.KindedOperands.{operand_broken, operands_broken}
use Rattle.vlt_meaning.specs.World.{Value, World, Frame}
use Rattle.vlt_meaning.specs.Step.{Step}
use Rattle.vlt_meaning.specs.Operands.{with_operand, with_operands}
use Rattle.vlt_sound_worlds.specs.Agrees.{Handed, Context, Agrees}
use Rattle.vlt_sound_worlds.specs.Typed.{IsTyped}
use Rattle.vlt_sound_worlds.specs.Safe.{Safe, goes_to}

-- values with the types of the places that they are for
abbrev pub handed_values : List Ty → List Value → List Handed
handed_values (t ∷ ts) (a ∷ rest) = record { value = a; type = t } ∷ handed_values ts rest
handed_values _ _ = []

-- Where an operand breaks no rule and the held map passes its rows, it ends in no fault, and after it a value that fits the
-- place's type is handed over, with what was handed over before. `go` is what comes after it.
abbrev pub IsHandedOver : Operand → Ty → Type 0
IsHandedOver o ty =
    (p : Program) (f : Func) (c : Context) (h : HeldMap) (ids : Ids) (hand : List Handed) (frame : Frame) (w : World)
    (k : HeldMap) (ids' : Ids) (rest : List Handed) (go : Value → Frame → World → Step) →
    IsTyped p f → Agrees p f c h ids hand frame w.objects →
    operand_broken p f ids (Some ty) o ≡ [] → CanPass (operand_rows p f o) h →
    ((a : Value) (frame' : Frame) (w' : World) →
    Agrees p f c (map_after (operand_rows p f o) h) ids (hand ++ record { value = a; type = ty } ∷ []) frame' w'.objects →
    Safe (goes_to p f c k ids' rest) (go a frame' w')) →
    Safe (goes_to p f c k ids' rest) (with_operand p f o frame w go)

-- the same of operands, one after another
abbrev pub AreHandedOver : List Operand → List Ty → Type 0
AreHandedOver os types =
    (p : Program) (f : Func) (c : Context) (h : HeldMap) (ids : Ids) (hand : List Handed) (frame : Frame) (w : World)
    (k : HeldMap) (ids' : Ids) (rest : List Handed) (go : List Value → Frame → World → Step) →
    IsTyped p f → Agrees p f c h ids hand frame w.objects → length os ≡ length types →
    operands_broken p f ids types os ≡ [] → CanPass (operands_rows p f os) h →
    ((values : List Value) (frame' : Frame) (w' : World) → length values ≡ length types →
    Agrees p f c (map_after (operands_rows p f os) h) ids (hand ++ handed_values types values) frame' w'.objects →
    Safe (goes_to p f c k ids' rest) (go values frame' w')) →
    Safe (goes_to p f c k ids' rest) (with_operands p f os frame w go)
