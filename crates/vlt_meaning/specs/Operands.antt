-- What is handed over: operands, and the objects of a variant's case.
use Rattle.std.specs.Prelude.{ℕ, ◌==◌, if◌then◌else◌, List, [], ◌∷◌, Option, Some, None, Ok, Err}
use Rattle.vlt_core.specs.Core.{Ty, FieldDecl, Operand, pure, move, pack, Func, Program}
use Rattle.vlt_core.specs.Lookups.{is_owning, is_owning_var, KeyIn}
use Rattle.vlt_meaning.specs.World.{Part, owned, Value, one, of_case, held, loose, is_loose, Object, World, Frame, fault, missing, no_value, other_object}
use Rattle.vlt_meaning.specs.Found.{Found, ◌>>=◌, or_fault, Named, if_so}
use Rattle.vlt_meaning.specs.Objects.{in_states, owned_at, with_owner}
use Rattle.vlt_meaning.specs.Values.{held_object, object_of, value_of}
use Rattle.vlt_meaning.specs.Step.{Step, ends, with_found, with_changed, with_var}

unfoldable pub with_operand : Program → Func → Operand → Frame → World → (Value → Frame → World → Step) → Step
with_operand p f (pure e) frame w go = with_found (value_of p f e frame w.objects) w (λ a. go a frame w)
with_operand p f (move v) frame w go =
    with_found (or_fault no_value (frame.vars v)) w (λ a. go a (with_var v None frame) w)
with_operand p f (pack x states) frame w go =
    with_found (object_of f (λ r. states) x frame w.objects) w (λ n.
    go (one (owned n.number)) frame (with_changed w n.number (with_owner loose)))

-- operands are taken from the left
unfoldable pub with_operands : Program → Func → List Operand → Frame → World →
    (List Value → Frame → World → Step) → Step
with_operands p f [] frame w go = go [] frame w
with_operands p f (o ∷ os) frame w go =
    with_operand p f o frame w (λ a frame w. with_operands p f os frame w (λ rest frame w. go (a ∷ rest) frame w))

-- ---- fields

abbrev pub if_owning : Ty → Value → List Value → List Value
if_owning t a rest = if is_owning t then a ∷ rest else rest

-- the values of the fields that own something
abbrev pub owning_cells : List FieldDecl → List Value → List Value
owning_cells (d ∷ ds) (a ∷ rest) = if_owning d.ty a (owning_cells ds rest)
owning_cells _ _ = []

-- ---- variants

abbrev pub part_of : Value → Found Part
part_of (one a) = Ok a
part_of _ = Err (fault missing None)

abbrev pub parts_of : List Value → Found (List Part)
parts_of [] = Ok []
parts_of (a ∷ rest) = do
  b ← part_of a
  bs ← parts_of rest
  Ok (b ∷ bs)

-- the objects of a case's keys leave the frame, in order
unfoldable pub with_case_packed : List KeyIn → Frame → World → (List ℕ → World → Step) → Step
with_case_packed [] frame w go = go [] w
with_case_packed (k ∷ ks) frame w go =
    with_found (held_object k.key frame w.objects >>= in_states k.states) w (λ n.
    with_case_packed ks frame (with_changed w n.number (with_owner loose)) (λ ns w. go (n.number ∷ ns) w))

-- an object of a value, which the key of its case names
abbrev pub case_object : KeyIn → (n : ℕ) → Frame → List Object → Found Named
case_object k n frame objects = do
  m ← or_fault no_value (frame.keys k.key)
  o ← owned_at is_loose objects n
  q ← if_so (m == n) other_object o
  in_states k.states q

-- they come back to it
unfoldable pub with_case_opened : List KeyIn → List ℕ → Frame → World → (World → Step) → Step
with_case_opened (k ∷ ks) (n ∷ ns) frame w go =
    with_found (case_object k n frame w.objects) w (λ q.
    with_case_opened ks ns frame (with_changed w n (with_owner (held frame.depth k.key))) go)
with_case_opened [] [] frame w go = go w
with_case_opened _ _ frame w go = ends (fault missing None) w

pub record Case : Type 0 where
  pub number : ℕ
  pub parts : List Part
  pub keys : List ℕ

abbrev pub case_in : Option Value → Found Case
case_in (Some (of_case c parts keys)) = Ok (record { number = c; parts = parts; keys = keys })
case_in (Some (one a)) = Err (fault missing None)
case_in None = Err (fault no_value None)

-- an owning variable is emptied where it is switched on
abbrev pub with_empty_variable : Func → (v : ℕ) → Frame → Frame
with_empty_variable f v frame = if is_owning_var f v then with_var v None frame else frame

-- the object of an owning variable's value
abbrev pub owned_in : Option Value → Found ℕ
owned_in (Some (one (owned n))) = Ok n
owned_in (Some _) = Err (fault missing None)
owned_in None = Err (fault no_value None)
