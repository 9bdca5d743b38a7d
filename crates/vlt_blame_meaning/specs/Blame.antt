-- What a move wanted that can't be done, and what was there: the first row of the step table that what is there doesn't meet.
use Rattle.std.specs.Prelude.{◌≡◌, ℕ, ◌==◌, if◌then◌else◌, List, [], ◌∷◌, ◌++◌, map, Option, Some, None, slice_get, ◌⊎◌}
use Rattle.std.specs.Option.{option_and_then, option_to_list}
use Rattle.vlt_core.specs.Core.{Tok, a_key, a_var, Form, switch, next, done, Arms, no_arms, arm, Func, Program}
use Rattle.vlt_core.specs.Maps.{Status, absent, held, lent, full, HeldMap, Wanted, wants_in, wants_lent, becomes_absent, comes_back, Row, IsWanted, CanPass, row_passed, away_row}
use Rattle.vlt_core.specs.Lookups.{Reference, release_set}
use Rattle.vlt_core.specs.Rows.{row, expr_rows, rows_of, arm_rows, target_rows}
use Rattle.vlt_meaning.specs.World.{Value, of_case, Object, is_held_under, is_lent_under, Frame}
use Rattle.vlt_meaning.specs.Step.{Step, goes, jumps, leaves}
use Rattle.vlt_trace_meaning.specs.Machine.{Task, list, closing, turn, unfocus, back, Conf}

-- ---- what is there

-- an object, as the frame at a depth has it under a key
abbrev pub status_of : (depth key : ℕ) → Object → Status
status_of d k o =
    if is_held_under d k o.owner then held (λ s. s == o.state)
    else if is_lent_under d k o.owner then lent (λ s. s == o.state)
    else absent

abbrev pub or_else : Status → Status → Status
or_else absent s = s
or_else s t = s

-- the first of these objects that the frame has under the key
abbrev pub status_among : (depth key : ℕ) → List Object → Status
status_among d k [] = absent
status_among d k (o ∷ os) = or_else (status_of d k o) (status_among d k os)

-- the object that the key names, if it names one
abbrev pub object_named : Frame → List Object → (key : ℕ) → List Object
object_named frame objects k = option_to_list (option_and_then (slice_get objects) (frame.keys k))

abbrev pub value_status : Option Value → Status
value_status None = absent
value_status (Some a) = full

-- What the frame has under a key is the object that the key names, or else the first other one that it has there.
abbrev pub held_map : Frame → List Object → HeldMap
held_map frame objects (a_key k) =
    or_else (status_among frame.depth k (object_named frame objects k)) (status_among frame.depth k objects)
held_map frame objects (a_var v) = value_status (frame.vars v)

-- ---- what is wanted

abbrev pub chosen_rows : Program → Func → (v : ℕ) → Arms → (case : ℕ) → List Row
chosen_rows p f v no_arms c = []
chosen_rows p f v (arm n vs body rest) c = if c == n then arm_rows p f v n vs else chosen_rows p f v rest c

-- the rows of the arm of the case that a switch opens
abbrev pub opened_rows : Program → Func → (v : ℕ) → Arms → Option Value → List Row
opened_rows p f v arms (Some (of_case c parts keys)) = chosen_rows p f v arms c
opened_rows p f v arms _ = []

-- the rows of what a statement does at once; a jump leaves its blocks one after another, by moves of their own
abbrev pub form_rows : Program → Func → Form → Frame → List Row
form_rows p f (switch v arms end) frame =
    rows_of p f [] (switch v arms end) ++ opened_rows p f v arms (frame.vars v)
form_rows p f form frame = rows_of p f [] form

-- the rows of a focus's end
abbrev pub unfocus_rows : Program → (guard key : Reference) → List Row
unfocus_rows p g q =
    row (a_key q.key) (wants_in (release_set p q.type)) becomes_absent ∷
    row (a_key g.key) wants_lent comes_back ∷ []

-- the rows of a move
abbrev pub task_rows : Program → Func → Task → Frame → List Row
task_rows p f (list done) frame = []
task_rows p f (list (next place form rest)) frame = form_rows p f form frame
task_rows p f (closing bound end) frame = map away_row bound
task_rows p f (turn place e b) frame = expr_rows p f e
task_rows p f (unfocus g q a n end) frame = unfocus_rows p g q
task_rows p f (back k) frame = target_rows f k.target

-- ---- the first row that isn't met

pub record Unmet : Type 0 where
  pub tok : Tok
  pub found : Status
  pub wanted : Wanted

abbrev pub unmet_row : Row → HeldMap → Unmet
unmet_row r h = record { tok = r.tok; found = h r.tok; wanted = r.wanted }

-- the first of the rows that isn't met; each before it changes what is there
abbrev pub IsFirstUnmet : List Row → HeldMap → Unmet → Type 0
IsFirstUnmet [] h u = ⊥
IsFirstUnmet (r ∷ rs) h u =
    ((u ≡ unmet_row r h) × (IsWanted r.wanted (h r.tok) → ⊥)) ⊎
    (IsWanted r.wanted (h r.tok) × IsFirstUnmet rs (row_passed r h) u)

-- it, or none where all are met
abbrev pub IsBlame : List Row → HeldMap → Option Unmet → Type 0
IsBlame rs h (Some u) = IsFirstUnmet rs h u
IsBlame rs h None = CanPass rs h

-- ---- the move that isn't done

-- where a move begins: the function that it is for, what this wants, and what is there
pub record Wants : Type 0 where
  pub func : Func
  pub rows : List Row
  pub map : HeldMap

abbrev pub wants : Program → Func → Task → Frame → List Object → Wants
wants p f t frame objects = record { func = f; rows = task_rows p f t frame; map = held_map frame objects }

abbrev pub no_wants : Func → Wants
no_wants f = record { func = f; rows = []; map = λ t. absent }

-- The next move of a configuration. A callee that was left is back in its caller's frame.
abbrev pub wants_of : Program → Func → List Task → Step → Wants
wants_of p f (back k ∷ ts) (leaves a kept w) = wants p k.func (back k) k.frame w.objects
wants_of p f (back k ∷ ts) a = no_wants k.func
wants_of p f (t ∷ ts) (goes frame w) = wants p f t frame w.objects
wants_of p f (t ∷ ts) (jumps c frame w) = wants p f t frame w.objects
wants_of p f ts a = no_wants f

abbrev pub wants_at : Program → Conf → Wants
wants_at p c = wants_of p c.func c.tasks c.step

-- what is told of the move after a configuration, which isn't done
abbrev pub IsBlamed : Program → (before : Conf) → Option Unmet → Type 0
IsBlamed p c u = IsBlame (wants_at p c).rows (wants_at p c).map u
