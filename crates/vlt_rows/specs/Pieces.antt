-- Parts of the rows of a statement; private contracts alone cite this.
use Rattle.std.specs.Prelude.{ℕ, Bool, true, false, if◌then◌else◌, List, [], ◌∷◌, ◌++◌, map, filter, slice_get, Option}
use Rattle.vlt_core.specs.Core.{Operand, Entry, CaseKey, Func, Program, a_key, Form, simple, call}
use Rattle.vlt_core.specs.Lookups.{VariantOf, KeyIn, case_keys, after_set, is_new, is_given_back, owning_states, is_owning_var, guarded_of, reference_of, release_set}
use Rattle.vlt_core.specs.Maps.{Row, becomes_absent, becomes_held, becomes_lent, wants_absent, wants_held, wants_in}
use Rattle.vlt_core.specs.Rows.{row, on_key, key_row, empty_row, on_option, operand_rows, called_row, called_rows, returned_row, new_rows, given_back_rows, simple_rows, rows_of}

abbrev pub entry_rows : Program → Func → (keys : List ℕ) → Entry → List Row
entry_rows p f keys e = on_option (slice_get keys e.key) (λ k. called_row p f k e ∷ [])

abbrev pub callee_rows : Program → Func → (g : ℕ) → (keys : List ℕ) → List Row
callee_rows p f g keys = on_option (slice_get p.fns g) (λ h. called_rows p f keys h.clause)

abbrev pub value_rows : Program → Func → Option Operand → List Row
value_rows p f value = on_option value (operand_rows p f)

abbrev pub new_row : Program → Func → Option Operand → Entry → List Row
new_row p f value e = if is_new e then returned_row p f value e else []

abbrev pub given_back_row : Program → Func → Entry → List Row
given_back_row p f e =
    map (λ e. row (a_key e.key) (wants_in (after_set p f e)) becomes_absent) (filter is_given_back (e ∷ []))

-- the rows of a return before those that want the function's tokens away
abbrev pub handed_back_rows : Program → Func → Option Operand → List Row
handed_back_rows p f value = value_rows p f value ++ new_rows p f value ++ given_back_rows p f

-- where a build puts the objects of a case's keys in, and where an arm takes them out
abbrev pub case_row : (opens : Bool) → KeyIn → Row
case_row true k = row (a_key k.key) wants_absent (becomes_held k.states)
case_row false k = row (a_key k.key) (wants_in k.states) becomes_absent

abbrev pub case_rows : Program → (opens : Bool) → (case : ℕ) → Option VariantOf → List Row
case_rows p opens case t = on_option t (λ t. map (case_row opens) (case_keys p t case))

-- the rows of one key that a case lists
abbrev pub case_key_rows : (args : List ℕ) → (opens : Bool) → CaseKey → List Row
case_key_rows args opens k = on_option (slice_get args k.position) (λ j. case_row opens (record { key = j; states = k.states }) ∷ [])

abbrev pub unpacked_rows : Func → (x v : ℕ) → List Row
unpacked_rows f x v = on_option (owning_states f v) (λ states. key_row f x wants_absent (becomes_held states))

abbrev pub switch_rows : Func → (v : ℕ) → List Row
switch_rows f v = if is_owning_var f v then empty_row v ∷ [] else []

abbrev pub focus_rows : Program → Func → (y z : ℕ) → List Row
focus_rows p f y z =
    on_key (guarded_of f y) (λ g. row (a_key g.key) wants_held becomes_lent) ++
    on_key (reference_of f z) (λ r. row (a_key r.key) wants_absent (becomes_held (release_set p r.type)))

-- the rows of a statement without blocks that goes on to the next one
abbrev pub own_rows : Program → Func → Form → List Row
own_rows p f (simple s) = simple_rows p f s
own_rows p f (call g target keys args) = rows_of p f [] (call g target keys args)
own_rows p f _ = []
