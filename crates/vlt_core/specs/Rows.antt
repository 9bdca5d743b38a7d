-- What each step wants of the tokens, and what it leaves.
use Rattle.std.specs.Prelude.{ℕ, ◌==◌, if◌then◌else◌, List, [], ◌∷◌, ◌++◌, length, map, filter, Option, Some, None, slice_get}
use Rattle.std.specs.List.{flat_map, list_any, range_with_len}
use Rattle.vlt_core.specs.Core.{States, Expr, var, field, unary, binary, Operand, pure, move, pack, Tok, a_key, a_var, Simple, set, input, print, put, make, become, release, drop, own, unpack, build, swap, open_into, adopt, Form, simple, call, choose, loop, switch, focus, scope, return, jump, Mode, up_to, Entry, Func, Program}
use Rattle.vlt_core.specs.Lookups.{first_state, Reference, reference_of, guarded_of, variant_of, case_keys, is_owning_var, owning_vars, owning_states, permitted_in, release_set, after_set, is_held_before, is_held_after, is_new, is_given_back, states_or_all, key_states_up_to}
use Rattle.vlt_core.specs.Maps.{Wanted, wants_absent, wants_held, wants_in, wants_lent, wants_full, After, becomes_absent, becomes_held, stays, becomes_full, becomes_lent, comes_back, Row, is_tok, away_row}

-- ---- rows on references and variables

abbrev pub row : Tok → Wanted → After → Row
row t w a = record { tok = t; wanted = w; after = a }

-- the row of a step on a reference's key, none for a variable that isn't such a reference
abbrev pub on_key : Option Reference → (Reference → Row) → List Row
on_key None make_row = []
on_key (Some r) make_row = make_row r ∷ []

-- a row on the key of a tracked variable
abbrev pub key_row : Func → (x : ℕ) → Wanted → After → List Row
key_row f x w a = on_key (reference_of f x) (λ r. row (a_key r.key) w a)

-- the key of a tracked variable, in a state of its type's release set, is gone
abbrev pub end_row : Program → Func → (x : ℕ) → List Row
end_row p f x = on_key (reference_of f x) (λ r. row (a_key r.key) (wants_in (release_set p r.type)) becomes_absent)

abbrev pub empty_row : (v : ℕ) → Row
empty_row v = row (a_var v) wants_full becomes_absent

-- the owning ones of these variables are filled
abbrev pub fill_rows : Func → List ℕ → List Row
fill_rows f vs = map (λ v. row (a_var v) wants_absent becomes_full) (filter (is_owning_var f) vs)

abbrev pub on_option : {A : Type 0} → Option A → (A → List Row) → List Row
on_option None go = []
on_option (Some a) go = go a

-- ---- expressions and operands

-- A touch of a field: the key is held in a state that the field permits; after a guard, the guard is held.
abbrev pub touch_rows : Program → Func → (x position : ℕ) → List Row
touch_rows p f x i =
    on_key (reference_of f x) (λ r. row (a_key r.key) (wants_in (permitted_in p r.type i)) stays) ++
    on_key (guarded_of f x) (λ r. row (a_key r.key) wants_held stays)

-- the fields that an expression reads, from the left, those that it may not come to as well
abbrev pub expr_rows : Program → Func → Expr → List Row
expr_rows p f (field x i) = touch_rows p f x i
expr_rows p f (unary op a) = expr_rows p f a
expr_rows p f (binary op a b) = expr_rows p f a ++ expr_rows p f b
expr_rows p f _ = []

abbrev pub operand_rows : Program → Func → Operand → List Row
operand_rows p f (pure e) = expr_rows p f e
operand_rows p f (move v) = empty_row v ∷ []
operand_rows p f (pack x states) = key_row f x (wants_in states) becomes_absent

abbrev pub operands_rows : Program → Func → List Operand → List Row
operands_rows p f = flat_map (operand_rows p f)

-- ---- calls

abbrev pub held_in : Option States → Wanted
held_in None = wants_held
held_in (Some states) = wants_in states

abbrev pub entry_wanted : Entry → Wanted
entry_wanted e = if is_held_before e then held_in e.before else wants_absent

abbrev pub entry_after : Program → Func → (k : ℕ) → Entry → After
entry_after p f k e = if is_held_after e then becomes_held (states_or_all p f k e.after) else becomes_absent

-- the row of a clause's entry at a call, where `k` stands for its key
abbrev pub entry_row : Program → Func → (k : ℕ) → Entry → Row
entry_row p f k e = row (a_key k) (entry_wanted e) (entry_after p f k e)

-- a bound entry's key keeps its state, which is one up to the bound
abbrev pub called_row : Program → Func → (k : ℕ) → Entry → Row
called_row p f k e = of_mode e.mode
  where
    of_mode : Mode → Row
    of_mode (up_to b) = row (a_key k) (wants_in (key_states_up_to p f k b)) stays
    of_mode m = entry_row p f k e

-- the rows of the callee's clause; `keys` has the caller's key for each key of the callee's head
abbrev pub clause_rows : Program → Func → (keys : List ℕ) → List Entry → List Row
clause_rows p f keys [] = []
clause_rows p f keys (e ∷ es) = on_option (slice_get keys e.key) (λ k. entry_row p f k e ∷ []) ++ clause_rows p f keys es

abbrev pub called_rows : Program → Func → (keys : List ℕ) → List Entry → List Row
called_rows p f keys [] = []
called_rows p f keys (e ∷ es) = on_option (slice_get keys e.key) (λ k. called_row p f k e ∷ []) ++ called_rows p f keys es

abbrev pub target_rows : Func → Option ℕ → List Row
target_rows f target = on_option target (λ v. fill_rows f (v ∷ []))

-- ---- returns

-- the tokens of a function, keys first
abbrev pub tokens_of : Func → List Tok
tokens_of f = map a_key (range_with_len 0 (length f.keys)) ++ map a_var (owning_vars f)

-- The key of the variable that a function returns stands for a `new` key.
abbrev pub returned_row : Program → Func → Option Operand → Entry → List Row
returned_row p f (Some (pure (var x))) e = key_row f x (wants_in (after_set p f e)) becomes_absent
returned_row p f _ e = []

abbrev pub new_rows : Program → Func → Option Operand → List Row
new_rows p f value = flat_map (returned_row p f value) (filter is_new f.clause)

-- the keys that the clause has after the call
abbrev pub given_back_rows : Program → Func → List Row
given_back_rows p f =
    map (λ e. row (a_key e.key) (wants_in (after_set p f e)) becomes_absent) (filter is_given_back f.clause)

-- after these, each token of the function is absent
abbrev pub return_rows : Program → Func → Option Operand → List Row
return_rows p f value =
    on_option value (operand_rows p f) ++ new_rows p f value ++ given_back_rows p f ++ map away_row (tokens_of f)

-- ---- statements

abbrev pub simple_rows : Program → Func → Simple → List Row
simple_rows p f (set v e) = expr_rows p f e
simple_rows p f (input v more) = []
simple_rows p f (print e) = expr_rows p f e
simple_rows p f (put x i e) = expr_rows p f e ++ touch_rows p f x i
simple_rows p f (make x args) = operands_rows p f args ++ key_row f x wants_absent (becomes_held (λ s. s == first_state))
simple_rows p f (become x state) = key_row f x wants_held (becomes_held (λ s. s == state))
simple_rows p f (release x) = end_row p f x
simple_rows p f (drop v) = empty_row v ∷ []
simple_rows p f (own v value) = operand_rows p f value ++ fill_rows f (v ∷ [])
simple_rows p f (unpack x v) =
    empty_row v ∷ on_option (owning_states f v) (λ states. key_row f x wants_absent (becomes_held states))
simple_rows p f (build v case args) =
    operands_rows p f args ++
    on_option (variant_of f v) (λ t. map (λ k. row (a_key k.key) (wants_in k.states) becomes_absent) (case_keys p t case)) ++
    fill_rows f (v ∷ [])
simple_rows p f (swap x i v) = touch_rows p f x i ++ row (a_var v) wants_full becomes_full ∷ []
simple_rows p f (open_into x vs) = end_row p f x ++ fill_rows f vs
simple_rows p f (adopt y x r) = end_row p f x ++ key_row f r wants_held stays

-- these tokens, keys first, each kind in ascending order
abbrev pub in_order : Func → List Tok → List Tok
in_order f ts = filter (λ t. list_any (is_tok t) ts) (tokens_of f)

-- The rows of a statement itself; of one with blocks those before them. A jump wants the tokens of the scopes that it
-- leaves, `left`, to be absent.
abbrev pub rows_of : Program → Func → (left : List Tok) → Form → List Row
rows_of p f left (simple s) = simple_rows p f s
rows_of p f left (call g target keys args) =
    operands_rows p f args ++ on_option (slice_get p.fns g) (λ h. called_rows p f keys h.clause) ++ target_rows f target
rows_of p f left (choose e a b) = expr_rows p f e
rows_of p f left (loop e b) = expr_rows p f e
rows_of p f left (switch v arms end) = if is_owning_var f v then empty_row v ∷ [] else []
rows_of p f left (focus y z b) =
    on_key (guarded_of f y) (λ g. row (a_key g.key) wants_held becomes_lent) ++
    on_key (reference_of f z) (λ r. row (a_key r.key) wants_absent (becomes_held (release_set p r.type)))
rows_of p f left (scope b) = []
rows_of p f left (return value) = return_rows p f value
rows_of p f left (jump continues) = map away_row (in_order f left)

-- the rows of an arm, before its block
abbrev pub arm_rows : Program → Func → (v case : ℕ) → (vs : List ℕ) → List Row
arm_rows p f v case vs =
    on_option (variant_of f v) (λ t. map (λ k. row (a_key k.key) wants_absent (becomes_held k.states)) (case_keys p t case)) ++
    fill_rows f vs

-- the rows of a focus's end, after those of its block's end
abbrev pub focus_end_rows : Program → Func → (y z : ℕ) → List Row
focus_end_rows p f y z =
    end_row p f z ++ on_key (guarded_of f y) (λ g. row (a_key g.key) wants_lent comes_back)
