-- The automaton within wider bounds does what it does within those of the language, and goes on where a limit is exceeded that is wide
-- enough.
use Rattle.std.proofs.Common.{◌≡◌, ℕ, zero, suc, ◌+◌, ◌-◌, ◌<◌, ◌≤◌, max, Bool, true, false, nat_lt, ◌&&◌, ◌==◌, if◌then◌else◌, List, [], ◌∷◌, ◌++◌, map, Option, Some, None, refl, sym, ap, subst, ◌∙◌, arith}
use Rattle.std.proofs.lemmas.Bool.Decides.{nat_tests}
use Rattle.std.specs.List.{list_all}
use Rattle.std.specs.Prelude.{slice_index_or}
use Rattle.vlt_ops.specs.declared.Op.{Op}
use Rattle.vlt_tokens.specs.declared.token.Word.TheVariants as word
use Rattle.vlt_tokens.specs.declared.token.Mark.{Mark}
use Rattle.vlt_tokens.specs.declared.token.Mark.TheVariants as mark
use Rattle.vlt_syntax.specs.Tokens as t
use Rattle.vlt_syntax.specs.Tokens.{Token}
use Rattle.vlt_syntax.specs.Spelling.{operator_of}
use Rattle.vlt_syntax.specs.Grammar.{Bounds, level, language}
use Rattle.vlt_syntax.specs.Refusals.{bound_of}
use Rattle.vlt_automaton.specs.Automaton.{after_fields, or_else, start_simple, start_result_type, react_after_fields, Left, Thing, a_name, a_param, a_ty, a_key, a_case, a_parameter, an_entry, an_expr, an_init, a_result_type, a_simple, a_stmt, a_decl, Pending, level_from, right_of, prefixed, Symbol, tick, sign, keyword, thing, further, listed, enclosed, marked_name, states, at_states, named, after_tracked, after_type_name, operand, following_name, operations, close_group, end_expr, owner, right, after_right_name, returned, block, stmts, after_stmt_name, otherwise, following_else, arm, arms, entry_states, after_entry_at, arrow_states, clause, head, further_states, fields, decls, Reaction, take, skip, refuse, exceed, with_after, is_sign, is_keyword, is_name, is_tick, start_name, start_tick, start_states, start_key, start_ty, react_tracked, react_type_name, after_operand, after_variable, whole_depth, if_deeper, start_operand, climb, climb_by, react_operations, whole_expr, start_expr, start_build, start_right, react_right_name, react_returned, enter, declaration_tail, start_stmt, react_stmt_name, start_block, start_arm, start_head, head_rest, start_entry, start_decl, within_count, start_thing, less, one_more, one_more_state, reaction, Next, to, unexpected, over, depth_read, reaction_after, next_after, step_after, following_if, parameters_left, lowest}
use Rattle.vlt_syntax_laws.proofs.Wider.{wider}
use Rattle.vlt_syntax_laws.proofs.After.{IsTo}

-- ---- a stack within wider bounds

abbrev lift_left : Bounds → Left → Left
lift_left e l = record { limit = l.limit; more = l.more + bound_of l.limit e }

-- where one is taken before it is tested that there is one
abbrev lift_first : Bounds → Left → Left
lift_first e l = record { limit = l.limit; more = suc (l.more - 1) + bound_of l.limit e }

abbrev on_left : (Left → Left) → Option Left → Option Left
on_left f None = None
on_left f (Some l) = Some (f l)

abbrev lift_pending : Bounds → List Pending → List Pending
lift_pending e [] = []
lift_pending e (level_from least room ∷ fs) = level_from least (room + e.depth) ∷ lift_pending e fs
lift_pending e (right_of least room depth ∷ fs) = right_of least (room + e.depth) depth ∷ lift_pending e fs
lift_pending e (prefixed ∷ fs) = prefixed ∷ lift_pending e fs

abbrev lift_thing : Bounds → Thing → Thing
lift_thing e (a_stmt room) = a_stmt (room + e.depth)
lift_thing e a_name = a_name
lift_thing e a_param = a_param
lift_thing e a_ty = a_ty
lift_thing e a_key = a_key
lift_thing e a_case = a_case
lift_thing e a_parameter = a_parameter
lift_thing e an_entry = an_entry
lift_thing e an_expr = an_expr
lift_thing e an_init = an_init
lift_thing e a_result_type = a_result_type
lift_thing e a_simple = a_simple
lift_thing e a_decl = a_decl

abbrev lift_room : Bounds → ℕ → ℕ
lift_room e room = suc (room - 1) + e.depth

abbrev pub lift : Bounds → Symbol → Symbol
lift e (thing k) = thing (lift_thing e k)
lift e (further k m left) = further (lift_thing e k) m (on_left (lift_left e) left)
lift e (listed k m left) = listed (lift_thing e k) m (on_left (lift_first e) left)
lift e (enclosed k o m left) = enclosed (lift_thing e k) o m (on_left (lift_first e) left)
lift e (operand room fs) = operand (room + e.depth) (lift_pending e fs)
lift e (following_name d fs) = following_name d (lift_pending e fs)
lift e (operations d fs) = operations d (lift_pending e fs)
lift e (close_group fs) = close_group (lift_pending e fs)
lift e (block room) = block (lift_room e room)
lift e (stmts room) = stmts (room + e.depth)
lift e (otherwise room) = otherwise (lift_room e room)
lift e (following_else room) = following_else (lift_room e room)
lift e (arm room) = arm (lift_room e room)
lift e (arms room) = arms (lift_room e room)
lift e (further_states left) = further_states (lift_left e left)
lift e (fields left) = fields (lift_left e left)
lift e (decls left) = decls (lift_left e left)
lift e tick = tick
lift e (sign m) = sign m
lift e (keyword w) = keyword w
lift e (marked_name m) = marked_name m
lift e states = states
lift e at_states = at_states
lift e named = named
lift e after_tracked = after_tracked
lift e after_type_name = after_type_name
lift e end_expr = end_expr
lift e owner = owner
lift e right = right
lift e after_right_name = after_right_name
lift e returned = returned
lift e after_stmt_name = after_stmt_name
lift e entry_states = entry_states
lift e after_entry_at = after_entry_at
lift e arrow_states = arrow_states
lift e clause = clause
lift e head = head
lift e after_fields = after_fields

abbrev pub lifts : Bounds → List Symbol → List Symbol
lifts e = map (lift e)

-- ---- what of a stack is of a limit that bounds trees

abbrev pub is_limit : ℕ → Bool
is_limit n = slice_index_or (false ∷ false ∷ false ∷ false ∷ true ∷ true ∷ true ∷ true ∷ true ∷ true ∷ false ∷ false ∷ true ∷ []) n false

abbrev is_left : Option Left → Bool
is_left None = true
is_left (Some left) = is_limit left.limit

abbrev pub is_good : Symbol → Bool
is_good (further k closing left) = is_left left
is_good (listed k closing left) = is_left left
is_good (enclosed k opening closing left) = is_left left
is_good (further_states left) = is_limit left.limit
is_good (fields left) = is_limit left.limit
is_good (decls left) = is_limit left.limit
is_good _ = true

abbrev pub IsTaken : Reaction → Type 0
IsTaken (take xs) = Unit {0}
IsTaken skip = ⊥
IsTaken refuse = ⊥
IsTaken (exceed n) = ⊥

-- what becomes of a reaction where the bounds are wider, and where one that was exceeded is wider by more than `n`
abbrev pub Lifted : ℕ → Bounds → Reaction → Reaction → Type 0
Lifted n e (take xs) r = (r ≡ take (lifts e xs)) × (list_all is_good xs ≡ true)
Lifted n e skip r = r ≡ skip
Lifted n e refuse r = r ≡ refuse
Lifted n e (exceed k) r = (is_limit k ≡ true) × (bound_of k e ≡ 0 → r ≡ exceed k) × (n < bound_of k e → IsTaken r)

-- ---- how reactions are put together

both : (a b : Bool) → a ≡ true → b ≡ true → (a && b) ≡ true
both a b is_a is_b = rw is_a is_b

all_good : (xs ys : List Symbol) → list_all is_good xs ≡ true → list_all is_good ys ≡ true → list_all is_good (xs ++ ys) ≡ true
all_good [] ys p q = q
all_good (x ∷ xs) ys p q = both_on (is_good x) (list_all is_good xs) (list_all is_good (xs ++ ys)) p (λ r. all_good xs ys r q) where
  both_on : (a b c : Bool) → (a && b) ≡ true → (b ≡ true → c ≡ true) → (a && c) ≡ true
  both_on true b c p more = more p
  both_on false b c p more = p

lifts_append : (e : Bounds) (xs ys : List Symbol) → lifts e (xs ++ ys) ≡ lifts e xs ++ lifts e ys
lifts_append e [] ys = refl
lifts_append e (x ∷ xs) ys = ap (λ zs. lift e x ∷ zs) (lifts_append e xs ys)

either : (n : ℕ) (e : Bounds) (b : Bool) (x y z w : Reaction) → Lifted n e x z → Lifted n e y w → Lifted n e (if b then x else y) (if b then z else w)
either n e true x y z w p q = p
either n e false x y z w p q = q

taken_then : (r : Reaction) (ys : List Symbol) → IsTaken r → IsTaken (with_after r ys)
taken_then (take xs) ys h = tt
taken_then skip ys h = absurd h
taken_then refuse ys h = absurd h
taken_then (exceed n) ys h = absurd h

then_lifted : (n : ℕ) (e : Bounds) (r z : Reaction) (ys zs : List Symbol) → Lifted n e r z → zs ≡ lifts e ys → list_all is_good ys ≡ true → Lifted n e (with_after r ys) (with_after z zs)
then_lifted n e (take xs) z ys zs p same q = (ap (λ r. with_after r zs) p.0 ∙ ap (λ us. take (lifts e xs ++ us)) same ∙ ap take (sym (lifts_append e xs ys)), all_good xs ys p.1 q)
then_lifted n e skip z ys zs p same q = ap (λ r. with_after r zs) p
then_lifted n e refuse z ys zs p same q = ap (λ r. with_after r zs) p
then_lifted n e (exceed k) z ys zs p same q = (p.0, λ none. ap (λ r. with_after r zs) (p.1 none), λ wide. taken_then z zs (p.2 wide))

either_lifted : (n : ℕ) (e : Bounds) (r z other more : Reaction) → Lifted n e r z → Lifted n e other more → Lifted n e (or_else r other) (or_else z more)
either_lifted n e (take xs) z other more p q = (ap (λ r. or_else r more) p.0, p.1)
either_lifted n e skip z other more p q = ap (λ r. or_else r more) p
either_lifted n e refuse z other more p q = subst (λ r. Lifted n e other (or_else r more)) (sym p) q
either_lifted n e (exceed k) z other more p q = (p.0, λ none. ap (λ r. or_else r more) (p.1 none), λ wide. taken_first z (p.2 wide)) where
  taken_first : (r : Reaction) → IsTaken r → IsTaken (or_else r more)
  taken_first (take xs) h = tt
  taken_first skip h = absurd h
  taken_first refuse h = absurd h
  taken_first (exceed n) h = absurd h

-- ---- where a limit is tested

less_more : (more extra : ℕ) → (more == 0) ≡ false → (more + extra) - 1 ≡ (more - 1) + extra
less_more more extra e = let some : 1 ≤ more = grind (arith, nat_tests) in omega arith

still_some : (more extra : ℕ) → (more == 0) ≡ false → (more + extra == 0) ≡ false
still_some more extra e = let some : 1 ≤ more = grind (arith, nat_tests) in grind (arith, nat_tests)

still_none : (more extra : ℕ) → (more == 0) ≡ true → extra ≡ 0 → (more + extra == 0) ≡ true
still_none more extra e none = grind (arith, nat_tests)

some_now : (n more extra : ℕ) → n < extra → (more + extra == 0) ≡ false
some_now n more extra wide = let some : 1 ≤ extra = omega arith in grind (arith, nat_tests)

left_lifted : (n : ℕ) (e : Bounds) (l : Left) (xs zs : List Symbol) → is_limit l.limit ≡ true → ((l.more == 0) ≡ false → zs ≡ lifts e xs) → list_all is_good xs ≡ true
    → Lifted n e (if l.more == 0 then exceed l.limit else take xs) (if l.more + bound_of l.limit e == 0 then exceed l.limit else take zs)
left_lifted n e l xs zs limit same good = by (l.more == 0) refl where
  by : (b : Bool) → (l.more == 0) ≡ b → Lifted n e (if b then exceed l.limit else take xs) (if l.more + bound_of l.limit e == 0 then exceed l.limit else take zs)
  by true is = (limit, λ none. rw (still_none l.more (bound_of l.limit e) is none) refl, λ wide. rw (some_now n l.more (bound_of l.limit e) wide) tt)
  by false is = (rw (still_some l.more (bound_of l.limit e) is) (ap take (same is)), good)

-- the reaction exceeds no limit
abbrev NoExceed : Reaction → Type 0
NoExceed (take xs) = Unit {0}
NoExceed skip = Unit {0}
NoExceed refuse = Unit {0}
NoExceed (exceed n) = ⊥

counted_lifted : (n : ℕ) (e : Bounds) (l : Left) (r z : Reaction) (rest more : Left → List Symbol) → NoExceed r → is_limit l.limit ≡ true → Lifted n e r z
    → ((k : Left) → k.limit ≡ l.limit → more (lift_left e k) ≡ lifts e (rest k)) → ((k : Left) → is_limit k.limit ≡ true → list_all is_good (rest k) ≡ true)
    → Lifted n e (within_count l r rest) (within_count (lift_left e l) z more)
counted_lifted n e l (take xs) z rest more never limit p same good =
    subst (λ r. Lifted n e (within_count l (take xs) rest) (within_count (lift_left e l) r more)) (sym p.0)
    (left_lifted n e l (xs ++ rest (record { limit = l.limit; more = l.more - 1 })) (lifts e xs ++ more (record { limit = l.limit; more = (l.more + bound_of l.limit e) - 1 })) limit
    (λ some. ap (λ k. lifts e xs ++ more (record { limit = l.limit; more = k })) (less_more l.more (bound_of l.limit e) some)
    ∙ ap (λ ys. lifts e xs ++ ys) (same (record { limit = l.limit; more = l.more - 1 }) refl) ∙ sym (lifts_append e xs _))
    (all_good xs _ p.1 (good (record { limit = l.limit; more = l.more - 1 }) limit)))
counted_lifted n e l skip z rest more never limit p same good = ap (λ r. within_count (lift_left e l) r more) p
counted_lifted n e l refuse z rest more never limit p same good = ap (λ r. within_count (lift_left e l) r more) p
counted_lifted n e l (exceed k) z rest more never limit p same good = absurd never

enter_some : (room : ℕ) (xs : List Symbol) → 1 ≤ room → enter room xs ≡ take xs
enter_some zero xs h = absurd (omega arith)
enter_some (suc room) xs h = refl

enter_none : (room : ℕ) (xs : List Symbol) → room ≡ 0 → enter room xs ≡ exceed 12
enter_none zero xs h = refl
enter_none (suc room) xs h = absurd (omega arith)

enter_lifted : (n : ℕ) (e : Bounds) (room wide : ℕ) (xs zs : List Symbol) → wide ≡ room + e.depth → (1 ≤ room → zs ≡ lifts e xs) → list_all is_good xs ≡ true → Lifted n e (enter room xs) (enter wide zs)
enter_lifted n e zero wide xs zs is same good = (refl, λ none. enter_none wide zs (omega arith), λ w. subst IsTaken (sym (enter_some wide zs (omega arith))) tt)
enter_lifted n e (suc room) wide xs zs is same good = (enter_some wide zs (omega arith) ∙ ap take (same (omega arith)), good)

deeper_lifted : (n : ℕ) (e : Bounds) (depth room : ℕ) (xs zs : List Symbol) → depth ≤ n → ((room + e.depth) - 1 ≡ (room - 1) + e.depth → zs ≡ lifts e xs) → list_all is_good xs ≡ true
    → Lifted n e (if_deeper depth room xs) (if_deeper depth (room + e.depth) zs)
deeper_lifted n e depth room xs zs few same good = by (nat_lt depth room) refl where
  by : (b : Bool) → nat_lt depth room ≡ b → Lifted n e (if b then take xs else exceed 12) (if_deeper depth (room + e.depth) zs)
  by true is =
      let less : depth < room = grind (arith, nat_tests) in
      let still : nat_lt depth (room + e.depth) ≡ true = grind (arith, nat_tests) in
      (rw still (ap take (same (omega arith))), good)
  by false is = (
    refl,
    λ none. let still : nat_lt depth (room + e.depth) ≡ false = grind (arith, nat_tests) in rw still refl,
    λ wide. let now : nat_lt depth (room + e.depth) ≡ true = grind (arith, nat_tests) in rw now tt,
  )

-- ---- names and types

-- a reaction that has nothing of a bound in it
abbrev Same : ℕ → Bounds → Reaction → Type 0
Same n e r = Lifted n e r r

name_lifted : (n : ℕ) (e : Bounds) (x : Token) → Same n e (start_name x)
name_lifted n e x = either n e (is_name x) _ _ _ _ (refl, refl) refl

tick_lifted : (n : ℕ) (e : Bounds) (x : Token) → Same n e (start_tick x)
tick_lifted n e x = either n e (is_tick x) _ _ _ _ (refl, refl) refl

states_lifted : (n : ℕ) (e : Bounds) (x : Token) → Same n e (start_states x)
states_lifted n e x = either n e (is_sign mark.OpenBrace x) _ _ _ _ (refl, refl) (name_lifted n e x)

key_lifted : (n : ℕ) (e : Bounds) (x : Token) → Same n e (start_key x)
key_lifted n e x = then_lifted n e (start_name x) _ _ _ (name_lifted n e x) refl refl

ty_lifted : (n : ℕ) (e : Bounds) (x : Token) → Same n e (start_ty x)
ty_lifted n e (t.keyword word.Int) = (refl, refl)
ty_lifted n e (t.keyword word.Bool) = (refl, refl)
ty_lifted n e (t.keyword word.Tracked) = (refl, refl)
ty_lifted n e (t.name text) = (refl, refl)
ty_lifted n e _ = refl

tracked_lifted : (n : ℕ) (e : Bounds) (x : Token) → Same n e (react_tracked x)
tracked_lifted n e x =
    either n e (is_sign mark.OpenParen x) _ _ _ _ (refl, refl)
    (either n e (is_sign mark.At x) _ _ _ _ (refl, refl) (then_lifted n e (start_name x) _ _ _ (name_lifted n e x) refl refl))

type_name_lifted : (n : ℕ) (e : Bounds) (x : Token) → Same n e (react_type_name x)
type_name_lifted n e x = either n e (is_sign mark.Colon x) _ _ _ _ (refl, refl) (either n e (is_sign mark.Less x) _ _ _ _ (refl, refl) refl)

-- ---- expressions

pub whole_lifted : (e : Bounds) (d : ℕ) (fs : List Pending) → whole_depth d (lift_pending e fs) ≡ whole_depth d fs
whole_lifted e d [] = refl
whole_lifted e d (prefixed ∷ fs) = whole_lifted e (suc d) fs
whole_lifted e d (level_from least room ∷ fs) = whole_lifted e d fs
whole_lifted e d (right_of least room left ∷ fs) = whole_lifted e (suc (max left d)) fs

whole_more : (d : ℕ) (fs : List Pending) → d ≤ whole_depth d fs
whole_more d [] = omega arith
whole_more d (prefixed ∷ fs) = let more = whole_more (suc d) fs in omega arith
whole_more d (level_from least room ∷ fs) = whole_more d fs
whole_more d (right_of least room left ∷ fs) = let more = whole_more (suc (max left d)) fs in omega arith

operand_lifted : (e : Bounds) (d : ℕ) (fs : List Pending) → after_operand d (lift_pending e fs) ≡ lift e (after_operand d fs)
operand_lifted e d [] = refl
operand_lifted e d (prefixed ∷ fs) = operand_lifted e (suc d) fs
operand_lifted e d (level_from least room ∷ fs) = refl
operand_lifted e d (right_of least room left ∷ fs) = refl

operand_good : (d : ℕ) (fs : List Pending) → is_good (after_operand d fs) ≡ true
operand_good d [] = refl
operand_good d (prefixed ∷ fs) = operand_good (suc d) fs
operand_good d (level_from least room ∷ fs) = refl
operand_good d (right_of least room left ∷ fs) = refl

variable_lifted : (e : Bounds) (d : ℕ) (fs : List Pending) → after_variable d (lift_pending e fs) ≡ lift e (after_variable d fs)
variable_lifted e d [] = refl
variable_lifted e d (prefixed ∷ fs) = variable_lifted e (suc d) fs
variable_lifted e d (level_from least room ∷ fs) = refl
variable_lifted e d (right_of least room left ∷ fs) = refl

variable_good : (d : ℕ) (fs : List Pending) → is_good (after_variable d fs) ≡ true
variable_good d [] = refl
variable_good d (prefixed ∷ fs) = variable_good (suc d) fs
variable_good d (level_from least room ∷ fs) = refl
variable_good d (right_of least room left ∷ fs) = refl

one_symbol : (e : Bounds) (y z : Symbol) → z ≡ lift e y → is_good y ≡ true → (take (z ∷ []) ≡ take (lifts e (y ∷ []))) × (list_all is_good (y ∷ []) ≡ true)
one_symbol e y z same good = (ap (λ x. take (x ∷ [])) same, both _ true good refl)

start_lifted : (n room : ℕ) (e : Bounds) (fs : List Pending) (x : Token) → 1 ≤ n → Lifted n e (start_operand room fs x) (start_operand (room + e.depth) (lift_pending e fs) x)
start_lifted n room e fs (t.number z) h = one_symbol e _ _ (operand_lifted e 1 fs) (operand_good 1 fs)
start_lifted n room e fs (t.keyword word.True) h = one_symbol e _ _ (operand_lifted e 1 fs) (operand_good 1 fs)
start_lifted n room e fs (t.keyword word.False) h = one_symbol e _ _ (operand_lifted e 1 fs) (operand_good 1 fs)
start_lifted n room e fs (t.name text) h = one_symbol e _ _ (variable_lifted e 1 fs) (variable_good 1 fs)
start_lifted n room e fs (t.sign mark.OpenParen) h =
    deeper_lifted n e 1 room _ _ h (λ less. ap (λ q. operand q (level_from lowest q ∷ []) ∷ close_group (lift_pending e fs) ∷ []) less) refl
start_lifted n room e fs (t.sign mark.Minus) h = deeper_lifted n e 1 room _ _ h (λ less. ap (λ q. operand q (prefixed ∷ lift_pending e fs) ∷ []) less) refl
start_lifted n room e fs (t.sign mark.Not) h = deeper_lifted n e 1 room _ _ h (λ less. ap (λ q. operand q (prefixed ∷ lift_pending e fs) ∷ []) less) refl
start_lifted n room e fs _ h = refl

climb_lifted : (n l d : ℕ) (e : Bounds) (fs : List Pending) → whole_depth d fs ≤ n → Lifted n e (climb l d fs) (climb l d (lift_pending e fs))
climb_lifted n l d e [] h = refl
climb_lifted n l d e (prefixed ∷ fs) h = climb_lifted n l (suc d) e fs h
climb_lifted n l d e (level_from least room ∷ fs) h =
    either n e (nat_lt l least) _ _ _ _ (climb_lifted n l d e fs h)
    (deeper_lifted n e d room _ _ (let more = whole_more d fs in omega arith)
    (λ less. ap (λ q. operand q (level_from (suc l) q ∷ right_of least (room + e.depth) d ∷ lift_pending e fs) ∷ []) less) refl)
climb_lifted n l d e (right_of least room left ∷ fs) h =
    either n e (nat_lt l least) _ _ _ _ (climb_lifted n l (suc (max left d)) e fs h)
    (deeper_lifted n e (suc (max left d)) room _ _ (let more = whole_more (suc (max left d)) fs in omega arith)
    (λ less. ap (λ q. operand q (level_from (suc l) q ∷ right_of least (room + e.depth) (suc (max left d)) ∷ lift_pending e fs) ∷ []) less) refl)

climb_by_lifted : (n d : ℕ) (e : Bounds) (o : Option Op) (fs : List Pending) → whole_depth d fs ≤ n → Lifted n e (climb_by o d fs) (climb_by o d (lift_pending e fs))
climb_by_lifted n d e None fs h = refl
climb_by_lifted n d e (Some o) fs h = climb_lifted n (level o) d e fs h

operations_lifted : (n d : ℕ) (e : Bounds) (fs : List Pending) (x : Token) → whole_depth d fs ≤ n → Lifted n e (react_operations d fs x) (react_operations d (lift_pending e fs) x)
operations_lifted n d e fs (t.sign m) h = climb_by_lifted n d e (operator_of m) fs h
operations_lifted n d e fs (t.name text) h = refl
operations_lifted n d e fs (t.tick text) h = refl
operations_lifted n d e fs (t.number z) h = refl
operations_lifted n d e fs (t.keyword w) h = refl

expr_lifted : (n : ℕ) (e : Bounds) (x : Token) → 1 ≤ n → Lifted n e (start_expr language x) (start_expr (wider e) x)
expr_lifted n e x h = then_lifted n e (start_operand language.depth (whole_expr language) x) _ _ _ (start_lifted n language.depth e (whole_expr language) x h) refl refl

-- ---- right sides

build_lifted : (n : ℕ) (e : Bounds) (x : Token) → Same n e (start_build x)
build_lifted n e x = then_lifted n e (start_tick x) _ _ _ (tick_lifted n e x) refl refl

right_lifted : (n : ℕ) (e : Bounds) (x : Token) → 1 ≤ n → Lifted n e (start_right language x) (start_right (wider e) x)
right_lifted n e (t.keyword word.Input) h = (refl, refl)
right_lifted n e (t.keyword word.More) h = (refl, refl)
right_lifted n e (t.keyword word.New) h = (refl, refl)
right_lifted n e (t.keyword word.Adopt) h = (refl, refl)
right_lifted n e (t.tick text) h = (refl, refl)
right_lifted n e (t.name text) h = (refl, refl)
right_lifted n e x h = expr_lifted n e x h

right_name_lifted : (n : ℕ) (e : Bounds) (x : Token) → 1 ≤ n → Lifted n e (react_right_name language x) (react_right_name (wider e) x)
right_name_lifted n e x h =
    either n e (is_sign mark.OpenParen x) _ _ _ _ (refl, refl)
    (either n e (is_sign mark.Dot x) _ _ _ _ (refl, refl)
    (then_lifted n e (react_operations 1 (whole_expr language) x) _ _ _ (operations_lifted n 1 e (whole_expr language) x h) refl refl))

returned_lifted : (n : ℕ) (e : Bounds) (x : Token) → 1 ≤ n → Lifted n e (react_returned language x) (react_returned (wider e) x)
returned_lifted n e x h =
    either n e (is_sign mark.Semicolon x) _ _ _ _ refl (either n e (is_tick x) _ _ _ _ (build_lifted n e x) (expr_lifted n e x h))

-- ---- statements

simple_lifted : (n : ℕ) (e : Bounds) (x : Token) → Same n e (start_simple x)
simple_lifted n e (t.keyword word.Print) = (refl, refl)
simple_lifted n e (t.keyword word.Return) = (refl, refl)
simple_lifted n e (t.keyword word.Break) = (refl, refl)
simple_lifted n e (t.keyword word.Continue) = (refl, refl)
simple_lifted n e (t.keyword word.Release) = (refl, refl)
simple_lifted n e (t.keyword word.Become) = (refl, refl)
simple_lifted n e (t.keyword word.Swap) = (refl, refl)
simple_lifted n e (t.keyword word.Open) = (refl, refl)
simple_lifted n e (t.name text) = (refl, refl)
simple_lifted n e x = then_lifted n e (start_ty x) _ declaration_tail _ (ty_lifted n e x) refl refl

room_some : (room extra : ℕ) → 1 ≤ room → suc (room - 1) + extra ≡ room + extra
room_some room extra h = omega arith

stmt_lifted : (n room : ℕ) (e : Bounds) (x : Token) → Lifted n e (start_stmt room x) (start_stmt (room + e.depth) x)
stmt_lifted n room e (t.sign mark.OpenBrace) =
    enter_lifted n e room (room + e.depth) _ _ refl (λ h. ap (λ q. stmts q ∷ []) (let same : (room + e.depth) - 1 ≡ (room - 1) + e.depth = omega arith in same)) refl
stmt_lifted n room e (t.keyword word.If) = enter_lifted n e room (room + e.depth) _ _ refl (λ h. ap (λ q. following_if q) (sym (room_some room e.depth h))) refl
stmt_lifted n room e (t.keyword word.While) =
    enter_lifted n e room (room + e.depth) _ _ refl (λ h. ap (λ q. sign mark.OpenParen ∷ thing an_expr ∷ sign mark.CloseParen ∷ block q ∷ []) (sym (room_some room e.depth h))) refl
stmt_lifted n room e (t.keyword word.Switch) =
    enter_lifted n e room (room + e.depth) _ _ refl
    (λ h. ap (λ q. sign mark.OpenParen ∷ thing a_name ∷ sign mark.CloseParen ∷ sign mark.OpenBrace ∷ arm q ∷ arms q ∷ []) (sym (room_some room e.depth h))) refl
stmt_lifted n room e (t.keyword word.Focus) =
    enter_lifted n e room (room + e.depth) _ _ refl
    (λ h. ap (λ q. thing a_name ∷ keyword word.As ∷ keyword word.Tracked ∷ sign mark.OpenParen ∷ thing a_name ∷ sign mark.CloseParen ∷ thing a_name ∷ block q ∷ []) (sym (room_some room e.depth h))) refl
stmt_lifted n room e x = simple_lifted n e x

stmt_name_lifted : (n : ℕ) (e : Bounds) (x : Token) → Same n e (react_stmt_name x)
stmt_name_lifted n e (t.sign mark.Assign) = (refl, refl)
stmt_name_lifted n e (t.sign mark.Dot) = (refl, refl)
stmt_name_lifted n e (t.sign mark.OpenParen) = (refl, refl)
stmt_name_lifted n e (t.sign mark.Colon) = (refl, refl)
stmt_name_lifted n e (t.sign mark.Less) = (refl, refl)
stmt_name_lifted n e (t.name text) = (refl, refl)
stmt_name_lifted n e _ = refl

inside_same : (room extra : ℕ) → (suc (room - 1) + extra) - 1 ≡ (room - 1) + extra
inside_same room extra = omega arith

block_lifted : (n room : ℕ) (e : Bounds) (x : Token) → Lifted n e (start_block room x) (start_block (lift_room e room) x)
block_lifted n room e x = either n e (is_sign mark.OpenBrace x) _ _ _ _ (ap (λ q. take (stmts q ∷ [])) (inside_same room e.depth), refl) refl

again : (room extra : ℕ) → suc ((suc (room - 1) + extra) - 1) ≡ suc (room - 1) + extra
again room extra = omega arith

arm_lifted : (n room : ℕ) (e : Bounds) (x : Token) → Lifted n e (start_arm room x) (start_arm (lift_room e room) x)
arm_lifted n room e x = either n e (is_keyword word.Case x) _ _ _ _ (refl, refl) refl

-- ---- declarations

result_type_lifted : (n : ℕ) (e : Bounds) (x : Token) → Same n e (start_result_type x)
result_type_lifted n e x = either n e (is_keyword word.Void x) _ _ _ _ (refl, refl) (ty_lifted n e x)

head_lifted : (n : ℕ) (e : Bounds) (x : Token) → Lifted n e (start_head language x) (start_head (wider e) x)
head_lifted n e x = then_lifted n e (start_result_type x) _ _ _ (result_type_lifted n e x) refl refl

entry_lifted : (n : ℕ) (e : Bounds) (x : Token) → Same n e (start_entry x)
entry_lifted n e (t.sign mark.Minus) = (refl, refl)
entry_lifted n e (t.sign mark.Plus) = (refl, refl)
entry_lifted n e (t.keyword word.New) = (refl, refl)
entry_lifted n e (t.name text) = (refl, refl)
entry_lifted n e _ = refl

abbrev named_with : Mark → Symbol → List Symbol
named_with m y = thing a_name ∷ sign m ∷ y ∷ []

decl_lifted : (n : ℕ) (e : Bounds) (x : Token) → Lifted n e (start_decl language x) (start_decl (wider e) x)
decl_lifted n e (t.keyword word.Stateset) =
    (ap (λ q. take (thing a_name ∷ sign mark.OpenBrace ∷ thing a_name ∷ further_states (record { limit = 5; more = q }) ∷ [])) (let same : (language.states + e.states) - 1 ≡ (language.states - 1) + e.states = omega arith in same), refl)
decl_lifted n e (t.keyword word.Abstract) = (refl, refl)
decl_lifted n e (t.keyword word.Struct) = (refl, refl)
decl_lifted n e (t.keyword word.Variant) =
    (ap (λ q. take (thing a_name ∷ enclosed a_param mark.Less mark.Greater (parameters_left (wider e)) ∷ sign mark.OpenBrace ∷ thing a_case ∷ further a_case mark.CloseBrace (Some (record { limit = 7; more = q })) ∷ [])) (let same : (language.cases + e.cases) - 1 ≡ (language.cases - 1) + e.cases = omega arith in same), refl)
decl_lifted n e (t.keyword word.Extern) = (refl, refl)
decl_lifted n e x = then_lifted n e (start_head language x) _ (block language.depth ∷ []) _ (head_lifted n e x) refl refl

after_fields_lifted : (n : ℕ) (e : Bounds) (x : Token) → Same n e (react_after_fields x)
after_fields_lifted n e x = either n e (is_keyword word.Release x) _ _ _ _ (refl, refl) (either n e (is_sign mark.CloseBrace x) _ _ _ _ (refl, refl) refl)

-- ---- lists

thing_lifted : (n : ℕ) (e : Bounds) (k : Thing) (x : Token) → 1 ≤ n → Lifted n e (start_thing language k x) (start_thing (wider e) (lift_thing e k) x)
thing_lifted n e a_name x h = name_lifted n e x
thing_lifted n e a_param x h = then_lifted n e (start_name x) _ _ _ (name_lifted n e x) refl refl
thing_lifted n e a_ty x h = ty_lifted n e x
thing_lifted n e a_key x h = key_lifted n e x
thing_lifted n e a_case x h = then_lifted n e (start_tick x) _ _ _ (tick_lifted n e x) refl refl
thing_lifted n e a_parameter x h = then_lifted n e (start_ty x) _ _ _ (ty_lifted n e x) refl refl
thing_lifted n e an_entry x h = entry_lifted n e x
thing_lifted n e an_expr x h = expr_lifted n e x h
thing_lifted n e an_init x h = then_lifted n e (start_name x) _ _ _ (name_lifted n e x) refl refl
thing_lifted n e a_result_type x h = result_type_lifted n e x
thing_lifted n e a_simple x h = simple_lifted n e x
thing_lifted n e (a_stmt room) x h = stmt_lifted n room e x
thing_lifted n e a_decl x h = decl_lifted n e x

less_lifted : (e : Bounds) (left : Option Left) → less (on_left (lift_first e) left) ≡ on_left (lift_left e) (less left)
less_lifted e None = refl
less_lifted e (Some l) = ap (λ q. Some (record { limit = l.limit; more = q })) (inside_same l.more (bound_of l.limit e))

less_good : (left : Option Left) → is_left left ≡ true → is_left (less left) ≡ true
less_good None p = refl
less_good (Some left) p = p

one_more_lifted : (n : ℕ) (e : Bounds) (k : Thing) (m : Mark) (left : Option Left) → is_left left ≡ true → Lifted n e (one_more k m left) (one_more (lift_thing e k) m (on_left (lift_left e) left))
one_more_lifted n e k m None p = (refl, refl)
one_more_lifted n e k m (Some l) p =
    left_lifted n e l _ _ p (λ some. ap (λ q. thing (lift_thing e k) ∷ further (lift_thing e k) m (Some (record { limit = l.limit; more = q })) ∷ []) (less_more l.more (bound_of l.limit e) some)) (both _ true p refl)

more_state_lifted : (n : ℕ) (e : Bounds) (l : Left) → is_limit l.limit ≡ true → Lifted n e (one_more_state l) (one_more_state (lift_left e l))
more_state_lifted n e l p =
    left_lifted n e l _ _ p (λ some. ap (λ q. thing a_name ∷ further_states (record { limit = l.limit; more = q }) ∷ []) (less_more l.more (bound_of l.limit e) some)) (both _ true p refl)

ty_stays : (x : Token) → NoExceed (start_ty x)
ty_stays (t.keyword word.Int) = tt
ty_stays (t.keyword word.Bool) = tt
ty_stays (t.keyword word.Tracked) = tt
ty_stays (t.name text) = tt
ty_stays _ = tt

followed_stays : (r : Reaction) (ys : List Symbol) → NoExceed r → NoExceed (with_after r ys)
followed_stays (take xs) ys h = tt
followed_stays skip ys h = tt
followed_stays refuse ys h = tt
followed_stays (exceed n) ys h = absurd h

if_stays : (b : Bool) (r z : Reaction) → NoExceed r → NoExceed z → NoExceed (if b then r else z)
if_stays true r z h i = h
if_stays false r z h i = i

decl_stays : (x : Token) → NoExceed (start_decl language x)
decl_stays (t.keyword word.Stateset) = tt
decl_stays (t.keyword word.Abstract) = tt
decl_stays (t.keyword word.Struct) = tt
decl_stays (t.keyword word.Variant) = tt
decl_stays (t.keyword word.Extern) = tt
decl_stays x =
    followed_stays (start_head language x) (block language.depth ∷ [])
    (followed_stays (start_result_type x) (head_rest language) (if_stays (is_keyword word.Void x) (take []) (start_ty x) tt (ty_stays x)))

-- ---- all symbols

-- how deep is what the symbol has read of an expression
abbrev pub deepness : Symbol → ℕ
deepness (operations d fs) = whole_depth d fs
deepness (following_name d fs) = whole_depth d fs
deepness _ = 1

reaction_lifted : (n : ℕ) (e : Bounds) (y : Symbol) (x : Token) → 1 ≤ n → deepness y ≤ n → is_good y ≡ true → Lifted n e (reaction language y x) (reaction (wider e) (lift e y) x)
reaction_lifted n e tick x one h p = tick_lifted n e x
reaction_lifted n e (sign m) x one h p = either n e (is_sign m x) _ _ _ _ (refl, refl) refl
reaction_lifted n e (keyword w) x one h p = either n e (is_keyword w x) _ _ _ _ (refl, refl) refl
reaction_lifted n e (thing k) x one h p = thing_lifted n e k x one
reaction_lifted n e (further k m left) x one h p =
    either n e (is_sign m x) _ _ _ _ (refl, refl) (either n e (is_sign mark.Comma x) _ _ _ _ (one_more_lifted n e k m left p) refl)
reaction_lifted n e (listed k m left) x one h p =
    either n e (is_sign m x) _ _ _ _ (refl, refl)
    (then_lifted n e (start_thing language k x) _ _ _ (thing_lifted n e k x one) (ap (λ q. further (lift_thing e k) m q ∷ []) (less_lifted e left)) (both _ true (less_good left p) refl))
reaction_lifted n e (enclosed k o m left) x one h p =
    either n e (is_sign o x) _ _ _ _ (ap (λ q. take (thing (lift_thing e k) ∷ further (lift_thing e k) m q ∷ [])) (less_lifted e left), both _ true (less_good left p) refl) refl
reaction_lifted n e (marked_name m) x one h p = either n e (is_sign m x) _ _ _ _ (refl, refl) refl
reaction_lifted n e states x one h p = states_lifted n e x
reaction_lifted n e at_states x one h p = either n e (is_sign mark.At x) _ _ _ _ (refl, refl) refl
reaction_lifted n e named x one h p = then_lifted n e (start_name x) _ _ _ (name_lifted n e x) refl refl
reaction_lifted n e after_tracked x one h p = tracked_lifted n e x
reaction_lifted n e after_type_name x one h p = type_name_lifted n e x
reaction_lifted n e (operand room fs) x one h p = start_lifted n room e fs x one
reaction_lifted n e (following_name d fs) x one h p = either n e (is_sign mark.Dot x) _ _ _ _ (refl, refl) (operations_lifted n d e fs x h)
reaction_lifted n e (operations d fs) x one h p = operations_lifted n d e fs x h
reaction_lifted n e (close_group fs) x one h p = refl
reaction_lifted n e end_expr x one h p = refl
reaction_lifted n e owner x one h p = either n e (is_sign mark.OpenParen x) _ _ _ _ (refl, refl) refl
reaction_lifted n e right x one h p = right_lifted n e x one
reaction_lifted n e after_right_name x one h p = right_name_lifted n e x one
reaction_lifted n e returned x one h p = returned_lifted n e x one
reaction_lifted n e (block room) x one h p = block_lifted n room e x
reaction_lifted n e (stmts room) x one h p =
    either n e (is_sign mark.CloseBrace x) _ _ _ _ (refl, refl) (then_lifted n e (start_stmt room x) _ _ _ (stmt_lifted n room e x) refl refl)
reaction_lifted n e after_stmt_name x one h p = stmt_name_lifted n e x
reaction_lifted n e (otherwise room) x one h p = either n e (is_keyword word.Else x) _ _ _ _ (refl, refl) refl
reaction_lifted n e (following_else room) x one h p =
    either n e (is_keyword word.If x) _ _ _ _
    (enter_lifted n e (room - 1) (lift_room e room - 1) (following_if (room - 1)) (following_if (lift_room e room - 1)) (inside_same room e.depth)
    (λ some. ap (λ q. following_if q) (let same : lift_room e room - 1 ≡ lift_room e (room - 1) = omega arith in same)) refl)
    (block_lifted n room e x)
reaction_lifted n e (arm room) x one h p = arm_lifted n room e x
reaction_lifted n e (arms room) x one h p = either n e (is_sign mark.CloseBrace x) _ _ _ _ (refl, refl) (then_lifted n e (start_arm room x) _ _ _ (arm_lifted n room e x) refl refl)
reaction_lifted n e entry_states x one h p = either n e (is_sign mark.At x) _ _ _ _ (refl, refl) refl
reaction_lifted n e after_entry_at x one h p = either n e (is_sign mark.OpenParen x) _ _ _ _ (refl, refl) (then_lifted n e (start_states x) _ _ _ (states_lifted n e x) refl refl)
reaction_lifted n e arrow_states x one h p = either n e (is_sign mark.Arrow x) _ _ _ _ (refl, refl) refl
reaction_lifted n e clause x one h p = either n e (is_sign mark.OpenBracket x) _ _ _ _ (refl, refl) refl
reaction_lifted n e head x one h p = head_lifted n e x
reaction_lifted n e (further_states left) x one h p =
    either n e (is_sign mark.CloseBrace x) _ _ _ _ (refl, refl)
    (either n e (is_sign mark.Comma x) _ _ _ _ (more_state_lifted n e left p) (either n e (is_sign mark.Less x) _ _ _ _ (more_state_lifted n e left p) refl))
reaction_lifted n e (fields left) x one h p =
    either_lifted n e _ _ _ _ (counted_lifted n e left (start_ty x) (start_ty x) _ _ (ty_stays x) p (ty_lifted n e x) (λ k is. refl) (λ l is. both _ true is refl)) (after_fields_lifted n e x)
reaction_lifted n e after_fields x one h p = after_fields_lifted n e x
reaction_lifted n e (decls left) x one h p = counted_lifted n e left (start_decl language x) _ _ _ (decl_stays x) p (decl_lifted n e x) (λ k is. refl) (λ l is. both _ true is refl)

pub after_lifted : (n d : ℕ) (e : Bounds) (y : Symbol) (x : Token) → 1 ≤ n → deepness y ≤ n → is_good y ≡ true → Lifted n e (reaction_after language d y x) (reaction_after (wider e) d (lift e y) x)
after_lifted n d e (close_group fs) x one h p = either n e (is_sign mark.CloseParen x) _ _ _ _ (one_symbol e _ _ (operand_lifted e (suc d) fs) (operand_good (suc d) fs)) refl
after_lifted n d e y x one h p = reaction_lifted n e y x one h p

-- ---- steps

abbrev pub LiftedNext : ℕ → Bounds → Next → Next → Type 0
LiftedNext n e (to q) m = (m ≡ to (lifts e q)) × (list_all is_good q ≡ true)
LiftedNext n e unexpected m = m ≡ unexpected
LiftedNext n e (over k) m = (is_limit k ≡ true) × (bound_of k e ≡ 0 → m ≡ over k) × (n < bound_of k e → IsTo m)

abbrev pub deepest : List Symbol → ℕ
deepest [] = 1
deepest (y ∷ s) = max (deepness y) (deepest s)

one_deepest : (s : List Symbol) → 1 ≤ deepest s
one_deepest [] = omega arith
one_deepest (y ∷ s) = let h = one_deepest s in omega arith

same_read : (e : Bounds) (y : Symbol) → depth_read (lift e y) ≡ depth_read y
same_read e (operations d fs) = whole_lifted e d fs
same_read e (following_name d fs) = whole_lifted e d fs
same_read e _ = refl

first_good : (a b : Bool) → (a && b) ≡ true → a ≡ true
first_good true b p = refl
first_good false b p = p

rest_good : (a b : Bool) → (a && b) ≡ true → b ≡ true
rest_good true b p = p
rest_good false b p = cc

settled_to : (r : Reaction) (s : List Symbol) (below : Unit {0} → Next) → IsTaken r → IsTo (next_after r s below)
settled_to (take xs) s below h = tt
settled_to skip s below h = absurd h
settled_to refuse s below h = absurd h
settled_to (exceed n) s below h = absurd h

settled_lifted : (n : ℕ) (e : Bounds) (r z : Reaction) (s : List Symbol) (below other : Unit {0} → Next) → Lifted n e r z → list_all is_good s ≡ true → LiftedNext n e (below tt) (other tt)
    → LiftedNext n e (next_after r s below) (next_after z (lifts e s) other)
settled_lifted n e (take xs) z s below other p good h = (ap (λ r. next_after r (lifts e s) other) p.0 ∙ ap to (sym (lifts_append e xs s)), all_good xs s p.1 good)
settled_lifted n e skip z s below other p good h = subst (λ r. LiftedNext n e (below tt) (next_after r (lifts e s) other)) (sym p) h
settled_lifted n e refuse z s below other p good h = ap (λ r. next_after r (lifts e s) other) p
settled_lifted n e (exceed k) z s below other p good h = (p.0, λ none. ap (λ r. next_after r (lifts e s) other) (p.1 none), λ wide. settled_to z (lifts e s) other (p.2 wide))

pub step_lifted : (n d : ℕ) (e : Bounds) (s : List Symbol) (x : Token) → deepest s ≤ n → list_all is_good s ≡ true → LiftedNext n e (step_after language d s x) (step_after (wider e) d (lifts e s) x)
step_lifted n d e [] x h good = refl
step_lifted n d e (y ∷ s) x h good =
    let one = one_deepest s in
    let there = rest_good (is_good y) (list_all is_good s) good in
    settled_lifted n e (reaction_after language d y x) (reaction_after (wider e) d (lift e y) x) s _ _
    (after_lifted n d e y x (omega arith) (omega arith) (first_good (is_good y) (list_all is_good s) good)) there
    (subst (λ k. LiftedNext n e (step_after language (depth_read y) s x) (step_after (wider e) k (lifts e s) x)) (sym (same_read e y)) (step_lifted n (depth_read y) e s x (omega arith) there))
