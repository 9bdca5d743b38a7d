-- What rows leave in a function: keys of the function in states below 32, and owning variables.
use Rattle.std.proofs.Common.{◌≡◌, ◌<◌, ◌≤◌, ◌==◌, ℕ, suc, nat_lt, Bool, true, false, if◌then◌else◌, List, [], ◌∷◌, ◌++◌, length, Option, Some, None, IfSome, slice_get, refl, sym, subst, ◌⊎◌, inl, inr, ⊎_elim, arith}
use Rattle.std.specs.List.{flat_map}
use Rattle.std.proofs.lemmas.Bool.Decides.{nat_tests}
use Rattle.std.proofs.lemmas.List.Concat.{flat_map-cons}
use Rattle.vlt_core.specs.Core as core
use Rattle.vlt_core.specs.Core.{States, Tok, a_key, a_var, Expr, Operand, pure, move, pack, Mode, Entry, Func, Program}
use Rattle.vlt_core.specs.Lookups.{every_state, first_state, state_count, all_states, owning_states, states_of_type, key_type, states_or_all, is_held_after, is_owning_var, reference_of, guarded_of, variant_of}
use Rattle.vlt_core.specs.Maps.{Wanted, wants_absent, wants_held, wants_in, wants_full, After, becomes_absent, becomes_held, stays, becomes_full, becomes_lent, comes_back, Row, is_tok}
use Rattle.vlt_core.specs.Found.{One, one_absent, one_held, one_lent, one_full, WantsOne, LeftBy}
use Rattle.vlt_core.specs.Rows.{end_row, empty_row, fill_rows, touch_rows, expr_rows, operand_rows, operands_rows, key_row, simple_rows, entry_wanted, entry_row, called_row, called_rows, target_rows, rows_of, arm_rows, focus_end_rows}
use Rattle.vlt_core.specs.KindedHeads.{unless, has, state_broken}
use Rattle.vlt_core.specs.KindedScopes.{Ids}
use Rattle.vlt_core.specs.KindedStatements.{tracked_broken, struct_broken, simple_broken}
use Rattle.vlt_core.specs.KindedCalls.{call_broken}
use Rattle.vlt_core.specs.declared.rules.TheConstants as rule
use Rattle.vlt_core_laws.proofs.Founds.{same_is}
use Rattle.vlt_core_laws.proofs.Good.{AllRows, all_both, all_key, all_filled, reference_in, guard_in}
use Rattle.vlt_core_laws.proofs.Ids.{type_keys}
use Rattle.vlt_core_laws.proofs.Simple.{option_rows, case_keys_rows, variant_keys}
use Rattle.vlt_core_laws.proofs.Unbroken.{left_empty, right_empty, unless_holds}
use Rattle.cert_rows.specs.Parts.{All}
use Rattle.cert_fit_laws.proofs.Listed.{all_at}
use Rattle.cert_fit_laws.proofs.NarrowNumbers.{Bounds, all_flat}
use Rattle.cert_fit_laws.proofs.NarrowParts.{tracked_there, struct_go}
use Rattle.cert_least_laws.specs.Bodies.Narrow.{IsNarrow, HasNarrow}

-- ---- what is tidy

-- a key is one of the function's
abbrev pub is_own_key : Func → Tok → Bool
is_own_key f (a_key k) = nat_lt k (length f.keys)
is_own_key f (a_var v) = true

abbrev pub IsTidyOne : Func → Tok → One → Type 0
IsTidyOne f t one_absent = Unit {0}
IsTidyOne f (a_key k) (one_held s) = (nat_lt k (length f.keys) ≡ true) × (s < 32)
IsTidyOne f (a_key k) (one_lent s) = (nat_lt k (length f.keys) ≡ true) × (s < 32)
IsTidyOne f (a_key k) one_full = ⊥
IsTidyOne f (a_var v) (one_held s) = ⊥
IsTidyOne f (a_var v) (one_lent s) = ⊥
IsTidyOne f (a_var v) one_full = is_owning_var f v ≡ true

abbrev pub LeavesTidy : Func → Tok → Wanted → After → Type 0
LeavesTidy f (a_key k) w (becomes_held s) = IsNarrow s
LeavesTidy f (a_var v) w (becomes_held s) = ⊥
LeavesTidy f (a_key k) w becomes_full = ⊥
LeavesTidy f (a_var v) w becomes_full = (w ≡ wants_full) ⊎ (is_owning_var f v ≡ true)
LeavesTidy f t w a = Unit {0}

pub record IsTidy (f : Func) (r : Row) : Type 0 where
  pub own : is_own_key f r.tok ≡ true
  pub left : LeavesTidy f r.tok r.wanted r.after

pub tidy_absent : (f : Func) (t : Tok) → IsTidyOne f t one_absent
tidy_absent f (a_key k) = tt
tidy_absent f (a_var v) = tt

only_full : (o : One) → WantsOne wants_full o → o ≡ one_full
only_full one_full w = refl
only_full one_absent w = absurd w
only_full (one_held s) w = absurd w
only_full (one_lent s) w = absurd w

module _ (f : Func) where
  kept_by : (t : Tok) (w : Wanted) (a : After) → is_own_key f t ≡ true → LeavesTidy f t w a → (o q : One) → IsTidyOne f t o → WantsOne w o → LeftBy a o q → IsTidyOne f t q
  kept_by t w becomes_absent own left o q p want by = subst (IsTidyOne f t) (sym by) (tidy_absent f t)
  kept_by (a_key k) w (becomes_held s) own left o q p want by = subst (IsTidyOne f (a_key k)) (sym by.2) (own, left.below by.0 by.1)
  kept_by (a_var v) w (becomes_held s) own left o q p want by = absurd left
  kept_by t w stays own left o q p want by = subst (IsTidyOne f t) (sym by) p
  kept_by (a_key k) w becomes_full own left o q p want by = absurd left
  kept_by (a_var v) w becomes_full own left o q p want by =
      subst (IsTidyOne f (a_var v)) (sym by) (⊎_elim (λ e. subst (IsTidyOne f (a_var v)) (only_full o (subst (λ x. WantsOne x o) e want)) p) (λ e. e) left)
  kept_by t w becomes_lent own left one_absent q p want by = subst (IsTidyOne f t) (sym by) p
  kept_by (a_key k) w becomes_lent own left (one_held s) q p want by = subst (IsTidyOne f (a_key k)) (sym by) p
  kept_by (a_var v) w becomes_lent own left (one_held s) q p want by = absurd p
  kept_by t w becomes_lent own left (one_lent s) q p want by = subst (IsTidyOne f t) (sym by) p
  kept_by t w becomes_lent own left one_full q p want by = subst (IsTidyOne f t) (sym by) p
  kept_by t w comes_back own left one_absent q p want by = subst (IsTidyOne f t) (sym by) p
  kept_by t w comes_back own left (one_held s) q p want by = subst (IsTidyOne f t) (sym by) p
  kept_by (a_key k) w comes_back own left (one_lent s) q p want by = subst (IsTidyOne f (a_key k)) (sym by) p
  kept_by (a_var v) w comes_back own left (one_lent s) q p want by = absurd p
  kept_by t w comes_back own left one_full q p want by = subst (IsTidyOne f t) (sym by) p

  -- a tidy row keeps what is tidy
  pub tidy_kept : (t : Tok) (r : Row) → IsTidy f r → is_tok t r.tok ≡ true → (o q : One) → IsTidyOne f t o → WantsOne r.wanted o → LeftBy r.after o q → IsTidyOne f t q
  tidy_kept t r tidy same o q p want by =
      let e = same_is t r.tok same in
      subst (λ u. IsTidyOne f u q) (sym e) (kept_by r.tok r.wanted r.after tidy.own tidy.left o q (subst (λ u. IsTidyOne f u o) e p) want by)

-- ---- sets of states

every_narrow : IsNarrow every_state
every_narrow = record { below = λ i h. low i h }
  where
    low : (i : ℕ) → nat_lt i 32 ≡ true → i < 32
    low i h = grind (arith, nat_tests)

one_narrow : (n : ℕ) → n < 32 → IsNarrow (λ s. s == n)
one_narrow n less = record { below = λ i h. low i n less h }
  where
    low : (i n : ℕ) → n < 32 → (i == n) ≡ true → i < 32
    low i n less h = grind (arith, nat_tests)

pub all_narrow : (p : Program) (t : ℕ) → state_count p t ≤ 32 → IsNarrow (all_states p t)
all_narrow p t few = record { below = λ i h. low i (state_count p t) few h }
  where
    low : (i n : ℕ) → n ≤ 32 → nat_lt i n ≡ true → i < 32
    low i n few h = grind (arith, nat_tests)

-- ---- the rows of a function

module _ (p : Program) (g : ℕ) (f : Func) (there : slice_get p.fns g ≡ Some f) (b : Bounds p f) (sets : HasNarrow p) (ranged : (v k : ℕ) → has (type_keys f v) k ≡ true → nat_lt k (length f.keys) ≡ true) where
  abbrev pub AreTidy : List Row → Type 0
  AreTidy rs = AllRows (IsTidy f) rs

  joined : (rs ss : List Row) → AreTidy rs → AreTidy ss → AreTidy (rs ++ ss)
  joined rs ss x y = all_both (IsTidy f) rs ss x y

  -- a row on the key of a tracked variable
  key_tidy : (x : ℕ) (w : Wanted) (a : After) → ((k : ℕ) → LeavesTidy f (a_key k) w a) → AreTidy (key_row f x w a)
  key_tidy x w a left = all_key (IsTidy f) (reference_of f x) _ (λ r e. record { own = reference_in (is_own_key f) f x (ranged x) r e; left = left r.key })

  end_tidy : (x : ℕ) → AreTidy (end_row p f x)
  end_tidy x = all_key (IsTidy f) (reference_of f x) _ (λ r e. record { own = reference_in (is_own_key f) f x (ranged x) r e; left = tt })

  fill_tidy : (vs : List ℕ) → AreTidy (fill_rows f vs)
  fill_tidy vs = all_filled (IsTidy f) f vs (λ v m o. record { own = refl; left = inr o })

  empty_tidy : (v : ℕ) → IsTidy f (empty_row v)
  empty_tidy v = record { own = refl; left = tt }

  touch_tidy : (x i : ℕ) → AreTidy (touch_rows p f x i)
  touch_tidy x i = joined _ _
      (all_key (IsTidy f) (reference_of f x) _ (λ r e. record { own = reference_in (is_own_key f) f x (ranged x) r e; left = tt }))
      (all_key (IsTidy f) (guarded_of f x) _ (λ r e. record { own = guard_in (is_own_key f) f x (ranged x) r e; left = tt }))

  pub expr_tidy : (e : Expr) → AreTidy (expr_rows p f e)
  expr_tidy (core.number z) = tt
  expr_tidy (core.truth t) = tt
  expr_tidy (core.var v) = tt
  expr_tidy (core.field x i) = touch_tidy x i
  expr_tidy (core.unary op a) = expr_tidy a
  expr_tidy (core.binary op a c) = joined (expr_rows p f a) (expr_rows p f c) (expr_tidy a) (expr_tidy c)

  operand_tidy : (o : Operand) → AreTidy (operand_rows p f o)
  operand_tidy (pure e) = expr_tidy e
  operand_tidy (move v) = (empty_tidy v, tt)
  operand_tidy (pack x states) = key_tidy x (wants_in states) becomes_absent (λ k. tt)

  operands_tidy : (os : List Operand) → AreTidy (operands_rows p f os)
  operands_tidy [] = tt
  operands_tidy (o ∷ os) = subst AreTidy (sym (flat_map-cons (operand_rows p f) o os)) (joined (operand_rows p f o) (operands_rows p f os) (operand_tidy o) (operands_tidy os))

  -- the state that an object becomes is one of its type
  state_low : (ids : Ids) (x state : ℕ) → simple_broken p f ids (core.become x state) ≡ [] → state < 32
  state_low ids x state e =
      let go : Program → ℕ → List ℕ → List ℕ = λ p t args. state_broken p t state in
      let is = tracked_there p f b ids rule.WRONG_BECOME x (left_empty (tracked_broken f ids rule.WRONG_BECOME x) (struct_broken p f rule.WRONG_BECOME x go) e) in
      let there = struct_go p f b rule.WRONG_BECOME x go is (right_empty (tracked_broken f ids rule.WRONG_BECOME x) (struct_broken p f rule.WRONG_BECOME x go) e) in
      (all_narrow p is.1 (b.states is.1)).below state
      (unless_holds (all_states p is.1 state) rule.NOT_A_STATE (subst (λ h. (if h then unless (all_states p is.1 state) rule.NOT_A_STATE else []) ≡ []) (b.sets is.1) there))

  pub simple_tidy : (ids : Ids) (s : core.Simple) → simple_broken p f ids s ≡ [] → AreTidy (simple_rows p f s)
  simple_tidy ids (core.set v e) r = expr_tidy e
  simple_tidy ids (core.input v more) r = tt
  simple_tidy ids (core.print e) r = expr_tidy e
  simple_tidy ids (core.put x i e) r = joined (expr_rows p f e) (touch_rows p f x i) (expr_tidy e) (touch_tidy x i)
  simple_tidy ids (core.make x args) r = joined (operands_rows p f args) _ (operands_tidy args) (key_tidy x wants_absent (becomes_held (λ s. s == first_state)) (λ k. one_narrow 0 low))
    where
      low : 0 < 32
      low = omega arith
  simple_tidy ids (core.become x state) r = key_tidy x wants_held (becomes_held (λ s. s == state)) (λ k. one_narrow state (state_low ids x state r))
  simple_tidy ids (core.release x) r = end_tidy x
  simple_tidy ids (core.drop v) r = (empty_tidy v, tt)
  simple_tidy ids (core.own v value) r = joined (operand_rows p f value) (fill_rows f (v ∷ [])) (operand_tidy value) (fill_tidy (v ∷ []))
  simple_tidy ids (core.unpack x v) r = (
    empty_tidy v,
    option_rows (IsTidy f) (owning_states f v) _ (λ states e. key_tidy x wants_absent (becomes_held states) (λ k. sets.owned g f v states there e)),
  )
  simple_tidy ids (core.build v case args) r = joined _ (fill_rows f (v ∷ []))
      (joined (operands_rows p f args) _ (operands_tidy args)
      (option_rows (IsTidy f) (variant_of f v) _ (λ ty e. case_keys_rows p ty case (IsTidy f) _ (λ d k i x at m from. record { own = ranged v k (variant_keys f v ty e k m); left = tt }))))
      (fill_tidy (v ∷ []))
  simple_tidy ids (core.swap x i v) r = joined (touch_rows p f x i) _ (touch_tidy x i) (record { own = refl; left = inl refl }, tt)
  simple_tidy ids (core.open_into x vs) r = joined (end_row p f x) (fill_rows f vs) (end_tidy x) (fill_tidy vs)
  simple_tidy ids (core.adopt y x r) broken = joined (end_row p f x) _ (end_tidy x) (key_tidy r wants_held stays (λ k. tt))

  -- ---- calls

  type_narrow : (o : Option ℕ) → IsNarrow (states_of_type p o)
  type_narrow None = every_narrow
  type_narrow (Some t) = all_narrow p t (b.states t)

  pub side_narrow : (k : ℕ) (o : Option States) → IfSome o IsNarrow → IsNarrow (states_or_all p f k o)
  side_narrow k None s = type_narrow (key_type f k)
  side_narrow k (Some states) s = s

  entry_left : (c : Bool) (k : ℕ) (w : Wanted) (states : States) → IsNarrow states → LeavesTidy f (a_key k) w (if c then becomes_held states else becomes_absent)
  entry_left true k w states s = s
  entry_left false k w states s = tt

  entry_tidy : (k : ℕ) (e : Entry) → nat_lt k (length f.keys) ≡ true → IfSome e.after IsNarrow → IsTidy f (entry_row p f k e)
  entry_tidy k e own s = record { own = own; left = entry_left (is_held_after e) k (entry_wanted e) (states_or_all p f k e.after) (side_narrow k e.after s) }

  called_tidy : (k : ℕ) (e : Entry) → nat_lt k (length f.keys) ≡ true → IfSome e.after IsNarrow → IsTidy f (called_row p f k e)
  called_tidy k e own s = by e.mode
    where
      by : (m : Mode) → IsTidy f (called_row p f k (record e { mode = m }))
      by core.kept = entry_tidy k (record e { mode = core.kept }) own s
      by core.taken = entry_tidy k (record e { mode = core.taken }) own s
      by core.given = entry_tidy k (record e { mode = core.given }) own s
      by core.fresh = entry_tidy k (record e { mode = core.fresh }) own s
      by (core.up_to n) = record { own = own; left = tt }

  clause_tidy : (keys : List ℕ) (es : List Entry) → ((j k : ℕ) → slice_get keys j ≡ Some k → nat_lt k (length f.keys) ≡ true) → ((i : ℕ) (e : Entry) → slice_get es i ≡ Some e → IfSome e.after IsNarrow) →
      AreTidy (called_rows p f keys es)
  clause_tidy keys [] own s = tt
  clause_tidy keys (e ∷ es) own s =
      joined _ (called_rows p f keys es) (option_rows (IsTidy f) (slice_get keys e.key) _ (λ k at. (called_tidy k e (own e.key k at) (s 0 e refl), tt)))
      (clause_tidy keys es own (λ i d at. s (suc i) d at))

  keys_own : (ids : Ids) (o : Option Func) (target : Option ℕ) (keys : List ℕ) (args : List Operand) → call_broken p f ids o target keys args ≡ [] → All (λ k. nat_lt k (length f.keys) ≡ true) keys
  keys_own ids o target keys args e = all_flat (λ k. nat_lt k (length f.keys) ≡ true) (λ k. unless (nat_lt k (length f.keys)) rule.UNKNOWN_NAME) (λ k q. unless_holds (nat_lt k (length f.keys)) rule.UNKNOWN_NAME q) keys (first o e)
    where
      first : (o : Option Func) → call_broken p f ids o target keys args ≡ [] → flat_map (λ k. unless (nat_lt k (length f.keys)) rule.UNKNOWN_NAME) keys ≡ []
      first None e = left_empty _ _ (left_empty _ _ e)
      first (Some h) e = left_empty _ _ (left_empty _ _ (left_empty _ _ (left_empty _ _ (left_empty _ _ (left_empty _ _ e)))))

  pub call_tidy : (ids : Ids) (c : ℕ) (target : Option ℕ) (keys : List ℕ) (args : List Operand) (left : List Tok) → call_broken p f ids (slice_get p.fns c) target keys args ≡ [] → AreTidy (rows_of p f left (core.call c target keys args))
  call_tidy ids c target keys args left e =
      let own = keys_own ids (slice_get p.fns c) target keys args e in
      joined _ (target_rows f target)
      (joined (operands_rows p f args) _ (operands_tidy args)
      (option_rows (IsTidy f) (slice_get p.fns c) _ (λ h at. clause_tidy keys h.clause (λ j k from. all_at (λ k. nat_lt k (length f.keys) ≡ true) keys j k own from) (λ i d from. sets.after c h i d at from))))
      (option_rows (IsTidy f) target _ (λ v at. fill_tidy (v ∷ [])))

  -- ---- statements with blocks

  pub arm_tidy : (v c : ℕ) (vs : List ℕ) → AreTidy (arm_rows p f v c vs)
  arm_tidy v c vs = joined _ (fill_rows f vs)
      (option_rows (IsTidy f) (variant_of f v) _ (λ ty e. case_keys_rows p ty c (IsTidy f) _ (λ d k i x at m from. record { own = ranged v k (variant_keys f v ty e k m); left = sets.listed ty.type c i d x at from })))
      (fill_tidy vs)

  pub enter_tidy : (y z : ℕ) (left : List Tok) (body : core.Block) → AreTidy (rows_of p f left (core.focus y z body))
  enter_tidy y z left body = joined _ _
      (all_key (IsTidy f) (guarded_of f y) _ (λ r e. record { own = guard_in (is_own_key f) f y (ranged y) r e; left = tt }))
      (all_key (IsTidy f) (reference_of f z) _ (λ r e. record { own = reference_in (is_own_key f) f z (ranged z) r e; left = sets.released r.type }))

  pub leave_tidy : (y z : ℕ) → AreTidy (focus_end_rows p f y z)
  leave_tidy y z = joined (end_row p f z) _ (end_tidy z) (all_key (IsTidy f) (guarded_of f y) _ (λ r e. record { own = guard_in (is_own_key f) f y (ranged y) r e; left = tt }))

  pub switch_tidy : (c : Bool) (v : ℕ) → AreTidy (if c then empty_row v ∷ [] else [])
  switch_tidy true v = (empty_tidy v, tt)
  switch_tidy false v = tt
