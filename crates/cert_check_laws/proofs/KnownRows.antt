-- The rows of a statement that breaks no rule name sets of states that the code has.
use Rattle.std.proofs.Common.{◌≡◌, ◌<◌, ◌≤◌, ◌==◌, ⊎_elim, ℕ, suc, nat_lt, Bool, true, false, if◌then◌else◌, List, [], ◌∷◌, ◌++◌, map, length, Option, Some, None, IfSome, slice_get, refl, sym, ap, ◌∙◌, subst, arith}
use Rattle.std.specs.Prelude.{filter, cond}
use Rattle.std.specs.List.{flat_map, enumerate_from}
use Rattle.std.proofs.lemmas.Bool.Decides.{nat_tests}
use Rattle.std.proofs.lemmas.List.Concat.{flat_map-cons}
use Rattle.vlt_ops.specs.Operator.{row_of}
use Rattle.vlt_core.specs.Core as core
use Rattle.vlt_core.specs.Core.{States, Ty, int, bool, tracked, owning, guarded, variant, owning_variant, FieldDecl, Tok, a_key, Expr, Operand, pure, move, pack, Mode, Entry, Func, Program}
use Rattle.vlt_core.specs.Lookups.{Reference, first_state, all_states, state_count, permitted_in, field_states_in, fields_of, owning_states, states_of_type, key_type, up_to_in, key_states_up_to, states_or_all, after_set, is_held_before, is_held_after, is_new, is_given_back, is_owning, is_owning_var, tracked_in, reference_of, guarded_of, var_type, variant_of}
use Rattle.vlt_core.specs.Maps.{Wanted, wants_absent, wants_held, wants_in, wants_lent, After, becomes_absent, becomes_held, stays, becomes_lent, comes_back, Row, away_row}
use Rattle.vlt_core.specs.Rows.{row, on_option, on_key, end_row, empty_row, fill_rows, touch_rows, expr_rows, operand_rows, operands_rows, key_row, simple_rows, held_in, entry_row, called_row, called_rows, target_rows, returned_row, new_rows, given_back_rows, return_rows, tokens_of, rows_of, arm_rows, focus_end_rows}
use Rattle.vlt_core.specs.Instances.{clause_of_instance, instance}
use Rattle.vlt_core.specs.Kinded.{IsKinded}
use Rattle.vlt_core.specs.Types.{decl_of, with_keys}
use Rattle.vlt_core.specs.KindedHeads.{Rules, unless, when_some, has, new_keys, argument_broken, type_broken, state_broken, parameters_of}
use Rattle.vlt_core.specs.KindedScopes.{Ids, own_key, use_broken, binding_broken, target_broken}
use Rattle.vlt_core.specs.KindedOperands.{misfit, object_in, field_type, unless_owning, is_permitted, type_of_expr, left_broken, right_wanted, touch_broken, not_owning_broken, expr_broken, value_broken, operand_broken, operands_broken}
use Rattle.vlt_core.specs.KindedStatements.{tracked_broken, struct_broken, made_broken, made_types, variant_args, case_broken, payload_types, wanted_of, is_variant_type, swap_broken, simple_broken}
use Rattle.vlt_core.specs.KindedCalls.{caller_type, argument_type, gives_other_keys, argument_broken_by, arguments_broken, caller_keys_broken, call_target_broken, target_alone_broken, call_broken, new_result_broken, returned_broken, return_broken}
use Rattle.vlt_core.specs.declared.rules.TheConstants as rule
use Rattle.vlt_core_laws.proofs.Good.{AllRows, all_both, all_key, all_mapped, all_filled}
use Rattle.vlt_core_laws.proofs.Simple.{option_rows, case_keys_rows}
use Rattle.vlt_core_laws.proofs.Unbroken.{filled_not_empty, left_empty, right_empty, unless_holds, some_not_none, some_same}
use Rattle.vlt_sound.specs.Sizes.{HasSizes}
use Rattle.vlt_rows.specs.Unfit.{WantsWide, LeavesWide, HasWide}
use Rattle.cert_rows.specs.Parts.{All}
use Rattle.cert_fit_laws.proofs.Masked.{IsMaskedOperand, IsMaskedSimple}
use Rattle.cert_fit_laws.proofs.NarrowNumbers.{Bounds, use_there, type_at}
use Rattle.cert_fit_laws.proofs.NarrowParts.{tracked_there, struct_go}
use Rattle.cert_fit_laws.proofs.Types.{when_at, declared, key_rule, there_type}
use Rattle.cert_check_laws.proofs.Callers.{typed_key}
use Rattle.cert_check_laws.proofs.Sets.{IsSaid, one_said, first_said, mask_said, HasSaid}

-- the sets that a row names are said
pub record IsKnown (r : Row) : Type 0 where
  pub wanted : WantsWide r.wanted → ⊥
  pub left : LeavesWide r.after → ⊥

abbrev pub AreKnown : List Row → Type 0
AreKnown rs = AllRows IsKnown rs

pub none_wide : (rs : List Row) → AreKnown rs → HasWide rs → ⊥
none_wide [] known w = w
none_wide (r ∷ rs) known w = ⊎_elim (λ here. ⊎_elim known.0.wanted known.0.left here) (λ more. none_wide rs known.1 more) w

nothing : ⊥ → ⊥
nothing x = x

joined : (rs ss : List Row) → AreKnown rs → AreKnown ss → AreKnown (rs ++ ss)
joined rs ss x y = all_both IsKnown rs ss x y

pub away_known : (ts : List Tok) → AreKnown (map away_row ts)
away_known ts = all_mapped IsKnown away_row ts (λ t. record { wanted = nothing; left = nothing })

empty_known : (v : ℕ) → IsKnown (empty_row v)
empty_known v = record { wanted = nothing; left = nothing }

fill_known : (f : Func) (vs : List ℕ) → AreKnown (fill_rows f vs)
fill_known f vs = all_filled IsKnown f vs (λ v m o. record { wanted = nothing; left = nothing })

-- a row on the key of a tracked variable
key_known : (f : Func) (x : ℕ) (w : Wanted) (a : After) → (WantsWide w → ⊥) → (LeavesWide a → ⊥) → AreKnown (key_row f x w a)
key_known f x w a wanted left = all_key IsKnown (reference_of f x) _ (λ r e. record { wanted = wanted; left = left })

guard_known : (f : Func) (y : ℕ) (w : Wanted) (a : After) → (WantsWide w → ⊥) → (LeavesWide a → ⊥) → AreKnown (on_key (guarded_of f y) (λ g. row (a_key g.key) w a))
guard_known f y w a wanted left = all_key IsKnown (guarded_of f y) _ (λ r e. record { wanted = wanted; left = left })

module _ (p : Program) (sets : HasSaid p) where
  end_known : (f : Func) (x : ℕ) → AreKnown (end_row p f x)
  end_known f x = all_key IsKnown (reference_of f x) _ (λ r e. record { wanted = (sets.released r.type).never; left = nothing })

  -- ---- entries

  type_said : (o : Option ℕ) → IsSaid (states_of_type p o)
  type_said None = first_said 32 (omega arith) (omega arith)
  type_said (Some t) = sets.all t

  pub side_said : (f : Func) (k : ℕ) (o : Option States) → IfSome o IsSaid → IsSaid (states_or_all p f k o)
  side_said f k None s = type_said (key_type f k)
  side_said f k (Some states) s = s

  wants_known : (c : Bool) (o : Option States) → IfSome o IsSaid → WantsWide (if c then held_in o else wants_absent) → ⊥
  wants_known true None s = nothing
  wants_known true (Some states) s = s.never
  wants_known false o s = nothing

  leaves_known : (c : Bool) (states : States) → IsSaid states → LeavesWide (if c then becomes_held states else becomes_absent) → ⊥
  leaves_known true states s = s.never
  leaves_known false states s = nothing

  entry_known : (f : Func) (k : ℕ) (e : Entry) → IfSome e.before IsSaid → IfSome e.after IsSaid → IsKnown (entry_row p f k e)
  entry_known f k e before after = record {
    wanted = wants_known (is_held_before e) e.before before;
    left = leaves_known (is_held_after e) (states_or_all p f k e.after) (side_said f k e.after after);
  }

  called_known : (f : Func) (k : ℕ) (e : Entry) → ((b : ℕ) → e.mode ≡ core.up_to b → IsSaid (key_states_up_to p f k b)) → IfSome e.before IsSaid → IfSome e.after IsSaid → IsKnown (called_row p f k e)
  called_known f k e bound before after = by e.mode bound
    where
      by : (m : Mode) → ((b : ℕ) → m ≡ core.up_to b → IsSaid (key_states_up_to p f k b)) → IsKnown (called_row p f k (record e { mode = m }))
      by core.kept n = entry_known f k (record e { mode = core.kept }) before after
      by core.taken n = entry_known f k (record e { mode = core.taken }) before after
      by core.given n = entry_known f k (record e { mode = core.given }) before after
      by core.fresh n = entry_known f k (record e { mode = core.fresh }) before after
      by (core.up_to b) n = record { wanted = (n b refl).never; left = nothing }

  clause_known : (f : Func) (keys : List ℕ) (es : List Entry) →
      ((i : ℕ) (e : Entry) (b k : ℕ) → slice_get es i ≡ Some e → e.mode ≡ core.up_to b → slice_get keys e.key ≡ Some k → IsSaid (key_states_up_to p f k b)) →
      ((i : ℕ) (e : Entry) → slice_get es i ≡ Some e → IfSome e.before IsSaid × IfSome e.after IsSaid) → AreKnown (called_rows p f keys es)
  clause_known f keys [] bounds each = tt
  clause_known f keys (e ∷ es) bounds each =
      joined _ (called_rows p f keys es) (option_rows IsKnown (slice_get keys e.key) _ (λ k at. (called_known f k e (λ b mode. bounds 0 e b k refl mode at) (each 0 e refl).0 (each 0 e refl).1, tt)))
      (clause_known f keys es (λ i d b k at mode stands. bounds (suc i) d b k at mode stands) (λ i d at. each (suc i) d at))

-- ---- the rows of a function

module _ (p : Program) (g : ℕ) (f : Func) (there : slice_get p.fns g ≡ Some f) (b : Bounds p f) (sets : HasSaid p) (kinded : IsKinded p) (sizes : HasSizes p) where
  -- ---- touches

  field_known : (t i : ℕ) (o : Option FieldDecl) → slice_get (fields_of p t) i ≡ o → (o ≡ None → ⊥) → IsSaid (permitted_in p t i)
  field_known t i None at some = absurd (some refl)
  field_known t i (Some d) at some = subst (λ o. IsSaid (field_states_in o)) (sym at) (sets.fields t i d at)

  abbrev of_field : (x : ℕ) → Option FieldDecl → Rules
  of_field x None = rule.UNKNOWN_NAME ∷ []
  of_field x (Some d) = unless (is_permitted p (var_type f x) d) rule.GUARDED_FIELD

  abbrev of_object : (x i : ℕ) → Option (ℕ × List ℕ) → Rules
  of_object x i None = rule.WRONG_TYPE ∷ []
  of_object x i (Some o) = when_some (decl_of p o.0) (λ d. of_field x (slice_get (fields_of p o.0) i))

  touched : (ids : Ids) (x i : ℕ) → touch_broken p f ids x i ≡ [] → (r : Reference) → reference_of f x ≡ Some r → IsSaid (permitted_in p r.type i)
  touched ids x i e r is = by ty.0 ty.1 ty.2 (when_at (var_type f x) (λ ty. of_object x i (object_in (Some ty))) ty.0 ty.1 (right_empty (use_broken f ids x) _ e))
    where
      ty : (ty : Ty) × (var_type f x ≡ Some ty) × (type_broken p f ty ≡ [])
      ty = type_at p f b x (use_there p f b ids x (left_empty (use_broken f ids x) _ e))

      other : (ty : Ty) → var_type f x ≡ Some ty → tracked_in (Some ty) ≡ None → IsSaid (permitted_in p r.type i)
      other ty at none = absurd (some_not_none r (sym is ∙ ap tracked_in at ∙ none))

      field : (t : ℕ) → of_field x (slice_get (fields_of p t) i) ≡ [] → IsSaid (permitted_in p t i)
      field t e = field_known t i (slice_get (fields_of p t) i) refl (λ none. filled_not_empty rule.UNKNOWN_NAME [] (subst (λ o. of_field x o ≡ []) none e))

      by : (ty : Ty) → var_type f x ≡ Some ty → type_broken p f ty ≡ [] → of_object x i (object_in (Some ty)) ≡ [] → IsSaid (permitted_in p r.type i)
      by (tracked k t args) at typed e =
          let d = declared p (key_rule p f) (argument_broken p f) (tracked k t args) t refl (there_type p f (tracked k t args) typed) in
          let same = some_same (record { key = k; type = t }) r (sym (ap tracked_in at) ∙ is) in
          subst (λ (r : Reference). IsSaid (permitted_in p r.type i)) same (field t (when_at (decl_of p t) (λ d. of_field x (slice_get (fields_of p t) i)) d.0 d.1 e))
      by int at typed e = other int at refl
      by bool at typed e = other bool at refl
      by (owning s t args) at typed e = other (owning s t args) at refl
      by (guarded k t args) at typed e = other (guarded k t args) at refl
      by (variant t args) at typed e = other (variant t args) at refl
      by (owning_variant t args) at typed e = other (owning_variant t args) at refl

  touch_rows_known : (x i : ℕ) → ((r : Reference) → reference_of f x ≡ Some r → IsSaid (permitted_in p r.type i)) → AreKnown (touch_rows p f x i)
  touch_rows_known x i each = joined _ _
      (all_key IsKnown (reference_of f x) _ (λ r e. record { wanted = (each r e).never; left = nothing }))
      (guard_known f x wants_held stays nothing nothing)

  touch_known : (ids : Ids) (x i : ℕ) → touch_broken p f ids x i ≡ [] → AreKnown (touch_rows p f x i)
  touch_known ids x i e = touch_rows_known x i (touched ids x i e)

  -- ---- expressions and operands

  pub expr_known : (ids : Ids) (e : Expr) → expr_broken p f ids e ≡ [] → AreKnown (expr_rows p f e)
  expr_known ids (core.number z) r = tt
  expr_known ids (core.truth t) r = tt
  expr_known ids (core.var v) r = tt
  expr_known ids (core.field x i) r = touch_known ids x i (left_empty (touch_broken p f ids x i) (not_owning_broken rule.WRONG_SWAP (field_type p f x i)) r)
  expr_known ids (core.unary op a) r = expr_known ids a (left_empty (expr_broken p f ids a) (left_broken (row_of op).takes (type_of_expr p f a)) r)
  expr_known ids (core.binary op a c) r =
      let first_part = left_empty (expr_broken p f ids a ++ expr_broken p f ids c) (left_broken (row_of op).takes (type_of_expr p f a))
      (left_empty _ (misfit (right_wanted (row_of op).takes (type_of_expr p f a)) (type_of_expr p f c)) r) in
      joined (expr_rows p f a) (expr_rows p f c) (expr_known ids a (left_empty (expr_broken p f ids a) (expr_broken p f ids c) first_part))
      (expr_known ids c (right_empty (expr_broken p f ids a) (expr_broken p f ids c) first_part))

  pub value_known : (ids : Ids) (w : Option Ty) (e : Expr) → value_broken p f ids w e ≡ [] → AreKnown (expr_rows p f e)
  value_known ids w e r = expr_known ids e (left_empty (expr_broken p f ids e) (misfit w (type_of_expr p f e)) r)

  operand_known : (ids : Ids) (w : Option Ty) (o : Operand) → IsMaskedOperand o → operand_broken p f ids w o ≡ [] → AreKnown (operand_rows p f o)
  operand_known ids w (pure e) m r = expr_known ids e (left_empty (expr_broken p f ids e) _ r)
  operand_known ids w (move v) m r = (empty_known v, tt)
  operand_known ids w (pack x states) m r = key_known f x (wants_in states) becomes_absent (mask_said states m).never nothing

  operand_next : (o : Operand) (os : List Operand) → AreKnown (operand_rows p f o) → AreKnown (operands_rows p f os) → AreKnown (operands_rows p f (o ∷ os))
  operand_next o os x y = subst AreKnown (sym (flat_map-cons (operand_rows p f) o os)) (joined (operand_rows p f o) (operands_rows p f os) x y)

  operands_known : (ids : Ids) (ws : List Ty) (os : List Operand) → All IsMaskedOperand os → operands_broken p f ids ws os ≡ [] → AreKnown (operands_rows p f os)
  operands_known ids ws [] m r = tt
  operands_known ids [] (o ∷ os) m r =
      operand_next o os (operand_known ids None o m.0 (left_empty (operand_broken p f ids None o) (operands_broken p f ids [] os) r))
      (operands_known ids [] os m.1 (right_empty (operand_broken p f ids None o) (operands_broken p f ids [] os) r))
  operands_known ids (w ∷ ws) (o ∷ os) m r =
      operand_next o os (operand_known ids (Some w) o m.0 (left_empty (operand_broken p f ids (Some w) o) (operands_broken p f ids ws os) r))
      (operands_known ids ws os m.1 (right_empty (operand_broken p f ids (Some w) o) (operands_broken p f ids ws os) r))

  -- ---- statements without blocks

  state_low : (ids : Ids) (x state : ℕ) → simple_broken p f ids (core.become x state) ≡ [] → state < 32
  state_low ids x state e =
      let go : Program → ℕ → List ℕ → Rules = λ p t args. state_broken p t state in
      let is = tracked_there p f b ids rule.WRONG_BECOME x (left_empty (tracked_broken f ids rule.WRONG_BECOME x) (struct_broken p f rule.WRONG_BECOME x go) e) in
      let there = struct_go p f b rule.WRONG_BECOME x go is (right_empty (tracked_broken f ids rule.WRONG_BECOME x) (struct_broken p f rule.WRONG_BECOME x go) e) in
      low state (state_count p is.1) (unless_holds (all_states p is.1 state) rule.NOT_A_STATE (subst (λ h. (if h then unless (all_states p is.1 state) rule.NOT_A_STATE else []) ≡ []) (b.sets is.1) there)) (b.states is.1)
    where
      low : (i n : ℕ) → nat_lt i n ≡ true → n ≤ 32 → i < 32
      low i n less few = grind (arith, nat_tests)

  abbrev of_swap : (v : ℕ) → Option FieldDecl → List ℕ → Rules
  of_swap v None args = rule.UNKNOWN_NAME ∷ []
  of_swap v (Some d) args = if is_owning d.ty then misfit (Some (with_keys args d.ty)) (var_type f v) else rule.WRONG_SWAP ∷ []

  swapped : (ids : Ids) (x i v : ℕ) → simple_broken p f ids (core.swap x i v) ≡ [] → (r : Reference) → reference_of f x ≡ Some r → IsSaid (permitted_in p r.type i)
  swapped ids x i v e r is =
      let first_part = left_empty (tracked_broken f ids rule.WRONG_SWAP x ++ use_broken f ids v) (swap_broken p f x i v) e in
      let at = tracked_there p f b ids rule.WRONG_SWAP x (left_empty (tracked_broken f ids rule.WRONG_SWAP x) (use_broken f ids v) first_part) in
      let go : Program → ℕ → List ℕ → Rules = λ p t args. of_swap v (slice_get (fields_of p t) i) args in
      let there = struct_go p f b rule.WRONG_SWAP x go at (right_empty (tracked_broken f ids rule.WRONG_SWAP x ++ use_broken f ids v) (swap_broken p f x i v) e) in
      let same = some_same (record { key = at.0; type = at.1 }) r (sym (ap tracked_in at.3) ∙ is) in
      subst (λ (r : Reference). IsSaid (permitted_in p r.type i)) same
      (field_known at.1 i (slice_get (fields_of p at.1) i) refl (λ none. filled_not_empty rule.UNKNOWN_NAME [] (subst (λ o. of_swap v o at.2 ≡ []) none there)))

  pub simple_known : (ids : Ids) (s : core.Simple) → IsMaskedSimple s → simple_broken p f ids s ≡ [] → AreKnown (simple_rows p f s)
  simple_known ids (core.set v e) m r = expr_known ids e (left_empty (expr_broken p f ids e) _ (left_empty _ (target_broken f ids v) r))
  simple_known ids (core.input v more) m r = tt
  simple_known ids (core.print e) m r = value_known ids (Some int) e r
  simple_known ids (core.put x i e) m r =
      let first_part = left_empty (expr_broken p f ids e ++ touch_broken p f ids x i) _ (left_empty _ (misfit (unless_owning (field_type p f x i)) (type_of_expr p f e)) r) in
      joined (expr_rows p f e) (touch_rows p f x i) (expr_known ids e (left_empty (expr_broken p f ids e) _ first_part))
      (touch_known ids x i (right_empty (expr_broken p f ids e) (touch_broken p f ids x i) first_part))
  simple_known ids (core.make x os) m r =
      let first_part = left_empty (made_broken p (length os) (var_type f x) ++ operands_broken p f ids (made_types p (var_type f x)) os) (binding_broken f ids (own_key f x) x) r in
      joined (operands_rows p f os) _ (operands_known ids (made_types p (var_type f x)) os m (right_empty (made_broken p (length os) (var_type f x)) (operands_broken p f ids (made_types p (var_type f x)) os) first_part))
      (key_known f x wants_absent (becomes_held (λ s. s == first_state)) nothing (one_said 0 (omega arith)).never)
  simple_known ids (core.become x state) m r = key_known f x wants_held (becomes_held (λ s. s == state)) nothing (one_said state (state_low ids x state r)).never
  simple_known ids (core.release x) m r = end_known p sets f x
  simple_known ids (core.drop v) m r = (empty_known v, tt)
  simple_known ids (core.own v o) m r =
      let w = if is_owning_var f v then var_type f v else None in
      joined (operand_rows p f o) (fill_rows f (v ∷ []))
      (operand_known ids w o m (right_empty (wanted_of (var_type f v) is_owning) (operand_broken p f ids w o) (left_empty _ (target_broken f ids v) r))) (fill_known f (v ∷ []))
  simple_known ids (core.unpack x v) m r = (
    empty_known v,
    option_rows IsKnown (owning_states f v) _ (λ states e. key_known f x wants_absent (becomes_held states) nothing (sets.owned g f v states there e).never),
  )
  simple_known ids (core.build v c os) m r =
      joined _ (fill_rows f (v ∷ []))
      (joined (operands_rows p f os) _
      (operands_known ids (payload_types p (variant_args (var_type f v)) c) os m
      (right_empty (wanted_of (var_type f v) is_variant_type ++ case_broken p c (length os) (variant_args (var_type f v))) (operands_broken p f ids (payload_types p (variant_args (var_type f v)) c) os) (left_empty _ (target_broken f ids v) r)))
      (option_rows IsKnown (variant_of f v) _ (λ ty e. case_keys_rows p ty c IsKnown _ (λ d k i x at m from. record { wanted = (sets.listed ty.type c i d x at from).never; left = nothing }))))
      (fill_known f (v ∷ []))
  simple_known ids (core.swap x i v) m r = joined (touch_rows p f x i) _ (touch_rows_known x i (swapped ids x i v r)) (record { wanted = nothing; left = nothing }, tt)
  simple_known ids (core.open_into x vs) m r = joined (end_row p f x) (fill_rows f vs) (end_known p sets f x) (fill_known f vs)
  simple_known ids (core.adopt y x k) m r = joined (end_row p f x) _ (end_known p sets f x) (key_known f k wants_held stays nothing nothing)

  -- ---- calls

  argument_known : (ids : Ids) (w : Option Ty) (o : Operand) → IsMaskedOperand o → argument_broken_by p f ids w o ≡ [] → AreKnown (operand_rows p f o)
  argument_known ids w o m r = by (gives_other_keys w (argument_type p f o)) r
    where
      by : (t : Bool) → (if t then rule.TWO_CALLER_KEYS ∷ operand_broken p f ids None o else operand_broken p f ids w o) ≡ [] → AreKnown (operand_rows p f o)
      by true r = absurd (filled_not_empty rule.TWO_CALLER_KEYS (operand_broken p f ids None o) r)
      by false r = operand_known ids w o m r

  arguments_known : (ids : Ids) (ws : List (Option Ty)) (os : List Operand) → All IsMaskedOperand os → arguments_broken p f ids ws os ≡ [] → AreKnown (operands_rows p f os)
  arguments_known ids ws [] m r = tt
  arguments_known ids [] (o ∷ os) m r =
      operand_next o os (argument_known ids None o m.0 (left_empty (argument_broken_by p f ids None o) (arguments_broken p f ids [] os) r))
      (arguments_known ids [] os m.1 (right_empty (argument_broken_by p f ids None o) (arguments_broken p f ids [] os) r))
  arguments_known ids (w ∷ ws) (o ∷ os) m r =
      operand_next o os (argument_known ids w o m.0 (left_empty (argument_broken_by p f ids w o) (arguments_broken p f ids ws os) r))
      (arguments_known ids ws os m.1 (right_empty (argument_broken_by p f ids w o) (arguments_broken p f ids ws os) r))

  call_arguments : (ids : Ids) (c : ℕ) (target : Option ℕ) (keys : List ℕ) (os : List Operand) → All IsMaskedOperand os → call_broken p f ids (slice_get p.fns c) target keys os ≡ [] → AreKnown (operands_rows p f os)
  call_arguments ids c target keys os m r = by (slice_get p.fns c) r
    where
      key_rules : Rules
      key_rules = flat_map (λ k. unless (nat_lt k (length f.keys)) rule.UNKNOWN_NAME) keys

      by : (o : Option Func) → call_broken p f ids o target keys os ≡ [] → AreKnown (operands_rows p f os)
      by None r = absurd (filled_not_empty rule.UNKNOWN_NAME (operands_broken p f ids [] os)
          (right_empty key_rules (rule.UNKNOWN_NAME ∷ operands_broken p f ids [] os) (left_empty (key_rules ++ (rule.UNKNOWN_NAME ∷ operands_broken p f ids [] os)) (target_alone_broken f ids target) r)))
      by (Some h) r =
          let e1 = left_empty _ (call_target_broken f ids h keys target) r in
          let e2 = left_empty _ (caller_keys_broken f ids h (enumerate_from 0 keys)) e1 in
          arguments_known ids (map (caller_type keys) (parameters_of h)) os m (right_empty _ (arguments_broken p f ids (map (caller_type keys) (parameters_of h)) os) e2)

  pub call_known : (ids : Ids) (c : ℕ) (target : Option ℕ) (keys : List ℕ) (os : List Operand) (left : List Tok) → All IsMaskedOperand os → call_broken p f ids (slice_get p.fns c) target keys os ≡ [] →
      AreKnown (rows_of p f left (core.call c target keys os))
  call_known ids c target keys os left m e =
      joined _ (target_rows f target)
      (joined (operands_rows p f os) _ (call_arguments ids c target keys os m e)
      (option_rows IsKnown (slice_get p.fns c) _ (λ h at. clause_known p sets f keys h.clause (bounds_said h at) (λ i d from. (sets.before c h i d at from, sets.after c h i d at from)))))
      (option_rows IsKnown target _ (λ v at. fill_known f (v ∷ [])))
    where
      -- the caller's key has the type of the callee's
      bounds_said : (h : Func) → slice_get p.fns c ≡ Some h → (i : ℕ) (d : Entry) (b k : ℕ) → slice_get h.clause i ≡ Some d → d.mode ≡ core.up_to b → slice_get keys d.key ≡ Some k → IsSaid (key_states_up_to p f k b)
      bounds_said h at i d b k from mode stands =
          let x = sets.bounds c h i d b at from mode in
          let typed = typed_key p kinded sizes g f there c h at ids target keys os (subst (λ o. call_broken p f ids o target keys os ≡ []) at e) d i b x.type k from mode x.typed stands in
          subst (λ t. IsSaid (up_to_in p t b)) (sym typed) x.below

  -- ---- returns

  entries_known : (go : Entry → List Row) (es : List Entry) → ((e : Entry) → IfSome e.after IsSaid → AreKnown (go e)) → ((i : ℕ) (e : Entry) → slice_get es i ≡ Some e → IfSome e.after IsSaid) → (test : Entry → Bool) → AreKnown (flat_map go (filter test es))
  entries_known go [] known each test = tt
  entries_known go (e ∷ es) known each test = by (entries_known go es known (λ i d at. each (suc i) d at) test) (test e)
    where
      by : AreKnown (flat_map go (filter test es)) → (c : Bool) → AreKnown (flat_map go (cond c (e ∷ filter test es) (filter test es)))
      by rest true = subst AreKnown (sym (flat_map-cons go e (filter test es))) (joined (go e) (flat_map go (filter test es)) (known e (each 0 e refl)) rest)
      by rest false = rest

  mapped_known : (go : Entry → Row) (es : List Entry) → ((e : Entry) → IfSome e.after IsSaid → IsKnown (go e)) → ((i : ℕ) (e : Entry) → slice_get es i ≡ Some e → IfSome e.after IsSaid) → (test : Entry → Bool) → AreKnown (map go (filter test es))
  mapped_known go [] known each test = tt
  mapped_known go (e ∷ es) known each test = by (mapped_known go es known (λ i d at. each (suc i) d at) test) (test e)
    where
      by : AreKnown (map go (filter test es)) → (c : Bool) → AreKnown (map go (cond c (e ∷ filter test es) (filter test es)))
      by rest true = (known e (each 0 e refl), rest)
      by rest false = rest

  after_said : (e : Entry) → IfSome e.after IsSaid → IsSaid (after_set p f e)
  after_said e s = side_said p sets f e.key e.after s

  returned_known : (value : Option Operand) (e : Entry) → IfSome e.after IsSaid → AreKnown (returned_row p f value e)
  returned_known (Some (pure (core.var x))) e s = key_known f x (wants_in (after_set p f e)) becomes_absent (after_said e s).never nothing
  returned_known (Some (pure (core.number z))) e s = tt
  returned_known (Some (pure (core.truth z))) e s = tt
  returned_known (Some (pure (core.field x i))) e s = tt
  returned_known (Some (pure (core.unary op a))) e s = tt
  returned_known (Some (pure (core.binary op a c))) e s = tt
  returned_known (Some (move v)) e s = tt
  returned_known (Some (pack x states)) e s = tt
  returned_known None e s = tt

  new_operand : (ids : Ids) (t : ℕ) (args : List ℕ) (o : Operand) → new_result_broken p f ids t args o ≡ [] → AreKnown (operand_rows p f o)
  new_operand ids t args (pure (core.var x)) r = tt
  new_operand ids t args (pure (core.number z)) r = tt
  new_operand ids t args (pure (core.truth z)) r = tt
  new_operand ids t args (pure (core.field x i)) r = absurd (filled_not_empty rule.WRONG_TYPE _ r)
  new_operand ids t args (pure (core.unary op a)) r = absurd (filled_not_empty rule.WRONG_TYPE _ r)
  new_operand ids t args (pure (core.binary op a c)) r = absurd (filled_not_empty rule.WRONG_TYPE _ r)
  new_operand ids t args (move v) r = absurd (filled_not_empty rule.WRONG_TYPE _ r)
  new_operand ids t args (pack x s) r = absurd (filled_not_empty rule.WRONG_TYPE _ r)

  typed_operand : (ids : Ids) (ty : Ty) (o : Operand) → IsMaskedOperand o → returned_broken p f ids ty o ≡ [] → AreKnown (operand_rows p f o)
  typed_operand ids (tracked k t args) o m r = by (has_new k) r
    where
      has_new : ℕ → Bool
      has_new k = has (new_keys f) k

      by : (c : Bool) → (if c then new_result_broken p f ids t args o else operand_broken p f ids (Some (tracked k t args)) o) ≡ [] → AreKnown (operand_rows p f o)
      by true r = new_operand ids t args o r
      by false r = operand_known ids (Some (tracked k t args)) o m r
  typed_operand ids int o m r = operand_known ids (Some int) o m r
  typed_operand ids bool o m r = operand_known ids (Some bool) o m r
  typed_operand ids (owning s t args) o m r = operand_known ids (Some (owning s t args)) o m r
  typed_operand ids (guarded k t args) o m r = operand_known ids (Some (guarded k t args)) o m r
  typed_operand ids (variant t args) o m r = operand_known ids (Some (variant t args)) o m r
  typed_operand ids (owning_variant t args) o m r = operand_known ids (Some (owning_variant t args)) o m r

  value_operand : (ids : Ids) (result : Option Ty) (o : Option Operand) → IfSome o IsMaskedOperand → return_broken p f ids result o ≡ [] → AreKnown (on_option o (operand_rows p f))
  value_operand ids None None m r = tt
  value_operand ids (Some ty) None m r = tt
  value_operand ids None (Some o) m r = absurd (filled_not_empty rule.WRONG_RETURN _ r)
  value_operand ids (Some ty) (Some o) m r = typed_operand ids ty o m r

  -- of an instance, whose clause says its states
  pub return_known : (o : Option ℕ) → ((i : ℕ) (e : Entry) → slice_get (clause_of_instance p f o f.clause) i ≡ Some e → IfSome e.after IsSaid) →
      (ids : Ids) (value : Option Operand) → IfSome value IsMaskedOperand → return_broken p f ids f.result value ≡ [] → AreKnown (return_rows p (instance p f o) value)
  return_known o each ids value m r =
      joined _ (map away_row (tokens_of f))
      (joined _ (given_back_rows p (instance p f o))
      (joined (on_option value (operand_rows p f)) (new_rows p (instance p f o) value) (value_operand ids f.result value m r)
      (entries_known (returned_row p f value) (clause_of_instance p f o f.clause) (λ e s. returned_known value e s) each is_new))
      (mapped_known (λ e. row (a_key e.key) (wants_in (after_set p f e)) becomes_absent) (clause_of_instance p f o f.clause) (λ e s. record { wanted = (after_said e s).never; left = nothing }) each is_given_back))
      (away_known (tokens_of f))

  -- ---- statements with blocks

  pub arm_known : (v c : ℕ) (vs : List ℕ) → AreKnown (arm_rows p f v c vs)
  arm_known v c vs = joined _ (fill_rows f vs)
      (option_rows IsKnown (variant_of f v) _ (λ ty e. case_keys_rows p ty c IsKnown _ (λ d k i x at m from. record { wanted = nothing; left = (sets.listed ty.type c i d x at from).never })))
      (fill_known f vs)

  pub enter_known : (y z : ℕ) (left : List Tok) (body : core.Block) → AreKnown (rows_of p f left (core.focus y z body))
  enter_known y z left body = joined _ _ (guard_known f y wants_held becomes_lent nothing nothing)
      (all_key IsKnown (reference_of f z) _ (λ r e. record { wanted = nothing; left = (sets.released r.type).never }))

  pub leave_known : (y z : ℕ) → AreKnown (focus_end_rows p f y z)
  leave_known y z = joined (end_row p f z) _ (end_known p sets f z) (guard_known f y wants_lent comes_back nothing nothing)

  pub switch_known : (c : Bool) (v : ℕ) → AreKnown (if c then empty_row v ∷ [] else [])
  switch_known true v = (empty_known v, tt)
  switch_known false v = tt
