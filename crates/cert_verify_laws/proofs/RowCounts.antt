-- The rows of a statement that breaks no rule are few for its weight, and name tokens of the function alone.
use Rattle.std.proofs.Common.{◌≡◌, ◌≤◌, ◌+◌, ◌*◌, ◌==◌, ℕ, suc, nat_lt, Bool, true, false, if◌then◌else◌, List, [], ◌∷◌, ◌++◌, map, length, Option, Some, None, slice_get, refl, sym, subst, arith}
use Rattle.std.specs.Prelude.{filter}
use Rattle.std.specs.List.{flat_map, enumerate_from}
use Rattle.std.proofs.lemmas.List.Concat.{flat_map-cons}
use Rattle.vlt_core.specs.Core as core
use Rattle.vlt_core.specs.Core.{Ty, int, bool, tracked, owning, guarded, variant, owning_variant, Expr, Operand, pure, move, pack, a_key, Mode, Entry, Simple, Func, Program}
use Rattle.vlt_core.specs.Instances.{clause_of_instance, entry_of_instance, instance}
use Rattle.vlt_core.specs.Lookups.{first_state, var_type, is_owning, is_owning_var, owning_states, reference_of, guarded_of, VariantOf, KeyIn, variant_of, case_keys, is_new, is_given_back, after_set}
use Rattle.vlt_core.specs.Maps.{Wanted, wants_absent, wants_held, wants_in, After, becomes_absent, becomes_held, stays, away_row}
use Rattle.vlt_core.specs.Rows.{row, key_row, end_row, empty_row, fill_rows, on_option, touch_rows, expr_rows, operand_rows, operands_rows, called_row, called_rows, target_rows, tokens_of, returned_row, new_rows, given_back_rows, return_rows, simple_rows, rows_of, arm_rows, focus_end_rows}
use Rattle.vlt_core.specs.KindedHeads.{Rules, unless, has, parameters_of, new_keys}
use Rattle.vlt_core.specs.KindedScopes.{Ids, own_key, use_broken, binding_broken, target_broken}
use Rattle.vlt_core.specs.KindedOperands.{move_broken, operand_broken, operands_broken}
use Rattle.vlt_core.specs.KindedStatements.{tracked_broken, made_broken, made_types, variant_args, payload_types, case_broken, is_variant_type, wanted_of, swap_broken, simple_broken}
use Rattle.vlt_core.specs.KindedCalls.{argument_type, gives_other_keys, argument_broken_by, arguments_broken, caller_type, caller_keys_broken, call_target_broken, target_alone_broken, call_broken, new_result_broken, returned_broken, return_broken}
use Rattle.vlt_core.specs.declared.rules.TheConstants as rule
use Rattle.vlt_core_laws.proofs.Good.{AllRows, reference_in, guard_in}
use Rattle.vlt_core_laws.proofs.Ids.{type_keys}
use Rattle.vlt_core_laws.proofs.Simple.{option_rows, case_keys_rows, variant_keys}
use Rattle.vlt_core_laws.proofs.Unbroken.{filled_not_empty, left_empty, right_empty, unless_holds}
use Rattle.cert_rows.specs.Parts.{All}
use Rattle.cert_fit_laws.proofs.Listed.{all_at}
use Rattle.cert_fit_laws.proofs.NarrowNumbers.{Bounds, all_flat, use_there}
use Rattle.cert_text_laws.specs.Weights.{reads, in_operand, in_operands, in_simple, in_return}
use Rattle.cert_verify_laws.proofs.Small.{is_own, IsOwnRow, Small, least, mapped_few, kept_few, all_kept, none_small, one_small, raised, joined, on_small, fill_small, tokens_small}

-- what the limits give of the program's clauses and cases
pub record FewListed (p : Program) : Type 0 where
  pub clauses : (g : ℕ) (h : Func) → slice_get p.fns g ≡ Some h → length h.clause ≤ 256
  pub cases : (v : VariantOf) (c : ℕ) → length (case_keys p v c) ≤ 16

twice : (a b : ℕ) → 2 * a + 2 * b ≤ 2 * (a + b)
twice a b = omega arith

after_forty : (n : ℕ) → n ≤ 40 + n
after_forty n = omega arith

up_to_forty : (m n : ℕ) → m ≤ 40 → n + m ≤ 40 + n
up_to_forty m n x = omega (arith, x)

few_one : 1 ≤ 1
few_one = omega arith

-- a few rows and no weight
few_alone : (m n : ℕ) → m ≤ 40 → m ≤ 40 + n
few_alone m n x = omega (arith, x)

small_number : (m : ℕ) → m ≤ 40 → m ≤ 40
small_number m x = x

module _ (p : Program) (f : Func) (b : Bounds p f) (ranged : (v k : ℕ) → has (type_keys f v) k ≡ true → nat_lt k (length f.keys) ≡ true) (listed : FewListed p) where
  key_small : (x : ℕ) (w : Wanted) (a : After) → Small f 1 (key_row f x w a)
  key_small x w a = on_small f (reference_of f x) _ (λ r e. reference_in (is_own f) f x (ranged x) r e)

  end_small : (x : ℕ) → Small f 1 (end_row p f x)
  end_small x = on_small f (reference_of f x) _ (λ r e. reference_in (is_own f) f x (ranged x) r e)

  touch_small : (x i : ℕ) → Small f 2 (touch_rows p f x i)
  touch_small x i = joined f 1 1 2 _ _
      (on_small f (reference_of f x) _ (λ r e. reference_in (is_own f) f x (ranged x) r e))
      (on_small f (guarded_of f x) _ (λ r e. guard_in (is_own f) f x (ranged x) r e)) (omega arith)

  pub expr_small : (e : Expr) → Small f (2 * reads e) (expr_rows p f e)
  expr_small (core.number z) = none_small f _
  expr_small (core.truth t) = none_small f _
  expr_small (core.var v) = none_small f _
  expr_small (core.field x i) = touch_small x i
  expr_small (core.unary op a) = expr_small a
  expr_small (core.binary op a c) = joined f (2 * reads a) (2 * reads c) (2 * (reads a + reads c)) (expr_rows p f a) (expr_rows p f c) (expr_small a) (expr_small c) (twice (reads a) (reads c))

  used_small : (ids : Ids) (v n : ℕ) → 1 ≤ n → use_broken f ids v ≡ [] → Small f n (empty_row v ∷ [])
  used_small ids v n few e = one_small f n (empty_row v) few (use_there p f b ids v e)

  operand_small : (ids : Ids) (w : Option Ty) (o : Operand) → operand_broken p f ids w o ≡ [] → Small f (2 * in_operand o) (operand_rows p f o)
  operand_small ids w (pure e) r = expr_small e
  operand_small ids w (move v) r = used_small ids v 2 (omega arith) (left_empty (use_broken f ids v) (move_broken w (var_type f v)) r)
  operand_small ids w (pack x states) r = raised f 1 2 _ (key_small x (wants_in states) becomes_absent) (omega arith)

  both_small : (o : Operand) (os : List Operand) → Small f (2 * in_operand o) (operand_rows p f o) → Small f (2 * in_operands os) (operands_rows p f os) → Small f (2 * in_operands (o ∷ os)) (operands_rows p f (o ∷ os))
  both_small o os x y =
      subst (Small f (2 * in_operands (o ∷ os))) (sym (flat_map-cons (operand_rows p f) o os))
      (joined f (2 * in_operand o) (2 * in_operands os) _ (operand_rows p f o) (operands_rows p f os) x y (twice (in_operand o) (in_operands os)))

  operands_small : (ids : Ids) (ws : List Ty) (os : List Operand) → operands_broken p f ids ws os ≡ [] → Small f (2 * in_operands os) (operands_rows p f os)
  operands_small ids ws [] r = none_small f 0
  operands_small ids [] (o ∷ os) r = both_small o os
      (operand_small ids None o (left_empty (operand_broken p f ids None o) (operands_broken p f ids [] os) r))
      (operands_small ids [] os (right_empty (operand_broken p f ids None o) (operands_broken p f ids [] os) r))
  operands_small ids (w ∷ ws) (o ∷ os) r = both_small o os
      (operand_small ids (Some w) o (left_empty (operand_broken p f ids (Some w) o) (operands_broken p f ids ws os) r))
      (operands_small ids ws os (right_empty (operand_broken p f ids (Some w) o) (operands_broken p f ids ws os) r))

  -- the keys that a case lists
  cases_small : (v c : ℕ) (wanted : KeyIn → Wanted) (left : KeyIn → After) → Small f 16 (on_option (variant_of f v) (λ t. map (λ k. row (a_key k.key) (wanted k) (left k)) (case_keys p t c)))
  cases_small v c wanted left = record {
    few = by (variant_of f v);
    own = option_rows (IsOwnRow f) (variant_of f v) _ (λ t e. case_keys_rows p t c (IsOwnRow f) _ (λ d k i x at m from. ranged v k (variant_keys f v t e k m)));
  }
    where
      by : (o : Option VariantOf) → length (on_option o (λ t. map (λ k. row (a_key k.key) (wanted k) (left k)) (case_keys p t c))) ≤ 16
      by None = least 16
      by (Some t) = mapped_few _ (case_keys p t c) 16 (listed.cases t c)

  -- ---- statements without blocks

  pub simple_small : (ids : Ids) (s : Simple) → simple_broken p f ids s ≡ [] → Small f (40 + 2 * in_simple s) (simple_rows p f s)
  simple_small ids (core.set v e) r = raised f _ _ _ (expr_small e) (after_forty _)
  simple_small ids (core.input v more) r = none_small f _
  simple_small ids (core.print e) r = raised f _ _ _ (expr_small e) (after_forty _)
  simple_small ids (core.put x i e) r = joined f (2 * reads e) 2 _ (expr_rows p f e) (touch_rows p f x i) (expr_small e) (touch_small x i) (up_to_forty 2 (2 * reads e) (omega arith))
  simple_small ids (core.make x args) r =
      joined f (2 * in_operands args) 1 _ (operands_rows p f args) _
      (operands_small ids (made_types p (var_type f x)) args (right_empty (made_broken p (length args) (var_type f x)) (operands_broken p f ids (made_types p (var_type f x)) args) (left_empty (made_broken p (length args) (var_type f x) ++ operands_broken p f ids (made_types p (var_type f x)) args) (binding_broken f ids (own_key f x) x) r)))
      (key_small x wants_absent (becomes_held (λ s. s == first_state))) (up_to_forty 1 (2 * in_operands args) (omega arith))
  simple_small ids (core.become x state) r = raised f 1 40 _ (key_small x wants_held (becomes_held (λ s. s == state))) (omega arith)
  simple_small ids (core.release x) r = raised f 1 40 _ (end_small x) (omega arith)
  simple_small ids (core.drop v) r = used_small ids v 40 (omega arith) (left_empty (use_broken f ids v) _ r)
  simple_small ids (core.own v o) r =
      let w = if is_owning_var f v then var_type f v else None in
      joined f (2 * in_operand o) 1 _ (operand_rows p f o) (fill_rows f (v ∷ []))
      (operand_small ids w o (right_empty (wanted_of (var_type f v) is_owning) (operand_broken p f ids w o) (left_empty _ (target_broken f ids v) r)))
      (fill_small f (v ∷ []) 1 few_one) (up_to_forty 1 (2 * in_operand o) (omega arith))
  simple_small ids (core.unpack x v) r =
      joined f 1 1 40 (empty_row v ∷ []) _
      (used_small ids v 1 few_one (left_empty (use_broken f ids v) _ (left_empty _ _ (left_empty _ _ (left_empty _ (binding_broken f ids (own_key f x) x) r)))))
      (by (owning_states f v)) (omega arith)
    where
      by : (o : Option core.States) → Small f 1 (on_option o (λ states. key_row f x wants_absent (becomes_held states)))
      by None = none_small f 1
      by (Some states) = key_small x wants_absent (becomes_held states)
  simple_small ids (core.build v c args) r =
      joined f (2 * in_operands args + 16) 1 _ (operands_rows p f args ++ _) (fill_rows f (v ∷ []))
      (joined f (2 * in_operands args) 16 _ (operands_rows p f args) _
      (operands_small ids (payload_types p (variant_args (var_type f v)) c) args
      (right_empty (wanted_of (var_type f v) is_variant_type ++ case_broken p c (length args) (variant_args (var_type f v))) (operands_broken p f ids (payload_types p (variant_args (var_type f v)) c) args)
      (left_empty _ (target_broken f ids v) r)))
      (cases_small v c (λ k. wants_in k.states) (λ k. becomes_absent)) (same _))
      (fill_small f (v ∷ []) 1 few_one) (enough (2 * in_operands args))
    where
      same : (n : ℕ) → n ≤ n
      same n = omega arith

      enough : (n : ℕ) → n + 16 + 1 ≤ 40 + n
      enough n = omega arith
  simple_small ids (core.swap x i v) r =
      joined f 2 1 40 (touch_rows p f x i) _ (touch_small x i)
      (one_small f 1 _ few_one (use_there p f b ids v (right_empty (tracked_broken f ids rule.WRONG_SWAP x) (use_broken f ids v) (left_empty (tracked_broken f ids rule.WRONG_SWAP x ++ use_broken f ids v) (swap_broken p f x i v) r))))
      (omega arith)
  simple_small ids (core.open_into x vs) r =
      joined f 1 (length vs) _ (end_row p f x) (fill_rows f vs) (end_small x) (fill_small f vs (length vs) (same (length vs))) (enough (length vs))
    where
      same : (n : ℕ) → n ≤ n
      same n = omega arith

      enough : (n : ℕ) → 1 + n ≤ 40 + 2 * n
      enough n = omega arith
  simple_small ids (core.adopt y x k) r = joined f 1 1 40 (end_row p f x) _ (end_small x) (key_small k wants_held stays) (omega arith)

  -- ---- calls

  argument_small : (ids : Ids) (w : Option Ty) (o : Operand) → argument_broken_by p f ids w o ≡ [] → Small f (2 * in_operand o) (operand_rows p f o)
  argument_small ids w o r = by (gives_other_keys w (argument_type p f o)) r
    where
      by : (t : Bool) → (if t then rule.TWO_CALLER_KEYS ∷ operand_broken p f ids None o else operand_broken p f ids w o) ≡ [] → Small f (2 * in_operand o) (operand_rows p f o)
      by true r = absurd (filled_not_empty rule.TWO_CALLER_KEYS (operand_broken p f ids None o) r)
      by false r = operand_small ids w o r

  arguments_small : (ids : Ids) (ws : List (Option Ty)) (os : List Operand) → arguments_broken p f ids ws os ≡ [] → Small f (2 * in_operands os) (operands_rows p f os)
  arguments_small ids ws [] r = none_small f 0
  arguments_small ids [] (o ∷ os) r = both_small o os
      (argument_small ids None o (left_empty (argument_broken_by p f ids None o) (arguments_broken p f ids [] os) r))
      (arguments_small ids [] os (right_empty (argument_broken_by p f ids None o) (arguments_broken p f ids [] os) r))
  arguments_small ids (w ∷ ws) (o ∷ os) r = both_small o os
      (argument_small ids w o (left_empty (argument_broken_by p f ids w o) (arguments_broken p f ids ws os) r))
      (arguments_small ids ws os (right_empty (argument_broken_by p f ids w o) (arguments_broken p f ids ws os) r))

  called_own : (k : ℕ) (e : Entry) → nat_lt k (length f.keys) ≡ true → IsOwnRow f (called_row p f k e)
  called_own k e own = by e.mode
    where
      by : (m : Mode) → IsOwnRow f (called_row p f k (record e { mode = m }))
      by core.kept = own
      by core.taken = own
      by core.given = own
      by core.fresh = own
      by (core.up_to n) = own

  clause_small : (keys : List ℕ) (es : List Entry) → All (λ k. nat_lt k (length f.keys) ≡ true) keys → Small f (length es) (called_rows p f keys es)
  clause_small keys [] own = none_small f 0
  clause_small keys (e ∷ es) own =
      joined f 1 (length es) (suc (length es)) _ (called_rows p f keys es) (by (slice_get keys e.key) refl) (clause_small keys es own) (one_more (length es))
    where
      one_more : (n : ℕ) → 1 + n ≤ suc n
      one_more n = omega arith

      by : (o : Option ℕ) → slice_get keys e.key ≡ o → Small f 1 (on_option o (λ k. called_row p f k e ∷ []))
      by None at = none_small f 1
      by (Some k) at = one_small f 1 (called_row p f k e) few_one (called_own k e (all_at (λ k. nat_lt k (length f.keys) ≡ true) keys e.key k own at))

  key_rules : List ℕ → Rules
  key_rules keys = flat_map (λ k. unless (nat_lt k (length f.keys)) rule.UNKNOWN_NAME) keys

  pub call_small : (ids : Ids) (c : ℕ) (target : Option ℕ) (keys : List ℕ) (os : List Operand) (left : List core.Tok) → call_broken p f ids (slice_get p.fns c) target keys os ≡ [] →
      Small f (300 + 2 * in_operands os) (rows_of p f left (core.call c target keys os))
  call_small ids c target keys os left r =
      joined f (2 * in_operands os + 256) 1 _ (operands_rows p f os ++ _) (target_rows f target) (by (slice_get p.fns c) refl r) (aim target) (enough (2 * in_operands os))
    where
      enough : (n : ℕ) → n + 256 + 1 ≤ 300 + n
      enough n = omega arith

      same : (n : ℕ) → n ≤ n
      same n = omega arith

      aim : (o : Option ℕ) → Small f 1 (target_rows f o)
      aim None = none_small f 1
      aim (Some v) = fill_small f (v ∷ []) 1 few_one

      by : (o : Option Func) → slice_get p.fns c ≡ o → call_broken p f ids o target keys os ≡ [] → Small f (2 * in_operands os + 256) (operands_rows p f os ++ on_option o (λ h. called_rows p f keys h.clause))
      by None at r = absurd (filled_not_empty rule.UNKNOWN_NAME (operands_broken p f ids [] os) (right_empty (flat_map (λ k. unless (nat_lt k (length f.keys)) rule.UNKNOWN_NAME) keys) (rule.UNKNOWN_NAME ∷ operands_broken p f ids [] os)
          (left_empty (flat_map (λ k. unless (nat_lt k (length f.keys)) rule.UNKNOWN_NAME) keys ++ (rule.UNKNOWN_NAME ∷ operands_broken p f ids [] os)) (target_alone_broken f ids target) r)))
      by (Some h) at r =
          let e1 = left_empty _ (call_target_broken f ids h keys target) r in
          let e2 = left_empty _ (caller_keys_broken f ids h (enumerate_from 0 keys)) e1 in
          let e3 = left_empty _ (arguments_broken p f ids (map (caller_type keys) (parameters_of h)) os) e2 in
          let own = all_flat (λ k. nat_lt k (length f.keys) ≡ true) (λ k. unless (nat_lt k (length f.keys)) rule.UNKNOWN_NAME) (λ k q. unless_holds (nat_lt k (length f.keys)) rule.UNKNOWN_NAME q) keys
          (left_empty (flat_map (λ k. unless (nat_lt k (length f.keys)) rule.UNKNOWN_NAME) keys) _ (left_empty _ _ (left_empty _ _ e3))) in
          joined f (2 * in_operands os) 256 _ (operands_rows p f os) (called_rows p f keys h.clause)
          (arguments_small ids (map (caller_type keys) (parameters_of h)) os (right_empty _ (arguments_broken p f ids (map (caller_type keys) (parameters_of h)) os) e2))
          (raised f (length h.clause) 256 _ (clause_small keys h.clause own) (listed.clauses c h at)) (same _)

  -- ---- statements with blocks

  pub switch_small : (ids : Ids) (v : ℕ) → use_broken f ids v ≡ [] → Small f 1 (if is_owning_var f v then empty_row v ∷ [] else [])
  switch_small ids v e = by (is_owning_var f v)
    where
      by : (c : Bool) → Small f 1 (if c then empty_row v ∷ [] else [])
      by true = used_small ids v 1 few_one e
      by false = none_small f 1

  pub arm_small : (v c : ℕ) (vs : List ℕ) → Small f (16 + length vs) (arm_rows p f v c vs)
  arm_small v c vs = joined f 16 (length vs) _ _ (fill_rows f vs) (cases_small v c (λ k. wants_absent) (λ k. becomes_held k.states)) (fill_small f vs (length vs) (same (length vs))) (same _)
    where
      same : (n : ℕ) → n ≤ n
      same n = omega arith

  pub enter_small : (y z : ℕ) (left : List core.Tok) (body : core.Block) → Small f 2 (rows_of p f left (core.focus y z body))
  enter_small y z left body = joined f 1 1 2 _ _
      (on_small f (guarded_of f y) _ (λ r e. guard_in (is_own f) f y (ranged y) r e))
      (on_small f (reference_of f z) _ (λ r e. reference_in (is_own f) f z (ranged z) r e)) (omega arith)

  pub leave_small : (y z : ℕ) → Small f 2 (focus_end_rows p f y z)
  leave_small y z = joined f 1 1 2 (end_row p f z) _ (end_small z) (on_small f (guarded_of f y) _ (λ r e. guard_in (is_own f) f y (ranged y) r e)) (omega arith)

  -- ---- returns

  returned_small : (ids : Ids) (value : Option Operand) → return_broken p f ids f.result value ≡ [] → Small f (2 * in_return value) (on_option value (operand_rows p f))
  returned_small ids None r = none_small f 0
  returned_small ids (Some o) r = by f.result r
    where
      new_small : (t : ℕ) (args : List ℕ) (o : Operand) → new_result_broken p f ids t args o ≡ [] → Small f (2 * in_operand o) (operand_rows p f o)
      new_small t args (pure e) r = expr_small e
      new_small t args (move v) r = absurd (filled_not_empty rule.WRONG_TYPE _ r)
      new_small t args (pack x s) r = absurd (filled_not_empty rule.WRONG_TYPE _ r)

      tracked_small : (c : Bool) (w : Ty) (t : ℕ) (args : List ℕ) → (if c then new_result_broken p f ids t args o else operand_broken p f ids (Some w) o) ≡ [] → Small f (2 * in_operand o) (operand_rows p f o)
      tracked_small true w t args r = new_small t args o r
      tracked_small false w t args r = operand_small ids (Some w) o r

      typed : (ty : Ty) → returned_broken p f ids ty o ≡ [] → Small f (2 * in_operand o) (operand_rows p f o)
      typed (tracked k t args) r = tracked_small (has (new_keys f) k) (tracked k t args) t args r
      typed int r = operand_small ids (Some int) o r
      typed bool r = operand_small ids (Some bool) o r
      typed (owning s t args) r = operand_small ids (Some (owning s t args)) o r
      typed (guarded k t args) r = operand_small ids (Some (guarded k t args)) o r
      typed (variant t args) r = operand_small ids (Some (variant t args)) o r
      typed (owning_variant t args) r = operand_small ids (Some (owning_variant t args)) o r

      by : (result : Option Ty) → return_broken p f ids result (Some o) ≡ [] → Small f (2 * in_operand o) (operand_rows p f o)
      by None r = absurd (filled_not_empty rule.WRONG_RETURN _ r)
      by (Some ty) r = typed ty r

  module _ (few : length f.clause ≤ 256) (own : All (λ (e : Entry). nat_lt e.key (length f.keys) ≡ true) f.clause) (o : Option ℕ) where
    abbrev made : Func
    made = instance p f o

    few_made : length (clause_of_instance p f o f.clause) ≤ 256
    few_made = by o
      where
        by : (o : Option ℕ) → length (clause_of_instance p f o f.clause) ≤ 256
        by None = few
        by (Some n) = mapped_few (entry_of_instance p f n) f.clause 256 few

    own_made : All (λ (e : Entry). nat_lt e.key (length f.keys) ≡ true) (clause_of_instance p f o f.clause)
    own_made = by o
      where
        each : (n : ℕ) (es : List Entry) → All (λ (e : Entry). nat_lt e.key (length f.keys) ≡ true) es → All (λ (e : Entry). nat_lt e.key (length f.keys) ≡ true) (map (entry_of_instance p f n) es)
        each n [] own = tt
        each n (e ∷ es) own = (own.0, each n es own.1)

        by : (o : Option ℕ) → All (λ (e : Entry). nat_lt e.key (length f.keys) ≡ true) (clause_of_instance p f o f.clause)
        by None = own
        by (Some n) = each n f.clause own

    stands_small : (value : Option Operand) (e : Entry) → Small f 1 (returned_row p made value e)
    stands_small None e = none_small f 1
    stands_small (Some (pure (core.var x))) e = key_small x _ becomes_absent
    stands_small (Some (pure (core.number z))) e = none_small f 1
    stands_small (Some (pure (core.truth c))) e = none_small f 1
    stands_small (Some (pure (core.field x i))) e = none_small f 1
    stands_small (Some (pure (core.unary op a))) e = none_small f 1
    stands_small (Some (pure (core.binary op a c))) e = none_small f 1
    stands_small (Some (move v)) e = none_small f 1
    stands_small (Some (pack x s)) e = none_small f 1

    each_stands : (value : Option Operand) (es : List Entry) → Small f (length es) (flat_map (returned_row p made value) es)
    each_stands value [] = none_small f 0
    each_stands value (e ∷ es) =
        subst (Small f (suc (length es))) (sym (flat_map-cons (returned_row p made value) e es))
        (joined f 1 (length es) (suc (length es)) (returned_row p made value e) (flat_map (returned_row p made value) es) (stands_small value e) (each_stands value es) (one_more (length es)))
      where
        one_more : (n : ℕ) → 1 + n ≤ suc n
        one_more n = omega arith

    given_small : Small f 256 (given_back_rows p made)
    given_small = record {
      few = mapped_few _ (filter is_given_back made.clause) 256 (kept_few is_given_back made.clause 256 few_made);
      own = each (filter is_given_back made.clause) (all_kept (λ (e : Entry). nat_lt e.key (length f.keys) ≡ true) is_given_back made.clause own_made);
    }
      where
        each : (es : List Entry) → All (λ (e : Entry). nat_lt e.key (length f.keys) ≡ true) es → AllRows (IsOwnRow f) (map (λ e. row (a_key e.key) (wants_in (after_set p made e)) becomes_absent) es)
        each [] own = tt
        each (e ∷ es) own = (own.0, each es own.1)

    pub return_small : (ids : Ids) (value : Option Operand) → return_broken p f ids f.result value ≡ [] → Small f (1100 + 2 * in_return value) (return_rows p made value)
    return_small ids value r =
        joined f (2 * in_return value + 256 + 256) 512 _ ((on_option value (operand_rows p made) ++ new_rows p made value) ++ given_back_rows p made) (map away_row (tokens_of made))
        (joined f (2 * in_return value + 256) 256 _ (on_option value (operand_rows p made) ++ new_rows p made value) (given_back_rows p made)
        (joined f (2 * in_return value) 256 _ (on_option value (operand_rows p made)) (new_rows p made value)
        (returned_small ids value r)
        (raised f (length (filter is_new made.clause)) 256 _ (each_stands value (filter is_new made.clause)) (kept_few is_new made.clause 256 few_made)) (same _))
        given_small (same _))
        (tokens_small f b.keys b.vars) (enough (2 * in_return value))
      where
        same : (n : ℕ) → n ≤ n
        same n = omega arith

        enough : (n : ℕ) → n + 256 + 256 + 512 ≤ 1100 + n
        enough n = omega arith
