-- The rows of a moved function.
use mathlib.Core.Path.{fun_ext}
use Rattle.std.proofs.Common.{◌≡◌, ℕ, ◌==◌, nat_lt, Bool, ◌&&◌, if◌then◌else◌, List, [], ◌∷◌, ◌++◌, map, filter, Option, Some, None, slice_get, option_map, refl, ap, ap₂, ◌∙◌}
use Rattle.std.specs.List.{flat_map, list_any}
use Rattle.vlt_core.specs.Core.{States, Expr, number, truth, var, field, unary, binary, Operand, pure, move, pack, Tok, a_key, a_var, Simple, set, input, print, put, make, become, release, drop, own, unpack, build, swap, open_into, adopt, Mode, kept, taken, given, fresh, up_to, Entry, Func, Program}
use Rattle.vlt_core.specs.Lookups.{Reference, reference_of, guarded_of, VariantOf, variant_of, KeyIn, case_keys, owning_states, permitted_in, release_set, after_set, is_held_before, is_held_after, is_new, is_given_back, states_or_all, key_type, first_state}
use Rattle.vlt_core.specs.Maps.{Wanted, wants_absent, wants_held, wants_in, wants_full, After, becomes_absent, becomes_held, stays, becomes_full, Row, is_tok, away_row, absent, held, full}
use Rattle.vlt_core.specs.Rows.{row, on_key, key_row, end_row, empty_row, fill_rows, on_option, touch_rows, expr_rows, operand_rows, operands_rows, entry_wanted, entry_row, called_row, called_rows, target_rows, returned_row, new_rows, given_back_rows, return_rows, simple_rows, in_order, arm_rows}
use Rattle.vlt_core.specs.Derives.{status_at_start, start_map}
use Rattle.vlt_link_laws.specs.CoreMoves.Moves.{Moves, moved_func}
use Rattle.vlt_link_laws.specs.CoreMoves.Keeps.{Keeps}
use Rattle.vlt_link_laws.specs.CoreMoves.Knows.{IsType, IsStruct, OfReference, OfVariant, KnowsObject, KnowsExpr, KnowsOperand, KnowsOperands, KnowsSimple, KnowsReturned}
use Rattle.vlt_link_laws.proofs.OfCoreMoves.Looks.{moved_reference, moved_variant_of, reference_moves, guard_moves, variant_of_moves, same_owning_states, same_owning_var, same_tokens, same_permitted, same_release, same_case_keys, same_up_to, same_states_or_all}

module _ (m : Moves) where
  -- a row on a key that doesn't look at the type
  pub same_on_key : (o : Option Reference) (w : Wanted) (a : After) →
      on_key (option_map (moved_reference m) o) (λ r. row (a_key r.key) w a) ≡ on_key o (λ r. row (a_key r.key) w a)
  same_on_key None w a = refl
  same_on_key (Some r) w a = refl

  pub same_key_row : (f : Func) (x : ℕ) (w : Wanted) (a : After) → key_row (moved_func m f) x w a ≡ key_row f x w a
  same_key_row f x w a = ap (λ o. on_key o (λ r. row (a_key r.key) w a)) (reference_moves m f x) ∙ same_on_key (reference_of f x) w a

  pub same_fills : (f : Func) (vs : List ℕ) → fill_rows (moved_func m f) vs ≡ fill_rows f vs
  same_fills f vs = ap (λ test. map (λ v. row (a_var v) wants_absent becomes_full) (filter test vs)) (same_owning_var m f)

  pub same_target : (f : Func) (target : Option ℕ) → target_rows (moved_func m f) target ≡ target_rows f target
  same_target f None = refl
  same_target f (Some v) = same_fills f (v ∷ [])

  pub same_order : (f : Func) (ts : List Tok) → in_order (moved_func m f) ts ≡ in_order f ts
  same_order f ts = ap (filter (λ t. list_any (is_tok t) ts)) (same_tokens m f)

  module _ (p q : Program) (keeps : Keeps m p q) (f : Func) where
    -- ---- touches, expressions, operands

    -- a row on the key of an object of a struct
    pub same_struct_row : (o : Option Reference) → OfReference p o → (g h : Reference → Row) →
        ((r : Reference) → IsStruct p r.type → g (moved_reference m r) ≡ h r) → on_key (option_map (moved_reference m) o) g ≡ on_key o h
    same_struct_row None known g h same = refl
    same_struct_row (Some r) known g h same = ap (λ x. x ∷ []) (same r known)

    pub same_touch : (x i : ℕ) → KnowsObject p f x → touch_rows q (moved_func m f) x i ≡ touch_rows p f x i
    same_touch x i known =
        ap₂ (λ a b. a ++ b)
        (ap (λ o. on_key o (λ r. row (a_key r.key) (wants_in (permitted_in q r.type i)) stays)) (reference_moves m f x) ∙
        same_struct_row (reference_of f x) known _ _ (λ r s. ap (λ S. row (a_key r.key) (wants_in S) stays) (same_permitted m p q keeps r.type i s)))
        (ap (λ o. on_key o (λ r. row (a_key r.key) wants_held stays)) (guard_moves m f x) ∙ same_on_key (guarded_of f x) wants_held stays)

    pub same_end : (x : ℕ) → KnowsObject p f x → end_row q (moved_func m f) x ≡ end_row p f x
    same_end x known =
        ap (λ o. on_key o (λ r. row (a_key r.key) (wants_in (release_set q r.type)) becomes_absent)) (reference_moves m f x) ∙
        same_struct_row (reference_of f x) known _ _ (λ r s. ap (λ S. row (a_key r.key) (wants_in S) becomes_absent) (same_release m p q keeps r.type s))

    pub same_expr : (e : Expr) → KnowsExpr p f e → expr_rows q (moved_func m f) e ≡ expr_rows p f e
    same_expr (number z) known = refl
    same_expr (truth b) known = refl
    same_expr (var v) known = refl
    same_expr (field x i) known = same_touch x i known
    same_expr (unary op a) known = same_expr a known
    same_expr (binary op a b) known = ap₂ (λ x y. x ++ y) (same_expr a known.0) (same_expr b known.1)

    pub same_operand : (o : Operand) → KnowsOperand p f o → operand_rows q (moved_func m f) o ≡ operand_rows p f o
    same_operand (pure e) known = same_expr e known
    same_operand (move v) known = refl
    same_operand (pack x states) known = same_key_row f x (wants_in states) becomes_absent

    pub same_operands : (os : List Operand) → KnowsOperands p f os → operands_rows q (moved_func m f) os ≡ operands_rows p f os
    same_operands [] known = refl
    same_operands (o ∷ os) known = ap₂ (λ x y. x ++ y) (same_operand o known.0) (same_operands os known.1)

    -- ---- cases

    pub same_cases : (o : Option VariantOf) → OfVariant p o → (c : ℕ) (g : KeyIn → Row) →
        on_option (option_map (moved_variant_of m) o) (λ t. map g (case_keys q t c)) ≡ on_option o (λ t. map g (case_keys p t c))
    same_cases None known c g = refl
    same_cases (Some v) known c g = ap (map g) (same_case_keys m p q keeps v c known)

    pub same_case_rows : (v c : ℕ) → OfVariant p (variant_of f v) → (g : KeyIn → Row) →
        on_option (variant_of (moved_func m f) v) (λ t. map g (case_keys q t c)) ≡ on_option (variant_of f v) (λ t. map g (case_keys p t c))
    same_case_rows v c known g =
        ap (λ o. on_option o (λ t. map g (case_keys q t c))) (variant_of_moves m f v) ∙ same_cases (variant_of f v) known c g

    pub same_arm : (v c : ℕ) (vs : List ℕ) → OfVariant p (variant_of f v) → arm_rows q (moved_func m f) v c vs ≡ arm_rows p f v c vs
    same_arm v c vs known =
        ap₂ (λ x y. x ++ y) (same_case_rows v c known (λ k. row (a_key k.key) wants_absent (becomes_held k.states))) (same_fills f vs)

    -- ---- statements without blocks

    same_unpacked : (x : ℕ) (o : Option States) →
        on_option o (λ states. key_row (moved_func m f) x wants_absent (becomes_held states)) ≡ on_option o (λ states. key_row f x wants_absent (becomes_held states))
    same_unpacked x None = refl
    same_unpacked x (Some states) = same_key_row f x wants_absent (becomes_held states)

    pub same_simple : (s : Simple) → KnowsSimple p f s → simple_rows q (moved_func m f) s ≡ simple_rows p f s
    same_simple (set v e) known = same_expr e known
    same_simple (input v more) known = refl
    same_simple (print e) known = same_expr e known
    same_simple (put x i e) known = ap₂ (λ a b. a ++ b) (same_expr e known.0) (same_touch x i known.1)
    same_simple (make x args) known =
        ap₂ (λ a b. a ++ b) (same_operands args known) (same_key_row f x wants_absent (becomes_held (λ s. s == first_state)))
    same_simple (become x state) known = same_key_row f x wants_held (becomes_held (λ s. s == state))
    same_simple (release x) known = same_end x known
    same_simple (drop v) known = refl
    same_simple (own v value) known = ap₂ (λ a b. a ++ b) (same_operand value known) (same_fills f (v ∷ []))
    same_simple (unpack x v) known =
        ap (λ a. empty_row v ∷ a)
        (ap (λ o. on_option o (λ states. key_row (moved_func m f) x wants_absent (becomes_held states))) (same_owning_states m f v) ∙ same_unpacked x (owning_states f v))
    same_simple (build v c args) known =
        ap₂ (λ a b. a ++ b)
        (ap₂ (λ a b. a ++ b) (same_operands args known.0) (same_case_rows v c known.1 (λ k. row (a_key k.key) (wants_in k.states) becomes_absent)))
        (same_fills f (v ∷ []))
    same_simple (swap x i v) known = ap (λ a. a ++ row (a_var v) wants_full becomes_full ∷ []) (same_touch x i known)
    same_simple (open_into x vs) known = ap₂ (λ a b. a ++ b) (same_end x known) (same_fills f vs)
    same_simple (adopt y x r) known = ap₂ (λ a b. a ++ b) (same_end x known) (same_key_row f r wants_held stays)

    -- ---- calls, returns, and the map at the start

    module _ (types : (k t : ℕ) → key_type f k ≡ Some t → IsType p t) where
      same_all : (k : ℕ) (o : Option States) → states_or_all q (moved_func m f) k o ≡ states_or_all p f k o
      same_all = same_states_or_all m p q keeps f types

      same_entry : (k : ℕ) (e : Entry) → entry_row q (moved_func m f) k e ≡ entry_row p f k e
      same_entry k e =
          ap (λ S. row (a_key k) (entry_wanted e) (if is_held_after e then becomes_held S else becomes_absent)) (same_all k e.after)

      same_called : (k : ℕ) (e : Entry) → called_row q (moved_func m f) k e ≡ called_row p f k e
      same_called k e = by e.mode
        where
          by : (mode : Mode) → called_row q (moved_func m f) k (record e { mode = mode }) ≡ called_row p f k (record e { mode = mode })
          by kept = same_entry k (record e { mode = kept })
          by taken = same_entry k (record e { mode = taken })
          by given = same_entry k (record e { mode = given })
          by fresh = same_entry k (record e { mode = fresh })
          by (up_to b) = ap (λ S. row (a_key k) (wants_in S) stays) (same_up_to m p q keeps f types k b)

      same_called_by : (o : Option ℕ) (e : Entry) →
          on_option o (λ k. called_row q (moved_func m f) k e ∷ []) ≡ on_option o (λ k. called_row p f k e ∷ [])
      same_called_by None e = refl
      same_called_by (Some k) e = ap (λ r. r ∷ []) (same_called k e)

      pub same_clause : (keys : List ℕ) (es : List Entry) → called_rows q (moved_func m f) keys es ≡ called_rows p f keys es
      same_clause keys [] = refl
      same_clause keys (e ∷ es) = ap₂ (λ a b. a ++ b) (same_called_by (slice_get keys e.key) e) (same_clause keys es)

      same_returned : (value : Option Operand) (e : Entry) → returned_row q (moved_func m f) value e ≡ returned_row p f value e
      same_returned None e = refl
      same_returned (Some (move v)) e = refl
      same_returned (Some (pack x states)) e = refl
      same_returned (Some (pure (number z))) e = refl
      same_returned (Some (pure (truth b))) e = refl
      same_returned (Some (pure (field x i))) e = refl
      same_returned (Some (pure (unary op a))) e = refl
      same_returned (Some (pure (binary op a b))) e = refl
      same_returned (Some (pure (var x))) e =
          same_key_row f x (wants_in (after_set q (moved_func m f) e)) becomes_absent ∙
          ap (λ S. key_row f x (wants_in S) becomes_absent) (same_all e.key e.after)

      same_new : (value : Option Operand) → new_rows q (moved_func m f) value ≡ new_rows p f value
      same_new value = ap (λ g. flat_map g (filter is_new f.clause)) (fun_ext (same_returned value))

      same_given_back : given_back_rows q (moved_func m f) ≡ given_back_rows p f
      same_given_back =
          ap (λ (g : Entry → Row). map g (filter is_given_back f.clause))
          (fun_ext (λ e. ap (λ S. row (a_key e.key) (wants_in S) becomes_absent) (same_all e.key e.after)))

      same_value : (value : Option Operand) → KnowsReturned p f value → on_option value (operand_rows q (moved_func m f)) ≡ on_option value (operand_rows p f)
      same_value None known = refl
      same_value (Some o) known = same_operand o known

      pub same_return : (value : Option Operand) → KnowsReturned p f value → return_rows q (moved_func m f) value ≡ return_rows p f value
      same_return value known =
          ap₂ (λ a b. a ++ b)
          (ap₂ (λ a b. a ++ b) (ap₂ (λ a b. a ++ b) (same_value value known) (same_new value)) same_given_back)
          (ap (map away_row) (same_tokens m f))

      same_key_status : (k : ℕ) (es : List Entry) → status_at_start q (moved_func m f) es k ≡ status_at_start p f es k
      same_key_status k [] = refl
      same_key_status k (e ∷ es) =
          ap₂ (λ S rest. if is_held_before e && k == e.key then held S else rest) (same_all e.key e.before) (same_key_status k es)

      pub same_start : start_map q (moved_func m f) ≡ start_map p f
      same_start = fun_ext by
        where
          by : (t : Tok) → start_map q (moved_func m f) t ≡ start_map p f t
          by (a_key k) = same_key_status k f.clause
          by (a_var v) = ap (λ (test : ℕ → Bool). if nat_lt v f.params && test v then full else absent) (same_owning_var m f)
