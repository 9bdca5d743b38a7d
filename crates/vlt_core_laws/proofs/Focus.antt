-- The rows of a focus, and what is in scope within it.
use Rattle.std.proofs.Common.{◌≡◌, ℕ, Bool, true, false, if◌then◌else◌, List, [], ◌∷◌, ◌++◌, length, Option, Some, None, refl, sym, ap, subst, ◌∙◌}
use Rattle.std.specs.Prelude.{nat_lt}
use Rattle.std.specs.Option.{option_map}
use Rattle.vlt_core.specs.Core.{Ty, int, bool, tracked, owning, guarded, variant, owning_variant, Tok, a_key, Func, Program}
use Rattle.vlt_core.specs.Lookups.{var_type, owns, is_owning_var, Reference, tracked_in, guarded_in, reference_of, guarded_of, release_set}
use Rattle.vlt_core.specs.Maps.{Row, absent, is_tok, row_passed, status_after, wants_absent, wants_held, wants_in, wants_lent, becomes_absent, becomes_held, becomes_lent, comes_back}
use Rattle.vlt_core.specs.Rows.{row, on_key}
use Rattle.vlt_core.specs.KindedHeads.{has}
use Rattle.vlt_core.specs.KindedScopes.{Ids, with_key, tracked_key, own_key, use_broken, binding_broken}
use Rattle.vlt_core.specs.KindedStatements.{wanted_of, is_guarded_type, is_tracked_type, objects_apart, guarded_object, tracked_type}
use Rattle.vlt_core.specs.KindedBodies.{with_focus, focus_broken}
use Rattle.vlt_core.specs.declared.rules.TheConstants as rule
use Rattle.vlt_core_laws.specs.Scoped.{AreInScope, LeavesAbsent}
use Rattle.vlt_core_laws.specs.Tame.{IsFocus}
use Rattle.vlt_core_laws.specs.Shown.{AreFilled}
use Rattle.vlt_core_laws.specs.States.{HasStates}
use Rattle.vlt_core_laws.proofs.Unbroken.{left_empty, right_empty, unless_holds}
use Rattle.vlt_core_laws.proofs.Ids.{type_keys, same_number, not_both}
use Rattle.vlt_core_laws.proofs.Binding.{in_range, var_there}
use Rattle.vlt_core_laws.proofs.Calls.{var_some}
use Rattle.vlt_core_laws.proofs.Listed.{tok_self}

-- what a focus is on: a guard and a key
pub record Focused (f : Func) (y z : ℕ) : Type 0 where
  pub guard : Reference
  pub held : Reference
  pub guarded : guarded_of f y ≡ Some guard
  pub tracked : reference_of f z ≡ Some held
  pub own : own_key f z ≡ Some held.key
  pub plain : is_owning_var f z ≡ false

guard_of : (o : Option Ty) (t : Ty) → o ≡ Some t → wanted_of o is_guarded_type ≡ [] → (r : Reference) × (guarded_in o ≡ Some r)
guard_of o t e w = subst (λ o. (r : Reference) × (guarded_in o ≡ Some r)) (sym e) (by t (subst (λ o. wanted_of o is_guarded_type ≡ []) e w))
  where
    by : (t : Ty) → wanted_of (Some t) is_guarded_type ≡ [] → (r : Reference) × (guarded_in (Some t) ≡ Some r)
    by (guarded k u args) w = (record { key = k; type = u }, refl)
    by int w = not_both false (unless_holds false rule.WRONG_TYPE w) refl
    by bool w = not_both false (unless_holds false rule.WRONG_TYPE w) refl
    by (tracked k u args) w = not_both false (unless_holds false rule.WRONG_TYPE w) refl
    by (owning s u args) w = not_both false (unless_holds false rule.WRONG_TYPE w) refl
    by (variant u args) w = not_both false (unless_holds false rule.WRONG_TYPE w) refl
    by (owning_variant u args) w = not_both false (unless_holds false rule.WRONG_TYPE w) refl

record Held (o : Option Ty) : Type 0 where
  pub reference : Reference
  pub is : tracked_in o ≡ Some reference
  pub own : tracked_key o ≡ Some reference.key
  pub plain : owns o ≡ false

held_of : (o : Option Ty) (t : Ty) → o ≡ Some t → wanted_of o is_tracked_type ≡ [] → Held o
held_of o t e w = subst Held (sym e) (by t (subst (λ o. wanted_of o is_tracked_type ≡ []) e w))
  where
    by : (t : Ty) → wanted_of (Some t) is_tracked_type ≡ [] → Held (Some t)
    by (tracked k u args) w = record { reference = record { key = k; type = u }; is = refl; own = refl; plain = refl }
    by int w = not_both false (unless_holds false rule.WRONG_TYPE w) refl
    by bool w = not_both false (unless_holds false rule.WRONG_TYPE w) refl
    by (guarded k u args) w = not_both false (unless_holds false rule.WRONG_TYPE w) refl
    by (owning s u args) w = not_both false (unless_holds false rule.WRONG_TYPE w) refl
    by (variant u args) w = not_both false (unless_holds false rule.WRONG_TYPE w) refl
    by (owning_variant u args) w = not_both false (unless_holds false rule.WRONG_TYPE w) refl

-- ---- the rows

abbrev enter_rows : Program → Option Reference → Option Reference → List Row
enter_rows p a b = on_key a (λ g. row (a_key g.key) wants_held becomes_lent) ++ on_key b (λ r. row (a_key r.key) wants_absent (becomes_held (release_set p r.type)))

abbrev leave_rows : Program → Option Reference → Option Reference → List Row
leave_rows p a b = on_key b (λ r. row (a_key r.key) (wants_in (release_set p r.type)) becomes_absent) ++ on_key a (λ g. row (a_key g.key) wants_lent comes_back)

pub record FocusRows (g : Tok → Bool) (rs es : List Row) (x : Tok) : Type 0 where
  pub enters : AreInScope g rs
  pub leaves : AreInScope g es
  pub shape : (t : Tok) × IsFocus rs es t
  pub fill : AreFilled rs
  pub empty : AreFilled es
  pub absent : LeavesAbsent x es

-- after the rows of its end the key is absent, whatever the guard is
left_absent : (p : Program) (a b : Reference) → LeavesAbsent (a_key b.key) (leave_rows p (Some a) (Some b))
left_absent p a b h = by (is_tok (a_key b.key) (a_key a.key)) refl
  where
    gone_key : (k : ℕ) → k ≡ b.key → row_passed (row (a_key b.key) (wants_in (release_set p b.type)) becomes_absent) h (a_key k) ≡ absent
    gone_key k e = ap (λ t. if is_tok t (a_key b.key) then absent else h t) (ap a_key e) ∙ ap (λ c. if c then absent else h (a_key b.key)) (tok_self (a_key b.key))

    by : (c : Bool) → is_tok (a_key b.key) (a_key a.key) ≡ c →
        (if c then status_after comes_back (row_passed (row (a_key b.key) (wants_in (release_set p b.type)) becomes_absent) h (a_key a.key)) else row_passed (row (a_key b.key) (wants_in (release_set p b.type)) becomes_absent) h (a_key b.key)) ≡ absent
    by true same = ap (status_after comes_back) (gone_key a.key (sym (same_number b.key a.key same)))
    by false other = gone_key b.key refl

focus_rows_by : (p : Program) (h : HasStates p) (g : Tok → Bool) (a b : Reference) → g (a_key a.key) ≡ true → g (a_key b.key) ≡ true →
    FocusRows g (enter_rows p (Some a) (Some b)) (leave_rows p (Some a) (Some b)) (a_key b.key)
focus_rows_by p h g a b sa sb = record {
  enters = (sa, (sb, tt));
  leaves = (sb, (sa, tt));
  shape = (a_key a.key, (refl, (tt, tt, tt), (tt, tt, tt), refl));
  fill = (tt, tt, (((h.released b.type).state, (h.released b.type).has), tt, tt));
  empty = (tt, tt, (tt, tt, tt));
  absent = left_absent p a b;
}

pub focus_rows : (p : Program) (f : Func) (h : HasStates p) (g : Tok → Bool) (y z : ℕ) (o : Focused f y z) → g (a_key o.guard.key) ≡ true → g (a_key o.held.key) ≡ true →
    FocusRows g (enter_rows p (guarded_of f y) (reference_of f z)) (leave_rows p (guarded_of f y) (reference_of f z)) (a_key o.held.key)
focus_rows p f h g y z o sa sb =
    subst (λ a. FocusRows g (enter_rows p a (reference_of f z)) (leave_rows p a (reference_of f z)) (a_key o.held.key)) (sym o.guarded)
    (subst (λ b. FocusRows g (enter_rows p (Some o.guard) b) (leave_rows p (Some o.guard) b) (a_key o.held.key)) (sym o.tracked) (focus_rows_by p h g o.guard o.held sa sb))

pub focused : (p : Program) (f : Func) (ranged : (v k : ℕ) → has (type_keys f v) k ≡ true → nat_lt k (length f.keys) ≡ true) (ids : Ids) (y z : ℕ) → focus_broken p f ids y z ≡ [] → Focused f y z
focused p f ranged ids y z e =
    let binding = right_empty _ (binding_broken f ids (own_key f z) z) e in
    let e4 = left_empty _ (objects_apart (guarded_object (var_type f y)) (tracked_type (var_type f z))) (left_empty _ (binding_broken f ids (own_key f z) z) e) in
    let wz = right_empty _ (wanted_of (var_type f z) is_tracked_type) e4 in
    let e2 = left_empty _ (wanted_of (var_type f z) is_tracked_type) e4 in
    let wy = right_empty (use_broken f ids y) (wanted_of (var_type f y) is_guarded_type) e2 in
    let uy = left_empty (use_broken f ids y) (wanted_of (var_type f y) is_guarded_type) e2 in
    let dy = var_some f y (in_range (nat_lt y (length f.vars)) _ uy) in
    let dz = var_some f z (var_there f ranged ids (own_key f z) z binding) in
    let a = guard_of (var_type f y) dy.0.ty (ap (option_map (λ d. d.ty)) dy.1) wy in
    let b = held_of (var_type f z) dz.0.ty (ap (option_map (λ d. d.ty)) dz.1) wz in
    record { guard = a.0; held = b.reference; guarded = a.1; tracked = b.is; own = b.own; plain = b.plain }

-- a focus binds nothing in the block at hand
pub focus_bound : (f : Func) (z : ℕ) (ids : Ids) → (with_focus f z ids).bound ≡ ids.bound
focus_bound f z ids = by_var (nat_lt z (length f.vars)) (with_key f (own_key f z) ids) ∙ by_fresh (own_key f z)
  where
    by_var : (b : Bool) (x : Ids) → (if b then record x { vars = z ∷ x.vars; vars_ever = z ∷ x.vars_ever } else x).bound ≡ x.bound
    by_var true x = refl
    by_var false x = refl

    by_key : (b : Bool) (k : ℕ) → (if b then record ids { keys = k ∷ ids.keys; keys_ever = k ∷ ids.keys_ever } else ids).bound ≡ ids.bound
    by_key true k = refl
    by_key false k = refl

    by_fresh : (o : Option ℕ) → (with_key f o ids).bound ≡ ids.bound
    by_fresh None = refl
    by_fresh (Some k) = by_key (nat_lt k (length f.keys)) k
