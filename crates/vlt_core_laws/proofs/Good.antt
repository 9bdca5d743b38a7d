-- Rows that name tokens in scope, lend nothing, and leave sets that have a state.
use Rattle.std.proofs.Common.{◌≡◌, ℕ, Bool, true, false, cond, ◌==◌, List, [], ◌∷◌, ◌++◌, map, Option, Some, None, refl, sym, subst}
use Rattle.std.specs.Prelude.{filter, IsTrue}
use Rattle.vlt_core.specs.Core.{States, Ty, int, bool, tracked, owning, guarded, variant, owning_variant, Tok, a_key, a_var, Func, Program}
use Rattle.vlt_core.specs.Lookups.{Reference, tracked_in, guarded_in, reference_of, guarded_of, is_owning_var, var_type}
use Rattle.vlt_core.specs.Maps.{Wanted, wants_absent, wants_held, wants_in, wants_full, After, becomes_absent, becomes_held, stays, becomes_full, Row}
use Rattle.vlt_core.specs.Rows.{row, on_key, key_row, end_row, empty_row, fill_rows, touch_rows}
use Rattle.vlt_core.specs.KindedHeads.{has}
use Rattle.vlt_core_laws.specs.Scoped.{AreInScope}
use Rattle.vlt_core_laws.specs.Tame.{IsPlainWanted, IsPlainAfter, ArePlain}
use Rattle.vlt_core_laws.specs.Shown.{IsFilled, IsOwnKind, AreFilled}
use Rattle.vlt_core_laws.proofs.Ids.{keys_in_type, type_keys, or_right}
use Rattle.vlt_core_laws.proofs.Unbroken.{some_same, some_not_none}
use Rattle.vlt_core_laws.proofs.Binding.{has_first}

pub record Good (g : Tok → Bool) (r : Row) : Type 0 where
  pub scoped : g r.tok ≡ true
  pub wanted : IsPlainWanted r.wanted
  pub after : IsPlainAfter r.after
  pub filled : IsFilled r.after
  pub own : IsOwnKind r.after r.tok

abbrev pub AllRows : (Row → Type 0) → List Row → Type 0
AllRows Q [] = Unit {0}
AllRows Q (r ∷ rs) = Q r × AllRows Q rs

pub in_scope : (g : Tok → Bool) (rs : List Row) → AllRows (Good g) rs → AreInScope g rs
in_scope g [] a = tt
in_scope g (r ∷ rs) a = (a.0.scoped, in_scope g rs a.1)

pub plain : (g : Tok → Bool) (rs : List Row) → AllRows (Good g) rs → ArePlain rs
plain g [] a = tt
plain g (r ∷ rs) a = (a.0.wanted, a.0.after, plain g rs a.1)

pub filled : (g : Tok → Bool) (rs : List Row) → AllRows (Good g) rs → AreFilled rs
filled g [] a = tt
filled g (r ∷ rs) a = (a.0.filled, a.0.own, filled g rs a.1)

-- ---- lists of rows

module _ (Q : Row → Type 0) where
  pub all_both : (rs ss : List Row) → AllRows Q rs → AllRows Q ss → AllRows Q (rs ++ ss)
  all_both [] ss a b = b
  all_both (r ∷ rs) ss a b = (a.0, all_both rs ss a.1 b)

  pub all_key : (o : Option Reference) (go : Reference → Row) → ((r : Reference) → o ≡ Some r → Q (go r)) → AllRows Q (on_key o go)
  all_key None go q = tt
  all_key (Some r) go q = (q r refl, tt)

  pub all_mapped : {A : Type 0} (go : A → Row) (xs : List A) → ((x : A) → Q (go x)) → AllRows Q (map go xs)
  all_mapped go [] q = tt
  all_mapped go (x ∷ xs) q = (q x, all_mapped go xs q)

  all_kept : (f : Func) (vs : List ℕ) → ((v : ℕ) → has vs v ≡ true → is_owning_var f v ≡ true → Q (row (a_var v) wants_absent becomes_full)) →
      AllRows Q (map (λ v. row (a_var v) wants_absent becomes_full) (filter (is_owning_var f) vs))
  all_kept f [] q = tt
  all_kept f (v ∷ vs) q = by (all_kept f vs (λ w h. q w (or_right (v == w) (has vs w) h))) (is_owning_var f v) refl
    where
      by : AllRows Q (map (λ v. row (a_var v) wants_absent becomes_full) (filter (is_owning_var f) vs)) → (b : Bool) → is_owning_var f v ≡ b →
          AllRows Q (map (λ v. row (a_var v) wants_absent becomes_full) (cond b (v ∷ filter (is_owning_var f) vs) (filter (is_owning_var f) vs)))
      by rest true o = (q v (has_first v vs) o, rest)
      by rest false o = rest

  pub all_filled : (f : Func) (vs : List ℕ) → ((v : ℕ) → has vs v ≡ true → is_owning_var f v ≡ true → Q (row (a_var v) wants_absent becomes_full)) → AllRows Q (fill_rows f vs)
  all_filled f vs q = all_kept f vs q

-- ---- rows one by one

module _ (g : Tok → Bool) where
  pub stays_good : (k : ℕ) (states : States) → g (a_key k) ≡ true → Good g (row (a_key k) (wants_in states) stays)
  stays_good k states e = record { scoped = e; wanted = tt; after = tt; filled = tt; own = tt }

  pub held_good : (k : ℕ) → g (a_key k) ≡ true → Good g (row (a_key k) wants_held stays)
  held_good k e = record { scoped = e; wanted = tt; after = tt; filled = tt; own = tt }

  pub gone_good : (k : ℕ) (states : States) → g (a_key k) ≡ true → Good g (row (a_key k) (wants_in states) becomes_absent)
  gone_good k states e = record { scoped = e; wanted = tt; after = tt; filled = tt; own = tt }

  pub made_good : (k : ℕ) (w : Wanted) (states : States) → IsPlainWanted w → g (a_key k) ≡ true → (s : ℕ) → IsTrue (states s) → Good g (row (a_key k) w (becomes_held states))
  made_good k w states p e s h = record { scoped = e; wanted = p; after = tt; filled = (s, h); own = tt }

  pub empty_good : (v : ℕ) → g (a_var v) ≡ true → Good g (empty_row v)
  empty_good v e = record { scoped = e; wanted = tt; after = tt; filled = tt; own = tt }

  pub fill_good : (v : ℕ) → g (a_var v) ≡ true → Good g (row (a_var v) wants_absent becomes_full)
  fill_good v e = record { scoped = e; wanted = tt; after = tt; filled = tt; own = tt }

  pub full_good : (v : ℕ) → g (a_var v) ≡ true → Good g (row (a_var v) wants_full becomes_full)
  full_good v e = record { scoped = e; wanted = tt; after = tt; filled = tt; own = tt }

  -- ---- references

  none_never : {P : Type 0} (r : Reference) → None ≡ Some r → P
  none_never r e = absurd (some_not_none r (sym e))

  reference_key : (o : Option Ty) (r : Reference) → tracked_in o ≡ Some r → has (keys_in_type o) r.key ≡ true
  reference_key (Some (tracked k t args)) r e = subst (λ r. has (k ∷ args) r.key ≡ true) (some_same _ r e) (has_first k args)
  reference_key (Some int) r e = none_never r e
  reference_key (Some bool) r e = none_never r e
  reference_key (Some (owning states t args)) r e = none_never r e
  reference_key (Some (guarded k t args)) r e = none_never r e
  reference_key (Some (variant t args)) r e = none_never r e
  reference_key (Some (owning_variant t args)) r e = none_never r e
  reference_key None r e = none_never r e

  guard_key : (o : Option Ty) (r : Reference) → guarded_in o ≡ Some r → has (keys_in_type o) r.key ≡ true
  guard_key (Some (guarded k t args)) r e = subst (λ r. has (k ∷ args) r.key ≡ true) (some_same _ r e) (has_first k args)
  guard_key (Some int) r e = none_never r e
  guard_key (Some bool) r e = none_never r e
  guard_key (Some (owning states t args)) r e = none_never r e
  guard_key (Some (tracked k t args)) r e = none_never r e
  guard_key (Some (variant t args)) r e = none_never r e
  guard_key (Some (owning_variant t args)) r e = none_never r e
  guard_key None r e = none_never r e

  -- the keys of a variable's type are in scope
  abbrev pub KeysIn : Func → (x : ℕ) → Type 0
  KeysIn f x = (k : ℕ) → has (type_keys f x) k ≡ true → g (a_key k) ≡ true

  pub reference_in : (f : Func) (x : ℕ) → KeysIn f x → (r : Reference) → reference_of f x ≡ Some r → g (a_key r.key) ≡ true
  reference_in f x keys r e = keys r.key (reference_key (var_type f x) r e)

  pub guard_in : (f : Func) (y : ℕ) → KeysIn f y → (r : Reference) → guarded_of f y ≡ Some r → g (a_key r.key) ≡ true
  guard_in f y keys r e = keys r.key (guard_key (var_type f y) r e)

  pub touch_good : (p : Program) (f : Func) (x i : ℕ) → KeysIn f x → AllRows (Good g) (touch_rows p f x i)
  touch_good p f x i keys =
      all_both (Good g) _ _ (all_key (Good g) (reference_of f x) _ (λ r e. stays_good r.key _ (reference_in f x keys r e)))
      (all_key (Good g) (guarded_of f x) _ (λ r e. held_good r.key (guard_in f x keys r e)))

  pub key_good : (f : Func) (x : ℕ) (w : Wanted) (a : After) → ((r : Reference) → reference_of f x ≡ Some r → Good g (row (a_key r.key) w a)) → AllRows (Good g) (key_row f x w a)
  key_good f x w a q = all_key (Good g) (reference_of f x) _ q

  pub end_good : (p : Program) (f : Func) (x : ℕ) → KeysIn f x → AllRows (Good g) (end_row p f x)
  end_good p f x keys = all_key (Good g) (reference_of f x) _ (λ r e. gone_good r.key _ (reference_in f x keys r e))
