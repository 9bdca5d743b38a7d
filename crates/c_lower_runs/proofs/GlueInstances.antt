-- An external's glue is that of each of its instances, and asks for the states of all entries where none is bound.
use Rattle.std.proofs.Common.{◌≡◌, ◌<◌, ℕ, zero, suc, ◌+◌, ◌==◌, nat_le, ◌&&◌, not, Bool, true, false, if◌then◌else◌, List, [], ◌∷◌, ◌++◌, map, filter, length, Option, Some, None, refl, ap, ◌∙◌, arith}
use Rattle.std.proofs.lemmas.Bool.{eqb-true}
use Rattle.std.specs.List.{flat_map, range_with_len}
use Rattle.vlt_core.specs.Core as core
use Rattle.vlt_core.specs.Core.{States, Mode, Entry, Func, Program}
use Rattle.vlt_core.specs.Instances.{Bound, bound_at, or_else, bound_in, mode_of_instance, entry_of_instance, instance}
use Rattle.vlt_core.specs.KindedHeads.{is_bounded, is_bound_entry}
use Rattle.vlt_core.specs.Lookups.{after_set, is_held_after, is_after}
use Rattle.c_syntax.specs.declared.program.CPrim.TheVariants as prim
use Rattle.c_lower.specs.Statements.{runtime_call}
use Rattle.c_lower.specs.Glue.{var_arg, key_slot, is_taken, is_given, pick_state, pick_clause, states_in, glue_code}
use Rattle.c_lower_worlds.proofs.OfNaming.RunningInstances.{HasNoBound}

-- ---- one state is no choice

one_left : (test : States) (o n b : ℕ) → o < b → filter (λ s. s == o && test s) (range_with_len b n) ≡ []
one_left test o zero b l = refl
one_left test o (suc n) b l = by (b == o) refl (one_left test o n (b + 1) (omega arith))
  where
    by : (c : Bool) → (b == o) ≡ c → filter (λ s. s == o && test s) (range_with_len (b + 1) n) ≡ [] →
        (if c && test b then b ∷ filter (λ s. s == o && test s) (range_with_len (b + 1) n) else filter (λ s. s == o && test s) (range_with_len (b + 1) n)) ≡ []
    by false e h = h
    by true e h = absurd (none (eqb-true b o e))
      where
        none : b ≡ o → ⊥
        none q = omega arith

pub no_choice : (test : States) (o n b : ℕ) → nat_le 2 (length (filter (λ s. s == o && test s) (range_with_len b n))) ≡ false
no_choice test o zero b = refl
no_choice test o (suc n) b = by (b == o) refl (test b) (no_choice test o n (b + 1))
  where
    later : b ≡ o → filter (λ s. s == o && test s) (range_with_len (b + 1) n) ≡ []
    later q = one_left test o n (b + 1) (omega arith)

    by : (c : Bool) → (b == o) ≡ c → (d : Bool) → nat_le 2 (length (filter (λ s. s == o && test s) (range_with_len (b + 1) n))) ≡ false →
        nat_le 2 (length (if c && d then b ∷ filter (λ s. s == o && test s) (range_with_len (b + 1) n) else filter (λ s. s == o && test s) (range_with_len (b + 1) n))) ≡ false
    by false e d h = h
    by true e false h = h
    by true e true h = ap (λ xs. nat_le 2 (suc (length xs))) (later (eqb-true b o e))

pub not_picked : (test : States) (o : ℕ) → pick_state (λ s. s == o && test s) ≡ []
not_picked test o = ap (λ b. if b then runtime_call prim.Pick (Rattle.c_lower.specs.Glue.mask (states_in (λ s. s == o && test s)) ∷ []) ∷ [] else []) (no_choice test o 32 0)

-- ---- the glue of an instance

module _ (p : Program) (f : Func) (o : ℕ) where
  abbrev i : Func
  i = instance p f (Some o)

  chosen : (prm : _) (test : Mode → Bool) → ((m : Mode) → test (mode_of_instance m) ≡ test m) → (es : List Entry) →
      map (λ e. runtime_call prm (var_arg (key_slot p f e.key) ∷ [])) (filter (λ e. test e.mode) (map (entry_of_instance p f o) es)) ≡
      map (λ e. runtime_call prm (var_arg (key_slot p f e.key) ∷ [])) (filter (λ e. test e.mode) es)
  chosen prm test same [] = refl
  chosen prm test same (e ∷ es) = rw (same e.mode) (by (test e.mode) (chosen prm test same es))
    where
      by : (b : Bool) →
          map (λ e. runtime_call prm (var_arg (key_slot p f e.key) ∷ [])) (filter (λ e. test e.mode) (map (entry_of_instance p f o) es)) ≡
          map (λ e. runtime_call prm (var_arg (key_slot p f e.key) ∷ [])) (filter (λ e. test e.mode) es) →
          map (λ (e : Entry). runtime_call prm (var_arg (key_slot p f e.key) ∷ [])) (if b then entry_of_instance p f o e ∷ filter (λ e. test e.mode) (map (entry_of_instance p f o) es) else filter (λ e. test e.mode) (map (entry_of_instance p f o) es)) ≡
          map (λ (e : Entry). runtime_call prm (var_arg (key_slot p f e.key) ∷ [])) (if b then e ∷ filter (λ e. test e.mode) es else filter (λ e. test e.mode) es)
      by true h = ap (λ xs. runtime_call prm (var_arg (key_slot p f e.key) ∷ []) ∷ xs) h
      by false h = h

  taken_of : (m : Mode) → is_taken (mode_of_instance m) ≡ is_taken m
  taken_of core.kept = refl
  taken_of core.taken = refl
  taken_of core.given = refl
  taken_of core.fresh = refl
  taken_of (core.up_to b) = refl

  given_of : (m : Mode) → is_given (mode_of_instance m) ≡ is_given m
  given_of core.kept = refl
  given_of core.taken = refl
  given_of core.given = refl
  given_of core.fresh = refl
  given_of (core.up_to b) = refl

  picks_of : (es : List Entry) →
      flat_map (λ e. pick_state (after_set p i e)) (filter (λ e. is_held_after e && not (is_bound_entry e)) (map (entry_of_instance p f o) es)) ≡
      flat_map (λ e. pick_state (after_set p f e)) (filter (λ e. is_held_after e && not (is_bound_entry e)) es)
  picks_of [] = refl
  picks_of (e ∷ es) = by e.mode (picks_of es)
    where
      rest : List Entry
      rest = filter (λ e. is_held_after e && not (is_bound_entry e)) (map (entry_of_instance p f o) es)

      by : (m : Mode) → flat_map (λ e. pick_state (after_set p i e)) rest ≡ flat_map (λ e. pick_state (after_set p f e)) (filter (λ e. is_held_after e && not (is_bound_entry e)) es) →
          flat_map (λ e. pick_state (after_set p i e)) (if is_after (mode_of_instance m) && not (is_bounded (mode_of_instance m)) then entry_of_instance p f o (record e { mode = m }) ∷ rest else rest) ≡
          flat_map (λ e. pick_state (after_set p f e)) (if is_after m && not (is_bounded m) then record e { mode = m } ∷ filter (λ e. is_held_after e && not (is_bound_entry e)) es else filter (λ e. is_held_after e && not (is_bound_entry e)) es)
      by core.kept more = ap (λ xs. pick_state (after_set p f e) ++ xs) more
      by core.taken more = more
      by core.given more = ap (λ xs. pick_state (after_set p f e) ++ xs) more
      by core.fresh more = ap (λ xs. pick_state (after_set p f e) ++ xs) more
      by (core.up_to b) more = ap (λ xs. xs ++ flat_map (λ e. pick_state (after_set p i e)) rest) (not_picked (Rattle.vlt_core.specs.Lookups.key_states_up_to p f e.key b) o) ∙ more

pub glue_same : (p : Program) (f : Func) (o : Option ℕ) → glue_code p (instance p f o) ≡ glue_code p f
glue_same p f None = refl
glue_same p f (Some o) =
    rw (chosen p f o prim.Out is_taken (taken_of p f o) f.clause, picks_of p f o f.clause, chosen p f o prim.Back is_given (given_of p f o) f.clause) refl

-- ---- entries whose states are asked for

-- the entries of an instance that are held after are those that its glue reads states for
pub all_picked : (es : List Entry) → bound_in es ≡ None → filter (λ e. is_held_after e && not (is_bound_entry e)) es ≡ filter is_held_after es
all_picked [] e = refl
all_picked (x ∷ es) e = by x.mode e (all_picked es)
  where
    never : (b : Bound) → (let o : Option Bound = Some b in o ≡ None) → ⊥
    never b e = cc

    by : (m : Mode) → or_else (bound_at x.key m) (bound_in es) ≡ None → (bound_in es ≡ None → filter (λ e. is_held_after e && not (is_bound_entry e)) es ≡ filter is_held_after es) →
        (if is_after m && not (is_bounded m) then x ∷ filter (λ e. is_held_after e && not (is_bound_entry e)) es else filter (λ e. is_held_after e && not (is_bound_entry e)) es) ≡
        (if is_after m then x ∷ filter is_held_after es else filter is_held_after es)
    by core.kept e h = ap (λ xs. x ∷ xs) (h e)
    by core.taken e h = h e
    by core.given e h = ap (λ xs. x ∷ xs) (h e)
    by core.fresh e h = ap (λ xs. x ∷ xs) (h e)
    by (core.up_to b) e h = absurd (never (record { key = x.key; state = b }) e)

pub picks_all : (p : Program) (f : Func) → HasNoBound f → pick_clause p f ≡ flat_map (λ e. pick_state (after_set p f e)) (filter is_held_after f.clause)
picks_all p f e = ap (flat_map (λ e. pick_state (after_set p f e))) (all_picked f.clause e)
