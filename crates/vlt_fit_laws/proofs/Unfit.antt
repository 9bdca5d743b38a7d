-- Why a well-formed program of the code, of small sets and few parts, isn't unfit for the check.
use Rattle.std.proofs.Common.{◌≡◌, ◌<◌, zero, suc, ◌≤◌, ◌^◌, ◌*◌, ◌%◌, ◌-◌, ◌==◌, ℕ, false, nat_lt, IsTrue, List, [], ◌∷◌, map, length, Option, Some, None, slice_get, inl, inr, refl, sym, ap, ◌∙◌, subst, arith}
use Rattle.std.proofs.Math.Pow.{pow-lt, pow_pos}
use Rattle.std.proofs.lemmas.Bool.Decides.{nat_tests}
use Rattle.std.proofs.lemmas.Option.{none-some}
use Rattle.vlt_base.specs.States.{has_state}
use Rattle.vlt_base.specs.declared.states.StateSet.{StateSet}
use Rattle.vlt_base.proofs.Sets.{shifted_bit, first_filled, first_fits, first_bits}
use Rattle.vlt_core.specs.Core.{States, SetDecl, Mode, kept, taken, given, fresh, up_to, Entry, Func, Program}
use Rattle.vlt_core.specs.Lookups.{set_in, count_in, state_count, key_type, states_of_type, states_or_all, before_set}
use Rattle.vlt_core.specs.KindedHeads.{entry_broken}
use Rattle.vlt_core.specs.Instances.{instance, origin_states, entry_of_instance, IsOrigin, IsWithinBound}
use Rattle.vlt_core.specs.HeldView.{IsSetOf}
use Rattle.vlt_core.specs.View.{states_of, entry_of, func_of, program_of}
use Rattle.vlt_core.specs.declared.program.Entry.{Entry as CodeEntry}
use Rattle.vlt_core.specs.declared.program.Program.{Program as CodeProgram}
use Rattle.vlt_core.proofs.Entries.{bound_below, kept_so}
use Rattle.vlt_core_laws.proofs.Formed.{formed_bodies}
use Rattle.vlt_core_laws.proofs.Starting.{made_at, within_origin}
use Rattle.vlt_core_laws.proofs.Headed.{head_empty, entries_fit, each_at}
use Rattle.vlt_core_laws.proofs.Unbroken.{filled_not_empty, some_same}
use Rattle.vlt_flow.specs.Unfit as walk
use Rattle.vlt_flow_maps.specs.Unfit.{IsUnfitEntry, wide_entry, stray_entry, HasNoStart, many_keys, many_vars, unfit_entry}
use Rattle.vlt_check.specs.Unfit as unfit
use Rattle.vlt_check.specs.Unfit.{IsUnfitBody, no_walk, no_fault, IsUnfit, many_functions, unfit_body}
use Rattle.vlt_core_laws.specs.Fit.{IsWellFormed}
use Rattle.vlt_sound.specs.Sizes.{HasSizes}
use Rattle.vlt_fit_laws.specs.Fit.{HasFewParts}
use Rattle.vlt_fit_laws.specs.Unfit.{IsStillUnfit, wide_row, many_statements, no_number, HasUnfitBody, OnlyBodiesAreUnfit}

-- ---- sets of states

-- the set of the numbers below one from 1 to 32
first_set : (n : ℕ) → 1 ≤ n → n ≤ 32 → (s : StateSet) × (has_state s ≡ (λ i. nat_lt i n))
first_set n from within = (
  record { mask = 1 * 2 ^ n % 2 ^ 64 - 1; filled = first_filled n from within; small = first_fits n within },
  (λ j i. first_bits n i within j),
)

-- the set of one state
one_set : (o : ℕ) → o < 32 → (s : StateSet) × ◌≡◌ {A = States} (has_state s) (λ i. i == o)
one_set o small =
    let below : 2 ^ o < 2 ^ 32 = pow-lt small in
    let some : 0 < 2 ^ o = pow_pos o in
    (record { mask = 1 * 2 ^ o % 2 ^ 32; filled = omega (arith, below, some); small = omega (arith, below) }, λ j i. shifted_bit o i small j)

-- no set has just these states, but it does
wide_not : (n : ℕ) → 1 ≤ n → n ≤ 32 → IsSetOf (λ i. nat_lt i n) None → ⊥
wide_not n from within wide = let s = first_set n from within in wide s.0 s.1

module _ (p : Program) (formed : IsWellFormed p) (sizes : HasSizes p) where
  counted : (o : Option SetDecl) → ((d : SetDecl) → o ≡ Some d → length d.states ≤ 32) → count_in o ≤ 32
  counted None each = omega arith
  counted (Some d) each = each d refl

  few_states : (t : ℕ) → state_count p t ≤ 32
  few_states t = by (set_in (slice_get p.types t)) refl
    where
      by : (o : Option ℕ) → set_in (slice_get p.types t) ≡ o → state_count p t ≤ 32
      by None e = rw e (omega arith)
      by (Some i) e = rw e (counted (slice_get p.sets i) (λ d is. sizes.most i d is))

  some_state : (t : ℕ) → 1 ≤ state_count p t
  some_state t = let x = formed.states.all t in below (state_count p t) x.state x.has
    where
      below : (n i : ℕ) → IsTrue (nat_lt i n) → 1 ≤ n
      below n i h = grind (arith, nat_tests)

  type_set : (o : Option ℕ) → IsSetOf (states_of_type p o) None → ⊥
  type_set None wide = wide_not 32 (omega arith) (omega arith) wide
  type_set (Some t) wide = wide_not (state_count p t) (some_state t) (few_states t) wide

  -- an entry of the code
  entry_set : (f : Func) (e : CodeEntry) → IsSetOf (before_set p f (entry_of e)) None → ⊥
  entry_set f e = by e.before
    where
      by : (o : Option StateSet) → IsSetOf (states_or_all p f e.key.0 (states_of o)) None → ⊥
      by None wide = type_set (key_type f e.key.0) wide
      by (Some s) wide = wide s refl

  -- the same in an instance, where a bound entry names the one state
  made_set : (n : ℕ) (f : Func) (o i : ℕ) (e : CodeEntry) → slice_get p.fns n ≡ Some f → slice_get f.clause i ≡ Some (entry_of e) → IsOrigin p f (Some o) →
      IsSetOf (before_set p f (entry_of_instance p f o (entry_of e))) None → ⊥
  made_set n f o i e there at origin wide = by (entry_of e).mode refl wide
    where
      within : IsWithinBound p f (Some o) (entry_of e)
      within = within_origin p n f formed.states there formed.kinded o origin i (entry_of e) at

      one : (b : ℕ) → (entry_of e).mode ≡ up_to b → ⊥
      one b is =
          let s = one_set o (bound_below p f (Some o) (entry_of e) o b refl is within) in
          wide s.0 (s.1 ∙ ap (before_set p f) (kept_so p f (Some o) (entry_of e) o b refl is within))

      by : (m : Mode) → (entry_of e).mode ≡ m → IsSetOf (states_or_all p f e.key.0 (origin_states p f e.key.0 o m (states_of e.before))) None → ⊥
      by kept is w = entry_set f e w
      by taken is w = entry_set f e w
      by given is w = entry_set f e w
      by fresh is w = entry_set f e w
      by (up_to b) is w = one b is

  -- ---- keys of the clause

  in_range : (n : ℕ) (f : Func) (i : ℕ) (e : Entry) → slice_get p.fns n ≡ Some f → slice_get f.clause i ≡ Some e → length f.keys ≤ e.key → ⊥
  in_range n f i e there at stray =
      let h = head_empty p n f formed.kinded there in
      let row = each_at (entry_broken p f) f.clause i e (entries_fit p h.0 f h.1) at in
      let past : nat_lt e.key (length f.keys) ≡ false = grind (arith, nat_tests, stray) in
      filled_not_empty _ _ (rw past at row)

-- ---- programs of the code

below_is_within : (m n : ℕ) → m < n → m ≤ n
below_is_within m n below = omega (arith, below)

mapped : {A B : Type 0} (g : A → B) (xs : List A) (i : ℕ) (y : B) → slice_get (map g xs) i ≡ Some y → (x : A) × (y ≡ g x)
mapped g [] i y e = absurd (none-some y e)
mapped g (x ∷ xs) zero y e = (x, sym (some_same (g x) y e))
mapped g (x ∷ xs) (suc i) y e = mapped g xs i y e

module _ (c : CodeProgram) (formed : IsWellFormed (program_of c)) (sizes : HasSizes (program_of c)) (parts : HasFewParts (program_of c)) where
  abbrev p : Program
  p = program_of c

  plain_fits : (n : ℕ) (f : Func) (i : ℕ) (e : Entry) → slice_get p.fns n ≡ Some f → slice_get f.clause i ≡ Some e → IsUnfitEntry p f e → ⊥
  plain_fits n f i e there at (wide_entry wide) =
      let g = mapped func_of c.fns n f there in
      let d = mapped entry_of g.0.clause i e (subst (λ h. slice_get h.clause i ≡ Some e) g.1 at) in
      entry_set p formed sizes f d.0 (subst (λ x. IsSetOf (before_set p f x) None) d.1 wide)
  plain_fits n f i e there at (stray_entry stray) = in_range p formed sizes n f i e there at stray

  -- an entry of an instance
  entry_fits : (n : ℕ) (f : Func) (o : Option ℕ) (i : ℕ) (e : Entry) → slice_get p.fns n ≡ Some f → IsOrigin p f o → slice_get (instance p f o).clause i ≡ Some e →
      IsUnfitEntry p (instance p f o) e → ⊥
  entry_fits n f None i e there origin at u = plain_fits n f i e there at u
  entry_fits n f (Some o) i e there origin at (wide_entry wide) =
      let g = mapped func_of c.fns n f there in
      let d = made_at p f o f.clause i e at in
      let x = mapped entry_of g.0.clause i d.0 (subst (λ h. slice_get h.clause i ≡ Some d.0) g.1 d.1) in
      made_set p formed sizes n f o i x.0 there (d.1 ∙ ap Some x.1) origin
      (subst (λ x. IsSetOf (before_set p f x) None) (sym d.2 ∙ ap (entry_of_instance p f o) x.1) wide)
  entry_fits n f (Some o) i e there origin at (stray_entry stray) =
      let d = made_at p f o f.clause i e at in
      in_range p formed sizes n f i d.0 there d.1 (subst (λ x. length f.keys ≤ x.key) (sym d.2) stray)

  few_keys : (n : ℕ) (f : Func) → slice_get p.fns n ≡ Some f → 2 ^ 32 ≤ length f.keys → ⊥
  few_keys n f there many = let few = parts.keys n f there in omega (arith, many, few)

  few_vars : (n : ℕ) (f : Func) → slice_get p.fns n ≡ Some f → 2 ^ 32 ≤ length f.vars → ⊥
  few_vars n f there many = let few = parts.vars n f there in omega (arith, many, few)

  start_fits : (n : ℕ) (f : Func) (o : Option ℕ) → slice_get p.fns n ≡ Some f → IsOrigin p f o → HasNoStart p (instance p f o) → ⊥
  start_fits n f o there origin (many_keys q) = few_keys n f there q
  start_fits n f o there origin (many_vars q) = few_vars n f there q
  start_fits n f o there origin (unfit_entry i e at before u) = entry_fits n f o i e there origin at u

  walk_fits : (n : ℕ) (f : Func) (o : Option ℕ) → slice_get p.fns n ≡ Some f → IsOrigin p f o → walk.IsUnfit p (instance p f o) → IsStillUnfit p (instance p f o)
  walk_fits n f o there origin (walk.no_flow (inl wide)) = wide_row wide
  walk_fits n f o there origin (walk.no_flow (inr (inl q))) = absurd (few_keys n f there (below_is_within (2 ^ 32) (length f.keys) q))
  walk_fits n f o there origin (walk.no_flow (inr (inr q))) = absurd (few_vars n f there (below_is_within (2 ^ 32) (length f.vars) q))
  walk_fits n f o there origin (walk.no_start s) = absurd (start_fits n f o there origin s)
  walk_fits n f o there origin (walk.many_statements q) = many_statements q

  body_fits : (n : ℕ) (f : Func) → slice_get p.fns n ≡ Some f → f.external ≡ false → IsUnfitBody p f → HasUnfitBody p
  body_fits n f there body (no_walk o is u) =
      record { number = n; func = f; there = there; with_body = body; origin = o; is = is; unfit = walk_fits n f o there is u }
  body_fits n f there body (no_fault never) = absurd (never (λ o is.
      let q = formed_bodies p n f o formed there body is in record { fit = q.fit; start = q.start }))
  body_fits n f there body (unfit.no_number o is u) =
      record { number = n; func = f; there = there; with_body = body; origin = o; is = is; unfit = no_number u }

  pub by_bodies : IsUnfit p → HasUnfitBody p
  by_bodies (many_functions q) = let few = parts.functions in absurd (omega (arith, q, few))
  by_bodies (unfit_body n f there body u) = body_fits n f there body u

pub only_bodies : OnlyBodiesAreUnfit
only_bodies c fit u = by_bodies c fit.well_formed fit.sizes fit.few u
