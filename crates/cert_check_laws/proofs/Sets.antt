-- Each set of states that a certificate's program says is one of the code.
use Rattle.std.proofs.Common.{◌≡◌, ◌<◌, ◌≤◌, ◌*◌, ◌%◌, ◌-◌, ◌^◌, ◌==◌, inl, inr, ℕ, zero, suc, nat_lt, ◌&&◌, not, true, true≢false, List, [], ◌∷◌, length, Option, Some, None, IfSome, slice_get, refl, sym, subst, arith}
use Rattle.std.specs.List.{list_all}
use Rattle.std.proofs.lemmas.Bool.{and_from, and_parts, eq-eqb}
use Rattle.std.proofs.Math.Pow.{pow-lt, pow_pos}
use Rattle.std.proofs.lemmas.Bool.Decides.{nat_tests}
use Rattle.std.proofs.lemmas.Option.{slice_get_cases}
use Rattle.vlt_base.specs.States.{has_state}
use Rattle.vlt_base.specs.declared.states.StateSet.{StateSet}
use Rattle.vlt_base.proofs.Sets.{shifted_bit, first_filled, first_fits, first_bits}
use Rattle.vlt_core.specs.Core.{States, Link, FieldDecl, CaseDecl, CaseKey, TypeDecl, an_abstract, a_struct, a_variant, up_to, Entry, Func, Program}
use Rattle.vlt_core.specs.HeldView.{IsSetOf}
use Rattle.vlt_core.specs.Lookups.{set_in, state_count, all_states, leads_up, links_of_type, states_up_to, key_type, release_in, release_set, fields_in, fields_of, case_at, owning_states}
use Rattle.vlt_core.specs.Kinded.{HasKindedParts}
use Rattle.vlt_core.specs.View.{program_of}
use Rattle.vlt_core.specs.declared.program.Program.{Program as CodeProgram}
use Rattle.vlt_core_laws.proofs.Unbroken.{some_not_none, some_same}
use Rattle.cert_format.specs.Bounds.{is_state_of, is_bound_known, are_bounds_known}
use Rattle.cert_least_laws.proofs.OfBodies.Masking.{narrow_mask}
use Rattle.cert_rows.specs.Values.{mask_of, mask}
use Rattle.cert_fit_laws.specs.Formed.{IsFormed}
use Rattle.cert_fit_laws.proofs.CodeSets.{owned_has, after_has, before_has, listed_has}
use Rattle.cert_fit_laws.proofs.Listed.{all_at}
use Rattle.cert_fit_laws.proofs.Masked.{IsMaskedField, IsMaskedType, IsMaskedProgram}
use Rattle.cert_fit_laws.proofs.MaskedCode.{code_masked}
use Rattle.cert_fit_laws.proofs.Tables.{set_there, count_from, sets_there}

-- it can't be that no set of the code has just these states
pub record IsSaid (states : States) : Type 0 where
  pub never : IsSetOf states None → ⊥

pub code_said : (s : StateSet) → IsSaid (has_state s)
code_said s = record { never = λ wide. wide s refl }

some_bit : (n : ℕ) → not (n == 0) ≡ true → 0 < n
some_bit n some = grind (arith, nat_tests)

few_bits : (n : ℕ) → n ≤ 4294967295 → n < 2 ^ 32
few_bits n few = omega (arith, few)

pub mask_said : (states : States) → mask.Fits states → IsSaid states
mask_said states fits = record {
  never = λ wide. wide (record { mask = mask_of states; filled = some_bit (mask_of states) fits.0.1; small = few_bits (mask_of states) fits.0.0 }) fits.1;
}

-- the states below a number from 1 to 32
pub first_said : (n : ℕ) → 1 ≤ n → n ≤ 32 → IsSaid (λ i. nat_lt i n)
first_said n from within = record {
  never = λ wide. wide (record { mask = 1 * 2 ^ n % 2 ^ 64 - 1; filled = first_filled n from within; small = first_fits n within }) (λ j i. first_bits n i within j);
}

-- one state
pub one_said : (n : ℕ) → n < 32 → IsSaid (λ i. i == n)
one_said n small = record { never = λ wide. wide set (λ j i. shifted_bit n i small j) }
  where
    set : StateSet
    set =
        let below : 2 ^ n < 2 ^ 32 = pow-lt small in
        let some : 0 < 2 ^ n = pow_pos n in
        record { mask = 1 * 2 ^ n % 2 ^ 32; filled = omega (arith, below, some); small = omega (arith, below) }

-- ---- programs

-- the bound is a state of the key's type, and the states up to it are said
pub record IsKnownBound (p : Program) (f : Func) (key bound : ℕ) : Type 0 where
  pub type : ℕ
  pub typed : key_type f key ≡ Some type
  pub itself : states_up_to p type bound bound ≡ true
  pub below : IsSaid (states_up_to p type bound)

-- each set of states that the program says is one of the code
pub record HasSaid (p : Program) : Type 0 where
  pub all : (t : ℕ) → IsSaid (all_states p t)
  pub released : (t : ℕ) → IsSaid (release_set p t)
  pub fields : (t i : ℕ) (d : FieldDecl) → slice_get (fields_of p t) i ≡ Some d → IsSaid d.states
  pub owned : (g : ℕ) (f : Func) (v : ℕ) (states : States) → slice_get p.fns g ≡ Some f → owning_states f v ≡ Some states → IsSaid states
  pub listed : (t c i : ℕ) (d : CaseDecl) (k : CaseKey) → case_at p t c ≡ Some d → slice_get d.keys i ≡ Some k → IsSaid k.states
  pub after : (g : ℕ) (f : Func) (i : ℕ) (e : Entry) → slice_get p.fns g ≡ Some f → slice_get f.clause i ≡ Some e → IfSome e.after IsSaid
  pub before : (g : ℕ) (f : Func) (i : ℕ) (e : Entry) → slice_get p.fns g ≡ Some f → slice_get f.clause i ≡ Some e → IfSome e.before IsSaid
  pub bounds : (g : ℕ) (f : Func) (i : ℕ) (e : Entry) (b : ℕ) → slice_get p.fns g ≡ Some f → slice_get f.clause i ≡ Some e → e.mode ≡ up_to b → IsKnownBound p f e.key b

module _ (p : Program) (formed : IsFormed p) (kinded : HasKindedParts p) where
  counts : (o : Option ℕ) → set_there p o ≡ true → (1 ≤ count_from p o) × (count_from p o ≤ 32)
  counts None is = (omega arith, omega arith)
  counts (Some i) is =
      elim (slice_get_cases p.sets i).1 [ inl x ↦ rw (x.2) (formed.some_states i x.0 x.2, formed.few_states i x.0 x.2) | inr x ↦ absurd (far x.0 is) ]
    where
      far : length p.sets ≤ i → nat_lt i (length p.sets) ≡ true → ⊥
      far past less = grind (arith, nat_tests)

  pub few_states : (t : ℕ) → (1 ≤ state_count p t) × (state_count p t ≤ 32)
  few_states t = counts (set_in (slice_get p.types t)) (sets_there p kinded t)

  all_said : (t : ℕ) → IsSaid (all_states p t)
  all_said t = let few = few_states t in first_said (state_count p t) few.0 few.1

  module _ (masked : IsMaskedProgram p) where
    released_said : (t : ℕ) → IsSaid (release_set p t)
    released_said t = by (slice_get p.types t) refl
      where
        by : (o : Option TypeDecl) → slice_get p.types t ≡ o → IsSaid (release_in p t o)
        by None at = all_said t
        by (Some (an_abstract name set)) at = all_said t
        by (Some (a_struct d)) at = mask_said d.release (all_at IsMaskedType p.types t (a_struct d) masked.types at).0
        by (Some (a_variant d)) at = all_said t

    field_said : (t i : ℕ) (d : FieldDecl) → slice_get (fields_of p t) i ≡ Some d → IsSaid d.states
    field_said t i d is = by (slice_get p.types t) refl is
      where
        by : (o : Option TypeDecl) → slice_get p.types t ≡ o → slice_get (fields_in o) i ≡ Some d → IsSaid d.states
        by None at is = absurd (some_not_none d (sym is))
        by (Some (an_abstract name set)) at is = absurd (some_not_none d (sym is))
        by (Some (a_struct s)) at is = mask_said d.states (all_at IsMaskedField s.fields i d (all_at IsMaskedType p.types t (a_struct s) masked.types at).1 is).1
        by (Some (a_variant v)) at is = absurd (some_not_none d (sym is))

-- ---- bounds

-- states of which one is there and none is from 32 on
pub some_said : (states : States) → ((s : ℕ) → states s ≡ true → s < 32) → (i : ℕ) → states i ≡ true → IsSaid states
some_said states below i there = mask_said states (narrow_mask states (record { below = below }) i there)

low : (s : ℕ) → nat_lt s 32 ≡ true → s < 32
low s less = grind (arith, nat_tests)

pub up_to_low : (p : Program) (t b s : ℕ) → states_up_to p t b s ≡ true → s < 32
up_to_low p t b s there = low s (and_parts (nat_lt s 32) (all_states p t s && leads_up (links_of_type p t) 31 s b) there).0

leads_to_itself : (ls : List Link) (b : ℕ) → leads_up ls 31 b b ≡ true
unfolding leads_up
leads_to_itself ls b = rw (eq-eqb b b refl) refl

module _ (p : Program) (formed : IsFormed p) (kinded : HasKindedParts p) where
  up_to_itself : (t b : ℕ) → is_state_of p (Some t) b ≡ true → states_up_to p t b b ≡ true
  up_to_itself t b e = and_from (nat_lt b 32) (all_states p t b && leads_up (links_of_type p t) 31 b b) (small b (state_count p t) state (few_states p formed kinded t).1)
      (and_from (all_states p t b) (leads_up (links_of_type p t) 31 b b) state (leads_to_itself (links_of_type p t) b))
    where
      small : (b n : ℕ) → nat_lt b n ≡ true → n ≤ 32 → nat_lt b 32 ≡ true
      small b n less few = grind (arith, nat_tests)

      by : (o : Option ℕ) → set_in (slice_get p.types t) ≡ o → nat_lt b (state_count p t) ≡ true
      by None at = absurd (true≢false (sym (rw at at e)))
      by (Some i) at = rw at (rw at at e)

      state : all_states p t b ≡ true
      state = by (set_in (slice_get p.types t)) refl

  known_type : (f : Func) (k b : ℕ) (t : Option ℕ) → key_type f k ≡ t → is_state_of p t b ≡ true → IsKnownBound p f k b
  known_type f k b None typed e = absurd (true≢false (sym e))
  known_type f k b (Some t) typed e =
      let itself = up_to_itself t b e in
      record { type = t; typed = typed; itself = itself; below = some_said (states_up_to p t b) (up_to_low p t b) b itself }

  known_entry : (f : Func) (es : List Entry) → list_all (λ e. is_bound_known p f e.key e.mode) es ≡ true → (i : ℕ) (e : Entry) (b : ℕ) → slice_get es i ≡ Some e → e.mode ≡ up_to b → IsKnownBound p f e.key b
  known_entry f [] all i e b at mode = absurd (some_not_none e (sym at))
  known_entry f (x ∷ xs) all zero e b at mode =
      let both = and_parts (is_bound_known p f x.key x.mode) (list_all (λ e. is_bound_known p f e.key e.mode) xs) all in
      let own : is_bound_known p f e.key e.mode ≡ true = subst (λ e. is_bound_known p f e.key e.mode ≡ true) (some_same x e at) both.0 in
      known_type f e.key b (key_type f e.key) refl (subst (λ m. is_bound_known p f e.key m ≡ true) mode own)
  known_entry f (x ∷ xs) all (suc i) e b at mode =
      known_entry f xs (and_parts (is_bound_known p f x.key x.mode) (list_all (λ e. is_bound_known p f e.key e.mode) xs) all).1 i e b at mode

pub said : (p : CodeProgram) → IsFormed (program_of p) → HasKindedParts (program_of p) →
    ((g : ℕ) (f : Func) → slice_get (program_of p).fns g ≡ Some f → are_bounds_known (program_of p) f ≡ true) → HasSaid (program_of p)
said p formed kinded known = record {
  bounds = λ g f i e b there at mode. known_entry (program_of p) formed kinded f f.clause (known g f there) i e b at mode;
  all = all_said (program_of p) formed kinded;
  released = released_said (program_of p) formed kinded (code_masked p);
  fields = field_said (program_of p) formed kinded (code_masked p);
  owned = owned_has IsSaid code_said p;
  listed = λ t c i d k at is. listed_has IsSaid code_said p t c i d k at is;
  after = after_has IsSaid code_said p;
  before = before_has IsSaid code_said p;
}
