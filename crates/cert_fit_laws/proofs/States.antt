-- Each set of states of a program of the code has a state.
use Rattle.std.proofs.Common.{◌≡◌, ◌≤◌, inl, inr, ℕ, nat_lt, true, map, length, Option, Some, None, slice_get, option_map, arith}
use Rattle.std.proofs.lemmas.Bool.Decides.{nat_tests}
use Rattle.std.proofs.lemmas.Option.{slice_get_cases, slice_get-map}
use Rattle.vlt_base.specs.States.{has_state}
use Rattle.vlt_base.specs.declared.states.StateSet.{StateSet}
use Rattle.vlt_core.proofs.Sets.{state_in}
use Rattle.vlt_core.specs.Core.{Program}
use Rattle.vlt_core.specs.Lookups.{set_in, state_count, all_states, release_set}
use Rattle.vlt_core.specs.Kinded.{IsKinded}
use Rattle.vlt_core.specs.View.{program_of, type_of}
use Rattle.vlt_core.specs.declared.program.Program as D
use Rattle.vlt_core.specs.declared.program.TypeDecl as DT
use Rattle.vlt_core.specs.declared.program.TypeDecl.TheVariants as decl
use Rattle.vlt_core_laws.specs.States.{HasStates, IsFilledSet}
use Rattle.vlt_core_laws.proofs.Headed.{kinded_parts}
use Rattle.cert_fit_laws.specs.Formed.{IsFormed}
use Rattle.cert_fit_laws.proofs.CodeSets.{owned_has, after_has, before_has, listed_has}
use Rattle.cert_fit_laws.proofs.Tables.{set_there, count_from, sets_there}

-- ---- all states

module _ (p : Program) (formed : IsFormed p) (kinded : IsKinded p) where
  counts : (o : Option ℕ) → set_there p o ≡ true → 1 ≤ count_from p o
  counts None is = omega arith
  counts (Some i) is = elim (slice_get_cases p.sets i).1 [ inl x ↦ rw (x.2) (formed.some_states i x.0 x.2) | inr x ↦ absurd (far x.0 is) ]
    where
      far : length p.sets ≤ i → nat_lt i (length p.sets) ≡ true → ⊥
      far past less = grind (arith, nat_tests)

  all_filled : (t : ℕ) → IsFilledSet (all_states p t)
  all_filled t = record { state = 0; has = below (state_count p t) (counts (set_in (slice_get p.types t)) (sets_there p (kinded_parts p kinded) t)) }
    where
      below : (n : ℕ) → 1 ≤ n → nat_lt 0 n ≡ true
      below n some = grind (arith, nat_tests)

-- ---- what the code says

pub set_filled : (s : StateSet) → IsFilledSet (has_state s)
set_filled s = let x = state_in s in record { state = x.0; has = x.2 }

module _ (p : D.Program) (formed : IsFormed (program_of p)) (kinded : IsKinded (program_of p)) where
  released : (t : ℕ) → IsFilledSet (release_set (program_of p) t)
  released t = by (slice_get p.types t) (slice_get-map type_of p.types t)
    where
      by : (o : Option DT.TypeDecl) → slice_get (map type_of p.types) t ≡ option_map type_of o → IsFilledSet (release_set (program_of p) t)
      by None at = rw (at) (all_filled (program_of p) formed kinded t)
      by (Some (decl.Abstract name set)) at = rw (at) (all_filled (program_of p) formed kinded t)
      by (Some (decl.Struct name header set release fields)) at = rw (at) (set_filled release)
      by (Some (decl.Variant name header cases)) at = rw (at) (all_filled (program_of p) formed kinded t)

  pub have_states : HasStates (program_of p)
  have_states = record {
    all = all_filled (program_of p) formed kinded;
    released = released;
    owned = owned_has IsFilledSet set_filled p;
    listed = λ t c i d k at is. listed_has IsFilledSet set_filled p t c i d k at is;
    after = after_has IsFilledSet set_filled p;
    before = before_has IsFilledSet set_filled p;
  }
