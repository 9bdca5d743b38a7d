-- A clause's bound entry is the only one, and its key has a type.
use Rattle.std.proofs.Common.{◌≡◌, inl, inr, ℕ, ◌≤◌, nat_lt, nat_le, Bool, true, false, not, if◌then◌else◌, List, [], ◌∷◌, length, Option, Some, None, refl, ap, arith, slice_get, ⊎_elim}
use Rattle.std.specs.Prelude.{filter}
use Rattle.std.proofs.lemmas.Bool.{cases_Bool, ltb-true}
use Rattle.std.proofs.lemmas.Bool.Decides.{nat_tests}
use Rattle.std.proofs.lemmas.Option.{slice_get_cases}
use Rattle.vlt_core.specs.Core.{Mode, kept, taken, given, fresh, up_to, Entry, Func, Program}
use Rattle.vlt_core.specs.Lookups.{key_type, key_type_in, is_before, is_held_before}
use Rattle.vlt_core.specs.Instances.{bound_at, or_else, bound_in}
use Rattle.vlt_core.specs.Kinded.{IsKinded}
use Rattle.vlt_core.specs.KindedHeads.{Rules, unless, is_bound_entry, names_states, are_all, given_types, entry_broken}
use Rattle.vlt_core.specs.declared.rules.TheConstants as rule
use Rattle.vlt_core_laws.proofs.Starting.{bound_is}
use Rattle.vlt_sound_worlds.proofs.Empty.{both_empty, unless_so}
use Rattle.vlt_sound_calls.specs.Among.{Among}
use Rattle.vlt_sound_calls.specs.Bounds.{HasBound}
use Rattle.vlt_sound_calls.proofs.Statics.{among_at}
use Rattle.vlt_sound.proofs.Rows.{flat_at}
use Rattle.vlt_sound.proofs.Vars.{HeadKinded, head_kinded, listed_agrees, is_listed, key_listed}
use Rattle.vlt_sound.proofs.HeadsLaws.{entry_types}

none_broken : (r : ℕ) (rs : Rules) → r ∷ rs ≡ [] → ⊥
none_broken r rs e = cc

few : (n : ℕ) → nat_le n 1 ≡ true → n ≤ 1
few n e = grind (arith, nat_tests)

module _ (p : Program) (f : Func) (head : HeadKinded p f) where
  -- a bound entry says states, so its key has a type
  entry_typed : (i : ℕ) (e : Entry) (b : ℕ) → slice_get f.clause i ≡ Some e → e.mode ≡ up_to b → (t : ℕ) × (key_type f e.key ≡ Some t)
  entry_typed i e b at is = ⊎_elim
      (λ lt.
      let q = rw lt at row in
      let types = (both_empty _ (entry_types p e (given_types p f e.key)) q).1 in
      ⊎_elim
      (λ d. by d.0.key_type (ap key_type_in d.2) (given_types p f e.key) types (key_listed p f head e.key d.0 d.2))
      (λ past. let le = past.0 in let l = ltb-true e.key (length f.keys) lt in absurd (omega arith))
      (slice_get_cases f.keys e.key).1)
      (λ past. let q = rw past at row in absurd (none_broken _ _ q))
      (cases_Bool (nat_lt e.key (length f.keys)))
    where
      row : entry_broken p f e ≡ []
      row = flat_at (entry_broken p f) f.clause i e head.entries at

      named : names_states e ≡ true
      named = of e.mode is
        where
          of : (m : Mode) → m ≡ up_to b → names_states (record e { mode = m }) ≡ true
          of (up_to c) q = refl
          of kept q = cc
          of taken q = cc
          of given q = cc
          of fresh q = cc

      by : (o : Option ℕ) → key_type f e.key ≡ o → (us : List ℕ) → entry_types p e us ≡ [] → listed_agrees o us ≡ [] → (t : ℕ) × (key_type f e.key ≡ Some t)
      by (Some t) typed us r l = (t, typed)
      by None typed [] r l = absurd (open_names (names_states e) named r)
        where
          open_names : (c : Bool) → c ≡ true → unless (not c) rule.STATES_UNTYPED ≡ [] → ⊥
          open_names true q r = none_broken _ _ r
          open_names false q r = cc
      by None typed (u ∷ us) r l = absurd (shut_at (are_all u us) l)
        where
          shut_at : (c : Bool) → (if c then is_listed None u else rule.TWO_KEY_TYPES ∷ []) ≡ [] → ⊥
          shut_at true e = none_broken _ _ e
          shut_at false e = none_broken _ _ e

  pub has_bound_of : HasBound f
  has_bound_of = record {
    only = λ e b i is.
        let q = among_at f.clause e i in
        bound_is f.clause (few (length (filter is_bound_entry f.clause)) (unless_so (nat_le (length (filter is_bound_entry f.clause)) 1) rule.SECOND_BOUND head.bounds)) q.0 e b q.1 is;
    typed = λ e b i is. let q = among_at f.clause e i in entry_typed q.0 e b q.1 is;
  }

pub has_bound : (p : Program) (g : ℕ) (f : Func) → IsKinded p → slice_get p.fns g ≡ Some f → HasBound f
has_bound p g f kinded at = has_bound_of p f (head_kinded p g f kinded at)

-- a clause that wants nothing has no bound entry
pub none_bound : (es : List Entry) → ((e : Entry) → Among e es → is_held_before e ≡ false) → bound_in es ≡ None
none_bound [] none = refl
none_bound (x ∷ es) none = by x.mode (none x (inl refl)) (none_bound es (λ e i. none e (inr i)))
  where
    by : (m : Mode) → is_before m ≡ false → bound_in es ≡ None → or_else (bound_at x.key m) (bound_in es) ≡ None
    by kept b rest = rest
    by taken b rest = rest
    by given b rest = rest
    by fresh b rest = rest
    by (up_to c) b rest = cc
