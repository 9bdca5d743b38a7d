-- Entries of instances.
use Rattle.std.proofs.Common.{◌≡◌, ◌<◌, ◌*◌, ◌%◌, ◌^◌, ◌==◌, ◌&&◌, ℕ, Bool, true, false, IsTrue, if◌then◌else◌, List, [], ◌∷◌, filter, Option, None, Some, refl, sym, ap, ◌∙◌, subst, arith}
use Rattle.std.proofs.Math.Path.{fun_ext}
use Rattle.std.proofs.Math.Pow.{pow-lt, pow_pos}
use Rattle.std.proofs.lemmas.Bool.{eqb-true}
use Rattle.vlt_base.specs.declared.states.StateSet.{StateSet}
use Rattle.vlt_base.specs.States.{has_state}
use Rattle.vlt_base.proofs.Sets.{shifted_bit}
use Rattle.vlt_core.specs.Core.{Mode, kept, taken, given, fresh, up_to, Entry, Func, Program}
use Rattle.vlt_core.specs.Lookups.{is_held_after, after_set, key_states_up_to}
use Rattle.vlt_core.specs.Instances.{entry_of_instance, clause_of_instance, entry_in, IsWithinBound}
use Rattle.vlt_core.proofs.Entries.{up_below}
use Rattle.vlt_externals.specs.HostAnswers.Read.{AreSets, entries_in, AreWithin}

-- ---- the clause of an instance

pub clause_is : (p : Program) (g : Func) (o : Option ℕ) (es : List Entry) → entries_in p g o es ≡ clause_of_instance p g o es
clause_is p g None [] = refl
clause_is p g None (e ∷ es) = ap (λ l. e ∷ l) (clause_is p g None es)
clause_is p g (Some o) es = refl

-- the first entry, and the others
pub first_in : (p : Program) (g : Func) (o : Option ℕ) (all : List Entry) (e : Entry) (es : List Entry) (now : Entry) → all ≡ e ∷ es → now ≡ entry_in p g o e → entries_in p g o all ≡ now ∷ entries_in p g o es
first_in p g o all e es now is same = ap (entries_in p g o) is ∙ ap (λ x. x ∷ entries_in p g o es) (sym same)

pub first_within : (p : Program) (g : Func) (o : Option ℕ) (all : List Entry) (e : Entry) (es : List Entry) → all ≡ e ∷ es → AreWithin p g o all → IsWithinBound p g o e
first_within p g o all e es is within = (subst (AreWithin p g o) is within).0

pub more_within : (p : Program) (g : Func) (o : Option ℕ) (all : List Entry) (e : Entry) (es : List Entry) → all ≡ e ∷ es → AreWithin p g o all → AreWithin p g o es
more_within p g o all e es is within = (subst (AreWithin p g o) is within).1

-- an entry that isn't held after says nothing
pub skipped : (e : Entry) (es : List Entry) → is_held_after e ≡ false → filter is_held_after (e ∷ es) ≡ filter is_held_after es
skipped e es off = ap (λ b. if b then e ∷ filter is_held_after es else filter is_held_after es) off

-- ---- sets

-- one state
single : (n : ℕ) → n < 32 → (s : StateSet) × ((i : ℕ) → has_state s i ≡ (i == n))
single n small = (
  let below : 2 ^ n < 2 ^ 32 = pow-lt small in
      let some : 0 < 2 ^ n = pow_pos n in
      record { mask = 1 * 2 ^ n % 2 ^ 32; filled = omega (arith, below, some); small = omega (arith, below) },
  λ i. shifted_bit n i small,
)

-- the state alone, where it is one up to the bound
one_up : (p : Program) (g : Func) (k b o : ℕ) → IsTrue (key_states_up_to p g k b o) → (s : ℕ) → (s == o) ≡ (s == o && key_states_up_to p g k b s)
one_up p g k b o up s = by (s == o) refl
  where
    by : (c : Bool) → (s == o) ≡ c → c ≡ (c && key_states_up_to p g k b s)
    by false is = refl
    by true is = sym (ap (key_states_up_to p g k b) (eqb-true s o is) ∙ up)

single_up : (p : Program) (g : Func) (k b o : ℕ) → IsTrue (key_states_up_to p g k b o) → (s : StateSet) × (has_state s ≡ (λ i. i == o && key_states_up_to p g k b i))
single_up p g k b o up =
    let one = single o (up_below p g k b o up) in
    (one.0, fun_ext (λ i. one.1 i ∙ one_up p g k b o up i))

abbrev IsSetOfEntry : Program → Func → Entry → Type 0
IsSetOfEntry p g e = is_held_after e ≡ true → (s : StateSet) × (has_state s ≡ after_set p g e)

one_set : (p : Program) (g : Func) (o : ℕ) (e : Entry) → IsSetOfEntry p g e → IsWithinBound p g (Some o) e → IsSetOfEntry p g (entry_of_instance p g o e)
one_set p g o e set within = by e.mode set within
  where
    by : (m : Mode) → IsSetOfEntry p g (record e { mode = m }) → IsWithinBound p g (Some o) (record e { mode = m }) → IsSetOfEntry p g (entry_of_instance p g o (record e { mode = m }))
    by (up_to b) set within = λ on. single_up p g e.key b o (within b refl)
    by kept set within = set
    by taken set within = set
    by given set within = set
    by fresh set within = set

-- what the declared function says of states is a set, so what its instance says is one
pub sets_in : (p : Program) (g : Func) (o : Option ℕ) (es : List Entry) → AreWithin p g o es → AreSets p g es → AreSets p g (entries_in p g o es)
sets_in p g None [] within sets = tt
sets_in p g None (e ∷ es) within sets = (sets.0, sets_in p g None es within.1 sets.1)
sets_in p g (Some o) [] within sets = tt
sets_in p g (Some o) (e ∷ es) within sets = (one_set p g o e sets.0 within.0, sets_in p g (Some o) es within.1 sets.1)
