-- The states of entries, read one after another.
use Rattle.std.proofs.Common.{◌≡◌, ℕ, ℤ, true, false, if◌then◌else◌, List, ◌∷◌, filter, Option, None, Some, sym, ap, ◌∙◌, subst}
use Rattle.std.specs.Borrow.{Bor}
use Rattle.vlt_base.specs.declared.states.StateSet.{StateSet}
use Rattle.vlt_base.specs.States.{has_state}
use Rattle.vlt_core.specs.Core.{Entry, Func, Program}
use Rattle.vlt_core.specs.Lookups.{is_held_after, after_set}
use Rattle.vlt_meaning.specs.HostAnswers.{each, state_in}
use Rattle.vlt_externals.specs.HostAnswers.Read.{rest_of, left_in, AreSets}
use Rattle.vlt_externals.proofs.OfHostAnswers.Reading.{each_none, each_rest}
use Rattle.vlt_externals.proofs.OfHostAnswers.Instances.{skipped}

module _ (p : Program) (g : Func) where
  abbrev read_state : Entry → List ℤ → Option (ℕ × List ℤ)
  read_state e = state_in (after_set p g e)

  on_list : (e : Entry) (es : List Entry) → is_held_after e ≡ true → filter is_held_after (e ∷ es) ≡ e ∷ filter is_held_after es
  on_list e es on = ap (λ b. if b then e ∷ filter is_held_after es else filter is_held_after es) on

  pub entries_skip : (all : List Entry) (e : Entry) (es : List Entry) (zs : List ℤ) (r : Option (Bor (List ℤ))) → all ≡ e ∷ es → is_held_after e ≡ false → AreSets p g all
      → (AreSets p g es → left_in r ≡ rest_of (each (λ e. state_in (after_set p g e)) (filter is_held_after es) zs)) → left_in r ≡ rest_of (each (λ e. state_in (after_set p g e)) (filter is_held_after all) zs)
  entries_skip all e es zs r is off sets rest =
      subst (λ xs. left_in r ≡ rest_of (each read_state (filter is_held_after xs) zs)) (sym is)
      (subst (λ xs. left_in r ≡ rest_of (each read_state xs zs)) (sym (skipped e es off)) (rest (subst (AreSets p g) is sets).1))

  pub entries_none : (all : List Entry) (e : Entry) (es : List Entry) (zs : List ℤ) → all ≡ e ∷ es → is_held_after e ≡ true → AreSets p g all → ((s : StateSet) → has_state s ≡ after_set p g e → state_in (after_set p g e) zs ≡ None)
      → None ≡ rest_of (each (λ e. state_in (after_set p g e)) (filter is_held_after all) zs)
  entries_none all e es zs is on sets none =
      let set = (subst (AreSets p g) is sets).0 on in
      subst (λ xs. None ≡ rest_of (each read_state (filter is_held_after xs) zs)) (sym is)
      (subst (λ xs. None ≡ rest_of (each read_state xs zs)) (sym (on_list e es on)) (sym (ap rest_of (each_none read_state e (filter is_held_after es) zs (none set.0 set.1)))))

  pub entries_some : (all : List Entry) (e : Entry) (es : List Entry) (zs : List ℤ) (s : ℕ) (more : List ℤ) (r : Option (Bor (List ℤ))) → all ≡ e ∷ es → is_held_after e ≡ true → AreSets p g all → ((q : StateSet) → has_state q ≡ after_set p g e → state_in (after_set p g e) zs ≡ Some (s, more))
      → (AreSets p g es → left_in r ≡ rest_of (each (λ e. state_in (after_set p g e)) (filter is_held_after es) more)) → left_in r ≡ rest_of (each (λ e. state_in (after_set p g e)) (filter is_held_after all) zs)
  entries_some all e es zs s more r is on sets one rest =
      let both = subst (AreSets p g) is sets in
      let set = both.0 on in
      subst (λ xs. left_in r ≡ rest_of (each read_state (filter is_held_after xs) zs)) (sym is)
      (subst (λ xs. left_in r ≡ rest_of (each read_state xs zs)) (sym (on_list e es on)) (rest both.1 ∙ sym (each_rest read_state e (filter is_held_after es) zs s more (one set.0 set.1))))
