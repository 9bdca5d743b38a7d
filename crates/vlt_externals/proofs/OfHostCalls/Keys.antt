-- Keys that a call lists name objects.
use Rattle.std.proofs.Common.{◌≡◌, ℕ, suc, Bool, true, false, ◌&&◌, not, List, [], ◌∷◌, Some, refl, ap, ◌∙◌, slice_get}
use Rattle.std.specs.Option.{option_and_then}
use Rattle.std.proofs.lemmas.Bool.{false≢true}
use Rattle.vlt_core.specs.Core.{CaseKey, Mode, kept, taken, given, fresh, up_to, Entry, Func, Program}
use Rattle.vlt_core.specs.Lookups.{is_before, is_fresh, is_held_before, is_new}
use Rattle.vlt_meaning.specs.World.{Frame}
use Rattle.vlt_meaning_laws.specs.Machine.Reached.{NamesKeys}
use Rattle.vlt_externals.specs.Sent.{IsNamed, AreNamed}
use Rattle.vlt_externals.specs.Back.{AreGiven}
use Rattle.vlt_externals.specs.Results.Stated.{AreOldNamed, AreCaseObjects}
use Rattle.vlt_externals.specs.Results.Results.{NamesCases}
use Rattle.vlt_externals.specs.HostCalls.Heeded.{IsOldKey, StandsFor, ListsKeys}

right_false : (a b : Bool) → (a && not b) ≡ true → b ≡ false
right_false true true h = absurd (false≢true h)
right_false true false h = refl
right_false false b h = absurd (false≢true h)

before_old : (m : Mode) → is_before m ≡ true → is_fresh m ≡ false
before_old kept h = refl
before_old (up_to u) h = refl
before_old taken h = refl
before_old given h = absurd (false≢true h)
before_old fresh h = absurd (false≢true h)

module _ (p : Program) (g : Func) (keys : List ℕ) (frame : Frame) (lists : ListsKeys p g keys) (known : NamesKeys g keys frame) where
  -- entries whose keys are listed, but for those of new objects
  abbrev AreListed : List Entry → Type 0
  AreListed es = (i : ℕ) (e : Entry) → slice_get es i ≡ Some e → is_new e ≡ false → IsOldKey g keys e.key

  old_named : (e : Entry) → IsOldKey g keys e.key → IsNamed keys frame e
  old_named e old =
      let k = known e.key old.listed old.old in
      record { number = k.number; is = ap (option_and_then frame.keys) k.is ∙ k.named }

  given_in : (es : List Entry) → AreListed es → AreGiven keys frame es
  given_in [] all = tt
  given_in (e ∷ es) all = (
    λ h. old_named e (all 0 e refl (right_false (not (is_held_before e)) (is_new e) h)),
    given_in es (λ i f at old. all (suc i) f at old),
  )

  held_in : (es : List Entry) → AreListed es → AreOldNamed keys frame es
  held_in [] all = tt
  held_in (e ∷ es) all = (λ on old. old_named e (all 0 e refl old), held_in es (λ i f at old. all (suc i) f at old))

  named_in : (es : List Entry) → AreListed es → AreNamed keys frame es
  named_in [] all = tt
  named_in (e ∷ es) all = (λ h. old_named e (all 0 e refl (before_old e.mode h)), named_in es (λ i f at old. all (suc i) f at old))

  pub are_given : AreGiven keys frame g.clause
  are_given = given_in g.clause lists.entries

  pub are_held : AreOldNamed keys frame g.clause
  are_held = held_in g.clause lists.entries

  pub are_named : AreNamed keys frame g.clause
  are_named = named_in g.clause lists.entries

  objects_in_case : (args : List ℕ) (ks : List CaseKey) → ((i : ℕ) (k : CaseKey) → slice_get ks i ≡ Some k → StandsFor g keys args k) → (ns : List ℕ) × AreCaseObjects keys args frame ks ns
  objects_in_case args [] all = ([], tt)
  objects_in_case args (k ∷ ks) all =
      let s = all 0 k refl in
      let q = known s.key s.listed.listed s.listed.old in
      let r = objects_in_case args ks (λ i j at. all (suc i) j at) in
      (q.number ∷ r.0, (ap (λ x. option_and_then frame.keys (option_and_then (slice_get keys) x)) s.is ∙ ap (option_and_then frame.keys) q.is ∙ q.named, r.1))

  pub cases_named : NamesCases p g keys frame
  cases_named v is c d decl =
      let q = objects_in_case v.args d.keys (λ i k at. lists.cases v c i d k is decl at) in
      record { numbers = q.0; are = q.1 }
