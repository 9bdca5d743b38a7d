-- What is known of an external is known of each of its instances. Of a bound entry's key the instance has one state, which is
-- within the bound where the key has passed.
use Rattle.std.proofs.Common.{◌≡◌, ◌<◌, ◌≤◌, ℕ, zero, suc, ◌+◌, ◌==◌, ◌&&◌, Bool, true, false, if◌then◌else◌, List, [], ◌∷◌, map, filter, Option, Some, None, slice_get, Ok, refl, sym, ap, ◌∙◌, arith}
use Rattle.std.proofs.lemmas.Bool.{true≢false, eqb-true}
use Rattle.std.proofs.lemmas.Bool.Decides.{nat_tests}
use Rattle.std.specs.List.{range_with_len}
use Rattle.std.specs.Option.{option_map}
use Rattle.vlt_core.specs.Core as core
use Rattle.vlt_core.specs.Core.{States, Mode, Entry, Func, Program}
use Rattle.vlt_core.specs.Instances.{Bound, bound_at, or_else, bound_in, mode_of_instance, entry_of_instance, instance}
use Rattle.vlt_core.specs.Lookups.{before_set, after_set, key_states_up_to, is_held_after, is_after, is_before}
use Rattle.vlt_meaning.specs.World as source
use Rattle.vlt_meaning.specs.World.{Object}
use Rattle.vlt_meaning.specs.Found.{◌>>=◌, or_fault, Named}
use Rattle.vlt_meaning.specs.Objects.{in_states}
use Rattle.vlt_meaning.specs.Values.{held_object}
use Rattle.vlt_meaning.specs.Calls.{passed_object, passed_objects, entries_after}
use Rattle.c_lower_worlds.specs.Naming.Lists.{Each}
use Rattle.c_lower_worlds.proofs.OfNaming.RunningInstances.{instance_for, new_of}
use Rattle.c_lower_runs.proofs.ClauseKeys.{KeyParameter, HaveParameters, KeysNamed}
use Rattle.c_lower_runs.proofs.GlueParameters.{PlainParameters}
use Rattle.c_lower_runs.proofs.AnswerReading.{IsProper}
use Rattle.c_lower_worlds.proofs.OfNaming.FoundObjects.{then_ok, if_so_ok}
use Rattle.vlt_core_laws.proofs.Ids.{and_right}

-- What is asked of the states that an entry's object may have after a call: where an answer picks one, there is one, and all
-- are below 32; a bound entry's object keeps its state, which has passed.
abbrev pub IsProperEntry : Program → Func → Entry → Type 0
IsProperEntry p f e = by e.mode
  where
    by : Mode → Type 0
    by (core.up_to b) = (s : ℕ) → key_states_up_to p f e.key b s ≡ true → s < 32
    by m = IsProper (after_set p f e)

abbrev pub AreProper : Program → Func → List Entry → Type 0
AreProper p f es = Each (IsProperEntry p f) (filter is_held_after es)

-- ---- one state of a proper set

pub listed_one : (test : States) (n b v : ℕ) → b ≤ v → v < b + n → test v ≡ true → filter test (range_with_len b n) ≡ [] → ⊥
listed_one test zero b v l m e none = absurd (omega arith)
listed_one test (suc n) b v l m e none = by (b == v) refl (test b) refl none (λ k. listed_one test n (b + 1) v k (omega arith) e)
  where
    never : (xs : List ℕ) → b ∷ xs ≡ [] → ⊥
    never xs e = cc

    more : (b v : ℕ) → b ≤ v → (b == v) ≡ false → b + 1 ≤ v
    more b v l q = grind (arith, nat_tests)

    by : (c : Bool) → (b == v) ≡ c → (d : Bool) → test b ≡ d → (if d then b ∷ filter test (range_with_len (b + 1) n) else filter test (range_with_len (b + 1) n)) ≡ [] →
        (b + 1 ≤ v → filter test (range_with_len (b + 1) n) ≡ [] → ⊥) → ⊥
    by c q true h none later = never (filter test (range_with_len (b + 1) n)) none
    by true q false h none later = absurd (true≢false (sym e ∙ ap test (sym (eqb-true b v q)) ∙ h))
    by false q false h none later = later (more b v l q) none

one_proper : (test : States) (o s : ℕ) → ((i : ℕ) → test i ≡ true → i < 32) → ((s == o) && test s) ≡ true → IsProper (λ s. s == o && test s)
one_proper test o s low e = record {
  below = λ i h. low i (and_right (i == o) (test i) h);
  some = listed_one (λ s. s == o && test s) 32 0 s (omega arith) (let l = low s (and_right (s == o) (test s) e) in omega arith) e;
}

-- ---- the sets that an answer picks from

module _ (p : Program) (f : Func) (keys : List ℕ) (s : source.Frame) (os : List Object) where
  passed_in : (e : Entry) (m : Named) → passed_object p f keys s os e ≡ Ok m → (n : ℕ) × (before_set p f e n ≡ true)
  passed_in e m is =
      let a = then_ok (or_fault source.missing (slice_get keys e.key)) (λ k. held_object k s os >>= in_states (before_set p f e)) m is in
      let b = then_ok (held_object a.found s os) (in_states (before_set p f e)) m a.second in
      (b.found.object.state, (if_so_ok (before_set p f e b.found.object.state) source.wrong_state b.found m b.second).passes)

  bound_proper : (o : ℕ) (es : List Entry) (ns : List ℕ) → AreProper p f es → passed_objects p f keys s os (map (entry_of_instance p f o) es) ≡ Ok ns →
      Each (λ e. IsProper (after_set p f e)) (filter is_held_after (map (entry_of_instance p f o) es))
  bound_proper o [] ns h is = tt
  bound_proper o (e ∷ es) ns h is = by e.mode h is (bound_proper o es)
    where
      rest : List Entry
      rest = map (entry_of_instance p f o) es

      E : Mode → Entry
      E m = entry_of_instance p f o (record e { mode = m })

      following : (m : Mode) → (passed_object p f keys s os (E m) >>= (λ n. passed_objects p f keys s os rest >>= (λ ns. Ok (n.number ∷ ns)))) ≡ Ok ns → (ns : List ℕ) × (passed_objects p f keys s os rest ≡ Ok ns)
      following m is =
          let a = then_ok (passed_object p f keys s os (E m)) (λ n. passed_objects p f keys s os rest >>= (λ ns. Ok (n.number ∷ ns))) ns is in
          let b = then_ok (passed_objects p f keys s os rest) (λ ns. Ok (a.found.number ∷ ns)) ns a.second in
          (b.found, b.first)

      by : (m : Mode) → Each (IsProperEntry p f) (if is_after m then record e { mode = m } ∷ filter is_held_after es else filter is_held_after es) →
          (if is_before (mode_of_instance m) then (passed_object p f keys s os (E m) >>= (λ n. passed_objects p f keys s os rest >>= (λ ns. Ok (n.number ∷ ns)))) else passed_objects p f keys s os rest) ≡ Ok ns →
          ((ns : List ℕ) → AreProper p f es → passed_objects p f keys s os rest ≡ Ok ns → Each (λ e. IsProper (after_set p f e)) (filter is_held_after rest)) →
          Each (λ e. IsProper (after_set p f e)) (if is_after (mode_of_instance m) then E m ∷ filter is_held_after rest else filter is_held_after rest)
      by core.kept h is more = let r = following core.kept is in (h.0, more r.0 h.1 r.1)
      by core.taken h is more = let r = following core.taken is in more r.0 h r.1
      by core.given h is more = (h.0, more ns h.1 is)
      by core.fresh h is more = (h.0, more ns h.1 is)
      by (core.up_to b) h is more =
          let r = following (core.up_to b) is in
          let a = then_ok (passed_object p f keys s os (E (core.up_to b))) (λ n. passed_objects p f keys s os rest >>= (λ ns. Ok (n.number ∷ ns))) ns is in
          let q = passed_in (E (core.up_to b)) a.found a.first in
          (one_proper (key_states_up_to p f e.key b) o q.0 h.0 q.1, more r.0 h.1 r.1)

unbound_proper : (p : Program) (f : Func) (es : List Entry) → bound_in es ≡ None → AreProper p f es → Each (λ e. IsProper (after_set p f e)) (filter is_held_after es)
unbound_proper p f [] n h = tt
unbound_proper p f (e ∷ es) n h = by e.mode n h (unbound_proper p f es)
  where
    never : (b : Bound) → (let o : Option Bound = Some b in o ≡ None) → ⊥
    never b e = cc

    by : (m : Mode) → or_else (bound_at e.key m) (bound_in es) ≡ None → Each (IsProperEntry p f) (if is_after m then record e { mode = m } ∷ filter is_held_after es else filter is_held_after es) →
        (bound_in es ≡ None → AreProper p f es → Each (λ e. IsProper (after_set p f e)) (filter is_held_after es)) →
        Each (λ e. IsProper (after_set p f e)) (if is_after m then record e { mode = m } ∷ filter is_held_after es else filter is_held_after es)
    by core.kept n h more = (h.0, more n h.1)
    by core.taken n h more = more n h
    by core.given n h more = (h.0, more n h.1)
    by core.fresh n h more = (h.0, more n h.1)
    by (core.up_to b) n h more = absurd (never (record { key = e.key; state = b }) n)

-- where its keys have passed
pub proper_instance : (p : Program) (f : Func) (state : Bound → ℕ) (keys : List ℕ) (s : source.Frame) (os : List Object) (ns : List ℕ) → AreProper p f f.clause →
    passed_objects p (instance_for p f state) keys s os (instance_for p f state).clause ≡ Ok ns →
    Each (λ e. IsProper (after_set p (instance_for p f state) e)) (entries_after (instance_for p f state))
proper_instance p f state keys s os ns h = by (bound_in f.clause) refl
  where
    by : (b : Option Bound) → bound_in f.clause ≡ b → passed_objects p (instance p f (option_map state b)) keys s os (instance p f (option_map state b)).clause ≡ Ok ns →
        Each (λ e. IsProper (after_set p (instance p f (option_map state b)) e)) (entries_after (instance p f (option_map state b)))
    by None e is = unbound_proper p f f.clause e h
    by (Some b) e is = bound_proper p f keys s os (state b) f.clause ns h is

-- ---- parameters and keys

pub plain_instance : (p : Program) (f : Func) (o : Option ℕ) → PlainParameters f → PlainParameters (instance p f o)
plain_instance p f o h = record { plain = h.plain }

pub parameters_instance : (p : Program) (f : Func) (o : Option ℕ) → HaveParameters f f.clause → HaveParameters (instance p f o) (instance p f o).clause
parameters_instance p f o h = by o
  where
    one : (o : Option ℕ) (k : ℕ) → KeyParameter f k → KeyParameter (instance p f o) k
    one o k q = record { v = q.v; below = q.below; tracked = q.tracked }

    same : (es : List Entry) → HaveParameters f es → HaveParameters (instance p f None) es
    same [] h = tt
    same (e ∷ es) h = ((λ q. one None e.key (h.0 q)), same es h.1)

    mapped : (o : ℕ) (es : List Entry) → HaveParameters f es → HaveParameters (instance p f (Some o)) (map (entry_of_instance p f o) es)
    mapped o [] h = tt
    mapped o (e ∷ es) h = ((λ q. one (Some o) e.key (h.0 (sym (new_of e.mode) ∙ q))), mapped o es h.1)

    by : (o : Option ℕ) → HaveParameters (instance p f o) (instance p f o).clause
    by None = same f.clause h
    by (Some o) = mapped o f.clause h

pub named_instance : (p : Program) (f : Func) (o : Option ℕ) (keys : List ℕ) (s : source.Frame) (values : List source.Value) → KeysNamed f keys s values → KeysNamed (instance p f o) keys s values
named_instance p f o keys s values h = record { at = h.at }
