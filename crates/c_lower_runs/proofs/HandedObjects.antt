-- The objects of a clause's keys are handed to a callee and back: no block is another one then.
use Rattle.std.proofs.Common.{◌≡◌, ℕ, suc, Bool, true, false, if◌then◌else◌, List, [], ◌∷◌, ◌++◌, Option, Some, None, slice_get, Ok, refl, sym, ap, ◌∙◌, subst}
use Rattle.std.specs.Option.{option_map, option_to_list, option_and_then}
use Rattle.std.proofs.lemmas.Option.{same_Some}
use Rattle.vlt_core.specs.Core.{Entry, Func, Program}
use Rattle.vlt_core.specs.Lookups.{is_held_before, before_set}
use Rattle.vlt_meaning.specs.World as source
use Rattle.vlt_meaning.specs.World.{held, Object}
use Rattle.vlt_meaning.specs.Found.{or_fault, Named, ◌>>=◌}
use Rattle.vlt_meaning.specs.Objects.{with_owner, with_changed_object, changed_in, in_states}
use Rattle.vlt_meaning.specs.Values.{held_object}
use Rattle.vlt_meaning.specs.Calls.{passed_object, passed_objects, handed_over, changed_if, caller_object, Binding, binding, bindings, with_holders}
use Rattle.vlt_meaning.specs.Externals.{named_objects}
use Rattle.c_lower_worlds.specs.Worlds.{blocks_of}
use Rattle.c_lower_worlds.specs.Shapes.{types_of, AreShaped}
use Rattle.c_lower_worlds.specs.Same.{HangsOnNothing, HangOnNothing}
use Rattle.c_lower_worlds.proofs.OfNaming.FoundObjects.{IsFree, OnlyFaults, then_ok, or_fault_ok, held_ok, held_free, held_faults, then_faults, or_faults, if_so_faults}
use Rattle.c_lower_worlds.proofs.BlockChanges.{held_alike}
use Rattle.c_lower_worlds.proofs.VariableValues.{owner_shaped, owner_types, get_set}

-- the object hangs on nothing and isn't out, if it is there
pub record StaysFree (os : List Object) (n : ℕ) : Type 0 where
  pub at : (o : Object) → slice_get os n ≡ Some o → IsFree o.owner

held_is_free : (d k : ℕ) → IsFree (held d k)
held_is_free d k = record { above = refl; out = refl; live = refl }

free_kept : (os : List Object) (n m d k : ℕ) → StaysFree os m → StaysFree (with_changed_object n (with_owner (held d k)) os) m
free_kept os n m d k h = record { at = λ o e. by (slice_get os n) o e }
  where
    by : (q : Option Object) (o : Object) → slice_get (changed_in n (with_owner (held d k)) os q) m ≡ Some o → IsFree o.owner
    by None o e = h.at o e
    by (Some q) o e = get_set os n m (with_owner (held d k) q) o e (λ o. IsFree o.owner) (held_is_free d k) (h.at o)

-- what a change of holders leaves
pub record SameBlocks (p : Program) (before after : List Object) : Type 0 where
  pub blocks : blocks_of p after ≡ blocks_of p before
  pub types : types_of after ≡ types_of before
  pub shaped : AreShaped p before → AreShaped p after
  pub free : (n : ℕ) → StaysFree before n → StaysFree after n

same_self : (p : Program) (os : List Object) → SameBlocks p os os
same_self p os = record { blocks = refl; types = refl; shaped = λ h. h; free = λ n h. h }

same_more : {p : Program} {a b c : List Object} → SameBlocks p a b → SameBlocks p b c → SameBlocks p a c
same_more x y = record { blocks = y.blocks ∙ x.blocks; types = y.types ∙ x.types; shaped = λ h. y.shaped (x.shaped h); free = λ n h. y.free n (x.free n h) }

held_same : (p : Program) (os : List Object) (n d k : ℕ) → StaysFree os n → SameBlocks p os (with_changed_object n (with_owner (held d k)) os)
held_same p os n d k h = record {
  blocks = held_alike p os n (held d k) h.at (held_is_free d k);
  types = owner_types os n (held d k);
  shaped = owner_shaped p os n (held d k);
  free = λ m. free_kept os n m d k;
}

-- ---- to the callee

pub passed_faults : (p : Program) (g : Func) (keys : List ℕ) (s : source.Frame) (os : List Object) (es : List Entry) → OnlyFaults (passed_objects p g keys s os es)
passed_faults p g keys s os [] = tt
passed_faults p g keys s os (e ∷ es) = by (is_held_before e) (passed_faults p g keys s os es)
  where
    one : OnlyFaults (passed_object p g keys s os e)
    one = then_faults (or_fault source.missing (slice_get keys e.key)) (λ k. held_object k s os >>= in_states (before_set p g e)) (or_faults source.missing (slice_get keys e.key))
        (λ k. then_faults (held_object k s os) (in_states (before_set p g e)) (held_faults k s os) (λ m. if_so_faults (before_set p g e m.object.state) source.wrong_state m))

    by : (b : Bool) → OnlyFaults (passed_objects p g keys s os es) →
        OnlyFaults (if b then (passed_object p g keys s os e >>= (λ n. passed_objects p g keys s os es >>= (λ ns. Ok (n.number ∷ ns)))) else passed_objects p g keys s os es)
    by true rest = then_faults (passed_object p g keys s os e) (λ n. passed_objects p g keys s os es >>= (λ ns. Ok (n.number ∷ ns))) one
        (λ n. then_faults (passed_objects p g keys s os es) (λ ns. Ok (n.number ∷ ns)) rest (λ ns. tt))
    by false rest = rest

-- so are the objects that an answer may bring back
pub named_faults : (keys : List ℕ) (s : source.Frame) (js : List ℕ) → OnlyFaults (named_objects keys s js)
named_faults keys s [] = tt
named_faults keys s (j ∷ js) =
    then_faults (or_fault source.missing (slice_get keys j)) (λ k. or_fault source.no_value (s.keys k) >>= (λ n. named_objects keys s js >>= (λ ns. Ok (n ∷ ns)))) (or_faults source.missing (slice_get keys j))
    (λ k. then_faults (or_fault source.no_value (s.keys k)) (λ n. named_objects keys s js >>= (λ ns. Ok (n ∷ ns))) (or_faults source.no_value (s.keys k))
    (λ n. then_faults (named_objects keys s js) (λ ns. Ok (n ∷ ns)) (named_faults keys s js) (λ ns. tt)))

record Passed (p : Program) (g : Func) (keys : List ℕ) (s : source.Frame) (os : List Object) (e : Entry) : Type 0 where
  number : ℕ
  caller : caller_object keys s e ≡ Some number
  free : StaysFree os number

passed_ok : (p : Program) (g : Func) (keys : List ℕ) (s : source.Frame) (os : List Object) (e : Entry) (m : Named) → passed_object p g keys s os e ≡ Ok m → Passed p g keys s os e
passed_ok p g keys s os e m is =
    let a = then_ok (or_fault source.missing (slice_get keys e.key)) (λ k. held_object k s os >>= in_states (before_set p g e)) m is in
    let b = then_ok (held_object a.found s os) (in_states (before_set p g e)) m a.second in
    let h = held_ok a.found s os b.found b.first in
    record {
      number = b.found.number;
      caller = ap (option_and_then s.keys) (or_fault_ok source.missing (slice_get keys e.key) a.found a.first) ∙ h.named;
      free = record { at = λ o at. subst (λ (o : Object). IsFree o.owner) (same_Some b.found.object o (sym h.at ∙ at)) (held_free s.depth a.found b.found.object.owner h.held) };
    }

pub handed_same : (p : Program) (g : Func) (keys : List ℕ) (s : source.Frame) (es : List Entry) (os : List Object) (ns : List ℕ) → passed_objects p g keys s os es ≡ Ok ns →
    SameBlocks p os (handed_over keys s es os)
handed_same p g keys s [] os ns is = same_self p os
handed_same p g keys s (e ∷ es) os ns is = by (is_held_before e) (λ ns. handed_same p g keys s es os ns) is
  where
    by : (b : Bool) → ((ns : List ℕ) → passed_objects p g keys s os es ≡ Ok ns → SameBlocks p os (handed_over keys s es os)) →
        (if b then (passed_object p g keys s os e >>= (λ n. passed_objects p g keys s os es >>= (λ ns. Ok (n.number ∷ ns)))) else passed_objects p g keys s os es) ≡ Ok ns →
        SameBlocks p os (if b then changed_if (caller_object keys s e) (with_owner (held (suc s.depth) e.key)) (handed_over keys s es os) else handed_over keys s es os)
    by false rest is = rest ns is
    by true rest is =
        let a = then_ok (passed_object p g keys s os e) (λ n. passed_objects p g keys s os es >>= (λ ns. Ok (n.number ∷ ns))) ns is in
        let b = then_ok (passed_objects p g keys s os es) (λ ns. Ok (a.found.number ∷ ns)) ns a.second in
        let q = passed_ok p g keys s os e a.found a.first in
        let later = rest b.found b.first in
        same_more later
        (subst (λ o. SameBlocks p (handed_over keys s es os) (changed_if o (with_owner (held (suc s.depth) e.key)) (handed_over keys s es os))) (sym q.caller)
        (held_same p (handed_over keys s es os) q.number (suc s.depth) e.key (later.free q.number q.free)))

-- ---- back to the caller

pub holders_same : (p : Program) (d : ℕ) (keys : List ℕ) (es : List Entry) (kept : List ℕ) (os : List Object) → HangOnNothing os kept →
    SameBlocks p os (with_holders d (bindings keys es kept) os)
holders_same p d keys es kept os h = all (bindings keys es kept) os (bound es kept h)
  where
    AllFree : List Object → List Binding → Type 0
    AllFree os [] = Unit {0}
    AllFree os (b ∷ bs) = StaysFree os b.number × AllFree os bs

    more : {a b : List Object} → SameBlocks p a b → (bs : List Binding) → AllFree a bs → AllFree b bs
    more x [] h = tt
    more x (b ∷ bs) h = (x.free b.number h.0, more x bs h.1)

    all : (bs : List Binding) (os : List Object) → AllFree os bs → SameBlocks p os (with_holders d bs os)
    all [] os h = same_self p os
    all (b ∷ bs) os h =
        let one = held_same p os b.number d b.key h.0 in
        same_more one (all bs (with_changed_object b.number (with_owner (held d b.key)) os) (more one bs h.1))

    free : (n : ℕ) → HangsOnNothing os n → StaysFree os n
    free n h = record { at = λ o at. subst (λ (o : Object). IsFree o.owner) (same_Some h.object o (sym h.at ∙ at)) (record { above = h.above; out = h.out; live = h.live }) }

    bound : (es : List Entry) (kept : List ℕ) → HangOnNothing os kept → AllFree os (bindings keys es kept)
    bound [] kept h = tt
    bound (e ∷ es) [] h = tt
    bound (e ∷ es) (n ∷ kept) h = one (slice_get keys e.key) (bound es kept h.1)
      where
        one : (k : Option ℕ) → AllFree os (bindings keys es kept) → AllFree os (option_to_list (option_map (binding n) k) ++ bindings keys es kept)
        one None rest = rest
        one (Some k) rest = (free n h.0, rest)
