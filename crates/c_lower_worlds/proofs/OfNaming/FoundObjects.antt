-- What steps of the source have found.
use Rattle.std.proofs.Common.{◌≡◌, ℕ, Bool, true, false, List, Option, Some, None, slice_get, Ok, Err, refl, sym, ap, ◌∙◌, subst}
use Rattle.std.proofs.lemmas.Bool.{eqb-true, false≢true}
use Rattle.vlt_core.specs.Core.{States, Func}
use Rattle.vlt_core.specs.Lookups.{Reference, reference_of}
use Rattle.vlt_meaning.specs.World as source
use Rattle.vlt_meaning.specs.World.{Value, one, reference, Owner, held, lent, loose, inside, adopted_by, out, gone, above, is_gone, is_out, is_held_under, is_adopted_by, Object, Frame, Reason, Outcome}
use Rattle.vlt_meaning.specs.Found.{Found, ◌>>=◌, or_fault, Named, if_so}
use Rattle.vlt_meaning.specs.Objects.{object_at, named_in, in_states}
use Rattle.vlt_meaning.specs.Values.{held_object, reference_in, tracked_object, object_of, guarded_object, object_after}

-- what isn't found is a fault
abbrev pub OnlyFaults : {A : Type 0} → Found A → Type 0
OnlyFaults (Ok a) = Unit {0}
OnlyFaults (Err o) = source.is_fault o ≡ true

-- an object of such an owner hangs on nothing, and isn't out
pub record IsFree (o : Owner) : Type 0 where
  pub above : above o ≡ None
  pub out : is_out o ≡ false
  pub live : is_gone o ≡ false

-- ---- one step after another

pub record ThenFound {A B : Type 0} (m : Found A) (go : A → Found B) (b : B) : Type 0 where
  pub found : A
  pub first : m ≡ Ok found
  pub second : go found ≡ Ok b

pub err_ok : {A : Type 0} (o : Outcome) (a : A) → (let r : Found A = Err o in r ≡ Ok a) → ⊥
err_ok o a e = cc

pub ok_same : {A : Type 0} (a b : A) → (let r : Found A = Ok a in r ≡ Ok b) → a ≡ b
ok_same a b e = cc

pub then_ok : {A B : Type 0} (m : Found A) (go : A → Found B) (b : B) → (m >>= go) ≡ Ok b → ThenFound m go b
then_ok (Ok a) go b e = record { found = a; first = refl; second = e }
then_ok (Err o) go b e = absurd (err_ok o b e)

pub or_fault_ok : {A : Type 0} (r : Reason) (o : Option A) (a : A) → or_fault r o ≡ Ok a → o ≡ Some a
or_fault_ok r None a e = absurd (err_ok (source.fault r None) a e)
or_fault_ok r (Some x) a e = ap (λ x. Some x) (ok_same x a e)

pub record PassesTest (test : Bool) (n m : Named) : Type 0 where
  pub passes : test ≡ true
  pub is : n ≡ m

pub if_so_ok : (test : Bool) (r : Reason) (n m : Named) → if_so test r n ≡ Ok m → PassesTest test n m
if_so_ok true r n m e = record { passes = refl; is = ok_same n m e }
if_so_ok false r n m e = absurd (err_ok (source.fault r (Some n.number)) m e)

pub record IsAt (objects : List Object) (n : ℕ) (m : Named) : Type 0 where
  pub number : n ≡ m.number
  pub at : slice_get objects m.number ≡ Some m.object

pub object_at_ok : (objects : List Object) (n : ℕ) (m : Named) → object_at objects n ≡ Ok m → IsAt objects n m
object_at_ok objects n m e = by (slice_get objects n) refl e
  where
    by : (o : Option Object) → slice_get objects n ≡ o → named_in n o ≡ Ok m → IsAt objects n m
    by None at e = absurd (err_ok (source.fault source.missing (Some n)) m e)
    by (Some o) at e =
        let same : record { number = n; object = o } ≡ m = ok_same (record { number = n; object = o }) m e in
        record { number = ap (λ q. q.number) same; at = ap (λ q. slice_get objects q.number) (sym same) ∙ at ∙ ap (λ q. Some q.object) same }

-- ---- objects that are held, and that references go to

pub record IsHeld (k : ℕ) (s : Frame) (objects : List Object) (m : Named) : Type 0 where
  pub named : s.keys k ≡ Some m.number
  pub at : slice_get objects m.number ≡ Some m.object
  pub held : is_held_under s.depth k m.object.owner ≡ true

pub held_free : (d k : ℕ) (o : Owner) → is_held_under d k o ≡ true → IsFree o
held_free d k (held e j) h = record { above = refl; out = refl; live = refl }
held_free d k (lent e j) h = absurd (false≢true h)
held_free d k loose h = absurd (false≢true h)
held_free d k (inside n) h = absurd (false≢true h)
held_free d k (adopted_by n) h = absurd (false≢true h)
held_free d k out h = absurd (false≢true h)
held_free d k gone h = absurd (false≢true h)

pub held_ok : (k : ℕ) (s : Frame) (objects : List Object) (m : Named) → held_object k s objects ≡ Ok m → IsHeld k s objects m
held_ok k s objects m e =
    let a = then_ok _ _ m e in
    let b = then_ok _ _ m a.second in
    let at = object_at_ok objects a.found b.found b.first in
    let q = if_so_ok _ source.not_held b.found m b.second in
    record {
      named = or_fault_ok source.no_value (s.keys k) a.found a.first ∙ ap (λ n. Some n) (at.number ∙ ap (λ q. q.number) q.is);
      at = subst (λ q. slice_get objects q.number ≡ Some q.object) q.is at.at;
      held = subst (λ (x : Named). is_held_under s.depth k x.object.owner ≡ true) q.is q.passes;
    }

pub reference_in_ok : (a : Option Value) (n : ℕ) → reference_in a ≡ Ok n → a ≡ Some (one (reference n))
reference_in_ok None n e = absurd (err_ok (source.fault source.no_value None) n e)
reference_in_ok (Some (one (reference m))) n e = ap (λ n. Some (one (reference n))) (ok_same m n e)
reference_in_ok (Some (one (source.number z))) n e = absurd (err_ok (source.fault source.missing None) n e)
reference_in_ok (Some (one (source.owned m))) n e = absurd (err_ok (source.fault source.missing None) n e)
reference_in_ok (Some (source.of_case k parts keys)) n e = absurd (err_ok (source.fault source.missing None) n e)

-- a reference to an object that is there, of an owner that isn't gone
pub record Refers (x : ℕ) (s : Frame) (objects : List Object) (m : Named) : Type 0 where
  pub var : s.vars x ≡ Some (one (reference m.number))
  pub at : slice_get objects m.number ≡ Some m.object
  pub live : is_gone m.object.owner ≡ false

-- of one that hangs on nothing, and isn't out
pub record HoldsObject (x k : ℕ) (s : Frame) (objects : List Object) (m : Named) : Type 0 where
  pub refers : Refers x s objects m
  pub held : IsHeld k s objects m
  pub free : IsFree m.object.owner

pub tracked_ok : (r : Reference) (x : ℕ) (s : Frame) (objects : List Object) (m : Named) → tracked_object r x s objects ≡ Ok m → HoldsObject x r.key s objects m
tracked_ok r x s objects m e =
    let a = then_ok _ _ m e in
    let b = then_ok _ _ m a.second in
    let h = held_ok r.key s objects a.found a.first in
    let q = if_so_ok _ source.other_object a.found m b.second in
    let same : b.found ≡ a.found.number = eqb-true b.found a.found.number q.passes in
    let here : IsHeld r.key s objects m = subst (IsHeld r.key s objects) q.is h in
    let free = held_free s.depth r.key m.object.owner here.held in
    record {
      refers = record {
        var = reference_in_ok (s.vars x) b.found b.first ∙ ap (λ n. Some (one (reference n))) (same ∙ ap (λ q. q.number) q.is);
        at = here.at;
        live = free.live;
      };
      held = here;
      free = free;
    }

pub in_states_ok : (states : States) (n m : Named) → in_states states n ≡ Ok m → n ≡ m
in_states_ok states n m e = (if_so_ok (states n.object.state) source.wrong_state n m e).is

pub object_of_ok : (f : Func) (states : Reference → States) (x : ℕ) (r : Reference) (s : Frame) (objects : List Object) (m : Named) →
    reference_of f x ≡ Some r → object_of f states x s objects ≡ Ok m → HoldsObject x r.key s objects m
object_of_ok f states x r s objects m is e =
    let a = then_ok _ _ m e in
    let b = then_ok _ _ m a.second in
    let same : a.found ≡ r = some_same a.found r (sym (or_fault_ok source.missing (reference_of f x) a.found a.first) ∙ is) in
    subst (λ (r : Reference). HoldsObject x r.key s objects m) same
    (subst (HoldsObject x a.found.key s objects) (in_states_ok (states a.found) b.found m b.second) (tracked_ok a.found x s objects b.found b.first))
  where
    some_same : (a b : Reference) → (let o : Option Reference = Some a in o ≡ Some b) → a ≡ b
    some_same a b e = cc

pub adopted_is : (n : ℕ) (o : Owner) → is_adopted_by n o ≡ true → o ≡ adopted_by n
adopted_is n (adopted_by m) h = ap (λ m. adopted_by m) (sym (eqb-true n m h))
adopted_is n (held e j) h = absurd (false≢true h)
adopted_is n (lent e j) h = absurd (false≢true h)
adopted_is n loose h = absurd (false≢true h)
adopted_is n (inside m) h = absurd (false≢true h)
adopted_is n out h = absurd (false≢true h)
adopted_is n gone h = absurd (false≢true h)

-- a guarded variable's object, with its adopter
pub record Guards (y k : ℕ) (s : Frame) (objects : List Object) (m : Named) : Type 0 where
  pub refers : Refers y s objects m
  pub adopter : Named
  pub held : IsHeld k s objects adopter
  pub adopted : m.object.owner ≡ adopted_by adopter.number

pub guarded_ok : (g : Reference) (y : ℕ) (s : Frame) (objects : List Object) (m : Named) → guarded_object g y s objects ≡ Ok m → Guards y g.key s objects m
guarded_ok g y s objects m e =
    let a = then_ok _ _ m e in
    let b = then_ok _ _ m a.second in
    let c = then_ok _ _ m b.second in
    let at = object_at_ok objects b.found c.found c.first in
    let q = if_so_ok _ source.not_guarded c.found m c.second in
    let owner : m.object.owner ≡ adopted_by a.found.number =
    adopted_is a.found.number m.object.owner (subst (λ (x : Named). is_adopted_by a.found.number x.object.owner ≡ true) q.is q.passes) in
    record {
      refers = record {
        var = reference_in_ok (s.vars y) b.found b.first ∙ ap (λ n. Some (one (reference n))) (at.number ∙ ap (λ q. q.number) q.is);
        at = subst (λ q. slice_get objects q.number ≡ Some q.object) q.is at.at;
        live = ap is_gone owner;
      };
      adopter = a.found;
      held = held_ok g.key s objects a.found a.first;
      adopted = owner;
    }

pub after_ok : (r g : Option Reference) (x : ℕ) (states : Reference → States) (s : Frame) (objects : List Object) (m : Named) →
    object_after r g x states s objects ≡ Ok m → Refers x s objects m
after_ok (Some r) g x states s objects m e =
    let a = then_ok _ _ m e in
    subst (Refers x s objects) (in_states_ok (states r) a.found m a.second) (tracked_ok r x s objects a.found a.first).refers
after_ok None (Some g) x states s objects m e =
    let a = then_ok _ _ m e in
    subst (Refers x s objects) (in_states_ok (states g) a.found m a.second) (guarded_ok g x s objects a.found a.first).refers
after_ok None None x states s objects m e = absurd (err_ok (source.fault source.missing None) m e)

-- ---- what isn't found is a fault

pub then_faults : {A B : Type 0} (m : Found A) (go : A → Found B) → OnlyFaults m → ((a : A) → OnlyFaults (go a)) → OnlyFaults (m >>= go)
then_faults (Ok a) go h more = more a
then_faults (Err o) go h more = h

pub or_faults : {A : Type 0} (r : Reason) (o : Option A) → OnlyFaults (or_fault r o)
or_faults r None = refl
or_faults r (Some a) = tt

pub if_so_faults : (test : Bool) (r : Reason) (n : Named) → OnlyFaults (if_so test r n)
if_so_faults true r n = tt
if_so_faults false r n = refl

pub object_faults : (objects : List Object) (n : ℕ) → OnlyFaults (object_at objects n)
object_faults objects n = by (slice_get objects n)
  where
    by : (o : Option Object) → OnlyFaults (named_in n o)
    by None = refl
    by (Some o) = tt

pub reference_faults : (a : Option Value) → OnlyFaults (reference_in a)
reference_faults None = refl
reference_faults (Some (one (reference m))) = tt
reference_faults (Some (one (source.number z))) = refl
reference_faults (Some (one (source.owned m))) = refl
reference_faults (Some (source.of_case k parts keys)) = refl

pub held_faults : (k : ℕ) (s : Frame) (objects : List Object) → OnlyFaults (held_object k s objects)
held_faults k s objects =
    then_faults _ _ (or_faults source.no_value (s.keys k)) (λ n. then_faults _ _ (object_faults objects n) (λ m. if_so_faults _ source.not_held m))

pub tracked_faults : (r : Reference) (x : ℕ) (s : Frame) (objects : List Object) → OnlyFaults (tracked_object r x s objects)
tracked_faults r x s objects =
    then_faults _ _ (held_faults r.key s objects) (λ m. then_faults _ _ (reference_faults (s.vars x)) (λ n. if_so_faults _ source.other_object m))

pub object_of_faults : (f : Func) (states : Reference → States) (x : ℕ) (s : Frame) (objects : List Object) → OnlyFaults (object_of f states x s objects)
object_of_faults f states x s objects =
    then_faults _ _ (or_faults source.missing (reference_of f x))
    (λ r. then_faults _ _ (tracked_faults r x s objects) (λ m. if_so_faults _ source.wrong_state m))

pub guarded_faults : (g : Reference) (y : ℕ) (s : Frame) (objects : List Object) → OnlyFaults (guarded_object g y s objects)
guarded_faults g y s objects =
    then_faults _ _ (held_faults g.key s objects)
    (λ a. then_faults _ _ (reference_faults (s.vars y)) (λ n. then_faults _ _ (object_faults objects n) (λ m. if_so_faults _ source.not_guarded m)))

pub after_faults : (r g : Option Reference) (x : ℕ) (states : Reference → States) (s : Frame) (objects : List Object) →
    OnlyFaults (object_after r g x states s objects)
after_faults (Some r) g x states s objects = then_faults _ _ (tracked_faults r x s objects) (λ m. if_so_faults _ source.wrong_state m)
after_faults None (Some g) x states s objects = then_faults _ _ (guarded_faults g x s objects) (λ m. if_so_faults _ source.wrong_state m)
after_faults None None x states s objects = refl
