-- The object that a touch goes to.
use Rattle.std.proofs.Common.{◌≡◌, ℕ, ◌==◌, Bool, true, false, List, Option, Some, None, Ok, Err, refl, sym, ap, ◌∙◌, subst, arith, slice_get}
use Rattle.std.proofs.lemmas.Bool.{false≢true}
use Rattle.std.proofs.lemmas.Bool.Decides.{nat_tests}
use Rattle.vlt_core.specs.Core.{States, Func, Program}
use Rattle.vlt_core.specs.Lookups.{Reference, reference_of, guarded_of, permitted_in}
use Rattle.vlt_meaning.specs.World.{Value, one, number, reference, owned, of_case, Owner, held, lent, loose, inside, adopted_by, out, gone, Object, is_gone, is_out, above, is_held_under, is_adopted_by, Frame, Reason, is_fault, missing, no_value, not_held, other_object, not_guarded, wrong_state}
use Rattle.vlt_meaning.specs.Found.{Found, ◌>>=◌, or_fault, Named, if_so}
use Rattle.vlt_meaning.specs.Objects.{named_in, object_at}
use Rattle.vlt_meaning.specs.Values.{held_object, reference_in, tracked_object, guarded_object, object_after, touchable, object_of}
use Rattle.vlt_meaning_laws.proofs.Keeping.{bound, err-ok}

-- ---- what is found, or a fault

abbrev pub OrFault : {A : Type 0} → Found A → Type 0
OrFault (Ok a) = Unit {0}
OrFault (Err o) = is_fault o ≡ true

pub then_fault : {A B : Type 0} (x : Found A) (go : A → Found B) → OrFault x → ((a : A) → OrFault (go a)) → OrFault (x >>= go)
then_fault (Ok a) go first rest = rest a
then_fault (Err o) go first rest = first

pub some_fault : {A : Type 0} (r : Reason) (x : Option A) → OrFault (or_fault r x)
some_fault r (Some a) = tt
some_fault r None = refl

pub so_fault : (test : Bool) (r : Reason) (n : Named) → OrFault (if_so test r n)
so_fault true r n = tt
so_fault false r n = refl

pub object_fault : (objects : List Object) (n : ℕ) → OrFault (object_at objects n)
object_fault objects n = by (slice_get objects n)
  where
    by : (x : Option Object) → OrFault (named_in n x)
    by None = refl
    by (Some o) = tt

pub held_fault : (k : ℕ) (frame : Frame) (objects : List Object) → OrFault (held_object k frame objects)
held_fault k frame objects =
    then_fault (or_fault no_value (frame.keys k)) _ (some_fault no_value (frame.keys k)) (λ n.
    then_fault (object_at objects n) _ (object_fault objects n) (λ m. so_fault (is_held_under frame.depth k m.object.owner) not_held m))

reference_fault : (x : Option Value) → OrFault (reference_in x)
reference_fault (Some (one (reference n))) = tt
reference_fault (Some (one (number z))) = refl
reference_fault (Some (one (owned n))) = refl
reference_fault (Some (of_case c parts keys)) = refl
reference_fault None = refl

tracked_fault : (r : Reference) (x : ℕ) (frame : Frame) (objects : List Object) → OrFault (tracked_object r x frame objects)
tracked_fault r x frame objects =
    then_fault (held_object r.key frame objects) _ (held_fault r.key frame objects) (λ m.
    then_fault (reference_in (frame.vars x)) _ (reference_fault (frame.vars x)) (λ n. so_fault (n == m.number) other_object m))

guarded_fault : (r : Reference) (x : ℕ) (frame : Frame) (objects : List Object) → OrFault (guarded_object r x frame objects)
guarded_fault r x frame objects =
    then_fault (held_object r.key frame objects) _ (held_fault r.key frame objects) (λ a.
    then_fault (reference_in (frame.vars x)) _ (reference_fault (frame.vars x)) (λ n.
    then_fault (object_at objects n) _ (object_fault objects n) (λ m. so_fault (is_adopted_by a.number m.object.owner) not_guarded m)))

after_fault : (r g : Option Reference) (x : ℕ) (states : Reference → States) (frame : Frame) (objects : List Object) → OrFault (object_after r g x states frame objects)
after_fault (Some r) g x states frame objects =
    then_fault (tracked_object r x frame objects) _ (tracked_fault r x frame objects) (λ m. so_fault (states r m.object.state) wrong_state m)
after_fault None (Some g) x states frame objects =
    then_fault (guarded_object g x frame objects) _ (guarded_fault g x frame objects) (λ m. so_fault (states g m.object.state) wrong_state m)
after_fault None None x states frame objects = refl

pub touch_fault : (p : Program) (f : Func) (x i : ℕ) (frame : Frame) (objects : List Object) → OrFault (touchable p f x i frame objects)
touch_fault p f x i frame objects = after_fault (reference_of f x) (guarded_of f x) x (λ r. permitted_in p r.type i) frame objects

-- ---- the object

-- it isn't gone, it isn't below another one, and it isn't out
pub record IsRoot (o : Owner) : Type 0 where
  pub live : is_gone o ≡ false
  pub above : above o ≡ None
  pub here : is_out o ≡ false

-- it is the one that the variable refers to, and it isn't gone
pub record Touched (x : ℕ) (frame : Frame) (objects : List Object) (m : Named) : Type 0 where
  pub var : frame.vars x ≡ Some (one (reference m.number))
  pub at : slice_get objects m.number ≡ Some m.object
  pub live : is_gone m.object.owner ≡ false

pub so_is : (test : Bool) (r : Reason) (n m : Named) → if_so test r n ≡ Ok m → (test ≡ true) × (n ≡ m)
so_is true r n m e = (refl, same e)
  where
    named : Found Named → Named
    named (Ok a) = a
    named (Err o) = n

    same : {a b : Named} → ◌≡◌ {A = Found Named} (Ok a) (Ok b) → a ≡ b
    same e = ap named e
so_is false r n m e = absurd (err-ok e)

pub object_is : (objects : List Object) (n : ℕ) (m : Named) → object_at objects n ≡ Ok m → (m.number ≡ n) × (slice_get objects n ≡ Some m.object)
object_is objects n m e = by (slice_get objects n) e
  where
    named : Found Named → Named
    named (Ok a) = a
    named (Err o) = m

    by : (x : Option Object) → named_in n x ≡ Ok m → (m.number ≡ n) × (x ≡ Some m.object)
    by None h = absurd (err-ok h)
    by (Some o) h = let s : record { number = n; object = o } ≡ m = ap named h in (ap (λ q. q.number) (sym s), ap (λ q. Some q.object) s)

pub record IsHeld (k : ℕ) (frame : Frame) (objects : List Object) (m : Named) : Type 0 where
  pub key : frame.keys k ≡ Some m.number
  pub at : slice_get objects m.number ≡ Some m.object
  pub root : IsRoot m.object.owner

abbrev found_or : {A : Type 0} → A → Found A → A
found_or b (Ok c) = c
found_or b (Err o) = b

pub some_is : {A : Type 0} (r : Reason) (x : Option A) (a : A) → or_fault r x ≡ Ok a → x ≡ Some a
some_is r (Some b) a e = ap (λ z. Some z) (ap (found_or b) e)
some_is r None a e = absurd (err-ok e)

pub held_root : (d k : ℕ) (o : Owner) → is_held_under d k o ≡ true → IsRoot o
held_root d k (held e j) h = record { live = refl; above = refl; here = refl }
held_root d k (lent e j) h = record { live = refl; above = refl; here = refl }
held_root d k loose h = record { live = refl; above = refl; here = refl }
held_root d k (inside n) h = absurd (false≢true h)
held_root d k (adopted_by n) h = absurd (false≢true h)
held_root d k out h = absurd (false≢true h)
held_root d k gone h = absurd (false≢true h)

adopted_live : (n : ℕ) (o : Owner) → is_adopted_by n o ≡ true → is_gone o ≡ false
adopted_live n (held e j) h = refl
adopted_live n (lent e j) h = refl
adopted_live n loose h = refl
adopted_live n (inside m) h = refl
adopted_live n (adopted_by m) h = refl
adopted_live n out h = refl
adopted_live n gone h = absurd (false≢true h)

pub held_is : (k : ℕ) (frame : Frame) (objects : List Object) (m : Named) → held_object k frame objects ≡ Ok m → IsHeld k frame objects m
held_is k frame objects m e =
    let a = bound (or_fault no_value (frame.keys k)) _ m e in
    let b = bound (object_at objects a.0) _ m a.2 in
    let s = so_is (is_held_under frame.depth k b.0.object.owner) not_held b.0 m b.2 in
    let o = object_is objects a.0 b.0 b.1 in
    subst (IsHeld k frame objects) s.1 (record {
      key = some_is no_value (frame.keys k) a.0 a.1 ∙ ap (λ z. Some z) (sym o.0);
      at = ap (slice_get objects) o.0 ∙ o.1;
      root = held_root frame.depth k b.0.object.owner s.0;
    })

pub reference_is : (x : Option Value) (n : ℕ) → reference_in x ≡ Ok n → x ≡ Some (one (reference n))
reference_is (Some (one (reference m))) n e = ap (λ z. Some (one (reference z))) (ap found e)
  where
    found : Found ℕ → ℕ
    found (Ok c) = c
    found (Err o) = m
reference_is (Some (one (number z))) n e = absurd (err-ok e)
reference_is (Some (one (owned m))) n e = absurd (err-ok e)
reference_is (Some (of_case c parts keys)) n e = absurd (err-ok e)
reference_is None n e = absurd (err-ok e)

pub equal_is : (n m : ℕ) → (n == m) ≡ true → n ≡ m
equal_is n m e = grind (arith, nat_tests)

pub tracked_is : (r : Reference) (x : ℕ) (frame : Frame) (objects : List Object) (m : Named) → tracked_object r x frame objects ≡ Ok m → Touched x frame objects m
tracked_is r x frame objects m e =
    let a = bound (held_object r.key frame objects) _ m e in
    let b = bound (reference_in (frame.vars x)) _ m a.2 in
    let s = so_is (b.0 == a.0.number) other_object a.0 m b.2 in
    let h = held_is r.key frame objects a.0 a.1 in
    subst (Touched x frame objects) s.1 (record {
      var = reference_is (frame.vars x) b.0 b.1 ∙ ap (λ z. Some (one (reference z))) (equal_is b.0 a.0.number s.0);
      at = h.at;
      live = h.root.live;
    })

-- it is held under the variable's key
pub tracked_held : (r : Reference) (x : ℕ) (frame : Frame) (objects : List Object) (m : Named) → tracked_object r x frame objects ≡ Ok m → IsHeld r.key frame objects m
tracked_held r x frame objects m e =
    let a = bound (held_object r.key frame objects) _ m e in
    let b = bound (reference_in (frame.vars x)) _ m a.2 in
    let s = so_is (b.0 == a.0.number) other_object a.0 m b.2 in
    subst (IsHeld r.key frame objects) s.1 (held_is r.key frame objects a.0 a.1)

pub guarded_is : (r : Reference) (x : ℕ) (frame : Frame) (objects : List Object) (m : Named) → guarded_object r x frame objects ≡ Ok m → Touched x frame objects m
guarded_is r x frame objects m e =
    let a = bound (held_object r.key frame objects) _ m e in
    let b = bound (reference_in (frame.vars x)) _ m a.2 in
    let d = bound (object_at objects b.0) _ m b.2 in
    let s = so_is (is_adopted_by a.0.number d.0.object.owner) not_guarded d.0 m d.2 in
    let o = object_is objects b.0 d.0 d.1 in
    subst (Touched x frame objects) s.1 (record {
      var = reference_is (frame.vars x) b.0 b.1 ∙ ap (λ z. Some (one (reference z))) (sym o.0);
      at = ap (slice_get objects) o.0 ∙ o.1;
      live = adopted_live a.0.number d.0.object.owner s.0;
    })

after_is : (r g : Option Reference) (x : ℕ) (states : Reference → States) (frame : Frame) (objects : List Object) (m : Named) → object_after r g x states frame objects ≡ Ok m → Touched x frame objects m
after_is (Some r) g x states frame objects m e =
    let a = bound (tracked_object r x frame objects) _ m e in
    let s = so_is (states r a.0.object.state) wrong_state a.0 m a.2 in
    subst (Touched x frame objects) s.1 (tracked_is r x frame objects a.0 a.1)
after_is None (Some g) x states frame objects m e =
    let a = bound (guarded_object g x frame objects) _ m e in
    let s = so_is (states g a.0.object.state) wrong_state a.0 m a.2 in
    subst (Touched x frame objects) s.1 (guarded_is g x frame objects a.0 a.1)
after_is None None x states frame objects m e = absurd (err-ok e)

pub touched : (p : Program) (f : Func) (x i : ℕ) (frame : Frame) (objects : List Object) (m : Named) → touchable p f x i frame objects ≡ Ok m → Touched x frame objects m
touched p f x i frame objects m e = after_is (reference_of f x) (guarded_of f x) x (λ r. permitted_in p r.type i) frame objects m e

-- ---- the object of a tracked variable, in states that are wanted

pub object_of_fault : (f : Func) (states : Reference → States) (x : ℕ) (frame : Frame) (objects : List Object) → OrFault (object_of f states x frame objects)
object_of_fault f states x frame objects =
    then_fault (or_fault missing (reference_of f x)) _ (some_fault missing (reference_of f x)) (λ r.
    then_fault (tracked_object r x frame objects) _ (tracked_fault r x frame objects) (λ m. so_fault (states r m.object.state) wrong_state m))

pub record Packed (x : ℕ) (frame : Frame) (objects : List Object) (m : Named) : Type 0 where
  pub touched : Touched x frame objects m
  pub root : IsRoot m.object.owner

pub object_of_is : (f : Func) (states : Reference → States) (x : ℕ) (frame : Frame) (objects : List Object) (m : Named) → object_of f states x frame objects ≡ Ok m → Packed x frame objects m
object_of_is f states x frame objects m e =
    let r = bound (or_fault missing (reference_of f x)) _ m e in
    let a = bound (tracked_object r.0 x frame objects) _ m r.2 in
    let s = so_is (states r.0 a.0.object.state) wrong_state a.0 m a.2 in
    subst (Packed x frame objects) s.1 (record { touched = tracked_is r.0 x frame objects a.0 a.1; root = (tracked_held r.0 x frame objects a.0 a.1).root })
