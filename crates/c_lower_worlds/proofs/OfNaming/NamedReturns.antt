-- A return gives back what the keys of the head name.
use Rattle.std.proofs.Common.{◌≡◌, ℕ, Bool, true, false, if◌then◌else◌, List, [], ◌∷◌, Option, Some, None, Ok, refl, sym, ap, ◌∙◌, subst}
use Rattle.std.proofs.lemmas.Bool.{false≢true}
use Rattle.std.proofs.lemmas.Option.{none-some, same_Some}
use Rattle.vlt_core.specs.Core as core
use Rattle.vlt_core.specs.Core.{tracked, Operand, pure, move, pack, Entry, Func, Program}
use Rattle.vlt_core.specs.Lookups.{reference_of, is_new, after_set}
use Rattle.vlt_core.specs.KindedHeads.{has, new_keys}
use Rattle.vlt_core.specs.KindedScopes.{Ids}
use Rattle.vlt_core.specs.KindedOperands.{operand_broken}
use Rattle.vlt_core.specs.KindedCalls.{returned_broken, return_broken}
use Rattle.vlt_meaning.specs.World.{Value, one, reference, Object, World, Frame}
use Rattle.vlt_meaning.specs.World as source
use Rattle.vlt_meaning.specs.Found.{◌>>=◌, Named, or_fault}
use Rattle.vlt_meaning.specs.Objects.{in_states}
use Rattle.vlt_meaning.specs.Values.{held_object, tracked_object}
use Rattle.vlt_meaning.specs.Calls as calls
use Rattle.vlt_meaning.specs.Calls.{entries_after, returned_object, returned_objects}
use Rattle.vlt_meaning.specs.Run as run
use Rattle.c_lower_worlds.specs.Naming.Functions.{IsFunction}
use Rattle.c_lower_worlds.specs.Naming.Types.{TypesFit}
use Rattle.c_lower_worlds.specs.Naming.Naming.{IsOfKey, NamesRight, IsKeptBy, AreKeptFor, Promise}
use Rattle.c_lower_worlds.proofs.OfNaming.NamedOperands.{operand_known}
use Rattle.c_lower_worlds.proofs.OfNaming.StepPromises.{found_holds, so_holds}
use Rattle.c_lower_worlds.proofs.OfNaming.FoundObjects.{err_ok, ok_same, then_ok, held_ok, in_states_ok, tracked_ok}

-- the value that is returned is the variable's
abbrev IsVariableThere : Option Operand → Option Value → Frame → Type 0
IsVariableThere o a s = (x : ℕ) → o ≡ Some (pure (core.var x)) → s.vars x ≡ a

new_named : (p : Program) (f : Func) (o : Option Operand) (a : Option Value) (e : Entry) (s : Frame) (objects : List Object) (n : Named) → IsVariableThere o a s →
    calls.new_object p f o e s objects ≡ Ok n → a ≡ Some (one (reference n.number))
new_named p f (Some (pure (core.var x))) a e s objects n there q =
    let r = then_ok (or_fault source.missing (reference_of f x)) (λ r. tracked_object r x s objects >>= in_states (after_set p f e)) n q in
    let m = then_ok (tracked_object r.found x s objects) (in_states (after_set p f e)) n r.second in
    let h = tracked_ok r.found x s objects m.found m.first in
    let same = in_states_ok (after_set p f e) m.found n m.second in
    sym (there x refl) ∙ h.refers.var ∙ ap (λ (n : Named). Some (one (reference n.number))) same
new_named p f None a e s objects n there q = absurd (err_ok _ n q)
new_named p f (Some (pure (core.number z))) a e s objects n there q = absurd (err_ok _ n q)
new_named p f (Some (pure (core.truth z))) a e s objects n there q = absurd (err_ok _ n q)
new_named p f (Some (pure (core.field x i))) a e s objects n there q = absurd (err_ok _ n q)
new_named p f (Some (pure (core.unary x y))) a e s objects n there q = absurd (err_ok _ n q)
new_named p f (Some (pure (core.binary x y z))) a e s objects n there q = absurd (err_ok _ n q)
new_named p f (Some (move v)) a e s objects n there q = absurd (err_ok _ n q)
new_named p f (Some (pack x st)) a e s objects n there q = absurd (err_ok _ n q)

entry_named : (p : Program) (f : Func) (o : Option Operand) (a : Option Value) (e : Entry) (s : Frame) (objects : List Object) (n : Named) → IsVariableThere o a s →
    returned_object p f o e s objects ≡ Ok n → IsKeptBy (is_new e) s.keys a e.key n.number
entry_named p f o a e s objects n there q = by (is_new e) q
  where
    by : (b : Bool) → (if b then calls.new_object p f o e s objects else held_object e.key s objects >>= in_states (after_set p f e)) ≡ Ok n → IsKeptBy b s.keys a e.key n.number
    by true q = new_named p f o a e s objects n there q
    by false q =
        let m = then_ok (held_object e.key s objects) (in_states (after_set p f e)) n q in
        let h = held_ok e.key s objects m.found m.first in
        h.named ∙ ap (λ (n : Named). Some n.number) (in_states_ok (after_set p f e) m.found n m.second)

entries_named : (p : Program) (f : Func) (o : Option Operand) (a : Option Value) (es : List Entry) (s : Frame) (objects : List Object) (kept : List ℕ) → IsVariableThere o a s →
    returned_objects p f o es s objects ≡ Ok kept → AreKeptFor s.keys a es kept
entries_named p f o a [] s objects kept there q = subst (λ kept. AreKeptFor s.keys a [] kept) (ok_same [] kept q) tt
entries_named p f o a (e ∷ es) s objects kept there q =
    let m = then_ok (returned_object p f o e s objects) _ kept q in
    let r = then_ok (returned_objects p f o es s objects) _ kept m.second in
    subst (λ kept. AreKeptFor s.keys a (e ∷ es) kept) (ok_same (m.found.number ∷ r.found) kept r.second)
    (entry_named p f o a e s objects m.found there m.first, entries_named p f o a es s objects r.found there r.first)

module _ (p : Program) (types : TypesFit p) (heap depth : ℕ) (f : Func) (is : IsFunction p f) where
  abbrev setup : run.Setup
  setup = record { program = p; heap = heap; depth = depth }

  left_named : (ids : Ids) (value : Option Operand) (a : Option Value) (s s2 : Frame) (w : World) → s2.keys ≡ s.keys → IsVariableThere value a s2 →
      ((k t : ℕ) (args : List ℕ) → f.result ≡ Some (tracked k t args) → has (new_keys f) k ≡ false → (b : Value) → a ≡ Some b → IsOfKey s.keys k b) →
      Promise f ids ids.vars s (run.left_function setup f value a s2 w)
  unfolding run.left_function
  left_named ids value a s s2 w keys there named =
      found_holds (Promise f ids ids.vars s) (λ o v. tt) _ w _ (λ kept e.
      so_holds (Promise f ids ids.vars s) (λ o v. tt) _ _ _ w _ (λ e2. so_holds (Promise f ids ids.vars s) (λ o v. tt) _ _ _ w _ (λ e3. record {
        entries = subst (λ keys. AreKeptFor keys a (entries_after f) kept) keys (entries_named p f value a (entries_after f) s2 w.objects kept there e);
        result = named;
      })))

  pub return_named : (ids : Ids) (value : Option Operand) (s : Frame) (w : World) → return_broken p f ids f.result value ≡ [] → NamesRight f ids.vars s →
      Promise f ids ids.vars s (calls.with_returned p f value s w (λ a s w. run.left_function setup f value a s w))
  unfolding calls.with_returned
  return_named ids None s w b h =
      left_named ids None None s s w refl (λ x e. absurd (none-some (pure (core.var x)) e)) (λ k t args r new c e. absurd (none-some c e))
  return_named ids (Some o) s w b h =
      operand_known (Promise f ids ids.vars s) (λ o v. tt) p types f is ids o s w _ h (λ a s2 w2 r.
      left_named ids (Some o) (Some a) s s2 w2 r.emptied.keys (λ x e. r.variable x (operand_same o (pure (core.var x)) e))
      (λ k t args result old c e.
      let broken : returned_broken p f ids (tracked k t args) o ≡ [] = subst (λ q. return_broken p f ids q (Some o) ≡ []) result b in
      subst (IsOfKey s.keys k) (same_Some a c e) (r.named k t args (by (has (new_keys f) k) old k t args broken))))
    where
      operand_same : (a b : Operand) → (let o : Option Operand = Some a in o ≡ Some b) → a ≡ b
      operand_same a b e = cc

      by : (b : Bool) → b ≡ false → (k t : ℕ) (args : List ℕ) →
          (if b then Rattle.vlt_core.specs.KindedCalls.new_result_broken p f ids t args o else operand_broken p f ids (Some (tracked k t args)) o) ≡ [] → operand_broken p f ids (Some (tracked k t args)) o ≡ []
      by true old k t args e = absurd (false≢true (sym old))
      by false old k t args e = e
