-- Each change of the objects keeps them at their positions, with their types.
use Rattle.std.proofs.Common.{◌≡◌, ⊎_elim, ℕ, suc, ◌+◌, Bool, true, false, List, [], ◌∷◌, ◌++◌, Option, Some, None, Ok, Err, if◌then◌else◌, refl, sym, ap, subst, ◌∙◌, slice_get, ℤ}
use Rattle.std.proofs.lemmas.Bool.{cases_eq}
use Rattle.std.specs.Option.{option_map}
use Rattle.std.specs.List.{zip}
use Rattle.vlt_core.specs.Core.{Entry, Func, Program}
use Rattle.vlt_core.specs.Lookups.{is_held_before}
use Rattle.vlt_meaning.specs.World.{Owner, Object, Frame, Outcome, held, is_out, loose, gone, missing}
use Rattle.vlt_meaning.specs.Found.{Found, ◌>>=◌, or_fault}
use Rattle.vlt_meaning.specs.Objects.{with_changed_object, changed_in, with_owner, with_state, objects_after_move, owned_at, is_under, objects_after_release}
use Rattle.vlt_meaning.specs.Calls.{entries_after, caller_object, changed_if, handed_over, Binding, with_holders}
use Rattle.vlt_meaning.specs.HostAnswers.{Answer, answer_of}
use Rattle.vlt_meaning.specs.Externals.{is_given, come_back, with_states, with_answered, entry_states, case_states, case_objects, Fitting, fitting}
use Rattle.vlt_meaning_laws.specs.Keeping.{KeepsObjects}
use Rattle.vlt_meaning_laws.proofs.Lists.{get_set_same, get_set_other, get_more, get_numbered}

abbrev is_err : {A : Type 0} → Found A → Type 0
is_err (Ok a) = ⊥
is_err (Err o) = Unit {0}

pub err-ok : {A : Type 0} {o : Outcome} {a : A} → ◌≡◌ {A = Found A} (Err o) (Ok a) → ⊥
err-ok e = subst is_err e tt

-- what was found first, and then
pub bound : {A B : Type 0} (a : Found A) (go : A → Found B) (b : B) → (a >>= go) ≡ Ok b →
    (x : A) × (a ≡ Ok x) × (go x ≡ Ok b)
bound (Ok x) go b e = (x, refl, e)
bound (Err o) go b e = absurd (err-ok e)

pub change_here : (os : List Object) (n : ℕ) (o : Object) (change : Object → Object) → slice_get os n ≡ Some o →
    slice_get (with_changed_object n change os) n ≡ Some (change o)
change_here os n o change at =
    ap (λ q. slice_get (changed_in n change os q) n) at ∙ get_set_same os n (change o) o at

pub change_elsewhere : (os : List Object) (n : ℕ) (change : Object → Object) (m : ℕ) → (m ≡ n → ⊥) →
    slice_get (with_changed_object n change os) m ≡ slice_get os m
change_elsewhere os n change m other = by (slice_get os n)
  where
    by : (q : Option Object) → slice_get (changed_in n change os q) m ≡ slice_get os m
    by None = refl
    by (Some o) = get_set_other os n m (change o) other

pub keeps_same : (os : List Object) → KeepsObjects os os
keeps_same os = record { each = λ n o at. record { object = o; at = at; same = refl } }

pub keeps_then : {a b c : List Object} → KeepsObjects a b → KeepsObjects b c → KeepsObjects a c
keeps_then k l = record {
  each = λ n o at.
      let q = k.each n o at in
      let s = l.each n q.object q.at in
      record { object = s.object; at = s.at; same = s.same ∙ q.same };
}

-- a change of an object keeps its type
abbrev pub KeepsType : (Object → Object) → Type 0
KeepsType change = (o : Object) → (change o).type ≡ o.type

pub keeps_changed : (n : ℕ) (change : Object → Object) (os : List Object) → KeepsType change →
    KeepsObjects os (with_changed_object n change os)
keeps_changed n change os same = record {
  each = λ m o at. ⊎_elim
      (λ e. record {
        object = change o;
        at = ap (slice_get (with_changed_object n change os)) e ∙ change_here os n o change (ap (slice_get os) (sym e) ∙ at);
        same = same o;
      })
      (λ other. record { object = o; at = change_elsewhere os n change m other ∙ at; same = refl })
      (cases_eq m n);
}

pub keeps_owner : (n : ℕ) (owner : Owner) (os : List Object) → KeepsObjects os (with_changed_object n (with_owner owner) os)
keeps_owner n owner os = keeps_changed n (with_owner owner) os (λ o. refl)

pub keeps_more : (os : List Object) (o : Object) → KeepsObjects os (os ++ o ∷ [])
keeps_more os o = record { each = λ n q at. record { object = q; at = get_more os o q n at; same = refl } }

abbrev released_at : (n : ℕ) → List Object → ℕ × Object → Object
released_at n os q = if is_under os (n ∷ []) q.0 then with_owner gone q.1 else q.1

pub keeps_released : (n : ℕ) (os : List Object) → KeepsObjects os (objects_after_release n os)
keeps_released n os = record {
  each = λ m o at. record {
    object = released_at n os (0 + m, o);
    at = get_numbered (released_at n os) 0 os m ∙ ap (option_map (λ o. released_at n os (0 + m, o))) at;
    same = by (is_under os (n ∷ []) (0 + m)) o;
  };
}
  where
    by : (b : Bool) (o : Object) → (if b then with_owner gone o else o).type ≡ o.type
    by true o = refl
    by false o = refl

pub keeps_moved : (from : Owner → Bool) (to : Owner) (ns : List ℕ) (os qs : List Object) →
    objects_after_move from to ns os ≡ Ok qs → KeepsObjects os qs
keeps_moved from to [] os qs e = same_keeps (same_ok e)
  where
    out_of : Found (List Object) → List Object
    out_of (Ok os) = os
    out_of (Err o) = os

    same_ok : ◌≡◌ {A = Found (List Object)} (Ok os) (Ok qs) → os ≡ qs
    same_ok e = ap out_of e

    same_keeps : os ≡ qs → KeepsObjects os qs
    same_keeps e = subst (KeepsObjects os) e (keeps_same os)
keeps_moved from to (n ∷ ns) os qs e =
    let q = bound (owned_at from os n) _ qs e in
    keeps_then (keeps_owner n to os) (keeps_moved from to ns _ qs q.2)

pub keeps_handed : (keys : List ℕ) (frame : Frame) (es : List Entry) (os : List Object) →
    KeepsObjects os (handed_over keys frame es os)
keeps_handed keys frame [] os = keeps_same os
keeps_handed keys frame (e ∷ es) os = by (keeps_handed keys frame es os) (is_held_before e) (caller_object keys frame e)
  where
    by : KeepsObjects os (handed_over keys frame es os) → (b : Bool) (n : Option ℕ) →
        KeepsObjects os
        (if b then changed_if n (with_owner (held (suc frame.depth) e.key)) (handed_over keys frame es os)
        else handed_over keys frame es os)
    by rest true None = rest
    by rest true (Some n) = keeps_then rest (keeps_owner n _ _)
    by rest false n = rest

pub keeps_holders : (d : ℕ) (bs : List Binding) (os : List Object) → KeepsObjects os (with_holders d bs os)
keeps_holders d [] os = keeps_same os
keeps_holders d (b ∷ bs) os = keeps_then (keeps_owner b.number (held d b.key) os) (keeps_holders d bs _)

pub keeps_states : (qs : List (ℕ × ℕ)) (os : List Object) → KeepsObjects os (with_states qs os)
keeps_states [] os = keeps_same os
keeps_states (q ∷ qs) os = keeps_then (keeps_changed q.0 (with_state q.1) os (λ o. refl)) (keeps_states qs _)

pub keeps_answered : (p : Program) (g : Func) (keys : List ℕ) (frame : Frame) (a : Answer) (os : List Object) →
    KeepsObjects os (with_answered p g keys frame a os)
keeps_answered p g keys frame a os =
    keeps_then (keeps_states (entry_states keys frame (entries_after g) a.states) os)
    (keeps_states (zip (case_objects p g keys frame a.result) (case_states a.result)) _)

pub keeps_back : (keys : List ℕ) (frame : Frame) (es : List Entry) (os qs : List Object) →
    come_back keys frame es os ≡ Ok qs → KeepsObjects os qs
keeps_back keys frame [] os qs e = keeps_moved is_out loose [] os qs e
keeps_back keys frame (e ∷ es) os qs q = by (λ os e. keeps_back keys frame es os qs e) (is_given e) q
  where
    by : ((os : List Object) → come_back keys frame es os ≡ Ok qs → KeepsObjects os qs) → (b : Bool) →
        (if b then (or_fault missing (slice_get keys e.key) >>= λ k. or_fault missing (frame.keys k) >>= λ n.
        objects_after_move is_out (held frame.depth k)
        (n ∷ []) os >>= come_back keys frame es) else come_back keys frame es os) ≡ Ok qs →
        KeepsObjects os qs
    by again false q = again os q
    by again true q =
        let k = bound (or_fault missing (slice_get keys e.key))
        (λ k. or_fault missing (frame.keys k) >>= λ n.
        objects_after_move is_out (held frame.depth k) (n ∷ []) os >>= come_back keys frame es) qs q in
        let n = bound (or_fault missing (frame.keys k.0))
        (λ n. objects_after_move is_out (held frame.depth k.0) (n ∷ []) os >>= come_back keys frame es) qs k.2 in
        let m = bound (objects_after_move is_out (held frame.depth k.0) (n.0 ∷ []) os) (come_back keys frame es) qs n.2 in
        keeps_then (keeps_moved is_out (held frame.depth k.0) (n.0 ∷ []) os m.0 m.1) (again m.0 m.2)

pub keeps_fitting : (p : Program) (g : Func) (keys : List ℕ) (frame : Frame) (zs : List ℤ) (os : List Object)
    (q : Fitting) →
    fitting p g keys frame zs os ≡ Ok q → KeepsObjects os q.objects
keeps_fitting p g keys frame zs os q e =
    let a = bound (or_fault missing (answer_of p g zs)) _ q e in
    let b = bound (come_back keys frame g.clause os) _ q a.2 in
    let c = bound (objects_after_move is_out loose (case_objects p g keys frame a.0.result) b.0) _ q b.2 in
    let k : KeepsObjects os c.0 =
    keeps_then (keeps_back keys frame g.clause os b.0 b.1) (keeps_moved _ _ _ b.0 c.0 c.1) in
    subst (KeepsObjects os) (ap objects_of c.2) k
  where
    objects_of : Found Fitting → List Object
    objects_of (Ok q) = q.objects
    objects_of (Err o) = os
