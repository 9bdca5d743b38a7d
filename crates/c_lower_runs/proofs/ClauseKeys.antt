-- The keys of an external's clause: those of the references that are handed over, where these are what their keys name.
use Rattle.std.proofs.Common.{◌≡◌, ◌≤◌, ◌<◌, ℕ, zero, suc, ◌+◌, ◌==◌, ◌&&◌, not, Bool, true, false, if◌then◌else◌, List, [], ◌∷◌, map, filter, length, Option, Some, None, slice_get, Ok, Err, refl, sym, ap, ◌∙◌, subst, arith}
use Rattle.std.proofs.lemmas.Bool.{false≢true, eqb-true}
use Rattle.std.proofs.lemmas.Bool.Decides.{nat_tests}
use Rattle.std.proofs.lemmas.Option.{none-some}
use Rattle.std.specs.List.{range_with_len}
use Rattle.std.specs.Option.{option_and_then}
use Rattle.vlt_core.specs.Core as core
use Rattle.vlt_core.specs.Core.{Ty, Mode, Entry, Func, Program}
use Rattle.vlt_core.specs.Lookups.{var_type, is_new, is_before, is_after, is_fresh}
use Rattle.vlt_meaning.specs.World as source
use Rattle.vlt_meaning.specs.World.{Owner, held, Object, one, reference, is_out}
use Rattle.vlt_meaning.specs.Found as found
use Rattle.vlt_meaning.specs.Found.{Found}
use Rattle.vlt_meaning.specs.Objects.{objects_after_move}
use Rattle.vlt_meaning.specs.Externals as ext
use Rattle.vlt_meaning.specs.Externals.{taken_objects}
use Rattle.c_syntax.specs.declared.program.CVar.{CVar}
use Rattle.c_meaning.specs.World as cw
use Rattle.c_meaning.specs.Run as crun
use Rattle.c_lower.specs.Slots.{slot_of, param_slots, first_temps}
use Rattle.c_lower.specs.Glue.{key_slot, is_tracked_by, first_or_0}
use Rattle.c_lower.specs.Glue as glue
use Rattle.c_lower_worlds.specs.Operators.Codes.{IsBelow}
use Rattle.c_lower_worlds.specs.Operands.{RegistersSuffice}
use Rattle.c_lower_worlds.specs.Naming.Lists.{Each}
use Rattle.c_lower_runs.proofs.CalleeFrames.{ArgsFit, decl_values, called_frame, callee_stands}
use Rattle.c_lower_runs.proofs.ExternalCalls.{glue_frame}
use Rattle.c_lower_worlds.proofs.MovedObjects.{Refer}
use Rattle.c_lower_runs.proofs.HostMoves as moving
use Rattle.c_lower_runs.proofs.GlueResults.{KeysFit}
use Rattle.c_lower_worlds.proofs.VariableValues.{slot_holds, slot_below}

-- a parameter that refers to the key's object
pub record KeyParameter (gf : Func) (k : ℕ) : Type 0 where
  pub v : ℕ
  pub below : v < gf.params
  pub tracked : is_tracked_by k (var_type gf v) ≡ true

-- each key of the clause that isn't new has one (a rule of heads of externals)
abbrev pub HaveParameters : Func → List Entry → Type 0
HaveParameters gf = Each (λ (e : Entry). is_new e ≡ false → KeyParameter gf e.key)

-- a reference that is handed over refers to what the caller's key names, as `c_lower_worlds::naming` says of those in scope
pub record IsNamed (keys : List ℕ) (s : source.Frame) (values : List source.Value) (v k : ℕ) : Type 0 where
  pub number : ℕ
  pub value : slice_get values v ≡ Some (one (reference number))
  pub named : option_and_then s.keys (slice_get keys k) ≡ Some number

pub record KeysNamed (gf : Func) (keys : List ℕ) (s : source.Frame) (values : List source.Value) : Type 0 where
  pub at : (v k t : ℕ) (args : List ℕ) → v < gf.params → var_type gf v ≡ Some (core.tracked k t args) → IsNamed keys s values v k

-- ---- the first parameter of a key

record FirstOf (test : ℕ → Bool) (b n : ℕ) : Type 0 where
  v : ℕ
  is : first_or_0 (filter test (range_with_len b n)) ≡ v
  passes : test v ≡ true
  below : v < b + n

first_of : (test : ℕ → Bool) (n b v : ℕ) → b ≤ v → v < b + n → test v ≡ true → FirstOf test b n
first_of test zero b v l m e = absurd (omega arith)
first_of test (suc n) b v l m e = by (test b) refl (λ k. first_of test n (b + 1) v k (omega arith) e)
  where
    same : (b v : ℕ) → b ≤ v → (v ≡ b → ⊥) → b + 1 ≤ v
    same b v l ne = by (b == v) refl
      where
        by : (q : Bool) → (b == v) ≡ q → b + 1 ≤ v
        by true q = absurd (ne (sym (eqb-true b v q)))
        by false q = grind (arith, nat_tests)

    by : (c : Bool) → test b ≡ c → (b + 1 ≤ v → FirstOf test (b + 1) n) → FirstOf test b (suc n)
    by true q later = record { v = b; is = ap (λ (c : Bool). first_or_0 (if c then b ∷ filter test (range_with_len (b + 1) n) else filter test (range_with_len (b + 1) n))) q; passes = q; below = omega arith }
    by false q later =
        let r = later (same b v l (λ x. absurd (false≢true (sym q ∙ ap test (sym x) ∙ e)))) in
        let m = r.below in
        record { v = r.v; is = ap (λ (c : Bool). first_or_0 (if c then b ∷ filter test (range_with_len (b + 1) n) else filter test (range_with_len (b + 1) n))) q ∙ r.is; passes = r.passes; below = omega arith }

record TrackedIs (k : ℕ) (o : Option Ty) : Type 0 where
  t : ℕ
  args : List ℕ
  is : o ≡ Some (core.tracked k t args)

tracked_is : (k : ℕ) (o : Option Ty) → is_tracked_by k o ≡ true → TrackedIs k o
tracked_is k None e = absurd (false≢true e)
tracked_is k (Some core.int) e = absurd (false≢true e)
tracked_is k (Some core.bool) e = absurd (false≢true e)
tracked_is k (Some (core.tracked j t args)) e = record { t = t; args = args; is = ap (λ j. Some (core.tracked j t args)) (eqb-true j k e) }
tracked_is k (Some (core.owning states t args)) e = absurd (false≢true e)
tracked_is k (Some (core.guarded j t args)) e = absurd (false≢true e)
tracked_is k (Some (core.variant t args)) e = absurd (false≢true e)
tracked_is k (Some (core.owning_variant t args)) e = absurd (false≢true e)

-- ---- modes

same_taken : (m : Mode) → (is_before m && not (is_after m)) ≡ glue.is_taken m
same_taken core.kept = refl
same_taken core.taken = refl
same_taken core.given = refl
same_taken core.fresh = refl
same_taken (core.up_to b) = refl

same_given : (m : Mode) → (not (is_before m) && not (is_fresh m)) ≡ glue.is_given m
same_given core.kept = refl
same_given core.taken = refl
same_given core.given = refl
same_given core.fresh = refl
same_given (core.up_to b) = refl

taken_old : (m : Mode) → glue.is_taken m ≡ true → is_fresh m ≡ false
taken_old core.kept e = absurd (false≢true e)
taken_old core.taken e = refl
taken_old core.given e = absurd (false≢true e)
taken_old core.fresh e = absurd (false≢true e)
taken_old (core.up_to b) e = absurd (false≢true e)

given_old : (m : Mode) → glue.is_given m ≡ true → is_fresh m ≡ false
given_old core.kept e = absurd (false≢true e)
given_old core.taken e = absurd (false≢true e)
given_old core.given e = refl
given_old core.fresh e = absurd (false≢true e)
given_old (core.up_to b) e = absurd (false≢true e)

bind_same : {A B : Type 0} (x : Found A) (f g : A → Found B) → ((a : A) → f a ≡ g a) → found.◌>>=◌ x f ≡ found.◌>>=◌ x g
bind_same (Ok a) f g h = h a
bind_same (Err o) f g h = refl

module _ (p : Program) (types : List ℕ) (R : crun.Setup) (cm : crun.Meaning) (enough : RegistersSuffice p) (gf : Func) (keys : List ℕ) (s : source.Frame) (values : List source.Value)
    (fits : ArgsFit p types gf.vars values) (count : length values ≡ gf.params) (named : KeysNamed gf keys s values) where
  abbrev G : crun.Frame
  G = glue_frame s.depth (param_slots p gf) (decl_values p gf.vars values)

  pub record KeyAt (k : ℕ) : Type 0 where
    pub number : ℕ
    pub names : option_and_then s.keys (slice_get keys k) ≡ Some number
    pub at : G.vars (key_slot p gf k) ≡ Some (cw.reference (Some number))
    pub below : IsBelow (first_temps p gf) (key_slot p gf k)

  pub key_at : (k : ℕ) → KeyParameter gf k → KeyAt k
  key_at k x =
      let first = first_of (λ v. is_tracked_by k (var_type gf v)) gf.params 0 x.v (omega arith) (let l = x.below in omega arith) x.tracked in
      let ty = tracked_is k (var_type gf first.v) first.passes in
      let n = named.at first.v k ty.t ty.args (let l = first.below in omega arith) ty.is in
      record {
        number = n.number;
        names = n.named;
        at = subst (λ v. G.vars (slot_of p gf v) ≡ Some (cw.reference (Some n.number))) (sym first.is)
            (slot_holds p types gf (record { depth = s.depth; vars = slice_get values; keys = s.keys }) (called_frame s.depth (param_slots p gf) (decl_values p gf.vars values)) first.v (reference n.number)
            (callee_stands p types gf s.depth s.keys values fits count) n.value);
        below = subst (λ v. IsBelow (first_temps p gf) (slot_of p gf v)) (sym first.is) (slot_below p gf first.v (core.tracked k ty.t ty.args) ty.is);
      }

  -- ---- taken

  abbrev taken_of : List Entry → List CVar
  taken_of es = map (λ (e : Entry). key_slot p gf e.key) (filter (λ (e : Entry). glue.is_taken e.mode) es)

  abbrev given_of : List Entry → List CVar
  given_of es = map (λ (e : Entry). key_slot p gf e.key) (filter (λ (e : Entry). glue.is_given e.mode) es)

  record TakenFor (es : List Entry) : Type 0 where
    refer : Refer (taken_of es) (taken_objects keys s es) G
    below : Each (IsBelow (first_temps p gf)) (taken_of es)

  taken_for : (es : List Entry) → HaveParameters gf es → TakenFor es
  taken_for [] h = record { refer = tt; below = tt }
  taken_for (e ∷ es) h = by (glue.is_taken e.mode) refl (taken_for es h.1)
    where
      by : (b : Bool) → glue.is_taken e.mode ≡ b → TakenFor es → TakenFor (e ∷ es)
      by false q rest = record {
        refer = rw (same_taken e.mode, q) rest.refer;
        below = rw q rest.below;
      }
      by true q rest =
          let k = key_at e.key (h.0 (taken_old e.mode q)) in
          record {
            refer = rw (same_taken e.mode, q, k.names) (k.at, rest.refer);
            below = rw q (k.below, rest.below);
          }

  -- ---- given

  record GivenFor (es : List Entry) : Type 0 where
    given : List (ℕ × Owner)
    is : (os : List Object) → ext.come_back keys s es os ≡ moving.come_all R cm p given os
    free : moving.AreFreeOwners R cm p given
    refer : Refer (given_of es) (map (λ q. q.0) given) G
    below : Each (IsBelow (first_temps p gf)) (given_of es)

  record Split (k n : ℕ) : Type 0 where
    key : ℕ
    listed : slice_get keys k ≡ Some key
    names : s.keys key ≡ Some n

  split : (k n : ℕ) → option_and_then s.keys (slice_get keys k) ≡ Some n → Split k n
  split k n e = by (slice_get keys k) refl e
    where
      by : (o : Option ℕ) → slice_get keys k ≡ o → option_and_then s.keys o ≡ Some n → Split k n
      by None q e = absurd (none-some n e)
      by (Some j) q e = record { key = j; listed = q; names = e }

  given_for : (es : List Entry) → HaveParameters gf es → GivenFor es
  given_for [] h = record { given = []; is = λ os. refl; free = tt; refer = tt; below = tt }
  given_for (e ∷ es) h = by (glue.is_given e.mode) refl (given_for es h.1)
    where
      by : (b : Bool) → glue.is_given e.mode ≡ b → GivenFor es → GivenFor (e ∷ es)
      by false q rest = record {
        given = rest.given;
        is = λ os. rw (same_given e.mode, q) (rest.is os);
        free = rest.free;
        refer = rw q rest.refer;
        below = rw q rest.below;
      }
      by true q rest =
          let k = key_at e.key (h.0 (given_old e.mode q)) in
          let j = split e.key k.number k.names in
          record {
            given = (k.number, held s.depth j.key) ∷ rest.given;
            is = λ os. rw (same_given e.mode, q, j.listed, j.names)
                (bind_same (objects_after_move is_out (held s.depth j.key) (k.number ∷ []) os) (ext.come_back keys s es) (moving.come_all R cm p rest.given) rest.is);
            free = (record { above = refl; out = refl; live = refl }, rest.free);
            refer = rw q (k.at, rest.refer);
            below = rw q (k.below, rest.below);
          }

  -- the keys of a clause, where the references that are handed over are what their keys name
  pub keys_fit : HaveParameters gf gf.clause → KeysFit p R cm enough gf keys s values G
  keys_fit h =
      let a = taken_for gf.clause h in
      let b = given_for gf.clause h in
      record { taken = a.refer; taken_below = a.below; given = b.given; given_is = b.is; given_free = b.free; given_refer = b.refer; given_below = b.below }
