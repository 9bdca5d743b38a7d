-- Where a body begins, its parameters are in scope, and the keys of their types.
use Rattle.std.proofs.Common.{◌≡◌, inl, ⊎_elim, ℕ, zero, suc, ◌+◌, ◌<◌, ◌≤◌, nat_lt, true, false, ◌||◌, IsTrue, if◌then◌else◌, List, [], ◌∷◌, ◌++◌, length, map, take, Some, sym, ap, subst, arith, slice_get}
use Rattle.std.proofs.lemmas.Bool.{cases_Bool, eq-eqb, ltb-false}
use Rattle.std.specs.List.{flat_map, range_with_len}
use Rattle.std.specs.Option.{option_map}
use Rattle.vlt_core.specs.Core.{Ty, VarDecl, Func, Program}
use Rattle.vlt_core.specs.Types.{keys_of_ty}
use Rattle.vlt_core.specs.KindedHeads.{has, keys_of_parameters, keys_of_result, head_keys}
use Rattle.vlt_core.specs.KindedBodies.{first_ids}
use Rattle.vlt_sound_worlds.specs.Members.{In}
use Rattle.vlt_sound_worlds.specs.Agrees.{Context}
use Rattle.vlt_sound_worlds.specs.Scoped.{WerePinsBound, IsScoped}
use Rattle.vlt_sound_worlds.proofs.Widening.{has_more}
use Rattle.vlt_sound_worlds.proofs.Binding.{first_or_other}

pub has_in : (k : ℕ) (ks : List ℕ) → In k ks → has ks k ≡ true
has_in k [] i = absurd i
has_in k (j ∷ js) i =
    ⊎_elim (λ e. ap (λ b. b || has js k) (eq-eqb j k (sym e))) (λ rest. has_more k j js (has_in k js rest)) i

pub has_left : (n : ℕ) (xs ys : List ℕ) → has xs n ≡ true → has (xs ++ ys) n ≡ true
has_left n [] ys e = cc
has_left n (x ∷ xs) ys e = ⊎_elim
    (λ same. ap (λ b. b || has (xs ++ ys) n) (eq-eqb x n (sym same)))
    (λ rest. has_more n x (xs ++ ys) (has_left n xs ys rest))
    (first_or_other n x xs e)

pub has_right : (n : ℕ) (xs ys : List ℕ) → has ys n ≡ true → has (xs ++ ys) n ≡ true
has_right n [] ys e = e
has_right n (x ∷ xs) ys e = has_more n x (xs ++ ys) (has_right n xs ys e)

range_below : (v from n : ℕ) → has (range_with_len from n) v ≡ true → v < from + n
range_below v from zero e = cc
range_below v from (suc n) e = ⊎_elim
    (λ same. omega arith)
    (λ rest. let lt = range_below v (from + 1) n rest in omega arith)
    (first_or_other v from (range_with_len (from + 1) n) e)

-- a parameter's keys are among those of the first variables
parameter_keys : (n : ℕ) (ds : List VarDecl) (v : ℕ) (ty : Ty) → v < n →
    option_map (λ d. d.ty) (slice_get ds v) ≡ Some ty → (k : ℕ) → In k (keys_of_ty ty) →
    has (flat_map keys_of_ty (map (λ d. d.ty) (take n ds))) k ≡ true
parameter_keys zero ds v ty lt is k i = absurd (omega arith)
parameter_keys (suc n) [] v ty lt is k i = cc
parameter_keys (suc n) (d ∷ ds) zero ty lt is k i =
    has_left k (keys_of_ty d.ty) (flat_map keys_of_ty (map (λ d. d.ty) (take n ds)))
    (has_in k (keys_of_ty d.ty) (subst (λ t. In k (keys_of_ty t)) (sym (some_same is)) i))
  where
    some_same : {a b : Ty} → Some a ≡ Some b → a ≡ b
    some_same e = cc
parameter_keys (suc n) (d ∷ ds) (suc v) ty lt is k i =
    has_right k (keys_of_ty d.ty) (flat_map keys_of_ty (map (λ d. d.ty) (take n ds)))
    (parameter_keys n ds v ty (omega arith) is k i)

parameter_below : (v n len : ℕ) → has (range_with_len 0 (if nat_lt n len then n else len)) v ≡ true → v < n
parameter_below v n len e = ⊎_elim
    (λ lt. let q = rw lt at e in let below = range_below v 0 n q in omega arith)
    (λ past. let q = rw past at e in let lt = range_below v 0 len q in let le = not_below past in omega arith)
    (cases_Bool (nat_lt n len))
  where
    not_below : nat_lt n len ≡ false → len ≤ n
    not_below e = ltb-false n len e

-- a head's keys were bound
module _ (p : Program) (f : Func) {c : Context} where
  pub start_scoped : ((k : ℕ) → IsTrue (c.head k) → nat_lt k (length f.keys) ≡ true → has (head_keys f) k ≡ true) → c.pins ≡ [] →
      IsScoped f c (first_ids p f)
  start_scoped head none = record {
    vars = λ v k ty i is at. parameter_keys f.params f.vars v ty (parameter_below v f.params (length f.vars) i) is k at;
    keys = λ k i.
        has_left k (keys_of_result f ++ keys_of_parameters f) (map (λ e. e.key) f.clause)
        (has_right k (keys_of_result f) (keys_of_parameters f) i);
    ever = λ v i. i;
    head = head;
    pins = subst (WerePinsBound (first_ids p f)) (sym none) tt;
    owned = λ k i. inl i;
  }
