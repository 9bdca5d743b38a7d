-- The `new` key of a clause, and the state that an answer gives its object.
use Rattle.std.proofs.Common.{◌≡◌, ◌⊎◌, inl, inr, ⊎_elim, ℕ, suc, Bool, true, false, if◌then◌else◌, List, [], ◌∷◌, map, Option, Some, None, refl, sym, ap, ◌∙◌, slice_get}
use Rattle.std.proofs.lemmas.Bool.{cases_Bool}
use Rattle.std.specs.List.{flat_map}
use Rattle.std.specs.Option.{option_map}
use Rattle.vlt_core.specs.Core.{Ty, int, bool, tracked, owning, guarded, variant, owning_variant, Entry, Func, Program}
use Rattle.vlt_core.specs.Lookups.{is_new}
use Rattle.vlt_core.specs.Types.{keys_of_ty}
use Rattle.vlt_core.specs.KindedHeads.{has, own_typings}
use Rattle.vlt_meaning.specs.Calls.{binding}
use Rattle.vlt_meaning.specs.Externals.{new_key}
use Rattle.vlt_sound_worlds.specs.Members.{In}
use Rattle.vlt_sound_worlds.proofs.Members.{in_right}
use Rattle.vlt_sound_worlds.proofs.Binding.{first_or_other}
use Rattle.vlt_sound_calls.specs.Callee.{caller_key}
use Rattle.vlt_sound_calls.specs.Among.{Among}
use Rattle.vlt_sound_calls.proofs.ClauseRows.{AreThere}
use Rattle.vlt_sound_worlds.specs.Said.{GoTogether, IsAfter}

-- ---- lists

pub in_has : (n : ℕ) (xs : List ℕ) → has xs n ≡ true → In n xs
in_has n [] e = cc
in_has n (x ∷ xs) e = ⊎_elim inl (λ rest. inr (in_has n xs rest)) (first_or_other n x xs e)

pub among_at : {A : Type 0} (xs : List A) (x : A) → Among x xs → (i : ℕ) × (slice_get xs i ≡ Some x)
among_at [] x i = absurd i
among_at (y ∷ xs) x (inl same) = (0, ap Some (sym same))
among_at (y ∷ xs) x (inr rest) = let q = among_at xs x rest in (suc q.0, q.1)

-- the own key of a reference is one of its type's
pub own_in : (tys : List Ty) (k : ℕ) → In k (map (λ x. x.key) (flat_map own_typings tys)) → In k (flat_map keys_of_ty tys)
own_in [] k i = absurd i
own_in (tracked j t args ∷ tys) k (inl same) = inl same
own_in (tracked j t args ∷ tys) k (inr i) = inr (in_right k args (flat_map keys_of_ty tys) (own_in tys k i))
own_in (int ∷ tys) k i = own_in tys k i
own_in (bool ∷ tys) k i = own_in tys k i
own_in (owning S t args ∷ tys) k i = in_right k args (flat_map keys_of_ty tys) (own_in tys k i)
own_in (guarded j t args ∷ tys) k i = in_right k (j ∷ args) (flat_map keys_of_ty tys) (own_in tys k i)
own_in (variant t args ∷ tys) k i = in_right k args (flat_map keys_of_ty tys) (own_in tys k i)
own_in (owning_variant t args ∷ tys) k i = in_right k args (flat_map keys_of_ty tys) (own_in tys k i)

-- references that are the same have the same key, and the same arguments
pub same_key : {k j t u : ℕ} {args others : List ℕ} → Some (tracked k t args) ≡ Some (tracked j u others) → k ≡ j
same_key {k} {j} {t} {u} {args} {others} e = ap key e
  where
    key : Option Ty → ℕ
    key (Some (tracked k t args)) = k
    key o = 0

pub same_args : {k j t u : ℕ} {args others : List ℕ} → Some (tracked k t args) ≡ Some (tracked j u others) → args ≡ others
same_args {k} {j} {t} {u} {args} {others} e = ap of e
  where
    of : Option Ty → List ℕ
    of (Some (tracked k t args)) = args
    of o = []

-- ---- the `new` key

pub none_new : (keys : List ℕ) (es : List Entry) (states : List ℕ) → ((e : Entry) → Among e es → is_new e ≡ true → ⊥) →
    new_key keys es states ≡ None
none_new keys [] [] none = refl
none_new keys [] (s ∷ ss) none = refl
none_new keys (x ∷ es) [] none = refl
none_new keys (x ∷ es) (s ∷ ss) none = by (is_new x) refl (none_new keys es ss (λ e i. none e (inr i)))
  where
    by : (b : Bool) → is_new x ≡ b → new_key keys es ss ≡ None →
        (if b then option_map (binding s) (slice_get keys x.key) else new_key keys es ss) ≡ None
    by true q rest = absurd (none x (inl refl) q)
    by false q rest = rest

-- the caller's key of a `new` entry, with the state of its object
pub record IsNew (p : Program) (g : Func) (keys : List ℕ) (es : List Entry) (states : List ℕ) : Type 0 where
  pub entry : Entry
  pub among : Among entry es
  pub new : is_new entry ≡ true
  pub state : ℕ
  pub is : new_key keys es states ≡ Some (binding state (caller_key keys entry))
  pub after : IsAfter p g entry state

pub one_new : (p : Program) (g : Func) (keys : List ℕ) (es : List Entry) (states : List ℕ) → AreThere keys es →
    GoTogether (IsAfter p g) es states → (e : Entry) → Among e es → is_new e ≡ true → IsNew p g keys es states
one_new p g keys [] states there said e i new = absurd i
one_new p g keys (x ∷ es) [] there said e i new = absurd said
one_new p g keys (x ∷ es) (s ∷ ss) there said e i new =
    ⊎_elim here (λ old. later old (one_new p g keys es ss (λ d j. there d (inr j)) said.1 e (rest old i) new)) (cases_Bool (is_new x))
  where
    rest : is_new x ≡ false → (e ≡ x) ⊎ Among e es → Among e es
    rest old (inl same) = absurd (clash (sym old ∙ (ap is_new (sym same) ∙ new)))
      where
        clash : false ≡ true → ⊥
        clash e = cc
    rest old (inr i) = i

    here : is_new x ≡ true → IsNew p g keys (x ∷ es) (s ∷ ss)
    here q = record {
      entry = x;
      among = inl refl;
      new = q;
      state = s;
      is =
          ap (λ b. if b then option_map (binding s) (slice_get keys x.key) else new_key keys es ss) q ∙
          ap (option_map (binding s)) (there x (inl refl));
      after = said.0;
    }

    later : is_new x ≡ false → IsNew p g keys es ss → IsNew p g keys (x ∷ es) (s ∷ ss)
    later q n = record {
      entry = n.entry;
      among = inr n.among;
      new = n.new;
      state = n.state;
      is = ap (λ b. if b then option_map (binding s) (slice_get keys x.key) else new_key keys es ss) q ∙ n.is;
      after = n.after;
    }
