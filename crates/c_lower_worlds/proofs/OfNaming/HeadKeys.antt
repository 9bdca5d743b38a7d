-- What the rules on heads say of keys.
use Rattle.std.proofs.Common.{◌≡◌, ℕ, zero, suc, ◌==◌, nat_lt, nat_le, ◌&&◌, ◌||◌, not, Bool, true, false, if◌then◌else◌, List, [], ◌∷◌, ◌++◌, map, filter, length, Some, slice_get, refl, ap, subst, ⊎_elim}
use Rattle.std.proofs.lemmas.Bool.{false≢true}
use Rattle.std.proofs.lemmas.Option.{none-some, same_Some}
use Rattle.std.specs.List.{flat_map, list_any}
use Rattle.std.specs.Option.{option_map}
use Rattle.vlt_core.specs.Core.{Ty, tracked, Entry, VarDecl, Func, Program}
use Rattle.vlt_core.specs.Lookups.{var_type, is_new}
use Rattle.vlt_core.specs.Types.{keys_of_ty}
use Rattle.vlt_core.specs.Kinded.{IsKinded}
use Rattle.vlt_core.specs.KindedHeads.{unless, has, new_keys, keys_of_parameters, keys_of_result, is_key_of_result, new_key_broken, entry_broken, result_broken, external_broken, is_main_head, is_bound_entry}
use Rattle.vlt_core.specs.declared.rules.TheConstants as rule
use Rattle.vlt_meaning.specs.Calls.{is_new_key}
use Rattle.vlt_core_laws.proofs.Ids.{each_has, or_split, or_left, or_right, not_both, is_false, and_right}
use Rattle.vlt_core_laws.proofs.Binding.{in_range, chosen}
use Rattle.vlt_core_laws.proofs.Headed.{kinded_parts, has_left, has_right, head_empty, has_new_result, entries_fit}
use Rattle.c_lower_worlds.specs.Naming.Lists.{Each}
use Rattle.c_lower_worlds.proofs.OfNaming.RuleFacts.{both_empty}
use Rattle.vlt_core_laws.proofs.Unbroken.{unless_holds}

pub record IsNewResult (g : Func) (k : ℕ) : Type 0 where
  pub type : ℕ
  pub args : List ℕ
  pub is : g.result ≡ Some (tracked k type args)

pub record IsHeaded (g : Func) : Type 0 where
  pub result : (k : ℕ) → has (new_keys g) k ≡ true → IsNewResult g k
  -- no variable's type has a new key
  pub plain : (v k : ℕ) (ty : Ty) → var_type g v ≡ Some ty → has (keys_of_ty ty) k ≡ true → has (new_keys g) k ≡ false
  pub old : Each (λ (e : Entry). is_new e ≡ false → has (keys_of_parameters g) e.key ≡ true) g.clause
  pub new : Each (λ (e : Entry). is_new e ≡ true → has (new_keys g) e.key ≡ true) g.clause
  pub given : (k : ℕ) → has (keys_of_result g) k ≡ true → has (keys_of_parameters g ++ new_keys g) k ≡ true

old_at : (p : Program) (g : Func) (es : List Entry) → flat_map (entry_broken p g) es ≡ [] → Each (λ (e : Entry). is_new e ≡ false → has (keys_of_parameters g) e.key ≡ true) es
old_at p g [] e = tt
old_at p g (x ∷ es) e =
    let b = both_empty (entry_broken p g x) (flat_map (entry_broken p g) es) e in
    let there = in_range (nat_lt x.key (length g.keys)) _ b.left in
    let all = chosen (nat_lt x.key (length g.keys)) _ there b.left in
    let known = both_empty (unless (is_new x || has (keys_of_parameters g) x.key) rule.CLAUSE_KEY_UNBOUND) _ all in
    ((λ o. ⊎_elim (λ n. not_both (is_new x) n o) (λ h. h) (or_split (is_new x) (has (keys_of_parameters g) x.key) (unless_holds (is_new x || has (keys_of_parameters g) x.key) rule.CLAUSE_KEY_UNBOUND known.left))), old_at p g es b.right)

new_at : (ks : List ℕ) (es : List Entry) → ((k : ℕ) → has (map (λ (e : Entry). e.key) (filter is_new es)) k ≡ true → has ks k ≡ true) → Each (λ (e : Entry). is_new e ≡ true → has ks e.key ≡ true) es
new_at ks [] h = tt
new_at ks (x ∷ es) h = by (is_new x) refl (λ h. new_at ks es h) h
  where
    first : (k : ℕ) (ks : List ℕ) → has (k ∷ ks) k ≡ true
    first k ks = or_left (k == k) (has ks k) (Rattle.std.proofs.lemmas.Bool.eq-eqb k k refl)

    by : (b : Bool) → is_new x ≡ b → (((k : ℕ) → has (map (λ (e : Entry). e.key) (filter is_new es)) k ≡ true → has ks k ≡ true) → Each (λ (e : Entry). is_new e ≡ true → has ks e.key ≡ true) es) →
        ((k : ℕ) → has (map (λ (e : Entry). e.key) (if b then x ∷ filter is_new es else filter is_new es)) k ≡ true → has ks k ≡ true) →
        (is_new x ≡ true → has ks x.key ≡ true) × Each (λ (e : Entry). is_new e ≡ true → has ks e.key ≡ true) es
    by true q rest h = ((λ e. h x.key (first x.key (map (λ (e : Entry). e.key) (filter is_new es)))), rest (λ k m. h k (or_right (x.key == k) (has (map (λ (e : Entry). e.key) (filter is_new es)) k) m)))
    by false q rest h = ((λ e. not_both (is_new x) e q), rest h)

none_of : (k v : ℕ) (ds : List VarDecl) (ty : Ty) → list_any (λ (d : VarDecl). has (keys_of_ty d.ty) k) ds ≡ false → option_map (λ (d : VarDecl). d.ty) (slice_get ds v) ≡ Some ty → has (keys_of_ty ty) k ≡ false
none_of k v [] ty e at = absurd (none-some ty at)
none_of k zero (d ∷ ds) ty e at = subst (λ ty. has (keys_of_ty ty) k ≡ false) (same_Some d.ty ty at) (or_first (has (keys_of_ty d.ty) k) (list_any (λ (d : VarDecl). has (keys_of_ty d.ty) k) ds) e)
  where
    or_first : (a b : Bool) → (a || b) ≡ false → a ≡ false
    or_first true b e = e
    or_first false b e = refl
none_of k (suc v) (d ∷ ds) ty e at = none_of k v ds ty (or_last (has (keys_of_ty d.ty) k) (list_any (λ (d : VarDecl). has (keys_of_ty d.ty) k) ds) e) at
  where
    or_last : (a b : Bool) → (a || b) ≡ false → b ≡ false
    or_last true b e = not_both true refl e
    or_last false b e = e

pub headed : (p : Program) → IsKinded p → (n : ℕ) (g : Func) → slice_get p.fns n ≡ Some g → IsHeaded g
headed p kinded n g at =
    let head = head_empty p n g (kinded_parts p kinded) at in
    let z = both_empty _ (unless (nat_le (length (filter is_bound_entry g.clause)) 1) rule.SECOND_BOUND) head.1 in
    let b = both_empty _ (if head.0 == p.main then unless (is_main_head g) rule.MAIN_HEAD else []) z.left in
    let c = both_empty _ (if g.external then external_broken p g else []) b.left in
    let d = (both_empty _ (result_broken g) c.left).right in
    let e = both_empty _ (flat_map (λ k. unless (has (new_keys g) k || has (keys_of_parameters g) k) rule.RESULT_KEY) (keys_of_result g)) d in
    let news = (both_empty (unless (nat_le (length (new_keys g)) 1) rule.RESULT_KEY) (flat_map (new_key_broken g) (new_keys g)) e.left).right in
    record {
      result = λ k h. let r = (has_new_result p head.0 g head.1).each k h in record { type = r.0; args = r.1; is = r.2 };
      plain = λ v k ty t m. by_plain v k ty t m (has (new_keys g) k) refl news;
      old = old_at p g g.clause (entries_fit p head.0 g head.1);
      new = new_at (new_keys g) g.clause (λ k h. h);
      given = λ k h. ⊎_elim (λ x. has_right (keys_of_parameters g) (new_keys g) k x) (λ x. has_left (keys_of_parameters g) (new_keys g) k x)
          (or_split (has (new_keys g) k) (has (keys_of_parameters g) k)
          (unless_holds (has (new_keys g) k || has (keys_of_parameters g) k) rule.RESULT_KEY (each_has (λ k. unless (has (new_keys g) k || has (keys_of_parameters g) k) rule.RESULT_KEY) (keys_of_result g) k e.right h)));
    }
  where
    by_plain : (v k : ℕ) (ty : Ty) → var_type g v ≡ Some ty → has (keys_of_ty ty) k ≡ true → (b : Bool) → has (new_keys g) k ≡ b → flat_map (new_key_broken g) (new_keys g) ≡ [] → b ≡ false
    by_plain v k ty t m true q news =
        let n = unless_holds (is_key_of_result g.result k && not (list_any (λ (d : VarDecl). has (keys_of_ty d.ty) k) g.vars)) rule.RESULT_KEY (each_has (new_key_broken g) (new_keys g) k news q) in
        not_both (has (keys_of_ty ty) k) m
        (none_of k v g.vars ty (is_false (list_any (λ (d : VarDecl). has (keys_of_ty d.ty) k) g.vars) (and_right (is_key_of_result g.result k) (not (list_any (λ (d : VarDecl). has (keys_of_ty d.ty) k) g.vars)) n)) t)
    by_plain v k ty t m false q news = refl

-- ---- new keys, said in two ways

pub new_key_same : (es : List Entry) (k : ℕ) → list_any (λ (e : Entry). is_new e && (e.key == k)) es ≡ has (map (λ (e : Entry). e.key) (filter is_new es)) k
new_key_same [] k = refl
new_key_same (x ∷ es) k = by (is_new x) (new_key_same es k)
  where
    by : (b : Bool) → list_any (λ (e : Entry). is_new e && (e.key == k)) es ≡ has (map (λ (e : Entry). e.key) (filter is_new es)) k →
        ((b && (x.key == k)) || list_any (λ (e : Entry). is_new e && (e.key == k)) es) ≡ has (map (λ (e : Entry). e.key) (if b then x ∷ filter is_new es else filter is_new es)) k
    by true h = ap (λ c. (x.key == k) || c) h
    by false h = h

pub is_new_same : (g : Func) (k : ℕ) → is_new_key g k ≡ has (new_keys g) k
is_new_same g k = new_key_same g.clause k

-- an entry that is new makes a new key
pub some_new : (es : List Entry) (k : ℕ) → has (map (λ (e : Entry). e.key) (filter is_new es)) k ≡ true → list_any is_new es ≡ true
some_new [] k m = m
some_new (e ∷ es) k m = by (is_new e) (λ m. some_new es k m) m
  where
    by : (b : Bool) → (has (map (λ (e : Entry). e.key) (filter is_new es)) k ≡ true → list_any is_new es ≡ true) →
        has (map (λ (e : Entry). e.key) (if b then e ∷ filter is_new es else filter is_new es)) k ≡ true → (b || list_any is_new es) ≡ true
    by true more m = refl
    by false more m = more m

pub new_some : (es : List Entry) → list_any is_new es ≡ true → (k : ℕ) × (has (map (λ (e : Entry). e.key) (filter is_new es)) k ≡ true)
new_some [] e = absurd (false≢true e)
new_some (x ∷ es) e = by (is_new x) (λ e. new_some es e) e
  where
    first : (k : ℕ) (ks : List ℕ) → has (k ∷ ks) k ≡ true
    first k ks = or_left (k == k) (has ks k) (Rattle.std.proofs.lemmas.Bool.eq-eqb k k refl)

    by : (b : Bool) → (list_any is_new es ≡ true → (k : ℕ) × (has (map (λ (e : Entry). e.key) (filter is_new es)) k ≡ true)) → (b || list_any is_new es) ≡ true →
        (k : ℕ) × (has (map (λ (e : Entry). e.key) (if b then x ∷ filter is_new es else filter is_new es)) k ≡ true)
    by true more e = (x.key, first x.key (map (λ (e : Entry). e.key) (filter is_new es)))
    by false more e = more e

pub each_filtered : (P : Entry → Type 0) (test : Entry → Bool) (es : List Entry) → Each P es → Each P (filter test es)
each_filtered P test [] h = tt
each_filtered P test (e ∷ es) h = by (test e) (each_filtered P test es h.1)
  where
    by : (b : Bool) → Each P (filter test es) → Each P (if b then e ∷ filter test es else filter test es)
    by true rest = (h.0, rest)
    by false rest = rest
