-- The tables of what is given and of what is wanted, as they are seen.
use Rattle.std.proofs.Common.{◌≡◌, ◌<◌, ◌≤◌, ◌+◌, ℕ, suc, Bool, true, false, not, ◌&&◌, ◌||◌, cond, List, [], ◌∷◌, ◌++◌, map, Option, Some, None, option_map, Result, Ok, Err, OnOk, refl, sym, ap, ap₂, ◌∙◌, length, drop, drop-cons, add-one, get_or}
use Rattle.std.specs.Borrow.{Bor}
use Rattle.std.specs.List.{find, list_any}
use Rattle.std.specs.Map.{lookup}
use Rattle.std.specs.Str.{bytes_eq}
use Rattle.std.proofs.lemmas.Slice.Eq.{bytes_eq-Decides}
use Rattle.std.proofs.lemmas.List.{drop_all}
use Rattle.vlt_syntax.specs.Tree as s
use Rattle.vlt_syntax.specs.View.{decl_of}
use Rattle.vlt_syntax.specs.declared.tree.Decl.{Decl}
use Rattle.vlt_iface.specs.declared.given.Given.{Given}
use Rattle.vlt_iface.specs.declared.wanted.Wanted.{Wanted}
use Rattle.vlt_iface.specs.View.{gives}
use Rattle.vlt_iface.specs.Seen.{decl_seen, decls_seen}
use Rattle.vlt_iface.specs.Texts.{texts_seen, has_text}
use Rattle.vlt_iface.specs.Given.{Key, struct, function, nothing, given_key, wanted_key, same_key, entry_in, giver_in, HasGivers, first_of, when, wants}
use Rattle.vlt_iface.proofs.Standing.{bytes_swap, gives_key}

pub on_ok : {A E : Type 0} (r : Result A E) {P Q : Type 0} → (P → Q) → OnOk r P → OnOk r Q
on_ok (Ok x) go p = go p
on_ok (Err e) go p = tt

first_none : {A : Type 0} (o : Option A) → first_of o None ≡ o
first_none None = refl
first_none (Some x) = refl

-- ---- entries

pub inserted : (old new : List (Bor (List ℕ) × Bor Decl)) (k : Bor (List ℕ)) (d : Bor Decl) →
    ((q : Bor (List ℕ)) → lookup (λ x. bytes_eq q.now x.now) new ≡ cond (bytes_eq k.now q.now) (Some d) (lookup (λ x. bytes_eq q.now x.now) old)) →
    (n : List ℕ) → entry_in new n ≡ first_of (when (bytes_eq n k.now) (decl_seen d)) (entry_in old n)
inserted old new k d updates n =
    ap (option_map decl_seen) (updates (record { ref_ptr = (0, 0); now = n }) ∙ ap (λ (b : Bool). cond b (Some d) (lookup (λ x. bytes_eq n x.now) old)) (bytes_swap k.now n)) ∙
    by (bytes_eq n k.now)
  where
    by : (b : Bool) → option_map decl_seen (cond b (Some d) (lookup (λ x. bytes_eq n x.now) old)) ≡ first_of (when b (decl_seen d)) (entry_in old n)
    by true = refl
    by false = refl

-- the table has an entry of this name: it stays
pub entry_stays : (es : List (Bor (List ℕ) × Bor Decl)) (name : List ℕ) (x d : s.Decl) → entry_in es name ≡ Some x →
    (n : List ℕ) → entry_in es n ≡ first_of (entry_in es n) (when (bytes_eq n name) d)
entry_stays es name x d there n = by (bytes_eq n name) refl
  where
    by : (b : Bool) → bytes_eq n name ≡ b → entry_in es n ≡ first_of (entry_in es n) (when b d)
    by false e = sym (first_none (entry_in es n))
    by true e =
        let is : entry_in es n ≡ Some x = ap (entry_in es) ((bytes_eq-Decides n name).0 e) ∙ there in
        is ∙ sym (ap (λ o. first_of o (Some d)) is)

-- and has none: it gets this one
pub entry_added : (es more : List (Bor (List ℕ) × Bor Decl)) (name : List ℕ) (d : s.Decl) → entry_in es name ≡ None →
    ((n : List ℕ) → entry_in more n ≡ first_of (when (bytes_eq n name) d) (entry_in es n)) →
    (n : List ℕ) → entry_in more n ≡ first_of (entry_in es n) (when (bytes_eq n name) d)
entry_added es more name d none added n = added n ∙ by (bytes_eq n name) refl
  where
    by : (b : Bool) → bytes_eq n name ≡ b → first_of (when b d) (entry_in es n) ≡ first_of (entry_in es n) (when b d)
    by false e = sym (first_none (entry_in es n))
    by true e =
        let is : entry_in es n ≡ None = ap (entry_in es) ((bytes_eq-Decides n name).0 e) ∙ none in
        sym (ap (λ o. first_of o (Some d)) is)

-- ---- givers

-- one more declaration
found_more : (i d : s.Decl) (ms : List s.Decl) → find (gives i) (ms ++ d ∷ []) ≡ first_of (find (gives i) ms) (when (gives i d) d)
found_more i d [] = by (gives i d)
  where
    by : (b : Bool) → cond b (Some d) None ≡ when b d
    by true = refl
    by false = refl
found_more i d (m ∷ ms) = ap (λ o. cond (gives i m) (Some m) o) (found_more i d ms) ∙ by (gives i m)
  where
    by : (b : Bool) → cond b (Some m) (first_of (find (gives i) ms) (when (gives i d) d)) ≡ first_of (cond b (Some m) (find (gives i) ms)) (when (gives i d) d)
    by true = refl
    by false = refl

pub givers_more : (before after : Key → Option s.Decl) (ms : List s.Decl) (d : s.Decl) → ((i : s.Decl) → before (wanted_key i) ≡ find (gives i) ms) →
    ((k : Key) → after k ≡ first_of (before k) (when (same_key k (given_key d)) d)) →
    (i : s.Decl) → after (wanted_key i) ≡ find (gives i) (ms ++ d ∷ [])
givers_more before after ms d has added i =
    added (wanted_key i) ∙
    (ap₂ (λ o (b : Bool). first_of o (when b d)) (has i) (sym (gives_key i d)) ∙ sym (found_more i d ms))

-- ---- what is wanted

or_none : (a : Bool) → a ≡ (a || false)
or_none true = refl
or_none false = refl

and_all : (a : Bool) → a ≡ (a && not false)
and_all true = refl
and_all false = refl

pub seen_any : (ks : List (Bor (List ℕ))) (n : List ℕ) → list_any (λ k. bytes_eq n k.now) ks ≡ has_text (texts_seen ks) n
seen_any [] n = refl
seen_any (k ∷ ks) n = ap (λ b. bytes_eq n k.now || b) (seen_any ks n)

pub name_added : (old new : List (Bor (List ℕ))) (name : List ℕ) →
    ((q : Bor (List ℕ)) → list_any (λ k. bytes_eq q.now k.now) new ≡ cond (bytes_eq name q.now) true (list_any (λ k. bytes_eq q.now k.now) old)) →
    (n : List ℕ) → has_text (texts_seen new) n ≡ (has_text (texts_seen old) n || bytes_eq name n)
name_added old new name updates n =
    sym (seen_any new n) ∙ (updates (record { ref_ptr = (0, 0); now = n }) ∙ (ap (cond (bytes_eq name n) true) (seen_any old n) ∙ by (bytes_eq name n) (has_text (texts_seen old) n)))
  where
    by : (b a : Bool) → cond b true a ≡ (a || b)
    by true true = refl
    by true false = refl
    by false true = refl
    by false false = refl

pub name_taken : (old new : List (Bor (List ℕ))) (name : List ℕ) →
    ((q : Bor (List ℕ)) → list_any (λ k. bytes_eq q.now k.now) new ≡ cond (bytes_eq name q.now) false (list_any (λ k. bytes_eq q.now k.now) old)) →
    (n : List ℕ) → has_text (texts_seen new) n ≡ (has_text (texts_seen old) n && not (bytes_eq name n))
name_taken old new name updates n =
    sym (seen_any new n) ∙ (updates (record { ref_ptr = (0, 0); now = n }) ∙ (ap (cond (bytes_eq name n) false) (seen_any old n) ∙ by (bytes_eq name n) (has_text (texts_seen old) n)))
  where
    by : (b a : Bool) → cond b false a ≡ (a && not b)
    by true true = refl
    by true false = refl
    by false true = refl
    by false false = refl

or_swap : (a b c : Bool) → ((a || b) || c) ≡ (a || (b || c))
or_swap true b c = refl
or_swap false b c = refl

wanted_next : (before after key rest all : Bool) → after ≡ (before || key) → (before || (key || rest)) ≡ all → (after || rest) ≡ all
wanted_next before after key rest all is same = ap (λ b. b || rest) is ∙ (or_swap before key rest ∙ same)

pub split_at : {X : Type 0} (xs : List X) (i : ℕ) (x : X) → i < length xs → x ≡ get_or xs i x → drop i xs ≡ x ∷ drop (i + 1) xs
split_at xs i x lt read = rw add-one (drop-cons xs i x lt ∙ ap (λ y. y ∷ drop (suc i) xs) (sym read))

-- some of these want what the key names
abbrev pub are_wanting : List Decl → Key → Bool
are_wanting ds k = list_any (λ i. same_key (wanted_key i) k) (map decl_of ds)

pub wanted_none : (w : Wanted) (ds : List Decl) → ((k : Key) → wants w k ≡ false) → (k : Key) → (wants w k || are_wanting ds k) ≡ are_wanting ds k
wanted_none w ds none k = ap (λ b. b || are_wanting ds k) (none k)

-- one more turn over an interface's declarations
pub wanted_more : (before after : Wanted) (ds : List Decl) (i : ℕ) (d : Decl) → i < length ds → d ≡ get_or ds i d →
    ((k : Key) → wants after k ≡ (wants before k || same_key (wanted_key (decl_of d)) k)) →
    ((k : Key) → (wants before k || are_wanting (drop i ds) k) ≡ are_wanting ds k) →
    (k : Key) → (wants after k || are_wanting (drop (i + 1) ds) k) ≡ are_wanting ds k
wanted_more before after ds i d lt is more same k =
    wanted_next (wants before k) (wants after k) (same_key (wanted_key (decl_of d)) k) (are_wanting (drop (i + 1) ds) k) (are_wanting ds k) (more k)
    (ap (λ xs. wants before k || are_wanting xs k) (sym (split_at ds i d lt is)) ∙ same k)

pub wanted_all : (w : Wanted) (ds : List Decl) (i : ℕ) → length ds ≤ i →
    ((k : Key) → (wants w k || are_wanting (drop i ds) k) ≡ are_wanting ds k) → (k : Key) → wants w k ≡ are_wanting ds k
wanted_all w ds i past same k =
    or_none (wants w k) ∙ (ap (λ xs. wants w k || are_wanting xs k) (sym (drop_all i ds past)) ∙ same k)

-- ---- the steps of the tables

pub none_given : (g : Given) → g.all ≡ [] → g.structs.entries ≡ [] → g.functions.entries ≡ [] → HasGivers g
none_given g all structs functions i = by (wanted_key i) ∙ sym (ap (λ ds. find (gives i) (decls_seen ds)) all)
  where
    by : (k : Key) → giver_in g k ≡ None
    by (struct n) = ap (λ es. entry_in es n) structs
    by (function n) = ap (λ es. entry_in es n) functions
    by nothing = refl

module _ (old new : Given) (d : s.Decl) where
  pub struct_noted : (n : List ℕ) → given_key d ≡ struct n → new.functions.entries ≡ old.functions.entries →
      ((m : List ℕ) → entry_in new.structs.entries m ≡ first_of (entry_in old.structs.entries m) (when (bytes_eq m n) d)) →
      (k : Key) → giver_in new k ≡ first_of (giver_in old k) (when (same_key k (given_key d)) d)
  struct_noted n is same added k = by k ∙ ap (λ j. first_of (giver_in old k) (when (same_key k j) d)) (sym is)
    where
      by : (k : Key) → giver_in new k ≡ first_of (giver_in old k) (when (same_key k (struct n)) d)
      by (struct m) = added m
      by (function m) = ap (λ es. entry_in es m) same ∙ sym (first_none (entry_in old.functions.entries m))
      by nothing = refl

  pub function_noted : (n : List ℕ) → given_key d ≡ function n → new.structs.entries ≡ old.structs.entries →
      ((m : List ℕ) → entry_in new.functions.entries m ≡ first_of (entry_in old.functions.entries m) (when (bytes_eq m n) d)) →
      (k : Key) → giver_in new k ≡ first_of (giver_in old k) (when (same_key k (given_key d)) d)
  function_noted n is same added k = by k ∙ ap (λ j. first_of (giver_in old k) (when (same_key k j) d)) (sym is)
    where
      by : (k : Key) → giver_in new k ≡ first_of (giver_in old k) (when (same_key k (function n)) d)
      by (struct m) = ap (λ es. entry_in es m) same ∙ sym (first_none (entry_in old.structs.entries m))
      by (function m) = added m
      by nothing = refl

pub nothing_noted : (g : Given) (d : s.Decl) → given_key d ≡ nothing → (k : Key) → giver_in g k ≡ first_of (giver_in g k) (when (same_key k (given_key d)) d)
nothing_noted g d is k = by k ∙ ap (λ j. first_of (giver_in g k) (when (same_key k j) d)) (sym is)
  where
    by : (k : Key) → giver_in g k ≡ first_of (giver_in g k) (when (same_key k nothing) d)
    by (struct m) = sym (first_none (entry_in g.structs.entries m))
    by (function m) = sym (first_none (entry_in g.functions.entries m))
    by nothing = refl

pub none_wanted : (w : Wanted) → w.structs.keys ≡ [] → w.functions.keys ≡ [] → (k : Key) → wants w k ≡ false
none_wanted w structs functions (struct n) = ap (λ ks. has_text (texts_seen ks) n) structs
none_wanted w structs functions (function n) = ap (λ ks. has_text (texts_seen ks) n) functions
none_wanted w structs functions nothing = refl

module _ (old new : Wanted) (key : Key) where
  pub struct_wanted : (n : List ℕ) → key ≡ struct n → new.functions.keys ≡ old.functions.keys →
      ((m : List ℕ) → has_text (texts_seen new.structs.keys) m ≡ (has_text (texts_seen old.structs.keys) m || bytes_eq n m)) →
      (k : Key) → wants new k ≡ (wants old k || same_key key k)
  struct_wanted n is same added k = by k ∙ ap (λ j. wants old k || same_key j k) (sym is)
    where
      by : (k : Key) → wants new k ≡ (wants old k || same_key (struct n) k)
      by (struct m) = added m
      by (function m) = ap (λ ks. has_text (texts_seen ks) m) same ∙ or_none (has_text (texts_seen old.functions.keys) m)
      by nothing = refl

  pub function_wanted : (n : List ℕ) → key ≡ function n → new.structs.keys ≡ old.structs.keys →
      ((m : List ℕ) → has_text (texts_seen new.functions.keys) m ≡ (has_text (texts_seen old.functions.keys) m || bytes_eq n m)) →
      (k : Key) → wants new k ≡ (wants old k || same_key key k)
  function_wanted n is same added k = by k ∙ ap (λ j. wants old k || same_key j k) (sym is)
    where
      by : (k : Key) → wants new k ≡ (wants old k || same_key (function n) k)
      by (struct m) = ap (λ ks. has_text (texts_seen ks) m) same ∙ or_none (has_text (texts_seen old.structs.keys) m)
      by (function m) = added m
      by nothing = refl

  pub struct_taken : (n : List ℕ) → key ≡ struct n → new.functions.keys ≡ old.functions.keys →
      ((m : List ℕ) → has_text (texts_seen new.structs.keys) m ≡ (has_text (texts_seen old.structs.keys) m && not (bytes_eq n m))) →
      (k : Key) → wants new k ≡ (wants old k && not (same_key key k))
  struct_taken n is same taken k = by k ∙ ap (λ j. wants old k && not (same_key j k)) (sym is)
    where
      by : (k : Key) → wants new k ≡ (wants old k && not (same_key (struct n) k))
      by (struct m) = taken m
      by (function m) = ap (λ ks. has_text (texts_seen ks) m) same ∙ and_all (has_text (texts_seen old.functions.keys) m)
      by nothing = refl

  pub function_taken : (n : List ℕ) → key ≡ function n → new.structs.keys ≡ old.structs.keys →
      ((m : List ℕ) → has_text (texts_seen new.functions.keys) m ≡ (has_text (texts_seen old.functions.keys) m && not (bytes_eq n m))) →
      (k : Key) → wants new k ≡ (wants old k && not (same_key key k))
  function_taken n is same taken k = by k ∙ ap (λ j. wants old k && not (same_key j k)) (sym is)
    where
      by : (k : Key) → wants new k ≡ (wants old k && not (same_key (function n) k))
      by (struct m) = ap (λ ks. has_text (texts_seen ks) m) same ∙ and_all (has_text (texts_seen old.structs.keys) m)
      by (function m) = taken m
      by nothing = refl

pub nothing_wanted : (w : Wanted) (key : Key) → key ≡ nothing → (k : Key) → wants w k ≡ (wants w k || same_key key k)
nothing_wanted w key is k = or_none (wants w k) ∙ ap (λ j. wants w k || same_key j k) (sym is)

pub nothing_taken : (w : Wanted) (key : Key) → key ≡ nothing → (k : Key) → wants w k ≡ (wants w k && not (same_key key k))
nothing_taken w key is k = and_all (wants w k) ∙ ap (λ j. wants w k && not (same_key j k)) (sym is)

pub with_all : (g : Given) (all : List (Bor Decl)) (k : Key) → giver_in (record g { all = all }) k ≡ giver_in g k
with_all g all (struct n) = refl
with_all g all (function n) = refl
with_all g all nothing = refl
