-- A function leaves: what it gives back is held, and it has nothing else.
use Rattle.std.proofs.Common.{◌≡◌, ◌⊎◌, inl, inr, ⊎_elim, ℕ, ◌+◌, ◌<◌, ◌==◌, nat_lt, Bool, true, false, ◌&&◌, ◌||◌, not, if◌then◌else◌, IsTrue, List, [], ◌∷◌, ◌++◌, map, filter, length, Option, Some, None, is_none, Ok, refl, sym, ap, ◌∙◌, subst, arith, slice_get}
use Rattle.std.proofs.lemmas.Bool.{cases_Bool, eqb-true, eq-eqb, ltb-true}
use Rattle.std.proofs.lemmas.Option.{none-some, same_Some, slice_get_cases}
use Rattle.std.specs.Option.{option_map}
use Rattle.std.specs.List.{list_any, range_with_len}
use Rattle.vlt_core.specs.Core.{Operand, a_key, a_var, Entry, Func}
use Rattle.vlt_core.specs.Lookups.{owns, is_owning_var, key_type, after_set, is_held_after, is_new, is_given_back}
use Rattle.vlt_core.specs.Maps as maps
use Rattle.vlt_core.specs.Maps.{Status, absent, held, lent, full, kind_of, is_absent, is_held, states_of, HeldMap, wants_in, CanPass, map_after}
use Rattle.vlt_core.specs.Rows.{tokens_of}
use Rattle.vlt_core.specs.KindedHeads.{has, keys_of_parameters, keys_of_result}
use Rattle.vlt_core.specs.KindedScopes.{Ids}
use Rattle.vlt_meaning.specs.World as world
use Rattle.vlt_meaning.specs.World.{Value, Owner, gone, is_at, Object, Frame, World, wrong_state, left_behind}
use Rattle.vlt_meaning.specs.Found.{◌>>=◌, if_so}
use Rattle.vlt_meaning.specs.Objects.{in_states}
use Rattle.vlt_meaning.specs.Values.{held_object}
use Rattle.vlt_meaning.specs.Calls.{entries_after, is_new_key, new_object, returned_object, returned_objects, holds_only, is_emptied}
use Rattle.vlt_meaning.specs.Run.{Setup, left_function}
use Rattle.vlt_sound_worlds.specs.Look.{look}
use Rattle.vlt_sound_worlds.proofs.Look.{live_within, look_is, look_at}
use Rattle.vlt_sound_worlds.specs.Members.{In, IsOnce}
use Rattle.vlt_sound_worlds.specs.Roots.{owned_by}
use Rattle.vlt_sound_worlds.specs.Keys.{IsUnder, IsOnly}
use Rattle.vlt_sound_worlds.proofs.KeysLaws.{held_one, none_under, under_is}
use Rattle.vlt_sound_worlds.specs.Fits.{Names}
use Rattle.vlt_sound_worlds.specs.Agrees.{HasVar, Handed, values_of, Context, scene, Agrees}
use Rattle.vlt_sound_worlds.specs.Safe.{Safe}
use Rattle.vlt_sound_worlds.proofs.Safe.{found_safe, so_safe}
use Rattle.vlt_sound_worlds.proofs.Touch.{named, held_found, held_is}
use Rattle.vlt_sound_worlds.proofs.Rows.{pass_split}
use Rattle.vlt_sound_worlds.proofs.Leaving.{var_is_no_key, key_same}
use Rattle.vlt_sound_worlds.proofs.Starting.{has_right}
use Rattle.vlt_sound_calls.specs.Returned.{IsEntered, AreKept, FitsResult, returns_to}
use Rattle.vlt_sound_calls.specs.Heads.{HasHead}
use Rattle.vlt_sound_calls.specs.Callee.{AreApartBy}
use Rattle.vlt_sound_calls.specs.Among.{Among}
use Rattle.vlt_sound_calls.proofs.Entries.{same_entry, sought}
use Rattle.vlt_sound_calls.proofs.Pairs.{among_filtered, filtered_among, filtered_apart}
use Rattle.vlt_sound_calls.proofs.ResultsLaws.{new_is_after}
use Rattle.vlt_sound_calls.proofs.Statics.{apart_by, any_new, param_not_new}
use Rattle.vlt_sound_calls.proofs.Taking.{take_rows, take_other, take_wanted, gone_absent, key_token, var_token, all_numbered, all_filtered}

absent_is : (s : Status) → kind_of s ≡ is_absent → s ≡ absent
absent_is absent e = refl
absent_is (held S) e = cc
absent_is (lent S) e = cc
absent_is full e = cc

-- held after, and not new
pub is_given : {a b : Bool} → a ≡ true → b ≡ false → (a && not b) ≡ true
is_given e f = rw (e, f) refl

pub false_true : false ≡ true → ⊥
false_true e = cc

-- entries with different keys, of which none have the same key here either
apart_too : (at : Entry → ℕ) (es : List Entry) → AreApartBy (λ e. e.key) es →
    ((d e : Entry) → Among d es → Among e es → at d ≡ at e → d.key ≡ e.key) → AreApartBy at es
apart_too at [] apart same = tt
apart_too at (x ∷ es) apart same =
    (λ d i e. apart.0 d i (same d x (inr i) (inl refl) e), apart_too at es apart.1 (λ d e i j. same d e (inr i) (inr j)))

-- each entry that is held after is new, or given back
abbrev pub kept_entries : Func → List Entry
kept_entries f = filter is_new f.clause ++ filter is_given_back f.clause

among_append : (xs ys : List Entry) (e : Entry) → Among e (xs ++ ys) → Among e xs ⊎ Among e ys
among_append [] ys e i = inr i
among_append (x ∷ xs) ys e i =
    ⊎_elim (λ same. inl (inl same)) (λ rest. ⊎_elim (λ l. inl (inr l)) inr (among_append xs ys e rest)) i

among_left : (xs ys : List Entry) (e : Entry) → Among e xs → Among e (xs ++ ys)
among_left [] ys e i = absurd i
among_left (x ∷ xs) ys e i = ⊎_elim inl (λ rest. inr (among_left xs ys e rest)) i

among_right : (xs ys : List Entry) (e : Entry) → Among e ys → Among e (xs ++ ys)
among_right [] ys e i = i
among_right (x ∷ xs) ys e i = inr (among_right xs ys e i)

apart_append : (at : Entry → ℕ) (xs ys : List Entry) → AreApartBy at xs → AreApartBy at ys →
    ((d e : Entry) → Among d xs → Among e ys → at e ≡ at d → ⊥) → AreApartBy at (xs ++ ys)
apart_append at [] ys a b off = b
apart_append at (x ∷ xs) ys a b off = (
  λ d i e. ⊎_elim (λ l. a.0 d l e) (λ r. off x d (inl refl) r e) (among_append xs ys d i),
  apart_append at xs ys a.1 b (λ d e i j. off d e (inr i) j),
)

pub entry_has : (es : List Entry) (e : Entry) → Among e es → has (map (λ e. e.key) es) e.key ≡ true
entry_has [] e i = absurd i
entry_has (x ∷ es) e (inl same) = rw (eq-eqb x.key e.key (ap (λ e. e.key) (sym same))) refl
entry_has (x ∷ es) e (inr rest) = or_more (x.key == e.key) (entry_has es e rest)
  where
    or_more : (b : Bool) → has (map (λ e. e.key) es) e.key ≡ true → (b || has (map (λ e. e.key) es) e.key) ≡ true
    or_more true q = refl
    or_more false q = q

pub new_key_true : (es : List Entry) (e : Entry) → Among e es → is_new e ≡ true →
    list_any (λ d. is_new d && d.key == e.key) es ≡ true
new_key_true [] e i t = absurd i
new_key_true (x ∷ es) e (inl same) t =
    rw (ap is_new (sym same) ∙ t, eq-eqb x.key e.key (ap (λ e. e.key) (sym same))) refl
new_key_true (x ∷ es) e (inr rest) t = by (is_new x && x.key == e.key) (new_key_true es e rest t)
  where
    by : (b : Bool) → list_any (λ d. is_new d && d.key == e.key) es ≡ true →
        (b || list_any (λ d. is_new d && d.key == e.key) es) ≡ true
    by true q = refl
    by false q = q

owning_within : (f : Func) (v : ℕ) → is_owning_var f v ≡ true → v < length f.vars
owning_within f v e = ⊎_elim
    (λ at. at.1)
    (λ past. absurd (false_true (sym (ap (λ o. owns (option_map (λ d. d.ty) o)) past.1) ∙ e)))
    (slice_get_cases f.vars v).1

in_any : (ns : List ℕ) (n : ℕ) → In n ns → list_any (λ m. m == n) ns ≡ true
in_any [] n i = absurd i
in_any (m ∷ ns) n (inl same) = rw (eq-eqb m n (sym same)) refl
in_any (m ∷ ns) n (inr rest) = by (m == n) (in_any ns n rest)
  where
    by : (b : Bool) → list_any (λ m. m == n) ns ≡ true → (b || list_any (λ m. m == n) ns) ≡ true
    by true q = refl
    by false q = q

at_under : (d : ℕ) (q : Owner) → is_at d q ≡ true → (k : ℕ) × IsUnder d k q
at_under d (world.held e k) t = (k, (sym (eqb-true d e t), refl))
at_under d (world.lent e k) t = (k, (sym (eqb-true d e t), refl))
at_under d world.loose t = cc
at_under d (world.inside n) t = cc
at_under d (world.adopted_by n) t = cc
at_under d world.out t = cc
at_under d gone t = cc

module _ (r : Setup) {f : Func} {c : Context} {h : HeldMap} {ids : Ids} {hand : List Handed} {frame : Frame} (w : World)
    (agrees : Agrees r.program f c h ids hand frame w.objects) (head : HasHead r.program f) (entered : IsEntered r.program f c)
    (value : Option Operand) (new : ℕ)
    (one_new : (d e : Entry) → Among d f.clause → Among e f.clause → is_new d ≡ true → is_new e ≡ true → d.key ≡ e.key)
    (other : (e : Entry) → Among e f.clause → is_new e ≡ false → is_held_after e ≡ true → (d : Entry) → Among d f.clause →
    is_new d ≡ true → e.key ≡ new → ⊥) where
  abbrev pub key_of : Entry → ℕ
  key_of e = if is_new e then new else e.key

  abbrev pub wants : Entry → maps.Wanted
  wants e = wants_in (after_set r.program f e)

  apart_keys : AreApartBy (λ e. e.key) f.clause
  apart_keys = apart_by (λ e. e.key) f.clause head.apart

  same_keys : (d e : Entry) → Among d f.clause → Among e f.clause → is_held_after d ≡ true → is_held_after e ≡ true →
      key_of d ≡ key_of e → d.key ≡ e.key
  same_keys d e i j a b q = ⊎_elim
      (λ n. ⊎_elim
      (λ m. one_new d e i j n m)
      (λ m.
      absurd (other e j m b d i n
      (sym (ap (λ b. if b then new else e.key) m) ∙ (sym q ∙ ap (λ b. if b then new else d.key) n))))
      (cases_Bool (is_new e)))
      (λ n. ⊎_elim
      (λ m.
      absurd (other d i n a e j m
      (sym (ap (λ b. if b then new else d.key) n) ∙ (q ∙ ap (λ b. if b then new else e.key) m))))
      (λ m. sym (ap (λ b. if b then new else d.key) n) ∙ (q ∙ ap (λ b. if b then new else e.key) m))
      (cases_Bool (is_new e)))
      (cases_Bool (is_new d))

  abbrev es : List Entry
  es = entries_after f

  after_apart : AreApartBy key_of es
  after_apart = apart_too key_of es (filtered_apart (λ e. e.key) is_held_after f.clause apart_keys) (λ d e i j.
      let a = among_filtered is_held_after f.clause d i in
      let b = among_filtered is_held_after f.clause e j in
      same_keys d e a.0 b.0 a.1 b.1)

  given_parts : (e : Entry) → is_given_back e ≡ true → (is_held_after e ≡ true) × (is_new e ≡ false)
  given_parts e t = both (is_held_after e) (is_new e) t
    where
      both : (a b : Bool) → (a && not b) ≡ true → (a ≡ true) × (b ≡ false)
      both true true e = cc
      both true false e = (refl, refl)
      both false b e = cc

  new_after : (e : Entry) → is_new e ≡ true → is_held_after e ≡ true
  new_after e t = new_is_after e t

  kept_parts : (e : Entry) → Among e (kept_entries f) → Among e f.clause × (is_held_after e ≡ true)
  kept_parts e i = ⊎_elim
      (λ l. let q = among_filtered is_new f.clause e l in (q.0, new_after e q.1))
      (λ l. let q = among_filtered is_given_back f.clause e l in (q.0, (given_parts e q.1).0))
      (among_append (filter is_new f.clause) (filter is_given_back f.clause) e i)

  kept_apart : AreApartBy key_of (kept_entries f)
  kept_apart = apart_too key_of (kept_entries f)
      (apart_append (λ e. e.key) (filter is_new f.clause) (filter is_given_back f.clause)
      (filtered_apart (λ e. e.key) is_new f.clause apart_keys) (filtered_apart (λ e. e.key) is_given_back f.clause apart_keys)
      (λ d e i j same.
      let a = among_filtered is_new f.clause d i in
      let b = among_filtered is_given_back f.clause e j in
      let q = same_entry (λ e. e.key) f.clause apart_keys e d b.0 a.0 same in
      false_true (sym (given_parts e b.1).1 ∙ (ap is_new q ∙ a.1))))
      (λ d e i j.
      let a = kept_parts d i in
      let b = kept_parts e j in
      same_keys d e a.0 b.0 a.1 b.1)

  after_kept : (e : Entry) → Among e es → Among e (kept_entries f)
  after_kept e i =
      let q = among_filtered is_held_after f.clause e i in
      ⊎_elim
      (λ n. among_left (filter is_new f.clause) (filter is_given_back f.clause) e (filtered_among is_new f.clause e q.0 n))
      (λ n. among_right (filter is_new f.clause) (filter is_given_back f.clause) e
      (filtered_among is_given_back f.clause e q.0 (is_given q.1 n)))
      (cases_Bool (is_new e))

  -- ---- names after the return

  pub names : Names
  names k = if is_new_key f k then frame.keys new else frame.keys k

  pub names_old : (k : ℕ) → is_new_key f k ≡ false → names k ≡ frame.keys k
  unfolding names
  names_old k e = ap (λ b. if b then frame.keys new else frame.keys k) e

  pub names_new : (k : ℕ) → is_new_key f k ≡ true → names k ≡ frame.keys new
  unfolding names
  names_new k e = ap (λ b. if b then frame.keys new else frame.keys k) e

  names_entry : (e : Entry) → Among e f.clause → names e.key ≡ frame.keys (key_of e)
  names_entry e i = ⊎_elim
      (λ t. names_new e.key (new_key_true f.clause e i t) ∙ ap frame.keys (sym (ap (λ b. if b then new else e.key) t)))
      (λ t.
      names_old e.key (not_new e i t (is_new_key f e.key) refl) ∙
      ap frame.keys (sym (ap (λ b. if b then new else e.key) t)))
      (cases_Bool (is_new e))
    where
      not_new : (e : Entry) → Among e f.clause → is_new e ≡ false → (b : Bool) → is_new_key f e.key ≡ b → b ≡ false
      not_new e i t false q = refl
      not_new e i t true q =
          let d = any_new f.clause e.key q in
          absurd (false_true (sym t ∙ (ap is_new (sym (same_entry (λ e. e.key) f.clause apart_keys d.0 e d.1 i d.3)) ∙ d.2)))

  names_head : (k : ℕ) → IsTrue (c.head k) → names k ≡ c.names k
  names_head k i =
      names_old k (lasting (has (keys_of_parameters f) k) (nat_lt k (length f.keys)) refl refl (sym (entered.head k) ∙ i)) ∙
      agrees.rest.named k i
    where
      no_number : nat_lt k (length f.keys) ≡ false → (b : Bool) → is_new_key f k ≡ b → b ≡ false
      no_number past false q = refl
      no_number past true q =
          let d = any_new f.clause k q in
          absurd (false_true (sym past ∙ head.numbers k
          (has_right k (keys_of_result f ++ keys_of_parameters f) (map (λ e. e.key) f.clause)
          (subst (λ k. has (map (λ e. e.key) f.clause) k ≡ true) d.3 (entry_has f.clause d.0 d.1)))))

      lasting : (a b : Bool) → has (keys_of_parameters f) k ≡ a → nat_lt k (length f.keys) ≡ b → (a || not b) ≡ true →
          is_new_key f k ≡ false
      lasting true b param lt e = param_not_new head k param
      lasting false false param lt e = no_number lt (is_new_key f k) refl
      lasting false true param lt e = cc

  -- ---- what is given back

  module _ (rows : CanPass (take_rows key_of wants (kept_entries f) ++ map maps.away_row (tokens_of f)) h)
      (find_new : (e : Entry) → Among e f.clause → is_new e ≡ true → (n : ℕ) → frame.keys new ≡ Some n → n < length w.objects →
      (look w.objects n).owner ≡ world.held frame.depth new → kind_of (h (a_key new)) ≡ is_held →
      IsTrue (after_set r.program f e (look w.objects n).state) →
      returned_object r.program f value e frame w.objects ≡ Ok (named n (look w.objects n))) where
    following : HeldMap
    following = map_after (take_rows key_of wants (kept_entries f)) h

    both : CanPass (take_rows key_of wants (kept_entries f)) h × CanPass (map maps.away_row (tokens_of f)) (map_after (take_rows key_of wants (kept_entries f)) h)
    both = pass_split (take_rows key_of wants (kept_entries f)) (map maps.away_row (tokens_of f)) h rows

    wanted : (e : Entry) → Among e es → maps.IsWanted (wants e) (h (a_key (key_of e)))
    wanted e i = take_wanted key_of wants (kept_entries f) kept_apart h both.0 e (after_kept e i)

    abbrev AHeld : Entry → Type 0
    AHeld e =
        IsOnly (world.held frame.depth (key_of e)) (key_type f (key_of e)) (states_of (h (a_key (key_of e)))) frame.depth (key_of e) (frame.keys (key_of e)) (look w.objects)

    held_entry : (e : Entry) → Among e es → AHeld e
    held_entry e i =
        held_one (states_of (h (a_key (key_of e)))) (held_is (h (a_key (key_of e))) (wanted e i).0) (agrees.keys (key_of e))

    within : (n k : ℕ) → (look w.objects n).owner ≡ world.held frame.depth k → n < length w.objects
    within n k own = live_within w.objects n (λ e. clash (sym e ∙ own))
      where
        clash : gone ≡ world.held frame.depth k → ⊥
        clash e = cc

    state_in : (e : Entry) → (i : Among e es) → IsTrue (after_set r.program f e (look w.objects (held_entry e i).number).state)
    state_in e i = (wanted e i).1.each (look w.objects (held_entry e i).number).state (held_entry e i).state

    found : (e : Entry) → (i : Among e es) →
        returned_object r.program f value e frame w.objects ≡ Ok (named (held_entry e i).number (look w.objects (held_entry e i).number))
    found e i = ⊎_elim
        (λ t.
        let key : key_of e ≡ new = ap (λ b. if b then new else e.key) t in
        let one = held_entry e i in
        let own = one.owned ∙ ap (world.held frame.depth) key in
        find_new e (among_filtered is_held_after f.clause e i).0 t one.number (sym (ap frame.keys key) ∙ one.named)
        (within one.number new own) own (subst (λ k. kind_of (h (a_key k)) ≡ is_held) key (wanted e i).0) (state_in e i))
        (λ t.
        let key : key_of e ≡ e.key = ap (λ b. if b then new else e.key) t in
        let one = held_entry e i in
        let own = one.owned ∙ ap (world.held frame.depth) key in
        ap (λ b. if b then new_object r.program f value e frame w.objects else held_object e.key frame w.objects >>= in_states (after_set r.program f e)) t ∙
        (ap (λ m. m >>= in_states (after_set r.program f e))
        (held_found e.key frame w.objects one.number (look w.objects one.number) (sym (ap frame.keys key) ∙ one.named)
        (look_at w.objects one.number (within one.number e.key own)) own) ∙
        ap (λ b. if_so b wrong_state (named one.number (look w.objects one.number))) (state_in e i)))
        (cases_Bool (is_new e))

    pub record Kepts (xs : List Entry) : Type 0 where
      pub ns : List ℕ
      pub is : returned_objects r.program f value xs frame w.objects ≡ Ok ns
      pub kept : AreKept r.program f frame.depth names (look w.objects) xs ns
      pub back : (n : ℕ) → In n ns → (e : Entry) × Among e xs × ((look w.objects n).owner ≡ world.held frame.depth (key_of e))
      pub to : (e : Entry) → Among e xs → (n : ℕ) × In n ns × (frame.keys (key_of e) ≡ Some n)
      pub once : IsOnce ns

    kepts : (xs : List Entry) → AreApartBy key_of xs → ((e : Entry) → Among e xs → Among e es) → Kepts xs
    kepts [] apart among =
        record { ns = []; is = refl; kept = tt; back = λ n i. absurd i; to = λ e i. absurd i; once = tt }
    kepts (x ∷ xs) apart among =
        let rest = kepts xs apart.1 (λ e i. among e (inr i)) in
        let one = held_entry x (among x (inl refl)) in
        record {
          ns = one.number ∷ rest.ns;
          is =
              ap (λ m. m >>= (λ n. returned_objects r.program f value xs frame w.objects >>= (λ ns. Ok (n.number ∷ ns)))) (found x (among x (inl refl))) ∙
              ap (λ m. m >>= (λ ns. Ok (one.number ∷ ns))) rest.is;
          kept = (
            record {
              named = names_entry x (among_filtered is_held_after f.clause x (among x (inl refl))).0 ∙ one.named;
              key = key_of x;
              owned = one.owned;
              state = state_in x (among x (inl refl));
            },
            rest.kept,
          );
          back = λ n i. ⊎_elim
              (λ same. (x, inl refl, ap (λ m. (look w.objects m).owner) same ∙ one.owned))
              (λ j. let b = rest.back n j in (b.0, inr b.1, b.2))
              i;
          to = λ e i. ⊎_elim
              (λ same. (one.number, inl refl, ap (λ e. frame.keys (key_of e)) same ∙ one.named))
              (λ j. let b = rest.to e j in (b.0, inr b.1, b.2))
              i;
          once = (
            λ i.
                let b = rest.back one.number i in
                apart.0 b.0 b.1 (held_keys (sym b.2 ∙ one.owned)),
            rest.once,
          );
        }
      where
        held_keys : {d a b : ℕ} → world.held d a ≡ world.held d b → a ≡ b
        held_keys {d} {a} {b} q = cc

    all : Kepts es
    all = kepts es after_apart (λ e i. i)

    only : (n k : ℕ) → IsUnder frame.depth k (look w.objects n).owner → In n all.ns
    only n k u = ⊎_elim of_key past (cases_Bool (nat_lt k (length f.keys)))
      where
        name : frame.keys k ≡ Some n
        name = under_is (agrees.keys k) n u

        past : nat_lt k (length f.keys) ≡ false → In n all.ns
        past lt =
            let last : c.head k ≡ true = entered.head k ∙ or_not (has (keys_of_parameters f) k) (nat_lt k (length f.keys)) lt in
            absurd (none-some n (sym (agrees.rest.named k last ∙ entered.beyond k lt) ∙ name))
          where
            or_not : (a b : Bool) → b ≡ false → (a || not b) ≡ true
            or_not true b e = refl
            or_not false true e = cc
            or_not false false e = refl

        of_key : nat_lt k (length f.keys) ≡ true → In n all.ns
        of_key lt = ⊎_elim
            (λ s.
            let q = all.to s.entry s.among in
            subst (λ m. In m all.ns) (same_Some q.0 n (sym q.2 ∙ (ap frame.keys s.is ∙ name))) q.1)
            (λ none.
            let same =
            take_other key_of wants (kept_entries f) h (a_key k) (λ e i is.
            let q = kept_parts e i in
            none e (filtered_among is_held_after f.clause e q.0 q.1) refl (sym (key_same is))) in
            let away : h (a_key k) ≡ absent =
            absent_is (h (a_key k)) (subst (λ s. kind_of s ≡ is_absent) same
            (gone_absent (tokens_of f) (map_after (take_rows key_of wants (kept_entries f)) h) both.1 (a_key k) (key_token f k (ltb-true k (length f.keys) lt)))) in
            absurd (none_under away (agrees.keys k) n u))
            (sought (λ e. true) key_of es k)

    empty_var : (v : ℕ) → is_owning_var f v ≡ true → frame.vars v ≡ None
    empty_var v own =
        let same = take_other key_of wants (kept_entries f) h (a_var v) (λ e i. var_is_no_key) in
        let away : h (a_var v) ≡ absent =
        absent_is (h (a_var v)) (subst (λ s. kind_of s ≡ is_absent) same
        (gone_absent (tokens_of f) (map_after (take_rows key_of wants (kept_entries f)) h) both.1 (a_var v) (var_token f v (owning_within f v own) own))) in
        (subst (λ s. HasVar (is_owning_var f v) s (frame.vars v)) away (agrees.vars.full v)) own

    emptied : (v : ℕ) → owned_by (frame.vars v) ≡ []
    emptied v = ⊎_elim
        (λ own. ap owned_by (empty_var v own))
        (λ plain. agrees.vars.plain v plain)
        (cases_Bool (is_owning_var f v))

    holds : holds_only all.ns frame w.objects ≡ true
    holds = all_numbered (λ q. not (is_at frame.depth q.1.owner) || list_any (λ n. n == q.0) all.ns) 0 w.objects (λ i o at.
        by i o at (is_at frame.depth o.owner) refl)
      where
        by : (i : ℕ) (o : Object) → slice_get w.objects i ≡ Some o → (b : Bool) → is_at frame.depth o.owner ≡ b →
            (not (is_at frame.depth o.owner) || list_any (λ n. n == 0 + i) all.ns) ≡ true
        by i o at false e = rw e refl
        by i o at true e =
            let u = at_under frame.depth o.owner e in
            let under : IsUnder frame.depth u.0 (look w.objects i).owner =
            subst (λ o. IsUnder frame.depth u.0 o.owner) (sym (look_is w.objects i o at)) u.1 in
            let same : 0 + i ≡ i = omega arith in
            rw e (ap (λ j. list_any (λ n. n == j) all.ns) same ∙ in_any all.ns i (only i u.0 under))

    empties : is_emptied f frame ≡ true
    empties = all_filtered (λ v. is_none (frame.vars v)) (is_owning_var f) (range_with_len 0 (length f.vars)) (λ v i own.
        ap is_none (empty_var v own))

    pub left_safe : (a : Option Value) → values_of hand ≡ owned_by a →
        FitsResult r.program (scene c w.objects agrees.heads) names f.result a →
        Safe (returns_to r.program f c) (left_function r f value a frame w)
    unfolding left_function
    left_safe a owns fits =
        found_safe (returns_to r.program f c) (returned_objects r.program f value (entries_after f) frame w.objects) all.ns w _ all.is
        (so_safe (returns_to r.program f c) (holds_only all.ns frame w.objects) left_behind None w _ holds
        (so_safe (returns_to r.program f c) (is_emptied f frame) left_behind None w _ empties
        (record {
          map = h;
          ids = ids;
          hand = hand;
          frame = frame;
          agrees = agrees;
          emptied = emptied;
          owns = owns;
          names = names;
          named = names_head;
          value = fits;
          kept = subst (λ d. AreKept r.program f d names (look w.objects) (entries_after f) all.ns) agrees.rest.depth all.kept;
          once = all.once;
          only = λ n k u. only n k (subst (λ d. IsUnder d k (look w.objects n).owner) (sym agrees.rest.depth) u);
        })))
