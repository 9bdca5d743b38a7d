-- The map that a body begins with.
use Rattle.std.proofs.Common.{◌≡◌, ◌<◌, ◌≤◌, ◌+◌, ◌==◌, ℕ, Bool, true, false, IsTrue, ◌&&◌, ◌||◌, nat_lt, if◌then◌else◌, List, [], ◌∷◌, map, length, drop, drop-cons, add-one, get_or, suc, zero, refl, sym, ap, ◌∙◌, subst, arith, true≢false, ◌⊎◌, inl, inr, Option, None, Some, slice_get, ◌^◌, Result, Ok, Err, IfErr}
use Rattle.std.specs.Option.{option_map}
use Rattle.std.specs.Result.{IsErrAnd}
use Rattle.std.proofs.lemmas.List.{drop_all}
use Rattle.std.proofs.lemmas.Option.{slice_get-map, slice_get-get_or}
use Rattle.std.proofs.lemmas.Bool.Decides.{nat_tests}
use Rattle.vlt_core.specs.Core.{States, Entry, VarDecl, Func, Program, Tok, a_key, a_var}
use Rattle.vlt_core.specs.Lookups.{is_held_before, before_set, is_owning_var}
use Rattle.vlt_core.specs.Maps.{HeldMap, Status, absent, held, lent, full, kind_of, is_absent, becomes_held, becomes_full, wants_absent, row_passed}
use Rattle.vlt_core.specs.Rows.{row}
use Rattle.vlt_core.specs.Instances.{entry_of_instance, entry_in, instance}
use Rattle.vlt_core.specs.HeldView.{IsSetOf}
use Rattle.vlt_core.specs.Derives.{status_at_start, start_map}
use Rattle.vlt_keyset.specs.Held.{Statuses, HasPlace, IsSameRange}
use Rattle.vlt_rows.specs.declared.sink.RowError.{RowError}
use Rattle.vlt_rows.specs.declared.sink.RowError.TheVariants.{Unfit}
use Rattle.vlt_rows.specs.Unfit.{UnfitBy}
use Rattle.vlt_rows.proofs.Instanced.{held_before_in}
use Rattle.vlt_flow_maps.specs.Unfit.{IsUnfitEntry, wide_entry, stray_entry, HasNoStart, many_keys, many_vars, unfit_entry}
use Rattle.vlt_flow_maps.specs.Starts.{IsGiven, IsThere, IsStarted, Started, or_else, HasRange, HasKeys, HasVars}

pub absent_kind : (s : Status) → kind_of s ≡ is_absent → s ≡ absent
absent_kind absent e = refl
absent_kind (held s) e = absurd (never e)
  where
    never : kind_of (held s) ≡ is_absent → ⊥
    never e = cc
absent_kind (lent s) e = absurd (never e)
  where
    never : kind_of (lent s) ≡ is_absent → ⊥
    never e = cc
absent_kind full e = absurd (never e)
  where
    never : kind_of full ≡ is_absent → ⊥
    never e = cc

same_number : (k j : ℕ) → (k == j) ≡ true → k ≡ j
same_number k j e = grind (arith, nat_tests)

or_absent : (s : Status) → or_else s absent ≡ s
or_absent absent = refl
or_absent (held s) = refl
or_absent (lent s) = refl
or_absent full = refl

first_counts : (s a b : Status) → (s ≡ absent → ⊥) → or_else s b ≡ or_else s a
first_counts absent a b there = absurd (there refl)
first_counts (held s) a b there = refl
first_counts (lent s) a b there = refl
first_counts full a b there = refl

-- what is held so far, and else what the rest of the entries says, is what all say
pub record Starting (p : Program) (f : Func) (all rest : List Entry) (h : HeldMap) : Type 0 where
  pub keys : (k : ℕ) → or_else (h (a_key k)) (status_at_start p f rest k) ≡ status_at_start p f all k
  pub vars : (v : ℕ) → h (a_var v) ≡ absent

pub starting_first : (p : Program) (f : Func) (all : List Entry) (h : HeldMap) → h ≡ (λ t. absent) → Starting p f all all h
starting_first p f all h none = record {
  keys = λ k. ap (λ s. or_else s (status_at_start p f all k)) (ap (λ m. m (a_key k)) none);
  vars = λ v. ap (λ m. m (a_var v)) none;
}

starting_given : (p : Program) (f : Func) (all rest : List Entry) (e : Entry) (h : HeldMap) → is_held_before e ≡ true → h (a_key e.key) ≡ absent → Starting p f all (e ∷ rest) h →
    Starting p f all rest (row_passed (row (a_key e.key) wants_absent (becomes_held (before_set p f e))) h)
starting_given p f all rest e h before none s = record {
  keys = λ k. one k (k == e.key) refl;
  vars = λ v. s.vars v;
}
  where
    one : (k : ℕ) (b : Bool) → (k == e.key) ≡ b → or_else (if b then held (before_set p f e) else h (a_key k)) (status_at_start p f rest k) ≡ status_at_start p f all k
    one k true is =
        let here : h (a_key k) ≡ absent = ap (λ j. h (a_key j)) (same_number k e.key is) ∙ none in
        let whole = s.keys k in
        rw (here, before, is) at whole
    one k false is =
        let whole = s.keys k in
        rw (before, is) at whole

-- an entry whose key is there already says nothing more
starting_there : (p : Program) (f : Func) (all rest : List Entry) (e : Entry) (h : HeldMap) → is_held_before e ≡ true → (h (a_key e.key) ≡ absent → ⊥) → Starting p f all (e ∷ rest) h → Starting p f all rest h
starting_there p f all rest e h before present s = record {
  keys = λ k. one k (k == e.key) refl;
  vars = s.vars;
}
  where
    one : (k : ℕ) (b : Bool) → (k == e.key) ≡ b → or_else (h (a_key k)) (status_at_start p f rest k) ≡ status_at_start p f all k
    one k true is =
        let there = subst (λ j. h (a_key j) ≡ absent → ⊥) (sym (same_number k e.key is)) present in
        first_counts (h (a_key k)) (status_at_start p f (e ∷ rest) k) (status_at_start p f rest k) there ∙ s.keys k
    one k false is =
        let whole = s.keys k in
        rw (before, is) at whole

starting_kept : (p : Program) (f : Func) (all rest : List Entry) (e : Entry) (h : HeldMap) → is_held_before e ≡ false → Starting p f all (e ∷ rest) h → Starting p f all rest h
starting_kept p f all rest e h before s = record {
  keys = λ k. let whole = s.keys k in rw before at whole;
  vars = s.vars;
}

pub starting_more : (p : Program) (f : Func) (all rest : List Entry) (e : Entry) (h new : HeldMap) → IsStarted p f e h new → Starting p f all (e ∷ rest) h → Starting p f all rest new
starting_more p f all rest e h new given s = one (is_held_before e) refl given
  where
    one : (b : Bool) → is_held_before e ≡ b → Started b p f e h new → Starting p f all rest new
    one true is (inl g) = subst (Starting p f all rest) (sym g.passed) (starting_given p f all rest e h is g.absent s)
    one true is (inr g) = subst (Starting p f all rest) (sym g.same) (starting_there p f all rest e h is g.present s)
    one false is g = subst (Starting p f all rest) (sym g) (starting_kept p f all rest e h is s)

pub starting_ends : (p : Program) (f : Func) (h : HeldMap) → Starting p f f.clause [] h → HasKeys p f h
starting_ends p f h s = record { keys = λ k. sym (or_absent (h (a_key k))) ∙ s.keys k; vars = s.vars }

pub given_started : (p : Program) (f : Func) (e : Entry) (states : States) (h k : HeldMap) → is_held_before e ≡ true → states ≡ before_set p f e →
    IsGiven (a_key e.key) (becomes_held states) h k ⊎ IsThere (a_key e.key) h k → IsStarted p f e h k
given_started p f e states h k before same (inl g) = rw before (inl (record { absent = g.absent; passed = g.passed ∙ ap (λ s. row_passed (row (a_key e.key) wants_absent (becomes_held s)) h) same }))
given_started p f e states h k before same (inr g) = rw before (inr g)

-- the same of an entry as it stands in the instance of an origin
pub started_in : (p : Program) (f : Func) (o : Option ℕ) (e : Entry) (states : States) (h k : HeldMap) → is_held_before e ≡ true →
    states ≡ before_set p f (entry_in p f o e) → IsGiven (a_key e.key) (becomes_held states) h k ⊎ IsThere (a_key e.key) h k →
    IsStarted p (instance p f o) (entry_in p f o e) h k
started_in p f None e states h k before same q = given_started p f e states h k before same q
started_in p f (Some o) e states h k before same q =
    given_started p (instance p f (Some o)) (entry_of_instance p f o e) states h k (held_before_in p f (Some o) e ∙ before) same q

-- ---- the loop over the entries

abbrev pub StartingAt : {X : Type 0} → (X → Entry) → Program → Func → List X → ℕ → HeldMap → Type 0
StartingAt g p f xs i h = Starting p f (map g xs) (map g (drop i xs)) h

split_at : {X : Type 0} (xs : List X) (i : ℕ) (x : X) → i < length xs → x ≡ get_or xs i x → drop i xs ≡ x ∷ drop (i + 1) xs
split_at xs i x lt read = rw add-one (drop-cons xs i x lt ∙ ap (λ y. y ∷ drop (suc i) xs) (sym read))

pub entries_more : {X : Type 0} (g : X → Entry) (p : Program) (f : Func) (xs : List X) (i : ℕ) (x : X) (h new : HeldMap) → i < length xs → x ≡ get_or xs i x → StartingAt g p f xs i h → IsStarted p f (g x) h new → StartingAt g p f xs (i + 1) new
entries_more g p f xs i x h new lt read s given =
    starting_more p f (map g xs) (map g (drop (i + 1) xs)) (g x) h new given
    (subst (λ l. Starting p f (map g xs) (map g l) h) (split_at xs i x lt read) s)

pub entries_end : {X : Type 0} (g : X → Entry) (p : Program) (f : Func) (xs : List X) (i : ℕ) (h : HeldMap) → length xs ≤ i → map g xs ≡ f.clause → StartingAt g p f xs i h → HasKeys p f h
entries_end g p f xs i h past is s =
    let none : drop i xs ≡ [] = drop_all i xs past in
    starting_ends p f h (subst (λ l. Starting p f l [] h) is (subst (λ l. Starting p f (map g xs) (map g l) h) none s))

-- ---- the loop over the parameters

pub vars_first : (p : Program) (f : Func) (h : HeldMap) → HasKeys p f h → HasVars p f 0 h
vars_first p f h s = record { keys = s.keys; vars = λ v. one v (nat_lt v 0) (none v) }
  where
    none : (v : ℕ) → nat_lt v 0 ≡ false
    none v = grind (arith, nat_tests)

    one : (v : ℕ) (b : Bool) → b ≡ false → h (a_var v) ≡ (if b && is_owning_var f v then full else absent)
    one v b is = rw is (s.vars v)

more_below : (v i : ℕ) → nat_lt v (i + 1) ≡ (nat_lt v i || v == i)
more_below v i = grind (arith, nat_tests)

not_below : (v i : ℕ) → (v == i) ≡ true → nat_lt v i ≡ false
not_below v i e = grind (arith, nat_tests)

or_false : (b : Bool) → (b || false) ≡ b
or_false true = refl
or_false false = refl

or_true : (b : Bool) → (b || true) ≡ true
or_true true = refl
or_true false = refl

pub vars_given : (p : Program) (f : Func) (i : ℕ) (h new : HeldMap) → is_owning_var f i ≡ true → new ≡ row_passed (row (a_var i) wants_absent becomes_full) h → HasVars p f i h → HasVars p f (i + 1) new
vars_given p f i h new owns given s = subst (HasVars p f (i + 1)) (sym given) (record {
  keys = s.keys;
  vars = λ v. rw (more_below v i) (one v (v == i) refl);
})
  where
    one : (v : ℕ) (b : Bool) → (v == i) ≡ b → (if b then full else h (a_var v)) ≡ (if (nat_lt v i || b) && is_owning_var f v then full else absent)
    one v true is = rw (or_true (nat_lt v i), ap (is_owning_var f) (same_number v i is), owns) refl
    one v false is = rw (or_false (nat_lt v i)) (s.vars v)

-- an owning variable isn't there before its turn
pub vars_more : (p : Program) (f : Func) (i : ℕ) (h new : HeldMap) → is_owning_var f i ≡ true →
    IsGiven (a_var i) becomes_full h new ⊎ IsThere (a_var i) h new → HasVars p f i h → HasVars p f (i + 1) new
vars_more p f i h new owns (inl g) s = vars_given p f i h new owns g.passed s
vars_more p f i h new owns (inr g) s = absurd (g.present (s.vars i ∙ ap (λ b. if b && is_owning_var f i then full else absent) (not_before i)))
  where
    not_before : (i : ℕ) → nat_lt i i ≡ false
    not_before i = grind (arith, nat_tests)

pub vars_kept : (p : Program) (f : Func) (i : ℕ) (h : HeldMap) → is_owning_var f i ≡ false → HasVars p f i h → HasVars p f (i + 1) h
vars_kept p f i h owns s = record {
  keys = s.keys;
  vars = λ v. rw (more_below v i) (one v (v == i) refl);
}
  where
    one : (v : ℕ) (b : Bool) → (v == i) ≡ b → h (a_var v) ≡ (if (nat_lt v i || b) && is_owning_var f v then full else absent)
    one v true is =
        let old = s.vars v in
        let none : is_owning_var f v ≡ false = ap (is_owning_var f) (same_number v i is) ∙ owns in
        rw (or_true (nat_lt v i), none) (rw (not_below v i is) at old)
    one v false is = rw (or_false (nat_lt v i)) (s.vars v)

pub vars_end : (p : Program) (f : Func) (i : ℕ) (h : HeldMap) → i ≡ f.params → HasVars p f i h → h ≡ start_map p f
vars_end p f i h is s = λ j t. one t j
  where
    one : (t : Tok) → h t ≡ start_map p f t
    one (a_key k) = s.keys k
    one (a_var v) = subst (λ n. h (a_var v) ≡ (if nat_lt v n && is_owning_var f v then full else absent)) is (s.vars v)

-- ---- places

pub range_kept : (f : Func) (h k : Statuses) → HasRange f h → IsSameRange h k → HasRange f k
range_kept f h k r s = record { keys = sym s.keys ∙ r.keys; vars = sym s.vars ∙ r.vars; few_keys = r.few_keys; few_vars = r.few_vars }

some_there : {X : Type 0} (xs : List X) (i : ℕ) (x : X) → slice_get xs i ≡ Some x → i < length xs
some_there [] i x e = absurd (never e)
  where
    never : {X : Type 0} {x : X} → (let o : Option X = None in o ≡ Some x) → ⊥
    never e = cc
some_there (y ∷ xs) zero x e = omega arith
some_there (y ∷ xs) (suc i) x e = let n = some_there xs i x e in omega (arith, n)

pub owning_place : (f : Func) (v : ℕ) (h : Statuses) → HasRange f h → is_owning_var f v ≡ true → HasPlace h (a_var v)
owning_place f v h r owns = by (slice_get f.vars v) refl
  where
    by : (o : Option VarDecl) → slice_get f.vars v ≡ o → v < length h.vars
    by None e =
        let no : is_owning_var f v ≡ false = rw e refl in
        absurd (true≢false (sym owns ∙ no))
    by (Some d) e = rw r.vars (some_there f.vars v d e)

-- a `?` hands an unfit entry on
pub handed_unfit : {T A : Type 0} (r : Result T RowError) (d : RowError) → IsErrAnd r (λ x. x ≡ d) → d ≡ Unfit → A → IfErr r (UnfitBy A)
handed_unfit (Ok x) d gives is a = absurd gives
handed_unfit (Err x) d gives is a = inr (gives ∙ is, a)

above : (n k : ℕ) → (k < n → ⊥) → n ≤ k
above n k never = grind (arith, never)

-- an entry as it stands in the instance of an origin: its key has no place
pub stray_in : (p : Program) (f : Func) (o : Option ℕ) (e : Entry) (h : Statuses) → HasRange f h → (HasPlace h (a_key e.key) → ⊥) →
    IsUnfitEntry p (instance p f o) (entry_in p f o e)
stray_in p f None e h r never = stray_entry (subst (λ n. n ≤ e.key) r.keys (above (length h.keys) e.key never))
stray_in p f (Some o) e h r never = stray_entry (subst (λ n. n ≤ e.key) r.keys (above (length h.keys) e.key never))

-- or there is no set of its states
pub wide_in : (p : Program) (f : Func) (o : Option ℕ) (e : Entry) (states : States) → IsSetOf states None → states ≡ before_set p f (entry_in p f o e) →
    IsUnfitEntry p (instance p f o) (entry_in p f o e)
wide_in p f o e states none is = wide_entry (subst (λ s. IsSetOf s None) is none)

pub not_so : (b : Bool) → b ≡ false → IsTrue b → ⊥
not_so b e h = true≢false (sym h ∙ e)

pub many_tokens : (p : Program) (f : Func) → (2 ^ 32 ≤ length f.keys) ⊎ (2 ^ 32 ≤ length f.vars) → HasNoStart p f
many_tokens p f (inl q) = many_keys q
many_tokens p f (inr q) = many_vars q

entry_there : {X : Type 0} (g : X → Entry) (xs : List X) (i : ℕ) (x : X) → i < length xs → x ≡ get_or xs i x → slice_get (map g xs) i ≡ Some (g x)
entry_there g xs i x lt read = slice_get-map g xs i ∙ ap (option_map g) (slice_get-get_or xs i x lt) ∙ ap (λ y. Some (g y)) (sym read)

pub entry_unfit : {X : Type 0} (g : X → Entry) (p : Program) (f : Func) (xs : List X) (i : ℕ) (x : X) → i < length xs → x ≡ get_or xs i x → map g xs ≡ f.clause →
    is_held_before (g x) ≡ true → IsUnfitEntry p f (g x) → HasNoStart p f
entry_unfit g p f xs i x lt read is before u = unfit_entry i (g x) (ap (λ l. slice_get l i) (sym is) ∙ entry_there g xs i x lt read) before u
