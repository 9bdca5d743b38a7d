-- Objects that are changed.
use Rattle.std.proofs.Common.{◌≡◌, ℕ, zero, suc, ◌<◌, ◌≤◌, ◌+◌, ◌==◌, Bool, true, false, ◌||◌, ◌&&◌, not, if◌then◌else◌, List, [], ◌∷◌, ◌++◌, take, drop, length, map, Option, Some, slice_get, slice_set, slice_index_or, refl, sym, ap, ◌∙◌, arith}
use Rattle.std.specs.Option.{option_map}
use Rattle.std.proofs.lemmas.Option.{none-some, same_Some, slice_get-map, slice_get_past, slice_get-get_or}
use Rattle.std.proofs.lemmas.Bool.Decides.{nat_tests}
use Rattle.vlt_base.specs.Parents.{Parents, parent_in, parent_of, is_so_above, reaches}
use Rattle.vlt_meaning.specs.World as m
use Rattle.vlt_core.specs.Core as core
use Rattle.vlt_core.specs.Lookups.{release_set}
use Rattle.std.specs.List.{list_all, zip, enumerate_from}
use Rattle.vlt_meaning.specs.World.{above}
use Rattle.vlt_meaning.specs.Objects.{with_changed_object, changed_in, with_cell, with_owner, parents_of, is_under, is_releasable, objects_after_release}
use Rattle.vlt_meaning_laws.proofs.Lists.{get_last, get_more}
use Rattle.vlt_trace_worlds.specs.declared.worlds.Object.{Object}
use Rattle.vlt_trace_worlds.specs.declared.worlds.Value.{Value}
use Rattle.vlt_trace_worlds.specs.declared.worlds.Owner.{Owner}
use Rattle.vlt_trace_worlds.specs.Owners.{may_go_in, gone_where, IsUnderEach}
use Rattle.vlt_trace_worlds.specs.View.{object_view, objects_view, owner_view, value_view}

pub map_set : {A B : Type 0} (f : A → B) (xs : List A) (n : ℕ) (x : A) → map f (slice_set xs n x) ≡ slice_set (map f xs) n (f x)
map_set f [] n x = refl
map_set f (y ∷ ys) zero x = refl
map_set f (y ∷ ys) (suc n) x = ap (λ l. f y ∷ l) (map_set f ys n x)

-- one object is set to what the change makes of it
pub changed_so : (objects : List Object) (n : ℕ) (o x : Object) (change : m.Object → m.Object) → slice_get objects n ≡ Some o → object_view x ≡ change (object_view o) → objects_view (slice_set objects n x) ≡ with_changed_object n change (objects_view objects)
changed_so objects n o x change at e =
    map_set object_view objects n x
    ∙ (ap (slice_set (objects_view objects) n) e
    ∙ sym (ap (changed_in n change (objects_view objects)) (slice_get-map object_view objects n ∙ ap (option_map object_view) at)))

-- there is no such object
pub none_changed : (objects : List Object) (n : ℕ) (change : m.Object → m.Object) → length objects ≤ n → objects_view objects ≡ with_changed_object n change (objects_view objects)
none_changed objects n change l = sym (ap (changed_in n change (objects_view objects)) (slice_get-map object_view objects n ∙ ap (option_map object_view) (slice_get_past objects n l)))

pub set_past : {A : Type 0} (xs : List A) (n : ℕ) (x : A) → length xs ≤ n → slice_set xs n x ≡ xs
set_past [] n x l = refl
set_past (y ∷ ys) zero x l = absurd (omega (arith, l))
set_past (y ∷ ys) (suc n) x l = ap (λ l. y ∷ l) (set_past ys n x (omega (arith, l)))

-- a cell of an object is set, or there is none
pub cell_set : (o : Object) (i : ℕ) (a : Value) (cells : List Value) → cells ≡ slice_set o.cells i a → object_view (record o { cells = cells }) ≡ with_cell i (value_view a) (object_view o)
cell_set o i a cells e = ap (λ cs. record { type = o.type_id.0; state = o.state; cells = cs; owner = owner_view o.owner }) (ap (map value_view) e ∙ map_set value_view o.cells i a)

pub no_cell : (o : Object) (i : ℕ) (a : Value) → length o.cells ≤ i → object_view o ≡ with_cell i (value_view a) (object_view o)
no_cell o i a l = ap (λ cs. record { type = o.type_id.0; state = o.state; cells = map value_view cs; owner = owner_view o.owner }) (sym (set_past o.cells i a l))
    ∙ cell_set o i a (slice_set o.cells i a) refl

-- ---- what is below an object

pub parent_at : (objects : List Object) (n : ℕ) (o : Object) → slice_get objects n ≡ Some o → above (owner_view o.owner) ≡ parent_of (parents_of (objects_view objects)) n
parent_at objects n o at = sym (ap parent_in (slice_get-map (λ (o : m.Object). above o.owner) (objects_view objects) n ∙ ap (option_map (λ (o : m.Object). above o.owner)) (slice_get-map object_view objects n ∙ ap (option_map object_view) at)))

pub under_here : (s : ℕ) (ps : Parents) (root at : ℕ) → root ≡ at → reaches s ps (root ∷ []) at ≡ true
under_here zero ps root at e = let h : (root == at) ≡ true = grind (arith, nat_tests, e) in ap (λ b. b || false) h
under_here (suc s) ps root at e = let h : (root == at) ≡ true = grind (arith, nat_tests, e) in ap (λ b. (b || false) || is_so_above (reaches s ps (root ∷ [])) (parent_of ps at)) h

or_false : (b : Bool) → (b || false) ≡ b
or_false true = refl
or_false false = refl

pub under_up : (s : ℕ) (ps : Parents) (root at : ℕ) → (root ≡ at → ⊥) → reaches (suc s) ps (root ∷ []) at ≡ is_so_above (reaches s ps (root ∷ [])) (parent_of ps at)
under_up s ps root at other =
    let e : (root == at) ≡ false = grind (arith, nat_tests, other) in
    ap (λ b. (b || false) || is_so_above (reaches s ps (root ∷ [])) (parent_of ps at)) e

pub under_end : (ps : Parents) (root at : ℕ) → reaches 0 ps (root ∷ []) at ≡ (root == at)
under_end ps root at = or_false (root == at)

pub count_parents : (objects : List Object) → length (parents_of (objects_view objects)) ≡ length objects
count_parents [] = refl
count_parents (o ∷ os) = ap suc (count_parents os)

-- ---- marks

pub all_pushed : (xs : List Bool) (f : ℕ → Bool) (n : ℕ) (b : Bool) → length xs ≡ n → ((k : ℕ) → k < n → slice_get xs k ≡ Some (f k)) → b ≡ f n → (k : ℕ) → k < n + 1 → slice_get (xs ++ b ∷ []) k ≡ Some (f k)
all_pushed xs f n b long each is k l = by (k == n) refl
  where
    by : (t : Bool) → (k == n) ≡ t → slice_get (xs ++ b ∷ []) k ≡ Some (f k)
    by true e =
        let same : k ≡ n = grind (arith, nat_tests, e) in
        ap (slice_get (xs ++ b ∷ [])) (same ∙ sym long) ∙ (get_last xs b ∙ ap Some (is ∙ ap f (sym same)))
    by false e =
        let h : k < n = grind (arith, nat_tests, e, l) in
        get_more xs b (f k) k (each k h)

-- ---- what is marked

pub gone_more : (n : ℕ) (objs : List Object) (under : List Bool) (o x : Object) (b : Bool) → slice_get objs n ≡ Some o → slice_get under n ≡ Some b → object_view x ≡ (if b then with_owner m.gone (object_view o) else object_view o) →
    objects_view (take (suc n) (slice_set objs n x)) ++ gone_where (drop (suc n) under) (objects_view (drop (suc n) (slice_set objs n x))) ≡ objects_view (take n objs) ++ gone_where (drop n under) (objects_view (drop n objs))
gone_more n [] under o x b at mark e = absurd (none-some o at)
gone_more n (p ∷ ps) [] o x b at mark e = absurd (none-some b mark)
gone_more zero (p ∷ ps) (c ∷ cs) o x b at mark e =
    ap (λ y. y ∷ gone_where cs (objects_view ps)) (e ∙ (ap (λ (t : Bool). if t then with_owner m.gone (object_view o) else object_view o) (sym (same_Some c b mark)) ∙ ap (λ q. if c then with_owner m.gone (object_view q) else object_view q) (sym (same_Some p o at))))
gone_more (suc n) (p ∷ ps) (c ∷ cs) o x b at mark e = ap (λ l. object_view p ∷ l) (gone_more n ps cs o x b at mark e)

with_and : (a b c d : Bool) → a ≡ b → c ≡ d → (a && c) ≡ (b && d)
with_and a b c d e f = ap (λ x. x && c) e ∙ ap (λ y. b && y) f

first_mark : (u : ℕ → Bool) (i : ℕ) (b : Bool) → Some b ≡ Some (u (i + 0)) → u i ≡ b
first_mark u i b e = let h : i ≡ i + 0 = omega arith in ap u h ∙ sym (same_Some b (u (i + 0)) e)

later_marks : (u : ℕ → Bool) (i k : ℕ) (o : Option Bool) → o ≡ Some (u (i + suc k)) → o ≡ Some (u ((i + 1) + k))
later_marks u i k o e = let h : i + suc k ≡ (i + 1) + k = omega arith in e ∙ ap (λ j. Some (u j)) h

pub releasable_so : (p : core.Program) (u : ℕ → Bool) (i : ℕ) (os : List m.Object) (bs : List Bool) → length bs ≡ length os → ((k : ℕ) → k < length os → slice_get bs k ≡ Some (u (i + k))) →
    list_all (λ q. not (u q.0) || release_set p q.1.type q.1.state) (enumerate_from i os) ≡ list_all (may_go_in p) (zip bs os)
releasable_so p u i [] [] long each = refl
releasable_so p u i [] (b ∷ bs) long each = absurd (omega (arith, long))
releasable_so p u i (o ∷ os) [] long each = absurd (omega (arith, long))
releasable_so p u i (o ∷ os) (b ∷ bs) long each =
    with_and _ _ _ _ (ap (λ t. not t || release_set p o.type o.state) (first_mark u i b (each 0 (omega arith))))
    (releasable_so p u (i + 1) os bs (omega (arith, long)) (λ k l. later_marks u i k (slice_get bs k) (each (suc k) (omega (arith, l)))))

pub gone_so : (u : ℕ → Bool) (i : ℕ) (os : List m.Object) (bs : List Bool) → length bs ≡ length os → ((k : ℕ) → k < length os → slice_get bs k ≡ Some (u (i + k))) →
    gone_where bs os ≡ map (λ (q : ℕ × m.Object). if u q.0 then with_owner m.gone q.1 else q.1) (enumerate_from i os)
gone_so u i [] [] long each = refl
gone_so u i [] (b ∷ bs) long each = absurd (omega (arith, long))
gone_so u i (o ∷ os) [] long each = absurd (omega (arith, long))
gone_so u i (o ∷ os) (b ∷ bs) long each =
    ap (λ (t : Bool). (if t then with_owner m.gone o else o) ∷ gone_where bs os) (sym (first_mark u i b (each 0 (omega arith))))
    ∙ ap (λ l. (if u i then with_owner m.gone o else o) ∷ l) (gone_so u (i + 1) os bs (omega (arith, long)) (λ k l. later_marks u i k (slice_get bs k) (each (suc k) (omega (arith, l)))))

pub count_objects : (objects : List Object) → length (objects_view objects) ≡ length objects
count_objects [] = refl
count_objects (o ∷ os) = ap suc (count_objects os)

-- the marks of the list of all objects
from_first : (u : ℕ → Bool) (n : ℕ) (bs : List Bool) → ((k : ℕ) → k < n → slice_get bs k ≡ Some (u k)) → (k : ℕ) → k < n → slice_get bs k ≡ Some (u (0 + k))
from_first u n bs each k l = let h : k ≡ 0 + k = omega arith in each k l ∙ ap (λ j. Some (u j)) h

pub is_releasable_so : (p : core.Program) (n : ℕ) (objects : List m.Object) (bs : List Bool) → length bs ≡ length objects → IsUnderEach objects (n ∷ []) bs → is_releasable p objects n ≡ list_all (may_go_in p) (zip bs objects)
is_releasable_so p n objects bs long each = releasable_so p (is_under objects (n ∷ [])) 0 objects bs long (from_first (is_under objects (n ∷ [])) (length objects) bs each)

pub after_release_so : (n : ℕ) (objects : List m.Object) (bs : List Bool) → length bs ≡ length objects → IsUnderEach objects (n ∷ []) bs → gone_where bs objects ≡ objects_after_release n objects
after_release_so n objects bs long each = gone_so (is_under objects (n ∷ [])) 0 objects bs long (from_first (is_under objects (n ∷ [])) (length objects) bs each)

pub count_set : {A : Type 0} (xs : List A) (n : ℕ) (x : A) → length (slice_set xs n x) ≡ length xs
count_set [] n x = refl
count_set (y ∷ ys) zero x = refl
count_set (y ∷ ys) (suc n) x = ap suc (count_set ys n x)

gone_owner : (t s : ℕ) (cs : List m.Value) (w : m.Owner) (b : Bool) → ◌≡◌ {A = m.Object} (record { type = t; state = s; cells = cs; owner = (if b then m.gone else w) }) (if b then record { type = t; state = s; cells = cs; owner = m.gone } else record { type = t; state = s; cells = cs; owner = w })
gone_owner t s cs w true = refl
gone_owner t s cs w false = refl

pub gone_view : (o q : Object) (b : Bool) (w : Owner) → o ≡ q → owner_view w ≡ (if b then m.gone else owner_view q.owner) → object_view (record o { owner = w }) ≡ (if b then with_owner m.gone (object_view o) else object_view o)
gone_view o q b w same e =
    ap (λ (u : m.Owner). record { type = o.type_id.0; state = o.state; cells = map value_view o.cells; owner = u }) (e ∙ ap (λ (z : Object). if b then m.gone else owner_view z.owner) (sym same))
    ∙ gone_owner o.type_id.0 o.state (map value_view o.cells) (owner_view o.owner) b

-- one element, by any default
pub one_index : (xs : List Object) (n : ℕ) (d e : Object) → n < length xs → slice_index_or xs n d ≡ slice_index_or xs n e
one_index xs n d e l = same_Some (slice_index_or xs n d) (slice_index_or xs n e) (sym (slice_get-get_or xs n d l) ∙ slice_get-get_or xs n e l)
