-- The blocks that are shown after a change.
use Rattle.std.proofs.Common.{◌≡◌, ◌≢◌, ℕ, zero, suc, ◌+◌, ◌<◌, Bool, true, false, cond, if◌then◌else◌, List, [], ◌∷◌, map, length, Option, Some, None, refl, sym, ap, ◌∙◌, arith, slice_get, slice_set}
use Rattle.std.specs.Option.{option_map}
use Rattle.std.specs.List.{count_by}
use Rattle.std.proofs.lemmas.Option.{none-some, same_Some, slice_get_within, slice_get-map}
use Rattle.std.proofs.lemmas.List.Sums.{sum_by-cons}
use Rattle.vlt_rings.specs.declared.places.Places.{Places}
use Rattle.vlt_rings.specs.Things as rings
use Rattle.vlt_rings.specs.Things.{Thing, Things, IsAt, count_things}
use Rattle.c_meaning.specs.Blocks.{Block, live_block, option_join, live_count, without_from, with_changed_block, parent_in}
use Rattle.c_meaning.specs.Blocks as model
use Rattle.c_memory.specs.declared.cells.Ref.{Ref}
use Rattle.c_memory.specs.declared.cells.Cell.{Cell}
use Rattle.c_memory.specs.declared.cells.Shape.{Shape}
use Rattle.c_memory.specs.declared.blocks.Blocks.{Blocks}
use Rattle.c_memory.specs.Shown.{number_of, number_in, reference_in, numbers_at, references_at, block_by, block_in, blocks_of, IsFoundAt}
use Rattle.c_memory.proofs.Tables.{same_table}

-- ---- a thing's block

pub shown_at : (b : Blocks) (ts : Things) (n : ℕ) (x : Option Thing) → slice_get ts n ≡ Some x → slice_get (blocks_of b ts) n ≡ Some (option_map (block_in b) x)
shown_at b ts n x at = slice_get-map (option_map (block_in b)) ts n ∙ ap (option_map (option_map (block_in b))) at

pub live_at : (b : Blocks) (ts : Things) (n : ℕ) (t : Thing) → IsAt ts n t → live_block (blocks_of b ts) n ≡ Some (block_in b t)
live_at b ts n t at = ap option_join (shown_at b ts n (Some t) at)

pub gone_at : (b : Blocks) (ts : Things) (n : ℕ) → slice_get ts n ≡ Some None → live_block (blocks_of b ts) n ≡ None
gone_at b ts n at = ap option_join (shown_at b ts n None at)

pub found_live : (b : Blocks) (ts : Things) (p : Option Ref) (c : ℕ) (f : IsFoundAt b ts p c) → model.block_at (blocks_of b ts) (number_of p) ≡ Some (block_in b f.thing)
found_live b ts p c f = ap (model.block_at (blocks_of b ts)) f.is ∙ live_at b ts f.number f.thing f.at

-- ---- one thing, or what is shown of it, changes

pub map_same : {A : Type 0} (f g : Thing → A) (ts : Things) → ((k : ℕ) (v : Thing) → IsAt ts k v → g v ≡ f v) → map (option_map g) ts ≡ map (option_map f) ts
map_same f g [] h = refl
map_same f g (x ∷ ts) h = ap (λ y. y ∷ map (option_map g) ts) (by x (λ v e. h 0 v (ap (λ z. Some z) e))) ∙ ap (λ l. option_map f x ∷ l) (map_same f g ts (λ k v at. h (suc k) v at))
  where
    by : (x : Option Thing) → ((v : Thing) → x ≡ Some v → g v ≡ f v) → option_map g x ≡ option_map f x
    by None h = refl
    by (Some v) h = ap (λ z. Some z) (h v refl)

map_changed : {A : Type 0} (f g : Thing → A) (ts : Things) (n : ℕ) (t u : Thing) (y : Option A) → IsAt ts n t → Some (g u) ≡ y → ((k : ℕ) (v : Thing) → IsAt ts k v → k ≢ n → g v ≡ f v)
    → map (option_map g) (slice_set ts n (Some u)) ≡ slice_set (map (option_map f) ts) n y
map_changed f g [] n t u y at is others = absurd (none-some (Some t) at)
map_changed f g (x ∷ ts) zero t u y at is others =
    ap (λ z. z ∷ map (option_map g) ts) is ∙ ap (λ l. y ∷ l) (map_same f g ts (λ k v at_k. others (suc k) v at_k (λ e. absurd (omega (arith, e)))))
map_changed f g (x ∷ ts) (suc n) t u y at is others =
    ap (λ z. z ∷ map (option_map g) (slice_set ts n (Some u))) (by x (λ v e. others 0 v (ap (λ z. Some z) e) (λ e. absurd (omega (arith, e)))))
    ∙ ap (λ l. option_map f x ∷ l) (map_changed f g ts n t u y at is (λ k v at_k d. others (suc k) v at_k (λ e. d (omega (arith, e)))))
  where
    by : (x : Option Thing) → ((v : Thing) → x ≡ Some v → g v ≡ f v) → option_map g x ≡ option_map f x
    by None h = refl
    by (Some v) h = ap (λ z. Some z) (h v refl)

pub set_back : {A : Type 0} (xs : List A) (n : ℕ) (y : A) → slice_get xs n ≡ Some y → slice_set xs n y ≡ xs
set_back [] n y at = refl
set_back (x ∷ xs) zero y at = ap (λ z. z ∷ xs) (sym (same_Some x y at))
set_back (x ∷ xs) (suc n) y at = ap (λ l. x ∷ l) (set_back xs n y at)

-- the thing n is u now
pub thing_changed : (old new : Blocks) (ts : Things) (n : ℕ) (t u : Thing) (change : Block → Block) → IsAt ts n t → block_in new u ≡ change (block_in old t) → ((k : ℕ) (v : Thing) → IsAt ts k v → k ≢ n → block_in new v ≡ block_in old v)
    → blocks_of new (slice_set ts n (Some u)) ≡ with_changed_block n change (blocks_of old ts)
thing_changed old new ts n t u change at is others =
    map_changed (block_in old) (block_in new) ts n t u _ at (ap (λ z. Some z) is ∙ ap (option_map change) (sym (live_at old ts n t at))) others

-- what is shown of the thing n is changed
pub block_changed : (old new : Blocks) (ts : Things) (n : ℕ) (t : Thing) (change : Block → Block) → IsAt ts n t → block_in new t ≡ change (block_in old t) → ((k : ℕ) (v : Thing) → IsAt ts k v → k ≢ n → block_in new v ≡ block_in old v)
    → blocks_of new ts ≡ with_changed_block n change (blocks_of old ts)
block_changed old new ts n t change at is others =
    ap (blocks_of new) (sym (set_back ts n (Some t) at)) ∙ thing_changed old new ts n t t change at is others

-- ---- places

-- different things are in different places
pub places_apart : (h : Places) (ts : Things) → rings.Holds h ts → (n k : ℕ) (t v : Thing) → IsAt ts n t → IsAt ts k v → k ≢ n → v.place ≢ t.place
places_apart h ts holds n k t v at_t at_v other same =
    let s = holds.hold.shown n t at_t in
    let r = holds.hold.shown k v at_v in
    let what : r.what ≡ s.what = same_Some r.what s.what (sym r.at ∙ ap (slice_get h.places.items) same ∙ s.at) in
    other (sym r.number ∙ ap (λ p. p.number) what ∙ s.number)

-- a thing's place is one of the places
pub place_within : (h : Places) (ts : Things) → rings.Holds h ts → (n : ℕ) (t : Thing) → IsAt ts n t → t.place < length h.places.items
place_within h ts holds n t at = let s = holds.hold.shown n t at in slice_get_within h.places.items t.place s.what s.at

-- what is shown depends on the place's cells alone
pub same_block : (old new : List Cell) (from : ℕ) (s : Shape) (parent : Option ℕ) → ((j : ℕ) → j < s.numbers + s.references → slice_get new (from + j) ≡ slice_get old (from + j)) → block_by new from s parent ≡ block_by old from s parent
same_block old new from s parent h =
    ap (λ l. record { parent = parent; is_out = s.is_out; numbers = l; references = references_at new from s }) (same_table s.numbers _ _ (λ i l. ap number_in (h i (omega (arith, l)))))
    ∙ ap (λ l. record { parent = parent; is_out = s.is_out; numbers = numbers_at old from s; references = l })
    (same_table s.references _ _ (λ i l. ap reference_in (ap (slice_get new) (omega arith) ∙ h (s.numbers + i) (omega (arith, l)) ∙ ap (slice_get old) (omega arith))))

-- ---- a release

pub without_is : (f : Thing → Block) (gone : ℕ → Bool) (m : ℕ) (ts things : Things) → length things ≡ length ts
    → ((k : ℕ) (x : Option Thing) → slice_get ts k ≡ Some x → slice_get things k ≡ Some (if gone (m + k) then None else x)) → map (option_map f) things ≡ without_from gone m (map (option_map f) ts)
without_is f gone m [] [] long each = refl
without_is f gone m [] (y ∷ things) long each = absurd (omega (arith, long))
without_is f gone m (x ∷ ts) [] long each = absurd (omega (arith, long))
without_is f gone m (x ∷ ts) (y ∷ things) long each =
    ap (λ z. z ∷ map (option_map f) things) (ap (option_map f) head ∙ by (gone m) x) ∙ ap (λ l. (if gone m then None else option_map f x) ∷ l) (without_is f gone (suc m) ts things (omega (arith, long)) rest)
  where
    head : y ≡ (if gone m then None else x)
    head = same_Some y _ (each 0 x refl) ∙ ap (λ k. if gone k then None else x) (omega arith)

    by : (g : Bool) (x : Option Thing) → option_map f (if g then None else x) ≡ (if g then None else option_map f x)
    by true x = refl
    by false x = refl

    rest : (k : ℕ) (z : Option Thing) → slice_get ts k ≡ Some z → slice_get things k ≡ Some (if gone (suc m + k) then None else z)
    rest k z at = each (suc k) z at ∙ ap (λ i. Some (if gone i then None else z)) (omega arith)

pub parents_shown : (b : Blocks) (ts : Things) → model.parents_of (blocks_of b ts) ≡ rings.parents_of ts
parents_shown b [] = refl
parents_shown b (x ∷ ts) = ap (λ z. z ∷ model.parents_of (blocks_of b ts)) (by x) ∙ ap (λ l. rings.parent_of x ∷ l) (parents_shown b ts)
  where
    by : (x : Option Thing) → parent_in (option_map (block_in b) x) ≡ rings.parent_of x
    by None = refl
    by (Some t) = refl

-- ---- counts

step : {A : Type 0} (p : A → Bool) (x : A) (xs : List A) → count_by p (x ∷ xs) ≡ cond (p x) 1 0 + count_by p xs
step p x xs = sum_by-cons (λ y. cond (p y) 1 0) x xs

pub count_shown : (b : Blocks) (ts : Things) → live_count (blocks_of b ts) ≡ count_things ts
count_shown b [] = refl
count_shown b (x ∷ ts) = step model.is_there (option_map (block_in b) x) (blocks_of b ts) ∙ ap (λ k. cond (model.is_there (option_map (block_in b) x)) 1 0 + k) (count_shown b ts) ∙ ap (λ t. cond t 1 0 + count_things ts) (by x) ∙ sym (step rings.is_there x ts)
  where
    by : (x : Option Thing) → model.is_there (option_map (block_in b) x) ≡ rings.is_there x
    by None = refl
    by (Some t) = refl
