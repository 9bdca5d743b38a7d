-- The notes of a certificate are in order: the numbers of statements ascend, and so do the tokens of each map.
use Rattle.std.proofs.Common.{◌≡◌, ◌≤◌, ◌<◌, ◌+◌, ◌-◌, ℕ, zero, suc, nat_lt, nat_le, Bool, true, false, if◌then◌else◌, List, [], ◌∷◌, map, Option, Some, None, refl, sym, ap, ◌∙◌, subst, arith}
use Rattle.std.proofs.lemmas.Bool.{and_parts}
use Rattle.std.proofs.lemmas.Bool.Decides.{nat_tests}
use Rattle.vlt_core.specs.Core.{Tok, a_key, a_var, Func, Program}
use Rattle.vlt_core.specs.Maps.{Status, absent, held, lent, full}
use Rattle.vlt_core.specs.Least.{Noted, a_loop, a_join}
use Rattle.vlt_keyset.specs.Pairs.{IsBefore}
use Rattle.cert_rows.specs.Parts.{All}
use Rattle.cert_rows.specs.Values.{TokenStatus, ListedMap, token, number_of_tok, tok_of_number, kind_number, token_status, ascends, map_part, maps_part}
use Rattle.cert_rows.specs.Rows.{Row, Maps, FitsRow}
use Rattle.cert_format.specs.Notes.{Note, at_loop, at_join, MapNotes, maps_of, join_note}
use Rattle.cert_format.specs.Drafts.{Draft, plain, choose, loop, switch, focus, scope, Block, block, Drafts, done, next, Arms, no_arms, arm, draft_rows, block_rows, list_rows, arms_rows}
use Rattle.cert_format.specs.Bodies.{size, size_block, notes_of, block_notes, list_notes, arms_notes, count_list}
use Rattle.cert_format.specs.Bounds.{instances}
use Rattle.cert_format.specs.Certificate.{shape, body_draft, FitsFunction}
use Rattle.cert_format_laws.proofs.Decoding.{all_left, all_right, all_joined}
use Rattle.cert_fit_laws.specs.Complete.{named_by, FitsNote}
use Rattle.cert_fit_laws.proofs.Named as named
use Rattle.cert_fit_laws.proofs.Named.{Climbs, climb_list, read, read_list, list_noted}
use Rattle.cert_check.specs.Unfit.{IsPresent, ComesFirst, IsMapInOrder, map_at, HasMapsInOrder, number_of, IsBelowAll, AreInOrder}

-- ---- maps

-- a key that a row says is below 256
key_small : (k : ℕ) → tok_of_number (number_of_tok (a_key k)) ≡ a_key k → k < 256
key_small k e = by (nat_lt k 256) refl e
  where
    never : {X : Type 0} (v : ℕ) → a_var v ≡ a_key k → X
    never v e = cc

    by : (b : Bool) → nat_lt k 256 ≡ b → (if b then a_key k else a_var (k - 256)) ≡ a_key k → k < 256
    by true is e = grind (arith, nat_tests)
    by false is e = never (k - 256) e

before : (t u : Tok) → token.Fits u → number_of_tok t < number_of_tok u → IsBefore t u
before (a_key k) (a_key j) fits less = less
before (a_key k) (a_var w) fits less = tt
before (a_var v) (a_key j) fits less = absurd (far v j (key_small j fits.1) less)
  where
    far : (v j : ℕ) → j < 256 → 256 + v < j → ⊥
    far v j small less = omega (arith, small, less)
before (a_var v) (a_var w) fits less = omega (arith, less)

present : (s : Status) → kind_number s ≤ 2 → IsPresent s
present absent low = omega (arith, low)
present (held states) low = tt
present (lent states) low = tt
present full low = tt

over : (a b c : ℕ) → a < b → nat_le b c ≡ true → a < c
over a b c less le = grind (arith, nat_tests)

one_more : (n : ℕ) → n < suc n
one_more n = omega arith

comes_first : (x : TokenStatus) (least : ℕ) (xs : ListedMap) → number_of_tok x.0 < least → All token_status.Fits xs → ascends least xs ≡ true → ComesFirst x xs
comes_first x least [] less fits up = tt
comes_first x least (y ∷ ys) less fits up =
    let parts = and_parts (nat_le least (number_of_tok y.0)) (ascends (suc (number_of_tok y.0)) ys) up in
    let lower = over (number_of_tok x.0) least (number_of_tok y.0) less parts.0 in (
      before x.0 y.0 fits.0.0.0.0 lower,
      comes_first x (suc (number_of_tok y.0)) ys (more (number_of_tok x.0) (number_of_tok y.0) lower) fits.1 parts.1,
    )
  where
    more : (a b : ℕ) → a < b → a < suc b
    more a b less = omega (arith, less)

map_in_order : (least : ℕ) (xs : ListedMap) → All token_status.Fits xs → ascends least xs ≡ true → IsMapInOrder xs
map_in_order least [] fits up = tt
map_in_order least (x ∷ xs) fits up =
    let parts = and_parts (nat_le least (number_of_tok x.0)) (ascends (suc (number_of_tok x.0)) xs) up in (
      present x.1 fits.0.0.0.1,
      comes_first x (suc (number_of_tok x.0)) xs (one_more (number_of_tok x.0)) fits.1 parts.1,
      map_in_order (suc (number_of_tok x.0)) xs fits.1 parts.1,
    )

-- of each instance, or past the last one
all_in_order : (maps : Maps) → All map_part.Fits maps → (i : ℕ) → IsMapInOrder (map_at maps i)
all_in_order [] fits i = tt
all_in_order (m ∷ ms) fits zero = map_in_order 0 m fits.0.0 fits.0.1
all_in_order (m ∷ ms) fits (suc i) = all_in_order ms fits.1 i

maps_in_order : (many : Option ℕ) (maps : Maps) → (maps_part many).Fits maps → (i : ℕ) → IsMapInOrder (map_at maps i)
maps_in_order None [] fits i = tt
maps_in_order None (m ∷ []) fits i = all_in_order (m ∷ []) (fits.0, tt) i
maps_in_order None (m ∷ k ∷ ms) fits i = absurd (never fits.1)
  where
    never : m ∷ [] ≡ m ∷ k ∷ ms → ⊥
    never e = cc
maps_in_order (Some n) maps fits i = all_in_order maps fits.0 i

note_in_order : (many : Option ℕ) (i : ℕ) (x : Note) → FitsNote many x → HasMapsInOrder i x
note_in_order many i (at_loop n around exit) fits = (maps_in_order many around fits.0 i, maps_in_order many exit fits.1 i)
note_in_order many i (at_join n maps) fits = maps_in_order many maps fits i

-- ---- the maps of rows fit

module _ (o : Bool) (many : Option ℕ) where
  abbrev Fit : List Row → Type 0
  Fit rs = All (FitsRow (shape o many)) rs

  join_fits : (n : ℕ) (m : Option Maps) → ((k : Maps) → m ≡ Some k → (maps_part many).Fits k) → All (FitsNote many) (join_note n m)
  join_fits n None each = tt
  join_fits n (Some m) each = (each m refl, tt)

  mutual
    draft_fits : (n : ℕ) (d : Draft) → Fit (draft_rows d) → All (FitsNote many) (notes_of n d)
    draft_fits n (plain r) fits = tt
    draft_fits n (choose e a b None) fits =
        let more = fits.1 in
        all_joined (FitsNote many) (block_notes (n + 1) a) (block_notes (n + 1 + size_block a) b)
        (block_fits (n + 1) a (all_left (FitsRow (shape o many)) (block_rows a) (block_rows b) more)) (block_fits (n + 1 + size_block a) b (all_right (FitsRow (shape o many)) (block_rows a) (block_rows b) more))
    draft_fits n (choose e a b (Some m)) fits =
        let more = fits.1 in (
          fits.0.3.0,
          all_joined (FitsNote many) (block_notes (n + 1) a) (block_notes (n + 1 + size_block a) b)
              (block_fits (n + 1) a (all_left (FitsRow (shape o many)) (block_rows a) (block_rows b) more)) (block_fits (n + 1 + size_block a) b (all_right (FitsRow (shape o many)) (block_rows a) (block_rows b) more)),
        )
    draft_fits n (loop e a m k) fits = ((fits.0.2, fits.0.3), block_fits (n + 1) a fits.1)
    draft_fits n (switch v arms None) fits = arms_fit (n + 1) arms fits.1
    draft_fits n (switch v arms (Some m)) fits = (fits.0.2.0, arms_fit (n + 1) arms fits.1)
    draft_fits n (focus y z a) fits = block_fits (n + 1) a fits.1
    draft_fits n (scope a) fits = block_fits (n + 1) a fits.1

    block_fits : (n : ℕ) (b : Block) → Fit (block_rows b) → All (FitsNote many) (block_notes n b)
    block_fits n (block c bound ss) fits = list_fits n ss fits

    list_fits : (n : ℕ) (ss : Drafts) → Fit (list_rows ss) → All (FitsNote many) (list_notes n ss)
    list_fits n done fits = tt
    list_fits n (next f rest) fits =
        all_joined (FitsNote many) (notes_of n f) (list_notes (n + size f) rest)
        (draft_fits n f (all_left (FitsRow (shape o many)) (draft_rows f) (list_rows rest) fits)) (list_fits (n + size f) rest (all_right (FitsRow (shape o many)) (draft_rows f) (list_rows rest) fits))

    arms_fit : (n : ℕ) (arms : Arms) → Fit (arms_rows arms) → All (FitsNote many) (arms_notes n arms)
    arms_fit n no_arms fits = tt
    arms_fit n (arm c vs b rest) fits =
        all_joined (FitsNote many) (block_notes n b) (arms_notes (n + size_block b) rest)
        (block_fits n b (all_left (FitsRow (shape o many)) (block_rows b) (arms_rows rest) fits)) (arms_fit (n + size_block b) rest (all_right (FitsRow (shape o many)) (block_rows b) (arms_rows rest) fits))

-- ---- numbers

name_back : (a : MapNotes) (x : Noted) → named_by (read a x) ≡ x
name_back a (a_loop n) = refl
name_back a (a_join n) = refl

names_back : (a : MapNotes) (xs : List Noted) → map named_by (map (read a) xs) ≡ xs
names_back a [] = refl
names_back a (x ∷ xs) = ap (λ y. y ∷ map named_by (map (read a) xs)) (name_back a x) ∙ ap (λ ys. x ∷ ys) (names_back a xs)

same_number : (x : Note) → named.number_of (named_by x) ≡ number_of x
same_number (at_loop n around exit) = refl
same_number (at_join n maps) = refl

below_all : (n m k : ℕ) (xs : List Note) → n < m → Climbs m k (map named_by xs) → IsBelowAll n xs
below_all n m k [] less c = tt
below_all n m k (x ∷ xs) less c = (
  subst (λ i. n < i) (same_number x) (up n m (named.number_of (named_by x)) less c.0),
  below_all n (suc (named.number_of (named_by x))) k xs (further n m (named.number_of (named_by x)) less c.0) c.1,
)
  where
    up : (n m i : ℕ) → n < m → m ≤ i → n < i
    up n m i less le = omega (arith, less, le)

    further : (n m i : ℕ) → n < m → m ≤ i → n < suc i
    further n m i less le = omega (arith, less, le)

in_order : (many : Option ℕ) (i m k : ℕ) (xs : List Note) → Climbs m k (map named_by xs) → All (FitsNote many) xs → AreInOrder i xs
in_order many i m k [] c fits = tt
in_order many i m k (x ∷ xs) c fits = (
  note_in_order many i x fits.0,
  subst (λ j. IsBelowAll j xs) (same_number x) (below_all (named.number_of (named_by x)) (suc (named.number_of (named_by x))) k xs (one_more (named.number_of (named_by x))) c.1),
  in_order many i (suc (named.number_of (named_by x))) k xs c.1 fits.1,
)

-- ---- functions

pub notes_in_order : (o : Bool) (p : Program) (f : Func) (notes : List Note) → FitsFunction o p f notes → (i : ℕ) → AreInOrder i notes
notes_in_order o p f notes fits i =
    let a = maps_of notes in
    let names : map named_by notes ≡ list_noted 0 f.body = ap (map named_by) (fits.listed ∙ read_list a 0 f.body) ∙ names_back a (list_noted 0 f.body) in
    in_order (instances p f) i 0 (0 + count_list f.body) notes (subst (Climbs 0 (0 + count_list f.body)) (sym names) (climb_list 0 f.body))
    (subst (All (FitsNote (instances p f))) (sym fits.listed) (list_fits o (instances p f) 0 (body_draft f notes) fits.rows.1))
