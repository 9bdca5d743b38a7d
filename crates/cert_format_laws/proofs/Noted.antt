-- The notes of statements have numbers that ascend, so each statement finds its own.
use Rattle.std.proofs.Common.{◌≡◌, ◌≤◌, ◌<◌, ◌+◌, ◌==◌, refl, sym, ap, ◌∙◌, subst, ℕ, suc, true, false, if◌then◌else◌, List, [], ◌∷◌, ◌++◌, Option, Some, None, arith}
use Rattle.std.proofs.lemmas.Bool.Decides.{nat_tests}
use Rattle.cert_rows.specs.Parts.{All}
use Rattle.cert_rows.specs.Rows.{Maps}
use Rattle.cert_format.specs.Drafts.{Draft, plain, choose, loop, switch, focus, scope, Block, block, Drafts, done, next, Arms, no_arms, arm}
use Rattle.cert_format.specs.Notes.{Note, at_loop, at_join, join_note, around_of, following_of, maps_of}
use Rattle.cert_format.specs.Bodies.{notes_of, block_notes, list_notes, arms_notes, size, size_block, size_list, size_arms}
use Rattle.cert_format_laws.proofs.Decoding.{joined, no_end}
use Rattle.cert_format_laws.proofs.Redrafted.{Says}

abbrev pub number_of : Note → ℕ
number_of (at_loop n m k) = n
number_of (at_join n m) = n

-- numbers ascend, and none is less than `least`
abbrev pub Ascend : (least : ℕ) → List Note → Type 0
Ascend least [] = Unit {0}
Ascend least (x ∷ xs) = (least ≤ number_of x) × Ascend (suc (number_of x)) xs

from_less : (m n : ℕ) (xs : List Note) → m ≤ n → Ascend n xs → Ascend m xs
from_less m n [] h k = tt
from_less m n (x ∷ xs) h k = (omega (arith, h, k.0), k.1)

following : (n : ℕ) (xs ys zs : List Note) → Ascend n (xs ++ (ys ++ zs)) → Ascend n ((xs ++ ys) ++ zs)
following n xs ys zs h = subst (Ascend n) (sym (joined xs ys zs)) h

join_ascends : (n : ℕ) (m : Option Maps) (xs : List Note) → Ascend (n + 1) xs → Ascend n (join_note n m ++ xs)
join_ascends n None xs h = from_less n (n + 1) xs (omega arith) h
join_ascends n (Some m) xs h = (omega arith, from_less (suc n) (n + 1) xs (omega arith) h)

at_number : (m n : ℕ) (xs : List Note) → m ≡ n → Ascend m xs → Ascend n xs
at_number m n xs e h = subst (λ k. Ascend k xs) e h

mutual
  ascend : (n : ℕ) (x : Draft) (xs : List Note) → Ascend (n + size x) xs → Ascend n (notes_of n x ++ xs)
  ascend n (plain r) xs h = from_less n (n + 1) xs (omega arith) h
  ascend n (choose e a b m) xs h =
      let last : Ascend (n + 1 + size_block a + size_block b) xs =
      at_number (n + size (choose e a b m)) (n + 1 + size_block a + size_block b) xs (omega arith) h in
      following n (join_note n m) (block_notes (n + 1) a ++ block_notes (n + 1 + size_block a) b) xs
      (join_ascends n m ((block_notes (n + 1) a ++ block_notes (n + 1 + size_block a) b) ++ xs)
      (following (n + 1) (block_notes (n + 1) a) (block_notes (n + 1 + size_block a) b) xs
      (block_ascend (n + 1) a (block_notes (n + 1 + size_block a) b ++ xs) (block_ascend (n + 1 + size_block a) b xs last))))
  ascend n (loop e a m k) xs h = (
    omega arith,
    from_less (suc n) (n + 1) (block_notes (n + 1) a ++ xs) (omega arith)
        (block_ascend (n + 1) a xs (at_number (n + size (loop e a m k)) (n + 1 + size_block a) xs (omega arith) h)),
  )
  ascend n (switch v arms m) xs h =
      following n (join_note n m) (arms_notes (n + 1) arms) xs
      (join_ascends n m (arms_notes (n + 1) arms ++ xs)
      (arms_ascend (n + 1) arms xs (at_number (n + size (switch v arms m)) (n + 1 + size_arms arms) xs (omega arith) h)))
  ascend n (focus y z a) xs h = from_less n (n + 1) (block_notes (n + 1) a ++ xs) (omega arith)
      (block_ascend (n + 1) a xs (at_number (n + size (focus y z a)) (n + 1 + size_block a) xs (omega arith) h))
  ascend n (scope a) xs h = from_less n (n + 1) (block_notes (n + 1) a ++ xs) (omega arith)
      (block_ascend (n + 1) a xs (at_number (n + size (scope a)) (n + 1 + size_block a) xs (omega arith) h))

  block_ascend : (n : ℕ) (b : Block) (xs : List Note) → Ascend (n + size_block b) xs → Ascend n (block_notes n b ++ xs)
  block_ascend n (block c bound ss) xs h = list_ascend n ss xs h

  list_ascend : (n : ℕ) (ss : Drafts) (xs : List Note) → Ascend (n + size_list ss) xs → Ascend n (list_notes n ss ++ xs)
  list_ascend n done xs h = at_number (n + 0) n xs (omega arith) h
  list_ascend n (next f rest) xs h =
      following n (notes_of n f) (list_notes (n + size f) rest) xs
      (ascend n f (list_notes (n + size f) rest ++ xs)
      (list_ascend (n + size f) rest xs (at_number (n + size_list (next f rest)) (n + size f + size_list rest) xs
      (omega arith) h)))

  arms_ascend : (n : ℕ) (arms : Arms) (xs : List Note) → Ascend (n + size_arms arms) xs → Ascend n (arms_notes n arms ++ xs)
  arms_ascend n no_arms xs h = at_number (n + 0) n xs (omega arith) h
  arms_ascend n (arm c vs b rest) xs h =
      following n (block_notes n b) (arms_notes (n + size_block b) rest) xs
      (block_ascend n b (arms_notes (n + size_block b) rest ++ xs)
      (arms_ascend (n + size_block b) rest xs (at_number (n + size_arms (arm c vs b rest))
      (n + size_block b + size_arms rest) xs (omega arith) h)))

pub notes_ascend : (ss : Drafts) → Ascend 0 (list_notes 0 ss)
notes_ascend ss = subst (Ascend 0) (no_end (list_notes 0 ss)) (list_ascend 0 ss [] tt)

-- ---- each note is found

unlike : (m n : ℕ) → m < n → (m == n) ≡ false
unlike m n h = grind (arith, nat_tests)

alike : (n : ℕ) → (n == n) ≡ true
alike n = grind (arith, nat_tests)

older_around : (x : Note) (xs : List Note) (n : ℕ) → number_of x < n → around_of (x ∷ xs) n ≡ around_of xs n
older_around (at_loop m a k) xs n h = ap (λ b. if b then a else around_of xs n) (unlike m n h)
older_around (at_join m a) xs n h = refl

older_after : (x : Note) (xs : List Note) (n : ℕ) → number_of x < n → following_of (x ∷ xs) n ≡ following_of xs n
older_after (at_loop m a k) xs n h = ap (λ b. if b then k else following_of xs n) (unlike m n h)
older_after (at_join m a) xs n h = ap (λ b. if b then a else following_of xs n) (unlike m n h)

still : (x : Note) (xs : List Note) (y : Note) → number_of x < number_of y → Says (maps_of xs) y → Says (maps_of (x ∷ xs)) y
still x xs (at_loop n m k) h s = (older_around x xs n h ∙ s.0, older_after x xs n h ∙ s.1)
still x xs (at_join n m) h s = older_after x xs n h ∙ s

all_still : (x : Note) (xs ys : List Note) (least : ℕ) → number_of x < least → Ascend least ys → All (Says (maps_of xs)) ys →
    All (Says (maps_of (x ∷ xs))) ys
all_still x xs [] least h a s = tt
all_still x xs (y ∷ ys) least h a s =
    (still x xs y (omega (arith, h, a.0)) s.0, all_still x xs ys (suc (number_of y)) (omega (arith, h, a.0)) a.1 s.1)

own : (x : Note) (xs : List Note) → Says (maps_of (x ∷ xs)) x
own (at_loop n m k) xs = (ap (λ b. if b then m else around_of xs n) (alike n), ap (λ b. if b then k else following_of xs n) (alike n))
own (at_join n m) xs = ap (λ b. if b then m else following_of xs n) (alike n)

pub all_said : (xs : List Note) (least : ℕ) → Ascend least xs → All (Says (maps_of xs)) xs
all_said [] least a = tt
all_said (x ∷ xs) least a = (own x xs, all_still x xs xs (suc (number_of x)) (omega arith) a.1 (all_said xs (suc (number_of x)) a.1))
