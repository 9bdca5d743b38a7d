-- The first note of a statement, in notes that are in order.
use Rattle.std.proofs.Common.{◌≡◌, ◌<◌, ◌≤◌, ◌+◌, ◌-◌, ◌==◌, ℕ, zero, suc, true, false, if◌then◌else◌, List, [], ◌∷◌, length, drop, drop-cons, add-one, get_or, refl, sym, ap, ◌∙◌, subst, arith}
use Rattle.std.proofs.lemmas.List.{drop_all}
use Rattle.std.proofs.lemmas.Bool.Decides.{nat_tests}
use Rattle.vlt_core.specs.declared.notes.TokMap.{TokMap}
use Rattle.cert_read_bodies.specs.declared.notes.MapsNote.{MapsNote}
use Rattle.cert_read_bodies.specs.declared.notes.MapsNote.TheVariants as note
use Rattle.cert_check.specs.Notes.{pairs_at, around_of, following_of, number_of, IsOrderedNote, IsBelowAll, AreOrdered}
use Rattle.cert_check.specs.Finding.{IsFound, HasNoNote}

pub split_at : {X : Type 0} (xs : List X) (i : ℕ) (x : X) → i < length xs → x ≡ get_or xs i x → drop i xs ≡ x ∷ drop (i + 1) xs
split_at xs i x lt read = rw add-one (drop-cons xs i x lt ∙ ap (λ y. y ∷ drop (suc i) xs) (sym read))

same_number : (k n : ℕ) → k ≡ n → (k == n) ≡ true
same_number k n e = grind (arith, nat_tests)

other_number : (k n : ℕ) → k < n → (k == n) ≡ false
other_number k n e = grind (arith, nat_tests)

heads : (y x : MapsNote) (rest more : List MapsNote) → y ∷ rest ≡ x ∷ more → y ≡ x
heads y x rest more e = cc

none_is : (x : MapsNote) (rest : List MapsNote) → [] ≡ x ∷ rest → ⊥
none_is x rest e = cc

pub found : (notes : List MapsNote) (i n : ℕ) (x : MapsNote) → i < length notes → x ≡ get_or notes i x → number_of x ≡ n → IsFound notes i n
found notes i n x lt read same = record {
  within = lt;
  number = λ y rest e. ap number_of (heads y x rest (drop (i + 1) notes) (sym e ∙ split_at notes i x lt read)) ∙ same;
}

below_at : (i k : ℕ) (notes : List MapsNote) (x : MapsNote) (rest : List MapsNote) → IsBelowAll k notes → drop i notes ≡ x ∷ rest → k < number_of x
below_at i k [] x rest b e = absurd (nothing i e)
  where
    nothing : (i : ℕ) → drop i [] ≡ x ∷ rest → ⊥
    nothing zero e = none_is x rest e
    nothing (suc i) e = none_is x rest e
below_at zero k (y ∷ ys) x rest b e = subst (λ z. k < number_of z) (heads y x ys rest e) b.0
below_at (suc i) k (y ∷ ys) x rest b e = below_at i k ys x rest b.1 e

module _ (instance : ℕ) where
  around_skip : (y : MapsNote) (ys : List MapsNote) (n : ℕ) → number_of y < n → around_of instance (y ∷ ys) n ≡ around_of instance ys n
  around_skip (note.Loop s a x) ys n lt = ap (λ b. if b then pairs_at a instance else around_of instance ys n) (other_number s n lt)
  around_skip (note.Join s m) ys n lt = refl

  after_skip : (y : MapsNote) (ys : List MapsNote) (n : ℕ) → number_of y < n → following_of instance (y ∷ ys) n ≡ following_of instance ys n
  after_skip (note.Loop s a x) ys n lt = ap (λ b. if b then pairs_at x instance else following_of instance ys n) (other_number s n lt)
  after_skip (note.Join s m) ys n lt = ap (λ b. if b then pairs_at m instance else following_of instance ys n) (other_number s n lt)

  around_at : (i n : ℕ) (notes : List MapsNote) (x : MapsNote) (rest : List MapsNote) → AreOrdered instance notes → drop i notes ≡ x ∷ rest → number_of x ≡ n → around_of instance notes n ≡ around_of instance (x ∷ rest) n
  around_at zero n notes x rest o e same = ap (λ l. around_of instance l n) e
  around_at (suc i) n [] x rest o e same = absurd (none_is x rest e)
  around_at (suc i) n (y ∷ ys) x rest o e same =
      around_skip y ys n (subst (λ k. number_of y < k) same (below_at i (number_of y) ys x rest o.1 e)) ∙ around_at i n ys x rest o.2 e same

  after_at : (i n : ℕ) (notes : List MapsNote) (x : MapsNote) (rest : List MapsNote) → AreOrdered instance notes → drop i notes ≡ x ∷ rest → number_of x ≡ n → following_of instance notes n ≡ following_of instance (x ∷ rest) n
  after_at zero n notes x rest o e same = ap (λ l. following_of instance l n) e
  after_at (suc i) n [] x rest o e same = absurd (none_is x rest e)
  after_at (suc i) n (y ∷ ys) x rest o e same =
      after_skip y ys n (subst (λ k. number_of y < k) same (below_at i (number_of y) ys x rest o.1 e)) ∙ after_at i n ys x rest o.2 e same

  -- ---- notes past a statement's

  pub below_trans : (m n : ℕ) (zs : List MapsNote) → m < n → IsBelowAll n zs → IsBelowAll m zs
  below_trans m n [] lt b = tt
  below_trans m n (z ∷ zs) lt b = (omega (arith, lt, b.0), below_trans m n zs lt b.1)

  pub order_drop : (i : ℕ) (notes : List MapsNote) → AreOrdered instance notes → AreOrdered instance (drop i notes)
  order_drop zero notes o = o
  order_drop (suc i) [] o = tt
  order_drop (suc i) (y ∷ ys) o = order_drop i ys o.2

  larger_number : (k n : ℕ) → n < k → (k == n) ≡ false
  larger_number k n e = grind (arith, nat_tests)

  none_around : (n : ℕ) (ys : List MapsNote) → IsBelowAll n ys → around_of instance ys n ≡ []
  none_around n [] b = refl
  none_around n (note.Loop s a x ∷ ys) b = ap (λ t. if t then pairs_at a instance else around_of instance ys n) (larger_number s n b.0) ∙ none_around n ys b.1
  none_around n (note.Join s m ∷ ys) b = none_around n ys b.1

  none_after : (n : ℕ) (ys : List MapsNote) → IsBelowAll n ys → following_of instance ys n ≡ []
  none_after n [] b = refl
  none_after n (note.Loop s a x ∷ ys) b = ap (λ t. if t then pairs_at x instance else following_of instance ys n) (larger_number s n b.0) ∙ none_after n ys b.1
  none_after n (note.Join s m ∷ ys) b = ap (λ t. if t then pairs_at m instance else following_of instance ys n) (larger_number s n b.0) ∙ none_after n ys b.1

  around_past : (i n : ℕ) (notes : List MapsNote) (x : MapsNote) (rest : List MapsNote) → AreOrdered instance notes → drop i notes ≡ x ∷ rest → number_of x < n → around_of instance notes n ≡ around_of instance rest n
  around_past zero n notes x rest o e lt = ap (λ l. around_of instance l n) e ∙ around_skip x rest n lt
  around_past (suc i) n [] x rest o e lt = absurd (none_is x rest e)
  around_past (suc i) n (y ∷ ys) x rest o e lt = around_skip y ys n (omega (arith, lt, below_at i (number_of y) ys x rest o.1 e)) ∙ around_past i n ys x rest o.2 e lt

  after_past : (i n : ℕ) (notes : List MapsNote) (x : MapsNote) (rest : List MapsNote) → AreOrdered instance notes → drop i notes ≡ x ∷ rest → number_of x < n → following_of instance notes n ≡ following_of instance rest n
  after_past zero n notes x rest o e lt = ap (λ l. following_of instance l n) e ∙ after_skip x rest n lt
  after_past (suc i) n [] x rest o e lt = absurd (none_is x rest e)
  after_past (suc i) n (y ∷ ys) x rest o e lt = after_skip y ys n (omega (arith, lt, below_at i (number_of y) ys x rest o.1 e)) ∙ after_past i n ys x rest o.2 e lt

  module _ (notes : List MapsNote) (i n : ℕ) (x : MapsNote) (o : AreOrdered instance notes) (f : IsFound notes i n) (read : x ≡ get_or notes i x) where
    split : drop i notes ≡ x ∷ drop (i + 1) notes
    split = split_at notes i x f.within read

    number : number_of x ≡ n
    number = f.number x (drop (i + 1) notes) split

    pub loop_around : (s : ℕ) (a e : List TokMap) → x ≡ note.Loop s a e → pairs_at a instance ≡ around_of instance notes n
    loop_around s a e is = sym (around_at i n notes x (drop (i + 1) notes) o split number ∙ ap (λ y. around_of instance (y ∷ drop (i + 1) notes) n) is ∙ ap (λ b. if b then pairs_at a instance else around_of instance (drop (i + 1) notes) n) (same_number s n (sym (ap number_of is) ∙ number)))

    pub loop_after : (s : ℕ) (a e : List TokMap) → x ≡ note.Loop s a e → pairs_at e instance ≡ following_of instance notes n
    loop_after s a e is = sym (after_at i n notes x (drop (i + 1) notes) o split number ∙ ap (λ y. following_of instance (y ∷ drop (i + 1) notes) n) is ∙ ap (λ b. if b then pairs_at e instance else following_of instance (drop (i + 1) notes) n) (same_number s n (sym (ap number_of is) ∙ number)))

    pub join_after : (s : ℕ) (m : List TokMap) → x ≡ note.Join s m → pairs_at m instance ≡ following_of instance notes n
    join_after s m is = sym (after_at i n notes x (drop (i + 1) notes) o split number ∙ ap (λ y. following_of instance (y ∷ drop (i + 1) notes) n) is ∙ ap (λ b. if b then pairs_at m instance else following_of instance (drop (i + 1) notes) n) (same_number s n (sym (ap number_of is) ∙ number)))

    pub join_around : (s : ℕ) (m : List TokMap) → x ≡ note.Join s m → [] ≡ around_of instance notes n
    join_around s m is = sym (around_at i n notes x (drop (i + 1) notes) o split number ∙ ap (λ y. around_of instance (y ∷ drop (i + 1) notes) n) is ∙ none_around n (drop (i + 1) notes) later)
      where
        later : IsBelowAll n (drop (i + 1) notes)
        later = subst (λ k. IsBelowAll k (drop (i + 1) notes)) number (subst (AreOrdered instance) split (order_drop i notes o)).1

  -- ---- halving

  -- a note of the statement is neither before the place low nor from the place high on
  pub record Searching (notes : List MapsNote) (n low high : ℕ) : Type 0 where
    pub order : low ≤ high
    pub few : high ≤ length notes
    pub around : around_of instance notes n ≡ around_of instance (drop low notes) n
    pub following : following_of instance notes n ≡ following_of instance (drop low notes) n
    pub past : IsBelowAll n (drop high notes)

  pub search_first : (notes : List MapsNote) (n : ℕ) → Searching notes n 0 (length notes)
  search_first notes n = record {
    order = omega arith;
    few = omega arith;
    around = refl;
    following = refl;
    past = subst (IsBelowAll n) (sym (drop_all (length notes) notes (omega arith))) tt;
  }

  pub search_up : (notes : List MapsNote) (n low high i : ℕ) (x : MapsNote) → AreOrdered instance notes → Searching notes n low high → i < high → x ≡ get_or notes i x → number_of x < n → Searching notes n (i + 1) high
  search_up notes n low high i x o g lt read less =
      let split = split_at notes i x (omega (arith, lt, g.few)) read in
      record {
        order = omega (arith, lt);
        few = g.few;
        around = around_past i n notes x (drop (i + 1) notes) o split less;
        following = after_past i n notes x (drop (i + 1) notes) o split less;
        past = g.past;
      }

  pub search_down : (notes : List MapsNote) (n low high i : ℕ) (x : MapsNote) → AreOrdered instance notes → Searching notes n low high → low ≤ i → i < high → x ≡ get_or notes i x → n < number_of x → Searching notes n low i
  search_down notes n low high i x o g from lt read more =
      let split = split_at notes i x (omega (arith, lt, g.few)) read in
      record {
        order = from;
        few = omega (arith, lt, g.few);
        around = g.around;
        following = g.following;
        past = subst (IsBelowAll n) (sym split) (more, below_trans n (number_of x) (drop (i + 1) notes) more (subst (AreOrdered instance) split (order_drop i notes o)).1);
      }

  pub search_ended : (notes : List MapsNote) (n low high : ℕ) → high ≤ low → Searching notes n low high → HasNoNote instance notes n
  search_ended notes n low high past g =
      let past = subst (λ i. IsBelowAll n (drop i notes)) (let e : high ≡ low = omega (arith, past, g.order) in e) g.past in
      record {
        around = g.around ∙ none_around n (drop low notes) past;
        following = g.following ∙ none_after n (drop low notes) past;
      }

  -- ---- notes in order, from the last on

  pub order_back : (notes : List MapsNote) (j : ℕ) (x : MapsNote) → j < length notes → x ≡ get_or notes (length notes - 1 - j) x → IsOrderedNote instance x → ((y : MapsNote) (rest : List MapsNote) → drop (length notes - 1 - j + 1) notes ≡ y ∷ rest → number_of x < number_of y) → AreOrdered instance (drop (length notes - j) notes) → AreOrdered instance (drop (length notes - (j + 1)) notes)
  order_back notes j x lt read own next o =
      let here : length notes - 1 - j ≡ length notes - (j + 1) = omega arith in
      let following : length notes - j ≡ length notes - 1 - j + 1 = omega arith in
      let i = length notes - 1 - j in
      let rest = subst (λ i. AreOrdered instance (drop i notes)) following o in
      subst (λ i. AreOrdered instance (drop i notes)) here
      (subst (AreOrdered instance) (sym (split_at notes i x (omega arith) read)) (own, firsts (drop (i + 1) notes) next rest, rest))
    where
      firsts : (ys : List MapsNote) → ((y : MapsNote) (rest : List MapsNote) → ys ≡ y ∷ rest → number_of x < number_of y) → AreOrdered instance ys → IsBelowAll (number_of x) ys
      firsts [] b o = tt
      firsts (y ∷ ys) b o = (b y ys refl, below_trans (number_of x) (number_of y) ys (b y ys refl) o.1)

  pub next_is : (notes : List MapsNote) (i : ℕ) (x z : MapsNote) → drop i notes ≡ z ∷ drop (i + 1) notes → number_of x < number_of z → (y : MapsNote) (rest : List MapsNote) → drop i notes ≡ y ∷ rest → number_of x < number_of y
  next_is notes i x z split b y rest e = subst (λ p. number_of x < number_of p) (heads z y (drop (i + 1) notes) rest (sym split ∙ e)) b

  pub next_none : (notes : List MapsNote) (i : ℕ) (x : MapsNote) → length notes ≤ i → (y : MapsNote) (rest : List MapsNote) → drop i notes ≡ y ∷ rest → number_of x < number_of y
  next_none notes i x past y rest e = absurd (none_is y rest (sym (drop_all i notes past) ∙ e))

  -- ---- notes that aren't in order

  pub order_here : (notes : List MapsNote) (i : ℕ) (x : MapsNote) → i < length notes → x ≡ get_or notes i x → AreOrdered instance notes → IsOrderedNote instance x × IsBelowAll (number_of x) (drop (i + 1) notes)
  order_here notes i x lt read o = let here = subst (AreOrdered instance) (split_at notes i x lt read) (order_drop i notes o) in (here.0, here.1)

  pub order_next : (notes : List MapsNote) (i : ℕ) (x y : MapsNote) → i + 1 < length notes → x ≡ get_or notes i x → y ≡ get_or notes (i + 1) y → AreOrdered instance notes → number_of x < number_of y
  order_next notes i x y lt read next o =
      (subst (IsBelowAll (number_of x)) (split_at notes (i + 1) y lt next) (order_here notes i x (omega (arith, lt)) read o).1).0
