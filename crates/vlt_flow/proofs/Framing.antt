-- What a walk leaves as it was.
use Rattle.std.proofs.Common.{◌≡◌, ◌≢◌, ◌<◌, ◌≤◌, ◌+◌, ◌^◌, ◌⊎◌, inl, inr, ⊎_elim, ℕ, length, Bool, true, false, Option, Some, None, refl, sym, ap, ◌∙◌, subst, arith, rules}
use Rattle.std.proofs.lemmas.Bool.{cases_lt}
use Rattle.std.specs.Prelude.{IsSome}
use Rattle.vlt_core.specs.Maps.{HeldMap, IsBelow}
use Rattle.vlt_core.specs.Local.{Meets}
use Rattle.vlt_core.proofs.Maps.{map_refl, map_trans}
use Rattle.vlt_core_laws.proofs.Changes.{IsSameOn, IsGrownAt}
use Rattle.vlt_keyset.specs.Held.{Statuses, map_of, gap}
use Rattle.vlt_flow.specs.Walks.{map_in, notes_of, IsSameAt, IsGrownSlot, ForLoop, IsOther, IsFrame, IsLoop, HasRoom}
use Rattle.vlt_flow_maps.specs.Kept.{Marks, slot, Grown, IsInto}

nearer : (h k m : Statuses) → (k ≡ h) ⊎ (gap k < gap h) → (m ≡ k) ⊎ (gap m < gap k) → (m ≡ h) ⊎ (gap m < gap h)
nearer h k m (inl e) (inl f) = inl (f ∙ e)
nearer h k m (inl e) (inr y) = inr (subst (λ x. gap m < gap x) e y)
nearer h k m (inr x) (inl f) = inr (subst (λ y. gap y < gap h) (sym f) x)
nearer h k m (inr x) (inr y) = inr (omega arith)

pub grown_refl : (o : Option Statuses) → Grown o o
grown_refl None = tt
grown_refl (Some h) = (map_refl (map_of h), inl refl)

pub grown_trans : (o p q : Option Statuses) → Grown o p → Grown p q → Grown o q
grown_trans None p q x y = tt
grown_trans (Some h) None q x y = absurd x
grown_trans (Some h) (Some k) None x y = absurd y
grown_trans (Some h) (Some k) (Some m) x y = (map_trans (map_of h) (map_of k) (map_of m) x.0 y.0, nearer h k m x.1 y.1)

pub no_some : IsSome {T = Statuses} None → ⊥
no_some s = search rules

pub grown_below : (o p : Option Statuses) → IsSome o → Grown o p → IsBelow (map_in o) (map_in p)
grown_below None p s g = absurd (no_some s)
grown_below (Some h) None s g = absurd g
grown_below (Some h) (Some k) s g = g.0

pub grown_some : (o p : Option Statuses) → IsSome o → Grown o p → IsSome p
grown_some None p s g = absurd (no_some s)
grown_some (Some h) None s g = absurd g
grown_some (Some h) (Some k) s g = s

pub slot_refl : (i : ℕ) (x : Marks) → IsGrownSlot i x x
slot_refl i x = record { around = grown_refl (slot x.around i); following = grown_refl (slot x.following i) }

pub slot_trans : (i : ℕ) (x y z : Marks) → IsGrownSlot i x y → IsGrownSlot i y z → IsGrownSlot i x z
slot_trans i x y z p q = record { around = grown_trans _ _ _ p.around q.around; following = grown_trans _ _ _ p.following q.following }

pub same_trans : (i : ℕ) (x y z : Marks) → IsSameAt i x y → IsSameAt i y z → IsSameAt i x z
same_trans i x y z p q = record { around = q.around ∙ p.around; following = q.following ∙ p.following }

pub same_slot : (i : ℕ) (x y : Marks) → IsSameAt i x y → IsGrownSlot i x y
same_slot i x y p = record {
  around = subst (Grown (slot x.around i)) (sym p.around) (grown_refl (slot x.around i));
  following = subst (Grown (slot x.following i)) (sym p.following) (grown_refl (slot x.following i));
}

for_loop : (l : Option ℕ) (P Q : ℕ → Type 0) → ((i : ℕ) → P i → Q i) → ForLoop l P → ForLoop l Q
for_loop None P Q f p = tt
for_loop (Some i) P Q f p = f i p

for_any : (l : Option ℕ) (P : ℕ → Type 0) → ((i : ℕ) → P i) → ForLoop l P
for_any None P f = tt
for_any (Some i) P f = f i

for_both : (l : Option ℕ) (P Q R : ℕ → Type 0) → ((i : ℕ) → P i → Q i → R i) → ForLoop l P → ForLoop l Q → ForLoop l R
for_both None P Q R f p q = tt
for_both (Some i) P Q R f p q = f i p q

pub frame_refl : (l k : Option ℕ) (n m : ℕ) (x : Marks) → IsFrame l k n m x x
frame_refl l k n m x = record {
  long = refl;
  long_after = refl;
  before = λ i p q r. record { around = refl; following = refl };
  after = λ i p q r. record { around = refl; following = refl };
  loop = for_any l (λ i. IsGrownSlot i x x) (λ i. slot_refl i x);
  join = for_any k (λ i. IsGrownSlot i x x) (λ i. slot_refl i x);
}

pub frame_trans : (l k : Option ℕ) (n m : ℕ) (x y z : Marks) → IsFrame l k n m x y → IsFrame l k n m y z → IsFrame l k n m x z
frame_trans l k n m x y z p q = record {
  long = q.long ∙ p.long;
  long_after = q.long_after ∙ p.long_after;
  before = λ i a b c. same_trans i x y z (p.before i a b c) (q.before i a b c);
  after = λ i a b c. same_trans i x y z (p.after i a b c) (q.after i a b c);
  loop = for_both l (λ i. IsGrownSlot i x y) (λ i. IsGrownSlot i y z) (λ i. IsGrownSlot i x z) (λ i a b. slot_trans i x y z a b) p.loop q.loop;
  join = for_both k (λ i. IsGrownSlot i x y) (λ i. IsGrownSlot i y z) (λ i. IsGrownSlot i x z) (λ i a b. slot_trans i x y z a b) p.join q.join;
}

pub frame_wider : (l k : Option ℕ) (n m n' m' : ℕ) (x y : Marks) → n' ≤ n → m ≤ m' → IsFrame l k n m x y → IsFrame l k n' m' x y
frame_wider l k n m n' m' x y a b p = record {
  long = p.long;
  long_after = p.long_after;
  before = λ i u v w. p.before i (omega arith) v w;
  after = λ i u v w. p.after i (omega arith) v w;
  loop = p.loop;
  join = p.join;
}

-- the choice is one of the statements
pub frame_choice : (l : Option ℕ) (k n m n' : ℕ) (x y : Marks) → n' ≤ n → n' ≤ k → k < m → IsFrame l (Some k) n m x y → IsFrame l None n' m x y
frame_choice l k n m n' x y a b c p = record {
  long = p.long;
  long_after = p.long_after;
  before = λ i u v w. p.before i (omega arith) v (omega arith);
  after = λ i u v w. p.after i u v (omega arith);
  loop = p.loop;
  join = tt;
}

elsewhere : (k n m j : ℕ) (x y : Marks) → IsFrame (Some k) None n m x y → j ≢ k → (n ≤ j → j < m → ⊥) → IsGrownSlot j x y
elsewhere k n m j x y p o f = ⊎_elim
    (λ lt. same_slot j x y (p.before j lt o tt))
    (λ ge. ⊎_elim (λ lt. absurd (f ge lt)) (λ past. same_slot j x y (p.after j past o tt)) (cases_lt j m))
    (cases_lt j n)

-- the loop is one of the statements
pub frame_loop : (l : Option ℕ) (k n m n' : ℕ) (x y : Marks) → n' ≤ n → n' ≤ k → k < m → ((i : ℕ) → n' ≤ i → i < m → IsOther i l) → IsFrame (Some k) None n m x y → IsFrame l None n' m x y
frame_loop l k n m n' x y a b c apart p = record {
  long = p.long;
  long_after = p.long_after;
  before = λ i u v w. p.before i (omega arith) (omega arith) tt;
  after = λ i u v w. p.after i u (omega arith) tt;
  loop = at_loop l apart;
  join = tt;
}
  where
    at_loop : (l : Option ℕ) → ((i : ℕ) → n' ≤ i → i < m → IsOther i l) → ForLoop l (λ i. IsGrownSlot i x y)
    at_loop None f = tt
    at_loop (Some j) f = elsewhere k n m j x y p (λ e. f k b c (sym e)) (λ u v. f j (omega arith) v refl)

-- the annotations of both agree on the statements that are before or after
pub frame_before : (l k : Option ℕ) (n m a b : ℕ) (x y : Marks) → IsFrame l k n m x y → b ≤ n → ((i : ℕ) → a ≤ i → i < b → IsOther i l) → ((i : ℕ) → a ≤ i → i < b → IsOther i k) → IsSameOn (notes_of x) (notes_of y) a b
frame_before l k n m a b x y f le p q = record {
  around = λ i u v. ap map_in (sym (f.before i (omega arith) (p i u v) (q i u v)).around);
  following = λ i u v. ap map_in (sym (f.before i (omega arith) (p i u v) (q i u v)).following);
}

-- what met the loop's maps still does
pub frame_meets : (l k : Option ℕ) (n m : ℕ) (x y : Marks) → IsFrame l k n m x y → ForLoop l (IsLoop x) → IsGrownAt (notes_of x) (notes_of y) l
frame_meets None k n m x y f room = record { each = λ c h p. p }
frame_meets (Some i) k n m x y f room = record { each = one }
  where
    one : (c : Bool) (h : HeldMap) → Meets (notes_of x) (Some i) c h → Meets (notes_of y) (Some i) c h
    one true h p = map_trans h _ _ p (grown_below _ _ room.around f.loop.around)
    one false h p = map_trans h _ _ p (grown_below _ _ room.following f.loop.following)

pub loop_frame : (l k : Option ℕ) (n m : ℕ) (x y : Marks) → IsFrame l k n m x y → ForLoop l (IsLoop x) → ForLoop l (IsLoop y)
loop_frame None k n m x y f room = tt
loop_frame (Some i) k n m x y f room = record {
  within = subst (λ w. i < w) (sym f.long) room.within;
  around = grown_some _ _ room.around f.loop.around;
  following = grown_some _ _ room.following f.loop.following;
}

pub room_frame : (l k : Option ℕ) (n m n' m' : ℕ) (x y : Marks) → HasRoom x l n m → IsFrame l k n' m' x y → HasRoom y l n m
room_frame l k n m n' m' x y r f = record {
  long = f.long_after ∙ r.long ∙ sym f.long;
  few = subst (λ w. w < 2 ^ 62) (sym f.long) r.few;
  loop = loop_frame l k n' m' x y f r.loop;
  fits = subst (λ w. m ≤ w) (sym f.long) r.fits;
  apart = r.apart;
}

pub room_part : (l : Option ℕ) (n m n' m' : ℕ) (x : Marks) → HasRoom x l n m → n ≤ n' → m' ≤ m → HasRoom x l n' m'
room_part l n m n' m' x r a b = record {
  long = r.long;
  few = r.few;
  loop = r.loop;
  fits = omega (arith, r.fits);
  apart = λ i u v. r.apart i (omega arith) (omega arith);
}

pub room_loop : (n m : ℕ) (x : Marks) → HasRoom x None (n + 1) m → n + 1 ≤ m → IsSome (slot x.around n) → IsSome (slot x.following n) → HasRoom x (Some n) (n + 1) m
room_loop n m x r le a b = record {
  long = r.long;
  few = r.few;
  loop = record { within = omega (arith, r.fits); around = a; following = b };
  fits = r.fits;
  apart = λ i u v. omega arith;
}

pub room_none : (l : Option ℕ) (n m : ℕ) (x : Marks) → HasRoom x l n m → HasRoom x None n m
room_none l n m x r = record { long = r.long; few = r.few; loop = tt; fits = r.fits; apart = λ i u v. tt }

-- a map is joined into one place
pub record IsPutAround (i : ℕ) (h : Statuses) (x y : Marks) : Type 0 where
  pub long : length y.around ≡ length x.around
  pub into : IsInto (slot x.around i) h (slot y.around i)
  pub others : (j : ℕ) → j ≢ i → slot y.around j ≡ slot x.around j
  pub following : y.following ≡ x.following

pub record IsPutAfter (i : ℕ) (h : Statuses) (x y : Marks) : Type 0 where
  pub long : length y.following ≡ length x.following
  pub into : IsInto (slot x.following i) h (slot y.following i)
  pub others : (j : ℕ) → j ≢ i → slot y.following j ≡ slot x.following j
  pub around : y.around ≡ x.around

pub put_around_slot : (i : ℕ) (h : Statuses) (x y : Marks) → IsPutAround i h x y → IsGrownSlot i x y
put_around_slot i h x y p = record { around = p.into.grown; following = subst (λ b. Grown (slot x.following i) (slot b i)) (sym p.following) (grown_refl (slot x.following i)) }

pub put_after_slot : (i : ℕ) (h : Statuses) (x y : Marks) → IsPutAfter i h x y → IsGrownSlot i x y
put_after_slot i h x y p = record { following = p.into.grown; around = subst (λ b. Grown (slot x.around i) (slot b i)) (sym p.around) (grown_refl (slot x.around i)) }

around_same : (i j : ℕ) (h : Statuses) (x y : Marks) → IsPutAround i h x y → j ≢ i → IsSameAt j x y
around_same i j h x y p o = record { around = p.others j o; following = ap (λ b. slot b j) p.following }

after_same : (i j : ℕ) (h : Statuses) (x y : Marks) → IsPutAfter i h x y → j ≢ i → IsSameAt j x y
after_same i j h x y p o = record { following = p.others j o; around = ap (λ b. slot b j) p.around }

pub put_around_frame : (i n m : ℕ) (h : Statuses) (x y : Marks) → IsPutAround i h x y → IsFrame (Some i) None n m x y
put_around_frame i n m h x y p = record {
  long = p.long;
  long_after = ap length p.following;
  before = λ j u v w. around_same i j h x y p v;
  after = λ j u v w. around_same i j h x y p v;
  loop = put_around_slot i h x y p;
  join = tt;
}

pub put_after_frame : (i n m : ℕ) (h : Statuses) (x y : Marks) → IsPutAfter i h x y → IsFrame (Some i) None n m x y
put_after_frame i n m h x y p = record {
  long_after = p.long;
  long = ap length p.around;
  before = λ j u v w. after_same i j h x y p v;
  after = λ j u v w. after_same i j h x y p v;
  loop = put_after_slot i h x y p;
  join = tt;
}

slot_elsewhere : (l : Option ℕ) (k : ℕ) (x y : Marks) → ((j : ℕ) → j ≢ k → IsSameAt j x y) → IsOther k l → ForLoop l (λ i. IsGrownSlot i x y)
slot_elsewhere None k x y f o = tt
slot_elsewhere (Some i) k x y f o = same_slot i x y (f i (λ e. o (sym e)))

-- joined after a choice
pub put_choice_frame : (l : Option ℕ) (k n m : ℕ) (h : Statuses) (x y : Marks) → IsOther k l → IsPutAfter k h x y → IsFrame l (Some k) n m x y
put_choice_frame l k n m h x y o p = record {
  long_after = p.long;
  long = ap length p.around;
  before = λ j u v w. after_same k j h x y p w;
  after = λ j u v w. after_same k j h x y p w;
  loop = slot_elsewhere l k x y (λ j e. after_same k j h x y p e) o;
  join = put_after_slot k h x y p;
}

pub frame_also : (l : Option ℕ) (k n m : ℕ) (x y : Marks) → k < n → IsOther k l → IsFrame l None n m x y → IsFrame l (Some k) n m x y
frame_also l k n m x y lt o f = record {
  long = f.long;
  long_after = f.long_after;
  before = λ i u v w. f.before i u v tt;
  after = λ i u v w. f.after i u v tt;
  loop = f.loop;
  join = same_slot k x y (f.before k lt o tt);
}

-- room for the body of the loop n
pub room_put : (l : Option ℕ) (n k : ℕ) (h : Statuses) (x y : Marks) → HasRoom x l n (n + (1 + k)) → IsPutAround n h x y → HasRoom y None (n + 1) (n + 1 + k)
room_put l n k h x y r p = record {
  long = ap length p.following ∙ r.long ∙ sym p.long;
  few = subst (λ w. w < 2 ^ 62) (sym p.long) r.few;
  loop = tt;
  fits = subst (λ w. n + 1 + k ≤ w) (sym p.long) (omega (arith, r.fits));
  apart = λ i u v. tt;
}
