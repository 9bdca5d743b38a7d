-- What is written for a part is read as that part, and what is read was written so.
use Rattle.std.proofs.Common.{◌≡◌, ◌≤◌, inl, inr, refl, sym, ap, ◌∙◌, subst, ℕ, pos, negsuc, ◌==◌, Bool, true, false, if◌then◌else◌, List, [], ◌∷◌, map, Option, Some, None, option_map, option_and_then, IfSome, rules, arith}
use Rattle.std.proofs.lemmas.Bool.{le-leb}
use Rattle.std.proofs.lemmas.Bool.Decides.{leb_tells}
use Rattle.serde_json.specs.Data.{Data, null, boolean, number, string, array, object, unsigned, negative, float, Items, no_items, item}
use Rattle.serde_json.specs.View.{items_of}
use Rattle.cert_rows.specs.Laws.{Reads, IsPart, AreFields}
use Rattle.cert_rows.specs.Parts.{Part, Fields, nat, list, list_in, at_most, nat_in, array_in, number_to, text, each_in, All, several, if_so, with_test, standing_for, one_in, two_in, three_in, four_in, five_in, seven_in, single, both_of, pair, three_of, triple, four_of, quadruple, five_of, quintuple, seven_of, septuple, fields_for, fields_with_test, tuple, is_number, zero_or, is_signed, minus_in, minus_or}

-- ---- options

pub and_then_in : {A B : Type 0} (P : A → Type 0) (Q : B → Type 0) (f : A → Option B) (o : Option A) → IfSome o P →
    ((a : A) → P a → IfSome (f a) Q) → IfSome (option_and_then f o) Q
and_then_in P Q f None h k = tt
and_then_in P Q f (Some a) h k = k a h

pub map_on : {A B : Type 0} (P : A → Type 0) (Q : B → Type 0) (f : A → B) (o : Option A) → IfSome o P →
    ((a : A) → P a → Q (f a)) → IfSome (option_map f o) Q
map_on P Q f None h k = tt
map_on P Q f (Some a) h k = k a h

pub weaker : {A : Type 0} (P Q : A → Type 0) (o : Option A) → ((a : A) → P a → Q a) → IfSome o P → IfSome o Q
weaker P Q None k h = tt
weaker P Q (Some a) k h = k a h

-- ---- numbers, texts, lists

tested_nat : (top n : ℕ) → IfSome (at_most top (Some n)) (λ m. (n ≡ m) × (m ≤ top))
tested_nat top n = elim (leb_tells n top) [
  | inl h ↦ subst
      (λ (b : Bool). IfSome (if b then Some n else None) (λ m. (n ≡ m) × (m ≤ top))) (sym h.0) (refl, h.1)
  | inr h ↦
      subst (λ (b : Bool). IfSome (if b then Some n else None) (λ m. (n ≡ m) × (m ≤ top))) (sym h.0) tt
]

pub number_to_part : (top : ℕ) → IsPart (number_to top)
number_to_part top = record { back = λ n h. rw (le-leb n top h) refl; reads = reads }
  where
    reads : (d : Data) → Reads (number_to top) d
    reads null = tt
    reads (boolean b) = tt
    reads (number (unsigned n)) = weaker (λ m. (n ≡ m) × (m ≤ top)) (λ m. (number (unsigned n) ≡ nat m) × (m ≤ top))
        (at_most top (Some n)) (λ m h. (ap nat h.0, h.1)) (tested_nat top n)
    reads (number (negative z)) = tt
    reads (number (float x)) = tt
    reads (string t) = tt
    reads (array ds) = tt
    reads (object ms) = tt

pub text_part : IsPart text
text_part = record { back = λ s h. refl; reads = reads }
  where
    reads : (d : Data) → Reads text d
    reads null = tt
    reads (boolean b) = tt
    reads (number n) = tt
    reads (string t) = (refl, tt)
    reads (array ds) = tt
    reads (object ms) = tt

pub list_in_back : (ds : List Data) → list_in (items_of ds) ≡ ds
list_in_back [] = refl
list_in_back (d ∷ ds) = ap (λ x. d ∷ x) (list_in_back ds)

items_back : (ds : Items) → items_of (list_in ds) ≡ ds
items_back no_items = refl
items_back (item d ds) = ap (item d) (items_back ds)

pub array_read : (d : Data) → IfSome (array_in d) (λ ds. d ≡ list ds)
array_read null = tt
array_read (boolean b) = tt
array_read (number n) = tt
array_read (string t) = tt
array_read (array ds) = ap array (sym (items_back ds))
array_read (object ms) = tt

module _ {A : Type 0} (p : Part A) (law : IsPart p) where
  each_back : (xs : List A) → All p.Fits xs → each_in p.of_data (map p.data_of xs) ≡ Some xs
  each_back [] h = refl
  each_back (a ∷ rest) h = rw (law.back a h.0, each_back rest h.1) refl

  each_read : (ds : List Data) → IfSome (each_in p.of_data ds) (λ xs. (ds ≡ map p.data_of xs) × All p.Fits xs)
  each_read [] = (refl, tt)
  each_read (d ∷ ds) =
      and_then_in (λ a. (d ≡ p.data_of a) × p.Fits a) (λ xs. (d ∷ ds ≡ map p.data_of xs) × All p.Fits xs) _ (p.of_data d) (law.reads d)
      (λ a h. map_on (λ xs. (ds ≡ map p.data_of xs) × All p.Fits xs) (λ xs. (d ∷ ds ≡ map p.data_of xs) × All p.Fits xs)
      (λ rest. a ∷ rest) (each_in p.of_data ds) (each_read ds)
      (λ xs k. (rw (h.0, k.0) refl, (h.1, k.1))))

  pub several_part : IsPart (several p)
  several_part = record {
    back = λ xs h. rw (list_in_back (map p.data_of xs)) (each_back xs h);
    reads = λ d. and_then_in (λ ds. d ≡ list ds) (λ xs. (d ≡ list (map p.data_of xs)) × All p.Fits xs) (each_in p.of_data) (array_in d) (array_read d)
        (λ ds is. weaker (λ xs. (ds ≡ map p.data_of xs) × All p.Fits xs) (λ xs. (d ≡ list (map p.data_of xs)) × All p.Fits xs)
        (each_in p.of_data ds) (λ xs h. (is ∙ ap list h.0, h.1)) (each_read ds));
  }

  pub with_test_part : (test : A → Bool) → IsPart (with_test test p)
  with_test_part test = record {
    back = λ a h. rw (law.back a h.0, h.1) refl;
    reads = λ d. and_then_in (λ a. (d ≡ p.data_of a) × p.Fits a) (λ a. (d ≡ p.data_of a) × (p.Fits a × (test a ≡ true)))
        (if_so test) (p.of_data d) (law.reads d)
        (λ a h. by d a h (test a) refl);
  }
    where
      by : (d : Data) (a : A) → (d ≡ p.data_of a) × p.Fits a → (b : Bool) → test a ≡ b →
          IfSome (if b then Some a else None) (λ a. (d ≡ p.data_of a) × (p.Fits a × (test a ≡ true)))
      by d a h true is = (h.0, (h.1, is))
      by d a h false is = tt

module _ {A B : Type 0} (to : A → B) (from : B → A) (p : Part A) (law : IsPart p) (same : (a : A) → p.Fits a → from (to a) ≡ a) where
  pub standing_part : IsPart (standing_for to from p)
  standing_part = record {
    back = λ b h. rw (law.back (from b) h.0) (ap Some h.1);
    reads = λ d. map_on (λ a. (d ≡ p.data_of a) × p.Fits a) (λ b. (d ≡ p.data_of (from b)) ×
        (p.Fits (from b) × (to (from b) ≡ b))) to (p.of_data d) (law.reads d)
        (λ a h. (h.0 ∙ ap p.data_of (sym (same a h.1)), (subst p.Fits (sym (same a h.1)) h.1, ap to (same a h.1))));
  }

-- ---- fields

one_read : (ds : List Data) → IfSome (one_in ds) (λ x. ds ≡ x ∷ [])
one_read [] = tt
one_read (a ∷ []) = refl
one_read (a ∷ b ∷ ds) = tt

two_read : (ds : List Data) → IfSome (two_in ds) (λ q. ds ≡ q.0 ∷ q.1 ∷ [])
two_read [] = tt
two_read (a0 ∷ []) = tt
two_read (a0 ∷ a1 ∷ []) = refl
two_read (a0 ∷ a1 ∷ a2 ∷ ds) = tt

three_read : (ds : List Data) → IfSome (three_in ds) (λ q. ds ≡ q.0 ∷ q.1 ∷ q.2 ∷ [])
three_read [] = tt
three_read (a0 ∷ []) = tt
three_read (a0 ∷ a1 ∷ []) = tt
three_read (a0 ∷ a1 ∷ a2 ∷ []) = refl
three_read (a0 ∷ a1 ∷ a2 ∷ a3 ∷ ds) = tt

four_read : (ds : List Data) → IfSome (four_in ds) (λ q. ds ≡ q.0 ∷ q.1 ∷ q.2 ∷ q.3 ∷ [])
four_read [] = tt
four_read (a0 ∷ []) = tt
four_read (a0 ∷ a1 ∷ []) = tt
four_read (a0 ∷ a1 ∷ a2 ∷ []) = tt
four_read (a0 ∷ a1 ∷ a2 ∷ a3 ∷ []) = refl
four_read (a0 ∷ a1 ∷ a2 ∷ a3 ∷ a4 ∷ ds) = tt

five_read : (ds : List Data) → IfSome (five_in ds) (λ q. ds ≡ q.0 ∷ q.1 ∷ q.2 ∷ q.3 ∷ q.4 ∷ [])
five_read [] = tt
five_read (a0 ∷ []) = tt
five_read (a0 ∷ a1 ∷ []) = tt
five_read (a0 ∷ a1 ∷ a2 ∷ []) = tt
five_read (a0 ∷ a1 ∷ a2 ∷ a3 ∷ []) = tt
five_read (a0 ∷ a1 ∷ a2 ∷ a3 ∷ a4 ∷ []) = refl
five_read (a0 ∷ a1 ∷ a2 ∷ a3 ∷ a4 ∷ a5 ∷ ds) = tt

seven_read : (ds : List Data) → IfSome (seven_in ds) (λ q. ds ≡ q.0 ∷ q.1 ∷ q.2 ∷ q.3 ∷ q.4 ∷ q.5 ∷ q.6 ∷ [])
seven_read [] = tt
seven_read (a0 ∷ []) = tt
seven_read (a0 ∷ a1 ∷ []) = tt
seven_read (a0 ∷ a1 ∷ a2 ∷ []) = tt
seven_read (a0 ∷ a1 ∷ a2 ∷ a3 ∷ []) = tt
seven_read (a0 ∷ a1 ∷ a2 ∷ a3 ∷ a4 ∷ []) = tt
seven_read (a0 ∷ a1 ∷ a2 ∷ a3 ∷ a4 ∷ a5 ∷ []) = tt
seven_read (a0 ∷ a1 ∷ a2 ∷ a3 ∷ a4 ∷ a5 ∷ a6 ∷ []) = refl
seven_read (a0 ∷ a1 ∷ a2 ∷ a3 ∷ a4 ∷ a5 ∷ a6 ∷ a7 ∷ ds) = tt

module _ {A : Type 0} (a : Part A) (la : IsPart a) where
  pub single_fields : AreFields (single a)
  single_fields = record {
    back = λ x h. la.back x h;
    reads = λ ds. and_then_in (λ d. ds ≡ d ∷ []) (λ x. (ds ≡ a.data_of x ∷ []) × a.Fits x) a.of_data (one_in ds) (one_read ds)
        (λ d is. weaker (λ x. (d ≡ a.data_of x) × a.Fits x) (λ x. (ds ≡ a.data_of x ∷ []) × a.Fits x) (a.of_data d)
        (λ x h. (is ∙ ap (λ e. e ∷ []) h.0, h.1)) (la.reads d));
  }

module _ {A B : Type 0} (a : Part A) (b : Part B) (la : IsPart a) (lb : IsPart b) where
  abbrev goal_two : List Data → A × B → Type 0
  goal_two ds x = (ds ≡ a.data_of x.0 ∷ b.data_of x.1 ∷ []) × (pair a b).Fits x

  by_two : (ds : List Data) (o : Option (Data × Data)) → IfSome o (λ q. ds ≡ q.0 ∷ q.1 ∷ []) → IfSome (both_of a b o) (goal_two ds)
  by_two ds None is = tt
  by_two ds (Some q) is =
      and_then_in (λ x. (q.0 ≡ a.data_of x) × a.Fits x) (goal_two ds) _ (a.of_data q.0) (la.reads q.0)
      (λ x0 h0. map_on (λ x. (q.1 ≡ b.data_of x) × b.Fits x) (goal_two ds) (λ x. (x0, x)) (b.of_data q.1) (lb.reads q.1)
      (λ x1 h1. (is ∙ rw (h0.0, h1.0) refl, (h0.1, h1.1))))

  pub pair_fields : AreFields (pair a b)
  pair_fields = record {
    back = λ x h. rw (la.back x.0 h.0, lb.back x.1 h.1) refl;
    reads = λ ds. by_two ds (two_in ds) (two_read ds);
  }

module _ {A B C : Type 0} (a : Part A) (b : Part B) (c : Part C) (la : IsPart a) (lb : IsPart b) (lc : IsPart c) where
  abbrev goal_three : List Data → A × B × C → Type 0
  goal_three ds x = (ds ≡ a.data_of x.0 ∷ b.data_of x.1 ∷ c.data_of x.2 ∷ []) × (triple a b c).Fits x

  by_three : (ds : List Data) (o : Option (Data × Data × Data)) → IfSome o (λ q. ds ≡ q.0 ∷ q.1 ∷ q.2 ∷ []) →
      IfSome (three_of a b c o) (goal_three ds)
  by_three ds None is = tt
  by_three ds (Some q) is =
      and_then_in (λ x. (q.0 ≡ a.data_of x) × a.Fits x) (goal_three ds) _ (a.of_data q.0) (la.reads q.0)
      (λ x0 h0. and_then_in (λ x. (q.1 ≡ b.data_of x) × b.Fits x) (goal_three ds) _ (b.of_data q.1) (lb.reads q.1)
      (λ x1 h1. map_on (λ x. (q.2 ≡ c.data_of x) × c.Fits x) (goal_three ds) (λ x. (x0, x1, x)) (c.of_data q.2) (lc.reads q.2)
      (λ x2 h2. (is ∙ rw (h0.0, h1.0, h2.0) refl, (h0.1, h1.1, h2.1)))))

  pub triple_fields : AreFields (triple a b c)
  triple_fields = record {
    back = λ x h. rw (la.back x.0 h.0, lb.back x.1 h.1, lc.back x.2 h.2) refl;
    reads = λ ds. by_three ds (three_in ds) (three_read ds);
  }

module _ {A B C D : Type 0} (a : Part A) (b : Part B) (c : Part C) (d : Part D) (la : IsPart a) (lb : IsPart b) (lc : IsPart c) (ld : IsPart d) where
  abbrev goal_four : List Data → A × B × C × D → Type 0
  goal_four ds x = (ds ≡ a.data_of x.0 ∷ b.data_of x.1 ∷ c.data_of x.2 ∷ d.data_of x.3 ∷ []) × (quadruple a b c d).Fits x

  by_four : (ds : List Data) (o : Option (Data × Data × Data × Data)) → IfSome o (λ q. ds ≡ q.0 ∷ q.1 ∷ q.2 ∷ q.3 ∷ []) →
      IfSome (four_of a b c d o) (goal_four ds)
  by_four ds None is = tt
  by_four ds (Some q) is =
      and_then_in (λ x. (q.0 ≡ a.data_of x) × a.Fits x) (goal_four ds) _ (a.of_data q.0) (la.reads q.0)
      (λ x0 h0. and_then_in (λ x. (q.1 ≡ b.data_of x) × b.Fits x) (goal_four ds) _ (b.of_data q.1) (lb.reads q.1)
      (λ x1 h1. and_then_in (λ x. (q.2 ≡ c.data_of x) × c.Fits x) (goal_four ds) _ (c.of_data q.2) (lc.reads q.2)
      (λ x2 h2. map_on (λ x. (q.3 ≡ d.data_of x) × d.Fits x) (goal_four ds) (λ x. (x0, x1, x2, x)) (d.of_data q.3) (ld.reads q.3)
      (λ x3 h3. (is ∙ rw (h0.0, h1.0, h2.0, h3.0) refl, (h0.1, h1.1, h2.1, h3.1))))))

  pub quadruple_fields : AreFields (quadruple a b c d)
  quadruple_fields = record {
    back = λ x h. rw (la.back x.0 h.0, lb.back x.1 h.1, lc.back x.2 h.2, ld.back x.3 h.3) refl;
    reads = λ ds. by_four ds (four_in ds) (four_read ds);
  }

module _ {A B C D E : Type 0} (a : Part A) (b : Part B) (c : Part C) (d : Part D) (e : Part E) (la : IsPart a) (lb : IsPart b)
    (lc : IsPart c) (ld : IsPart d) (le : IsPart e) where
  abbrev goal_five : List Data → A × B × C × D × E → Type 0
  goal_five ds x = (ds ≡ a.data_of x.0 ∷ b.data_of x.1 ∷ c.data_of x.2 ∷ d.data_of x.3 ∷ e.data_of x.4 ∷ []) × (quintuple a b c d e).Fits x

  by_five : (ds : List Data) (o : Option (Data × Data × Data × Data × Data)) →
      IfSome o (λ q. ds ≡ q.0 ∷ q.1 ∷ q.2 ∷ q.3 ∷ q.4 ∷ []) → IfSome (five_of a b c d e o) (goal_five ds)
  by_five ds None is = tt
  by_five ds (Some q) is =
      and_then_in (λ x. (q.0 ≡ a.data_of x) × a.Fits x) (goal_five ds) _ (a.of_data q.0) (la.reads q.0)
      (λ x0 h0. and_then_in (λ x. (q.1 ≡ b.data_of x) × b.Fits x) (goal_five ds) _ (b.of_data q.1) (lb.reads q.1)
      (λ x1 h1. and_then_in (λ x. (q.2 ≡ c.data_of x) × c.Fits x) (goal_five ds) _ (c.of_data q.2) (lc.reads q.2)
      (λ x2 h2. and_then_in (λ x. (q.3 ≡ d.data_of x) × d.Fits x) (goal_five ds) _ (d.of_data q.3) (ld.reads q.3)
      (λ x3 h3. map_on (λ x. (q.4 ≡ e.data_of x) × e.Fits x) (goal_five ds) (λ x. (x0, x1, x2, x3, x)) (e.of_data q.4) (le.reads q.4)
      (λ x4 h4. (is ∙ rw (h0.0, h1.0, h2.0, h3.0, h4.0) refl, (h0.1, h1.1, h2.1, h3.1, h4.1)))))))

  pub quintuple_fields : AreFields (quintuple a b c d e)
  quintuple_fields = record {
    back = λ x h. rw (la.back x.0 h.0, lb.back x.1 h.1, lc.back x.2 h.2, ld.back x.3 h.3, le.back x.4 h.4) refl;
    reads = λ ds. by_five ds (five_in ds) (five_read ds);
  }

module _ {A B C D E F G : Type 0} (a : Part A) (b : Part B) (c : Part C) (d : Part D) (e : Part E) (f : Part F) (g : Part G)
    (la : IsPart a) (lb : IsPart b) (lc : IsPart c) (ld : IsPart d) (le : IsPart e) (lf : IsPart f) (lg : IsPart g) where
  abbrev goal_seven : List Data → A × B × C × D × E × F × G → Type 0
  goal_seven ds x = (ds ≡ a.data_of x.0 ∷ b.data_of x.1 ∷ c.data_of x.2 ∷ d.data_of x.3 ∷ e.data_of x.4 ∷ f.data_of x.5 ∷
      g.data_of x.6 ∷ []) × (septuple a b c d e f g).Fits x

  by_seven : (ds : List Data) (o : Option (Data × Data × Data × Data × Data × Data × Data)) →
      IfSome o (λ q. ds ≡ q.0 ∷ q.1 ∷ q.2 ∷ q.3 ∷ q.4 ∷ q.5 ∷ q.6 ∷ []) → IfSome (seven_of a b c d e f g o) (goal_seven ds)
  by_seven ds None is = tt
  by_seven ds (Some q) is =
      and_then_in (λ x. (q.0 ≡ a.data_of x) × a.Fits x) (goal_seven ds) _ (a.of_data q.0) (la.reads q.0)
      (λ x0 h0. and_then_in (λ x. (q.1 ≡ b.data_of x) × b.Fits x) (goal_seven ds) _ (b.of_data q.1) (lb.reads q.1)
      (λ x1 h1. and_then_in (λ x. (q.2 ≡ c.data_of x) × c.Fits x) (goal_seven ds) _ (c.of_data q.2) (lc.reads q.2)
      (λ x2 h2. and_then_in (λ x. (q.3 ≡ d.data_of x) × d.Fits x) (goal_seven ds) _ (d.of_data q.3) (ld.reads q.3)
      (λ x3 h3. and_then_in (λ x. (q.4 ≡ e.data_of x) × e.Fits x) (goal_seven ds) _ (e.of_data q.4) (le.reads q.4)
      (λ x4 h4. and_then_in (λ x. (q.5 ≡ f.data_of x) × f.Fits x) (goal_seven ds) _ (f.of_data q.5) (lf.reads q.5)
      (λ x5 h5. map_on (λ x. (q.6 ≡ g.data_of x) × g.Fits x) (goal_seven ds) (λ x. (x0, x1, x2, x3, x4, x5, x)) (g.of_data q.6) (lg.reads q.6)
      (λ x6 h6. (is ∙ rw (h0.0, h1.0, h2.0, h3.0, h4.0, h5.0, h6.0) refl, (h0.1, h1.1, h2.1, h3.1, h4.1, h5.1, h6.1)))))))))

  pub septuple_fields : AreFields (septuple a b c d e f g)
  septuple_fields = record {
    back = λ x h. rw (la.back x.0 h.0, lb.back x.1 h.1, lc.back x.2 h.2, ld.back x.3 h.3, le.back x.4 h.4, lf.back x.5 h.5, lg.back x.6 h.6) refl;
    reads = λ ds. by_seven ds (seven_in ds) (seven_read ds);
  }

module _ {A B : Type 0} (to : A → B) (from : B → A) (f : Fields A) (law : AreFields f) (same : (a : A) → f.Fits a → from (to a) ≡ a) where
  pub fields_for_law : AreFields (fields_for to from f)
  fields_for_law = record {
    back = λ b h. rw (law.back (from b) h.0) (ap Some h.1);
    reads = λ ds. map_on (λ a. (ds ≡ f.items a) × f.Fits a) (λ b. (ds ≡ f.items (from b)) ×
        (f.Fits (from b) × (to (from b) ≡ b))) to (f.of_items ds) (law.reads ds)
        (λ a h. (h.0 ∙ ap f.items (sym (same a h.1)), (subst f.Fits (sym (same a h.1)) h.1, ap to (same a h.1))));
  }

module _ {A : Type 0} (test : A → Bool) (f : Fields A) (law : AreFields f) where
  pub fields_with_test_law : AreFields (fields_with_test test f)
  fields_with_test_law = record {
    back = λ a h. rw (law.back a h.0, h.1) refl;
    reads = λ ds. and_then_in (λ a. (ds ≡ f.items a) × f.Fits a) (λ a. (ds ≡ f.items a) × (f.Fits a × (test a ≡ true)))
        (if_so test) (f.of_items ds) (law.reads ds)
        (λ a h. by ds a h (test a) refl);
  }
    where
      by : (ds : List Data) (a : A) → (ds ≡ f.items a) × f.Fits a → (b : Bool) → test a ≡ b →
          IfSome (if b then Some a else None) (λ a. (ds ≡ f.items a) × (f.Fits a × (test a ≡ true)))
      by ds a h true is = (h.0, (h.1, is))
      by ds a h false is = tt

module _ {A : Type 0} (f : Fields A) (law : AreFields f) where
  pub tuple_part : IsPart (tuple f)
  tuple_part = record {
    back = λ x h. rw (list_in_back (f.items x)) (law.back x h);
    reads = λ d. and_then_in (λ ds. d ≡ list ds) (λ x. (d ≡ list (f.items x)) × f.Fits x) f.of_items (array_in d) (array_read d)
        (λ ds is. weaker (λ x. (ds ≡ f.items x) × f.Fits x) (λ x. (d ≡ list (f.items x)) × f.Fits x) (f.of_items ds)
        (λ x h. (is ∙ ap list h.0, h.1)) (law.reads ds));
  }

-- ---- 0 or -1 in the place of a part

zero_read : (d : Data) → IfSome (nat_in 0 d) (λ n. d ≡ nat 0)
zero_read d = weaker (λ n. (d ≡ nat n) × (n ≤ 0)) (λ n. d ≡ nat 0) (nat_in 0 d) (λ n h. h.0 ∙ ap nat (none n h.1)) ((number_to_part 0).reads d)
  where
    none : (n : ℕ) → n ≤ 0 → n ≡ 0
    none n h = omega arith

module _ {A : Type 0} (p : Part A) (law : IsPart p) where
  pub zero_part : IsPart (zero_or p)
  zero_part = record { back = back; reads = λ d. by d (is_number d) refl }
    where
      back : (o : Option A) → (zero_or p).Fits o → (zero_or p).of_data ((zero_or p).data_of o) ≡ Some o
      back None h = refl
      back (Some a) h = rw (h.1, law.back a h.0) refl

      by : (d : Data) (b : Bool) → is_number d ≡ b → IfSome (if b then option_map (λ z. None) (nat_in 0 d)
          else option_map Some (p.of_data d)) (λ o. (d ≡ (zero_or p).data_of o) × (zero_or p).Fits o)
      by d true is = map_on (λ n. d ≡ nat 0) (λ o. (d ≡ (zero_or p).data_of o) × (zero_or p).Fits o) (λ z. None) (nat_in 0 d)
          (zero_read d) (λ n h. (h, tt))
      by d false is = map_on (λ a. (d ≡ p.data_of a) × p.Fits a) (λ o. (d ≡ (zero_or p).data_of o) × (zero_or p).Fits o) Some
          (p.of_data d) (law.reads d)
          (λ a h. (h.0, (h.1, ap is_number (sym h.0) ∙ is)))

  pub minus_part : IsPart (minus_or p)
  minus_part = record { back = back; reads = λ d. by d (is_signed d) refl }
    where
      back : (o : Option A) → (minus_or p).Fits o → (minus_or p).of_data ((minus_or p).data_of o) ≡ Some o
      back None h = refl
      back (Some a) h = rw (h.1, law.back a h.0) refl

      one : (n : ℕ) (b : Bool) → (n == 0) ≡ b → IfSome (let o : Option (Option A) = if b then Some None else None in o)
          (λ o. (number (negative (negsuc n)) ≡ (minus_or p).data_of o) × (minus_or p).Fits o)
      one n true is = (ap (λ m. number (negative (negsuc m))) (search rules), tt)
      one n false is = tt

      minus : (d : Data) → IfSome (minus_in {A = A} d) (λ o. (d ≡ (minus_or p).data_of o) × (minus_or p).Fits o)
      minus null = tt
      minus (boolean b) = tt
      minus (number (unsigned n)) = tt
      minus (number (negative (pos n))) = tt
      minus (number (negative (negsuc n))) = one n (n == 0) refl
      minus (number (float x)) = tt
      minus (string t) = tt
      minus (array ds) = tt
      minus (object ms) = tt

      by : (d : Data) (b : Bool) → is_signed d ≡ b → IfSome (if b then minus_in d else option_map Some (p.of_data d))
          (λ o. (d ≡ (minus_or p).data_of o) × (minus_or p).Fits o)
      by d true is = minus d
      by d false is = map_on (λ a. (d ≡ p.data_of a) × p.Fits a) (λ o. (d ≡ (minus_or p).data_of o) × (minus_or p).Fits o) Some
          (p.of_data d) (law.reads d)
          (λ a h. (h.0, (h.1, ap is_signed (sym h.0) ∙ is)))
