-- How a part of a row is written as JSON, what it is read of, and which values fit: so the form of
-- a row is a line of a table, for both directions.
use Rattle.std.specs.Prelude.{◌≡◌, ◌≤◌, ℕ, negsuc, nat_le, ◌==◌, Bool, true, false, if◌then◌else◌, List, [], ◌∷◌, map, length, Option, Some, None, option_map, option_and_then}
use Rattle.serde_json.specs.Data.{Data, number, string, array, unsigned, negative, Items, no_items, item}
use Rattle.serde_json.specs.Find.{as_number, as_u64, as_str, as_array}
use Rattle.serde_json.specs.View.{items_of}

-- Of a value what is written for it, and of a value of JSON what is read of it, if anything.
pub record Part (A : Type 0) : Type 1 where
  pub data_of : A → Data
  pub of_data : Data → Option A
  pub Fits : A → Type 0

-- ---- numbers, texts and lists

abbrev pub nat : ℕ → Data
nat n = number (unsigned n)

abbrev pub list : List Data → Data
list ds = array (items_of ds)

abbrev pub list_in : Items → List Data
list_in no_items = []
list_in (item d ds) = d ∷ list_in ds

-- the number, unless it is above the first one
abbrev pub at_most : ℕ → Option ℕ → Option ℕ
at_most top None = None
at_most top (Some n) = if nat_le n top then Some n else None

abbrev pub nat_in : ℕ → Data → Option ℕ
nat_in top d = at_most top (option_and_then as_u64 (as_number d))

abbrev pub array_in : Data → Option (List Data)
array_in d = option_map list_in (as_array d)

-- a number up to this one
abbrev pub number_to : (top : ℕ) → Part ℕ
number_to top = record { data_of = nat; of_data = nat_in top; Fits = λ n. n ≤ top }

abbrev pub text : Part (List ℕ)
text = record { data_of = string; of_data = as_str; Fits = λ s. Unit {0} }

abbrev pub each_in : {A : Type 0} → (Data → Option A) → List Data → Option (List A)
each_in f [] = Some []
each_in f (d ∷ ds) = option_and_then (λ a. option_map (λ rest. a ∷ rest) (each_in f ds)) (f d)

abbrev pub All : {A : Type 0} → (A → Type 0) → List A → Type 0
All P [] = Unit {0}
All P (a ∷ rest) = P a × All P rest

abbrev pub several : {A : Type 0} → Part A → Part (List A)
several p = record {
  data_of = λ xs. list (map p.data_of xs);
  of_data = λ d. option_and_then (each_in p.of_data) (array_in d);
  Fits = All p.Fits;
}

-- ---- parts that pass a test, or that stand for other values

abbrev pub if_so : {A : Type 0} → (A → Bool) → A → Option A
if_so test a = if test a then Some a else None

abbrev pub with_test : {A : Type 0} → (A → Bool) → Part A → Part A
with_test test p = record {
  data_of = p.data_of;
  of_data = λ d. option_and_then (if_so test) (p.of_data d);
  Fits = λ a. p.Fits a × (test a ≡ true);
}

abbrev pub standing_for : {A B : Type 0} → (A → B) → (B → A) → Part A → Part B
standing_for to from p = record {
  data_of = λ b. p.data_of (from b);
  of_data = λ d. option_map to (p.of_data d);
  Fits = λ b. p.Fits (from b) × (to (from b) ≡ b);
}

-- at most so many
abbrev pub few : {A : Type 0} → (most : ℕ) → Part A → Part (List A)
few most p = with_test (λ xs. nat_le (length xs) most) (several p)

-- ---- exactly so many items

abbrev pub one_in : List Data → Option Data
one_in (a ∷ []) = Some a
one_in _ = None

abbrev pub two_in : List Data → Option (Data × Data)
two_in (a ∷ b ∷ []) = Some (a, b)
two_in _ = None

abbrev pub three_in : List Data → Option (Data × Data × Data)
three_in (a ∷ b ∷ c ∷ []) = Some (a, b, c)
three_in _ = None

abbrev pub four_in : List Data → Option (Data × Data × Data × Data)
four_in (a ∷ b ∷ c ∷ d ∷ []) = Some (a, b, c, d)
four_in _ = None

abbrev pub five_in : List Data → Option (Data × Data × Data × Data × Data)
five_in (a ∷ b ∷ c ∷ d ∷ e ∷ []) = Some (a, b, c, d, e)
five_in _ = None

abbrev pub seven_in : List Data → Option (Data × Data × Data × Data × Data × Data × Data)
seven_in (a ∷ b ∷ c ∷ d ∷ e ∷ f ∷ g ∷ []) = Some (a, b, c, d, e, f, g)
seven_in _ = None

-- Fields one after another: their items, what they are read of, and which fit.
pub record Fields (A : Type 0) : Type 1 where
  pub items : A → List Data
  pub of_items : List Data → Option A
  pub Fits : A → Type 0

abbrev pub single : {A : Type 0} → Part A → Fields A
single a = record {
  items = λ x. a.data_of x ∷ [];
  of_items = λ ds. option_and_then a.of_data (one_in ds);
  Fits = a.Fits;
}

module _ {A B : Type 0} (a : Part A) (b : Part B) where
  abbrev pub both_of : Option (Data × Data) → Option (A × B)
  both_of None = None
  both_of (Some q) = option_and_then (λ x. option_map (λ y. (x, y)) (b.of_data q.1)) (a.of_data q.0)

  abbrev pub pair : Fields (A × B)
  pair = record {
    items = λ x. a.data_of x.0 ∷ b.data_of x.1 ∷ [];
    of_items = λ ds. both_of (two_in ds);
    Fits = λ x. a.Fits x.0 × b.Fits x.1;
  }

module _ {A B C : Type 0} (a : Part A) (b : Part B) (c : Part C) where
  abbrev pub three_of : Option (Data × Data × Data) → Option (A × B × C)
  three_of None = None
  three_of (Some q) =
      option_and_then
      (λ x. option_and_then (λ y. option_map (λ z. (x, y, z)) (c.of_data q.2)) (b.of_data q.1))
      (a.of_data q.0)

  abbrev pub triple : Fields (A × B × C)
  triple = record {
    items = λ x. a.data_of x.0 ∷ b.data_of x.1 ∷ c.data_of x.2 ∷ [];
    of_items = λ ds. three_of (three_in ds);
    Fits = λ x. a.Fits x.0 × b.Fits x.1 × c.Fits x.2;
  }

module _ {A B C D : Type 0} (a : Part A) (b : Part B) (c : Part C) (d : Part D) where
  abbrev pub four_of : Option (Data × Data × Data × Data) → Option (A × B × C × D)
  four_of None = None
  four_of (Some q) =
      option_and_then (λ x. option_and_then (λ y. option_and_then (λ z. option_map
      (λ w. (x, y, z, w)) (d.of_data q.3)) (c.of_data q.2)) (b.of_data q.1)) (a.of_data q.0)

  abbrev pub quadruple : Fields (A × B × C × D)
  quadruple = record {
    items = λ x. a.data_of x.0 ∷ b.data_of x.1 ∷ c.data_of x.2 ∷ d.data_of x.3 ∷ [];
    of_items = λ ds. four_of (four_in ds);
    Fits = λ x. a.Fits x.0 × b.Fits x.1 × c.Fits x.2 × d.Fits x.3;
  }

module _ {A B C D E : Type 0} (a : Part A) (b : Part B) (c : Part C) (d : Part D) (e : Part E) where
  abbrev pub five_of : Option (Data × Data × Data × Data × Data) → Option (A × B × C × D × E)
  five_of None = None
  five_of (Some q) =
      option_and_then (λ x. option_and_then (λ y. option_and_then (λ z. option_and_then (λ w.
      option_map (λ v. (x, y, z, w, v)) (e.of_data q.4)) (d.of_data q.3)) (c.of_data q.2))
      (b.of_data q.1)) (a.of_data q.0)

  abbrev pub quintuple : Fields (A × B × C × D × E)
  quintuple = record {
    items = λ x. a.data_of x.0 ∷ b.data_of x.1 ∷ c.data_of x.2 ∷ d.data_of x.3 ∷ e.data_of x.4 ∷ [];
    of_items = λ ds. five_of (five_in ds);
    Fits = λ x. a.Fits x.0 × b.Fits x.1 × c.Fits x.2 × d.Fits x.3 × e.Fits x.4;
  }

module _ {A B C D E F G : Type 0} (a : Part A) (b : Part B) (c : Part C) (d : Part D) (e : Part E)
    (f : Part F) (g : Part G) where
  abbrev pub seven_of : Option (Data × Data × Data × Data × Data × Data × Data) →
      Option (A × B × C × D × E × F × G)
  seven_of None = None
  seven_of (Some q) =
      option_and_then (λ x. option_and_then (λ y. option_and_then (λ z. option_and_then (λ w.
      option_and_then (λ v. option_and_then (λ u. option_map
      (λ t. (x, y, z, w, v, u, t)) (g.of_data q.6)) (f.of_data q.5)) (e.of_data q.4))
      (d.of_data q.3)) (c.of_data q.2)) (b.of_data q.1)) (a.of_data q.0)

  abbrev pub septuple : Fields (A × B × C × D × E × F × G)
  septuple = record {
    items = λ x. a.data_of x.0 ∷ b.data_of x.1 ∷ c.data_of x.2 ∷ d.data_of x.3 ∷ e.data_of x.4 ∷
        f.data_of x.5 ∷ g.data_of x.6 ∷ [];
    of_items = λ ds. seven_of (seven_in ds);
    Fits = λ x. a.Fits x.0 × b.Fits x.1 × c.Fits x.2 × d.Fits x.3 × e.Fits x.4 × f.Fits x.5 ×
        g.Fits x.6;
  }

-- fields that pass a test, or that stand for other values
abbrev pub fields_with_test : {A : Type 0} → (A → Bool) → Fields A → Fields A
fields_with_test test f = record {
  items = f.items;
  of_items = λ ds. option_and_then (if_so test) (f.of_items ds);
  Fits = λ a. f.Fits a × (test a ≡ true);
}

abbrev pub fields_for : {A B : Type 0} → (A → B) → (B → A) → Fields A → Fields B
fields_for to from f = record {
  items = λ b. f.items (from b);
  of_items = λ ds. option_map to (f.of_items ds);
  Fits = λ b. f.Fits (from b) × (to (from b) ≡ b);
}

-- fields in an array of their own
abbrev pub tuple : {A : Type 0} → Fields A → Part A
tuple f = record {
  data_of = λ x. list (f.items x);
  of_data = λ d. option_and_then f.of_items (array_in d);
  Fits = f.Fits;
}

-- ---- a part, or a number in its place

abbrev pub is_number : Data → Bool
is_number (number n) = true
is_number _ = false

abbrev pub zero_data : {A : Type 0} → (A → Data) → Option A → Data
zero_data f None = nat 0
zero_data f (Some a) = f a

abbrev pub unless_such : {A : Type 0} → Part A → (Data → Bool) → Option A → Type 0
unless_such p test None = Unit {0}
unless_such p test (Some a) = p.Fits a × (test (p.data_of a) ≡ false)

-- a part, or 0 in its place; the part itself is never a number
abbrev pub zero_or : {A : Type 0} → Part A → Part (Option A)
zero_or p = record {
  data_of = zero_data p.data_of;
  of_data = λ d.
      if is_number d then option_map (λ z. None) (nat_in 0 d) else option_map Some (p.of_data d);
  Fits = unless_such p is_number;
}

abbrev pub is_signed : Data → Bool
is_signed (number (negative z)) = true
is_signed _ = false

abbrev pub minus_data : {A : Type 0} → (A → Data) → Option A → Data
minus_data f None = number (negative (negsuc 0))
minus_data f (Some a) = f a

abbrev pub minus_in : {A : Type 0} → Data → Option (Option A)
minus_in (number (negative (negsuc n))) = if n == 0 then Some None else None
minus_in _ = None

-- a part, or -1 in its place; the part itself is never a number with a sign
abbrev pub minus_or : {A : Type 0} → Part A → Part (Option A)
minus_or p = record {
  data_of = minus_data p.data_of;
  of_data = λ d. if is_signed d then minus_in d else option_map Some (p.of_data d);
  Fits = unless_such p is_signed;
}
