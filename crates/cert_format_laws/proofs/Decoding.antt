-- JSON values and the rows that they are read as.
use Rattle.std.proofs.Common.{◌≡◌, ◌+◌, refl, ap, ◌∙◌, subst, List, [], ◌∷◌, ◌++◌, map, length, Option, Some, IfSome, arith}
use Rattle.serde_json.specs.Data.{Data}
use Rattle.cert_rows.specs.Parts.{All}
use Rattle.cert_rows.specs.Values.{Shape}
use Rattle.cert_rows.specs.Rows.{Row, row_data, row_part, FitsRow}
use Rattle.cert_rows.proofs.Rowed.{rows_are_read_as_written}
use Rattle.cert_format.specs.Drafts.{Rest}

pub head_same : {A : Type 0} (x y : A) (xs ys : List A) → x ∷ xs ≡ y ∷ ys → x ≡ y
head_same x y xs ys e = cc

pub tail_same : {A : Type 0} (x y : A) (xs ys : List A) → x ∷ xs ≡ y ∷ ys → xs ≡ ys
tail_same x y xs ys e = cc

pub nothing_there : {A : Type 0} (x : A) (xs : List A) → [] ≡ x ∷ xs → ⊥
nothing_there x xs e = cc

pub map_joined : {A B : Type 0} (f : A → B) (xs ys : List A) → map f (xs ++ ys) ≡ map f xs ++ map f ys
map_joined f [] ys = refl
map_joined f (x ∷ xs) ys = ap (λ z. f x ∷ z) (map_joined f xs ys)

pub joined : {A : Type 0} (xs ys zs : List A) → (xs ++ ys) ++ zs ≡ xs ++ (ys ++ zs)
joined [] ys zs = refl
joined (x ∷ xs) ys zs = ap (λ l. x ∷ l) (joined xs ys zs)

pub no_end : {A : Type 0} (xs : List A) → xs ++ [] ≡ xs
no_end [] = refl
no_end (x ∷ xs) = ap (λ z. x ∷ z) (no_end xs)

pub all_joined : {A : Type 0} (P : A → Type 0) (xs ys : List A) → All P xs → All P ys → All P (xs ++ ys)
all_joined P [] ys h k = k
all_joined P (x ∷ xs) ys h k = (h.0, all_joined P xs ys h.1 k)

pub all_left : {A : Type 0} (P : A → Type 0) (xs ys : List A) → All P (xs ++ ys) → All P xs
all_left P [] ys h = tt
all_left P (x ∷ xs) ys h = (h.0, all_left P xs ys h.1)

pub all_right : {A : Type 0} (P : A → Type 0) (xs ys : List A) → All P (xs ++ ys) → All P ys
all_right P [] ys h = h
all_right P (x ∷ xs) ys h = all_right P xs ys h.1

pub lengths : (rs : List Row) (ds more : Rest) → ds ≡ map Some rs ++ more → length ds ≡ length rs + length more
lengths [] ds more e = ap length e ∙ omega arith
lengths (r ∷ rs) ds more e = ap length e ∙ (let h = lengths rs (map Some rs ++ more) more refl in omega (arith, h))

module _ (w : Shape) where
  -- what is written is read
  pub back : (rs : List Row) → All (FitsRow w) rs → map (row_part w).of_data (map (row_data w) rs) ≡ map Some rs
  back [] h = refl
  back (r ∷ rs) h = ap (λ o. o ∷ map (row_part w).of_data (map (row_data w) rs)) ((rows_are_read_as_written w).back r h.0) ∙
      ap (λ z. Some r ∷ z) (back rs h.1)

  pub back_before : (rs : List Row) (ds : List Data) → All (FitsRow w) rs →
      map (row_part w).of_data (map (row_data w) rs ++ ds) ≡ map Some rs ++ map (row_part w).of_data ds
  back_before rs ds h = map_joined (row_part w).of_data (map (row_data w) rs) ds ∙ ap (λ z. z ++ map (row_part w).of_data ds) (back rs h)

  -- a value that is read as a row was written for it
  pub row_said : (d : Data) (r : Row) → (row_part w).of_data d ≡ Some r → (d ≡ row_data w r) × FitsRow w r
  row_said d r e = subst (λ (o : Option Row). IfSome o (λ a. (d ≡ row_data w a) × FitsRow w a)) e ((rows_are_read_as_written w).reads d)

  -- values that are read as rows were written for them
  pub record Decoded (rs : List Row) (ds : List Data) (more : Rest) : Type 0 where
    pub rest : List Data
    pub made : ds ≡ map (row_data w) rs ++ rest
    pub fits : All (FitsRow w) rs
    pub following : map (row_part w).of_data rest ≡ more

  pub decoded : (rs : List Row) (ds : List Data) (more : Rest) → map (row_part w).of_data ds ≡ map Some rs ++ more → Decoded rs ds more
  decoded [] ds more e = record { rest = ds; made = refl; fits = tt; following = e }
  decoded (r ∷ rs) [] more e = absurd (nothing_there (Some r) (map Some rs ++ more) e)
  decoded (r ∷ rs) (d ∷ ds) more e =
      let here = row_said d r (head_same ((row_part w).of_data d) (Some r) (map (row_part w).of_data ds) (map Some rs ++ more) e) in
      let there = decoded rs ds more (tail_same ((row_part w).of_data d) (Some r) (map (row_part w).of_data ds) (map Some rs ++ more) e) in
      record {
        rest = there.rest;
        made = ap (λ x. x ∷ ds) here.0 ∙ ap (λ z. row_data w r ∷ z) there.made;
        fits = (here.1, there.fits);
        following = there.following;
      }
