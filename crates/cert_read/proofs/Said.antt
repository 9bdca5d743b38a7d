-- Rows that are read as those of declarations.
use Rattle.std.proofs.Common.{◌≡◌, refl, sym, ap, ◌∙◌, subst, Bool, true, false, if◌then◌else◌, List, [], ◌∷◌, ◌++◌, map, Option, Some, None, IfSome}
use Rattle.serde_json.specs.Data.{Data}
use Rattle.cert_rows.specs.Parts.{All}
use Rattle.cert_rows.specs.Values.{Shape}
use Rattle.cert_rows.specs.Rows.{Row, row_data, row_part, FitsRow}
use Rattle.cert_rows.specs.Rows as row
use Rattle.cert_rows.proofs.Rowed.{rows_are_read_as_written}
use Rattle.cert_format.specs.Certificate.{shape}
use Rattle.cert_format.specs.Pieces.{is_case, BeginsNoCase}
use Rattle.cert_read_decls.specs.Rows.{decl_of_data, is_decl, decl_in}
use Rattle.cert_read_decls.proofs.Declarations.{declarations_are_rows}
use Rattle.cert_read.specs.Cases.{first_at, case_in}

head_same : {A : Type 0} (x y : A) (xs ys : List A) → x ∷ xs ≡ y ∷ ys → x ≡ y
head_same x y xs ys e = cc

tail_same : {A : Type 0} (x y : A) (xs ys : List A) → x ∷ xs ≡ y ∷ ys → xs ≡ ys
tail_same x y xs ys e = cc

nothing_there : {A : Type 0} (x : A) (xs : List A) → [] ≡ x ∷ xs → ⊥
nothing_there x xs e = cc

none_some : {A : Type 0} (r : A) → None ≡ Some r → ⊥
none_some r e = cc

decl_was : (o : Option Row) (r : Row) → decl_in o ≡ Some r → o ≡ Some r
decl_was None r e = absurd (none_some r e)
decl_was (Some x) r e = by (is_decl x) e
  where
    by : (b : Bool) → (let o : Option Row = if b then Some x else None in o) ≡ Some r → Some x ≡ Some r
    by true e = e
    by false e = absurd (none_some r e)

module _ (w : Shape) where
  pub row_said : (d : Data) (r : Row) → decl_of_data w.ordered d ≡ Some r → (d ≡ row_data w r) × FitsRow w r
  row_said d r e =
      subst (λ (o : Option Row). IfSome o (λ a. (d ≡ row_data w a) × FitsRow w a)) (decl_was ((row_part w).of_data d) r (sym (declarations_are_rows w d) ∙ e)) ((rows_are_read_as_written w).reads d)

  pub said : (rs : List Row) (ds : List Data) (more : List (Option Row)) → map (decl_of_data w.ordered) ds ≡ map Some rs ++ more →
      (rest : List Data) × (ds ≡ map (row_data w) rs ++ rest) × All (FitsRow w) rs × (map (decl_of_data w.ordered) rest ≡ more)
  said [] ds more e = (ds, refl, tt, e)
  said (r ∷ rs) [] more e = absurd (nothing_there (Some r) (map Some rs ++ more) e)
  said (r ∷ rs) (d ∷ ds) more e =
      let here = row_said d r (head_same (decl_of_data w.ordered d) (Some r) (map (decl_of_data w.ordered) ds) (map Some rs ++ more) e) in
      let there = said rs ds more (tail_same (decl_of_data w.ordered d) (Some r) (map (decl_of_data w.ordered) ds) (map Some rs ++ more) e) in
      (there.0, ap (λ x. x ∷ ds) here.0 ∙ ap (λ z. row_data w r ∷ z) there.1, (here.1, there.2), there.3)

some_none : {A : Type 0} (x : A) → Some x ≡ None → ⊥
some_none x e = cc

no_case : (o : Option Row) → case_in (decl_in o) ≡ None → is_case o ≡ false
no_case None e = refl
no_case (Some (row.case_of c)) e = absurd (some_none c e)
no_case (Some r) e = refl

pub cases_end : (o : Bool) (ds : List Data) → case_in (first_at (map (decl_of_data o) ds)) ≡ None → BeginsNoCase o ds
cases_end o [] e = tt
cases_end o (d ∷ ds) e = no_case ((row_part (shape o None)).of_data d) (ap case_in (sym (declarations_are_rows (shape o None) d)) ∙ e)
