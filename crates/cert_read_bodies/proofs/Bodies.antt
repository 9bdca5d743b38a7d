-- What is read of a body by its statements' rows is what all rows say.
use Rattle.std.proofs.Common.{◌≡◌, refl, sym, ap, ◌∙◌, subst, ℕ, zero, suc, Bool, true, false, true≢false, if◌then◌else◌, List, [], ◌∷◌, ◌++◌, map, Option, Some, None, IfSome}
use Rattle.serde_json.specs.Data.{Data}
use Rattle.cert_rows.specs.Parts.{All}
use Rattle.cert_rows.specs.Values.{Shape}
use Rattle.cert_rows.specs.Rows.{Row}
use Rattle.cert_rows.specs.Rows as row
use Rattle.cert_rows.specs.Rows.{row_data, row_part, FitsRow}
use Rattle.cert_rows.proofs.Rowed.{rows_are_read_as_written}
use Rattle.cert_format.specs.Drafts.{Draft, plain, choose, loop, switch, focus, scope, Block, block, Drafts, done, next, Arms, no_arms, arm, Rest, block_rows, list_rows, arms_rows, may_stand, IsStuck, IsTaken, IsTakenBlock, AreTaken, AreTakenArms}
use Rattle.cert_read_rows.specs.Statements.{stmt_of_data}
use Rattle.cert_read_bodies.specs.Bodies.{is_stmt, stmt_in}
use Rattle.cert_read_bodies.proofs.Statements.{statements_are_rows}

-- ---- rows that stop reading wherever others do

abbrev Like : Rest → Rest → Type 0
Like xs ys = (deep : ℕ) → IsStuck deep ys → IsStuck deep xs

after_rows : (rs : List Row) (xs ys : Rest) → Like xs ys → Like (map Some rs ++ xs) (map Some rs ++ ys)
after_rows [] xs ys l = l
after_rows (r ∷ rs) xs ys l = λ deep is. is

mutual
  taken_like : (deep : ℕ) (x : Draft) (xs ys : Rest) → Like xs ys → IsTaken deep x ys → IsTaken deep x xs
  taken_like deep (plain r) xs ys l t = t
  taken_like deep (choose e a b m) xs ys l t =
      (t.0, block_like (suc deep) a _ _ (after_rows (block_rows b) xs ys l) t.1, (λ w. block_like (suc deep) b xs ys l (t.2 w)), t.3)
  taken_like deep (loop e a m k) xs ys l t = (t.0, block_like (suc deep) a xs ys l t.1)
  taken_like deep (switch v arms m) xs ys l t = (t.0, arms_like (suc deep) arms xs ys l t.1)
  taken_like deep (focus y z a) xs ys l t = (t.0, block_like (suc deep) a xs ys l t.1)
  taken_like deep (scope a) xs ys l t = (t.0, block_like (suc deep) a xs ys l t.1)

  block_like : (deep : ℕ) (b : Block) (xs ys : Rest) → Like xs ys → IsTakenBlock deep b ys → IsTakenBlock deep b xs
  block_like deep (block n bound ss) xs ys l t = list_like deep n ss xs ys l t

  list_like : (deep n : ℕ) (ss : Drafts) (xs ys : Rest) → Like xs ys → AreTaken deep n ss ys → AreTaken deep n ss xs
  list_like deep zero done xs ys l t = tt
  list_like deep (suc n) done xs ys l t = l deep t
  list_like deep zero (next f rest) xs ys l t = absurd t
  list_like deep (suc n) (next f rest) xs ys l t =
      (taken_like deep f _ _ (after_rows (list_rows rest) xs ys l) t.0, (λ w. list_like deep n rest xs ys l (t.1 w)), t.2)

  arms_like : (deep : ℕ) (arms : Arms) (xs ys : Rest) → Like xs ys → AreTakenArms deep arms ys → AreTakenArms deep arms xs
  arms_like deep no_arms xs ys l t = tt
  arms_like deep (arm c vs b rest) xs ys l t =
      (block_like deep b _ _ (after_rows (arms_rows rest) xs ys l) t.0, (λ w. arms_like deep rest xs ys l (t.1 w)), t.2)

-- a row of no statement stops reading
no_stmt : (deep : ℕ) (r : Row) → is_stmt r ≡ false → may_stand deep r ≡ false
no_stmt deep (row.choose e a b m) is = absurd (true≢false is)
no_stmt deep (row.loop e a m k) is = absurd (true≢false is)
no_stmt deep (row.switch v hs m) is = absurd (true≢false is)
no_stmt deep (row.focus y z a) is = absurd (true≢false is)
no_stmt deep (row.scope a) is = absurd (true≢false is)
no_stmt deep r is = is

like_all : (xs : Rest) → Like xs (map stmt_in xs)
like_all [] = λ deep is. tt
like_all (None ∷ xs) = λ deep is. tt
like_all (Some r ∷ xs) = by (is_stmt r) refl
  where
    by : (b : Bool) → is_stmt r ≡ b → (deep : ℕ) → IsStuck deep ((let o : Option Row = if b then Some r else None in o) ∷ map stmt_in xs) → IsStuck deep (Some r ∷ xs)
    by true is = λ deep s. s
    by false is = λ deep s. no_stmt deep r is

-- ---- values

head_same : {A : Type 0} (x y : A) (xs ys : List A) → x ∷ xs ≡ y ∷ ys → x ≡ y
head_same x y xs ys e = cc

tail_same : {A : Type 0} (x y : A) (xs ys : List A) → x ∷ xs ≡ y ∷ ys → xs ≡ ys
tail_same x y xs ys e = cc

nothing_there : {A : Type 0} (x : A) (xs : List A) → [] ≡ x ∷ xs → ⊥
nothing_there x xs e = cc

none_some : (r : Row) → None ≡ Some r → ⊥
none_some r e = cc

stmt_was : (o : Option Row) (r : Row) → stmt_in o ≡ Some r → o ≡ Some r
stmt_was None r e = absurd (none_some r e)
stmt_was (Some x) r e = by (is_stmt x) e
  where
    by : (b : Bool) → (let o : Option Row = if b then Some x else None in o) ≡ Some r → Some x ≡ Some r
    by true e = e
    by false e = absurd (none_some r e)

module _ (w : Shape) where
  row_said : (d : Data) (r : Row) → stmt_of_data w.instances d ≡ Some r → (d ≡ row_data w r) × FitsRow w r
  row_said d r e =
      subst (λ (o : Option Row). IfSome o (λ a. (d ≡ row_data w a) × FitsRow w a)) (stmt_was ((row_part w).of_data d) r (sym (statements_are_rows w d) ∙ e)) ((rows_are_read_as_written w).reads d)

  said : (rs : List Row) (ds : List Data) (more : Rest) → map (stmt_of_data w.instances) ds ≡ map Some rs ++ more →
      (rest : List Data) × (ds ≡ map (row_data w) rs ++ rest) × All (FitsRow w) rs × (map (stmt_of_data w.instances) rest ≡ more)
  said [] ds more e = (ds, refl, tt, e)
  said (r ∷ rs) [] more e = absurd (nothing_there (Some r) (map Some rs ++ more) e)
  said (r ∷ rs) (d ∷ ds) more e =
      let here = row_said d r (head_same (stmt_of_data w.instances d) (Some r) (map (stmt_of_data w.instances) ds) (map Some rs ++ more) e) in
      let there = said rs ds more (tail_same (stmt_of_data w.instances d) (Some r) (map (stmt_of_data w.instances) ds) (map Some rs ++ more) e) in
      (there.0, ap (λ x. x ∷ ds) here.0 ∙ ap (λ z. row_data w r ∷ z) there.1, (here.1, there.2), there.3)

  seen : (ds : List Data) → map (stmt_of_data w.instances) ds ≡ map stmt_in (map (row_part w).of_data ds)
  seen [] = refl
  seen (d ∷ ds) = ap (λ z. z ∷ map (stmt_of_data w.instances) ds) (statements_are_rows w d) ∙ ap (λ z. stmt_in ((row_part w).of_data d) ∷ z) (seen ds)

  pub bodies_are_read : (n : ℕ) (ss : Drafts) (ds more : List Data) → AreTaken 1 n ss (map (stmt_of_data w.instances) more) → map (stmt_of_data w.instances) ds ≡ map Some (list_rows ss) ++ map (stmt_of_data w.instances) more →
      (rest : List Data) × (ds ≡ map (row_data w) (list_rows ss) ++ rest) × All (FitsRow w) (list_rows ss) × AreTaken 1 n ss (map (row_part w).of_data rest)
  bodies_are_read n ss ds more taken e =
      let x = said (list_rows ss) ds (map (stmt_of_data w.instances) more) e in
      (x.0, x.1, x.2, list_like 1 n ss (map (row_part w).of_data x.0) (map stmt_in (map (row_part w).of_data x.0)) (like_all (map (row_part w).of_data x.0)) (subst (AreTaken 1 n ss) (sym x.3 ∙ seen x.0) taken))
