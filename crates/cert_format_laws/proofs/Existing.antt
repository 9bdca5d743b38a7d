-- Rows always say some list of statements, as far as they go.
use Rattle.std.proofs.Common.{◌≡◌, ◌≤◌, refl, sym, ap, ◌∙◌, subst, ℕ, zero, suc, nat_lt, Bool, true, false, true≢false, List, [], ◌∷◌, ◌++◌, map, length, Option, Some, None, arith}
use Rattle.vlt_core.specs.Core.{Expr}
use Rattle.cert_rows.specs.Rows.{Head, ArmHead, Maps, Row}
use Rattle.cert_rows.specs.Rows as row
use Rattle.cert_format.specs.Drafts.{Draft, plain, choose, loop, switch, focus, scope, block, Drafts, done, next, Arms, no_arms, arm, arm_heads, draft_rows, list_rows, arms_rows, is_whole_draft, is_whole_list, AreBare, Rest, most_block_depth, is_plain, may_arm, may_stand, IsStuck, IsTaken, AreTaken, AreTakenArms}
use Rattle.cert_format_laws.proofs.Takes.{bare_arms}
use Rattle.cert_format_laws.proofs.Decoding.{joined, map_joined, lengths}

pub record Listed (deep n : ℕ) (ds : Rest) : Type 0 where
  pub drafts : Drafts
  pub more : Rest
  pub rows : ds ≡ map Some (list_rows drafts) ++ more
  pub taken : AreTaken deep n drafts more

record Found (deep : ℕ) (ds : Rest) : Type 0 where
  draft : Draft
  more : Rest
  rows : ds ≡ map Some (draft_rows draft) ++ more
  taken : IsTaken deep draft more
  less : suc (length more) ≤ length ds

data Tried (deep : ℕ) (ds : Rest) : Type 0 where
  stuck : IsStuck deep ds → Tried deep ds
  found : Found deep ds → Tried deep ds

record Armed (deep : ℕ) (hs : List ArmHead) (ds : Rest) : Type 0 where
  arms : Arms
  more : Rest
  heads : arm_heads arms ≡ hs
  rows : ds ≡ map Some (arms_rows arms) ++ more
  taken : AreTakenArms deep arms more

no : {X : Type 0} → false ≡ true → X
no e = absurd (true≢false (sym e))

yes : {X : Type 0} → true ≡ false → X
yes e = absurd (true≢false e)

-- rows after others
split : (xs ys : List Row) (more : Rest) → map Some (xs ++ ys) ++ more ≡ map Some xs ++ (map Some ys ++ more)
split xs ys more = ap (λ z. z ++ more) (map_joined Some xs ys) ∙ joined (map Some xs) (map Some ys) more

less_by : (rs : List Row) (ds more : Rest) → ds ≡ map Some rs ++ more → length more ≤ length ds
less_by rs ds more e = let h = lengths rs ds more e in omega (arith, h)

-- a block of this depth, for rows no more than these
abbrev Go : (deep : ℕ) → (ds : Rest) → Type 0
Go deep ds = (n : ℕ) (rest : Rest) → length rest ≤ length ds → Listed deep n rest

-- ---- a statement with one block

one : (deep : ℕ) (r : Row) (n : ℕ) (mk : Drafts → Draft) (ds : Rest) → (x : Listed (suc deep) n ds) →
    ((ss : Drafts) → draft_rows (mk ss) ≡ r ∷ list_rows ss) →
    ((ss : Drafts) (more : Rest) → AreTaken (suc deep) n ss more → IsTaken deep (mk ss) more) →
    Tried deep (Some r ∷ ds)
one deep r n mk ds x rows takes = found (record {
  draft = mk x.drafts;
  more = x.more;
  rows = ap (λ z. Some r ∷ z) x.rows ∙ ap (λ z. map Some z ++ x.more) (sym (rows x.drafts));
  taken = takes x.drafts x.more x.taken;
  less = let h = less_by (list_rows x.drafts) ds x.more x.rows in omega (arith, h);
})

-- ---- two blocks

two : (deep : ℕ) (e : Expr) (a b : Head) (m : Option Maps) (ds : Rest) → nat_lt deep most_block_depth ≡ true → Go (suc deep) ds →
    Tried deep (Some (row.choose e a b m) ∷ ds)
two deep e a b m ds within go = by (go a.0 ds (omega arith))
  where
    whole_first : (x : Listed (suc deep) a.0 ds) → is_whole_list a.0 x.drafts ≡ true → (y : Listed (suc deep) b.0 x.more) →
        Tried deep (Some (row.choose e a b m) ∷ ds)
    whole_first x is y = found (record {
      draft = choose e (block a.0 a.1 x.drafts) (block b.0 b.1 y.drafts) m;
      more = y.more;
      rows = ap (λ z. Some (row.choose e a b m) ∷ z) (x.rows ∙ ap (λ z. map Some (list_rows x.drafts) ++ z) y.rows ∙
          sym (split (list_rows x.drafts) (list_rows y.drafts) y.more));
      taken = (within, subst (AreTaken (suc deep) a.0 x.drafts) y.rows x.taken, (λ w. y.taken), (λ w. yes (sym is ∙ w)));
      less = let h = less_by (list_rows x.drafts) ds x.more x.rows in let k =
          less_by (list_rows y.drafts) x.more y.more y.rows in omega (arith, h, k);
    })

    cut_first : (x : Listed (suc deep) a.0 ds) → is_whole_list a.0 x.drafts ≡ false → Tried deep (Some (row.choose e a b m) ∷ ds)
    cut_first x is = found (record {
      draft = choose e (block a.0 a.1 x.drafts) (block b.0 b.1 done) m;
      more = x.more;
      rows = ap (λ z. Some (row.choose e a b m) ∷ z) (x.rows ∙ sym (split (list_rows x.drafts) [] x.more));
      taken = (within, x.taken, (λ w. yes (sym w ∙ is)), (λ w. refl));
      less = let h = less_by (list_rows x.drafts) ds x.more x.rows in omega (arith, h);
    })

    either : (x : Listed (suc deep) a.0 ds) (w : Bool) → is_whole_list a.0 x.drafts ≡ w → Tried deep (Some (row.choose e a b m) ∷ ds)
    either x true is = whole_first x is (go b.0 x.more (less_by (list_rows x.drafts) ds x.more x.rows))
    either x false is = cut_first x is

    by : Listed (suc deep) a.0 ds → Tried deep (Some (row.choose e a b m) ∷ ds)
    by x = either x (is_whole_list a.0 x.drafts) refl

-- ---- arms

bare_heads : (hs : List ArmHead) → arm_heads (bare_arms hs) ≡ hs
bare_heads [] = refl
bare_heads (h ∷ hs) = ap (λ z. h ∷ z) (bare_heads hs)

bare_rows : (hs : List ArmHead) → arms_rows (bare_arms hs) ≡ []
bare_rows [] = refl
bare_rows (h ∷ hs) = bare_rows hs

bare_all : (hs : List ArmHead) → AreBare (bare_arms hs)
bare_all [] = tt
bare_all (h ∷ hs) = (refl, bare_all hs)

armed : (deep : ℕ) (hs : List ArmHead) (top ds : Rest) → length ds ≤ length top → Go deep top → Armed deep hs ds
armed deep [] top ds l go = record { arms = no_arms; more = ds; heads = refl; rows = refl; taken = tt }
armed deep (h ∷ hs) top ds l go = by (go h.2 ds l) (λ rest k. armed deep hs top rest k go)
  where
    whole_first : (x : Listed deep h.2 ds) → is_whole_list h.2 x.drafts ≡ true → (y : Armed deep hs x.more) → Armed deep (h ∷ hs) ds
    whole_first x is y = record {
      arms = arm h.0 h.1 (block h.2 h.3 x.drafts) y.arms;
      more = y.more;
      heads = ap (λ z. h ∷ z) y.heads;
      rows = x.rows ∙ ap (λ z. map Some (list_rows x.drafts) ++ z) y.rows ∙ sym (split (list_rows x.drafts) (arms_rows y.arms) y.more);
      taken = (subst (AreTaken deep h.2 x.drafts) y.rows x.taken, (λ w. y.taken), (λ w. yes (sym is ∙ w)));
    }

    cut_first : (x : Listed deep h.2 ds) → is_whole_list h.2 x.drafts ≡ false → Armed deep (h ∷ hs) ds
    cut_first x is = record {
      arms = arm h.0 h.1 (block h.2 h.3 x.drafts) (bare_arms hs);
      more = x.more;
      heads = ap (λ z. h ∷ z) (bare_heads hs);
      rows = x.rows ∙ sym (split (list_rows x.drafts) [] x.more) ∙ ap (λ z. map Some (list_rows x.drafts ++ z) ++ x.more) (sym (bare_rows hs));
      taken = (
        subst (AreTaken deep h.2 x.drafts) (ap (λ z. map Some z ++ x.more) (sym (bare_rows hs))) x.taken,
        (λ w. yes (sym w ∙ is)),
        (λ w. bare_all hs),
      );
    }

    either : (x : Listed deep h.2 ds) → ((rest : Rest) → length rest ≤ length top → Armed deep hs rest) → (w : Bool) →
        is_whole_list h.2 x.drafts ≡ w → Armed deep (h ∷ hs) ds
    either x others true is = whole_first x is (others x.more (let k = less_by (list_rows x.drafts) ds x.more x.rows in omega (arith, k, l)))
    either x others false is = cut_first x is

    by : Listed deep h.2 ds → ((rest : Rest) → length rest ≤ length top → Armed deep hs rest) → Armed deep (h ∷ hs) ds
    by x others = either x others (is_whole_list h.2 x.drafts) refl

many : (deep v : ℕ) (hs : List ArmHead) (m : Option Maps) (ds : Rest) → may_arm deep hs ≡ true → Armed (suc deep) hs ds →
    Tried deep (Some (row.switch v hs m) ∷ ds)
many deep v hs m ds within x = found (record {
  draft = switch v x.arms m;
  more = x.more;
  rows = ap (λ z. Some (row.switch v hs m) ∷ z) x.rows ∙ ap (λ z. Some (row.switch v z m) ∷ (map Some (arms_rows x.arms) ++ x.more)) (sym x.heads);
  taken = (ap (may_arm deep) x.heads ∙ within, x.taken);
  less = let h = less_by (arms_rows x.arms) ds x.more x.rows in omega (arith, h);
})

-- ---- a statement

plainly : (deep : ℕ) (r : Row) (ds : Rest) → is_plain r ≡ true → Tried deep (Some r ∷ ds)
plainly deep r ds is = found (record { draft = plain r; more = ds; rows = refl; taken = is; less = omega arith })

blocked : (deep : ℕ) (r : Row) (ds : Rest) → (may_stand deep r ≡ true → Tried deep (Some r ∷ ds)) → Tried deep (Some r ∷ ds)
blocked deep r ds go = by (may_stand deep r) refl
  where
    by : (x : Bool) → may_stand deep r ≡ x → Tried deep (Some r ∷ ds)
    by true is = go is
    by false is = stuck is

tried : (deep : ℕ) (ds : Rest) → ((n : ℕ) (rest : Rest) → suc (length rest) ≤ length ds → Listed (suc deep) n rest) → Tried deep ds
tried deep [] go = stuck tt
tried deep (None ∷ ds) go = stuck tt
tried deep (Some (row.version o) ∷ ds) go = stuck refl
tried deep (Some (row.states d) ∷ ds) go = stuck refl
tried deep (Some (row.abstract_type n o) ∷ ds) go = stuck refl
tried deep (Some (row.struct_type d) ∷ ds) go = stuck refl
tried deep (Some (row.variant_type n h c) ∷ ds) go = stuck refl
tried deep (Some (row.case_of c) ∷ ds) go = stuck refl
tried deep (Some (row.function f) ∷ ds) go = stuck refl
tried deep (Some (row.external f) ∷ ds) go = stuck refl
tried deep (Some (row.simple x) ∷ ds) go = plainly deep _ ds refl
tried deep (Some (row.call f target keys args) ∷ ds) go = plainly deep _ ds refl
tried deep (Some (row.return o) ∷ ds) go = plainly deep _ ds refl
tried deep (Some (row.jump c) ∷ ds) go = plainly deep _ ds refl
tried deep (Some (row.choose e a b m) ∷ ds) go = blocked deep _ ds (λ within. two deep e a b m ds within (λ n rest l. go n rest (omega (arith, l))))
tried deep (Some (row.loop e a m k) ∷ ds) go =
    blocked deep _ ds (λ within. one deep _ a.0 (λ ss. loop e (block a.0 a.1 ss) m k) ds (go a.0 ds (omega arith)) (λ ss. refl)
    (λ ss more t. (within, t)))
tried deep (Some (row.switch v hs m) ∷ ds) go =
    blocked deep _ ds (λ within. many deep v hs m ds within (armed (suc deep) hs ds ds (omega arith) (λ n rest l. go n rest (omega (arith, l)))))
tried deep (Some (row.focus y z a) ∷ ds) go =
    blocked deep _ ds (λ within. one deep _ a.0 (λ ss. focus y z (block a.0 a.1 ss)) ds (go a.0 ds (omega arith)) (λ ss. refl)
    (λ ss more t. (within, t)))
tried deep (Some (row.scope a) ∷ ds) go =
    blocked deep _ ds (λ within. one deep _ a.0 (λ ss. scope (block a.0 a.1 ss)) ds (go a.0 ds (omega arith)) (λ ss. refl) (λ ss more t. (within, t)))

-- ---- a list

go_on : (deep n : ℕ) (ds : Rest) → Tried deep ds → ((rest : Rest) → suc (length rest) ≤ length ds → Listed deep n rest) → Listed deep (suc n) ds
go_on deep n ds (stuck is) go = record { drafts = done; more = ds; rows = refl; taken = is }
go_on deep n ds (found x) go = either (is_whole_draft x.draft) refl
  where
    goes : is_whole_draft x.draft ≡ true → Listed deep n x.more → Listed deep (suc n) ds
    goes is y = record {
      drafts = next x.draft y.drafts;
      more = y.more;
      rows = x.rows ∙ ap (λ z. map Some (draft_rows x.draft) ++ z) y.rows ∙ sym (split (draft_rows x.draft) (list_rows y.drafts) y.more);
      taken = (subst (IsTaken deep x.draft) y.rows x.taken, (λ w. y.taken), (λ w. yes (sym is ∙ w)));
    }

    breaks : is_whole_draft x.draft ≡ false → Listed deep (suc n) ds
    breaks is = record {
      drafts = next x.draft done;
      more = x.more;
      rows = x.rows ∙ sym (split (draft_rows x.draft) [] x.more);
      taken = (x.taken, (λ w. yes (sym w ∙ is)), (λ w. refl));
    }

    either : (w : Bool) → is_whole_draft x.draft ≡ w → Listed deep (suc n) ds
    either true is = goes is (go x.more x.less)
    either false is = breaks is

pub listed : (k deep n : ℕ) (ds : Rest) → suc (length ds) ≤ k → Listed deep n ds
listed zero deep n ds h = absurd (omega (arith, h))
listed (suc k) deep zero ds h = record { drafts = done; more = ds; rows = refl; taken = tt }
listed (suc k) deep (suc n) ds h =
    go_on deep n ds (tried deep ds (λ m rest l. listed k (suc deep) m rest (omega (arith, h, l))))
    (λ rest l. listed k deep n rest (omega (arith, h, l)))
