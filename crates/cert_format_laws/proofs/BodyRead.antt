-- What rows say is what reading them takes.
use Rattle.std.proofs.Common.{◌≡◌, ◌≤◌, refl, sym, ap, ◌∙◌, ℕ, zero, suc, ◌+◌, ◌&&◌, Bool, true, false, true≢false, if◌then◌else◌, List, [], ◌∷◌, ◌++◌, map, Some, None, arith}
use Rattle.vlt_core.specs.Core.{Tok}
use Rattle.cert_rows.specs.Rows.{Row}
use Rattle.cert_rows.specs.Rows as row
use Rattle.cert_format.specs.Drafts.{Draft, plain, choose, loop, switch, focus, scope, Block, block, Drafts, done, next, Arms, no_arms, arm, arm_heads, draft_rows, list_rows, arms_rows, is_whole_draft, is_whole_list, are_whole_arms, AreBare, Rest, is_plain, IsStuck, IsTaken, AreTaken, AreTakenArms}
use Rattle.cert_format_laws.proofs.Takes.{Taken, a_block, bare, bare_arms, then_block, one_block, then_arms, then_drafts, if_deep, take_draft, take_drafts, take_arms}

-- ---- how many calls it takes

abbrev mutual
  pub need : Draft → ℕ
  need (plain r) = 1
  need (choose e a b m) = 1 + (need_block a + need_block b)
  need (loop e a m k) = 1 + need_block a
  need (switch v arms m) = 1 + need_arms arms
  need (focus y z a) = 1 + need_block a
  need (scope a) = 1 + need_block a

  pub need_block : Block → ℕ
  need_block (block n bound ss) = need_list ss

  pub need_list : Drafts → ℕ
  need_list done = 1
  need_list (next f rest) = 1 + (need f + need_list rest)

  pub need_arms : Arms → ℕ
  need_arms no_arms = 1
  need_arms (arm c vs b rest) = 1 + (need_block b + need_arms rest)

-- ---- rows

split : (xs ys : List Row) (more : Rest) → map Some (xs ++ ys) ++ more ≡ map Some xs ++ (map Some ys ++ more)
split [] ys more = refl
split (x ∷ xs) ys more = ap (λ ds. Some x ∷ ds) (split xs ys more)

no : {X : Type 0} → true ≡ false → X
no e = absurd (true≢false e)

too_deep : (within : Bool) (t : Taken Draft) → within ≡ false → if_deep within t ≡ None
too_deep within t is = ap (λ b. if b then Some t else None) is

stuck_none : (k deep : ℕ) (more : Rest) → IsStuck deep more → take_draft k deep more ≡ None
stuck_none zero deep more s = refl
stuck_none (suc k) deep [] s = refl
stuck_none (suc k) deep (None ∷ ds) s = refl
stuck_none (suc k) deep (Some (row.version n) ∷ ds) s = refl
stuck_none (suc k) deep (Some (row.states d) ∷ ds) s = refl
stuck_none (suc k) deep (Some (row.abstract_type n o) ∷ ds) s = refl
stuck_none (suc k) deep (Some (row.struct_type d) ∷ ds) s = refl
stuck_none (suc k) deep (Some (row.variant_type n h c) ∷ ds) s = refl
stuck_none (suc k) deep (Some (row.case_of c) ∷ ds) s = refl
stuck_none (suc k) deep (Some (row.function f) ∷ ds) s = refl
stuck_none (suc k) deep (Some (row.external f) ∷ ds) s = refl
stuck_none (suc k) deep (Some (row.simple x) ∷ ds) s = no s
stuck_none (suc k) deep (Some (row.call f target keys args) ∷ ds) s = no s
stuck_none (suc k) deep (Some (row.return o) ∷ ds) s = no s
stuck_none (suc k) deep (Some (row.jump c) ∷ ds) s = no s
stuck_none (suc k) deep (Some (row.choose e a b m) ∷ ds) s = too_deep _ _ s
stuck_none (suc k) deep (Some (row.loop e a m n) ∷ ds) s = too_deep _ _ s
stuck_none (suc k) deep (Some (row.switch v hs m) ∷ ds) s = too_deep _ _ s
stuck_none (suc k) deep (Some (row.focus y z a) ∷ ds) s = too_deep _ _ s
stuck_none (suc k) deep (Some (row.scope a) ∷ ds) s = too_deep _ _ s

plain_taken : (k deep : ℕ) (r : Row) (more : Rest) → is_plain r ≡ true → take_draft (suc k) deep (Some r ∷ more) ≡ Some (plain r, more, true)
plain_taken k deep (row.simple x) more is = refl
plain_taken k deep (row.call f target keys args) more is = refl
plain_taken k deep (row.return o) more is = refl
plain_taken k deep (row.jump c) more is = refl
plain_taken k deep (row.version n) more is = no (sym is)
plain_taken k deep (row.states d) more is = no (sym is)
plain_taken k deep (row.abstract_type n o) more is = no (sym is)
plain_taken k deep (row.struct_type d) more is = no (sym is)
plain_taken k deep (row.variant_type n h c) more is = no (sym is)
plain_taken k deep (row.case_of c) more is = no (sym is)
plain_taken k deep (row.function f) more is = no (sym is)
plain_taken k deep (row.external f) more is = no (sym is)
plain_taken k deep (row.choose e a b m) more is = no (sym is)
plain_taken k deep (row.loop e a m n) more is = no (sym is)
plain_taken k deep (row.switch v hs m) more is = no (sym is)
plain_taken k deep (row.focus y z a) more is = no (sym is)
plain_taken k deep (row.scope a) more is = no (sym is)

deep_so : (within : Bool) (t : Taken Draft) → within ≡ true → if_deep within t ≡ Some t
deep_so within t is = ap (λ b. if b then Some t else None) is

bare_is : (n : ℕ) (bound : List Tok) (ss : Drafts) → ss ≡ done → bare (n, bound) ≡ block n bound ss
bare_is n bound ss is = ap (block n bound) (sym is)

all_bare : (arms : Arms) → AreBare arms → bare_arms (arm_heads arms) ≡ arms
all_bare no_arms h = refl
all_bare (arm c vs (block n bound ss) rest) h = ap (λ b. arm c vs b (bare_arms (arm_heads rest))) (bare_is n bound ss h.0) ∙
    ap (arm c vs (block n bound ss)) (all_bare rest h.1)

bare_rows : (arms : Arms) → AreBare arms → arms_rows arms ≡ []
bare_rows no_arms h = refl
bare_rows (arm c vs (block n bound ss) rest) h = ap (λ xs. list_rows xs ++ arms_rows rest) h.0 ∙ bare_rows rest h.1

-- a second block after a first one that is whole or not
second : (go : Rest → Taken Block) (mk : Block → Block → Draft) (a : Block) (w : Bool) (n : ℕ) (bound : List Tok) (ss : Drafts) (more : Rest) →
    (w ≡ true → go (map Some (list_rows ss) ++ more) ≡ (block n bound ss, more, is_whole_list n ss)) → (w ≡ false → ss ≡ done) →
    then_block (a, map Some (list_rows ss) ++ more, w) go (n, bound) mk ≡ (mk a (block n bound ss), more, w && is_whole_list n ss)
second go mk a true n bound ss more goes empty = ap (λ (u : Taken Block). (mk a u.0, u.1, u.2)) (goes refl)
second go mk a false n bound ss more goes empty =
    let e = empty refl in
    ap (λ b. (mk a b, map Some (list_rows ss) ++ more, false)) (bare_is n bound ss e) ∙
    ap (λ xs. (mk a (block n bound ss), map Some (list_rows xs) ++ more, false)) e

arms_after : (go : Rest → Taken Arms) (c : ℕ) (vs : List ℕ) (b : Block) (w : Bool) (rest : Arms) (more : Rest) →
    (w ≡ true → go (map Some (arms_rows rest) ++ more) ≡ (rest, more, are_whole_arms rest)) → (w ≡ false → AreBare rest) →
    then_arms c vs (b, map Some (arms_rows rest) ++ more, w) go (arm_heads rest) ≡ (arm c vs b rest, more, w && are_whole_arms rest)
arms_after go c vs b true rest more goes empty = ap (λ (u : Taken Arms). (arm c vs b u.0, u.1, u.2)) (goes refl)
arms_after go c vs b false rest more goes empty =
    let e = empty refl in
    ap (λ xs. (arm c vs b xs, map Some (arms_rows rest) ++ more, false)) (all_bare rest e) ∙
    ap (λ xs. (arm c vs b rest, map Some xs ++ more, false)) (bare_rows rest e)

rest_after : (go : Rest → Taken Drafts) (f : Draft) (w : Bool) (n : ℕ) (rest : Drafts) (more ds : Rest) →
    (w ≡ true → go (map Some (list_rows rest) ++ more) ≡ (rest, more, is_whole_list n rest)) → (w ≡ false → rest ≡ done) →
    then_drafts (Some (f, map Some (list_rows rest) ++ more, w)) go ds ≡ (next f rest, more, w && is_whole_list n rest)
rest_after go f true n rest more ds goes empty = ap (λ (u : Taken Drafts). (next f u.0, u.1, u.2)) (goes refl)
rest_after go f false n rest more ds goes empty =
    let e = empty refl in
    ap (λ xs. (next f xs, map Some (list_rows rest) ++ more, false)) (sym e) ∙ ap (λ xs. (next f rest, map Some (list_rows xs) ++ more, false)) e

mutual
  pub taken : (x : Draft) (k deep : ℕ) (more : Rest) → need x ≤ k → IsTaken deep x more →
      take_draft k deep (map Some (draft_rows x) ++ more) ≡ Some (x, more, is_whole_draft x)
  taken (plain r) zero deep more h t = absurd (omega (arith, h))
  taken (plain r) (suc k) deep more h t = plain_taken k deep r more t
  taken (choose e a b m) zero deep more h t = absurd (omega (arith, h))
  taken (choose e (block n1 b1 s1) (block n2 b2 s2) m) (suc k) deep more h t =
      ap (λ ds. take_draft (suc k) deep (Some (row.choose e (n1, b1) (n2, b2) m) ∷ ds)) (split (list_rows s1) (list_rows s2) more)
      ∙ deep_so _ _ t.0
      ∙ ap Some (ap (λ x. then_block (a_block (n1, b1) x) (λ rest. a_block (n2, b2) (take_drafts k (suc deep) n2 rest)) (n2, b2)
      (λ x y. choose e x y m))
      (taken_list s1 k (suc deep) n1 (map Some (list_rows s2) ++ more) (omega (arith, h)) t.1)
      ∙ second (λ rest. a_block (n2, b2) (take_drafts k (suc deep) n2 rest)) (λ x y. choose e x y m) (block n1 b1 s1)
      (is_whole_list n1 s1) n2 b2 s2 more
      (λ w. ap (a_block (n2, b2)) (taken_list s2 k (suc deep) n2 more (omega (arith, h)) (t.2 w))) t.3)
  taken (loop e a m n) zero deep more h t = absurd (omega (arith, h))
  taken (loop e (block n1 b1 s1) m n) (suc k) deep more h t =
      deep_so _ _ t.0 ∙ ap (λ x. Some (one_block (a_block (n1, b1) x) (λ x. loop e x m n)))
      (taken_list s1 k (suc deep) n1 more (omega (arith, h)) t.1)
  taken (switch v arms m) zero deep more h t = absurd (omega (arith, h))
  taken (switch v arms m) (suc k) deep more h t =
      deep_so _ _ t.0 ∙ ap (λ (x : Taken Arms). Some (switch v x.0 m, x.1, x.2)) (taken_arms arms k (suc deep) more (omega (arith, h)) t.1)
  taken (focus y z a) zero deep more h t = absurd (omega (arith, h))
  taken (focus y z (block n1 b1 s1)) (suc k) deep more h t =
      deep_so _ _ t.0 ∙ ap (λ x. Some (one_block (a_block (n1, b1) x) (focus y z))) (taken_list s1 k (suc deep) n1 more (omega (arith, h)) t.1)
  taken (scope a) zero deep more h t = absurd (omega (arith, h))
  taken (scope (block n1 b1 s1)) (suc k) deep more h t =
      deep_so _ _ t.0 ∙ ap (λ x. Some (one_block (a_block (n1, b1) x) scope)) (taken_list s1 k (suc deep) n1 more (omega (arith, h)) t.1)

  pub taken_list : (ss : Drafts) (k deep n : ℕ) (more : Rest) → need_list ss ≤ k → AreTaken deep n ss more →
      take_drafts k deep n (map Some (list_rows ss) ++ more) ≡ (ss, more, is_whole_list n ss)
  taken_list done zero deep n more h t = absurd (omega (arith, h))
  taken_list done (suc k) deep zero more h t = refl
  taken_list done (suc k) deep (suc n) more h t = ap (λ x. then_drafts x (take_drafts k deep n) more) (stuck_none k deep more t)
  taken_list (next f rest) zero deep n more h t = absurd (omega (arith, h))
  taken_list (next f rest) (suc k) deep zero more h t = absurd t
  taken_list (next f rest) (suc k) deep (suc n) more h t =
      ap (take_drafts (suc k) deep (suc n)) (split (draft_rows f) (list_rows rest) more)
      ∙ ap (λ x. then_drafts x (take_drafts k deep n) (map Some (draft_rows f) ++ (map Some (list_rows rest) ++ more)))
      (taken f k deep (map Some (list_rows rest) ++ more) (omega (arith, h)) t.0)
      ∙ rest_after (take_drafts k deep n) f (is_whole_draft f) n rest more (map Some (draft_rows f) ++
      (map Some (list_rows rest) ++ more)) (λ w. taken_list rest k deep n more (omega (arith, h)) (t.1 w)) t.2

  pub taken_arms : (arms : Arms) (k deep : ℕ) (more : Rest) → need_arms arms ≤ k → AreTakenArms deep arms more →
      take_arms k deep (arm_heads arms) (map Some (arms_rows arms) ++ more) ≡ (arms, more, are_whole_arms arms)
  taken_arms no_arms zero deep more h t = absurd (omega (arith, h))
  taken_arms no_arms (suc k) deep more h t = refl
  taken_arms (arm c vs b rest) zero deep more h t = absurd (omega (arith, h))
  taken_arms (arm c vs (block n1 b1 s1) rest) (suc k) deep more h t =
      ap (take_arms (suc k) deep ((c, vs, n1, b1) ∷ arm_heads rest)) (split (list_rows s1) (arms_rows rest) more)
      ∙ ap (λ x. then_arms c vs (a_block (n1, b1) x) (take_arms k deep (arm_heads rest)) (arm_heads rest))
      (taken_list s1 k deep n1 (map Some (arms_rows rest) ++ more) (omega (arith, h)) t.0)
      ∙ arms_after (take_arms k deep (arm_heads rest)) c vs (block n1 b1 s1) (is_whole_list n1 s1) rest more
      (λ w. taken_arms rest k deep more (omega (arith, h)) (t.1 w)) t.2

-- ---- rows say one thing

pub one_thing : (deep n : ℕ) (x y : Drafts) (more rest : Rest) → AreTaken deep n x more → AreTaken deep n y rest →
    map Some (list_rows x) ++ more ≡ map Some (list_rows y) ++ rest → (x ≡ y) × (more ≡ rest)
one_thing deep n x y more rest tx ty same =
    let k = need_list x + need_list y in
    let ax = taken_list x k deep n more (omega arith) tx in
    let ay = taken_list y k deep n rest (omega arith) ty in
    let e = sym ax ∙ ap (take_drafts k deep n) same ∙ ay in
    (ap (λ (t : Taken Drafts). t.0) e, ap (λ (t : Taken Drafts). t.1) e)
