-- One arm more of a switch.
use Rattle.std.proofs.Common.{◌≡◌, ◌≤◌, ◌<◌, ◌+◌, refl, sym, ap, ◌∙◌, subst, ℕ, zero, suc, ◌&&◌, Bool, true, false, List, [], ◌∷◌, ◌++◌, map, drop, drop-cons, get_or, length, Option, Some, arith}
use Rattle.serde_json.specs.declared.value.Value.{Value}
use Rattle.cert_rows.specs.Rows as row
use Rattle.cert_format.specs.Drafts as s
use Rattle.cert_format.specs.Drafts.{head, arm_heads, block_rows, arms_rows, is_whole_block, are_whole_arms, IsTakenBlock, AreTakenArms}
use Rattle.cert_format.specs.Bodies.{size_block, size_arms}
use Rattle.cert_format.specs.Endings.{Ending, sure, never, unsure, both, block_ending, arms_ending, wrong_arms, or_else}
use Rattle.cert_read_rows.specs.Heads.{arm_of as head_of_arm}
use Rattle.cert_read_rows.specs.declared.heads.ArmHead.{ArmHead}
use Rattle.vlt_base.specs.declared.ids.VarId.{VarId}
use Rattle.vlt_core.specs.declared.held.Tok.{Tok}
use Rattle.vlt_core.specs.View.{vars_of}
use Rattle.vlt_core.specs.HeldView.{toks_of}
use Rattle.cert_read_parts.specs.Endings.{ending_of}
use Rattle.cert_read_bodies.specs.Tree.{ArmView, arm_of, arms_of}
use Rattle.cert_read_bodies.specs.Reads.{rest_at, IsReadSecond, IsReadArms}
use Rattle.cert_read_bodies.proofs.Listing.{Arming}
use Rattle.cert_read_bodies.specs.declared.tree.Arm.{Arm}
use Rattle.cert_read_parts.specs.declared.endings.Ending.{Ending as CodeEnding}
use Rattle.cert_read_bodies.specs.declared.read.ReadBlock.{ReadBlock}
use Rattle.cert_read_bodies.specs.declared.read.ReadArms.{ReadArms}
use Rattle.cert_read_bodies.proofs.Rowed.{split}
use Rattle.cert_read_bodies.proofs.Turned.{joined, no_end, or_else_joined, or_none}

-- the head of an arm
abbrev pub head_from : ℕ → List ℕ → s.Block → row.ArmHead
head_from c vs b = (c, vs, (head b).0, (head b).1)

heads_arm : (c : ℕ) (vs : List ℕ) (b : s.Block) (rest : s.Arms) → arm_heads (s.arm c vs b rest) ≡ head_from c vs b ∷ arm_heads rest
heads_arm c vs (s.block n bound ss) rest = refl

abbrev pub view_head : Arm → row.ArmHead
view_head x = head_from (arm_of x).0 (arm_of x).1 (arm_of x).2

heads_with : (xs : List Arm) (x : Arm) → arm_heads (arms_of (xs ++ x ∷ [])) ≡ arm_heads (arms_of xs) ++ view_head x ∷ []
heads_with [] x = heads_arm (arm_of x).0 (arm_of x).1 (arm_of x).2 s.no_arms
heads_with (y ∷ ys) x =
    heads_arm (arm_of y).0 (arm_of y).1 (arm_of y).2 (arms_of (ys ++ x ∷ [])) ∙ ap (λ z. view_head y ∷ z) (heads_with ys x)
    ∙ ap (λ z. z ++ view_head x ∷ []) (sym (heads_arm (arm_of y).0 (arm_of y).1 (arm_of y).2 (arms_of ys)))

rows_with : (xs : List Arm) (x : Arm) → arms_rows (arms_of (xs ++ x ∷ [])) ≡ arms_rows (arms_of xs) ++ block_rows (arm_of x).2
rows_with [] x = no_end (block_rows (arm_of x).2)
rows_with (y ∷ ys) x = ap (λ z. block_rows (arm_of y).2 ++ z) (rows_with ys x) ∙ sym (joined (block_rows (arm_of y).2) (arms_rows (arms_of ys)) (block_rows (arm_of x).2))

size_with : (xs : List Arm) (x : Arm) → size_arms (arms_of (xs ++ x ∷ [])) ≡ size_arms (arms_of xs) + size_block (arm_of x).2
size_with [] x = omega arith
size_with (y ∷ ys) x = let h = size_with ys x in omega (arith, h)

and_joined : (a b c : Bool) → (a && (b && c)) ≡ ((a && b) && c)
and_joined true b c = refl
and_joined false b c = refl

both_joined : (a b c : Ending) → both a (both b c) ≡ both (both a b) c
both_joined never b c = refl
both_joined sure b c = refl
both_joined unsure never c = refl
both_joined unsure sure c = refl
both_joined unsure unsure never = refl
both_joined unsure unsure sure = refl
both_joined unsure unsure unsure = refl

both_sure : (a : Ending) → both a sure ≡ a
both_sure never = refl
both_sure sure = refl
both_sure unsure = refl

and_true : (a : Bool) → (a && true) ≡ a
and_true true = refl
and_true false = refl

module _ (n : Option ℕ) (from deep : ℕ) (rows : List Value) (heads : List ArmHead) (turn : ℕ) (arms : List Arm) (at : ℕ) (whole : Bool) (ends : CodeEnding) (wrong_row : Option ℕ)
    (h : Arming n from deep rows heads turn arms at whole ends wrong_row) where
  pub arms_turned : (x : Arm) (hd : ArmHead) (q : ReadBlock) (m : CodeEnding) → drop turn heads ≡ hd ∷ drop (turn + 1) heads → head_of_arm hd ≡ view_head x → IsReadSecond n at deep rows whole (arm_of x).2 q →
      ending_of m ≡ both (ending_of ends) (ending_of q.ends) → Arming n from deep rows heads (turn + 1) (arms ++ x ∷ []) q.at q.whole m (or_else wrong_row q.wrong)
  arms_turned x hd q m here is k ends_are = record {
    heads_of = h.heads_of ∙ ap (λ z. arm_heads (arms_of arms) ++ map head_of_arm z) here ∙ ap (λ z. arm_heads (arms_of arms) ++ (z ∷ map head_of_arm (drop (turn + 1) heads))) is
        ∙ sym (joined (arm_heads (arms_of arms)) (view_head x ∷ []) (map head_of_arm (drop (turn + 1) heads))) ∙ ap (λ z. z ++ map head_of_arm (drop (turn + 1) heads)) (sym (heads_with arms x));
    made = h.made ∙ ap (λ z. map Some (arms_rows (arms_of arms)) ++ z) k.made ∙ sym (split (arms_rows (arms_of arms)) (block_rows (arm_of x).2) (rest_at n rows q.at))
        ∙ ap (λ z. map Some z ++ rest_at n rows q.at) (sym (rows_with arms x));
    goes_on = let a = size_with arms x in let b = k.goes_on in let c = h.goes_on in omega (arith, a, b, c);
    within = k.within;
    further = let a = h.further in let b = k.further in omega (arith, a, b);
    entire = λ more. ap (λ z. are_whole_arms (arms_of z)) (joined arms (x ∷ []) more) ∙ h.entire (x ∷ more) ∙ and_joined whole (is_whole_block (arm_of x).2) (are_whole_arms (arms_of more))
        ∙ ap (λ b. b && are_whole_arms (arms_of more)) (sym k.entire);
    ending = λ more. ap (λ z. arms_ending (arms_of z)) (joined arms (x ∷ []) more) ∙ h.ending (x ∷ more) ∙ both_joined (ending_of ends) (block_ending (arm_of x).2) (arms_ending (arms_of more))
        ∙ ap (λ z. both (both (ending_of ends) z) (arms_ending (arms_of more))) (sym k.ending) ∙ ap (λ z. both z (arms_ending (arms_of more))) (sym ends_are);
    fault = λ more. ap (λ z. wrong_arms from (arms_of z)) (joined arms (x ∷ []) more) ∙ h.fault (x ∷ more)
        ∙ ap (λ z. or_else wrong_row (or_else z (wrong_arms (at + size_block (arm_of x).2) (arms_of more)))) (sym k.fault)
        ∙ ap (λ z. or_else wrong_row (or_else q.wrong (wrong_arms z (arms_of more)))) (sym k.goes_on)
        ∙ or_else_joined wrong_row q.wrong (wrong_arms q.at (arms_of more));
    taken = λ more rest e t bare. subst (λ z. AreTakenArms deep (arms_of z) rest) (sym (joined arms (x ∷ []) more))
        (h.taken (x ∷ more) rest (k.made ∙ ap (λ z. map Some (block_rows (arm_of x).2) ++ z) e ∙ sym (split (block_rows (arm_of x).2) (arms_rows (arms_of more)) rest))
        (λ w. (subst (IsTakenBlock deep (arm_of x).2) e (k.taken w), (λ v. t (k.entire ∙ ap (λ b. b && is_whole_block (arm_of x).2) w ∙ v)), (λ v. bare (k.entire ∙ ap (λ b. b && is_whole_block (arm_of x).2) w ∙ v))))
        (λ w. (k.bare w, bare (k.entire ∙ ap (λ b. b && is_whole_block (arm_of x).2) w))));
  }

  pub arms_finished : (r : ReadArms) → drop turn heads ≡ [] → r.arms ≡ arms → r.at ≡ at → r.whole ≡ whole → r.ends ≡ ends → r.wrong ≡ wrong_row → (arm_heads (arms_of arms) ≡ map head_of_arm heads) × IsReadArms n from deep rows (arms_of arms) r
  arms_finished r all is next whole_is ends_are wrong_is = (
    sym (h.heads_of ∙ ap (λ z. arm_heads (arms_of arms) ++ map head_of_arm z) all ∙ no_end (arm_heads (arms_of arms))),
    record {
      made = h.made ∙ ap (λ z. map Some (arms_rows (arms_of arms)) ++ rest_at n rows z) (sym next);
      goes_on = next ∙ h.goes_on;
      within = let a = h.within in omega (arith, next, a);
      further = let a = h.further in omega (arith, next, a);
      entire = whole_is ∙ sym (ap (λ z. are_whole_arms (arms_of z)) (sym (no_end arms)) ∙ h.entire [] ∙ and_true whole);
      ending = ap ending_of ends_are ∙ sym (ap (λ z. arms_ending (arms_of z)) (sym (no_end arms)) ∙ h.ending [] ∙ both_sure (ending_of ends));
      fault = wrong_is ∙ sym (ap (λ z. wrong_arms from (arms_of z)) (sym (no_end arms)) ∙ h.fault [] ∙ or_none wrong_row);
      taken = subst (λ z. AreTakenArms deep (arms_of z) (rest_at n rows r.at)) (no_end arms) (h.taken [] (rest_at n rows r.at) (ap (rest_at n rows) (sym next)) (λ w. tt) (λ w. tt));
    },
  )

  -- the same from the parts of the arm that is made
  pub arms_turned_by : (x : Arm) (hd : ArmHead) (q : ReadBlock) (m : CodeEnding) (vs : List VarId) (bound : List Tok) (b : s.Block) → turn < length heads → hd ≡ get_or heads turn hd → arm_of x ≡ (hd.case, vars_of vs, b) →
      vs ≡ hd.vars → bound ≡ hd.bound → head b ≡ (hd.count, toks_of bound) → IsReadSecond n at deep rows whole b q → ending_of m ≡ both (ending_of ends) (ending_of q.ends) →
      Arming n from deep rows heads (turn + 1) (arms ++ x ∷ []) q.at q.whole m (or_else wrong_row q.wrong)
  arms_turned_by x hd q m vs bound b room here parts vars_are bound_is head_is k ends_are =
      arms_turned x hd q m at_head
      (ap (λ v. (hd.case, vars_of v, hd.count, toks_of hd.bound)) (sym vars_are) ∙ ap (λ h. (hd.case, vars_of vs, h.0, h.1)) (ap (λ z. (hd.count, toks_of z)) (sym bound_is) ∙ sym head_is)
      ∙ sym (ap (λ (v : ArmView). head_from v.0 v.1 v.2) parts))
      (subst (λ z. IsReadSecond n at deep rows whole z q) (sym (ap (λ (v : ArmView). v.2) parts)) k) ends_are
    where
      at_head : drop turn heads ≡ hd ∷ drop (turn + 1) heads
      at_head = drop-cons heads turn hd room ∙ ap (λ z. z ∷ drop (suc turn) heads) (sym here) ∙ ap (λ z. hd ∷ drop z heads) (let e : suc turn ≡ turn + 1 = omega arith in e)

pub drop_all : {A : Type 0} (i : ℕ) (xs : List A) → length xs ≤ i → drop i xs ≡ []
drop_all zero [] h = refl
drop_all (suc i) [] h = refl
drop_all zero (x ∷ xs) h = absurd (omega (arith, h))
drop_all (suc i) (x ∷ xs) h = drop_all i xs (omega (arith, h))
