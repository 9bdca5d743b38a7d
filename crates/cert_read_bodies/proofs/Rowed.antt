-- One statement more.
use Rattle.std.proofs.Common.{◌≡◌, ◌<◌, ◌+◌, refl, sym, ap, ◌∙◌, subst, ℕ, suc, nat_lt, ◌&&◌, true, if◌then◌else◌, List, [], ◌∷◌, ◌++◌, map, drop, length, Option, Some, None, arith}
use Rattle.std.proofs.lemmas.List.{drop-drop}
use Rattle.std.proofs.lemmas.Bool.Decides.{nat_tests}
use Rattle.serde_json.specs.View.{view}
use Rattle.serde_json.specs.declared.value.Value.{Value}
use Rattle.vlt_core.specs.Core.{Expr}
use Rattle.cert_rows.specs.Rows.{Maps, Row}
use Rattle.cert_rows.specs.Rows as row
use Rattle.cert_format.specs.Drafts as s
use Rattle.cert_format.specs.Drafts.{Draft, Block, Arms, Rest, head, arm_heads, draft_rows, block_rows, arms_rows, is_whole_draft, is_whole_block, is_plain, may_arm, most_block_depth, IsTaken, IsTakenBlock, AreTakenArms}
use Rattle.cert_format.specs.Bodies.{size, size_block}
use Rattle.cert_format.specs.Endings.{both, row_ending, agrees, ending, block_ending, arms_ending, wrong_draft, wrong_block, or_else}
use Rattle.cert_read_rows.specs.Statements.{stmt_of_data, plain_of}
use Rattle.cert_read_rows.specs.declared.plain.PlainRow.{PlainRow}
use Rattle.cert_read_rows.specs.declared.plain.PlainRow.TheVariants as P
use Rattle.cert_read_parts.specs.Endings.{ending_of}
use Rattle.cert_read_bodies.specs.Reads.{rest_at, first_at, IsReadDraft, IsReadBlock, IsReadSecond, IsReadArms}
use Rattle.cert_read_bodies.specs.declared.read.ReadDraft.{ReadDraft}
use Rattle.cert_read_bodies.specs.declared.read.ReadBlock.{ReadBlock}
use Rattle.cert_read_bodies.specs.declared.read.ReadArms.{ReadArms}

-- rows after others
pub split : (xs ys : List Row) (more : Rest) → map Some (xs ++ ys) ++ more ≡ map Some xs ++ (map Some ys ++ more)
split [] ys more = refl
split (x ∷ xs) ys more = ap (λ z. Some x ∷ z) (split xs ys more)

-- a row and those after it
pub first_row : (n : Option ℕ) (rows : List Value) (at : ℕ) (r : Row) → first_at (rest_at n rows at) ≡ Some r → rest_at n rows at ≡ Some r ∷ rest_at n rows (at + 1)
first_row n rows at r e = by (drop at rows) e ∙ ap (λ vs. Some r ∷ map (stmt_of_data n) (map view vs)) (drop-drop 1 at rows)
  where
    none : (r : Row) → None ≡ Some r → ⊥
    none r e = cc

    by : (vs : List Value) → first_at (map (stmt_of_data n) (map view vs)) ≡ Some r → map (stmt_of_data n) (map view vs) ≡ Some r ∷ map (stmt_of_data n) (map view (drop 1 vs))
    by [] e = absurd (none r e)
    by (v ∷ vs) e = ap (λ z. z ∷ map (stmt_of_data n) (map view vs)) e

pub is_plain_row : (r : PlainRow) → is_plain (plain_of r) ≡ true
is_plain_row (P.Set v e) = refl
is_plain_row (P.Input v more) = refl
is_plain_row (P.Print e) = refl
is_plain_row (P.Put x i e) = refl
is_plain_row (P.New x args) = refl
is_plain_row (P.Become x state) = refl
is_plain_row (P.Release x) = refl
is_plain_row (P.Drop v) = refl
is_plain_row (P.Own v value) = refl
is_plain_row (P.Unpack x v) = refl
is_plain_row (P.Build v case args) = refl
is_plain_row (P.Call f target keys args) = refl
is_plain_row (P.Swap x i v) = refl
is_plain_row (P.Open x into) = refl
is_plain_row (P.Adopt y x r) = refl
is_plain_row (P.Return value) = refl
is_plain_row (P.Jump continues) = refl

module _ (n : Option ℕ) (at deep : ℕ) (rows : List Value) where
  pub simple : (r : Row) (x : ReadDraft) → at < length rows → first_at (rest_at n rows at) ≡ Some r → is_plain r ≡ true → x.at ≡ at + 1 → x.whole ≡ true → ending_of x.ends ≡ row_ending r → x.wrong ≡ None →
      IsReadDraft n at deep rows (s.plain r) x
  simple r x room here is next whole ends wrong = record {
    made = first_row n rows at r here ∙ ap (λ k. Some r ∷ rest_at n rows k) (sym next);
    goes_on = next;
    within = omega (arith, next, room);
    further = omega (arith, next);
    entire = whole;
    ending = ends;
    fault = wrong;
    taken = is;
  }

  pub blocked : (r : Row) (b : Block) (d : Draft) (p : ReadBlock) (x : ReadDraft) → at < length rows → first_at (rest_at n rows at) ≡ Some r → draft_rows d ≡ r ∷ block_rows b → size d ≡ 1 + size_block b →
      is_whole_draft d ≡ is_whole_block b → wrong_draft at d ≡ wrong_block (at + 1) b → ((more : Rest) → IsTakenBlock (suc deep) b more → IsTaken deep d more) → IsReadBlock n (at + 1) (deep + 1) rows b p →
      x.at ≡ p.at → x.whole ≡ p.whole → ending_of x.ends ≡ ending d → x.wrong ≡ p.wrong → IsReadDraft n at deep rows d x
  blocked r b d p x room here has one all at_odds takes k next whole ends wrong = record {
    made = first_row n rows at r here ∙ ap (λ z. Some r ∷ z) (k.made ∙ ap (λ z. map Some (block_rows b) ++ rest_at n rows z) (sym next))
        ∙ ap (λ z. map Some z ++ rest_at n rows x.at) (sym has);
    goes_on = next ∙ k.goes_on ∙ (let e : at + 1 + size_block b ≡ at + (1 + size_block b) = omega arith in e) ∙ ap (λ z. at + z) (sym one);
    within = let h = k.within in omega (arith, next, h);
    further = let h = k.further in omega (arith, next, h);
    entire = whole ∙ k.entire ∙ sym all;
    ending = ends;
    fault = wrong ∙ k.fault ∙ sym at_odds;
    taken = takes (rest_at n rows x.at) (subst (λ m. IsTakenBlock m b (rest_at n rows x.at)) up (subst (λ z. IsTakenBlock (deep + 1) b (rest_at n rows z)) (sym next) k.taken));
  }
    where
      up : deep + 1 ≡ suc deep
      up = omega arith

  pub chosen : (e : Expr) (a b : Block) (m : Option Maps) (p q : ReadBlock) (x : ReadDraft) → at < length rows → nat_lt deep most_block_depth ≡ true → first_at (rest_at n rows at) ≡ Some (row.choose e (head a) (head b) m) →
      IsReadBlock n (at + 1) (deep + 1) rows a p → IsReadSecond n p.at (deep + 1) rows p.whole b q → x.at ≡ q.at → x.whole ≡ q.whole → ending_of x.ends ≡ both (ending_of p.ends) (ending_of q.ends) →
      x.wrong ≡ (if agrees (both (ending_of p.ends) (ending_of q.ends)) m then or_else p.wrong q.wrong else Some at) → IsReadDraft n at deep rows (s.choose e a b m) x
  chosen e a b m p q x room within here h k next whole ends wrongs = record {
    made = first_row n rows at (row.choose e (head a) (head b) m) here
        ∙ ap (λ z. Some (row.choose e (head a) (head b) m) ∷ z) (h.made ∙ ap (λ z. map Some (block_rows a) ++ z) (k.made ∙ ap (λ z. map Some (block_rows b) ++ rest_at n rows z) (sym next)) ∙ sym (split (block_rows a) (block_rows b) (rest_at n rows x.at)));
    goes_on = let i = h.goes_on in let j = k.goes_on in omega (arith, next, i, j);
    within = let i = k.within in omega (arith, next, i);
    further = let i = h.further in let j = k.further in omega (arith, next, i, j);
    entire = whole ∙ k.entire ∙ ap (λ w. w && is_whole_block b) h.entire;
    ending = ends ∙ ap (λ z. both z (ending_of q.ends)) h.ending ∙ ap (both (block_ending a)) k.ending;
    fault = wrongs ∙ ap (λ z. if agrees (both z (ending_of q.ends)) m then or_else p.wrong q.wrong else Some at) h.ending
        ∙ ap (λ z. if agrees (both (block_ending a) z) m then or_else p.wrong q.wrong else Some at) k.ending
        ∙ ap (λ z. if agrees (both (block_ending a) (block_ending b)) m then or_else z q.wrong else Some at) h.fault
        ∙ ap (λ z. if agrees (both (block_ending a) (block_ending b)) m then or_else (wrong_block (at + 1) a) z else Some at) (k.fault ∙ ap (λ z. wrong_block z b) h.goes_on);
    taken = (
      within,
      subst (λ z. IsTakenBlock z a (map Some (block_rows b) ++ rest_at n rows x.at)) up (subst (IsTakenBlock (deep + 1) a) (k.made ∙ ap (λ z. map Some (block_rows b) ++ rest_at n rows z) (sym next)) h.taken),
      (λ w. subst (λ z. IsTakenBlock z b (rest_at n rows x.at)) up (subst (λ z. IsTakenBlock (deep + 1) b (rest_at n rows z)) (sym next) (k.taken (h.entire ∙ w)))),
      (λ w. k.bare (h.entire ∙ w)),
    );
  }
    where
      up : deep + 1 ≡ suc deep
      up = omega arith

  pub switched : (v : ℕ) (arms : Arms) (m : Option Maps) (inner : ℕ) (p : ReadArms) (x : ReadDraft) → at < length rows → may_arm deep (arm_heads arms) ≡ true → (deep < 64 → inner ≡ deep + 1) →
      first_at (rest_at n rows at) ≡ Some (row.switch v (arm_heads arms) m) → IsReadArms n (at + 1) inner rows arms p → x.at ≡ p.at → x.whole ≡ p.whole → ending_of x.ends ≡ ending_of p.ends →
      x.wrong ≡ (if agrees (ending_of p.ends) m then p.wrong else Some at) → IsReadDraft n at deep rows (s.switch v arms m) x
  switched v arms m inner p x room within up here h next whole ends wrongs = record {
    made = first_row n rows at (row.switch v (arm_heads arms) m) here ∙ ap (λ z. Some (row.switch v (arm_heads arms) m) ∷ z) (h.made ∙ ap (λ z. map Some (arms_rows arms) ++ rest_at n rows z) (sym next));
    goes_on = let i = h.goes_on in omega (arith, next, i);
    within = let i = h.within in omega (arith, next, i);
    further = let i = h.further in omega (arith, next, i);
    entire = whole ∙ h.entire;
    ending = ends ∙ h.ending;
    fault = wrongs ∙ ap (λ z. if agrees z m then p.wrong else Some at) h.ending ∙ ap (λ z. if agrees (arms_ending arms) m then z else Some at) h.fault;
    taken = (within, by arms within (subst (λ z. AreTakenArms inner arms (rest_at n rows z)) (sym next) h.taken));
  }
    where
      below : nat_lt deep most_block_depth ≡ true → deep < 64
      below w = grind (arith, nat_tests)

      by : (arms : Arms) → may_arm deep (arm_heads arms) ≡ true → AreTakenArms inner arms (rest_at n rows x.at) → AreTakenArms (suc deep) arms (rest_at n rows x.at)
      by s.no_arms w t = tt
      by (s.arm c vs (s.block k bound ss) rest) w t = subst (λ z. AreTakenArms z (s.arm c vs (s.block k bound ss) rest) (rest_at n rows x.at)) (up (below w) ∙ (let e : deep + 1 ≡ suc deep = omega arith in e)) t

pub deep_so : (deep : ℕ) → deep < 64 → nat_lt deep most_block_depth ≡ true
deep_so deep h = grind (arith, nat_tests)
