-- One statement more of a block, and one arm more of a switch.
use Rattle.std.proofs.Common.{◌≡◌, ◌≤◌, ◌<◌, ◌+◌, ◌-◌, ◌==◌, not, refl, sym, ap, ◌∙◌, subst, ℕ, zero, suc, ◌&&◌, Bool, true, false, true≢false, if◌then◌else◌, List, [], ◌∷◌, ◌++◌, map, length, Option, Some, None, arith}
use Rattle.std.proofs.lemmas.Bool.Decides.{nat_tests}
use Rattle.serde_json.specs.declared.value.Value.{Value}
use Rattle.vlt_core.specs.Core.{Tok}
use Rattle.cert_format.specs.Drafts as s
use Rattle.cert_format.specs.Drafts.{draft_rows, list_rows, is_whole_list, IsStuck, IsTaken, AreTaken}
use Rattle.cert_format.specs.Bodies.{size, size_list}
use Rattle.cert_format.specs.Endings.{never, unsure, list_ending, wrong_draft, wrong_list, or_else}
use Rattle.cert_read_parts.specs.Endings.{ending_of}
use Rattle.cert_read_bodies.specs.Tree.{draft_of, drafts_of}
use Rattle.cert_read_bodies.specs.Reads.{rest_at, IsReadDraft, IsReadBlock}
use Rattle.cert_read_bodies.proofs.Listing.{Listing}
use Rattle.cert_read_bodies.specs.declared.tree.Draft.{Draft}
use Rattle.cert_read_parts.specs.declared.endings.Ending.{Ending}
use Rattle.cert_read_parts.specs.declared.endings.Ending.TheVariants.{Never}
use Rattle.cert_read_bodies.specs.declared.read.ReadDraft.{ReadDraft}
use Rattle.cert_read_bodies.specs.declared.read.ReadBlock.{ReadBlock}
use Rattle.cert_read_bodies.proofs.Rowed.{split}

pub joined : {A : Type 0} (xs ys zs : List A) → (xs ++ ys) ++ zs ≡ xs ++ (ys ++ zs)
joined [] ys zs = refl
joined (x ∷ xs) ys zs = ap (λ l. x ∷ l) (joined xs ys zs)

pub no_end : {A : Type 0} (xs : List A) → xs ++ [] ≡ xs
no_end [] = refl
no_end (x ∷ xs) = ap (λ z. x ∷ z) (no_end xs)

rows_with : (fs : List Draft) (f : Draft) → list_rows (drafts_of (fs ++ f ∷ [])) ≡ list_rows (drafts_of fs) ++ draft_rows (draft_of f)
rows_with [] f = no_end (draft_rows (draft_of f))
rows_with (g ∷ fs) f = ap (λ x. draft_rows (draft_of g) ++ x) (rows_with fs f) ∙ sym (joined (draft_rows (draft_of g)) (list_rows (drafts_of fs)) (draft_rows (draft_of f)))

size_with : (fs : List Draft) (f : Draft) → size_list (drafts_of (fs ++ f ∷ [])) ≡ size_list (drafts_of fs) + size (draft_of f)
size_with [] f = omega arith
size_with (g ∷ fs) f = let h = size_with fs f in omega (arith, h)

pub or_else_joined : (a b c : Option ℕ) → or_else a (or_else b c) ≡ or_else (or_else a b) c
or_else_joined None b c = refl
or_else_joined (Some x) b c = refl

pub or_none : (a : Option ℕ) → or_else a None ≡ a
or_none None = refl
or_none (Some x) = refl

pub began : (n : Option ℕ) (at deep count : ℕ) (rows : List Value) → at ≤ length rows → Listing n at deep count rows 0 [] at Never None
began n at deep count rows h =
    let all : count - 0 ≡ count = omega arith in
    record {
      made = refl;
      goes_on = omega arith;
      within = h;
      further = omega arith;
      turns = omega arith;
      entire = λ more. ap (λ k. is_whole_list k (drafts_of more)) (sym all);
      ending = λ more. ap (λ k. list_ending k never (drafts_of more)) (sym all);
      fault = λ more. refl;
      taken = λ more rest e t. subst (λ k. AreTaken deep k (drafts_of more) rest) all t;
    }

module _ (n : Option ℕ) (from deep count : ℕ) (rows : List Value) (turn : ℕ) (stmts : List Draft) (at : ℕ) (ends : Ending) (wrong_row : Option ℕ) (h : Listing n from deep count rows turn stmts at ends wrong_row) where
  made_with : (f : Draft) (r : ReadDraft) → IsReadDraft n at deep rows (draft_of f) r → rest_at n rows from ≡ map Some (list_rows (drafts_of (stmts ++ f ∷ []))) ++ rest_at n rows r.at
  made_with f r p =
      h.made ∙ ap (λ z. map Some (list_rows (drafts_of stmts)) ++ z) p.made ∙ sym (split (list_rows (drafts_of stmts)) (draft_rows (draft_of f)) (rest_at n rows r.at))
      ∙ ap (λ z. map Some z ++ rest_at n rows r.at) (sym (rows_with stmts f))

  pub turned : (f : Draft) (r : ReadDraft) → turn < count → IsReadDraft n at deep rows (draft_of f) r → r.whole ≡ true → Listing n from deep count rows (turn + 1) (stmts ++ f ∷ []) r.at r.ends (or_else wrong_row r.wrong)
  turned f r room p all = record {
    made = made_with f r p;
    goes_on = let a = size_with stmts f in let b = p.goes_on in let c = h.goes_on in omega (arith, a, b, c);
    within = p.within;
    further = let a = h.further in let b = p.further in omega (arith, a, b);
    turns = omega (arith, room);
    entire = λ more. ap (λ z. is_whole_list count (drafts_of z)) (joined stmts (f ∷ []) more) ∙ h.entire (f ∷ more) ∙ ap (λ k. is_whole_list k (drafts_of (f ∷ more))) step
        ∙ ap (λ b. b && is_whole_list (count - (turn + 1)) (drafts_of more)) (sym p.entire ∙ all);
    ending = λ more. ap (λ z. list_ending count never (drafts_of z)) (joined stmts (f ∷ []) more) ∙ h.ending (f ∷ more) ∙ ap (λ k. list_ending k (ending_of ends) (drafts_of (f ∷ more))) step
        ∙ ap (λ z. list_ending (count - (turn + 1)) z (drafts_of more)) (sym p.ending);
    fault = λ more. ap (λ z. wrong_list from (drafts_of z)) (joined stmts (f ∷ []) more) ∙ h.fault (f ∷ more)
        ∙ ap (λ z. or_else wrong_row (or_else z (wrong_list (at + size (draft_of f)) (drafts_of more)))) (sym p.fault)
        ∙ ap (λ z. or_else wrong_row (or_else r.wrong (wrong_list z (drafts_of more)))) (sym p.goes_on)
        ∙ or_else_joined wrong_row r.wrong (wrong_list r.at (drafts_of more));
    taken = λ more rest e t. subst (λ z. AreTaken deep count (drafts_of z) rest) (sym (joined stmts (f ∷ []) more))
        (h.taken (f ∷ more) rest (p.made ∙ ap (λ z. map Some (draft_rows (draft_of f)) ++ z) e ∙ sym (split (draft_rows (draft_of f)) (list_rows (drafts_of more)) rest))
        (subst (λ k. AreTaken deep k (drafts_of (f ∷ more)) rest) (sym step) (subst (IsTaken deep (draft_of f)) e p.taken, (λ w. t), (λ w. absurd (true≢false (sym (sym p.entire ∙ all) ∙ w))))));
  }
    where
      step : count - turn ≡ suc (count - (turn + 1))
      step = omega (arith, room)

  pub finished : (bound : List Tok) (b : s.Block) (r : ReadBlock) → turn ≡ count → b ≡ s.block count bound (drafts_of stmts) → r.at ≡ at → r.whole ≡ true → r.ends ≡ ends → r.wrong ≡ wrong_row → IsReadBlock n from deep rows b r
  finished bound b r all is next whole_is ends_are wrong_is = subst (λ z. IsReadBlock n from deep rows z r) (sym is) (record {
    made = h.made ∙ ap (λ z. map Some (list_rows (drafts_of stmts)) ++ rest_at n rows z) (sym next);
    goes_on = next ∙ h.goes_on;
    within = let a = h.within in omega (arith, next, a);
    further = let a = h.further in omega (arith, next, a);
    entire = whole_is ∙ sym (ap (λ z. is_whole_list count (drafts_of z)) (sym (no_end stmts)) ∙ h.entire [] ∙ ap (λ k. is_whole_list k s.done) none);
    ending = ap ending_of ends_are ∙ sym (ap (λ z. list_ending count never (drafts_of z)) (sym (no_end stmts)) ∙ h.ending [] ∙ ap (λ k. list_ending k (ending_of ends) s.done) none);
    fault = wrong_is ∙ sym (ap (λ z. wrong_list from (drafts_of z)) (sym (no_end stmts)) ∙ h.fault [] ∙ or_none wrong_row);
    taken = subst (λ z. AreTaken deep count (drafts_of z) (rest_at n rows r.at)) (no_end stmts)
        (h.taken [] (rest_at n rows r.at) (ap (rest_at n rows) (sym next)) (subst (λ k. AreTaken deep k s.done (rest_at n rows r.at)) (sym none) tt));
  })
    where
      none : count - turn ≡ 0
      none = omega (arith, all)

  pub broken_off : (bound : List Tok) (b : s.Block) (r : ReadBlock) → turn < count → IsStuck deep (rest_at n rows at) → b ≡ s.block count bound (drafts_of stmts) → r.at ≡ at → r.whole ≡ false → ending_of r.ends ≡ unsure → r.wrong ≡ wrong_row →
      IsReadBlock n from deep rows b r
  broken_off bound b r room stuck is next whole_is ends_are wrong_is = subst (λ z. IsReadBlock n from deep rows z r) (sym is) (record {
    made = h.made ∙ ap (λ z. map Some (list_rows (drafts_of stmts)) ++ rest_at n rows z) (sym next);
    goes_on = next ∙ h.goes_on;
    within = let a = h.within in omega (arith, next, a);
    further = let a = h.further in omega (arith, next, a);
    entire = whole_is ∙ sym (ap (λ z. is_whole_list count (drafts_of z)) (sym (no_end stmts)) ∙ h.entire [] ∙ ap (λ k. is_whole_list k s.done) step);
    ending = ends_are ∙ sym (ap (λ z. list_ending count never (drafts_of z)) (sym (no_end stmts)) ∙ h.ending [] ∙ ap (λ k. list_ending k (ending_of ends) s.done) step);
    fault = wrong_is ∙ sym (ap (λ z. wrong_list from (drafts_of z)) (sym (no_end stmts)) ∙ h.fault [] ∙ or_none wrong_row);
    taken = subst (λ z. AreTaken deep count (drafts_of z) (rest_at n rows r.at)) (no_end stmts)
        (h.taken [] (rest_at n rows r.at) (ap (rest_at n rows) (sym next)) (subst (λ k. AreTaken deep k s.done (rest_at n rows r.at)) (sym step) (subst (λ z. IsStuck deep (rest_at n rows z)) (sym next) stuck)));
  })
    where
      step : count - turn ≡ suc (count - (turn + 1))
      step = omega (arith, room)

  last_or : (k : ℕ) (m : Ending) (b : Bool) → (b ≡ true → k ≡ 0) → (b ≡ false → 1 ≤ k) → list_ending k (ending_of m) s.done ≡ (if b then ending_of m else unsure)
  last_or zero m true p q = refl
  last_or zero m false p q = absurd (let e = q refl in omega (arith, e))
  last_or (suc k) m true p q = absurd (let e = p refl in omega (arith, e))
  last_or (suc k) m false p q = refl

  -- a statement that breaks off is the last one that is there
  pub cut : (bound : List Tok) (f : Draft) (p : ReadDraft) (b : s.Block) (r : ReadBlock) (last : Bool) → turn < count → IsReadDraft n at deep rows (draft_of f) p → p.whole ≡ false → (last ≡ true → turn + 1 ≡ count) → (last ≡ false → turn + 1 < count) →
      b ≡ s.block count bound (drafts_of (stmts ++ f ∷ [])) → r.at ≡ p.at → r.whole ≡ false → ending_of r.ends ≡ (if last then ending_of p.ends else unsure) → r.wrong ≡ or_else wrong_row p.wrong → IsReadBlock n from deep rows b r
  cut bound f p b r last room k broken is_last is_not is next whole_is ends_are wrong_is = subst (λ z. IsReadBlock n from deep rows z r) (sym is) (record {
    made = made_with f p k ∙ ap (λ z. map Some (list_rows (drafts_of (stmts ++ f ∷ []))) ++ rest_at n rows z) (sym next);
    goes_on = let a = size_with stmts f in let b = k.goes_on in let c = h.goes_on in omega (arith, a, b, c, next);
    within = let a = k.within in omega (arith, next, a);
    further = let a = h.further in let b = k.further in omega (arith, next, a, b);
    entire = whole_is ∙ sym (h.entire (f ∷ []) ∙ ap (λ z. is_whole_list z (drafts_of (f ∷ []))) step ∙ ap (λ b. b && is_whole_list (count - (turn + 1)) s.done) (sym k.entire ∙ broken));
    ending = ends_are ∙ sym (h.ending (f ∷ []) ∙ ap (λ z. list_ending z (ending_of ends) (drafts_of (f ∷ []))) step
        ∙ ap (λ z. list_ending (count - (turn + 1)) z s.done) (sym k.ending)
        ∙ last_or (count - (turn + 1)) p.ends last (λ e. let a = is_last e in omega (arith, a)) (λ e. let a = is_not e in omega (arith, a)));
    fault = wrong_is ∙ sym (h.fault (f ∷ []) ∙ ap (or_else wrong_row) (or_none (wrong_draft at (draft_of f)) ∙ sym k.fault));
    taken = h.taken (f ∷ []) (rest_at n rows r.at) (k.made ∙ ap (λ z. map Some (draft_rows (draft_of f)) ++ rest_at n rows z) (sym next) ∙ ap (λ z. map Some z ++ rest_at n rows r.at) (sym (no_end (draft_rows (draft_of f)))))
        (subst (λ z. AreTaken deep z (drafts_of (f ∷ [])) (rest_at n rows r.at)) (sym step) (subst (λ z. IsTaken deep (draft_of f) (rest_at n rows z)) (sym next) k.taken, (λ w. absurd (true≢false (sym w ∙ (sym k.entire ∙ broken)))), (λ w. refl)));
  })
    where
      step : count - turn ≡ suc (count - (turn + 1))
      step = omega (arith, room)

pub is_last : (m n : ℕ) → (m == n) ≡ true → m ≡ n
is_last m n e = grind (arith, nat_tests)

pub not_last : (m n : ℕ) → m ≤ n → (m == n) ≡ false → m < n
not_last m n h e = grind (arith, nat_tests)

pub not_whole : (b : Bool) → not b ≡ true → b ≡ false
not_whole true e = sym e
not_whole false e = refl

pub is_whole : (b : Bool) → not b ≡ false → b ≡ true
is_whole true e = refl
is_whole false e = sym e
