-- Where an annotation holds, no path comes to a row that refuses, and no two to a join that is mixed.
use Rattle.std.proofs.Common.{◌≡◌, ◌+◌, ◌⊎◌, ℕ, zero, suc, List, [], ◌∷◌, map, length, Option, None, Some, refl, sym, subst, inl, ⊎_elim}
use Rattle.vlt_core.specs.Core.{Tok, Func, Program}
use Rattle.vlt_core.specs.Maps.{HeldMap, Wanted, Row, row_passed, CanPass, map_after, IsBelow, is_tok, away_row}
use Rattle.vlt_core.specs.Flow.{Flow, step, choose, loop, switch, scope, focus, return, jump, Block, block, Stmts, done, next, Arms, no_arms, arm, end_of, size, size_block}
use Rattle.vlt_core.specs.Bodies.{body_flow}
use Rattle.vlt_core.specs.Derives.{start_map}
use Rattle.vlt_core.specs.Local.{Notes, When, leads, leads_block, leads_stmts, IsLocal, IsLocalBlock, IsLocalStmts, IsLocalArms, IsLocalIn}
use Rattle.vlt_core.specs.Found.{One, one_absent, Ones, Has, to_next, to_continue}
use Rattle.vlt_core.specs.Faults.{If, Spot, IsPresent, IsMixed, IsUnwanted, SpotAtBlock, spots, spots_block, FaultKind, at_row, at_join, FlowFault}
use Rattle.vlt_core.specs.Witness.{Choice, only, LeadsOn, ThroughBlock, Reaches, RowMet, Met, MetBlock, MetStmts, MetArm, Refuses, NoJoin, IsWitnessIn}
use Rattle.vlt_core_laws.proofs.Founds.{IsIn, HasAt, image_in, images_in, rows_fault_none, has_below, mixed_none, local_out, local_out_block, local_out_stmts}
use Rattle.vlt_core_laws.proofs.Spots.{faulty_block}
use Rattle.vlt_core_laws.proofs.Together.{block_together}
use Rattle.vlt_check_laws.proofs.Paths.{through_out, through_block, through_stmts}
use Rattle.vlt_check_laws.proofs.Widening.{wide_block}
use Rattle.vlt_check_laws.proofs.Meets.{Never, Holds, met_block}

-- one status is of the map
only_in : (h : HeldMap) (t : Tok) (o : One) → Has (h t) o → IsIn (only o) (h t)
only_in h t o p = record { each = λ q e. subst (Has (h t)) (sym e) p }

passed_has : (t : Tok) (rs : List Row) (h : HeldMap) (o q : One) → Has (h t) o → LeadsOn t rs o q → Has (map_after rs h t) q
passed_has t rs h o q p w = (images_in t rs (only o) h (only_in h t o p)).each q w

-- the map that a part leads to, where a path comes out of it
pub record Led (P : HeldMap → Type 0) (t : Tok) (q : One) : Type 0 where
  pub map : HeldMap
  pub has : Has (map t) q
  pub fact : P map

led : (x : Option HeldMap) (P : HeldMap → Type 0) (t : Tok) (q : One) → HasAt x t q → When x P → Led P t q
led None P t q h w = absurd h
led (Some m) P t q h w = record { map = m; has = h; fact = w }

module _ (t : Tok) (place : ℕ) (w : Wanted) where
  refused : (at : ℕ) (r : Row) (h : HeldMap) (o : One) → Has (h t) o → CanPass (r ∷ []) h → Refuses t place w at r o → ⊥
  refused at r h o p c x =
      let is = only_in h t o p in
      let fault : If (is_tok t r.tok) (IsUnwanted r (only o)) = subst (λ b. If b (IsUnwanted r (only o))) (sym x.1) ((o, refl, x.3), mixed_none (only o) (h t) is) in
      rows_fault_none t (r ∷ []) (only o) h is c (inl fault)

  rows : (at : ℕ) (rs : List Row) (h : HeldMap) (o : One) → Has (h t) o → CanPass rs h → RowMet (Refuses t place w) NoJoin t at rs o → ⊥
  rows at [] h o p c x = x
  rows at (r ∷ rs) h o p c x = ⊎_elim (λ y. refused at r h o p (c.0, tt) y)
      (λ y. rows at rs (row_passed r h) y.0 ((image_in t r (only o) h (only_in h t o p)).each y.0 y.1) c.1 y.2) x

  -- a turn leads from the map at the head to that map
  pub record Turned (rs : List Row) (s : Block) (i : HeldMap) : Type 0 where
    pub turn : (m r : One) (es fs : List Choice) → Has (map_after rs i t) m →
        (ThroughBlock t s m es to_next r fs ⊎ ThroughBlock t s m es to_continue r fs) → Has (i t) r

  reached : (rs : List Row) (s : Block) (i : HeldMap) → Turned rs s i → (at n : ℕ) (o q : One) (cs ds : List Choice) → Has (i t) o →
      Reaches (ThroughBlock t s) t rs at n o cs q ds → Has (i t) q
  reached rs s i f at zero o q cs ds h x = subst (Has (i t)) (sym x.0) h
  reached rs s i f at (suc n) o q cs ds h x =
      reached rs s i f at n x.2.2.0 q x.2.2.1.0 ds (f.turn x.0 x.2.2.0 x.2.0 x.2.2.1.0 (passed_has t rs i o x.0 h x.1) x.2.2.1.1) x.2.2.1.2

  turned : (rs : List Row) (s : Block) (a : Notes) (n : ℕ) → IsLocalBlock a (Some n) (n + 1) (map_after rs (a.around n)) s →
      When (leads_block a (n + 1) (map_after rs (a.around n)) s) (λ m. IsBelow m (a.around n)) → Turned rs s (a.around n)
  turned rs s a n d below = record {
    turn = λ m r es fs h x.
        let is = only_in (map_after rs (a.around n)) t m h in
        let out = (local_out_block s t a (Some n) (n + 1) (map_after rs (a.around n)) (only m) is d).0 in
        ⊎_elim
        (λ y. let l = led (leads_block a (n + 1) (map_after rs (a.around n)) s) (λ m. IsBelow m (a.around n)) t r (out.next r (through_block s t (only m) m r es fs to_next refl y)) below in has_below (l.map t) (a.around n t) r (l.fact.each t) l.has)
        (λ y. out.continues r (through_block s t (only m) m r es fs to_continue refl y)) x;
  }

  mutual
    form : (s : Flow) (at k : ℕ) (a : Notes) (l : Option ℕ) (n : ℕ) (h : HeldMap) (o : One) (cs : List Choice) → Has (h t) o →
        IsLocal a l n h s → Met (Refuses t place w) NoJoin t at k s o cs → ⊥
    form (step rs) at k a l n h o cs p d x = rows at rs h o p d x.1
    form (choose rs u v) at k a l n h o cs p d x = ⊎_elim (λ y. rows at rs h o p d.0 y.1) (⊎_elim
        (λ y. let q = passed_has t rs h o y.0 p y.1 in ⊎_elim
        (λ z. body u (k + length rs) a l (n + 1) (map_after rs h) y.0 y.2.0 q d.1 z.1)
        (λ z. body v (k + length rs + spots_block u) a l (n + 1 + size_block u) (map_after rs h) y.0 y.2.0 q d.2 z.1) y.2.1)
        (λ y. y.2)) x
    form (loop rs s) at k a l n h o cs p d x = ⊎_elim (λ y.
        let i = a.around n in let q = y.1.0 in let ds = y.1.1.0 in
        let start = has_below (h t) (i t) o (d.0.each t) p in
        let here = reached rs s i (turned rs s a n d.3 d.4) at y.0 o q cs ds start y.1.1.1 in
        ⊎_elim (λ z. z.1) (⊎_elim (λ z. rows at rs i q here d.1 z.1)
        (λ z. body s (k + 1 + length rs) a (Some n) (n + 1) (map_after rs i) z.0 z.2.0 (passed_has t rs i q z.0 here z.1) d.3 z.2.2)) y.1.1.2)
        (λ y. y.2) x
    form (switch rs arms end) at k a l n h o cs p d x = ⊎_elim (λ y. rows at rs h o p d.0 y.1) (⊎_elim
        (λ y. ways arms at (k + length rs) y.2.0 a l (n + 1) (map_after rs h) (a.following n) y.0 y.2.1.0 (passed_has t rs h o y.0 p y.1) d.1 y.2.1.2)
        (λ y. y.2)) x
    form (scope s) at k a l n h o cs p d x = body s k a l (n + 1) h o cs p d x
    form (focus rs s es) at k a l n h o cs p d x = ⊎_elim (λ y. rows at rs h o p d.0 y.1) (⊎_elim
        (λ y. body s (k + length rs) a l (n + 1) (map_after rs h) y.0 cs (passed_has t rs h o y.0 p y.1) d.1 y.2)
        (λ y.
        let is = only_in (map_after rs h) t y.0 (passed_has t rs h o y.0 p y.1) in
        let out = (local_out_block s t a l (n + 1) (map_after rs h) (only y.0) is d.1).0 in
        let m = led (leads_block a (n + 1) (map_after rs h) s) (CanPass es) t y.2.0 (out.next y.2.0 (through_block s t (only y.0) y.0 y.2.0 cs [] to_next refl y.2.1)) d.2 in
        rows (end_of s) es m.map y.2.0 m.has m.fact y.2.2)) x
    form (return rs) at k a l n h o cs p d x = rows at rs h o p d x.1
    form (jump c left) at k a l n h o cs p d x = rows at (map away_row left) h o p d.0 x.1

    pub body : (s : Block) (k : ℕ) (a : Notes) (l : Option ℕ) (n : ℕ) (h : HeldMap) (o : One) (cs : List Choice) → Has (h t) o →
        IsLocalBlock a l n h s → MetBlock (Refuses t place w) NoJoin t k s o cs → ⊥
    body (block ss bound end) k a l n h o cs p d x = ⊎_elim (λ y. list ss k a l n h o cs p d.0 y)
        (λ y.
        let out = (local_out_stmts ss t a l n h (only o) (only_in h t o p) d.0).0 in
        let m = led (leads_stmts a n h ss) (CanPass (map away_row bound)) t y.0 (out.next y.0 (through_stmts ss t (only o) o y.0 cs [] to_next refl y.1)) d.1 in
        rows end (map away_row bound) m.map y.0 m.has m.fact y.2) x

    list : (ss : Stmts) (k : ℕ) (a : Notes) (l : Option ℕ) (n : ℕ) (h : HeldMap) (o : One) (cs : List Choice) → Has (h t) o →
        IsLocalStmts a l n h ss → MetStmts (Refuses t place w) NoJoin t k ss o cs → ⊥
    list done k a l n h o cs p d x = x
    list (next at s rest) k a l n h o cs p d x = ⊎_elim (λ y. form s at k a l n h o cs p d.0 y)
        (λ y.
        let out = (local_out s t a l n h (only o) (only_in h t o p) d.0).0 in
        let m = led (leads a n h s) (λ m. IsLocalStmts a l (n + size s) m rest) t y.0 (out.next y.0 (through_out s t at (only o) o y.0 cs y.1.0 to_next refl y.1.1)) d.1 in
        list rest (k + spots s) a l (n + size s) m.map y.0 y.1.0 m.has m.fact y.1.2) x

    ways : (arms : Arms) (at k i : ℕ) (a : Notes) (l : Option ℕ) (n : ℕ) (h b : HeldMap) (o : One) (cs : List Choice) → Has (h t) o →
        IsLocalArms a l n h arms b → MetArm (Refuses t place w) NoJoin t at k i arms o cs → ⊥
    ways no_arms at k i a l n h b o cs p d x = x
    ways (arm rs s rest) at k zero a l n h b o cs p d x = ⊎_elim (λ y. rows at rs h o p d.0 y.1)
        (λ y. body s (k + length rs) a l n (map_after rs h) y.0 cs (passed_has t rs h o y.0 p y.1) d.1 y.2) x
    ways (arm rs s rest) at k (suc i) a l n h b o cs p d x = ways rest at (k + length rs + spots_block s) i a l (n + size_block s) h b o cs p d.3 x

-- ---- joins

abbrev pub IsGone : One → Type 0
IsGone o = o ≡ one_absent

-- absent on one path to the join and present on another
mixed : (s : Block) (q : Spot) (t : Tok) (k : ℕ) (S : Ones) → SpotAtBlock Never (Holds IsGone) q t k s S →
    SpotAtBlock Never (Holds IsPresent) q t k s S → SpotAtBlock IsUnwanted IsMixed q t k s S
mixed s q t k S x y =
    wide_block (λ r S. Never r S × Never r S) IsUnwanted (λ S. Holds IsGone S × Holds IsPresent S) IsMixed
    (λ r S z. absurd z.0) (λ S z. (subst S z.0.1 z.0.2, (z.1.0, z.1.1, z.1.2))) q t s k S
    (block_together Never Never (Holds IsGone) (Holds IsPresent) q t s k S x y)

pub refuted : (p : Program) (f : Func) (x : FlowFault) (first : List Choice) (second : Option (List Choice)) (a : Notes) →
    IsWitnessIn p f x first second → IsLocalIn p f a → ⊥
refuted p f x first second a w d = by x.kind second w
  where
    by : (kind : FaultKind) (second : Option (List Choice)) →
        IsWitnessIn p f (record { function = x.function; origin = x.origin; at = x.at; tok = x.tok; kind = kind }) first second → ⊥
    by (at_row found wanted) None y = body x.tok x.at wanted (body_flow p f) 0 a None 0 (start_map p f) y.0 first y.1 d y.2
    by (at_join present) (Some second) y =
        let t = x.tok in let h = start_map p f in let s = body_flow p f in
        let one = met_block y.0 IsGone t s 0 (Has (h t)) y.2.0 first y.2.1 y.2.2 in
        let other = met_block y.0 IsPresent t s 0 (Has (h t)) y.3.0 second y.3.1 y.3.2 in
        (local_out_block s t a None 0 h (Has (h t)) (record { each = λ o z. z }) d).1
        (faulty_block s y.0 t 0 (Has (h t)) (mixed s y.0 t 0 (Has (h t)) one other))
    by (at_row found wanted) (Some second) y = y
    by (at_join present) None y = y
