-- Some path leads to what is found.
use Rattle.std.proofs.Common.{◌⊎◌, ℕ, zero, suc, true, false, List, ◌∷◌, map, refl, inl, inr, ⊎_elim}
use Rattle.vlt_core.specs.Core.{Tok}
use Rattle.vlt_core.specs.Maps.{Row, away_row}
use Rattle.vlt_core.specs.Flow.{Flow, step, choose, loop, switch, scope, focus, return, jump, Block, block, Stmts, done, next, Arms, no_arms, arm}
use Rattle.vlt_core.specs.Found.{One, Ones, images, both, turns, Exit, to_next, to_break, to_continue, out, out_block, out_stmts, out_arms, head_of}
use Rattle.vlt_core.specs.Witness.{Choice, choice, then_arm, else_arm, turn, exit, case_arm, LeadsOn, Turns, Through, ThroughBlock, ThroughStmts, ThroughArm}
use Rattle.vlt_core_laws.specs.Tame.{IsTame, IsTameBlock, IsTameStmts, IsTameArms}
use Rattle.vlt_core_laws.proofs.Smooth.{smooth_images}
use Rattle.vlt_check_laws.proofs.Jumpless.{no_jump_block}

-- a status that comes, and choices with which this is so
pub record Path (S : Ones) (K : One → List Choice → Type 0) : Type 0 where
  pub start : One
  pub comes : S start
  pub choices : List Choice
  pub fact : K start choices

-- what rows lead from
pub record Source (t : Tok) (rs : List Row) (S : Ones) (q : One) : Type 0 where
  pub start : One
  pub comes : S start
  pub leads : LeadsOn t rs start q

pub source : (t : Tok) (rs : List Row) (S : Ones) (q : One) → images t rs S q → Source t rs S q
source t rs S q w = let z = (smooth_images t rs).one S q w in record { start = z.0; comes = z.1; leads = z.2 }

-- Turns after turns: K says what comes after so many.
pub record Grows (t : Tok) (rs : List Row) (s : Block) (at : ℕ) (K : ℕ → One → List Choice → Type 0) : Type 0 where
  pub more : (j : ℕ) (o m r : One) (es fs : List Choice) → LeadsOn t rs o m →
      (ThroughBlock t s m es to_next r fs ⊎ ThroughBlock t s m es to_continue r fs) → K j r fs → K (suc j) o (choice at turn ∷ es)

-- ways lead to what comes out of a block
pub record Leads (t : Tok) (s : Block) : Type 1 where
  pub path : (S : Ones) (x : Exit) (q : One) (ds : List Choice) → out_block t s S x q → Path S (λ o cs. ThroughBlock t s o cs x q ds)

abbrev pub round : Tok → List Row → Block → Ones → Ones
round t rs s T = both (out_block t s (images t rs T) to_next) (out_block t s (images t rs T) to_continue)

module _ (t : Tok) (rs : List Row) (s : Block) (at : ℕ) (leads : Leads t s) (K : ℕ → One → List Choice → Type 0) (grows : Grows t rs s at K) where
  -- one turn back
  back_one : (T : Ones) (j : ℕ) (r : One) (fs : List Choice) → round t rs s T r → K j r fs → Path T (K (suc j))
  back_one T j r fs w k = ⊎_elim
      (λ y.
      let z = leads.path (images t rs T) to_next r fs y in
      let o = source t rs T z.start z.comes in
      record {
        start = o.start;
        comes = o.comes;
        choices = choice at turn ∷ z.choices;
        fact = grows.more j o.start z.start r z.choices fs o.leads (inl z.fact) k;
      })
      (λ y.
      let z = leads.path (images t rs T) to_continue r fs y in
      let o = source t rs T z.start z.comes in
      record {
        start = o.start;
        comes = o.comes;
        choices = choice at turn ∷ z.choices;
        fact = grows.more j o.start z.start r z.choices fs o.leads (inr z.fact) k;
      }) w

  pub back : (S : Ones) (n j : ℕ) (r : One) (fs : List Choice) → turns (round t rs s) n S r → K j r fs → Path S (λ o cs. (i : ℕ) × K i o cs)
  back S zero j r fs w k = record { start = r; comes = w; choices = fs; fact = (j, k) }
  back S (suc n) j r fs w k =
      let z = back_one (turns (round t rs s) n S) j r fs w k in
      back S n (suc j) z.start z.choices z.comes z.fact

-- ---- parts

pub turns_grow : (t : Tok) (rs : List Row) (s : Block) (at : ℕ) (q : One) (ds : List Choice) →
    Grows t rs s at (λ n o cs. Turns (ThroughBlock t s) t rs at n o cs q ds)
turns_grow t rs s at q ds = record { more = λ j o m r es fs l b k. (m, l, (es, refl, (r, (fs, b, k)))) }

mutual
  pub lead_form : (s : Flow) (t : Tok) (at : ℕ) (S : Ones) (x : Exit) (q : One) (ds : List Choice) → IsTame s → out t s S x q →
      Path S (λ o cs. Through t at s o cs x q ds)
  lead_form (step rs) t at S to_next q ds j w = let z = source t rs S q w in record {
    start = z.start;
    comes = z.comes;
    choices = ds;
    fact = (refl, z.leads, refl);
  }
  lead_form (step rs) t at S to_break q ds j w = absurd w
  lead_form (step rs) t at S to_continue q ds j w = absurd w
  lead_form (choose rs a b) t at S x q ds j w = ⊎_elim
      (λ y.
      let z = lead_block a t (images t rs S) x q ds j.1 y in
      let o = source t rs S z.start z.comes in
      record {
        start = o.start;
        comes = o.comes;
        choices = choice at then_arm ∷ z.choices;
        fact = (z.start, o.leads, (z.choices, inl (refl, z.fact)));
      })
      (λ y.
      let z = lead_block b t (images t rs S) x q ds j.2 y in
      let o = source t rs S z.start z.comes in
      record {
        start = o.start;
        comes = o.comes;
        choices = choice at else_arm ∷ z.choices;
        fact = (z.start, o.leads, (z.choices, inr (refl, z.fact)));
      }) w
  lead_form (loop rs s) t at S to_next q ds j w =
      let leads : Leads t s = record { path = λ S x q ds y. lead_block s t S x q ds j.1 y } in
      let grows = turns_grow t rs s at q ds in
      ⊎_elim
      (λ y.
      let o = source t rs (head_of t rs s S) q y in
      let z = back t rs s at leads (λ n o cs. Turns (ThroughBlock t s) t rs at n o cs q ds) grows S o.comes.0 zero o.start (choice at exit ∷ ds) o.comes.1 (inl (o.leads, refl)) in
      record { start = z.start; comes = z.comes; choices = z.choices; fact = (refl, z.fact) })
      (λ y.
      let b = lead_block s t (images t rs (head_of t rs s S)) to_break q ds j.1 y in
      let o = source t rs (head_of t rs s S) b.start b.comes in
      let z = back t rs s at leads (λ n o cs. Turns (ThroughBlock t s) t rs at n o cs q ds) grows S o.comes.0 zero o.start (choice at turn ∷ b.choices) o.comes.1 (inr (b.start, o.leads, (b.choices, refl, b.fact))) in
      record { start = z.start; comes = z.comes; choices = z.choices; fact = (refl, z.fact) }) w
  lead_form (loop rs s) t at S to_break q ds j w = absurd w
  lead_form (loop rs s) t at S to_continue q ds j w = absurd w
  lead_form (switch rs arms end) t at S x q ds j w =
      let z = lead_arms arms t (images t rs S) x q ds j.1 w in
      let o = source t rs S z.start z.comes in
      record {
        start = o.start;
        comes = o.comes;
        choices = choice at (case_arm z.fact.0) ∷ z.choices;
        fact = (z.start, o.leads, (z.fact.0, (z.choices, refl, z.fact.1)));
      }
  lead_form (scope s) t at S x q ds j w = let z = lead_block s t S x q ds j w in record {
    start = z.start;
    comes = z.comes;
    choices = z.choices;
    fact = z.fact;
  }
  lead_form (focus rs s es) t at S to_next q ds j w =
      let e = source t es (out_block t s (images t rs S) to_next) q w in
      let z = lead_block s t (images t rs S) to_next e.start ds j.1 e.comes in
      let o = source t rs S z.start z.comes in
      record { start = o.start; comes = o.comes; choices = z.choices; fact = (refl, (z.start, o.leads, (e.start, z.fact, e.leads))) }
  lead_form (focus rs s es) t at S to_break q ds j w = absurd ((no_jump_block s t (images t rs S) q j.2).0 w)
  lead_form (focus rs s es) t at S to_continue q ds j w = absurd ((no_jump_block s t (images t rs S) q j.2).1 w)
  lead_form (return rs) t at S x q ds j w = absurd w
  lead_form (jump true left) t at S to_continue q ds j w = let z = source t (map away_row left) S q w in record {
    start = z.start;
    comes = z.comes;
    choices = ds;
    fact = (tt, z.leads, refl);
  }
  lead_form (jump true left) t at S to_next q ds j w = absurd w
  lead_form (jump true left) t at S to_break q ds j w = absurd w
  lead_form (jump false left) t at S to_break q ds j w = let z = source t (map away_row left) S q w in record {
    start = z.start;
    comes = z.comes;
    choices = ds;
    fact = (tt, z.leads, refl);
  }
  lead_form (jump false left) t at S to_next q ds j w = absurd w
  lead_form (jump false left) t at S to_continue q ds j w = absurd w

  pub lead_block : (s : Block) (t : Tok) (S : Ones) (x : Exit) (q : One) (ds : List Choice) → IsTameBlock s → out_block t s S x q →
      Path S (λ o cs. ThroughBlock t s o cs x q ds)
  lead_block (block ss bound end) t S to_next q ds j w =
      let e = source t (map away_row bound) (out_stmts t ss S to_next) q w in
      let z = lead_stmts ss t S to_next e.start ds j e.comes in
      record { start = z.start; comes = z.comes; choices = z.choices; fact = (e.start, z.fact, e.leads) }
  lead_block (block ss bound end) t S to_break q ds j w = let z = lead_stmts ss t S to_break q ds j w in record {
    start = z.start;
    comes = z.comes;
    choices = z.choices;
    fact = z.fact;
  }
  lead_block (block ss bound end) t S to_continue q ds j w = let z = lead_stmts ss t S to_continue q ds j w in record {
    start = z.start;
    comes = z.comes;
    choices = z.choices;
    fact = z.fact;
  }

  pub lead_stmts : (ss : Stmts) (t : Tok) (S : Ones) (x : Exit) (q : One) (ds : List Choice) → IsTameStmts ss → out_stmts t ss S x q →
      Path S (λ o cs. ThroughStmts t ss o cs x q ds)
  lead_stmts done t S to_next q ds j w = record { start = q; comes = w; choices = ds; fact = (refl, refl, refl) }
  lead_stmts done t S to_break q ds j w = absurd w
  lead_stmts done t S to_continue q ds j w = absurd w
  lead_stmts (next at s rest) t S to_next q ds j w =
      let e = lead_stmts rest t (out t s S to_next) to_next q ds j.1 w in
      let z = lead_form s t at S to_next e.start e.choices j.0 e.comes in
      record { start = z.start; comes = z.comes; choices = z.choices; fact = (e.start, (e.choices, z.fact, e.fact)) }
  lead_stmts (next at s rest) t S to_break q ds j w = ⊎_elim
      (λ y. let z = lead_form s t at S to_break q ds j.0 y in record {
        start = z.start;
        comes = z.comes;
        choices = z.choices;
        fact = inl z.fact;
      })
      (λ y.
      let e = lead_stmts rest t (out t s S to_next) to_break q ds j.1 y in
      let z = lead_form s t at S to_next e.start e.choices j.0 e.comes in
      record { start = z.start; comes = z.comes; choices = z.choices; fact = inr (e.start, (e.choices, z.fact, e.fact)) }) w
  lead_stmts (next at s rest) t S to_continue q ds j w = ⊎_elim
      (λ y. let z = lead_form s t at S to_continue q ds j.0 y in record {
        start = z.start;
        comes = z.comes;
        choices = z.choices;
        fact = inl z.fact;
      })
      (λ y.
      let e = lead_stmts rest t (out t s S to_next) to_continue q ds j.1 y in
      let z = lead_form s t at S to_next e.start e.choices j.0 e.comes in
      record { start = z.start; comes = z.comes; choices = z.choices; fact = inr (e.start, (e.choices, z.fact, e.fact)) }) w

  pub lead_arms : (arms : Arms) (t : Tok) (S : Ones) (x : Exit) (q : One) (ds : List Choice) → IsTameArms arms → out_arms t arms S x q →
      Path S (λ o cs. (i : ℕ) × ThroughArm t i arms o cs x q ds)
  lead_arms no_arms t S x q ds j w = absurd w
  lead_arms (arm rs s rest) t S x q ds j w = ⊎_elim
      (λ y.
      let z = lead_block s t (images t rs S) x q ds j.1 y in
      let o = source t rs S z.start z.comes in
      record { start = o.start; comes = o.comes; choices = z.choices; fact = (zero, (z.start, o.leads, z.fact)) })
      (λ y.
      let z = lead_arms rest t S x q ds j.2 y in
      record { start = z.start; comes = z.comes; choices = z.choices; fact = (suc z.fact.0, z.fact.1) }) w
