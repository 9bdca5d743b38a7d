-- Each fault of a body has a witness.
use Rattle.std.proofs.Common.{◌≡◌, ℕ, List, Option, None, Some, refl, sym}
use Rattle.vlt_core.specs.Core.{Tok, Func, Program}
use Rattle.vlt_core.specs.Instances.{instance}
use Rattle.vlt_core.specs.Maps.{Wanted, Row}
use Rattle.vlt_core.specs.Bodies.{body_flow}
use Rattle.vlt_core.specs.Derives.{start_map}
use Rattle.vlt_core.specs.Found.{One, one_absent, Ones, Has, WantsOne}
use Rattle.vlt_core.specs.Faults.{Spot, SpotAtBlock, IsPresent, IsMixed, IsUnwanted, FaultKind, at_row, at_join, TellsRow, TellsJoin, IsToldOf, IsFaultIn, FlowFault, IsFirstFault}
use Rattle.vlt_core.specs.Witness.{Choice, Refuses, NoJoin, NoRow, IsJoin, IsWitnessIn}
use Rattle.vlt_core_laws.specs.Tame.{IsTameBlock}
use Rattle.vlt_core_laws.proofs.Together.{block_together}
use Rattle.vlt_check_laws.specs.Shown.{HasWitness, IsFault}
use Rattle.vlt_check_laws.proofs.Widening.{wide_block}
use Rattle.vlt_check_laws.proofs.Meets.{Never, Holds}
use Rattle.vlt_check_laws.proofs.Meeting.{Singles, body}

-- a row refuses what is found
abbrev pub Wrong : Wanted → Row → Ones → Type 0
Wrong w r S = ((o : One) × S o × (WantsOne r.wanted o → ⊥)) × (r.wanted ≡ w)

abbrev pub Nowhere : Ones → Type 0
Nowhere S = ⊥

row_singles : (w : Wanted) (p : Spot) (t : Tok) (at : ℕ) → p.at ≡ at → Singles (Wrong w) Nowhere (Refuses t at w) NoJoin p t
row_singles w p t at e = record { row = λ r S same x. (x.0.0, x.0.1, (e, same, x.1, x.0.2)); join = λ S x. absurd x }

join_singles : (is : One → Type 0) (p : Spot) (t : Tok) → Singles Never (Holds is) NoRow (IsJoin p is) p t
join_singles is p t = record { row = λ r S same x. absurd x; join = λ S x. (x.0, x.2, (refl, x.1)) }

-- choices that show it
pub record Shows (p : Program) (f : Func) (x : FlowFault) : Type 0 where
  pub first : List Choice
  pub second : Option (List Choice)
  pub shown : IsWitnessIn p f x first second

module _ (p : Program) (f : Func) (function : ℕ) (origin : Option ℕ) (at : ℕ) (t : Tok) (tame : IsTameBlock (body_flow p f)) where
  -- what is told of the spot, and that it is faulty
  pub told_fault : (kind : FaultKind) (q : Spot) → IsFaultIn p f q t → IsToldOf p f kind q t →
      SpotAtBlock (λ r S. IsUnwanted r S × TellsRow kind r S) (λ S. IsMixed S × TellsJoin kind S) q t 0 (body_flow p f) (Has (start_map p f t))
  told_fault kind q x y = block_together IsUnwanted (TellsRow kind) IsMixed (TellsJoin kind) q t (body_flow p f) 0 (Has (start_map p f t)) x y

  shows : (kind : FaultKind) (q : Spot) → q.at ≡ at → IsFaultIn p f q t → IsToldOf p f kind q t →
      Shows p f (record { function = function; origin = origin; at = at; tok = t; kind = kind })
  shows (at_row found wanted) q e x y =
      let s = body_flow p f in let S = Has (start_map p f t) in
      let both = told_fault (at_row found wanted) q x y in
      let wrong : SpotAtBlock (Wrong wanted) Nowhere q t 0 s S = wide_block (λ r S. IsUnwanted r S × TellsRow (at_row found wanted) r S) (Wrong wanted) (λ S. IsMixed S × TellsJoin (at_row found wanted) S) Nowhere (λ r S z. (z.0.0, sym z.1.1)) (λ S z. absurd z.1) q t s 0 S both in
      let z = body (Wrong wanted) Nowhere (Refuses t at wanted) NoJoin q t (row_singles wanted q t at e) s 0 S tame wrong in
      record { first = z.choices; second = None; shown = (z.start, z.comes, z.fact) }
  shows (at_join present) q e x y =
      let s = body_flow p f in let S = Has (start_map p f t) in
      let both = told_fault (at_join present) q x y in
      let away : SpotAtBlock Never (Holds (λ o. o ≡ one_absent)) q t 0 s S = wide_block (λ r S. IsUnwanted r S × TellsRow (at_join present) r S) Never (λ S. IsMixed S × TellsJoin (at_join present) S) (Holds (λ o. o ≡ one_absent)) (λ r S z. z.1) (λ S z. (one_absent, refl, z.0.0)) q t s 0 S both in
      let there : SpotAtBlock Never (Holds IsPresent) q t 0 s S = wide_block (λ r S. IsUnwanted r S × TellsRow (at_join present) r S) Never (λ S. IsMixed S × TellsJoin (at_join present) S) (Holds IsPresent) (λ r S z. z.1) (λ S z. (z.0.1.0, z.0.1.1, z.0.1.2)) q t s 0 S both in
      let a = body Never (Holds (λ o. o ≡ one_absent)) NoRow (IsJoin q (λ o. o ≡ one_absent)) q t (join_singles (λ o. o ≡ one_absent) q t) s 0 S tame away in
      let b = body Never (Holds IsPresent) NoRow (IsJoin q IsPresent) q t (join_singles IsPresent q t) s 0 S tame there in
      record { first = a.choices; second = Some b.choices; shown = (q, e, (a.start, a.comes, a.fact), (b.start, b.comes, b.fact)) }

pub fault_shown : (p : Program) (x : FlowFault) → (w : IsFault p x) → IsTameBlock (body_flow p (instance p w.func x.origin)) → HasWitness p x
fault_shown p x w tame =
    let z = shows p (instance p w.func x.origin) x.function x.origin x.at x.tok tame x.kind w.spot w.place w.faulty w.told in
    record {
      first = z.first;
      second = z.second;
      shown = record { func = w.func; there = w.there; with_body = w.with_body; origin = w.origin; shows = z.shown };
    }

-- the first fault of a program is one
pub first_is_fault : (p : Program) (x : FlowFault) → IsFirstFault p x → IsFault p x
first_is_fault p x w =
    let q = w.first.first in
    record { func = w.func; there = w.there; with_body = w.with_body; origin = w.first.is; spot = q.spot; place = q.place; faulty = q.faulty; told = q.told }
