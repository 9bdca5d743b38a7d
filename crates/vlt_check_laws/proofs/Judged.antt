-- A program is, surely, accepted, or it has a first fault.
use Rattle.std.proofs.Common.{◌≡◌, ℕ, Bool, true, false, Option, None, Some, slice_get, refl, sym, ◌∙◌, inl, inr, ⊎_elim, true≢false, arith}
use Rattle.vlt_core.specs.Core.{Tok, Func, Program}
use Rattle.vlt_core.specs.Derives.{IsAcceptedFunc, IsAccepted}
use Rattle.vlt_core.specs.Instances.{instance, IsOrigin, origins}
use Rattle.vlt_core.specs.Faults.{Spot, FaultKind, FlowFault, IsFaultIn, IsNoLaterOrigin, IsFirstOfAll, IsFirstFault}
use Rattle.vlt_core_laws.specs.Fit.{IsFitBody, IsWellFormed}
use Rattle.vlt_core_laws.proofs.Formed.{formed_bodies}
use Rattle.vlt_core_laws.proofs.Origins.{origin_at, origin_is}
use Rattle.vlt_base.specs.Sure.{Surely}
use Rattle.vlt_check_laws.specs.Judged.{IsJudged}
use Rattle.vlt_base.proofs.Surely.{sure, surely, so, one_way, all_in, Least, least}
use Rattle.vlt_check_laws.proofs.Derived.{derived_or_faulty}
use Rattle.vlt_check_laws.proofs.First.{first_of}
use Rattle.vlt_check_laws.proofs.Telling.{fault_told}

module _ (p : Program) where
  -- some instance of the function is faulty there
  record IsFaultyAt (f : Func) (q : Spot) (t : Tok) : Type 0 where
    origin : Option ℕ
    is : IsOrigin p f origin
    fault : IsFaultIn p (instance p f origin) q t

  -- the function of this number has a body with a fault in some instance
  record IsFaulty (g : ℕ) : Type 0 where
    func : Func
    there : slice_get p.fns g ≡ Some func
    with_body : func.external ≡ false
    spot : Spot
    tok : Tok
    fault : IsFaultyAt func spot tok

  -- of the instances that are faulty there the one of the least origin
  record IsLeastAt (f : Func) (q : Spot) (t : Tok) : Type 0 where
    at : IsFaultyAt f q t
    least : (o : Option ℕ) → IsOrigin p f o → IsFaultIn p (instance p f o) q t → IsNoLaterOrigin at.origin o

  least_at : (f : Func) (q : Spot) (t : Tok) → IsFaultyAt f q t → Surely (IsLeastAt f q t)
  least_at f q t x = by x.origin x.is x.fault
    where
      IsState : ℕ → Type 0
      IsState n = IsOrigin p f (Some n) × IsFaultIn p (instance p f (Some n)) q t

      from : (m : Least IsState) → (o : Option ℕ) → IsOrigin p f o → IsFaultIn p (instance p f o) q t → IsNoLaterOrigin (Some m.number) o
      from m None is fault = tt
      from m (Some n) is fault = m.least n (is, fault)

      by : (o : Option ℕ) → IsOrigin p f o → IsFaultIn p (instance p f o) q t → Surely (IsLeastAt f q t)
      by None is fault = sure (record { at = record { origin = None; is = is; fault = fault }; least = λ o own there. tt })
      by (Some n) is fault = so (least IsState n (is, fault)) (λ m. record {
        at = record { origin = Some m.number; is = m.there.0; fault = m.there.1 };
        least = from m;
      })

  -- what is told of the first fault of a function over its instances
  record IsFirstTold (f : Func) : Type 0 where
    origin : Option ℕ
    at : ℕ
    tok : Tok
    kind : FaultKind
    first : IsFirstOfAll p f origin at tok kind

  first_told : (f : Func) → ((o : Option ℕ) → IsOrigin p f o → IsFitBody p (instance p f o)) → (q : Spot) (t : Tok) → IsFaultyAt f q t → Surely (IsFirstTold f)
  first_told f fit q t fault =
      surely (first_of (IsFaultyAt f) q t fault) (λ x.
      surely (least_at f x.spot x.tok x.there) (λ y.
      so (fault_told p (instance p f y.at.origin) x.spot x.tok (fit y.at.origin y.at.is) y.at.fault) (λ k. record {
        origin = y.at.origin;
        at = x.spot.at;
        tok = x.tok;
        kind = k.0;
        first = record {
          is = y.at.is;
          first = record {
            spot = x.spot;
            place = refl;
            faulty = y.at.fault;
            told = k.1;
            first = λ q u there. x.first q u (record { origin = y.at.origin; is = y.at.is; fault = there });
          };
          least = λ o q u own there. x.first q u (record { origin = o; is = own; fault = there });
          origins = y.least;
        };
      })))

  module _ (well : IsWellFormed p) where
    fits : (g : ℕ) (f : Func) → slice_get p.fns g ≡ Some f → f.external ≡ false → (o : Option ℕ) → IsOrigin p f o → IsFitBody p (instance p f o)
    fits g f there body o origin = formed_bodies p g f o well there body origin

    -- the first of the functions that have a fault
    faulty : Least IsFaulty → Surely ((x : FlowFault) × IsFirstFault p x)
    faulty m =
        let a = m.there in
        so (first_told a.func (fits m.number a.func a.there a.with_body) a.spot a.tok a.fault) (λ x. (
          record { function = m.number; origin = x.origin; at = x.at; tok = x.tok; kind = x.kind },
          record {
            func = a.func;
            there = a.there;
            with_body = a.with_body;
            first = x.first;
            before = λ g f o less there body origin fault.
                let le = m.least g (record {
                  func = f;
                  there = there;
                  with_body = body;
                  spot = fault.0;
                  tok = fault.1.0;
                  fault = record { origin = o; is = origin; fault = fault.1.1 };
                }) in omega (arith, less, le);
          },
        ))

    faultless : ((g : ℕ) → IsFaulty g → ⊥) → Surely (IsAccepted p)
    faultless none =
        so (all_in p.fns (λ f. f.external ≡ false → (o : Option ℕ) → IsOrigin p f o → IsAcceptedFunc p (instance p f o)) (λ g f there. each g f there f.external refl))
        (λ all. λ g f o there body origin. all g f there body o origin)
      where
        in_one : (g : ℕ) (f : Func) → slice_get p.fns g ≡ Some f → f.external ≡ false → (o : Option ℕ) → IsOrigin p f o → Surely (IsAcceptedFunc p (instance p f o))
        in_one g f there body o origin = so (derived_or_faulty p (instance p f o) (fits g f there body o origin)) (λ x. ⊎_elim (λ y. y)
            (λ y. absurd (none g (record { func = f; there = there; with_body = body; spot = y.0; tok = y.1.0; fault = record { origin = o; is = origin; fault = y.1.1 } }))) x)

        -- the origins are listed, so all of them are sure at once
        in_all : (g : ℕ) (f : Func) → slice_get p.fns g ≡ Some f → f.external ≡ false → Surely ((o : Option ℕ) → IsOrigin p f o → IsAcceptedFunc p (instance p f o))
        in_all g f there body =
            so (all_in (origins p f) (λ o. IsAcceptedFunc p (instance p f o)) (λ i o at. in_one g f there body o (origin_is p f i o at)))
            (λ all. λ o origin. let i = origin_at p f o origin in all i.0 o i.1)

        each : (g : ℕ) (f : Func) → slice_get p.fns g ≡ Some f → (b : Bool) → f.external ≡ b →
            Surely (f.external ≡ false → (o : Option ℕ) → IsOrigin p f o → IsAcceptedFunc p (instance p f o))
        each g f there true e = sure (λ body. absurd (true≢false (sym e ∙ body)))
        each g f there false e = so (in_all g f there e) (λ x. λ body. x)

    pub judged : Surely (IsJudged p)
    judged = surely (one_way ((g : ℕ) × IsFaulty g)) (λ x. ⊎_elim
        (λ y. surely (least IsFaulty y.0 y.1) (λ m. so (faulty m) (λ z. inr z)))
        (λ none. so (faultless (λ g y. none (g, y))) (λ z. inl z)) x)
