-- Rows after rows.
use Rattle.std.proofs.Common.{◌≡◌, List, [], ◌∷◌, ◌++◌, inl, inr, refl, sym, subst, Result, Ok, Err}
use Rattle.std.specs.Result.{IsErrAnd}
use Rattle.vlt_core.specs.Maps.{Row}
use Rattle.vlt_rows.specs.declared.sink.RowError.{RowError}
use Rattle.vlt_rows.specs.Taking.{Takes, Stops, TakesAll, StopsIn, TookOrStopped}

module _ {V : Type 0} (takes : Takes V) (stops : Stops V) where
  pub all_then : (xs ys : List Row) (v u w : V) → TakesAll takes xs v u → TakesAll takes ys u w → TakesAll takes (xs ++ ys) v w
  all_then [] ys v u w p q = subst (λ x. TakesAll takes ys x w) p q
  all_then (r ∷ xs) ys v u w p q = (p.0, p.1, all_then xs ys p.0 u w p.2 q)

  pub stops_left : (xs ys : List Row) (v : V) (e : RowError) → StopsIn takes stops xs v e → StopsIn takes stops (xs ++ ys) v e
  stops_left [] ys v e p = absurd p
  stops_left (r ∷ xs) ys v e (inl p) = inl p
  stops_left (r ∷ xs) ys v e (inr p) = inr (p.0, p.1, stops_left xs ys p.0 e p.2)

  pub stops_right : (xs ys : List Row) (v u : V) (e : RowError) → TakesAll takes xs v u → StopsIn takes stops ys u e → StopsIn takes stops (xs ++ ys) v e
  stops_right [] ys v u e p q = subst (λ x. StopsIn takes stops ys x e) p q
  stops_right (r ∷ xs) ys v u e p q = inr (p.0, p.1, stops_right xs ys p.0 u e p.2 q)

  -- the first rows stop, and a `?` hands the error on
  pub stops_first : (xs ys : List Row) (v m n : V) (r : Result (Unit {0}) RowError) (d : RowError) → IsErrAnd r (λ x. x ≡ d) → TookOrStopped takes stops xs v m (Err d) → TookOrStopped takes stops (xs ++ ys) v n r
  stops_first xs ys v m n (Ok x) d gives p = absurd gives
  stops_first xs ys v m n (Err x) d gives p = record {
    took = tt;
    stopped = subst (StopsIn takes stops (xs ++ ys) v) (sym gives) (stops_left xs ys v d p.stopped);
  }

  pub stops_more : (xs ys : List Row) (v m n : V) (d : RowError) → TookOrStopped takes stops xs v m (Err d) → TookOrStopped takes stops (xs ++ ys) v n (Err d)
  stops_more xs ys v m n d p = stops_first xs ys v m n (Err d) d refl p

  pub goes_on : (xs ys : List Row) (v u w : V) (r : Result (Unit {0}) RowError) → TookOrStopped takes stops xs v u (Ok tt) → TookOrStopped takes stops ys u w r → TookOrStopped takes stops (xs ++ ys) v w r
  goes_on xs ys v u w (Ok x) p q = record { took = all_then xs ys v u w p.took q.took; stopped = tt }
  goes_on xs ys v u w (Err x) p q = record {
    took = tt;
    stopped = stops_right xs ys v u x p.took q.stopped;
  }

  pub takes_none : (v : V) → TookOrStopped takes stops [] v v (Ok tt)
  takes_none v = record { took = refl; stopped = tt }
