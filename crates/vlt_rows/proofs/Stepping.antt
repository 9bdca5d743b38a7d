-- A held map that passed rows, or stopped at one.
use Rattle.std.proofs.Common.{◌≡◌, ◌<◌, ◌⊎◌, List, [], ◌∷◌, inl, inr, ⊎_elim, refl, sym, ap, ◌∙◌, subst, Result, Ok, Err}
use Rattle.vlt_core.specs.Core.{Tok, a_key, a_var}
use Rattle.vlt_core.specs.Maps.{Row, CanPass, map_after}
use Rattle.vlt_keyset.specs.Held.{Statuses, map_of, HasPlace, IsSameRange}
use Rattle.vlt_rows.specs.declared.sink.RowError.{RowError}
use Rattle.vlt_rows.specs.declared.sink.RowError.TheVariants.{Refused, Unfit, Memory}
use Rattle.vlt_rows.specs.Unfit.{HasWide}
use Rattle.vlt_rows.specs.Taking.{TakesAll, StopsIn, TookOrStopped}
use Rattle.vlt_rows.specs.Passing.{IsPassed, IsStopped, ArePassed, IsFirstRefused, LacksPlace, IsNoStep, Steps}

passed_all : (rs : List Row) (v w : Statuses) → TakesAll IsPassed rs v w → ArePassed rs v w
passed_all [] v w e = record { can = tt; after = ap map_of e; range = subst (IsSameRange v) (sym e) (record { keys = refl; vars = refl }) }
passed_all (r ∷ rs) v w t =
    let first = t.1 in
    let rest = passed_all rs t.0 w t.2 in record {
      can = (first.wanted, subst (CanPass rs) first.after rest.can);
      after = rest.after ∙ ap (map_after rs) first.after;
      range = record { keys = first.range.keys ∙ rest.range.keys; vars = first.range.vars ∙ rest.range.vars };
    }

-- a place in the map is one after a row too
place_kept : (t : Tok) (v u : Statuses) → IsSameRange v u → HasPlace v t → HasPlace u t
place_kept (a_key k) v u same p = subst (λ n. k < n) same.keys p
place_kept (a_var x) v u same p = subst (λ n. x < n) same.vars p

lacks_before : (rs : List Row) (v u : Statuses) → IsSameRange v u → LacksPlace rs u → LacksPlace rs v
lacks_before [] v u same l = l
lacks_before (r ∷ rs) v u same (inl none) = inl (λ p. none (place_kept r.tok v u same p))
lacks_before (r ∷ rs) v u same (inr l) = inr (lacks_before rs v u same l)

unfit_before : (r : Row) (rs : List Row) (v u : Statuses) → IsSameRange v u → LacksPlace rs u ⊎ HasWide rs → LacksPlace (r ∷ rs) v ⊎ HasWide (r ∷ rs)
unfit_before r rs v u same (inl l) = inl (inr (lacks_before rs v u same l))
unfit_before r rs v u same (inr w) = inr (inr w)

no_step : (rs : List Row) (v : Statuses) (e : RowError) → StopsIn IsPassed IsStopped rs v e → IsNoStep rs v e
no_step [] v e s = absurd s
no_step (r ∷ rs) v (Refused e) (inl f) = inl f
no_step (r ∷ rs) v Unfit (inl f) = ⊎_elim (λ none. inl (inl none)) (λ wide. inr (inl wide)) f
no_step (r ∷ rs) v Memory (inl f) = absurd f
no_step (r ∷ rs) v (Refused e) (inr s) = inr (s.1.wanted, subst (λ h. IsFirstRefused rs h e) s.1.after (no_step rs s.0 (Refused e) s.2))
no_step (r ∷ rs) v Unfit (inr s) = unfit_before r rs v s.0 s.1.range (no_step rs s.0 Unfit s.2)
no_step (r ∷ rs) v Memory (inr s) = tt

module _ (rs : List Row) (v w : Statuses) (r : Result (Unit {0}) RowError) (t : TookOrStopped IsPassed IsStopped rs v w r) where
  pub stepped : r ≡ Ok tt → Steps rs v w (Ok tt)
  stepped is = record { passed = passed_all rs v w (subst (TookOrStopped IsPassed IsStopped rs v w) is t).took; same = tt; error = tt }

  pub not_stepped : (e : RowError) → r ≡ Err e → Steps rs v v (Err e)
  not_stepped e is = record { passed = tt; same = refl; error = no_step rs v e (subst (TookOrStopped IsPassed IsStopped rs v w) is t).stopped }

  -- by a copy of the map
  pub of_copy : (u : Statuses) → v ≡ u → TookOrStopped IsPassed IsStopped rs u w r
  of_copy u is = subst (λ x. TookOrStopped IsPassed IsStopped rs x w r) is t
