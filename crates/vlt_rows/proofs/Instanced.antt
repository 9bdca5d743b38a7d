-- The clause of an instance, entry by entry.
use Rattle.std.proofs.Common.{◌≡◌, ℕ, List, [], ◌∷◌, map, filter, Option, None, Some, Result, refl, ap, ◌∙◌, subst}
use Rattle.std.specs.List.{flat_map}
use Rattle.vlt_core.specs.Core.{Mode, kept, taken, given, fresh, up_to, Operand, Entry, Func, Program, a_key}
use Rattle.vlt_core.specs.Lookups.{is_held_before, is_new, is_given_back, after_set}
use Rattle.vlt_core.specs.Instances.{entry_of_instance, clause_of_instance, entry_in}
use Rattle.vlt_core.specs.Maps.{Row, wants_in, becomes_absent}
use Rattle.vlt_core.specs.Rows.{row, returned_row}
use Rattle.vlt_rows.specs.Pieces.{new_row, given_back_row}
use Rattle.vlt_rows.specs.declared.sink.RowError.{RowError}
use Rattle.vlt_rows.specs.Taking.{Takes, Stops, TookOrStopped}
use Rattle.vlt_rows.proofs.Looping.{filtered, flat_filter}

-- ---- one entry

module _ (p : Program) (f : Func) where
  pub held_before_in : (o : Option ℕ) (e : Entry) → is_held_before (entry_in p f o e) ≡ is_held_before e
  held_before_in None e = refl
  held_before_in (Some o) e = by e.mode
    where
      by : (m : Mode) → is_held_before (entry_of_instance p f o (record e { mode = m })) ≡ is_held_before (record e { mode = m })
      by kept = refl
      by taken = refl
      by given = refl
      by fresh = refl
      by (up_to b) = refl

-- ---- all entries

pub clause_in : {X : Type 0} (p : Program) (f : Func) (o : Option ℕ) (g : X → Entry) (es : List X) → map (λ e. entry_in p f o (g e)) es ≡ clause_of_instance p f o (map g es)
clause_in p f None g es = refl
clause_in p f (Some o) g [] = refl
clause_in p f (Some o) g (e ∷ es) = ap (λ l. entry_of_instance p f o (g e) ∷ l) (clause_in p f (Some o) g es)

pub news_in : {X : Type 0} (p : Program) (f : Func) (o : Option ℕ) (value : Option Operand) (g : X → Entry) (es : List X) →
    flat_map (λ e. new_row p f value (entry_in p f o (g e))) es ≡ flat_map (returned_row p f value) (filter is_new (clause_of_instance p f o (map g es)))
news_in p f o value g es =
    flat_filter (returned_row p f value) is_new (λ e. entry_in p f o (g e)) es ∙
    ap (λ l. flat_map (returned_row p f value) (filter is_new l)) (clause_in p f o g es)

pub given_backs_in : {X : Type 0} (p : Program) (f : Func) (o : Option ℕ) (g : X → Entry) (es : List X) →
    flat_map (λ e. given_back_row p f (entry_in p f o (g e))) es ≡
    map (λ e. row (a_key e.key) (wants_in (after_set p f e)) becomes_absent) (filter is_given_back (clause_of_instance p f o (map g es)))
given_backs_in p f o g es =
    filtered (λ e. row (a_key e.key) (wants_in (after_set p f e)) becomes_absent) is_given_back (λ e. entry_in p f o (g e)) es ∙
    ap (λ l. map (λ e. row (a_key e.key) (wants_in (after_set p f e)) becomes_absent) (filter is_given_back l)) (clause_in p f o g es)

-- the same of other rows that are the same
pub same_rows : {V : Type 0} (takes : Takes V) (stops : Stops V) (xs ys : List Row) (v w : V) (r : Result (Unit {0}) RowError) → xs ≡ ys →
    TookOrStopped takes stops xs v w r → TookOrStopped takes stops ys v w r
same_rows takes stops xs ys v w r e p = subst (λ rs. TookOrStopped takes stops rs v w r) e p
