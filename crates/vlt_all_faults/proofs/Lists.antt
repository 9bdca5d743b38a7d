-- Lists of faults in code.
use Rattle.std.proofs.Common.{◌≡◌, ◌⊎◌, ◌<◌, ◌≤◌, ◌+◌, ℕ, zero, suc, length, take, drop, map, get_or, drop-cons, add-one, ◌++◌, inl, inr, ⊎_elim, refl, sym, ap, ◌∙◌, subst, Option, Some, None, List, [], ◌∷◌, arith}
use Rattle.std.proofs.lemmas.Bool.{cases_lt}
use Rattle.std.proofs.lemmas.List.{drop_all}
use Rattle.std.specs.List.{insert}
use Rattle.vlt_core.specs.Core.{Tok, a_key, a_var, Func, Program}
use Rattle.vlt_core.specs.Instances.{instance, IsOrigin}
use Rattle.vlt_core.specs.Bodies.{body_flow}
use Rattle.vlt_core.specs.Derives.{start_map}
use Rattle.vlt_core.specs.Maps.{absent}
use Rattle.vlt_core.specs.Found.{One, one_absent, one_held, one_lent, one_full, Has}
use Rattle.vlt_core.specs.Faults.{Spot, IsNoLater, IsFaultIn, IsPresent}
use Rattle.vlt_faults.specs.declared.judge.InstanceBlame.{InstanceBlame}
use Rattle.vlt_faults.specs.Judge.Faulty.{AreFitIn}
use Rattle.vlt_faults.specs.Judge.Extents.{IsBeyond}
use Rattle.vlt_faults.specs.Judge.Overs.{AreBounds}
use Rattle.vlt_all_faults_laws.specs.Each.{Finding, AreFindings}
use Rattle.vlt_all_faults_laws.specs.Listing.{IsPlace, HasNone, IsListing}
use Rattle.vlt_all_faults_laws.proofs.Entering.{listing_none, listing_more, listing_with, listing_whole}
use Rattle.vlt_all_faults.specs.Tokens.{finding_of, findings_of, IsJudgedOf, AreBoundsOf, IsEntered, IsListed, IsBelow}
use Rattle.vlt_all_faults.proofs.Avoided.{none_block}
use Rattle.vlt_all_faults.proofs.Tokens.{none_of, own_of, finding_is}

-- ---- places

-- what comes of the rest comes of all, with so many before it
pub record Placing (x : Finding) (ys : List InstanceBlame) (i : ℕ) : Type 0 where
  pub rest : (n : ℕ) → IsPlace x (findings_of (drop i ys)) n → IsPlace x (findings_of ys) (i + n)

split_at : {X : Type 0} (xs : List X) (i : ℕ) (x : X) → i < length xs → x ≡ get_or xs i x → drop i xs ≡ x ∷ drop (i + 1) xs
split_at xs i x lt read = rw add-one (drop-cons xs i x lt ∙ ap (λ y. y ∷ drop (suc i) xs) (sym read))

pub placing_first : (x : Finding) (ys : List InstanceBlame) → Placing x ys 0
placing_first x ys = record { rest = λ n q. subst (IsPlace x (findings_of ys)) (let e : n ≡ 0 + n = omega arith in e) q }

pub placing_more : (x : Finding) (ys : List InstanceBlame) (i : ℕ) (y : InstanceBlame) → i < length ys → y ≡ get_or ys i y → IsNoLater (finding_of y).spot (finding_of y).tok x.spot x.tok →
    Placing x ys i → Placing x ys (i + 1)
placing_more x ys i y lt read before c = record {
  rest = λ n q. subst (IsPlace x (findings_of ys)) (let e : i + suc n ≡ i + 1 + n = omega arith in e)
      (c.rest (suc n) (subst (λ l. IsPlace x (findings_of l) (suc n)) (sym (split_at ys i y lt read)) (before, q)));
}

pub placing_here : (x : Finding) (ys : List InstanceBlame) (i : ℕ) (y : InstanceBlame) → i < length ys → y ≡ get_or ys i y → IsNoLater x.spot x.tok (finding_of y).spot (finding_of y).tok →
    Placing x ys i → IsPlace x (findings_of ys) i
placing_here x ys i y lt read before c =
    subst (IsPlace x (findings_of ys)) (let e : i + 0 ≡ i = omega arith in e)
    (c.rest 0 (subst (λ l. IsPlace x (findings_of l) 0) (sym (split_at ys i y lt read)) before))

pub placing_ends : (x : Finding) (ys : List InstanceBlame) (i : ℕ) → length ys ≤ i → Placing x ys i → IsPlace x (findings_of ys) i
placing_ends x ys i past c =
    subst (IsPlace x (findings_of ys)) (let e : i + 0 ≡ i = omega arith in e)
    (c.rest 0 (subst (λ l. IsPlace x (findings_of l) 0) (sym (drop_all i ys past)) refl))

-- ---- one more

insert_seen : (ys : List InstanceBlame) (n : ℕ) (y : InstanceBlame) → findings_of (insert ys n y) ≡ insert (findings_of ys) n (finding_of y)
insert_seen [] zero y = refl
insert_seen [] (suc n) y = refl
insert_seen (z ∷ ys) zero y = refl
insert_seen (z ∷ ys) (suc n) y = ap (λ l. finding_of z ∷ l) (insert_seen ys n y)

module _ (p : Program) (f : Func) where
  listed_step : (A C : Tok → Type 0) (t : Tok) (x : Option InstanceBlame) (old new : List InstanceBlame) → ((u : Tok) → A u → C u) → ((u : Tok) → C u → A u ⊎ (u ≡ t)) → C t → (A t → ⊥) →
      IsJudgedOf p f t x → IsEntered x old new → IsListed A p f old → IsListed C p f new
  listed_step A C t None old new up split here never judged entered l fit =
      subst (λ ys. IsListing C p f (findings_of ys)) (sym entered)
      (listing_more A C p f t (findings_of old) up split (none_of p f t judged) (l fit))
  listed_step A C t (Some y) old new up split here never judged entered l fit =
      let own = own_of p f t y judged in
      subst (λ ys. IsListing C p f (findings_of ys)) (sym entered.2)
      (subst (IsListing C p f) (sym (insert_seen old entered.0 y))
      (listing_with A C p f (finding_of y) entered.0 (findings_of old) up
      (λ u c. ⊎_elim (λ a. inl a) (λ e. inr (e ∙ sym own)) (split u c))
      (subst C (sym own) here) (λ a. never (subst A own a)) (finding_is p f t y fit judged) entered.1 (l fit)))

  less_or : (k n : ℕ) → k < n + 1 → (k < n) ⊎ (k ≡ n)
  less_or k n q = ⊎_elim (λ r. inl r) (λ r. inr (omega (arith, q, r))) (cases_lt k n)

  key_up : (n m : ℕ) (u : Tok) → IsBelow n m u → IsBelow (n + 1) m u
  key_up n m (a_key k) q = omega (arith, q)
  key_up n m (a_var v) q = q

  key_next : (n m : ℕ) (u : Tok) → IsBelow (n + 1) m u → IsBelow n m u ⊎ (u ≡ a_key n)
  key_next n m (a_key k) q = ⊎_elim (λ r. inl r) (λ r. inr (ap a_key r)) (less_or k n q)
  key_next n m (a_var v) q = inl q

  var_up : (n m : ℕ) (u : Tok) → IsBelow n m u → IsBelow n (m + 1) u
  var_up n m (a_key k) q = q
  var_up n m (a_var v) q = omega (arith, q)

  var_next : (n m : ℕ) (u : Tok) → IsBelow n (m + 1) u → IsBelow n m u ⊎ (u ≡ a_var m)
  var_next n m (a_key k) q = inl q
  var_next n m (a_var v) q = ⊎_elim (λ r. inl r) (λ r. inr (ap a_var r)) (less_or v m q)

  pub listed_key : (n m : ℕ) (x : Option InstanceBlame) (old new : List InstanceBlame) → IsJudgedOf p f (a_key n) x → IsEntered x old new → IsListed (IsBelow n m) p f old → IsListed (IsBelow (n + 1) m) p f new
  listed_key n m x old new judged entered l =
      listed_step (IsBelow n m) (IsBelow (n + 1) m) (a_key n) x old new (key_up n m) (key_next n m) (omega arith) (λ a. omega (arith, a)) judged entered l

  pub listed_var : (n m : ℕ) (x : Option InstanceBlame) (old new : List InstanceBlame) → IsJudgedOf p f (a_var m) x → IsEntered x old new → IsListed (IsBelow n m) p f old → IsListed (IsBelow n (m + 1)) p f new
  listed_var n m x old new judged entered l =
      listed_step (IsBelow n m) (IsBelow n (m + 1)) (a_var m) x old new (var_up n m) (var_next n m) (omega arith) (λ a. omega (arith, a)) judged entered l

  no_token : (u : Tok) → IsBelow 0 0 u → ⊥
  no_token (a_key k) q = omega (arith, q)
  no_token (a_var v) q = omega (arith, q)

  pub listed_none : (ys : List InstanceBlame) → ys ≡ [] → IsListed (IsBelow 0 0) p f ys
  listed_none ys e fit = subst (λ ys. IsListing (IsBelow 0 0) p f (findings_of ys)) (sym e) (listing_none (IsBelow 0 0) (IsBelow 0 0) p f no_token)

  -- ---- tokens beyond

  only_away : (o : One) → Has absent o → IsPresent o → ⊥
  only_away one_absent h q = q
  only_away (one_held s) h q = h
  only_away (one_lent s) h q = h
  only_away one_full h q = h

  beyond_none : (keys vars : ℕ) (t : Tok) → AreBoundsOf p f keys vars → IsBeyond keys vars t → HasNone p f t
  beyond_none keys vars t counted beyond o q own fault =
      let c = counted o own in
      none_block t q (body_flow p (instance p f o)) 0 (Has (start_map p (instance p f o) t)) (c.avoids t beyond)
      (subst (λ s. (o : One) → Has s o → IsPresent o → ⊥) (sym (c.absent t beyond)) only_away) fault

  below_beyond : (keys vars : ℕ) (t : Tok) → IsBelow keys vars t ⊎ IsBeyond keys vars t
  below_beyond keys vars (a_key k) = cases_lt k keys
  below_beyond keys vars (a_var v) = cases_lt v vars

  pub all_listed : (keys vars : ℕ) (ys : List InstanceBlame) → AreBoundsOf p f keys vars → IsListed (IsBelow keys vars) p f ys → AreFitIn p f → AreFindings p f (findings_of ys)
  all_listed keys vars ys counted l fit =
      listing_whole (IsBelow keys vars) p f (findings_of ys)
      (λ t. ⊎_elim (λ b. inl b) (λ b. inr (beyond_none keys vars t counted b)) (below_beyond keys vars t)) (l fit)
