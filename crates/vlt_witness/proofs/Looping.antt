-- Turns of a loop.
use Rattle.std.proofs.Common.{◌≡◌, ◌∙◌, ◌++◌, ◌+◌, ◌<◌, ◌≤◌, ◌^◌, ℕ, zero, suc, IsTrue, List, [], ◌∷◌, length, take, get_or, refl, sym, ap, subst, inr, ⊎_elim, append_assoc, arith}
use Rattle.std.proofs.lemmas.List.{append-nil, take_all, take-append-le}
use Rattle.vlt_base.specs.States.{is_bit}
use Rattle.vlt_base.proofs.Sets.{no_bit_above}
use Rattle.vlt_core.specs.Core.{Tok}
use Rattle.vlt_core.specs.Maps.{Row}
use Rattle.vlt_core.specs.Flow.{Block}
use Rattle.vlt_core.specs.Found.{One, one_absent, one_held, one_lent, one_full}
use Rattle.vlt_core.specs.Witness.{Choice, ThroughBlock, Turns, Reaches}
use Rattle.vlt_core_laws.specs.Sweep.{In}
use Rattle.vlt_faults.specs.declared.finding.ones.Ones.{Ones}
use Rattle.vlt_faults.specs.Finding.Ones.{many_of}
use Rattle.vlt_witness.specs.declared.ways.Way.{Way}
use Rattle.vlt_witness.specs.Ways.{Finds, nothing_found, IsWay, On, IsSmall}
use Rattle.vlt_witness.specs.Search.{Led, Spreads, Joined, Leg, Leads, CanLead, Walks, By, CanBy, Grows, Times, Often, IsClosed, IsTable}
use Rattle.vlt_witness.specs.Parts.{TurnLeg, LeaveLeg}
use Rattle.vlt_witness.proofs.Lists.{among_at, among_more}

-- ---- what comes has a state below 32

bit_small : (m i : ℕ) → m < 2 ^ 32 → IsTrue (is_bit m i) → i < 32
bit_small m i lt h = grind (arith, no_bit_above)

pub small_in : (m : Ones) (q : One) → In (many_of m) q → IsSmall q
small_in m one_absent h = tt
small_in m one_full h = tt
small_in m (one_held i) h = bit_small m.held i m.few_held h
small_in m (one_lent i) h = bit_small m.lent i m.few_lent h

pub small_on : (list : List Way) (f q : One) (cs : List Choice) → On list f q cs → IsSmall q
small_on [] f q cs h = absurd h
small_on (x ∷ xs) f q cs h = ⊎_elim (λ w. small_in x.ones q w.there) (λ y. small_on xs f q cs y) h

-- ---- closing under turns

times_more : (S : Finds One) (n : ℕ) (o m q : One) (cs es : List Choice) → Times S n o cs m → S m q es → Times S (suc n) o (cs ++ es) q
times_more S zero o m q cs es t s =
    let whole : cs ++ es ≡ es ++ [] = ap (λ l. l ++ es) t.1 ∙ sym (append-nil es) in
    (q, (es, ([], whole, subst (λ z. S z q es) t.0 s, (refl, refl))))
times_more S (suc n) o m q cs es t s =
    let rest = times_more S n t.0 m q t.1.1.0 es t.1.1.3 s in
    (t.0, (t.1.0, (t.1.1.0 ++ es, ap (λ l. l ++ es) t.1.1.1 ∙ append_assoc t.1.0 t.1.1.0 es, t.1.1.2, rest)))

pub record IsClosing (turn from : Finds One) (list : List Way) (i : ℕ) : Type 0 where
  pub found : (f q : One) (cs : List Choice) → On list f q cs → Led (Often turn) from f q cs
  pub kept : (f q : One) (cs : List Choice) → from f q cs → (ds : List Choice) × On list f q ds
  pub all : (f m q : One) (cs es : List Choice) → On (take i list) f m cs → turn m q es → (ds : List Choice) × On list f q ds

pub closing_first : (turn from : Finds One) (list : List Way) → Joined (On []) from (On list) → IsClosing turn from list 0
closing_first turn from list j = record {
  found = λ f q cs p. ⊎_elim (λ n. absurd n) (λ y. record { begin = q; before = cs; following = []; comes = y; goes = (0, (refl, refl)); whole = sym (append-nil cs) }) (j.found f q cs p);
  kept = j.second;
  all = λ f m q cs es p. absurd p;
}

pub closing_more : (turn from : Finds One) (list new : List Way) (i : ℕ) (x : Way) → i < length list → x ≡ get_or list i x → Spreads (By turn) (CanBy turn) (IsWay x) (On list) (On new) → Grows list new → IsClosing turn from list i → IsClosing turn from new (i + 1)
closing_more turn from list new i x lt read s before c = record {
  found = λ f q cs p. ⊎_elim (λ y. c.found f q cs y) (λ y. led f q cs y) (s.found f q cs p);
  kept = λ f q cs p. let y = c.kept f q cs p in s.kept f q y.0 y.1;
  all = λ f m q cs es p t. ⊎_elim (λ y. let z = c.all f m q cs es y t in s.kept f q z.0 z.1) (λ y. s.all f m cs q y (es, t))
      (among_more IsWay list i x f m cs lt read (subst (λ l. On l f m cs) same p));
}
  where
    same : take (i + 1) new ≡ take (i + 1) list
    same = ap (take (i + 1)) before.is ∙ take-append-le (i + 1) list before.more (omega (arith, lt))

    led : (f q : One) (cs : List Choice) → Led (By turn) (IsWay x) f q cs → Led (Often turn) from f q cs
    led f q cs z =
        let y = c.found f z.begin z.before (among_at IsWay list i x f z.begin z.before lt read z.comes) in record {
          begin = y.begin;
          before = y.before;
          following = y.following ++ z.following;
          comes = y.comes;
          goes = (suc y.goes.0, times_more turn y.goes.0 y.begin z.begin q y.following z.following y.goes.1 z.goes);
          whole = z.whole ∙ ap (λ l. l ++ z.following) y.whole ∙ append_assoc y.before y.following z.following;
        }

pub closing_ends : (turn from : Finds One) (list : List Way) (i : ℕ) → length list ≤ i → IsClosing turn from list i → IsClosed turn from (On list)
closing_ends turn from list i past c = record {
  found = c.found;
  kept = c.kept;
  all = λ f m q cs es p t. c.all f m q cs es (subst (λ l. On l f m cs) (sym (take_all i list past)) p) t;
}

-- ---- ways to the head of a loop

abbrev pub HeadLeg : Tok → (at : ℕ) → List Row → Block → Leg
HeadLeg t at rs s o cs q ds = (n : ℕ) × Reaches (ThroughBlock t s) t rs at n o cs q ds

module _ (t : Tok) (at : ℕ) (rs : List Row) (s : Block) (S : Finds One) (table : IsTable (Leads (TurnLeg t at rs s)) (CanLead (TurnLeg t at rs s)) S) where
  reaches : (n : ℕ) (o : One) (cs : List Choice) (q : One) → Times S n o cs q → (rest : List Choice) → Reaches (ThroughBlock t s) t rs at n o (cs ++ rest) q rest
  reaches zero o cs q x rest = (x.0, sym (ap (λ l. l ++ rest) x.1))
  reaches (suc n) o cs q x rest =
      let ds = x.1.0 in
      let es = x.1.1.0 in
      let again = reaches n x.0 es q x.1.1.3 rest in
      let leg = table.found o x.0 ds x.1.1.2 (es ++ rest) in
      let whole : cs ++ rest ≡ ds ++ (es ++ rest) = ap (λ l. l ++ rest) x.1.1.1 ∙ append_assoc ds es rest in
      subst (λ l. Reaches (ThroughBlock t s) t rs at (suc n) o l q rest) (sym whole) (leg.0, leg.1, (leg.2.0, leg.2.1, (x.0, (es ++ rest, leg.2.2, again))))

  pub heads_walk : (L H : Finds One) → ((f q : One) (cs : List Choice) → H f q cs → IsSmall q) → IsClosed S L H → Walks (HeadLeg t at rs s) L nothing_found H
  heads_walk L H small c = record {
    found = λ f q cs p. inr (led f q cs (c.found f q cs p));
    kept = λ f q cs n. absurd n;
    all = λ f o cs q l x. let h = c.kept f o cs l in come x.1.1.0 f o h.0 q x.0 x.1.0 h.1 x.1.1.1;
  }
    where
      led : (f q : One) (cs : List Choice) → Led (Often S) L f q cs → Led (Leads (HeadLeg t at rs s)) L f q cs
      led f q cs z = record { begin = z.begin; before = z.before; following = z.following; comes = z.comes; goes = λ rest. (z.goes.0, reaches z.goes.0 z.begin z.following q z.goes.1 rest); whole = z.whole }

      come : (n : ℕ) (f o : One) (cs : List Choice) (q : One) (es ds : List Choice) → H f o cs → Reaches (ThroughBlock t s) t rs at n o es q ds → (bs : List Choice) × H f q bs
      come zero f o cs q es ds h x = (cs, subst (λ z. H f z cs) (sym x.0) h)
      come (suc n) f o cs q es ds h x =
          let r = x.2.2.0 in
          let fs = x.2.2.1.0 in
          let found = table.all o r (small f o cs h) (es, (fs, (x.0, x.1, (x.2.0, x.2.1, x.2.2.1.1)))) in
          let g = c.all f o r cs found.0 h found.1 in
          come n f r g.0 q fs ds g.1 x.2.2.1.2

  -- some turns, and then out
  pub turns_of : (n : ℕ) (o m q : One) (cs es ds : List Choice) → Reaches (ThroughBlock t s) t rs at n o cs m es → LeaveLeg t at rs s m es q ds → Turns (ThroughBlock t s) t rs at n o cs q ds
  turns_of zero o m q cs es ds r l = subst (λ z. LeaveLeg t at rs s z cs q ds) r.0 (subst (λ c. LeaveLeg t at rs s m c q ds) r.1 l)
  turns_of (suc n) o m q cs es ds r l =
      (r.0, r.1, (r.2.0, r.2.1, (r.2.2.0, (r.2.2.1.0, r.2.2.1.1, turns_of n r.2.2.0 m q r.2.2.1.0 es ds r.2.2.1.2 l))))

  pub of_turns : (n : ℕ) (o q : One) (cs ds : List Choice) → Turns (ThroughBlock t s) t rs at n o cs q ds → (m : One) × ((es : List Choice) × Reaches (ThroughBlock t s) t rs at n o cs m es × LeaveLeg t at rs s m es q ds)
  of_turns zero o q cs ds x = (o, (cs, (refl, refl), x))
  of_turns (suc n) o q cs ds x =
      let y = of_turns n x.2.2.0 q x.2.2.1.0 ds x.2.2.1.2 in
      (y.0, (y.1.0, (x.0, x.1, (x.2.0, x.2.1, (x.2.2.0, (x.2.2.1.0, x.2.2.1.1, y.1.1)))), y.1.2))
