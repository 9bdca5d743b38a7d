-- A way goes on by what was found of its end.
use Rattle.std.proofs.Common.{◌≡◌, ◌∙◌, ◌↔◌, ◌⊎◌, ◌++◌, ◌+◌, ◌<◌, ◌≤◌, ℕ, Bool, true, false, IsTrue, List, [], ◌∷◌, refl, sym, ap, subst, inl, inr, ⊎_elim, arith, rules}
use Rattle.vlt_core.specs.Found.{One, one_absent, one_held, one_lent, one_full}
use Rattle.vlt_core.specs.Witness.{Choice}
use Rattle.vlt_core.specs.FaultView.{choices_of}
use Rattle.vlt_core_laws.specs.Sweep.{In}
use Rattle.vlt_faults.specs.Finding.Ones.{many_of}
use Rattle.vlt_witness.specs.declared.seen.Seen.{Seen}
use Rattle.vlt_witness.specs.declared.ways.Way.{Way}
use Rattle.vlt_witness.specs.Ways.{one_of, Finds, nothing_found, IsWay, IsSeen, End, end_of_join, IsSmall}
use Rattle.vlt_witness.specs.Search.{Led, Spreads, Joined, Walks, Takes, By, CanBy, IsEvery}

same_in : (x : Way) (m n : One) → In (many_of x.ones) m → m ≡ n → In (many_of x.ones) n
same_in x m n h e = subst (In (many_of x.ones)) e h

-- ---- steps to statuses

module _ (x s y : Way) (from : y.from ≡ x.from) (ones : y.ones ≡ s.ones) (path : choices_of y.path ≡ choices_of x.path ++ choices_of s.path) (has : In (many_of x.ones) (one_of s.from)) where
  way_by : (f q : One) (cs : List Choice) → IsWay y f q cs → Led (By (IsWay s)) (IsWay x) f q cs
  way_by f q cs w = record {
    begin = one_of s.from;
    before = choices_of x.path;
    following = choices_of s.path;
    comes = record { from = ap one_of (sym from) ∙ w.from; there = has; path = refl };
    goes = record { from = refl; there = subst (λ m. In (many_of m) q) ones w.there; path = refl };
    whole = sym w.path ∙ path;
  }

  by_way : (f m q : One) (cs es : List Choice) → IsWay x f m cs → IsWay s m q es → (ds : List Choice) × IsWay y f q ds
  by_way f m q cs es v w = (choices_of y.path, record { from = ap one_of from ∙ v.from; there = subst (λ m. In (many_of m) q) (sym ones) w.there; path = refl })

  pub extended_way : (A R : Finds One) → Joined A (IsWay y) R → Spreads (By (IsWay s)) (CanBy (IsWay s)) (IsWay x) A R
  extended_way A R j = record {
    found = λ f q cs r. ⊎_elim (λ a. inl a) (λ w. inr (way_by f q cs w)) (j.found f q cs r);
    kept = j.first;
    all = λ f m cs q v c. let n = by_way f m q cs c.0 v c.1 in j.second f q n.0 n.1;
  }

pub skipped_way : (x s : Way) (A : Finds One) → (In (many_of x.ones) (one_of s.from) → ⊥) → Spreads (By (IsWay s)) (CanBy (IsWay s)) (IsWay x) A A
skipped_way x s A never = record {
  found = λ f q cs a. inl a;
  kept = λ f q cs a. (cs, a);
  all = λ f m cs q v c. absurd (never (same_in x m (one_of s.from) v.there (sym c.1.from)));
}

-- ---- steps to what is met

module _ (x : Way) (s y : Seen) (from : y.from ≡ x.from) (join : y.join ≡ s.join) (path : choices_of y.path ≡ choices_of x.path ++ choices_of s.path) (has : In (many_of x.ones) (one_of s.from)) where
  seen_by : (f : One) (e : End) (cs : List Choice) → IsSeen y f e cs → Led (By (IsSeen s)) (IsWay x) f e cs
  seen_by f e cs w = record {
    begin = one_of s.from;
    before = choices_of x.path;
    following = choices_of s.path;
    comes = record { from = ap one_of (sym from) ∙ w.from; there = has; path = refl };
    goes = record { from = refl; met = ap end_of_join (sym join) ∙ w.met; path = refl };
    whole = sym w.path ∙ path;
  }

  by_seen : (f m : One) (e : End) (cs es : List Choice) → IsWay x f m cs → IsSeen s m e es → (ds : List Choice) × IsSeen y f e ds
  by_seen f m e cs es v w = (choices_of y.path, record { from = ap one_of from ∙ v.from; met = ap end_of_join join ∙ w.met; path = refl })

  pub extended_seen : (A R : Finds End) → Joined A (IsSeen y) R → Spreads (By (IsSeen s)) (CanBy (IsSeen s)) (IsWay x) A R
  extended_seen A R j = record {
    found = λ f e cs r. ⊎_elim (λ a. inl a) (λ w. inr (seen_by f e cs w)) (j.found f e cs r);
    kept = j.first;
    all = λ f m cs e v c. let n = by_seen f m e cs c.0 v c.1 in j.second f e n.0 n.1;
  }

pub skipped_seen : (x : Way) (s : Seen) (A : Finds End) → (In (many_of x.ones) (one_of s.from) → ⊥) → Spreads (By (IsSeen s)) (CanBy (IsSeen s)) (IsWay x) A A
skipped_seen x s A never = record {
  found = λ f e cs a. inl a;
  kept = λ f e cs a. (cs, a);
  all = λ f m cs e v c. absurd (never (same_in x m (one_of s.from) v.there (sym c.1.from)));
}

-- ---- one more choice

pub way_takes : (c : Choice) (x y : Way) → y.from ≡ x.from → y.ones ≡ x.ones → choices_of y.path ≡ choices_of x.path ++ c ∷ [] → Walks (Takes c) (IsWay x) nothing_found (IsWay y)
way_takes c x y from ones path = record {
  found = λ f q cs w. inr (record {
    begin = q;
    before = choices_of x.path;
    following = c ∷ [];
    comes = record { from = ap one_of (sym from) ∙ w.from; there = subst (λ m. In (many_of m) q) ones w.there; path = refl };
    goes = λ rest. (refl, refl);
    whole = sym w.path ∙ path;
  });
  kept = λ f q cs n. absurd n;
  all = λ f o cs q w d. (choices_of y.path, record { from = ap one_of from ∙ w.from; there = subst (λ m. In (many_of m) q) (sym ones) (subst (In (many_of x.ones)) (sym d.1.1.0) w.there); path = refl });
}

-- ---- what is new of a way

pub true_or_not : (b : Bool) → IsTrue b ⊎ (IsTrue b → ⊥)
true_or_not true = inl (search rules)
true_or_not false = inr never
  where
    never : IsTrue false → ⊥
    never h = search rules

pub added : (A : Finds One) (x y : Way) (R : Finds One) → y.from ≡ x.from → choices_of y.path ≡ choices_of x.path → ((o : One) → In (many_of y.ones) o → In (many_of x.ones) o) → ((o : One) → In (many_of x.ones) o → In (many_of y.ones) o ⊎ ((cs : List Choice) × A (one_of x.from) o cs)) → Joined A (IsWay y) R → Joined A (IsWay x) R
added A x y R from path less rest j = record {
  found = λ f q cs r. ⊎_elim (λ a. inl a) (λ w. inr (record { from = ap one_of (sym from) ∙ w.from; there = less q w.there; path = sym path ∙ w.path })) (j.found f q cs r);
  first = j.first;
  second = λ f q cs w. ⊎_elim
      (λ h. j.second f q (choices_of y.path) (record { from = ap one_of from ∙ w.from; there = h; path = refl }))
      (λ h. j.first f q h.0 (subst (λ f. A f q h.0) w.from h.1)) (rest q w.there);
}

pub added_none : (A : Finds One) (x : Way) → ((o : One) → In (many_of x.ones) o → (cs : List Choice) × A (one_of x.from) o cs) → Joined A (IsWay x) A
added_none A x rest = record {
  found = λ f q cs a. inl a;
  first = λ f q cs a. (cs, a);
  second = λ f q cs w. let h = rest q w.there in (h.0, subst (λ f. A f q h.0) w.from h.1);
}

-- ---- each status by itself

abbrev pub IsAlone : One → Finds One
IsAlone o f q cs = (f ≡ o) × (q ≡ o) × (cs ≡ [])

pub alone : (A R : Finds One) (x : Way) (o : One) → one_of x.from ≡ o → ((q : One) → In (many_of x.ones) q ↔ (q ≡ o)) → choices_of x.path ≡ [] → Joined A (IsWay x) R → Joined A (IsAlone o) R
alone A R x o from ones path j = record {
  found = λ f q cs r. ⊎_elim (λ a. inl a) (λ w. inr (sym w.from ∙ from, (ones q).0 w.there, sym w.path ∙ path)) (j.found f q cs r);
  first = j.first;
  second = λ f q cs w. j.second f q cs (record { from = from ∙ sym w.0; there = (ones q).1 w.1; path = path ∙ sym w.2 });
}

-- those of these states so far
pub record IsFilled (R : Finds One) (n : ℕ) : Type 0 where
  pub every : IsEvery R
  pub absent : (cs : List Choice) × R one_absent one_absent cs
  pub full : (cs : List Choice) × R one_full one_full cs
  pub held : (i : ℕ) → i < n → (cs : List Choice) × R (one_held i) (one_held i) cs
  pub lent : (i : ℕ) → i < n → (cs : List Choice) × R (one_lent i) (one_lent i) cs

every_more : (A R : Finds One) (o : One) → Joined A (IsAlone o) R → IsEvery A → IsEvery R
every_more A R o j e = record { found = λ f q cs r. ⊎_elim (λ a. e.found f q cs a) (λ w. (w.0 ∙ sym w.1, w.2)) (j.found f q cs r) }

pub filled_first : (A B R : Finds One) → ((f q : One) (cs : List Choice) → A f q cs → ⊥) → Joined A (IsAlone one_absent) B → Joined B (IsAlone one_full) R → IsFilled R 0
filled_first A B R none j k = record {
  every = every_more B R one_full k (every_more A B one_absent j (record { found = λ f q cs a. absurd (none f q cs a) }));
  absent = let b = j.second one_absent one_absent [] (refl, refl, refl) in k.first one_absent one_absent b.0 b.1;
  full = k.second one_full one_full [] (refl, refl, refl);
  held = λ i lt. absurd (omega (arith, lt));
  lent = λ i lt. absurd (omega (arith, lt));
}

below_or_same : (i n : ℕ) → i < n + 1 → (i < n) ⊎ (i ≡ n)
below_or_same i n lt = grind (arith)

pub filled_more : (A B R : Finds One) (n : ℕ) → Joined A (IsAlone (one_held n)) B → Joined B (IsAlone (one_lent n)) R → IsFilled A n → IsFilled R (n + 1)
filled_more A B R n j k x = record {
  every = every_more B R (one_lent n) k (every_more A B (one_held n) j x.every);
  absent = let b = j.first one_absent one_absent x.absent.0 x.absent.1 in k.first one_absent one_absent b.0 b.1;
  full = let b = j.first one_full one_full x.full.0 x.full.1 in k.first one_full one_full b.0 b.1;
  held = λ i lt. ⊎_elim
      (λ l. let a = x.held i l in let b = j.first (one_held i) (one_held i) a.0 a.1 in k.first (one_held i) (one_held i) b.0 b.1)
      (λ e. let o : one_held i ≡ one_held n = ap one_held e in let b = j.second (one_held i) (one_held i) [] (o, o, refl) in k.first (one_held i) (one_held i) b.0 b.1) (below_or_same i n lt);
  lent = λ i lt. ⊎_elim
      (λ l. let a = x.lent i l in let b = j.first (one_lent i) (one_lent i) a.0 a.1 in k.first (one_lent i) (one_lent i) b.0 b.1)
      (λ e. let o : one_lent i ≡ one_lent n = ap one_lent e in k.second (one_lent i) (one_lent i) [] (o, o, refl)) (below_or_same i n lt);
}

pub filled_all : (R : Finds One) (n : ℕ) → 32 ≤ n → IsFilled R n → (o : One) → IsSmall o → (cs : List Choice) × R o o cs
filled_all R n le x one_absent h = x.absent
filled_all R n le x one_full h = x.full
filled_all R n le x (one_held i) h = x.held i (omega (arith, h, le))
filled_all R n le x (one_lent i) h = x.lent i (omega (arith, h, le))

-- ---- what was seen before

pub seen_before : (A : Finds End) (x : Seen) → (cs : List Choice) × A (one_of x.from) (end_of_join x.join) cs → Joined A (IsSeen x) A
seen_before A x was = record {
  found = λ f e cs a. inl a;
  first = λ f e cs a. (cs, a);
  second = λ f e cs w. (was.0, subst (λ f. A f e was.0) w.from (subst (λ e. A (one_of x.from) e was.0) w.met was.1));
}
