-- What is found, one part after another.
use Rattle.std.proofs.Common.{◌≡◌, ◌∙◌, ◌⊎◌, ◌++◌, List, refl, sym, ap, subst, inl, inr, ⊎_elim, append_assoc}
use Rattle.vlt_core.specs.Found.{One}
use Rattle.vlt_core.specs.Witness.{Choice}
use Rattle.vlt_witness.specs.Ways.{Finds, nothing_found, End, IsSmall}
use Rattle.vlt_witness.specs.Search.{Led, Spreads, Joined, Leg, Leads, CanLead, Walks, Sight, Meets, CanMeet, Sees, By, CanBy, Then, ThenSight, Either, EitherSight, Picked, PickedSight, Takes, IsTable, IsEvery}

pub led_map : {E : Type 0} (G H : One → List Choice → E → Type 0) (L : Finds One) (f : One) (e : E) (cs : List Choice) → ((o : One) (es : List Choice) → G o es e → H o es e) → Led G L f e cs → Led H L f e cs
led_map G H L f e cs to x = record { begin = x.begin; before = x.before; following = x.following; comes = x.comes; goes = to x.begin x.following x.goes; whole = x.whole }

module _ {E : Type 0} (G H : One → List Choice → E → Type 0) (C D : One → E → Type 0) (L : Finds One) (A B R : Finds E) where
  pub spreads_map : ((o : One) (cs : List Choice) (e : E) → G o cs e → H o cs e) → ((o : One) (e : E) → D o e → C o e) → Spreads G C L A R → Spreads H D L A R
  spreads_map to back x = record {
    found = λ f e cs r. ⊎_elim (λ y. inl y) (λ y. inr (led_map G H L f e cs (λ o es g. to o es e g) y)) (x.found f e cs r);
    kept = x.kept;
    all = λ f o cs e l d. x.all f o cs e l (back o e d);
  }

  pub spreads_both : Spreads G C L A B → Spreads H D L B R → Spreads (λ o cs e. G o cs e ⊎ H o cs e) (λ o e. C o e ⊎ D o e) L A R
  spreads_both x y = record {
    found = λ f e cs r. ⊎_elim
        (λ b. ⊎_elim (λ a. inl a) (λ z. inr (led_map G (λ o cs e. G o cs e ⊎ H o cs e) L f e cs (λ o es g. inl g) z)) (x.found f e cs b))
        (λ z. inr (led_map H (λ o cs e. G o cs e ⊎ H o cs e) L f e cs (λ o es h. inr h) z)) (y.found f e cs r);
    kept = λ f e cs a. let b = x.kept f e cs a in y.kept f e b.0 b.1;
    all = λ f o cs e l. ⊎_elim (λ c. let b = x.all f o cs e l c in y.kept f e b.0 b.1) (λ d. y.all f o cs e l d);
  }

module _ {E : Type 0} (G : One → List Choice → E → Type 0) (C : One → E → Type 0) (L : Finds One) (A B R : Finds E) where
  -- where nothing goes on, nothing is added
  pub spreads_none : ((o : One) (e : E) → C o e → ⊥) → Spreads G C L A A
  spreads_none never = record { found = λ f e cs a. inl a; kept = λ f e cs a. (cs, a); all = λ f o cs e l c. absurd (never o e c) }

  pub spreads_joined : Spreads G C L nothing_found B → Joined A B R → Spreads G C L A R
  spreads_joined x j = record {
    found = λ f e cs r. ⊎_elim (λ a. inl a) (λ b. ⊎_elim (λ z. absurd z) (λ z. inr z) (x.found f e cs b)) (j.found f e cs r);
    kept = j.first;
    all = λ f o cs e l c. let b = x.all f o cs e l c in j.second f e b.0 b.1;
  }

-- ---- legs

pub walks_map : (T U : Leg) (L A R : Finds One) → ((o : One) (cs : List Choice) (q : One) (ds : List Choice) → T o cs q ds → U o cs q ds) → ((o : One) (cs : List Choice) (q : One) (ds : List Choice) → U o cs q ds → T o cs q ds) → Walks T L A R → Walks U L A R
walks_map T U L A R to back x =
    spreads_map (Leads T) (Leads U) (CanLead T) (CanLead U) L A A R (λ o cs q g rest. to o (cs ++ rest) q rest (g rest)) (λ o q c. (c.0, (c.1.0, back o c.0 q c.1.0 c.1.1))) x

pub sees_map : (M N : Sight) (L : Finds One) (A R : Finds End) → ((e : End) (o : One) (cs : List Choice) → M e o cs → N e o cs) → ((e : End) (o : One) (cs : List Choice) → N e o cs → M e o cs) → Sees M L A R → Sees N L A R
sees_map M N L A R to back x =
    spreads_map (Meets M) (Meets N) (CanMeet M) (CanMeet N) L A A R (λ o cs e g. to e o cs g) (λ o e c. (c.0, back e o c.0 c.1)) x

pub walks_none : (T : Leg) (L A : Finds One) → ((o : One) (cs : List Choice) (q : One) (ds : List Choice) → T o cs q ds → ⊥) → Walks T L A A
walks_none T L A never = spreads_none (Leads T) (CanLead T) L A A A (λ o q c. never o c.0 q c.1.0 c.1.1)

pub sees_none : (M : Sight) (L : Finds One) (A : Finds End) → ((e : End) (o : One) (cs : List Choice) → M e o cs → ⊥) → Sees M L A A
sees_none M L A never = spreads_none (Meets M) (CanMeet M) L A A A (λ o e c. never e o c.0 c.1)

pub walks_both : (T U : Leg) (L A B R : Finds One) → Walks T L A B → Walks U L B R → Walks (Either T U) L A R
walks_both T U L A B R x y =
    spreads_map (λ o cs q. Leads T o cs q ⊎ Leads U o cs q) (Leads (Either T U)) (λ o q. CanLead T o q ⊎ CanLead U o q) (CanLead (Either T U)) L A A R
    (λ o cs q. ⊎_elim (λ g rest. inl (g rest)) (λ g rest. inr (g rest)))
    (λ o q c. ⊎_elim (λ t. inl (c.0, (c.1.0, t))) (λ u. inr (c.0, (c.1.0, u))) c.1.1)
    (spreads_both (Leads T) (Leads U) (CanLead T) (CanLead U) L A B R x y)

pub sees_both : (M N : Sight) (L : Finds One) (A B R : Finds End) → Sees M L A B → Sees N L B R → Sees (EitherSight M N) L A R
sees_both M N L A B R x y =
    spreads_map (λ o cs e. Meets M o cs e ⊎ Meets N o cs e) (Meets (EitherSight M N)) (λ o e. CanMeet M o e ⊎ CanMeet N o e) (CanMeet (EitherSight M N)) L A A R
    (λ o cs e g. g)
    (λ o e c. ⊎_elim (λ t. inl (c.0, t)) (λ u. inr (c.0, u)) c.1)
    (spreads_both (Meets M) (Meets N) (CanMeet M) (CanMeet N) L A B R x y)

pub walks_joined : (T : Leg) (L A B R : Finds One) → Walks T L nothing_found B → Joined A B R → Walks T L A R
walks_joined T L A B R x j = spreads_joined (Leads T) (CanLead T) L A B R x j

pub walks_then : (T U : Leg) (L M A R : Finds One) → Walks T L nothing_found M → Walks U M A R → Walks (Then T U) L A R
walks_then T U L M A R x y = record {
  found = λ f q cs r. ⊎_elim (λ a. inl a) (λ z. inr (led f q cs z)) (y.found f q cs r);
  kept = y.kept;
  all = λ f o cs q l c. let v = c.1.1 in let m = x.all f o cs v.0 l (c.0, (v.1.0, v.1.1)) in y.all f v.0 m.0 q m.1 (v.1.0, (c.1.0, v.1.2));
}
  where
    join : (f q : One) (cs : List Choice) (z : Led (Leads U) M f q cs) → Led (Leads T) L f z.begin z.before → Led (Leads (Then T U)) L f q cs
    join f q cs z y = record {
      begin = y.begin;
      before = y.before;
      following = y.following ++ z.following;
      comes = y.comes;
      goes = λ rest. (z.begin, (z.following ++ rest, subst (λ l. T y.begin l z.begin (z.following ++ rest)) (sym (append_assoc y.following z.following rest)) (y.goes (z.following ++ rest)), z.goes rest));
      whole = z.whole ∙ ap (λ l. l ++ z.following) y.whole ∙ append_assoc y.before y.following z.following;
    }

    led : (f q : One) (cs : List Choice) → Led (Leads U) M f q cs → Led (Leads (Then T U)) L f q cs
    led f q cs z = ⊎_elim (λ n. absurd n) (λ y. join f q cs z y) (x.found f z.begin z.before z.comes)

pub sees_then : (T : Leg) (N : Sight) (L M : Finds One) (A R : Finds End) → Walks T L nothing_found M → Sees N M A R → Sees (ThenSight T N) L A R
sees_then T N L M A R x y = record {
  found = λ f e cs r. ⊎_elim (λ a. inl a) (λ z. inr (led f e cs z)) (y.found f e cs r);
  kept = y.kept;
  all = λ f o cs e l c. let v = c.1 in let m = x.all f o cs v.0 l (c.0, (v.1.0, v.1.1)) in y.all f v.0 m.0 e m.1 (v.1.0, v.1.2);
}
  where
    join : (f : One) (e : End) (cs : List Choice) (z : Led (Meets N) M f e cs) → Led (Leads T) L f z.begin z.before → Led (Meets (ThenSight T N)) L f e cs
    join f e cs z y = record {
      begin = y.begin;
      before = y.before;
      following = y.following ++ z.following;
      comes = y.comes;
      goes = (z.begin, (z.following, y.goes z.following, z.goes));
      whole = z.whole ∙ ap (λ l. l ++ z.following) y.whole ∙ append_assoc y.before y.following z.following;
    }

    led : (f : One) (e : End) (cs : List Choice) → Led (Meets N) M f e cs → Led (Meets (ThenSight T N)) L f e cs
    led f e cs z = ⊎_elim (λ n. absurd n) (λ y. join f e cs z y) (x.found f z.begin z.before z.comes)

-- ---- by a choice

pub walks_picked : (c : Choice) (U : Leg) (L M A R : Finds One) → Walks (Takes c) L nothing_found M → Walks U M A R → Walks (Picked c U) L A R
walks_picked c U L M A R x y = walks_map (Then (Takes c) U) (Picked c U) L A R
    (λ o cs q ds z. (z.1.0, z.1.1.1, subst (λ m. U m z.1.0 q ds) z.1.1.0 z.1.2))
    (λ o cs q ds z. (o, (z.0, (refl, z.1), z.2))) (walks_then (Takes c) U L M A R x y)

pub sees_picked : (c : Choice) (N : Sight) (L M : Finds One) (A R : Finds End) → Walks (Takes c) L nothing_found M → Sees N M A R → Sees (PickedSight c N) L A R
sees_picked c N L M A R x y = sees_map (ThenSight (Takes c) N) (PickedSight c N) L A R
    (λ e o cs z. (z.1.0, z.1.1.1, subst (λ m. N e m z.1.0) z.1.1.0 z.1.2))
    (λ e o cs z. (o, (z.0, (refl, z.1), z.2))) (sees_then (Takes c) N L M A R x y)

-- ---- from each status by itself

pub table : {E : Type 0} (G : One → List Choice → E → Type 0) (C : One → E → Type 0) (V : Finds One) (R : Finds E) → IsEvery V → ((o : One) → IsSmall o → (cs : List Choice) × V o o cs) → Spreads G C V nothing_found R → IsTable G C R
table G C V R v w x = record {
  found = λ o e cs r. ⊎_elim (λ n. absurd n) (λ z. alone o e cs z) (x.found o e cs r);
  all = λ o e small c. let s = w o small in x.all o o s.0 e s.1 c;
}
  where
    alone : (o : One) (e : _) (cs : List Choice) → Led G V o e cs → G o cs e
    alone o e cs z =
        let at = v.found o z.begin z.before z.comes in
        let whole : cs ≡ z.following = z.whole ∙ ap (λ l. l ++ z.following) at.1 in
        subst (λ l. G o l e) (sym whole) (subst (λ m. G m z.following e) (sym at.0) z.goes)

-- what was found of each status leads on
pub spreads_table : {E : Type 0} (G : One → List Choice → E → Type 0) (C : One → E → Type 0) (S : Finds E) (L : Finds One) (A R : Finds E) → IsTable G C S → ((f q : One) (cs : List Choice) → L f q cs → IsSmall q) → Spreads (By S) (CanBy S) L A R → Spreads G C L A R
spreads_table G C S L A R t small x = record {
  found = λ f e cs r. ⊎_elim (λ a. inl a) (λ z. inr (led_map (By S) G L f e cs (λ o es s. t.found o e es s) z)) (x.found f e cs r);
  kept = x.kept;
  all = λ f o cs e l c. x.all f o cs e l (t.all o e (small f o cs l) c);
}
