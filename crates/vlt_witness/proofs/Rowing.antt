-- Rows and joins, as ways come to them.
use Rattle.std.proofs.Common.{◌≡◌, ◌∙◌, ◌↔◌, ◌⊎◌, ◌+◌, ◌≤◌, ◌||◌, ℕ, Bool, true, false, IsTrue, Some, None, List, [], ◌∷◌, map, length, drop, refl, sym, ap, subst, inl, inr, ⊎_elim, rules}
use Rattle.std.proofs.lemmas.List.{append-nil, drop_all}
use Rattle.vlt_core.specs.Core.{Tok}
use Rattle.vlt_core.specs.Maps.{Row, is_tok}
use Rattle.vlt_core.specs.Found.{One, Ones, image_if, image, images}
use Rattle.vlt_core.specs.Faults.{Spot}
use Rattle.vlt_core.specs.Witness.{Choice, only, RowMet, NoRow}
use Rattle.vlt_core.specs.HeldView.{row_of}
use Rattle.vlt_core.specs.declared.held.Row as D
use Rattle.vlt_core.specs.FaultView.{choices_of}
use Rattle.vlt_core_laws.specs.Sweep.{Many, In, IsImage}
use Rattle.vlt_core_laws.proofs.Smooth.{smooth_image, smooth_images}
use Rattle.vlt_faults.specs.Finding.Ones.{many_of}
use Rattle.vlt_faults.specs.Finding.Passes.{IsMoved}
use Rattle.vlt_faults.proofs.OfFinding.Bits.{both_true}
use Rattle.vlt_witness.specs.declared.aim.Aim.{Aim}
use Rattle.vlt_witness.specs.declared.aim.Goal.{Goal}
use Rattle.vlt_witness.specs.declared.aim.Goal.TheVariants as goal
use Rattle.vlt_witness.specs.declared.seen.JoinName.{JoinName}
use Rattle.vlt_witness.specs.declared.seen.Seen.{Seen}
use Rattle.vlt_witness.specs.declared.ways.Way.{Way}
use Rattle.vlt_witness.specs.Ways.{one_of, Finds, nothing_found, IsWay, IsSeen, End, row_end, join_end, class_of, end_of_join}
use Rattle.vlt_witness.specs.Search.{Led, Joined, Leads, Walks, Meets, Sees, Passes}
use Rattle.vlt_witness.specs.Aims.{aim_tok, spot_of, row_aimed, join_aimed, rows_aimed, joins_aimed, JoinHere, RowsHere, HasNoRow}

no_true : IsTrue false → ⊥
no_true x = search rules

-- ---- rows of other tokens

not_both : (b : Bool) → b ≡ true → b ≡ false → ⊥
not_both b p q = no_true (subst IsTrue (sym p ∙ q) (search rules))

pub others_pass : (t : Tok) (rs : List Row) (S : Ones) (q : One) → HasNoRow t rs → images t rs S q ↔ S q
others_pass t [] S q h = (λ x. x, λ x. x)
others_pass t (r ∷ rs) S q h =
    let rest = others_pass t rs (image t r S) q h.1 in
    let here = subst (λ b. image_if b r S q ↔ S q) (sym h.0) (λ x. x, λ x. x) in
    (λ x. here.0 (rest.0 x), λ x. rest.1 (here.1 x))

row_tok : (g : Goal) (t : Tok) (at place : ℕ) (r : Row) (o : One) → row_aimed g t at place r o → is_tok t r.tok ≡ true
row_tok (goal.Refusal w) t at place r o x = x.1
row_tok goal.Absent t at place r o x = absurd x
row_tok goal.Present t at place r o x = absurd x

rows_tok : (a : Aim) (e : End) (place : ℕ) (r : Row) (o : One) → rows_aimed a e place r o → is_tok (aim_tok a) r.tok ≡ true
rows_tok a row_end place r o x = row_tok a.goal (aim_tok a) a.at place r o x
rows_tok a (join_end c n) place r o x = absurd x

others_unmet : (a : Aim) (e : End) (at : ℕ) (rs : List Row) (o : One) → HasNoRow (aim_tok a) rs → RowMet (rows_aimed a e) (joins_aimed a e) (aim_tok a) at rs o → ⊥
others_unmet a e at [] o h x = x
others_unmet a e at (r ∷ rs) o h x = ⊎_elim (λ y. not_both (is_tok (aim_tok a) r.tok) (rows_tok a e at r o y) h.0) (λ y. others_unmet a e at rs y.0 h.1 y.2) x

pub others_walk : (t : Tok) (rs : List Row) (L : Finds One) → HasNoRow t rs → Walks (Passes t rs) L nothing_found L
others_walk t rs L h = record {
  found = λ f q cs l. inr (record { begin = q; before = cs; following = []; comes = l; goes = λ rest. ((others_pass t rs (only q) q h).1 refl, refl); whole = sym (append-nil cs) });
  kept = λ f q cs n. absurd n;
  all = λ f o cs q l c. (cs, subst (λ m. L f m cs) (sym ((others_pass t rs (only o) q h).0 c.1.1.0)) l);
}

-- ---- a way through rows

pub row_met_none : (Q : Spot → One → Type 0) (t : Tok) (at : ℕ) (rs : List Row) (o : One) → RowMet NoRow Q t at rs o → ⊥
row_met_none Q t at [] o x = x
row_met_none Q t at (r ∷ rs) o x = ⊎_elim (λ y. y) (λ y. row_met_none Q t at rs y.0 y.2) x

pub way_passes : (t : Tok) (rs : List Row) (x y : Way) → y.from ≡ x.from → choices_of y.path ≡ choices_of x.path → IsImage t rs (many_of x.ones) (many_of y.ones) → Walks (Passes t rs) (IsWay x) nothing_found (IsWay y)
way_passes t rs x y from path made = record {
  found = λ f q cs w. inr (led f q cs w);
  kept = λ f q cs n. absurd n;
  all = λ f o cs q w c. (cs, record { from = ap one_of from ∙ w.from; there = (made.each q).1 ((smooth_images t rs).more (only o) (In (many_of x.ones)) (λ z e. subst (In (many_of x.ones)) (sym e) w.there) q c.1.1.0); path = path ∙ w.path });
}
  where
    led : (f q : One) (cs : List Choice) → IsWay y f q cs → Led (Leads (Passes t rs)) (IsWay x) f q cs
    led f q cs w =
        let z = (smooth_images t rs).one (In (many_of x.ones)) q ((made.each q).0 w.there) in record {
          begin = z.0;
          before = cs;
          following = [];
          comes = record { from = ap one_of (sym from) ∙ w.from; there = z.1; path = sym path ∙ w.path };
          goes = λ rest. (z.2, refl);
          whole = sym (append-nil cs);
        }

-- what the aim is met at
abbrev pub SomeMet : Aim → (at : ℕ) → List Row → Way → Type 0
SomeMet a at rs x = (o : One) × In (many_of x.ones) o × RowMet (rows_aimed a row_end) (joins_aimed a row_end) (aim_tok a) at rs o

pub way_met : (a : Aim) (at : ℕ) (rs : List Row) (x : Way) (y : Seen) (A R : Finds End) → SomeMet a at rs x → y.from ≡ x.from → y.join ≡ None → choices_of y.path ≡ choices_of x.path → Joined A (IsSeen y) R → Sees (RowsHere a at rs) (IsWay x) A R
way_met a at rs x y A R met from join path j = record {
  found = λ f e cs r. ⊎_elim (λ p. inl p) (λ p. inr (led f e cs p)) (j.found f e cs r);
  kept = j.first;
  all = λ f o cs e w c. all f o cs e w c.1.1;
}
  where
    led : (f : One) (e : End) (cs : List Choice) → IsSeen y f e cs → Led (Meets (RowsHere a at rs)) (IsWay x) f e cs
    led f e cs p = record {
      begin = met.0;
      before = cs;
      following = [];
      comes = record { from = ap one_of (sym from) ∙ p.from; there = met.1; path = sym path ∙ p.path };
      goes = (refl, subst (λ e. RowMet (rows_aimed a e) (joins_aimed a e) (aim_tok a) at rs met.0) (ap end_of_join (sym join) ∙ p.met) met.2);
      whole = sym (append-nil cs);
    }

    all : (f o : One) (cs : List Choice) (e : End) → IsWay x f o cs → RowMet (rows_aimed a e) (joins_aimed a e) (aim_tok a) at rs o → (ds : List Choice) × R f e ds
    all f o cs row_end w m = j.second f row_end cs (record { from = ap one_of from ∙ w.from; met = ap end_of_join join; path = path ∙ w.path })
    all f o cs (join_end c n) w m = absurd (row_met_none (joins_aimed a (join_end c n)) (aim_tok a) at rs o m)

pub way_unmet : (a : Aim) (at : ℕ) (rs : List Row) (x : Way) (A : Finds End) → (SomeMet a at rs x → ⊥) → Sees (RowsHere a at rs) (IsWay x) A A
way_unmet a at rs x A never = record { found = λ f e cs r. inl r; kept = λ f e cs p. (cs, p); all = λ f o cs e w c. absurd (none f o cs e w c.1.1) }
  where
    none : (f o : One) (cs : List Choice) (e : End) → IsWay x f o cs → RowMet (rows_aimed a e) (joins_aimed a e) (aim_tok a) at rs o → ⊥
    none f o cs row_end w m = never (o, w.there, m)
    none f o cs (join_end c n) w m = row_met_none (joins_aimed a (join_end c n)) (aim_tok a) at rs o m

-- ---- a join

class_same : (s p : Spot) → s ≡ p → (s.class ≡ p.class) × (s.number ≡ p.number)
class_same s p e = (ap (λ s. s.class) e, ap (λ s. s.number) e)

end_same : (c d n m : ℕ) → c ≡ d → n ≡ m → join_end c n ≡ join_end d m
end_same c d n m p q = ap (λ c. join_end c n) p ∙ ap (λ n. join_end d n) q

aimed_same : (g : Goal) (s p : Spot) (o : One) → join_aimed g s p o → p ≡ s
aimed_same (goal.Refusal w) s p o x = absurd x
aimed_same goal.Absent s p o x = x.0
aimed_same goal.Present s p o x = x.0

joins_same : (a : Aim) (e : End) (at c n : ℕ) (o : One) → joins_aimed a e (spot_of at c n) o → e ≡ join_end c n
joins_same a row_end at c n o x = absurd x
joins_same a (join_end d m) at c n o x = let e = class_same (spot_of at c n) (spot_of a.at d m) (aimed_same a.goal (spot_of a.at d m) (spot_of at c n) o x) in end_same d c m n (sym e.0) (sym e.1)

abbrev pub JoinMetBy : Aim → (at : ℕ) → JoinName → Way → Type 0
JoinMetBy a at j x = (o : One) × In (many_of x.ones) o × joins_aimed a (join_end (class_of j.is_head) j.number) (spot_of at (class_of j.is_head) j.number) o

pub join_met : (a : Aim) (at : ℕ) (j : JoinName) (x : Way) (y : Seen) (A R : Finds End) → JoinMetBy a at j x → y.from ≡ x.from → y.join ≡ Some j → choices_of y.path ≡ choices_of x.path → Joined A (IsSeen y) R → Sees (JoinHere a (spot_of at (class_of j.is_head) j.number)) (IsWay x) A R
join_met a at j x y A R met from join path k = record {
  found = λ f e cs r. ⊎_elim (λ p. inl p) (λ p. inr (led f e cs p)) (k.found f e cs r);
  kept = k.first;
  all = λ f o cs e w c. k.second f e cs (record { from = ap one_of from ∙ w.from; met = ap end_of_join join ∙ sym (joins_same a e at (class_of j.is_head) j.number o c.1.1); path = path ∙ w.path });
}
  where
    led : (f : One) (e : End) (cs : List Choice) → IsSeen y f e cs → Led (Meets (JoinHere a (spot_of at (class_of j.is_head) j.number))) (IsWay x) f e cs
    led f e cs p = record {
      begin = met.0;
      before = cs;
      following = [];
      comes = record { from = ap one_of (sym from) ∙ p.from; there = met.1; path = sym path ∙ p.path };
      goes = (refl, subst (λ e. joins_aimed a e (spot_of at (class_of j.is_head) j.number) met.0) (ap end_of_join (sym join) ∙ p.met) met.2);
      whole = sym (append-nil cs);
    }

pub join_unmet : (a : Aim) (at : ℕ) (j : JoinName) (x : Way) (A : Finds End) → (JoinMetBy a at j x → ⊥) → Sees (JoinHere a (spot_of at (class_of j.is_head) j.number)) (IsWay x) A A
join_unmet a at j x A never = record {
  found = λ f e cs r. inl r;
  kept = λ f e cs p. (cs, p);
  all = λ f o cs e w c. absurd (never (o, w.there, subst (λ e. joins_aimed a e (spot_of at (class_of j.is_head) j.number) o) (joins_same a e at (class_of j.is_head) j.number o c.1.1) c.1.1));
}

-- ---- rows, one after another

-- the first i of the rows were looked at
pub record Looking (a : Aim) (at : ℕ) (rows : List D.Row) (m : Many) (i : ℕ) (cur : Many) (met : Bool) : Type 0 where
  pub each : (IsTrue met ⊎ ((o : One) × In cur o × RowMet (rows_aimed a row_end) (joins_aimed a row_end) (aim_tok a) at (map row_of (drop i rows)) o)) ↔
      ((o : One) × In m o × RowMet (rows_aimed a row_end) (joins_aimed a row_end) (aim_tok a) at (map row_of rows) o)

pub looking_first : (a : Aim) (at : ℕ) (rows : List D.Row) (m : Many) → Looking a at rows m 0 m false
looking_first a at rows m = record { each = (λ x. ⊎_elim (λ h. absurd (no_true h)) (λ y. y) x, λ x. inr x) }

pub looking_more : (a : Aim) (at : ℕ) (rows : List D.Row) (m : Many) (i : ℕ) (cur new : Many) (met hit : Bool) (r : D.Row) → drop i rows ≡ r ∷ drop (i + 1) rows → Looking a at rows m i cur met → IsMoved (aim_tok a) (row_of r) cur new →
    (IsTrue hit ↔ ((o : One) × In cur o × rows_aimed a row_end at (row_of r) o)) → Looking a at rows m (i + 1) new (met || hit)
looking_more a at rows m i cur new met hit r split g moved hits =
    let each = subst (λ l. (IsTrue met ⊎ ((o : One) × In cur o × RowMet (rows_aimed a row_end) (joins_aimed a row_end) (aim_tok a) at (map row_of l) o)) ↔ ((o : One) × In m o × RowMet (rows_aimed a row_end) (joins_aimed a row_end) (aim_tok a) at (map row_of rows) o)) split g.each in
    record { each = (λ x. each.0 (there x), λ x. back (each.1 x)) }
  where
    there : IsTrue (met || hit) ⊎ ((o : One) × In new o × RowMet (rows_aimed a row_end) (joins_aimed a row_end) (aim_tok a) at (map row_of (drop (i + 1) rows)) o) → IsTrue met ⊎ ((o : One) × In cur o × RowMet (rows_aimed a row_end) (joins_aimed a row_end) (aim_tok a) at (row_of r ∷ map row_of (drop (i + 1) rows)) o)
    there x = ⊎_elim (λ h. ⊎_elim (λ k. inl k) (λ k. let z = hits.0 k in inr (z.0, z.1, inl z.2)) ((both_true met hit).0 h))
        (λ y. let z = (smooth_image (aim_tok a) (row_of r)).one (In cur) y.0 ((moved.each y.0).0 y.1) in inr (z.0, z.1, inr (y.0, z.2, y.2))) x

    back : IsTrue met ⊎ ((o : One) × In cur o × RowMet (rows_aimed a row_end) (joins_aimed a row_end) (aim_tok a) at (row_of r ∷ map row_of (drop (i + 1) rows)) o) → IsTrue (met || hit) ⊎ ((o : One) × In new o × RowMet (rows_aimed a row_end) (joins_aimed a row_end) (aim_tok a) at (map row_of (drop (i + 1) rows)) o)
    back x = ⊎_elim (λ k. inl ((both_true met hit).1 (inl k))) (λ y. ⊎_elim
        (λ p. inl ((both_true met hit).1 (inr (hits.1 (y.0, y.1, p)))))
        (λ p. inr (p.0, (moved.each p.0).1 ((smooth_image (aim_tok a) (row_of r)).more (only y.0) (In cur) (λ o e. subst (In cur) (sym e) y.1) p.0 p.1), p.2)) y.2) x

pub looking_ends : (a : Aim) (at : ℕ) (rows : List D.Row) (m : Many) (i : ℕ) (cur : Many) (met : Bool) → length rows ≤ i → Looking a at rows m i cur met →
    IsTrue met ↔ ((o : One) × In m o × RowMet (rows_aimed a row_end) (joins_aimed a row_end) (aim_tok a) at (map row_of rows) o)
looking_ends a at rows m i cur met past g =
    let each = subst (λ l. (IsTrue met ⊎ ((o : One) × In cur o × RowMet (rows_aimed a row_end) (joins_aimed a row_end) (aim_tok a) at (map row_of l) o)) ↔ ((o : One) × In m o × RowMet (rows_aimed a row_end) (joins_aimed a row_end) (aim_tok a) at (map row_of rows) o)) (drop_all i rows past) g.each in
    (λ h. each.0 (inl h), λ x. ⊎_elim (λ h. h) (λ y. absurd y.2) (each.1 x))

-- ---- where no row is one of the token

pub no_rows : (t : Tok) (rs : List Row) (b : Bool) → b ≡ false → IsTrue b ⊎ HasNoRow t rs → HasNoRow t rs
no_rows t rs b e x = ⊎_elim (λ h. absurd (no_true (subst IsTrue e h))) (λ y. y) x

pub others_see : (a : Aim) (at : ℕ) (rs : List Row) (L : Finds One) (A : Finds End) → HasNoRow (aim_tok a) rs → Sees (RowsHere a at rs) L A A
others_see a at rs L A h = record { found = λ f e cs r. inl r; kept = λ f e cs p. (cs, p); all = λ f o cs e l c. absurd (others_unmet a e at rs o h c.1.1) }
