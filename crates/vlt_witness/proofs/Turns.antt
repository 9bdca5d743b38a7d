-- A loop, from what a turn of it leads to.
use Rattle.std.proofs.Common.{◌≡◌, ◌∙◌, ◌+◌, ℕ, List, [], length, refl, sym, subst, inl, inr, ⊎_elim, arith}
use Rattle.vlt_core.specs.Maps.{Row}
use Rattle.vlt_core.specs.Flow.{loop, Block, end_of}
use Rattle.vlt_core.specs.Found.{One, to_next, to_break, to_continue}
use Rattle.vlt_core.specs.Faults.{head_spot, join_spot, spots_block}
use Rattle.vlt_core.specs.Witness.{Choice, choice, turn, exit, LeadsOn, Through}
use Rattle.vlt_witness.specs.declared.aim.Aim.{Aim}
use Rattle.vlt_witness.specs.declared.seen.Seen.{Seen}
use Rattle.vlt_witness.specs.declared.ways.Way.{Way}
use Rattle.vlt_witness.specs.declared.search.Jumps.{Jumps}
use Rattle.vlt_witness.specs.declared.search.Went.{Went}
use Rattle.vlt_witness.specs.declared.search.Turned.{Turned}
use Rattle.vlt_witness.specs.Ways.{Finds, nothing_found, On, OnSeen, End, IsSmall}
use Rattle.vlt_witness.specs.Search.{Spreads, Joined, Leg, Leads, CanLead, Walks, Sight, Meets, CanMeet, Sees, By, CanBy, Then, ThenSight, Either, EitherSight, Passes, Takes, IsEvery, IsTable, IsClosed, IsSearched}
use Rattle.vlt_witness.specs.Aims.{aim_tok, JoinHere, RowsHere}
use Rattle.vlt_witness.specs.Parts.{SeenIn, SearchedForm, WayBy, SeenBy, TurnLeg, LeaveLeg, TurnSight, IsTurned}
use Rattle.vlt_witness.proofs.Algebra.{walks_map, sees_map, walks_none, walks_both, sees_both, walks_joined, walks_then, sees_then, table, spreads_table}
use Rattle.vlt_witness.proofs.Looping.{HeadLeg, small_on, heads_walk, turns_of, of_turns}
use Rattle.vlt_witness.proofs.Forms.{no_break, no_continue, Rowed, RowedSight, walks_rowed, sees_rowed, JoinAfter, sees_join_after}

pub walks_fresh : (T : Leg) (L : Finds One) (A : List Way) (R : Finds One) → A ≡ [] → Walks T L (On A) R → Walks T L nothing_found R
walks_fresh T L A R e x = record {
  found = λ f q cs r. ⊎_elim (λ a. absurd (subst (λ l. On l f q cs) e a)) (λ z. inr z) (x.found f q cs r);
  kept = λ f q cs n. absurd n;
  all = x.all;
}

pub sees_fresh : (M : Sight) (L : Finds One) (A : List Seen) (R : Finds End) → A ≡ [] → Sees M L (OnSeen A) R → Sees M L nothing_found R
sees_fresh M L A R e x = record {
  found = λ f q cs r. ⊎_elim (λ a. absurd (subst (λ l. OnSeen l f q cs) e a)) (λ z. inr z) (x.found f q cs r);
  kept = λ f q cs n. absurd n;
  all = x.all;
}

module _ (a : Aim) (at k : ℕ) (rs : List Row) (s : Block) (V P : List Way) (m0 m1 : List Seen) (j : Jumps) (w : Went)
    (every : IsEvery (On V)) (all : (o : One) → IsSmall o → (cs : List Choice) × On V o o cs) (none : m0 ≡ [])
    (x : Walks (Passes (aim_tok a) rs) (On V) nothing_found (On P)) (y : Sees (EitherSight (JoinHere a (head_spot at k)) (RowsHere a at rs)) (On V) (OnSeen m0) (OnSeen m1)) where
  pub turned : (r : Turned) (i : Jumps) → i.continues ≡ [] → Walks (Takes (choice at exit)) (On P) nothing_found (On i.breaks) →
      IsSearched (WayBy (aim_tok a) (choice at turn) s) (SeenBy a (choice at turn) (k + 1 + length rs) s) (k + 1 + length rs + spots_block s) P i j m1 r.met w →
      Joined (On w.next) (On j.continues) (On r.turn) → r.leave ≡ j.breaks → r.number ≡ w.number → IsTurned a at k rs s r
  turned r i fresh out way joined left n =
      let t = aim_tok a in
      let N : Leg = λ o cs q ds. WayBy t (choice at turn) s o cs to_next q ds in
      let C : Leg = λ o cs q ds. WayBy t (choice at turn) s o cs to_continue q ds in
      let B : Leg = λ o cs q ds. WayBy t (choice at turn) s o cs to_break q ds in
      let X = Takes (choice at exit) in
      let again = walks_fresh C (On P) i.continues (On j.continues) fresh way.continues in
      let round = walks_both N C (On P) nothing_found (On w.next) (On r.turn) way.next (walks_joined C (On P) (On w.next) (On j.continues) (On r.turn) again joined) in
      let back = walks_rowed t rs (Either N C) (On V) (On P) nothing_found (On r.turn) x round in
      let leg = walks_map (Rowed t rs (Either N C)) (TurnLeg t at rs s) (On V) nothing_found (On r.turn)
      (λ o cs q ds z. (z.0, z.1, ⊎_elim (λ h. (h.0, h.1, inl h.2)) (λ h. (h.0, h.1, inr h.2)) z.2))
      (λ o cs q ds z. (z.0, z.1, ⊎_elim (λ h. inl (z.2.0, z.2.1, h)) (λ h. inr (z.2.0, z.2.1, h)) z.2.2)) back in
      let outs = walks_both X B (On P) nothing_found (On i.breaks) (On j.breaks) out way.breaks in
      let away = walks_rowed t rs (Either X B) (On V) (On P) nothing_found (On j.breaks) x outs in
      let leave = walks_map (Rowed t rs (Either X B)) (LeaveLeg t at rs s) (On V) nothing_found (On j.breaks)
      (λ o cs q ds z. ⊎_elim (λ h. inl (subst (LeadsOn t rs o) (sym h.0) z.1, h.1)) (λ h. inr (z.0, z.1, h)) z.2)
      (λ o cs q ds z. ⊎_elim (λ h. (q, h.0, inl (refl, h.1))) (λ h. (h.0, h.1, inr h.2)) z) away in
      let S = SeenBy a (choice at turn) (k + 1 + length rs) s in
      let H = JoinHere a (head_spot at k) in
      let R = RowsHere a at rs in
      let I = RowedSight t rs S in
      let inside = sees_rowed t rs S (On V) (On P) (OnSeen m1) (OnSeen r.met) x way.met in
      let sight = sees_both (EitherSight H R) I (On V) nothing_found (OnSeen m1) (OnSeen r.met) (sees_fresh (EitherSight H R) (On V) m0 (OnSeen m1) none y) inside in
      let met = sees_map (EitherSight (EitherSight H R) I) (TurnSight a at k rs s) (On V) nothing_found (OnSeen r.met)
      (λ e o cs. ⊎_elim (⊎_elim (λ z. inl z) (λ z. inr (inl z))) (λ z. inr (inr z)))
      (λ e o cs. ⊎_elim (λ z. inl (inl z)) (⊎_elim (λ z. inl (inr z)) (λ z. inr z))) sight in
      record {
        turn = table (Leads (TurnLeg t at rs s)) (CanLead (TurnLeg t at rs s)) (On V) (On r.turn) every all leg;
        leave = subst (λ l. IsTable (Leads (LeaveLeg t at rs s)) (CanLead (LeaveLeg t at rs s)) (On l)) (sym left) (table (Leads (LeaveLeg t at rs s)) (CanLead (LeaveLeg t at rs s)) (On V) (On j.breaks) every all leave);
        met = table (Meets (TurnSight a at k rs s)) (CanMeet (TurnSight a at k rs s)) (On V) (OnSeen r.met) every all met;
        number = n ∙ way.number;
      }

pub searched_loop : (a : Aim) (at k : ℕ) (rs : List Row) (s : Block) (L H : List Way) (j : Jumps) (m m1 m2 : List Seen) (u : Turned) (r : Went) → IsTurned a at k rs s u → IsClosed (On u.turn) (On L) (On H) →
    Spreads (By (OnSeen u.met)) (CanBy (OnSeen u.met)) (On H) (OnSeen m) (OnSeen m1) → Spreads (By (On u.leave)) (CanBy (On u.leave)) (On H) nothing_found (On r.next) →
    Sees (JoinHere a (join_spot (end_of s) (k + 1 + length rs + spots_block s))) (On r.next) (OnSeen m1) (OnSeen m2) → r.number ≡ k + 1 + length rs + spots_block s + 1 → SearchedForm a at k (loop rs s) L j j m m2 r
searched_loop a at k rs s L H j m m1 m2 u r t closed mets outs seen n =
    let tok = aim_tok a in
    let small : (f q : One) (cs : List Choice) → On H f q cs → IsSmall q = λ f q cs h. small_on H f q cs h in
    let heads = heads_walk tok at rs s (On u.turn) t.turn (On L) (On H) small closed in
    let T = HeadLeg tok at rs s in
    let U = LeaveLeg tok at rs s in
    let W : Leg = λ o cs q ds. Through tok at (loop rs s) o cs to_next q ds in
    let leave = spreads_table (Leads U) (CanLead U) (On u.leave) (On H) nothing_found (On r.next) t.leave small outs in
    let next = walks_map (Then T U) W (On L) nothing_found (On r.next)
    (λ o cs q ds z. (refl, (z.1.1.0, turns_of tok at rs s (On u.turn) t.turn z.1.1.0 o z.0 q cs z.1.0 ds z.1.1.1 z.1.2)))
    (λ o cs q ds z. let y = of_turns tok at rs s (On u.turn) t.turn z.1.0 o q cs ds z.1.1 in (y.0, (y.1.0, (z.1.0, y.1.1), y.1.2)))
    (walks_then T U (On L) (On H) nothing_found (On r.next) heads leave) in
    let M = TurnSight a at k rs s in
    let inside = sees_then T M (On L) (On H) (OnSeen m) (OnSeen m1) heads (spreads_table (Meets M) (CanMeet M) (OnSeen u.met) (On H) (OnSeen m) (OnSeen m1) t.met small mets) in
    let spot = join_spot (end_of s) (k + 1 + length rs + spots_block s) in
    let B = JoinAfter a spot W in
    let following = sees_join_after a spot W (On L) (On r.next) (OnSeen m1) (OnSeen m2) next seen in
    record {
      next = next;
      breaks = walks_none (λ o cs q ds. Through tok at (loop rs s) o cs to_break q ds) (On L) (On j.breaks) (λ o cs q ds z. no_break z.0);
      continues = walks_none (λ o cs q ds. Through tok at (loop rs s) o cs to_continue q ds) (On L) (On j.continues) (λ o cs q ds z. no_continue z.0);
      met = sees_map (EitherSight (ThenSight T M) B) (SeenIn a at k (loop rs s)) (On L) (OnSeen m) (OnSeen m2)
          (λ e o cs. ⊎_elim (λ z. inl (z.1.1.0, (z.0, (z.1.0, z.1.1.1, z.1.2)))) (λ z. inr z))
          (λ e o cs. ⊎_elim (λ z. inl (z.1.0, (z.1.1.0, (z.0, z.1.1.1), z.1.1.2))) (λ z. inr z))
          (sees_both (ThenSight T M) B (On L) (OnSeen m) (OnSeen m1) (OnSeen m2) inside following);
      number = omega (arith, n);
    }
