-- Statuses, maps and rows.
use Rattle.std.proofs.Common.{◌≡◌, Bool, true, false, cond, List, [], ◌∷◌, refl, sym, ap, ◌∙◌}
use Rattle.vlt_core.specs.Core.{States, Tok}
use Rattle.vlt_core.specs.Maps.{Wanted, wants_absent, wants_held, wants_in, wants_lent, wants_full, After, becomes_absent, becomes_held, stays, becomes_full, becomes_lent, comes_back, Row, Status, absent, held, lent, full, HeldMap, IsWithin, Kind, is_held, is_lent, kind_of, states_of, IsWanted, status_after, is_tok, row_passed, CanPass, map_after, IsStatusBelow, IsBelow}

pub within_refl : (a : States) → IsWithin a a
within_refl a = record { each = λ s p. p }

pub within_trans : (a b c : States) → IsWithin a b → IsWithin b c → IsWithin a c
within_trans a b c p q = record { each = λ s x. q.each s (p.each s x) }

pub status_refl : (s : Status) → IsStatusBelow s s
status_refl s = record { kind = refl; within = within_refl (states_of s) }

pub status_trans : (a b c : Status) → IsStatusBelow a b → IsStatusBelow b c → IsStatusBelow a c
status_trans a b c p q = record { kind = p.kind ∙ q.kind; within = within_trans (states_of a) (states_of b) (states_of c) p.within q.within }

pub map_refl : (h : HeldMap) → IsBelow h h
map_refl h = record { each = λ t. status_refl (h t) }

pub map_trans : (h k m : HeldMap) → IsBelow h k → IsBelow k m → IsBelow h m
map_trans h k m p q = record { each = λ t. status_trans (h t) (k t) (m t) (p.each t) (q.each t) }

pub wanted_below : (w : Wanted) (s u : Status) → IsStatusBelow s u → IsWanted w u → IsWanted w s
wanted_below wants_absent s u p q = p.kind ∙ q
wanted_below wants_held s u p q = p.kind ∙ q
wanted_below (wants_in w) s u p q = (p.kind ∙ q.0, within_trans (states_of s) (states_of u) w p.within q.1)
wanted_below wants_lent s u p q = p.kind ∙ q
wanted_below wants_full s u p q = p.kind ∙ q

abbrev lent_kind : Kind → Kind
lent_kind is_held = is_lent
lent_kind k = k

abbrev unlent_kind : Kind → Kind
unlent_kind is_lent = is_held
unlent_kind k = k

lends_kind : (s : Status) → kind_of (status_after becomes_lent s) ≡ lent_kind (kind_of s)
lends_kind absent = refl
lends_kind (held s) = refl
lends_kind (lent s) = refl
lends_kind full = refl

lends_states : (s : Status) → states_of (status_after becomes_lent s) ≡ states_of s
lends_states absent = refl
lends_states (held s) = refl
lends_states (lent s) = refl
lends_states full = refl

unlends_kind : (s : Status) → kind_of (status_after comes_back s) ≡ unlent_kind (kind_of s)
unlends_kind absent = refl
unlends_kind (held s) = refl
unlends_kind (lent s) = refl
unlends_kind full = refl

unlends_states : (s : Status) → states_of (status_after comes_back s) ≡ states_of s
unlends_states absent = refl
unlends_states (held s) = refl
unlends_states (lent s) = refl
unlends_states full = refl

pub changed_below : (a : After) (s u : Status) → IsStatusBelow s u → IsStatusBelow (status_after a s) (status_after a u)
changed_below becomes_absent s u p = status_refl absent
changed_below (becomes_held t) s u p = status_refl (held t)
changed_below stays s u p = p
changed_below becomes_full s u p = status_refl full
changed_below becomes_lent s u p = record {
  kind = lends_kind s ∙ ap lent_kind p.kind ∙ sym (lends_kind u);
  within = rw (lends_states s, lends_states u) p.within;
}
changed_below comes_back s u p = record {
  kind = unlends_kind s ∙ ap unlent_kind p.kind ∙ sym (unlends_kind u);
  within = rw (unlends_states s, unlends_states u) p.within;
}

pub row_below : (r : Row) (h k : HeldMap) → IsBelow h k → IsBelow (row_passed r h) (row_passed r k)
row_below r h k p = record { each = λ t. at_token t (is_tok t r.tok) }
  where
    at_token : (t : Tok) (b : Bool) → IsStatusBelow (cond b (status_after r.after (h r.tok)) (h t)) (cond b (status_after r.after (k r.tok)) (k t))
    at_token t true = changed_below r.after (h r.tok) (k r.tok) (p.each r.tok)
    at_token t false = p.each t

-- rows that a map passes are passed by each map below it
pub can_below : (rs : List Row) (h k : HeldMap) → IsBelow h k → CanPass rs k → CanPass rs h
can_below [] h k p can = tt
can_below (r ∷ rs) h k p can = (wanted_below r.wanted (h r.tok) (k r.tok) (p.each r.tok) can.0, can_below rs (row_passed r h) (row_passed r k) (row_below r h k p) can.1)

pub passed_below : (rs : List Row) (h k : HeldMap) → IsBelow h k → IsBelow (map_after rs h) (map_after rs k)
passed_below [] h k p = p
passed_below (r ∷ rs) h k p = passed_below rs (row_passed r h) (row_passed r k) (row_below r h k p)
