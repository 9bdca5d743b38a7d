-- What a run comes to is later.
use Rattle.std.proofs.Common.{◌≤◌, [], ◌∷◌, ◌++◌, refl, sym, ap, ◌∙◌, arith}
use Rattle.std.proofs.lemmas.List.{append_assoc, append-nil}
use Rattle.vlt_meaning.specs.World.{World}
use Rattle.vlt_meaning_laws.specs.Keeping.{IsLater}
use Rattle.vlt_meaning_laws.proofs.Keeping.{keeps_same, keeps_then}
use Rattle.vlt_meaning_laws.proofs.Moves.{IsKept}

same_later : (w : World) → IsLater w w
same_later w = record {
  fuel = omega arith;
  events = [];
  added = sym (append-nil w.events);
  taken = omega arith;
  read = [];
  input = refl;
  objects = keeps_same w.objects;
}

pub later_kept : IsKept IsLater
later_kept = record {
  same = same_later;
  objects = λ w v os k h. record {
    fuel = h.fuel;
    events = h.events;
    added = h.added;
    taken = h.taken;
    read = h.read;
    input = h.input;
    objects = keeps_then h.objects k;
  };
  event = λ w v e h. record {
    fuel = h.fuel;
    taken = h.taken;
    read = h.read;
    input = h.input;
    objects = h.objects;
    events = h.events ++ e ∷ [];
    added = ap (λ es. es ++ e ∷ []) h.added ∙ append_assoc w.events h.events (e ∷ []);
  };
  fuel = λ w v h. let l : v.fuel ≤ w.fuel = h.fuel in record {
    fuel = omega arith;
    events = h.events;
    added = h.added;
    taken = h.taken;
    read = h.read;
    input = h.input;
    objects = h.objects;
  };
  input = λ w v z zs e h. record {
    fuel = h.fuel;
    events = h.events;
    added = h.added;
    taken = h.taken;
    objects = h.objects;
    read = h.read ++ z ∷ [];
    input = h.input ∙ (ap (λ ys. h.read ++ ys) e ∙ sym (append_assoc h.read (z ∷ []) zs));
  };
  answer = λ w v rest h. let l : w.taken ≤ v.taken = h.taken in record {
    taken = omega arith;
    fuel = h.fuel;
    events = h.events;
    added = h.added;
    read = h.read;
    input = h.input;
    objects = h.objects;
  };
}
