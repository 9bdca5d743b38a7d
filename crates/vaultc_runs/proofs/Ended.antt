-- What is written of a run, in two parts: its events, and the line of its end.
use Rattle.std.proofs.Common.{◌≡◌, ◌⊎◌, inl, inr, ℕ, ◌≤◌, List, [], ◌++◌, Option, Some, None, refl, sym, ap, subst, ◌∙◌, append_assoc}
use Rattle.std.specs.Prelude.{◌≢◌}
use Rattle.vlt_io.specs.Outside.{Rose, Grew, GrewByPart}
use Rattle.vlt_io.specs.declared.sink.Sink.{Ghosts}
use Rattle.vaultc_runs.specs.declared.status.TheConstants.{UNREAD, SINK_FAILED, NO_MEMORY}
use Rattle.vaultc_runs.specs.Finishes.{WrotePart, Inside, Finishes}
use Rattle.vaultc_runs.specs.Lines.{Reply, reply}
use Rattle.vaultc_words.proofs.Reading.{rose_after}

pub grew_twice : (a b c : Option (List ℕ)) (x y : List ℕ) → Grew a b x → Grew b c y → Grew a c (x ++ y)
grew_twice None b c x y p q = subst (λ o. Grew o c y) p q
grew_twice (Some s) b c x y p q = let r : Grew (Some (s ++ x)) c y = subst (λ o. Grew o c y) p q in r ∙ ap (λ l. Some l) (append_assoc s x y)

-- a part of the first text is a part of both
part_first : (a b : Option (List ℕ)) (x y : List ℕ) → GrewByPart a b x → GrewByPart a b (x ++ y)
part_first a b x y (front, rest, is, grew) = (front, rest ++ y, ap (λ z. z ++ y) is ∙ append_assoc front rest y, grew)

-- the first text whole and a part of the second
part_after : (a b c : Option (List ℕ)) (x y : List ℕ) → Grew a b x → GrewByPart b c y → GrewByPart a c (x ++ y)
part_after a b c x y p (front, rest, is, grew) = (x ++ front, rest, ap (λ l. x ++ l) is ∙ sym (append_assoc x front rest), grew_twice a b c x front p grew)

-- ---- any run

-- What is written of a run, its events and then its last line, is one of the replies.
pub record Says (Replies Ends : Reply → Type 0) (events : List ℕ) : Type 0 where
  pub replies : (last : Reply) → Ends last → Replies (reply last.status (events ++ last.text))
  pub inside : (last : Reply) → Ends last → last.status ≢ UNREAD
  pub some : (last : Reply) × Ends last

-- a part of the events and the line was written, which is a part of a reply
part_of : {K : Type 0} (g : Ghosts K) (Replies Ends : Reply → Type 0) (events : List ℕ) (old new : K) (last : Reply) → Says Replies Ends events → Ends last
    → GrewByPart (g.written old) (g.written new) (events ++ last.text) → WrotePart g (Inside Replies) old new
part_of g Replies Ends events old new last says ends part = (last.status, events ++ last.text, (says.replies last ends, says.inside last ends), part)

outside : {K : Type 0} (g : Ghosts K) (P : Reply → Type 0) (old new : K) → WrotePart g (Inside P) old new → WrotePart g P old new
outside g P old new (status, text, is, grew) = (status, text, is.0, grew)

-- the run was cut off before its end
pub cut_off : {K : Type 0} (g : Ghosts K) (Replies Ends : Reply → Type 0) (events : List ℕ) (old mid : K) (result : ℕ) → Says Replies Ends events
    → GrewByPart (g.written old) (g.written mid) events → (result ≡ SINK_FAILED → Rose (g.faults old) (g.faults mid))
    → (result ≡ SINK_FAILED) ⊎ (result ≡ NO_MEMORY) → Finishes g Replies old mid result
cut_off g Replies Ends events old mid result says told rose which =
    let last = says.some.0 in
    let part : WrotePart g (Inside Replies) old mid =
    part_of g Replies Ends events old mid last says says.some.1 (part_first (g.written old) (g.written mid) events last.text told) in
    record {
      whole = λ sink memory. elim which [ inl three ↦ absurd (sink three) | inr four ↦ absurd (memory four) ];
      failed = rose;
      part = λ three. outside g Replies old mid part;
      memory = λ four. inr part;
    }

-- the run came to its end, and then the last line was written or not
pub came_to_end : {K : Type 0} (g : Ghosts K) (Replies Ends : Reply → Type 0) (events : List ℕ) (old mid new : K) (result : ℕ) → Says Replies Ends events
    → Grew (g.written old) (g.written mid) events → g.faults old ≤ g.faults mid → Finishes g Ends mid new result → Finishes g Replies old new result
came_to_end g Replies Ends events old mid new result says told counted f =
    let cut : (last : Reply) → Ends last → GrewByPart (g.written mid) (g.written new) last.text → WrotePart g (Inside Replies) old new =
    λ last ends part. part_of g Replies Ends events old new last says ends (part_after (g.written old) (g.written mid) (g.written new) events last.text told part) in
    let some = says.some in
    record {
      whole = λ sink memory.
          (let x = f.whole sink memory in
          (events ++ x.0, says.replies (reply result x.0) x.1, grew_twice (g.written old) (g.written mid) (g.written new) events x.0 told x.2));
      failed = λ three. rose_after (g.faults old) (g.faults mid) (g.faults new) counted (f.failed three);
      part = λ three. (let x = f.part three in outside g Replies old new (cut (reply x.0 x.1) x.2 x.3));
      memory = λ four. elim (f.memory four) [
        | inl none ↦ inr (cut some.0 some.1 ([], some.0.text, refl, none))
        | inr x ↦ inr (cut (reply x.0 x.1) x.2.0 x.3)
      ];
    }
