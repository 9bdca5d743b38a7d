-- What is written at one step after another.
use Rattle.std.proofs.Common.{◌≡◌, inl, inr, ℕ, ◌≤◌, List, [], ◌∷◌, ◌++◌, Option, Some, None, refl, sym, ap, ◌∙◌, subst, append_assoc, append-nil, arith}
use Rattle.std.specs.List.{flat_map}
use Rattle.std.proofs.lemmas.Grind.{flat_map-append}
use Rattle.vlt_io.specs.Outside.{Rose, Grew, GrewByPart}
use Rattle.vlt_steps.specs.Writing.{Outside, Wrote, WasCut}

-- ---- the sink

pub grew_nothing : (w : Option (List ℕ)) → Grew w w []
grew_nothing None = refl
grew_nothing (Some bytes) = ap (λ b. Some b) (sym (append-nil bytes))

pub grew_both : (a b c : Option (List ℕ)) (x y : List ℕ) → Grew a b x → Grew b c y → Grew a c (x ++ y)
grew_both None b c x y first second = let P : Option (List ℕ) → Type 0 = λ o. Grew o c y in subst P first second
grew_both (Some a) b c x y first second =
    let P : Option (List ℕ) → Type 0 = λ o. Grew o c y in
    subst P first second ∙ ap (λ t. Some t) (append_assoc a x y)

pub rose_more : (a b c : ℕ) → a ≤ b → Rose b c → Rose a c
rose_more a b c l (inl r) = inl (omega (arith, l, r))
rose_more a b c l (inr r) = inr r

-- ---- events

module _ {Event : Type 0} (line : Event → List ℕ) where
  pub one_line : (e : Event) → flat_map line (e ∷ []) ≡ line e
  one_line e = append-nil (line e)

  text_both : (es fs : List Event) → flat_map line (es ++ fs) ≡ flat_map line es ++ flat_map line fs
  text_both es fs = flat_map-append line es fs

  -- nothing is written
  pub silent : (old new : List Event) (b : Outside) → new ≡ old → Wrote line old new b b
  silent old new b e = record { events = []; added = e ∙ sym (append-nil old); grew = grew_nothing b.written; counted = omega arith }

  -- one event is written
  pub one_written : (old : List Event) (e : Event) (before after : Outside) → Grew before.written after.written (line e) → before.faults ≤ after.faults → Wrote line old (old ++ e ∷ []) before after
  one_written old e before after grew counted = record {
    events = e ∷ [];
    added = refl;
    grew = subst (Grew before.written after.written) (sym (one_line e)) grew;
    counted = counted;
  }

  pub wrote_both : (u v w : List Event) (a b c : Outside) → Wrote line u v a b → Wrote line v w b c → Wrote line u w a c
  wrote_both u v w a b c x y = record {
    events = x.events ++ y.events;
    added = y.added ∙ ap (λ l. l ++ y.events) x.added ∙ append_assoc u x.events y.events;
    grew = rw (text_both x.events y.events) (grew_both a.written b.written c.written (flat_map line x.events) (flat_map line y.events) x.grew y.grew);
    counted = omega (arith, x.counted, y.counted);
  }

  pub wrote_since : (u w v : List Event) (before after : Outside) → u ≡ w → Wrote line u v before after → Wrote line w v before after
  wrote_since u w v before after same h = record { events = h.events; added = h.added ∙ ap (λ l. l ++ h.events) same; grew = h.grew; counted = h.counted }

  -- ---- lines that the sink took a part of

  module _ {Stop : Type 0} (sink_fault : Stop) where
    -- the sink took a part of one event's line
    pub one_cut : (old new : List Event) (e : Event) (before after : Outside) → new ≡ old ++ e ∷ [] → GrewByPart before.written after.written (line e) → Rose before.faults after.faults → before.faults ≤ after.faults
        → WasCut sink_fault line old new before after sink_fault
    one_cut old new e before after added grew rose counted = record {
      fault = refl;
      events = e ∷ [];
      added = added;
      grew = subst (GrewByPart before.written after.written) (sym (one_line e)) grew;
      rose = rose;
      counted = counted;
    }

    pub cut_since : (u w v : List Event) (before after : Outside) (stop : Stop) → u ≡ w → WasCut sink_fault line u v before after stop → WasCut sink_fault line w v before after stop
    cut_since u w v before after stop same h = record { fault = h.fault; events = h.events; added = h.added ∙ ap (λ l. l ++ h.events) same; grew = h.grew; rose = h.rose; counted = h.counted }

    -- a part goes out after what went out, and more events would have come
    pub cut_both : (u v w z more : List Event) (a b c : Outside) (stop : Stop) → Wrote line u v a b → WasCut sink_fault line v w b c stop → z ≡ w ++ more → WasCut sink_fault line u z a c stop
    cut_both u v w z more a b c stop x y are =
        let part = y.grew in
        record {
          fault = y.fault;
          events = x.events ++ (y.events ++ more);
          added = are ∙ ap (λ l. l ++ more) (y.added ∙ ap (λ l. l ++ y.events) x.added) ∙ simp append_assoc;
          grew = (
            flat_map line x.events ++ part.0,
            part.1 ++ flat_map line more,
            text_both x.events (y.events ++ more) ∙ ap (λ l. flat_map line x.events ++ l) (text_both y.events more ∙ ap (λ l. l ++ flat_map line more) part.2) ∙ simp append_assoc,
            grew_both a.written b.written c.written (flat_map line x.events) part.0 x.grew part.3,
          );
          rose = rose_more a.faults b.faults c.faults x.counted y.rose;
          counted = omega (arith, x.counted, y.counted);
        }
