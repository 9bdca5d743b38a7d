use Rattle.std.proofs.Common.{◌≡◌, ◌+◌, ◌++◌, ◌∷◌, [], ap, sym, ◌∙◌, arith, true, append_assoc, inl, inr, drop, take}
use Rattle.std.specs.Prelude.{slice_index}
use Rattle.std.proofs.lemmas.List.{take_more}
use Rattle.vlt_lexer.specs.AsciiPieces.{is_ascii_more, next_key, key_after}
use Rattle.vlt_lexer.specs.Steps.{run}
use Rattle.vlt_lexer.proofs.Letters.{letter_here, letter_of}
use Rattle.vlt_lexer.proofs.ascii_pieces.ascii_name.Goals as goal

pub loop-i-preserved : goal.loop-i-preserved
loop-i-preserved c =
    let bytes = c.args.bytes.now in
    let i = c.loop-i.i in
    let is : is_ascii_more (slice_index bytes i) ≡ true = letter_of (slice_index bytes i) (elim c.in-Letter.is [ inl h ↦ inl (sym c.byte_class.ensures ∙ h) | inr h ↦ inr (sym c.byte_class.ensures ∙ h) ]) in
    let here = letter_here bytes i c.loop-i-test.true is in
    record {
      within = omega (arith, c.loop-i-test.true);
      front = ap (λ t. t ++ run is_ascii_more (drop (i + 1) bytes)) (take_more bytes i 0 c.loop-i-test.true) ∙ append_assoc (take i bytes) (slice_index bytes i ∷ []) (run is_ascii_more (drop (i + 1) bytes)) ∙ ap (λ t. take i bytes ++ t) (sym here.0) ∙ c.loop-i.invariant.front;
      rest = sym here.1 ∙ c.loop-i.invariant.rest;
      key = ap (λ x. key_after (next_key c.loop-i.key x) (run is_ascii_more (drop (i + 1) bytes))) c.from.ensures ∙ sym (ap (key_after c.loop-i.key) here.0) ∙ c.loop-i.invariant.key;
    }
