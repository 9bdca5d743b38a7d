-- A text is read in one way.
use Rattle.std.proofs.Common.{◌≡◌, ℕ, ◌≤◌, true, List, [], ◌∷◌, ◌++◌, length, ◌⊎◌, inl, inr, refl, sym, ap, subst, ◌∙◌, arith}
use Rattle.std.specs.Prelude.{codes, encode_utf8_all}
use Rattle.std.proofs.lemmas.List.{length-append, append-nil}
use Rattle.vlt_lexer.specs.declared.scan.Stuck.{Stuck}
use Rattle.vlt_lexer.specs.declared.scan.Stuck.TheVariants as stuck
use Rattle.vlt_tokens.specs.Characters.{is_blank, is_digit, IsDigits, value_of, after_line, after_close, width}
use Rattle.vlt_tokens.specs.Lexemes.{IsPiece, line_opens, block_opens, digits, IsLongest, IsOf, max_number, Lexeme}
use Rattle.vlt_lexer.specs.Reading.{IsGap, blank, line, block, IsToken, Reads, nothing, gap, token, IsStuck}
use Rattle.vlt_lexer.proofs.Runs.{none_some, head_is, tail_is, not_empty, some_is, true_false, same_fronts}
use Rattle.vlt_lexer.proofs.Heads.{digit_head}
use Rattle.vlt_lexer.proofs.OneKind.{no_empty_piece, piece_of, number_only, one_kind, blank_no_token, opener_no_token}

-- two longest pieces at one place are one
same_pieces : (a b x y cs : List ℕ) → cs ≡ a ++ x → cs ≡ b ++ y → IsPiece a → IsPiece b → IsLongest a cs → IsLongest b cs → (a ≡ b) × (x ≡ y)
same_pieces a b x y cs p q is_a is_b la lb =
    let m : length b ≤ length a = la b y q is_b in
    let n : length a ≤ length b = lb a x p is_a in
    same_fronts a b x y (omega arith) (sym p ∙ q)

-- one step

after_slash : {c d : ℕ} {cs x y : List ℕ} → cs ≡ 47 ∷ c ∷ x → cs ≡ 47 ∷ d ∷ y → (c ≡ d) × (x ≡ y)
after_slash p q = let e = tail_is (sym p ∙ q) in (head_is e, tail_is e)

pub same_gaps : (cs a b : List ℕ) → IsGap cs a → IsGap cs b → a ≡ b
same_gaps cs a b (blank _ c _ p is) (blank _ d _ q it) = tail_is (sym p ∙ q)
same_gaps cs a b (blank _ c _ p is) (line _ i _ q it) = absurd (true_false (sym is ∙ ap is_blank (head_is (sym p ∙ q))))
same_gaps cs a b (blank _ c _ p is) (block _ i _ q it) = absurd (true_false (sym is ∙ ap is_blank (head_is (sym p ∙ q))))
same_gaps cs a b (line _ i _ p is) (blank _ d _ q it) = absurd (true_false (sym it ∙ ap is_blank (head_is (sym q ∙ p))))
same_gaps cs a b (line _ i _ p is) (line _ j _ q it) = is ∙ ap after_line (after_slash p q).1 ∙ sym it
same_gaps cs a b (line _ i _ p is) (block _ j _ q it) = absurd (omega (arith, (after_slash p q).0))
same_gaps cs a b (block _ i _ p is) (blank _ d _ q it) = absurd (true_false (sym it ∙ ap is_blank (head_is (sym q ∙ p))))
same_gaps cs a b (block _ i _ p is) (line _ j _ q it) = absurd (omega (arith, (after_slash p q).0))
same_gaps cs a b (block _ i _ p is) (block _ j _ q it) = some_is (sym is ∙ ap after_close (after_slash p q).1 ∙ it)

pub gap_no_token : (total : ℕ) (cs a b : List ℕ) (l : Lexeme) → IsGap cs a → IsToken total cs l b → ⊥
gap_no_token total cs a b l (blank _ c _ p is) t = blank_no_token l.kind c a b t.piece is (sym p ∙ t.begins) t.kind
gap_no_token total cs a b l (line _ i _ p is) t = opener_no_token 47 l.kind cs i t.piece b line_opens refl p t.begins t.longest t.kind
gap_no_token total cs a b l (block _ i _ p is) t = opener_no_token 42 l.kind cs i t.piece b block_opens refl p t.begins t.longest t.kind

same_lexemes : (l m : Lexeme) → l.kind ≡ m.kind → l.text ≡ m.text → l.from ≡ m.from → l.to ≡ m.to → l ≡ m
same_lexemes l m k t f e = λ i. record { kind = k i; text = t i; from = f i; to = e i }

pub same_tokens : (total : ℕ) (cs a b : List ℕ) (l m : Lexeme) → IsToken total cs l a → IsToken total cs m b → (l ≡ m) × (a ≡ b)
same_tokens total cs a b l m s t =
    let both : (s.piece ≡ t.piece) × (a ≡ b) = same_pieces s.piece t.piece a b cs s.begins t.begins (piece_of l.kind s.piece s.kind) (piece_of m.kind t.piece t.kind) s.longest t.longest in
    let kinds : l.kind ≡ m.kind = one_kind l.kind m.kind t.piece (subst (IsOf l.kind) both.0 s.kind) t.kind in
    let texts : l.text ≡ m.text = s.text ∙ ap encode_utf8_all both.0 ∙ sym t.text in
    let after : width a ≡ width b = ap width both.1 in
    (same_lexemes l m kinds texts (omega (arith, s.from, t.from)) (omega (arith, s.to, t.to, after)), both.1)

-- where reading ends

abbrev pub IsEnd : List ℕ → Type 0
IsEnd cs = (cs ≡ []) ⊎ ((f : Stuck) × IsStuck f cs)

digits_first : (piece after cs : List ℕ) → cs ≡ piece ++ after → IsDigits piece → (c : ℕ) × (x : List ℕ) × (cs ≡ c ∷ x) × (is_digit c ≡ true)
digits_first [] after cs e is = absurd is
digits_first (c ∷ ps) after cs e is = (c, ps ++ after, e, is.0)

empty_no_gap : (cs a : List ℕ) → cs ≡ [] → IsGap cs a → ⊥
empty_no_gap cs a e (blank _ c _ p is) = not_empty (sym e ∙ p)
empty_no_gap cs a e (line _ i _ p is) = not_empty (sym e ∙ p)
empty_no_gap cs a e (block _ i _ p is) = not_empty (sym e ∙ p)

digit_no_gap : (c : ℕ) (x cs a : List ℕ) → cs ≡ c ∷ x → is_digit c ≡ true → IsGap cs a → ⊥
digit_no_gap c x cs a e is (blank _ d _ p it) = true_false (sym it ∙ ap is_blank (head_is (sym p ∙ e)) ∙ (digit_head c is).0)
digit_no_gap c x cs a e is (line _ i _ p it) = true_false (sym is ∙ ap is_digit (head_is (sym e ∙ p)))
digit_no_gap c x cs a e is (block _ i _ p it) = true_false (sym is ∙ ap is_digit (head_is (sym e ∙ p)))

stuck_no_gap : (f : Stuck) (cs a : List ℕ) → IsStuck f cs → IsGap cs a → ⊥
stuck_no_gap stuck.BadByte cs a (d, ds, e, none, no_piece) (blank _ c _ p is) = true_false (sym is ∙ ap is_blank (head_is (sym p ∙ e)) ∙ none)
stuck_no_gap stuck.BadByte cs a (d, ds, e, none, no_piece) (line _ i _ p is) = no_piece (codes "//") i p line_opens
stuck_no_gap stuck.BadByte cs a (d, ds, e, none, no_piece) (block _ i _ p is) = no_piece (codes "/*") i p block_opens
stuck_no_gap stuck.NumberTooLarge cs a (piece, after, e, is, longest, large) g = let f = digits_first piece after cs e is in digit_no_gap f.0 f.1 cs a f.2 f.3 g
stuck_no_gap stuck.OpenComment cs a (inside, e, unclosed) (blank _ c _ p is) = true_false (sym is ∙ ap is_blank (head_is (sym p ∙ e)))
stuck_no_gap stuck.OpenComment cs a (inside, e, unclosed) (line _ i _ p is) = omega (arith, (after_slash p e).0)
stuck_no_gap stuck.OpenComment cs a (inside, e, unclosed) (block _ i _ p is) = none_some (sym unclosed ∙ ap after_close (after_slash e p).1 ∙ is)

stuck_no_token : (f : Stuck) (total : ℕ) (cs a : List ℕ) (l : Lexeme) → IsStuck f cs → IsToken total cs l a → ⊥
stuck_no_token stuck.BadByte total cs a l (d, ds, e, none, no_piece) t = no_piece t.piece a t.begins (piece_of l.kind t.piece t.kind)
stuck_no_token stuck.NumberTooLarge total cs a l (piece, after, e, is, longest, large) t =
    let both : (piece ≡ t.piece) × (after ≡ a) = same_pieces piece t.piece after a cs e t.begins (digits piece is) (piece_of l.kind t.piece t.kind) longest t.longest in
    let small : value_of piece ≤ max_number = (number_only l.kind piece is (subst (IsOf l.kind) (sym both.0) t.kind)).1 in
    omega arith
stuck_no_token stuck.OpenComment total cs a l (inside, e, unclosed) t = opener_no_token 42 l.kind cs inside t.piece a block_opens refl e t.begins t.longest t.kind

empty_no_token : (total : ℕ) (cs a : List ℕ) (l : Lexeme) → cs ≡ [] → IsToken total cs l a → ⊥
empty_no_token total cs a l e t = at t.piece (sym e ∙ t.begins) (piece_of l.kind t.piece t.kind)
  where
    at : (piece : List ℕ) → [] ≡ piece ++ a → IsPiece piece → ⊥
    at [] same is = no_empty_piece [] refl is
    at (p ∷ ps) same is = not_empty same

end_no_gap : (cs a : List ℕ) → IsEnd cs → IsGap cs a → ⊥
end_no_gap cs a (inl e) g = empty_no_gap cs a e g
end_no_gap cs a (inr s) g = stuck_no_gap s.0 cs a s.1 g

end_no_token : (total : ℕ) (cs a : List ℕ) (l : Lexeme) → IsEnd cs → IsToken total cs l a → ⊥
end_no_token total cs a l (inl e) t = empty_no_token total cs a l e t
end_no_token total cs a l (inr s) t = stuck_no_token s.0 total cs a l s.1 t

-- whole readings

-- a reading that ends goes on from where any other reading of the text stops
pub goes_on_from : (total : ℕ) (cs : List ℕ) (ls : List Lexeme) (a : List ℕ) (ms : List Lexeme) (b : List ℕ) → Reads total cs ls a → IsEnd a → Reads total cs ms b → (more : List Lexeme) × (ls ≡ ms ++ more) × Reads total b more a
goes_on_from total cs ls a _ _ first ends (nothing _) = (ls, refl, first)
goes_on_from total cs _ _ ms b (nothing _) ends (gap _ after _ _ g r) = absurd (end_no_gap cs after ends g)
goes_on_from total cs ls a ms b (gap _ before _ _ h q) ends (gap _ after _ _ g r) =
    goes_on_from total after ls a ms b (subst (λ x. Reads total x ls a) (same_gaps cs before after h g) q) ends r
goes_on_from total cs _ a ms b (token _ l before ks _ t q) ends (gap _ after _ _ g r) = absurd (gap_no_token total cs after before l g t)
goes_on_from total cs _ _ _ b (nothing _) ends (token _ m after _ _ s r) = absurd (end_no_token total cs after m ends s)
goes_on_from total cs ls a _ b (gap _ before _ _ h q) ends (token _ m after _ _ s r) = absurd (gap_no_token total cs before after m h s)
goes_on_from total cs _ a _ b (token _ l before ks _ t q) ends (token _ m after js _ s r) =
    let both = same_tokens total cs before after l m t s in
    let rest = goes_on_from total after ks a js b (subst (λ x. Reads total x ks a) both.1 q) ends r in
    (rest.0, ap (λ x. x ∷ ks) both.0 ∙ ap (λ x. m ∷ x) rest.1, rest.2)

-- nothing is read from an end on
from_end : (total : ℕ) (cs : List ℕ) (ls : List Lexeme) (a : List ℕ) → IsEnd cs → Reads total cs ls a → (ls ≡ []) × (a ≡ cs)
from_end total cs _ _ ends (nothing _) = (refl, refl)
from_end total cs ls a ends (gap _ after _ _ g r) = absurd (end_no_gap cs after ends g)
from_end total cs _ a ends (token _ l after ks _ t r) = absurd (end_no_token total cs after l ends t)

pub one_reading : (total : ℕ) (cs : List ℕ) (ls : List Lexeme) (a : List ℕ) (ms : List Lexeme) (b : List ℕ) → Reads total cs ls a → IsEnd a → Reads total cs ms b → IsEnd b → (ls ≡ ms) × (a ≡ b)
one_reading total cs ls a ms b p ends q also =
    let more = goes_on_from total cs ls a ms b p ends q in
    let none = from_end total b more.0 a also more.2 in
    (more.1 ∙ ap (λ x. ms ++ x) none.0 ∙ append-nil ms, none.1)

-- no reading has more tokens than one that ends
pub no_more_tokens : (total : ℕ) (cs : List ℕ) (ls : List Lexeme) (a : List ℕ) (ms : List Lexeme) (b : List ℕ) → Reads total cs ls a → IsEnd a → Reads total cs ms b → length ms ≤ length ls
no_more_tokens total cs ls a ms b p ends q =
    let more = goes_on_from total cs ls a ms b p ends q in
    omega (arith, ap length more.1, length-append ms more.0)

-- at one place it is stuck in one way
pub same_faults : (f g : Stuck) (cs : List ℕ) → IsStuck f cs → IsStuck g cs → f ≡ g
same_faults stuck.BadByte stuck.BadByte cs s t = refl
same_faults stuck.BadByte stuck.NumberTooLarge cs (d, ds, e, none, no_piece) (piece, after, q, is, longest, large) = absurd (no_piece piece after q (digits piece is))
same_faults stuck.BadByte stuck.OpenComment cs (d, ds, e, none, no_piece) (inside, q, unclosed) = absurd (no_piece (codes "/*") inside q block_opens)
same_faults stuck.NumberTooLarge stuck.BadByte cs (piece, after, q, is, longest, large) (d, ds, e, none, no_piece) = absurd (no_piece piece after q (digits piece is))
same_faults stuck.NumberTooLarge stuck.NumberTooLarge cs s t = refl
same_faults stuck.NumberTooLarge stuck.OpenComment cs (piece, after, e, is, longest, large) (inside, q, unclosed) = let f = digits_first piece after cs e is in absurd (true_false (sym f.3 ∙ ap is_digit (head_is (sym f.2 ∙ q))))
same_faults stuck.OpenComment stuck.BadByte cs (inside, q, unclosed) (d, ds, e, none, no_piece) = absurd (no_piece (codes "/*") inside q block_opens)
same_faults stuck.OpenComment stuck.NumberTooLarge cs (inside, q, unclosed) (piece, after, e, is, longest, large) = let f = digits_first piece after cs e is in absurd (true_false (sym f.3 ∙ ap is_digit (head_is (sym f.2 ∙ q))))
same_faults stuck.OpenComment stuck.OpenComment cs s t = refl

-- where nothing can be read, something is left
pub end_not_empty : (f : Stuck) (cs : List ℕ) → IsStuck f cs → cs ≡ [] → ⊥
end_not_empty stuck.BadByte cs (d, ds, e, none, no_piece) same = not_empty (sym same ∙ e)
end_not_empty stuck.NumberTooLarge cs (piece, after, e, is, longest, large) same = let f = digits_first piece after cs e is in not_empty (sym same ∙ f.2)
end_not_empty stuck.OpenComment cs (inside, e, unclosed) same = not_empty (sym same ∙ e)
