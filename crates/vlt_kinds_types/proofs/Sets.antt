-- The states of a set, each at its first place: 1 to 32 where 1 to 32 are written; and its links.
use Rattle.std.proofs.Common.{◌≡◌, ◌∙◌, ◌≤◌, ◌<◌, ◌+◌, ℕ, Bool, true, false, if◌then◌else◌, List, [], ◌∷◌, ◌++◌, map, length, drop, get_or, ap, sym, subst, arith, length-append}
use Rattle.std.specs.List.{list_any}
use Rattle.std.specs.Str.{bytes_eq}
use Rattle.std.proofs.lemmas.List.{length-map, append_assoc, at_drop_more, at_drop_all}
use Rattle.vlt_syntax.specs.Tree as s
use Rattle.vlt_syntax.specs.View.{name_of, set_state_of}
use Rattle.vlt_syntax.specs.declared.tree.SetState.{SetState}
use Rattle.vlt_core.specs.View.{link_of}
use Rattle.vlt_core.specs.declared.program.Link.{Link}
use Rattle.vlt_kinds_types.specs.Files.{with_text, texts_after, state_texts, number_of, links_to, links_after}
use Rattle.vlt_kinds_queries.specs.Small.{IsSmall}

-- one state more is one name more, or none
one_more : (known : List (List ℕ)) (t : List ℕ) (b : Bool)
    → (length known ≤ length (if b then known else known ++ t ∷ [])) × (length (if b then known else known ++ t ∷ []) ≤ length known + 1)
one_more known t true = (omega arith, omega arith)
one_more known t false = (omega (arith, length-append known (t ∷ [])), omega (arith, length-append known (t ∷ [])))

some_more : (known : List (List ℕ)) (xs : List s.SetState)
    → (length known ≤ length (texts_after known xs)) × (length (texts_after known xs) ≤ length known + length xs)
some_more known [] = (omega arith, omega arith)
some_more known (x ∷ xs) =
    let one : (length known ≤ length (with_text known x.name.text)) × (length (with_text known x.name.text) ≤ length known + 1) =
    one_more known x.name.text (list_any (bytes_eq x.name.text) known) in
    let more = some_more (with_text known x.name.text) xs in
    (omega (arith, one.0, more.0), omega (arith, one.1, more.1))

pub some_texts : (x : s.SetState) (xs : List s.SetState) → 1 ≤ length (state_texts (x ∷ xs))
some_texts x xs = (some_more (x.name.text ∷ []) xs).0

pub few_texts : (xs : List s.SetState) (n : ℕ) → length xs ≤ n → length (state_texts xs) ≤ n
few_texts xs n few = let less : length (state_texts xs) ≤ 0 + length xs = (some_more [] xs).1 in omega (arith, few, less)

-- ---- the code's loops

-- after the last state the names are all of them
pub small_texts : (texts : List (List ℕ)) (xs : List SetState) (i : ℕ) → length xs ≤ i → texts_after (map (λ n. n) texts) (map set_state_of (drop i xs)) ≡ state_texts (map set_state_of xs)
    → 1 ≤ length xs → length xs ≤ 32 → IsSmall texts
small_texts texts [] i past is some few = absurd (omega (arith, some))
small_texts texts (x ∷ xs) i past is some few =
    let all = map set_state_of (x ∷ xs) in
    let ended = at_drop_all (λ ys. texts_after (map (λ n. n) texts) (map set_state_of ys)) (x ∷ xs) i past in
    let same : length texts ≡ length (state_texts all) = sym (length-map texts (λ n. n)) ∙ ap length (sym ended ∙ is) in
    let less : length all ≤ 32 = omega (arith, few, length-map (x ∷ xs) set_state_of) in
    record {
      some = subst (λ n. 1 ≤ n) (sym same) (some_texts (set_state_of x) (map set_state_of xs));
      few = subst (λ n. n ≤ 32) (sym same) (few_texts all 32 less);
    }

-- one state more is the link to it more, or none
pub links_next : (known : List (List ℕ)) (xs : List SetState) (i : ℕ) (x : SetState) (links after : List Link) (lower upper : ℕ)
    → i < length xs → x ≡ get_or xs i x → upper ≡ number_of known (name_of x.name) → map link_of after ≡ map link_of links ++ links_to lower upper x.above
    → map link_of after ++ links_after known upper (map set_state_of (drop (i + 1) xs)) ≡ map link_of links ++ links_after known lower (map set_state_of (drop i xs))
links_next known xs i x links after lower upper within is number pushed =
    let rest = map set_state_of (drop (i + 1) xs) in
    ap (λ ls. ls ++ links_after known upper rest) pushed
    ∙ append_assoc (map link_of links) (links_to lower upper x.above) (links_after known upper rest)
    ∙ ap (λ ls. map link_of links ++ ls)
    (ap (λ n. links_to lower n x.above ++ links_after known n rest) number
    ∙ ap (λ y. links_to lower (number_of known (set_state_of y).name) (set_state_of y).above ++ links_after known (number_of known (set_state_of y).name) rest) is
    ∙ sym (at_drop_more (λ ys. links_after known lower (map set_state_of ys)) xs i x within))
