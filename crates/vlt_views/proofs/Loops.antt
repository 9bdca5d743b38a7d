-- One more turn over declarations with their origins.
use Rattle.std.proofs.Common.{◌≡◌, ◌<◌, ◌≤◌, ◌+◌, ◌||◌, ℕ, Bool, true, false, if◌then◌else◌, List, [], ◌∷◌, ◌++◌, map, length, drop, get_or, Option, refl, sym, ap, ◌∙◌}
use Rattle.std.specs.List.{list_any}
use Rattle.std.specs.Str.{bytes_eq}
use Rattle.std.specs.Borrow.{Bor}
use Rattle.std.proofs.lemmas.List.{drop_more, drop_all, map-append}
use Rattle.std.proofs.lemmas.List.Folds.{list_any-append}
use Rattle.std.proofs.lemmas.Slice.Eq.{bytes_eq-Decides}
use Rattle.indexmap.specs.IndexSet.{insert_key}
use Rattle.vlt_syntax.specs.Tree.{Decl}
use Rattle.vlt_syntax.specs.declared.tree.Decl as code
use Rattle.vlt_syntax.specs.View.{decl_of}
use Rattle.vlt_core.specs.Core.{TypeDecl}
use Rattle.vlt_kinds_types.specs.declared.names.found.Refusal.{Refusal}
use Rattle.vlt_kinds_types.specs.Names.Refusals.{least_from}
use Rattle.vlt_kinds_types.specs.Files.{File}
use Rattle.vlt_kinds_types.proofs.OfNames.Least.{least_of_both}
use Rattle.vlt_views.specs.Hidden.{hidden_name, hidden_names, own_refused_in, own_refused}
use Rattle.vlt_iface.specs.Texts.{text_seen, texts_seen, has_text}
use Rattle.vlt_iface.proofs.Tables.{seen_any}
use Rattle.vlt_views.specs.Texts.{Adds}

-- ---- two lists, item by item

both_more : {X : Type 0} (f : List ℕ → List Decl → X) (os : List ℕ) (ds : List code.Decl) (i o : ℕ) (d : code.Decl)
    → i < length os → o ≡ get_or os i o → i < length ds → d ≡ get_or ds i d
    → f (drop i os) (map decl_of (drop i ds)) ≡ f (o ∷ drop (i + 1) os) (decl_of d ∷ map decl_of (drop (i + 1) ds))
both_more f os ds i o d some o-is more d-is =
    ap (λ ps. f ps (map decl_of (drop i ds))) (drop_more os i o some ∙ ap (λ p. p ∷ drop (i + 1) os) (sym o-is))
    ∙ ap (λ es. f (o ∷ drop (i + 1) os) (map decl_of es)) (drop_more ds i d more ∙ ap (λ e. e ∷ drop (i + 1) ds) (sym d-is))

-- ---- names that a set has

or_swap : (a b c : Bool) → ((a || b) || c) ≡ (a || (b || c))
or_swap true b c = refl
or_swap false b c = refl

or_none : (a : Bool) → (a || false) ≡ a
or_none true = refl
or_none false = refl

-- a name more changes nothing, or is among the names
pub added_text : (keys : List (Bor (List ℕ))) (t : Bor (List ℕ)) → Adds (texts_seen keys) (t.now ∷ []) (texts_seen (insert_key (λ a b. bytes_eq a.now b.now) keys t))
added_text keys t n = by (list_any (λ b. bytes_eq t.now b.now) keys) refl
  where
    same : has_text (texts_seen keys) t.now ≡ true → (b : Bool) → bytes_eq n t.now ≡ b → has_text (texts_seen keys) n ≡ (has_text (texts_seen keys) n || (b || false))
    same has false e = sym (or_none _)
    same has true e =
        let there = ap (has_text (texts_seen keys)) ((bytes_eq-Decides n t.now).0 e) ∙ has in
        there ∙ sym (ap (λ b. b || true) there)

    by : (b : Bool) → list_any (λ b. bytes_eq t.now b.now) keys ≡ b →
        has_text (texts_seen (if b then keys else keys ++ t ∷ [])) n ≡ (has_text (texts_seen keys) n || (bytes_eq n t.now || false))
    by true e = same (sym (seen_any keys t.now) ∙ e) (bytes_eq n t.now) refl
    by false e =
        ap (λ ts. has_text ts n) (map-append text_seen keys (t ∷ [])) ∙ list_any-append (bytes_eq n) (texts_seen keys) (t.now ∷ [])

-- none more
pub added_none : (names : List (List ℕ)) → Adds names [] names
added_none names n = sym (or_none _)

-- ---- the names that stay abstract

abbrev pub HasAfter : (names texts all : List (List ℕ)) → Type 0
HasAfter names texts all = (n : List ℕ) → (has_text names n || has_text texts n) ≡ has_text all n

pub next_names : (os : List ℕ) (ds : List code.Decl) (i o : ℕ) (d : code.Decl) (names more all : List (List ℕ))
    → i < length os → o ≡ get_or os i o → i < length ds → d ≡ get_or ds i d → Adds names (hidden_name o (decl_of d)) more
    → HasAfter names (hidden_names (drop i os) (map decl_of (drop i ds))) all
    → HasAfter more (hidden_names (drop (i + 1) os) (map decl_of (drop (i + 1) ds))) all
next_names os ds i o d names more all some o-is left d-is adds before n =
    let here = hidden_name o (decl_of d) in
    let rest = hidden_names (drop (i + 1) os) (map decl_of (drop (i + 1) ds)) in
    ap (λ b. b || has_text rest n) (adds n)
    ∙ or_swap (has_text names n) (has_text here n) (has_text rest n)
    ∙ ap (λ b. has_text names n || b) (sym (list_any-append (bytes_eq n) here rest))
    ∙ ap (λ ts. has_text names n || has_text ts n) (sym (both_more hidden_names os ds i o d some o-is left d-is))
    ∙ before n

none_left : (os : List ℕ) → hidden_names os [] ≡ []
none_left [] = refl
none_left (o ∷ os) = refl

pub all_names : (os : List ℕ) (ds : List code.Decl) (i : ℕ) (names all : List (List ℕ)) → length ds ≤ i
    → HasAfter names (hidden_names (drop i os) (map decl_of (drop i ds))) all → (n : List ℕ) → has_text names n ≡ has_text all n
all_names os ds i names all past before n =
    sym (or_none _) ∙ ap (λ ts. has_text names n || has_text ts n) (sym none) ∙ before n
  where
    none : hidden_names (drop i os) (map decl_of (drop i ds)) ≡ []
    none = ap (λ es. hidden_names (drop i os) (map decl_of es)) (drop_all i ds past) ∙ none_left (drop i os)

pub no_more_names : (os : List ℕ) (ds : List code.Decl) (i : ℕ) (names all : List (List ℕ)) → length os ≤ i
    → HasAfter names (hidden_names (drop i os) (map decl_of (drop i ds))) all → (n : List ℕ) → has_text names n ≡ has_text all n
no_more_names os ds i names all past before n =
    sym (or_none _) ∙ ap (λ ts. has_text names n || has_text ts n) (sym (none (map decl_of (drop i ds)))) ∙ before n
  where
    none : (es : List Decl) → hidden_names (drop i os) es ≡ []
    none es = ap (λ ps. hidden_names ps es) (drop_all i os past)

-- ---- what is refused

module _ (names : List (List ℕ)) (types : List TypeDecl) (file : File) where
  pub next_refused : (os : List ℕ) (ds : List code.Decl) (i o : ℕ) (d : code.Decl) (found after : Option Refusal)
      → i < length os → o ≡ get_or os i o → i < length ds → d ≡ get_or ds i d → after ≡ least_from found (own_refused_in names types file o (decl_of d))
      → least_from after (own_refused names types file (drop (i + 1) os) (map decl_of (drop (i + 1) ds)))
      ≡ least_from found (own_refused names types file (drop i os) (map decl_of (drop i ds)))
  next_refused os ds i o d found after some o-is left d-is noted =
      let rest = own_refused names types file (drop (i + 1) os) (map decl_of (drop (i + 1) ds)) in
      ap (λ f. least_from f rest) noted
      ∙ sym (least_of_both (own_refused_in names types file o (decl_of d)) rest found)
      ∙ ap (least_from found) (sym (both_more (own_refused names types file) os ds i o d some o-is left d-is))

  pub none_refused : (os : List ℕ) (ds : List Decl) (i : ℕ) → length os ≤ i → own_refused names types file (drop i os) ds ≡ []
  none_refused os ds i past = ap (λ ps. own_refused names types file ps ds) (drop_all i os past)

  none_wrong : (os : List ℕ) → own_refused names types file os [] ≡ []
  none_wrong [] = refl
  none_wrong (o ∷ os) = refl

  pub all_refused : (os : List ℕ) (ds : List code.Decl) (i : ℕ) (found all : Option Refusal) → length ds ≤ i
      → least_from found (own_refused names types file (drop i os) (map decl_of (drop i ds))) ≡ all → found ≡ all
  all_refused os ds i found all past before =
      ap (least_from found) (sym (ap (λ es. own_refused names types file (drop i os) (map decl_of es)) (drop_all i ds past) ∙ none_wrong (drop i os))) ∙ before
