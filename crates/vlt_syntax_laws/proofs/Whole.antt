-- Law B for all symbols.
use Rattle.std.proofs.Common.{◌≡◌, ℕ, suc, ◌-◌, ◌≤◌, Bool, true, false, if◌then◌else◌, ◌==◌, List, [], ◌∷◌, ◌++◌, Option, Some, None, refl, sym, ap, subst, ◌∙◌, arith, length}
use Rattle.std.proofs.lemmas.Bool.Decides.{nat_tests}
use Rattle.vlt_tokens.specs.declared.token.Word.TheVariants as word
use Rattle.vlt_tokens.specs.declared.token.Mark.{Mark}
use Rattle.vlt_tokens.specs.declared.token.Mark.TheVariants as mark
use Rattle.vlt_base.specs.declared.places.Span.{Span}
use Rattle.vlt_syntax.specs.Tokens as t
use Rattle.vlt_syntax.specs.Tokens.{Token}
use Rattle.vlt_syntax.specs.Tree as s
use Rattle.vlt_syntax.specs.Tree.{Name, Named, Case, Head}
use Rattle.vlt_syntax.specs.Lists.{Each, further_then}
use Rattle.vlt_syntax.specs.Spelling.{name_then}
use Rattle.vlt_automaton.specs.Automaton.{Left, Thing, a_name, a_param, a_ty, a_key, a_case, a_parameter, an_entry, an_expr, an_init, a_result_type, a_simple, a_stmt, a_decl, Symbol, tick, sign, keyword, thing, further, listed, enclosed, marked_name, states, at_states, named, after_tracked, after_type_name, operand, operations, following_name, close_group, end_expr, owner, right, after_right_name, returned, block, stmts, after_stmt_name, otherwise, following_else, arm, arms, entry_states, after_entry_at, arrow_states, clause, head, further_states, fields, after_fields, decls, Reaction, take, skip, refuse, exceed, with_after, start_thing, less, one_more, reaction, react_further, depth_read, whole_depth}
use Rattle.vlt_syntax_laws.proofs.Back.{Rest, Part, Spells, Spelled, SpelledAfter, Completed, Filled, ThingType, IsThing, spell_of, RoomFor, ended, operations_end}
use Rattle.vlt_syntax_laws.proofs.Choices.{by_sign}
use Rattle.vlt_syntax.specs.Grammar.{Bounds}
use Rattle.vlt_syntax_laws.proofs.Wider.{wider}

abbrev Gives : Rest → Rest → Type 0
Gives K L = (n : ℕ) (r : List Token) → K n r → L n r

spelled_map : (X : Type 0) (P : X → Type 0) (spell : X → List Token → List Token) (K L : Rest) (ts : List Token) → Gives K L → Spelled X P spell K ts → Spelled X P spell L ts
spelled_map X P spell K L ts f (x, rest, p, e, k) = (x, rest, p, e, f 0 rest k)

after_map : (b : Token) (X : Type 0) (P : X → Type 0) (spell : X → List Token → List Token) (K L : Rest) (ts : List Token) → Gives K L → SpelledAfter b X P spell K ts → SpelledAfter b X P spell L ts
after_map b X P spell K L ts f (x, rest, p, e, k) = (x, rest, p, e, f 0 rest k)

completed_map : (most : ℕ) (gs : List Filled) (K L : Rest) (ts : List Token) → Gives K L → Completed most gs K ts → Completed most gs L ts
completed_map most gs K L ts f (e, rest, b, d, is, k) = (e, rest, b, d, is, f _ rest k)

pub maps : (extra : Bounds) (d : ℕ) (y : Symbol) (K L : Rest) (ts : List Token) → Gives K L → Part extra d y K ts → Part extra d y L ts
maps extra d tick K L ts f h = spelled_map _ _ _ K L ts f h
maps extra d (sign m) K L ts f h = (h.0, h.1, f 0 _ h.2)
maps extra d (keyword m) K L ts f h = (h.0, h.1, f 0 _ h.2)
maps extra d (thing k) K L ts f h = spelled_map _ _ _ K L ts f h
maps extra d (further k m left) K L ts f h = spelled_map _ _ _ K L ts f h
maps extra d (listed k m left) K L ts f h = λ r. spelled_map _ _ _ K L ts f (h r)
maps extra d (enclosed k o m left) K L ts f h = λ r. spelled_map _ _ _ K L ts f (h r)
maps extra d (marked_name m) K L ts f h = spelled_map _ _ _ K L ts f h
maps extra d states K L ts f h = spelled_map _ _ _ K L ts f h
maps extra d at_states K L ts f h = spelled_map _ _ _ K L ts f h
maps extra d named K L ts f h = spelled_map _ _ _ K L ts f h
maps extra d after_tracked K L ts f h = after_map _ _ _ _ K L ts f h
maps extra d after_type_name K L ts f h = λ n. after_map _ _ _ _ K L ts f (h n)
maps extra d (operand room fs) K L ts f h = λ most gs is some fits. completed_map most gs K L ts f (h most gs is some fits)
maps extra d (operations n fs) K L ts f h = λ most gs e is deep b fits. completed_map most gs K L _ f (h most gs e is deep b fits)
maps extra d (following_name n fs) K L ts f h = λ most gs e so is deep b fits. completed_map most gs K L _ f (h most gs e so is deep b fits)
maps extra d (close_group fs) K L ts f h = (h.0, h.1, λ most gs e is deep b fits. completed_map most gs K L _ f (h.2 most gs e is deep b fits))
maps extra d end_expr K L ts f h = f 0 ts h
maps extra d owner K L ts f h = spelled_map _ _ _ K L ts f h
maps extra d right K L ts f h = spelled_map _ _ _ K L ts f h
maps extra d after_right_name K L ts f h = λ n. after_map _ _ _ _ K L ts f (h n)
maps extra d returned K L ts f h = spelled_map _ _ _ K L ts f h
maps extra d (block room) K L ts f h = λ r. spelled_map _ _ _ K L ts f (h r)
maps extra d (stmts room) K L ts f h = spelled_map _ _ _ K L ts f h
maps extra d after_stmt_name K L ts f h = λ n. after_map _ _ _ _ K L ts f (h n)
maps extra d (otherwise room) K L ts f h = λ r. spelled_map _ _ _ K L ts f (h r)
maps extra d (following_else room) K L ts f h = λ r. after_map _ _ _ _ K L ts f (h r)
maps extra d (arm room) K L ts f h = λ r. let q = h r in (q.0, q.1, q.2, q.3, q.4, q.5, f 0 _ q.6)
maps extra d (arms room) K L ts f h = λ r. spelled_map _ _ _ K L ts f (h r)
maps extra d entry_states K L ts f h = λ n. after_map _ _ _ _ K L ts f (h n)
maps extra d after_entry_at K L ts f h = λ n. let q = h n in (q.0, q.1, q.2, q.3, f 0 _ q.4)
maps extra d arrow_states K L ts f h = λ n ss i. let q = h n ss i in (q.0, q.1, q.2, q.3, f 0 _ q.4)
maps extra d clause K L ts f h = spelled_map _ _ _ K L ts f h
maps extra d head K L ts f h = spelled_map _ _ _ K L ts f h
maps extra d (further_states left) K L ts f h = spelled_map _ _ _ K L ts f h
maps extra d (fields left) K L ts f h = (h.0, h.1, h.2, h.3, h.4, h.5, h.6, f 0 _ h.7)
maps extra d after_fields K L ts f h = (h.0, h.1, h.2, h.3, f 0 _ h.4)
maps extra d (decls left) K L ts f h = (h.0, h.1, h.2, h.3, h.4, f 0 _ h.5)

pub parted : (extra : Bounds) (d : ℕ) (xs q : List Symbol) (K : Rest) (ts : List Token) → Spells extra d (xs ++ q) K ts → Spells extra d xs (λ n r. Spells extra n q K r) ts
parted extra d [] q K ts h = h
parted extra d (x ∷ xs) q K ts h = maps extra d x (λ n r. Spells extra n (xs ++ q) K r) (λ n r. Spells extra n xs (λ n r. Spells extra n q K r) r) ts (λ n r k. parted extra n xs q K r k) h

abbrev pub Backs : (extra : Bounds) → ℕ → Symbol → Rest → Token → List Token → Reaction → Type 0
Backs extra d y K x c (take xs) = Spells extra 0 xs K c → Part extra d y K (x ∷ c)
Backs extra d y K x c skip = K (depth_read y) (x ∷ c) → Part extra d y K (x ∷ c)
Backs extra d y K x c refuse = Unit {0}
Backs extra d y K x c (exceed n) = Unit {0}

-- a thing, whatever comes after it
abbrev ThingBack : (extra : Bounds) → Thing → Token → Reaction → Type 1
ThingBack extra k x r = (K : Rest) (c : List Token) → Backs extra 0 (thing k) K x c r

-- what takes a thing and then others
abbrev pub Then : (extra : Bounds) → (Rest → List Token → Type 0) → List Symbol → Rest → Token → List Token → Reaction → Type 0
Then extra P ys K x c (take xs) = Spells extra 0 xs K c → P (λ n r. Spells extra n ys K r) (x ∷ c)
Then extra P ys K x c skip = Unit {0}
Then extra P ys K x c refuse = Unit {0}
Then extra P ys K x c (exceed n) = Unit {0}

pub followed_back : (extra : Bounds) (k : Thing) (x : Token) (c : List Token) (ys : List Symbol) (K : Rest) (r : Reaction) → Backs extra 0 (thing k) (λ n q. Spells extra n ys K q) x c r → Then extra (λ L ts. Part extra 0 (thing k) L ts) ys K x c (with_after r ys)
followed_back extra k x c ys K (take xs) b = λ h. b (parted extra 0 xs ys K c h)
followed_back extra k x c ys K skip b = tt
followed_back extra k x c ys K refuse b = tt
followed_back extra k x c ys K (exceed n) b = tt

-- ---- lists of things, by the law of the thing

pub if_both : (P : Reaction → Type 0) (b : Bool) (x y : Reaction) → (b ≡ true → P x) → (b ≡ false → P y) → P (if b then x else y)
if_both P true x y p q = p refl
if_both P false x y p q = q refl

pub one_room : (l : Left) (n : ℕ) → (l.more == 0) ≡ false → n ≤ l.more - 1 → suc n ≤ l.more
one_room l n e h = grind (arith, nat_tests)

pub no_room : (left : Option Left) → RoomFor left 0
no_room None = tt
no_room (Some l) = omega arith

abbrev pub NoSkip : Reaction → Type 0
NoSkip skip = ⊥
NoSkip (take xs) = Unit {0}
NoSkip refuse = Unit {0}
NoSkip (exceed n) = Unit {0}

pub further_back : (extra : Bounds) (k : Thing) (m : Mark) (left : Option Left) (d : ℕ) (K : Rest) (c : List Token) (x : Token) → Backs extra d (further k m left) K x c (react_further k m left x)
further_back extra k m left d K c x =
    by_sign (λ x r. Backs extra d (further k m left) K x c r) m x _ _
    (λ h. ([], c, (tt, none left), refl, h))
    (by_sign (λ x r. Backs extra d (further k m left) K x c r) mark.Comma x _ _ (more left) tt) where
      none : (left : Option Left) → RoomFor left 0
      none None = tt
      none (Some l) = omega arith

      more : (left : Option Left) → Backs extra d (further k m left) K (t.sign mark.Comma) c (one_more k m left)
      more None = λ h. (h.0 ∷ h.4.0, h.4.1, ((h.2, h.4.2.0), tt), ap (λ r. t.sign mark.Comma ∷ r) (h.3 ∙ ap (spell_of k h.0) h.4.3), h.4.4)
      more (Some l) =
          if_both (λ r. Backs extra d (further k m (Some l)) K (t.sign mark.Comma) c r) (l.more == 0) _ _ (λ e. tt)
          (λ e h. (h.0 ∷ h.4.0, h.4.1, ((h.2, h.4.2.0), one_room l (length h.4.0) e h.4.2.1), ap (λ r. t.sign mark.Comma ∷ r) (h.3 ∙ ap (spell_of k h.0) h.4.3), h.4.4))

-- the first thing of a list, and the further ones
first_of_list : (extra : Bounds) (k : Thing) (m : Mark) (left : Option Left) (K : Rest) (ts : List Token) → RoomFor left 1 → Spells extra 0 (thing k ∷ further k m (less left) ∷ []) K ts
    → (x : ThingType k) × (xs : List (ThingType k)) × (rest : List Token) × (IsThing extra k x × Each (IsThing extra k) xs) × RoomFor left (length (x ∷ xs)) × (ts ≡ spell_of k x (further_then (spell_of k) m xs rest)) × K 0 rest
first_of_list extra k m None K ts r h = (h.0, h.4.0, h.4.1, (h.2, h.4.2.0), tt, h.3 ∙ ap (spell_of k h.0) h.4.3, h.4.4)
first_of_list extra k m (Some l) K ts r h = (h.0, h.4.0, h.4.1, (h.2, h.4.2.0), (let n = h.4.2.1 in omega arith), h.3 ∙ ap (spell_of k h.0) h.4.3, h.4.4)

pub enclosed_back : (extra : Bounds) (k : Thing) (o m : Mark) (left : Option Left) (d : ℕ) (K : Rest) (c : List Token) (x : Token) → Backs extra d (enclosed k o m left) K x c (reaction (wider extra) (enclosed k o m left) x)
enclosed_back extra k o m left d K c x =
    by_sign (λ x r. Backs extra d (enclosed k o m left) K x c r) o x _ _
    (λ h r. let q = first_of_list extra k m left K c r h in (q.0 ∷ q.1, q.2, (q.3, q.4), ap (λ z. t.sign o ∷ z) q.5, q.6))
    (λ h r. ([], x ∷ c, (tt, no_room left), refl, h))

-- where a thing's law is had for each rest, that of a list follows
pub listed_back : (extra : Bounds) (k : Thing) (m : Mark) (left : Option Left) (d : ℕ) (K : Rest) (c : List Token) (x : Token) → Backs extra 0 (thing k) (λ n q. Spells extra n (further k m (less left) ∷ []) K q) x c (start_thing (wider extra) k x)
    → NoSkip (start_thing (wider extra) k x) → Backs extra d (listed k m left) K x c (reaction (wider extra) (listed k m left) x)
listed_back extra k m left d K c x b kept =
    by_sign (λ x r. Backs extra 0 (thing k) (λ n q. Spells extra n (further k m (less left) ∷ []) K q) x c (start_thing (wider extra) k x) → NoSkip (start_thing (wider extra) k x) → Backs extra d (listed k m left) K x c r) m x _ _
    (λ b kept h r. ([], c, (tt, no_room left), refl, h))
    (λ b kept. rest_of (start_thing (wider extra) k x) b kept) b kept where
      rest_of : (z : Reaction) → Backs extra 0 (thing k) (λ n q. Spells extra n (further k m (less left) ∷ []) K q) x c z → NoSkip z → Backs extra d (listed k m left) K x c (with_after z (further k m (less left) ∷ []))
      rest_of (take xs) b kept = λ h r.
          let q = first_of_list extra k m left K (x ∷ c) r (b (parted extra 0 xs (further k m (less left) ∷ []) K c h)) in
          (q.0 ∷ q.1, q.2, (q.3, q.4), q.5, q.6)
      rest_of skip b kept = absurd kept
      rest_of refuse b kept = tt
      rest_of (exceed n) b kept = tt

-- ---- some symbols of statements

pub stmts_end : (extra : Bounds) (room : ℕ) (d : ℕ) (K : Rest) (c : List Token) → Spells extra 0 [] K c → Part extra d (stmts room) K (t.sign mark.CloseBrace ∷ c)
stmts_end extra room d K c h = (s.done, c, tt, refl, h)

-- a statement and those after it
pub stmts_more : (extra : Bounds) (room : ℕ) (d : ℕ) (K : Rest) (ts : List Token) → Spells extra 0 (thing (a_stmt room) ∷ stmts room ∷ []) K ts → Part extra d (stmts room) K ts
stmts_more extra room d K ts h = (s.next h.0 h.4.0, h.4.1, (h.2, h.4.2), h.3 ∙ ap (spell_of (a_stmt room) h.0) h.4.3, h.4.4)

pub block_back : (extra : Bounds) (at : Span) (room : ℕ) (d : ℕ) (K : Rest) (c : List Token) (x : Token) → Backs extra d (block room) K x c (reaction (wider extra) (block room) x)
block_back extra at room d K c x =
    by_sign (λ x r. Backs extra d (block room) K x c r) mark.OpenBrace x _ _
    (λ h r. (s.braced h.0 at, h.1, (r, h.2), ap (λ z. t.sign mark.OpenBrace ∷ z) h.3, h.4)) tt

-- after the word `while`, whose parts come one by one
pub while_back : (extra : Bounds) (at : Span) (room : ℕ) (K : Rest) (c : List Token) → 1 ≤ room → Spells extra 0 (sign mark.OpenParen ∷ thing an_expr ∷ sign mark.CloseParen ∷ block room ∷ []) K c → Part extra 0 (thing (a_stmt room)) K (t.keyword word.While ∷ c)
while_back extra at room K c some h =
    let e = h.2 in
    let p = e.4 in
    let b = p.2 some in (
      s.loop e.0 b.0 at,
      b.1,
      (e.2, b.2),
      ap (λ z. t.keyword word.While ∷ z) (h.1 ∙ ap (λ z. t.sign mark.OpenParen ∷ z) (e.3 ∙ ap (spell_of an_expr e.0) (p.1 ∙ ap (λ z. t.sign mark.CloseParen ∷ z) b.3))),
      b.4,
    )

pub become_back : (extra : Bounds) (at : Span) (room : ℕ) (K : Rest) (c : List Token) → Spells extra 0 (thing a_name ∷ sign mark.At ∷ thing a_name ∷ sign mark.Semicolon ∷ []) K c → Part extra 0 (thing (a_stmt room)) K (t.keyword word.Become ∷ c)
become_back extra at room K c h =
    let a = h.4 in
    let n = a.2 in
    let e = n.4 in (
      s.become h.0 n.0 at,
      e.0,
      tt,
      ap (λ z. t.keyword word.Become ∷ z) (h.3 ∙ ap (name_then h.0) (a.1 ∙ ap (λ z. t.sign mark.At ∷ z) (n.3 ∙ ap (name_then n.0) e.1))),
      e.2,
    )

-- ---- each symbol has a spelling

abbrev Has : (List Token → Type 0) → Type 0
Has P = (c : List Token) × P c

abbrev pub the_name : Span → List ℕ → Name
the_name at n = record { text = n; at = at }

abbrev a_named : Span → Named
a_named at = record { name = the_name at []; keys = [] }

abbrev a_head : Span → Head
a_head at = record { result_type = s.void at; name = the_name at []; parameters = []; clause = None; at = at }

has_thing : (extra : Bounds) (at : Span) (k : Thing) (K : Rest) (c : List Token) → K 0 c → Has (Part extra 0 (thing k) K)
has_thing extra at a_name K c h = (_, (the_name at [], c, tt, refl, h))
has_thing extra at a_param K c h = (_, (record { key = the_name at []; key_type = None }, c, tt, refl, h))
has_thing extra at a_ty K c h = (_, (s.int at, c, tt, refl, h))
has_thing extra at a_key K c h = (_, (record { key = the_name at []; states = None }, c, tt, refl, h))
has_thing extra at a_case K c h = (_, (record { name = the_name at []; payload = []; keys = []; at = at }, c, (tt, omega arith, tt), refl, h))
has_thing extra at a_parameter K c h = (_, (record { ty = s.int at; name = the_name at [] }, c, tt, refl, h))
has_thing extra at an_entry K c h = (_, (s.held (record { key = the_name at []; states = None }), c, tt, refl, h))
has_thing extra at an_expr K c h = (_, (s.true at, c, (tt, omega arith), refl, h))
has_thing extra at an_init K c h = (_, (record { field = the_name at []; value = s.true at }, c, (tt, omega arith), refl, h))
has_thing extra at a_result_type K c h = (_, (s.void at, c, tt, refl, h))
has_thing extra at a_simple K c h = (_, (s.break at, c, tt, refl, h))
has_thing extra at (a_stmt room) K c h = (_, (s.break at, c, tt, refl, h))
has_thing extra at a_decl K c h = (_, (s.abstract (the_name at []) None at, c, tt, refl, h))

pub has : (extra : Bounds) (at : Span) (d : ℕ) (y : Symbol) (K : Rest) → ((n : ℕ) → Has (K n)) → Has (Part extra d y K)
has extra at d tick K k = (_, (the_name at [], (k 0).0, tt, refl, (k 0).1))
has extra at d (sign m) K k = (_, ((k 0).0, refl, (k 0).1))
has extra at d (keyword m) K k = (_, ((k 0).0, refl, (k 0).1))
has extra at d (thing i) K k = has_thing extra at i K (k 0).0 (k 0).1
has extra at d (further i m left) K k = (_, ([], (k 0).0, (tt, no_room left), refl, (k 0).1))
has extra at d (listed i m left) K k = (t.sign m ∷ (k 0).0, λ r. ([], (k 0).0, (tt, no_room left), refl, (k 0).1))
has extra at d (enclosed i o m left) K k = ((k 0).0, λ r. ([], (k 0).0, (tt, no_room left), refl, (k 0).1))
has extra at d (marked_name m) K k = (_, (None, (k 0).0, tt, refl, (k 0).1))
has extra at d states K k = (_, (s.one (the_name at []), (k 0).0, tt, refl, (k 0).1))
has extra at d at_states K k = (_, (None, (k 0).0, tt, refl, (k 0).1))
has extra at d named K k = (_, (a_named at, (k 0).0, tt, refl, (k 0).1))
has extra at d after_tracked K k = (t.name [] ∷ (k 0).0, (s.owning None (a_named at) at, (k 0).0, tt, refl, (k 0).1))
has extra at d after_type_name K k = ((k 0).0, λ n. (s.plain (record { name = the_name at n; keys = [] }), (k 0).0, tt, refl, (k 0).1))
has extra at d (operand room fs) K k = (
  t.keyword word.True ∷ (k (whole_depth 1 fs)).0,
  λ most gs is some fits.
      ended at most 11 room gs (s.true at) K (k (whole_depth 1 fs)).0 tt some fits (subst (λ f. K (whole_depth 1 f) (k (whole_depth 1 fs)).0) (sym is) (k (whole_depth 1 fs)).1),
)
has extra at d (operations n fs) K k = ((k (whole_depth n fs)).0, operations_end at n fs K (k (whole_depth n fs)).0 (k (whole_depth n fs)).1)
has extra at d (following_name n fs) K k = ((k (whole_depth n fs)).0, λ most gs e so is deep b fits. operations_end at n fs K (k (whole_depth n fs)).0 (k (whole_depth n fs)).1 most gs e is deep b fits)
has extra at d (close_group fs) K k = (_, ((k (whole_depth (suc d) fs)).0, refl, operations_end at (suc d) fs K (k (whole_depth (suc d) fs)).0 (k (whole_depth (suc d) fs)).1))
has extra at d end_expr K k = k 0
has extra at d owner K k = (_, (None, (k 0).0, tt, refl, (k 0).1))
has extra at d right K k = (_, (s.input at, (k 0).0, tt, refl, (k 0).1))
has extra at d after_right_name K k = ((k 0).0, λ n. (s.value (s.variable (the_name at n)), (k 0).0, (tt, omega arith), refl, (k 0).1))
has extra at d returned K k = (_, (s.nothing, (k 0).0, tt, refl, (k 0).1))
has extra at d (block room) K k = (t.sign mark.OpenBrace ∷ t.sign mark.CloseBrace ∷ (k 0).0, λ r. (s.braced s.done at, (k 0).0, (r, tt), refl, (k 0).1))
has extra at d (stmts room) K k = (_, (s.done, (k 0).0, tt, refl, (k 0).1))
has extra at d after_stmt_name K k = (t.sign mark.OpenParen ∷ t.sign mark.CloseParen ∷ t.sign mark.Semicolon ∷ (k 0).0, λ n. (s.call (record { function = the_name at n; arguments = []; at = at }) at, (k 0).0, (λ room. tt), refl, (k 0).1))
has extra at d (otherwise room) K k = ((k 0).0, λ r. (s.nothing, (k 0).0, tt, refl, (k 0).1))
has extra at d (following_else room) K k = (t.sign mark.OpenBrace ∷ t.sign mark.CloseBrace ∷ (k 0).0, λ r. (s.last (s.braced s.done at), (k 0).0, (r, tt), refl, (k 0).1))
has extra at d (arm room) K k = (t.keyword word.Case ∷ t.tick [] ∷ t.sign mark.Colon ∷ t.sign mark.OpenBrace ∷ t.sign mark.CloseBrace ∷ (k 0).0, λ r. (the_name at [], [], s.braced s.done at, (k 0).0, (r, tt), refl, (k 0).1))
has extra at d (arms room) K k = (t.sign mark.CloseBrace ∷ (k 0).0, λ r. (s.no_arms, (k 0).0, tt, refl, (k 0).1))
has extra at d entry_states K k = ((k 0).0, λ n. (s.held (record { key = the_name at n; states = None }), (k 0).0, tt, refl, (k 0).1))
has extra at d after_entry_at K k = (t.name [] ∷ (k 0).0, λ n. (s.held (record { key = the_name at n; states = Some (s.one (the_name at [])) }), (k 0).0, tt, refl, (k 0).1))
has extra at d arrow_states K k = ((k 0).0, λ n ss i. (s.held (record { key = the_name at n; states = Some ss }), (k 0).0, i, refl, (k 0).1))
has extra at d clause K k = (_, (None, (k 0).0, tt, refl, (k 0).1))
has extra at d head K k = (_, (a_head at, (k 0).0, record { result_type = tt; parameters = tt; few = omega arith; clause = tt }, refl, (k 0).1))
has extra at d (further_states left) K k = (_, ([], (k 0).0, omega arith, refl, (k 0).1))
has extra at d (fields left) K k = (_, ([], None, (k 0).0, tt, tt, omega arith, refl, (k 0).1))
has extra at d after_fields K k = (_, (None, (k 0).0, tt, refl, (k 0).1))
has extra at d (decls left) K k = (_, ([], (k 0).0, tt, omega arith, refl, (k 0).1))

-- every stack has a spelling
pub some_spelling : (extra : Bounds) (at : Span) (q : List Symbol) (d : ℕ) → (c : List Token) × (Spells extra) d q (λ n ts. ts ≡ []) c
some_spelling extra at [] d = ([], refl)
some_spelling extra at (y ∷ q) d = has extra at d y (λ n r. Spells extra n q (λ n ts. ts ≡ []) r) (λ n. some_spelling extra at q n)
