-- The automaton takes what a tree spells.
use Rattle.std.proofs.Common.{◌≡◌, Bool, true, false, if◌then◌else◌, List, [], ◌∷◌, ◌++◌, Some, None, refl, ap, ◌∙◌, arith, append_assoc}
use Rattle.std.proofs.lemmas.Bool.Decides.{nat_tests}
use Rattle.vlt_tokens.specs.declared.token.Mark.{Mark}
use Rattle.vlt_tokens.specs.declared.token.Mark.TheVariants as mark
use Rattle.vlt_syntax.specs.Tokens as t
use Rattle.vlt_syntax.specs.Tokens.{Token}
use Rattle.vlt_automaton.specs.Words.{same_mark}
use Rattle.vlt_syntax.specs.Tree as s
use Rattle.vlt_syntax.specs.Tree.{Name, States, Named, Ty}
use Rattle.vlt_syntax.specs.Lists.{further_then, listed_then, enclosed_then, Each, IsFilled}
use Rattle.vlt_syntax.specs.Spelling.{name_then, states_then, named_then, ty_then}
use Rattle.vlt_syntax.specs.Grammar.{IsTy, IsStates}
use Rattle.vlt_automaton.specs.Automaton.{Reaction, take, skip, refuse, exceed, with_after, next_after, Next, to, Thing, a_name, a_ty, Symbol, thing, further, enclosed, states, named, after_type_name, name}
use Rattle.vlt_syntax_laws.proofs.After.{after}
use Rattle.vlt_syntax.specs.Grammar.{Bounds}
use Rattle.vlt_syntax_laws.proofs.Wider.{wider}

pub same : (m : Mark) → same_mark m m ≡ true
same m = grind (arith, nat_tests)

-- the first token isn't so
abbrev no : (Token → Bool) → List Token → Bool
no p [] = true
no p (x ∷ xs) = if p x then false else true

-- what a reaction does, and then these
abbrev pub IsNoSkip : Reaction → Type 0
IsNoSkip skip = ⊥
IsNoSkip (take xs) = Unit {0}
IsNoSkip refuse = Unit {0}
IsNoSkip (exceed n) = Unit {0}

pub kept : (b : Bool) (x y : Reaction) → IsNoSkip x → IsNoSkip y → IsNoSkip (if b then x else y)
kept true x y p q = p
kept false x y p q = q

pub followed_settled : (r : Reaction) (ys s : List Symbol) (below other : Unit {0} → Next) → IsNoSkip r → next_after (with_after r ys) s below ≡ next_after r (ys ++ s) other
followed_settled (take xs) ys s below other h = ap to (append_assoc xs ys s)
followed_settled skip ys s below other h = absurd h
followed_settled refuse ys s below other h = refl
followed_settled (exceed n) ys s below other h = refl

-- ---- lists

pub further_one : (extra : Bounds) (k : Thing) (closing : Mark) (s : List Symbol) (rest : List Token) → same_mark mark.Comma closing ≡ false → after (wider extra) (t.sign mark.Comma ∷ rest) (further k closing None ∷ s) ≡ after (wider extra) rest (thing k ∷ further k closing None ∷ s)
further_one extra k closing s rest e = rw e refl

pub further_end : (extra : Bounds) (k : Thing) (closing : Mark) (s : List Symbol) (rest : List Token) → after (wider extra) (t.sign closing ∷ rest) (further k closing None ∷ s) ≡ after (wider extra) rest s
further_end extra k closing s rest = rw (same closing) refl

-- a thing is taken, where a comma or the closing sign comes after it
abbrev pub Takes : (extra : Bounds) {X : Type 0} → (X → List Token → List Token) → Thing → (X → Type 0) → Mark → Type 0
Takes extra {X} spell k P closing = (x : X) (s : List Symbol) (rest : List Token) → P x → after (wider extra) (spell x (t.sign closing ∷ rest)) (thing k ∷ s) ≡ after (wider extra) (t.sign closing ∷ rest) s

abbrev first_of_rest : {X : Type 0} → Mark → List X → Mark
first_of_rest closing [] = closing
first_of_rest closing (x ∷ xs) = mark.Comma

pub take_further : (extra : Bounds) {X : Type 0} (spell : X → List Token → List Token) (k : Thing) (P : X → Type 0) (closing : Mark) → same_mark mark.Comma closing ≡ false → Takes extra spell k P mark.Comma → Takes extra spell k P closing
    → (xs : List X) (s : List Symbol) (rest : List Token) → Each P xs → after (wider extra) (further_then spell closing xs rest) (further k closing None ∷ s) ≡ after (wider extra) rest s
take_further extra spell k P closing e one last [] s rest h = further_end extra k closing s rest
take_further extra spell k P closing e one last (x ∷ []) s rest h = further_one extra k closing s _ e ∙ last x _ rest h.0 ∙ further_end extra k closing s rest
take_further extra spell k P closing e one last (x ∷ y ∷ ys) s rest h = further_one extra k closing s _ e ∙ one x _ _ h.0 ∙ take_further extra spell k P closing e one last (y ∷ ys) s rest h.1

pub take_some : (extra : Bounds) {X : Type 0} (spell : X → List Token → List Token) (k : Thing) (P : X → Type 0) (closing : Mark) → same_mark mark.Comma closing ≡ false → Takes extra spell k P mark.Comma → Takes extra spell k P closing
    → (xs : List X) (s : List Symbol) (rest : List Token) → IsFilled xs → Each P xs → after (wider extra) (listed_then spell closing xs rest) (thing k ∷ further k closing None ∷ s) ≡ after (wider extra) rest s
take_some extra spell k P closing e one last [] s rest some h = absurd some
take_some extra spell k P closing e one last (x ∷ []) s rest some h = last x _ rest h.0 ∙ further_end extra k closing s rest
take_some extra spell k P closing e one last (x ∷ y ∷ ys) s rest some h = one x _ _ h.0 ∙ take_further extra spell k P closing e one last (y ∷ ys) s rest h.1

-- ---- names and types

abbrev pub Any : Name → Type 0
Any n = Unit {0}

pub any : (ns : List Name) → Each Any ns
any [] = tt
any (n ∷ ns) = (tt, any ns)

pub name_before : (extra : Bounds) (m : Mark) → Takes extra name_then a_name Any m
name_before extra m n s rest h = refl

pub take_names : (extra : Bounds) (closing : Mark) (ns : List Name) (s : List Symbol) (rest : List Token) → same_mark mark.Comma closing ≡ false → IsFilled ns → after (wider extra) (listed_then name_then closing ns rest) (name ∷ further a_name closing None ∷ s) ≡ after (wider extra) rest s
take_names extra closing ns s rest e some = take_some extra name_then a_name Any closing e (name_before extra mark.Comma) (name_before extra closing) ns s rest some (any ns)

pub take_states : (extra : Bounds) (ss : States) (s : List Symbol) (rest : List Token) → IsStates ss → after (wider extra) (states_then ss rest) (states ∷ s) ≡ after (wider extra) rest s
take_states extra (s.one n) s rest h = refl
take_states extra (s.several ns at) s rest h = take_names extra mark.CloseBrace ns s rest refl h

-- what a type may be followed by
abbrev pub is_type_end : Token → Bool
is_type_end (t.sign mark.Less) = false
is_type_end (t.sign mark.Colon) = false
is_type_end x = true

abbrev pub ends_type : List Token → Bool
ends_type [] = false
ends_type (x ∷ xs) = is_type_end x

-- after the name of a type, with its keys or without
pub keys_there : (extra : Bounds) (ns : List Name) (s : List Symbol) (rest : List Token) → ends_type rest ≡ true → after (wider extra) (enclosed_then name_then mark.Less mark.Greater ns rest) (enclosed a_name mark.Less mark.Greater None ∷ s) ≡ after (wider extra) rest s
keys_there extra [] s [] e = absurd cc
keys_there extra [] s (t.name n ∷ rest) e = refl
keys_there extra [] s (t.tick n ∷ rest) e = refl
keys_there extra [] s (t.number n ∷ rest) e = refl
keys_there extra [] s (t.keyword n ∷ rest) e = refl
keys_there extra [] s (t.sign mark.Less ∷ rest) e = absurd cc
keys_there extra [] s (t.sign m ∷ rest) e = refl
keys_there extra (n ∷ ns) s rest e = take_names extra mark.Greater (n ∷ ns) s rest refl tt

pub take_named : (extra : Bounds) (n : Named) (s : List Symbol) (rest : List Token) → ends_type rest ≡ true → after (wider extra) (named_then n rest) (named ∷ s) ≡ after (wider extra) rest s
take_named extra n s rest e = keys_there extra n.keys s rest e

pub plain_keys : (extra : Bounds) (ns : List Name) (s : List Symbol) (rest : List Token) → ends_type rest ≡ true → after (wider extra) (enclosed_then name_then mark.Less mark.Greater ns rest) (after_type_name ∷ s) ≡ after (wider extra) rest s
plain_keys extra [] s [] e = absurd cc
plain_keys extra [] s (t.name n ∷ rest) e = refl
plain_keys extra [] s (t.tick n ∷ rest) e = refl
plain_keys extra [] s (t.number n ∷ rest) e = refl
plain_keys extra [] s (t.keyword n ∷ rest) e = refl
plain_keys extra [] s (t.sign mark.Less ∷ rest) e = absurd cc
plain_keys extra [] s (t.sign mark.Colon ∷ rest) e = absurd cc
plain_keys extra [] s (t.sign m ∷ rest) e = refl
plain_keys extra (n ∷ ns) s rest e = take_names extra mark.Greater (n ∷ ns) s rest refl tt

pub take_ty : (extra : Bounds) (x : Ty) (s : List Symbol) (rest : List Token) → IsTy x → ends_type rest ≡ true → after (wider extra) (ty_then x rest) (thing a_ty ∷ s) ≡ after (wider extra) rest s
take_ty extra (s.int at) s rest h e = refl
take_ty extra (s.bool at) s rest h e = refl
take_ty extra (s.tracked k n at) s rest h e = keys_there extra n.keys s rest e
take_ty extra (s.owning None n at) s rest h e = keys_there extra n.keys s rest e
take_ty extra (s.owning (Some ss) n at) s rest h e = take_states extra ss (named ∷ s) (named_then n rest) h ∙ take_named extra n s rest e
take_ty extra (s.guarded k n) s rest h e = keys_there extra n.keys s rest e
take_ty extra (s.plain n) s rest h e = plain_keys extra n.keys s rest e
