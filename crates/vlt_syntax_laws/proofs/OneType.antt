-- Tokens are the spelling of at most one thing, where its places are set anew: names, states, types and lists, from the left.
use Rattle.std.proofs.Common.{◌≡◌, ℕ, List, [], ◌∷◌, Option, Some, None, IfSome, refl, sym, ap, ◌∙◌}
use Rattle.vlt_tokens.specs.declared.token.Mark.{Mark}
use Rattle.vlt_tokens.specs.declared.token.Mark.TheVariants as mark
use Rattle.vlt_syntax.specs.Tokens as t
use Rattle.vlt_syntax.specs.Tokens.{Token}
use Rattle.vlt_syntax.specs.Tree as s
use Rattle.vlt_syntax.specs.Tree.{Name, States, KeyStates, Named}
use Rattle.vlt_syntax.specs.Lists.{further_then, listed_then, enclosed_then, Each, IsFilled}
use Rattle.vlt_syntax.specs.Spelling.{name_then, case_name_then, marked_name_then, states_then, at_states_then, key_states_then, named_then, ty_then}
use Rattle.vlt_syntax.specs.Grammar.{IsStates, IsKeyStates, IsTy}
use Rattle.vlt_syntax.specs.Places.{Placing, without_tokens, ◌◂◌, ◌⊛◌, with_span, cons, further_at, listed_at, enclosed_at, marked_at, name_at, states_at, key_states_at, named_at, ty_at}

pub two : {A B C : Type 0} (F : A → B → C) {a b : A} {c d : B} → a ≡ b → c ≡ d → F a c ≡ F b d
two F {a} {b} {c} {d} p q = ap (λ x. F x c) p ∙ ap (F b) q

pub three : {A B C D : Type 0} (F : A → B → C → D) {a b : A} {c d : B} {e f : C} → a ≡ b → c ≡ d → e ≡ f → F a c e ≡ F b d f
three F {a} {b} {c} {d} {e} {f} p q r = ap (λ x. F x c e) p ∙ ap (λ x. F b x e) q ∙ ap (F b d) r

-- two things are the same but for what their spans were, and so are the rests
abbrev pub Same : {X : Type 0} → (X → Placing X) → X → X → List Token → List Token → Type 0
Same place x y r q = (place x ≡ place y) × (r ≡ q)

-- things so spelled before such rests are
abbrev pub One : {X : Type 0} → (X → Placing X) → (X → List Token → List Token) → (X → Type 0) → (List Token → Type 0) → Type 0
One {X} place spell P E = (x y : X) (r q : List Token) → P x → P y → E r → E q → spell x r ≡ spell y q → Same place x y r q

-- the sign doesn't come next
abbrev pub NoSign : Mark → List Token → Type 0
NoSign m r = (c : List Token) → r ≡ t.sign m ∷ c → ⊥

abbrev pub Anything : {X : Type 0} → X → Type 0
Anything x = Unit {0}

pub all_any : {X : Type 0} (xs : List X) → Each (λ x. Unit {0}) xs
all_any [] = tt
all_any (x ∷ xs) = (tt, all_any xs)

-- ---- lists

abbrev pub Closes : (List Token → Type 0) → Mark → Type 0
Closes E m = (c : List Token) → E (t.sign m ∷ c)

further_ends : {X : Type 0} (spell : X → List Token → List Token) (E : List Token → Type 0) (m : Mark) → Closes E mark.Comma → Closes E m → (xs : List X) (r : List Token) → E (further_then spell m xs r)
further_ends spell E m comma close [] r = close r
further_ends spell E m comma close (x ∷ xs) r = comma _

abbrev NoComma : Mark → Type 0
NoComma m = m ≡ mark.Comma → ⊥

pub one_further : {X : Type 0} (place : X → Placing X) (spell : X → List Token → List Token) (P : X → Type 0) (E : List Token → Type 0) (m : Mark) → One place spell P E → Closes E mark.Comma → Closes E m → NoComma m
    → (xs ys : List X) (r q : List Token) → Each P xs → Each P ys → further_then spell m xs r ≡ further_then spell m ys q → Same (further_at place) xs ys r q
one_further place spell P E m one comma close no_comma [] [] r q p o e = (refl, cc)
one_further place spell P E m one comma close no_comma [] (y ∷ ys) r q p o e = absurd (no_comma cc)
one_further place spell P E m one comma close no_comma (x ∷ xs) [] r q p o e = absurd (no_comma cc)
one_further place spell P E m one comma close no_comma (x ∷ xs) (y ∷ ys) r q p o e =
    let tail : spell x (further_then spell m xs r) ≡ spell y (further_then spell m ys q) = cc in
    let a = one x y _ _ p.0 o.0 (further_ends spell E m comma close xs r) (further_ends spell E m comma close ys q) tail in
    let b = one_further place spell P E m one comma close no_comma xs ys r q p.1 o.1 a.1 in
    (two (λ f g. without_tokens cons ◂ 1 ⊛ f ⊛ g) a.0 b.0, b.1)

-- one thing or more
pub one_some : {X : Type 0} (place : X → Placing X) (spell : X → List Token → List Token) (P : X → Type 0) (E : List Token → Type 0) (m : Mark) → One place spell P E → Closes E mark.Comma → Closes E m → NoComma m
    → (x y : X) (xs ys : List X) (r q : List Token) → Each P (x ∷ xs) → Each P (y ∷ ys) → spell x (further_then spell m xs r) ≡ spell y (further_then spell m ys q)
    → (place x ≡ place y) × Same (further_at place) xs ys r q
one_some place spell P E m one comma close no_comma x y xs ys r q p o e =
    let a = one x y _ _ p.0 o.0 (further_ends spell E m comma close xs r) (further_ends spell E m comma close ys q) e in
    let b = one_further place spell P E m one comma close no_comma xs ys r q p.1 o.1 a.1 in
    (a.0, b)

abbrev Begins : {X : Type 0} → (X → List Token → List Token) → (X → Type 0) → Mark → Type 0
Begins {X} spell P m = (x : X) (r : List Token) → P x → NoSign m (spell x r)

pub one_listed : {X : Type 0} (place : X → Placing X) (spell : X → List Token → List Token) (P : X → Type 0) (E : List Token → Type 0) (m : Mark) → One place spell P E → Closes E mark.Comma → Closes E m → NoComma m → Begins spell P m
    → (xs ys : List X) (r q : List Token) → Each P xs → Each P ys → listed_then spell m xs r ≡ listed_then spell m ys q → Same (listed_at place) xs ys r q
one_listed place spell P E m one comma close no_comma begins [] [] r q p o e = (refl, cc)
one_listed place spell P E m one comma close no_comma begins [] (y ∷ ys) r q p o e = absurd (begins y _ o.0 r (sym e))
one_listed place spell P E m one comma close no_comma begins (x ∷ xs) [] r q p o e = absurd (begins x _ p.0 q e)
one_listed place spell P E m one comma close no_comma begins (x ∷ xs) (y ∷ ys) r q p o e =
    let a = one_some place spell P E m one comma close no_comma x y xs ys r q p o e in
    (two (λ f g. without_tokens cons ⊛ f ⊛ g) a.0 a.1.0, a.1.1)

pub one_enclosed : {X : Type 0} (place : X → Placing X) (spell : X → List Token → List Token) (P : X → Type 0) (E : List Token → Type 0) (opening m : Mark) → One place spell P E → Closes E mark.Comma → Closes E m → NoComma m
    → (xs ys : List X) (r q : List Token) → Each P xs → Each P ys → NoSign opening r → NoSign opening q → enclosed_then spell opening m xs r ≡ enclosed_then spell opening m ys q → Same (enclosed_at place) xs ys r q
one_enclosed place spell P E opening m one comma close no_comma [] [] r q p o h i e = (refl, e)
one_enclosed place spell P E opening m one comma close no_comma [] (y ∷ ys) r q p o h i e = absurd (h _ e)
one_enclosed place spell P E opening m one comma close no_comma (x ∷ xs) [] r q p o h i e = absurd (i _ (sym e))
one_enclosed place spell P E opening m one comma close no_comma (x ∷ xs) (y ∷ ys) r q p o h i e =
    let tail : spell x (further_then spell m xs r) ≡ spell y (further_then spell m ys q) = cc in
    let a = one_some place spell P E m one comma close no_comma x y xs ys r q p o tail in
    (two (λ f g. without_tokens cons ◂ 1 ⊛ f ⊛ g) a.0 a.1.0, a.1.1)

-- ---- names and states

abbrev pub same_text : (n k : List ℕ) → n ≡ k → with_span (without_tokens (λ at. let x : Name = record { text = n; at = at } in x) ◂ 1) ≡ with_span (without_tokens (λ at. let x : Name = record { text = k; at = at } in x) ◂ 1)
same_text n k e = ap (λ z. with_span (without_tokens (λ at. let x : Name = record { text = z; at = at } in x) ◂ 1)) e

pub one_name : One name_at name_then Anything Anything
one_name n k r q p o h i e = let texts : n.text ≡ k.text = cc in (same_text n.text k.text texts, cc)

pub one_case_name : One name_at case_name_then Anything Anything
one_case_name n k r q p o h i e = let texts : n.text ≡ k.text = cc in (same_text n.text k.text texts, cc)

pub one_names : (m : Mark) → NoComma m → (xs ys : List Name) (r q : List Token) → IsFilled xs → IsFilled ys → listed_then name_then m xs r ≡ listed_then name_then m ys q → Same (listed_at name_at) xs ys r q
one_names m no_comma [] ys r q p o e = absurd p
one_names m no_comma (x ∷ xs) [] r q p o e = absurd o
one_names m no_comma (x ∷ xs) (y ∷ ys) r q p o e =
    let a = one_some name_at name_then Anything Anything m one_name (λ c. tt) (λ c. tt) no_comma x y xs ys r q (tt, all_any xs) (tt, all_any ys) e in
    (two (λ f g. without_tokens cons ⊛ f ⊛ g) a.0 a.1.0, a.1.1)

pub one_enclosed_names : (opening m : Mark) → NoComma m → (xs ys : List Name) (r q : List Token) → NoSign opening r → NoSign opening q → enclosed_then name_then opening m xs r ≡ enclosed_then name_then opening m ys q → Same (enclosed_at name_at) xs ys r q
one_enclosed_names opening m no_comma xs ys r q h i e = one_enclosed name_at name_then Anything Anything opening m one_name (λ c. tt) (λ c. tt) no_comma xs ys r q (all_any xs) (all_any ys) h i e

pub one_marked_name : (m : Mark) (x y : Option Name) (r q : List Token) → NoSign m r → NoSign m q → marked_name_then m x r ≡ marked_name_then m y q → Same (marked_at name_at) x y r q
one_marked_name m None None r q h i e = (refl, e)
one_marked_name m None (Some y) r q h i e = absurd (h _ e)
one_marked_name m (Some x) None r q h i e = absurd (i _ (sym e))
one_marked_name m (Some x) (Some y) r q h i e = let a = one_name x y r q tt tt tt tt cc in (ap (λ f. without_tokens (λ z. Some z) ◂ 1 ⊛ f) a.0, a.1)

pub one_states : One states_at states_then IsStates Anything
one_states (s.one n) (s.one k) r q p o h i e = let a = one_name n k r q tt tt tt tt e in (ap (λ f. without_tokens s.one ⊛ f) a.0, a.1)
one_states (s.several ns at) (s.several ks bt) r q p o h i e =
    let a = one_names mark.CloseBrace (λ c. cc) ns ks r q p o cc in (ap (λ f. with_span (without_tokens s.several ◂ 1 ⊛ f)) a.0, a.1)
one_states (s.one n) (s.several ks bt) r q p o h i e = absurd cc
one_states (s.several ns at) (s.one k) r q p o h i e = absurd cc

pub one_at_states : (x y : Option States) (r q : List Token) → IfSome x IsStates → IfSome y IsStates → NoSign mark.At r → NoSign mark.At q → at_states_then x r ≡ at_states_then y q → Same (marked_at states_at) x y r q
one_at_states None None r q p o h i e = (refl, e)
one_at_states None (Some y) r q p o h i e = absurd (h _ e)
one_at_states (Some x) None r q p o h i e = absurd (i _ (sym e))
one_at_states (Some x) (Some y) r q p o h i e = let a = one_states x y r q p o tt tt cc in (ap (λ f. without_tokens (λ z. Some z) ◂ 1 ⊛ f) a.0, a.1)

pub one_key_states : One key_states_at key_states_then IsKeyStates (NoSign mark.At)
one_key_states x y r q p o h i e =
    let a = one_name x.key y.key (at_states_then x.states r) (at_states_then y.states q) tt tt tt tt e in
    let b = one_at_states x.states y.states r q p o h i a.1 in
    (two (λ f g. without_tokens (λ key states. let z : KeyStates = record { key = key; states = states } in z) ⊛ f ⊛ g) a.0 b.0, b.1)

pub one_named : One named_at named_then Anything (NoSign mark.Less)
one_named x y r q p o h i e =
    let a = one_name x.name y.name (enclosed_then name_then mark.Less mark.Greater x.keys r) (enclosed_then name_then mark.Less mark.Greater y.keys q) tt tt tt tt e in
    let b = one_enclosed_names mark.Less mark.Greater (λ c. cc) x.keys y.keys r q h i a.1 in
    (two (λ f g. without_tokens (λ name keys. let z : Named = record { name = name; keys = keys } in z) ⊛ f ⊛ g) a.0 b.0, b.1)

-- ---- types

-- a type goes on with neither
abbrev pub EndsType : List Token → Type 0
EndsType r = NoSign mark.Less r × NoSign mark.Colon r

apart : (ns : List Name) (r q : List Token) → EndsType r → enclosed_then name_then mark.Less mark.Greater ns r ≡ t.sign mark.Colon ∷ q → ⊥
apart [] r q h e = h.1 q e
apart (n ∷ ns) r q h e = cc

pub one_ty : One ty_at ty_then IsTy EndsType
one_ty (s.int at) (s.int bt) r q p o h i e = (refl, cc)
one_ty (s.bool at) (s.bool bt) r q p o h i e = (refl, cc)
one_ty (s.tracked k n at) (s.tracked l m bt) r q p o h i e =
    let a = one_name k l (t.sign mark.CloseParen ∷ named_then n r) (t.sign mark.CloseParen ∷ named_then m q) tt tt tt tt cc in
    let b = one_named n m r q tt tt h.0 i.0 cc in
    (two (λ f g. with_span (without_tokens s.tracked ◂ 2 ⊛ f ◂ 1 ⊛ g)) a.0 b.0, b.1)
one_ty (s.owning x n at) (s.owning y m bt) r q p o h i e =
    let a = one_at_states x y (named_then n r) (named_then m q) p o (λ c f. cc) (λ c f. cc) cc in
    let b = one_named n m r q tt tt h.0 i.0 a.1 in
    (two (λ f g. with_span (without_tokens s.owning ◂ 1 ⊛ f ⊛ g)) a.0 b.0, b.1)
one_ty (s.guarded k n) (s.guarded l m) r q p o h i e =
    let a = one_name k l (t.sign mark.Colon ∷ named_then n r) (t.sign mark.Colon ∷ named_then m q) tt tt tt tt e in
    let b = one_named n m r q tt tt h.0 i.0 cc in
    (two (λ f g. without_tokens s.guarded ⊛ f ◂ 1 ⊛ g) a.0 b.0, b.1)
one_ty (s.plain n) (s.plain m) r q p o h i e = let b = one_named n m r q tt tt h.0 i.0 e in (ap (λ f. without_tokens s.plain ⊛ f) b.0, b.1)
one_ty (s.guarded k n) (s.plain m) r q p o h i e = absurd (apart m.keys q (named_then n r) i cc)
one_ty (s.plain m) (s.guarded k n) r q p o h i e = absurd (apart m.keys r (named_then n q) h cc)
one_ty (s.tracked k n at) (s.owning None m bt) r q p o h i e = absurd cc
one_ty (s.tracked k n at) (s.owning (Some ss) m bt) r q p o h i e = absurd cc
one_ty (s.owning None m bt) (s.tracked k n at) r q p o h i e = absurd cc
one_ty (s.owning (Some ss) m bt) (s.tracked k n at) r q p o h i e = absurd cc
one_ty _ _ r q p o h i e = absurd cc
