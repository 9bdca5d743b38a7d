-- Where the automaton is alive, some tree of the language goes on.
use Rattle.std.proofs.Common.{◌≡◌, ℕ, false, List, [], ◌∷◌, ◌++◌, sym, ap, subst, ◌∙◌}
use Rattle.vlt_base.specs.declared.places.Span.{Span}
use Rattle.vlt_syntax.specs.Tokens.{Token}
use Rattle.vlt_syntax.specs.Tree.{Tree}
use Rattle.vlt_syntax.specs.Lists.{each_then}
use Rattle.vlt_syntax.specs.Spelling.{spelling, decl_then}
use Rattle.vlt_syntax.specs.Grammar.{IsTree, Bounds}
use Rattle.vlt_automaton.specs.Automaton.{Left, Symbol, may_end, decls, Reaction, take, skip, refuse, exceed, Next, to, next_after, step, step_after, depth_read, reaction_after}
use Rattle.vlt_syntax_laws.proofs.After.{after}
use Rattle.vlt_syntax_laws.proofs.Back.{Rest, Spells}
use Rattle.vlt_syntax_laws.proofs.Whole.{Backs, parted, some_spelling}
use Rattle.vlt_syntax_laws.proofs.Backs.{backs}
use Rattle.vlt_syntax_laws.proofs.After.{IsTo, on_alive, on_front}
use Rattle.vlt_syntax_laws.proofs.Decls.{take_tree}
use Rattle.vlt_syntax_laws.proofs.Wider.{wider}

pub took : (s q : List Symbol) → to s ≡ to q → s ≡ q
took s q e = cc

settled_back : (extra : Bounds) (d : ℕ) (y : Symbol) (s q : List Symbol) (K : Rest) (x : Token) (c : List Token) (r : Reaction) (below : Unit {0} → Next)
    → Backs extra d y (λ n z. Spells extra n s K z) x c r → (below tt ≡ to q → Spells extra (depth_read y) s K (x ∷ c)) → next_after r s below ≡ to q → Spells extra 0 q K c → Spells extra d (y ∷ s) K (x ∷ c)
settled_back extra d y s q K x c (take xs) below b p e k = b (parted extra 0 xs s K c (subst (λ z. Spells extra 0 z K c) (sym (took _ q e)) k))
settled_back extra d y s q K x c skip below b p e k = b (p e)
settled_back extra d y s q K x c refuse below b p e k = absurd cc
settled_back extra d y s q K x c (exceed n) below b p e k = absurd cc

pub step_back : (extra : Bounds) (at : Span) (d : ℕ) (s q : List Symbol) (K : Rest) (x : Token) (c : List Token) → step_after (wider extra) d s x ≡ to q → Spells extra 0 q K c → Spells extra d s K (x ∷ c)
step_back extra at d [] q K x c e k = absurd cc
step_back extra at d (y ∷ s) q K x c e k =
    settled_back extra d y s q K x c (reaction_after (wider extra) d y x) (λ u. step_after (wider extra) (depth_read y) s x) (backs extra at d y (λ n z. Spells extra n s K z) x c) (λ i. step_back extra at (depth_read y) s q K x c i k) e k

abbrev pub End : Rest
End n ts = ts ≡ []

alive : (extra : Bounds) (at : Span) (ts : List Token) (s : List Symbol) → IsTo (after (wider extra) ts s) → (c : List Token) × (Spells extra) 0 s End (ts ++ c)
alive extra at [] s h = some_spelling extra at s 0
alive extra at (x ∷ xs) s h =
    on_alive ((c : List Token) × (Spells extra) 0 s End (x ∷ xs ++ c)) (after (wider extra) xs) (step (wider extra) s x)
    (λ z e k. let r = alive extra at xs z k in (r.0, step_back extra at 0 s z End x (xs ++ r.0) e r.1)) h

-- law B: the automaton goes on only where some tree of the language does
pub goes_on : (extra : Bounds) (at : Span) (ts : List Token) → IsTo (after (wider extra) ts (decls (record { limit = 4; more = (wider extra).decls }) ∷ [])) → (x : Tree) × (more : List Token) × IsTree (wider extra) x × (spelling x ≡ ts ++ more)
goes_on extra at ts h =
    let a = alive extra at ts (decls (record { limit = 4; more = (wider extra).decls }) ∷ []) h in
    let w = a.1 in
    (record { decls = w.0 }, a.0, (w.2, w.3), ap (each_then decl_then w.0) (sym w.5) ∙ sym w.4)

front_alive : (extra : Bounds) (xs ys : List Token) (s : List Symbol) → IsTo (after (wider extra) (xs ++ ys) s) → IsTo (after (wider extra) xs s)
front_alive extra [] ys s h = tt
front_alive extra (x ∷ xs) ys s h = on_front (after (wider extra) (xs ++ ys)) (after (wider extra) xs) (step (wider extra) s x) (λ z k. front_alive extra xs ys z k) h

to_is : (n : Next) (m : Left) → n ≡ to (decls m ∷ []) → IsTo n
to_is n m e = subst IsTo (sym e) tt

-- law A with B: the automaton goes on exactly where some tree of the language does
pub goes_back : (extra : Bounds) (ts : List Token) → (x : Tree) × (more : List Token) × IsTree (wider extra) x × (spelling x ≡ ts ++ more) → IsTo (after (wider extra) ts (decls (record { limit = 4; more = (wider extra).decls }) ∷ []))
goes_back extra ts (x, more, is, e) =
    let t = take_tree extra x is in
    front_alive extra ts more _ (subst (λ zs. IsTo (after (wider extra) zs (decls (record { limit = 4; more = (wider extra).decls }) ∷ []))) e (to_is _ t.0 t.1))

-- where the tokens end too soon, no tree of the language is spelled so
pub cut_short : (extra : Bounds) (ts : List Token) (s : List Symbol) → after (wider extra) ts (decls (record { limit = 4; more = (wider extra).decls }) ∷ []) ≡ to s → may_end s ≡ false → (x : Tree) → IsTree (wider extra) x → spelling x ≡ ts → ⊥
cut_short extra ts s e wants x is same =
    let t = take_tree extra x is in
    let one : (after (wider extra)) ts (decls (record { limit = 4; more = (wider extra).decls }) ∷ []) ≡ to (decls t.0 ∷ []) = subst (λ zs. after (wider extra) zs (decls (record { limit = 4; more = (wider extra).decls }) ∷ []) ≡ to (decls t.0 ∷ [])) same t.1 in
    let stack : s ≡ decls t.0 ∷ [] = took s (decls t.0 ∷ []) (sym e ∙ one) in
    let ends : may_end (decls t.0 ∷ []) ≡ false = subst (λ z. may_end z ≡ false) stack wants in
    cc
