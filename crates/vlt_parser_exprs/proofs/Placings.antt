-- Lists whose things are read one by one stand where they are read.
use Rattle.std.proofs.Common.{◌≡◌, ℕ, ◌+◌, List, [], ◌∷◌, ◌++◌, sym, ap, ◌∙◌, subst, map, append_assoc, ◌≤◌, length, arith}
use Rattle.vlt_tokens.specs.declared.token.Token.{Token as CodeToken}
use Rattle.vlt_syntax.specs.Places.{Placing, each_at, further_at, listed_at}
use Rattle.vlt_parser_exprs.specs.Reading.{spans, Stands}
use Rattle.vlt_parser_exprs.proofs.Separated.{pushed}

-- where one thing stands, and then the others
first_of_list : {X : Type 0} (place : X → Placing X) (tokens : List CodeToken) (i j k : ℕ) (x : X) (xs : List X) → Stands place tokens i x j → Stands (further_at place) tokens j xs k → Stands (listed_at place) tokens i (x ∷ xs) k
first_of_list place tokens i j k x xs here following =
    ap (λ a. let b = further_at place xs (spans tokens) a.1 in (a.0 ∷ b.0, b.1)) here ∙ ap (λ b. (x ∷ b.0, b.1)) following

-- the rest of the list stands from the second position on, the whole from the first
abbrev pub StandsOn : {X : Type 0} → (X → Placing X) → List CodeToken → ℕ → List X → ℕ → Type 0
StandsOn {X} place tokens at items here = (x : X) (xs : List X) (next : ℕ) → Stands (listed_at place) tokens here (x ∷ xs) next → Stands (listed_at place) tokens at (items ++ x ∷ xs) next

-- one more thing and a comma were read
pub stands_on : {X : Type 0} (place : X → Placing X) (tokens : List CodeToken) (at here following next : ℕ) (all items : List X) (item : X)
    → all ≡ items ++ item ∷ [] → StandsOn place tokens at items here → Stands place tokens here item following → next ≡ following + 1 → StandsOn place tokens at all next
stands_on place tokens at here following next all items item grown before is_item is_comma x xs k rest =
    let further : Stands (further_at place) tokens following (x ∷ xs) k = subst (λ n. Stands (listed_at place) tokens n (x ∷ xs) k) is_comma rest in
    subst (λ ys. Stands (listed_at place) tokens at ys k) (sym (append_assoc items (item ∷ []) (x ∷ xs)) ∙ ap (λ ys. ys ++ x ∷ xs) (sym grown))
    (before item (x ∷ xs) k (first_of_list place tokens here following k item (x ∷ xs) is_item further))

-- the last thing and the closing sign were read
pub stands_whole : {X : Type 0} (place : X → Placing X) (tokens : List CodeToken) (at here following next : ℕ) (all items : List X) (item : X)
    → all ≡ items ++ item ∷ [] → StandsOn place tokens at items here → Stands place tokens here item following → next ≡ following + 1 → Stands (listed_at place) tokens at all next
stands_whole {X = X} place tokens at here following next all items item grown before is_item is_closing =
    let none : List X = [] in
    let closed : Stands (further_at place) tokens following none next = ap (λ n. (none, n)) (sym is_closing) in
    subst (λ ys. Stands (listed_at place) tokens at ys next) (sym grown) (before item [] next (first_of_list place tokens here following next item [] is_item closed))

-- ---- things that stand one after another

pub parts : {X Y : Type 0} (p : X × Y) (x : X) (y : Y) → (let q : X × Y = (x, y) in p ≡ q) → (p.0 ≡ x) × (p.1 ≡ y)
parts p x y e = (ap (λ p. p.0) e, ap (λ p. p.1) e)

same_cons : {X : Type 0} (x y : X) (xs ys : List X) → x ∷ xs ≡ y ∷ ys → (x ≡ y) × (xs ≡ ys)
same_cons x y xs ys e = (cc, cc)

pub both : {X Y : Type 0} (p : X × Y) (x : X) (y : Y) → p.0 ≡ x → p.1 ≡ y → (let q : X × Y = (x, y) in p ≡ q)
both p x y a b = ap (λ z. (z, p.1)) a ∙ ap (λ z. (x, z)) b

each_append : {X : Type 0} (place : X → Placing X) (tokens : List CodeToken) (xs : List X) (x : X) (i j k : ℕ) → Stands (each_at place) tokens i xs j → Stands place tokens j x k → Stands (each_at place) tokens i (xs ++ x ∷ []) k
each_append place tokens [] x i j k e last =
    let same : i ≡ j = ap (λ p. p.1) e in
    ap (λ a. (a.0 ∷ [], a.1)) (ap (λ n. place x (spans tokens) n) same ∙ last)
each_append place tokens (y ∷ ys) x i j k e last =
    let a = place y (spans tokens) i in
    let b = each_at place ys (spans tokens) a.1 in
    let p = parts (each_at place (y ∷ ys) (spans tokens) i) (y ∷ ys) j e in
    let q = same_cons a.0 y b.0 ys p.0 in
    let rest = each_append place tokens ys x a.1 j k (both b ys j q.1 p.1) last in
    ap (λ z. (z ∷ (each_at place (ys ++ x ∷ []) (spans tokens) a.1).0, (each_at place (ys ++ x ∷ []) (spans tokens) a.1).1)) q.0 ∙ ap (λ r. (y ∷ r.0, r.1)) rest

-- one more thing was read
pub one_more_stands : {X Y : Type 0} (view : X → Y) (place : Y → Placing Y) (tokens : List CodeToken) (all items : List X) (item : X) (at here following : ℕ)
    → all ≡ items ++ item ∷ [] → Stands (each_at place) tokens at (map view items) here → Stands place tokens here (view item) following → Stands (each_at place) tokens at (map view all) following
one_more_stands view place tokens all items item at here following grown before is_item =
    subst (λ ys. Stands (each_at place) tokens at ys following) (sym (pushed view all items item grown)) (each_append place tokens (map view items) (view item) at here following before is_item)

-- what stands up to a position at the end stands up to the end
pub stands_end : {X : Type 0} (place : X → Placing X) (tokens : List CodeToken) (at here : ℕ) (x : X) → Stands place tokens at x here → here ≤ length tokens → length tokens ≤ here → Stands place tokens at x (length tokens)
stands_end place tokens at here x is within over = let same : here ≡ length tokens = omega (arith, within, over) in subst (λ n. Stands place tokens at x n) same is
