-- What stands in a place of the interface, and whose it is: the tables of the code and the definitions say the same.
use Rattle.std.proofs.Common.{◌≡◌, ℕ, Bool, true, false, true≢false, not, ◌&&◌, ◌||◌, if◌then◌else◌, List, [], ◌∷◌, ◌++◌, map, length, drop, Option, Some, None, option_map, unwrap_or, refl, sym, ap, ap₂, ◌∙◌, subst, arith}
use Rattle.std.proofs.lemmas.List.{append_assoc, drop_at, length-map, drop-map}
use Rattle.std.proofs.lemmas.List.Folds.{list_any-append}
use Rattle.std.specs.List.{find, list_any}
use Rattle.std.specs.Str.{bytes_eq}
use Rattle.std.proofs.lemmas.Slice.Eq.{bytes_eq-Decides}
use Rattle.vlt_base.specs.Limits.{limit_of}
use Rattle.vlt_base.specs.declared.limits.TheConstants.{SOURCE_BYTES}
use Rattle.vlt_base.specs.declared.places.Span.{Span}
use Rattle.vlt_syntax.specs.Tree as s
use Rattle.vlt_syntax.specs.Tree.{Decl}
use Rattle.vlt_syntax_copies.specs.Mapped.{mapped_decl}
use Rattle.vlt_syntax_copies.specs.Raised.{raised, raised_span}
use Rattle.vlt_syntax_copies.specs.Shifted.{shifted, shifted_span}
use Rattle.vlt_syntax_copies.specs.Within.{AreWithin}
use Rattle.vlt_syntax_copies.proofs.Near.{near_is_raised}
use Rattle.vlt_iface.specs.declared.places.TheConstants.{RAISE}
use Rattle.vlt_iface.specs.View.{View, gives, is_placed, with_given, others, view_decls, origin_of, origins_in}
use Rattle.vlt_kinds_types.specs.declared.names.found.Refusal.{Refusal}
use Rattle.vlt_kinds_types.specs.Names.Refusals.{of_each, found_each, least}
use Rattle.vlt_kinds_types.proofs.OfNames.Least.{each_is}
use Rattle.vlt_iface.specs.Rules.{given_refused}
use Rattle.vlt_iface.specs.Seen.{tree_with}
use Rattle.vlt_iface.specs.Given.{Key, struct, function, nothing, given_key, wanted_key, same_key, standing, refused_with, refused_in, others_by}
use Rattle.vlt_iface.proofs.Giving.{found_mapped, others_step}

each_alike : {A B : Type 0} (f g : A → B) → ((x : A) → f x ≡ g x) → (xs : List A) → map f xs ≡ map g xs
each_alike f g same [] = refl
each_alike f g same (x ∷ xs) = ap₂ (λ y ys. y ∷ ys) (same x) (each_alike f g same xs)

-- ---- what gives the same

pub bytes_swap : (a b : List ℕ) → bytes_eq a b ≡ bytes_eq b a
bytes_swap a b = by (bytes_eq a b) refl (bytes_eq b a) refl
  where
    never : (x y : List ℕ) → bytes_eq x y ≡ true → bytes_eq y x ≡ false → ⊥
    never x y e f =
        let same : x ≡ y = (bytes_eq-Decides x y).0 e in
        let yes : bytes_eq x x ≡ true = subst (λ z. bytes_eq x z ≡ true) (sym same) e in
        let no : bytes_eq x x ≡ false = subst (λ z. bytes_eq z x ≡ false) (sym same) f in
        true≢false (sym yes ∙ no)

    by : (p : Bool) → bytes_eq a b ≡ p → (q : Bool) → bytes_eq b a ≡ q → p ≡ q
    by true e true f = refl
    by true e false f = absurd (never a b e f)
    by false e true f = absurd (never b a f e)
    by false e false f = refl

pub gives_key : (i d : Decl) → gives i d ≡ same_key (wanted_key i) (given_key d)
gives_key (s.stateset x xs xat) (s.stateset y ys yat) = refl
gives_key (s.stateset x xs xat) (s.abstract y ys yat) = refl
gives_key (s.stateset x xs xat) (s.struct y yp ys yf yr yat) = refl
gives_key (s.stateset x xs xat) (s.variant y yp yc yat) = refl
gives_key (s.stateset x xs xat) (s.extern y yat) = refl
gives_key (s.stateset x xs xat) (s.function y yb yat) = refl
gives_key (s.abstract x xs xat) (s.stateset y ys yat) = refl
gives_key (s.abstract x xs xat) (s.abstract y ys yat) = refl
gives_key (s.abstract x xs xat) (s.struct y yp ys yf yr yat) = refl
gives_key (s.abstract x xs xat) (s.variant y yp yc yat) = refl
gives_key (s.abstract x xs xat) (s.extern y yat) = refl
gives_key (s.abstract x xs xat) (s.function y yb yat) = refl
gives_key (s.struct x xp xs xf xr xat) (s.stateset y ys yat) = refl
gives_key (s.struct x xp xs xf xr xat) (s.abstract y ys yat) = refl
gives_key (s.struct x xp xs xf xr xat) (s.struct y yp ys yf yr yat) = refl
gives_key (s.struct x xp xs xf xr xat) (s.variant y yp yc yat) = refl
gives_key (s.struct x xp xs xf xr xat) (s.extern y yat) = refl
gives_key (s.struct x xp xs xf xr xat) (s.function y yb yat) = refl
gives_key (s.variant x xp xc xat) (s.stateset y ys yat) = refl
gives_key (s.variant x xp xc xat) (s.abstract y ys yat) = refl
gives_key (s.variant x xp xc xat) (s.struct y yp ys yf yr yat) = refl
gives_key (s.variant x xp xc xat) (s.variant y yp yc yat) = refl
gives_key (s.variant x xp xc xat) (s.extern y yat) = refl
gives_key (s.variant x xp xc xat) (s.function y yb yat) = refl
gives_key (s.extern x xat) (s.stateset y ys yat) = refl
gives_key (s.extern x xat) (s.abstract y ys yat) = refl
gives_key (s.extern x xat) (s.struct y yp ys yf yr yat) = refl
gives_key (s.extern x xat) (s.variant y yp yc yat) = refl
gives_key (s.extern x xat) (s.extern y yat) = refl
gives_key (s.extern x xat) (s.function y yb yat) = refl
gives_key (s.function x xb xat) (s.stateset y ys yat) = refl
gives_key (s.function x xb xat) (s.abstract y ys yat) = refl
gives_key (s.function x xb xat) (s.struct y yp ys yf yr yat) = refl
gives_key (s.function x xb xat) (s.variant y yp yc yat) = refl
gives_key (s.function x xb xat) (s.extern y yat) = refl
gives_key (s.function x xb xat) (s.function y yb yat) = refl

key_alike : (a b c : Key) → same_key a c ≡ true → same_key a b ≡ same_key b c
key_alike nothing b c e = absurd (true≢false (sym e))
key_alike (struct n) b (function k) e = absurd (true≢false (sym e))
key_alike (struct n) b nothing e = absurd (true≢false (sym e))
key_alike (function n) b (struct k) e = absurd (true≢false (sym e))
key_alike (function n) b nothing e = absurd (true≢false (sym e))
key_alike (struct n) (struct j) (struct k) e = ap (λ z. bytes_eq z j) ((bytes_eq-Decides n k).0 e) ∙ bytes_swap k j
key_alike (struct n) (function j) (struct k) e = refl
key_alike (struct n) nothing (struct k) e = refl
key_alike (function n) (function j) (function k) e = ap (λ z. bytes_eq z j) ((bytes_eq-Decides n k).0 e) ∙ bytes_swap k j
key_alike (function n) (struct j) (function k) e = refl
key_alike (function n) nothing (function k) e = refl

alike : (i d x : Decl) → gives i x ≡ true → gives i d ≡ same_key (given_key d) (given_key x)
alike i d x e = gives_key i d ∙ key_alike (wanted_key i) (given_key d) (given_key x) (sym (gives_key i x) ∙ e)

-- ---- the others

turn : (given all more placed same : Bool) → (given ≡ true → more ≡ same) →
    ((given && not (all || (more || false))) || (placed && not same)) ≡ (((given && not all) || placed) && not same)
turn false all more placed same go = refl
turn true all more placed same go = ap (λ b. not (all || (b || false)) || (placed && not same)) (go refl) ∙ by all placed same
  where
    by : (a p b : Bool) → (not (a || (b || false)) || (p && not b)) ≡ ((not a || p) && not b)
    by true true true = refl
    by true true false = refl
    by true false true = refl
    by true false false = refl
    by false true true = refl
    by false true false = refl
    by false false true = refl
    by false false false = refl

-- one declaration more is before it
placed_more : (is before : List Decl) (d x : Decl) → is_placed is (before ++ d ∷ []) x ≡ (is_placed is before x && not (same_key (given_key d) (given_key x)))
placed_more [] before d x = refl
placed_more (i ∷ is) before d x =
    ap₂ (λ a b. (gives i x && not a) || b) (list_any-append (gives i) before (d ∷ [])) (placed_more is before d x) ∙
    turn (gives i x) (list_any (gives i) before) (gives i d) (is_placed is before x) (same_key (given_key d) (given_key x)) (alike i d x)

module _ (go : Span → Span) where
  others_are : (is before : List Decl) (wanted : Key → Bool) (ds : List Decl) → ((x : Decl) → wanted (given_key x) ≡ is_placed is before x) →
      map (mapped_decl go) (others_by wanted ds) ≡ others is (map (mapped_decl go) before) (map (mapped_decl go) ds)
  others_are is before wanted [] same = refl
  others_are is before wanted (d ∷ ds) same =
      let left : Key → Bool = λ k. wanted k && not (same_key (given_key d) k) in
      let still : (x : Decl) → left (given_key x) ≡ is_placed is (before ++ d ∷ []) x = λ x. ap (λ b. b && not (same_key (given_key d) (given_key x))) (same x) ∙ sym (placed_more is before d x) in
      by (wanted (given_key d)) (others_by left ds) ∙
      (ap₂ (λ (b : Bool) rest. if b then rest else mapped_decl go d ∷ rest) (same d) (others_are is (before ++ d ∷ []) left ds still) ∙
      sym (others_step go is before d ds))
    where
      by : (b : Bool) (rest : List Decl) → map (mapped_decl go) (if b then rest else d ∷ rest) ≡ (if b then map (mapped_decl go) rest else mapped_decl go d ∷ map (mapped_decl go) rest)
      by true rest = refl
      by false rest = refl

others_alike : (a b : Key → Bool) → ((k : Key) → a k ≡ b k) → (ds : List Decl) → others_by a ds ≡ others_by b ds
others_alike a b same [] = refl
others_alike a b same (d ∷ ds) =
    let left : (Key → Bool) → Key → Bool = λ w k. w k && not (same_key (given_key d) k) in
    ap₂ (λ (x : Bool) rest. if x then rest else d ∷ rest) (same (given_key d))
    (others_alike (left a) (left b) (λ k. ap (λ x. x && not (same_key (given_key d) k)) (same k)) ds)

-- one more turn over a module's declarations
pub next_other : (before after : Key → Bool) (d : Decl) (ds done made : List Decl) →
    made ≡ done ++ (if before (given_key d) then [] else shifted RAISE d ∷ []) →
    ((k : Key) → after k ≡ (before k && not (same_key (given_key d) k))) →
    made ++ map (shifted RAISE) (others_by after ds) ≡ done ++ map (shifted RAISE) (others_by before (d ∷ ds))
next_other before after d ds done made is left =
    let rest : List Decl = others_by (λ k. before k && not (same_key (given_key d) k)) ds in
    ap₂ (λ xs ys. xs ++ map (shifted RAISE) ys) is (others_alike after (λ k. before k && not (same_key (given_key d) k)) left ds) ∙ by (before (given_key d)) rest
  where
    by : (b : Bool) (rest : List Decl) → (done ++ (if b then [] else shifted RAISE d ∷ [])) ++ map (shifted RAISE) rest ≡ done ++ map (shifted RAISE) (if b then rest else d ∷ rest)
    by true rest = append_assoc done [] (map (shifted RAISE) rest)
    by false rest = append_assoc done (shifted RAISE d ∷ []) (map (shifted RAISE) rest)

any_placed : (is : List Decl) (x : Decl) → list_any (λ i. same_key (wanted_key i) (given_key x)) is ≡ is_placed is [] x
any_placed [] x = refl
any_placed (i ∷ is) x = ap₂ (λ a b. a || b) (sym (gives_key i x) ∙ by (gives i x)) (any_placed is x)
  where
    by : (b : Bool) → b ≡ (b && true)
    by true = refl
    by false = refl

-- ---- the tables of the code

module _ (giver : Decl → Option Decl) (ms : List Decl) (has : (i : Decl) → giver i ≡ find (gives i) ms) where
  stands : (i : Decl) → standing giver i ≡ unwrap_or (find (gives i) (map (shifted RAISE) ms)) i
  stands i = ap (λ o. unwrap_or o i) (ap (option_map (shifted RAISE)) (has i) ∙ sym (found_mapped (shifted_span RAISE) i ms))

  pub view_is : (is : List Decl) (wanted : Key → Bool) → ((k : Key) → wanted k ≡ list_any (λ i. same_key (wanted_key i) k) is) → AreWithin (limit_of SOURCE_BYTES) (tree_with ms) →
      map (standing giver) is ++ map (shifted RAISE) (others_by wanted ms) ≡ view_decls is (map (raised RAISE) ms)
  view_is is wanted wants within =
      ap₂ (λ xs ys. xs ++ ys) (each_alike (standing giver) (λ i. unwrap_or (find (gives i) (map (shifted RAISE) ms)) i) stands is)
      (others_are (shifted_span RAISE) is [] wanted ms (λ x. wants (given_key x) ∙ any_placed is x)) ∙
      ap (view_decls is) (near_is_raised RAISE (limit_of SOURCE_BYTES) (tree_with ms) within (omega arith))

  pub decls_made : (is : List Decl) (wanted : Key → Bool) → ((k : Key) → wanted k ≡ list_any (λ i. same_key (wanted_key i) k) is) → AreWithin (limit_of SOURCE_BYTES) (tree_with ms) →
      (start some made gs : List Decl) → start ≡ [] → some ≡ start ++ map (standing giver) is → gs ≡ ms → made ≡ some ++ map (shifted RAISE) (others_by wanted gs) →
      made ≡ view_decls is (map (raised RAISE) ms)
  decls_made is wanted wants within start some made gs none first all second =
      second ∙
      (ap₂ (λ xs ys. xs ++ map (shifted RAISE) (others_by wanted ys)) (first ∙ ap (λ xs. xs ++ map (standing giver) is) none) all ∙
      view_is is wanted wants within)

  origin_is : (i : Decl) → origin_of (giver i) ≡ origin_of (find (gives i) (map (raised RAISE) ms))
  origin_is i = ap origin_of (has i) ∙ (by (find (gives i) ms) ∙ ap origin_of (sym (found_mapped (raised_span RAISE) i ms)))
    where
      by : (o : Option Decl) → origin_of o ≡ origin_of (option_map (raised RAISE) o)
      by None = refl
      by (Some d) = refl

  refused_is : (i : Decl) → refused_in giver i ≡ given_refused ms i
  refused_is i = ap (refused_with i) (has i) ∙ by (find (gives i) ms) refl
    where
      by : (o : Option Decl) → find (gives i) ms ≡ o → refused_with i (find (gives i) ms) ≡ given_refused ms i
      by None e = rw e refl
      by (Some d) e = rw e refl

  pub refused_least : (is : List Decl) → found_each (refused_in giver) is None ≡ least (of_each (given_refused ms) is)
  refused_least is = sym (each_is (refused_in giver) is None) ∙ ap least (each is)
    where
      each : (is : List Decl) → of_each (refused_in giver) is ≡ of_each (given_refused ms) is
      each [] = refl
      each (i ∷ is) = ap₂ (λ x y. x ++ y) (refused_is i) (each is)

  -- the view that is made of its parts
  pub view_made : {X : Type 0} (see : X → Decl) (wanted made all rest : List X) (os : List ℕ) → all ≡ made →
      map see made ≡ view_decls (map see wanted) (map (raised RAISE) ms) → rest ≡ drop (length wanted) all →
      os ≡ map (λ i. origin_of (giver i)) (map see wanted) ++ map (λ d. 1) (map see rest) →
      (let x : View = record { tree = record { decls = map see made }; origins = os } in x) ≡
      (let y : View = record { tree = record { decls = view_decls (map see wanted) (map (raised RAISE) ms) }; origins = origins_in (map see wanted) (map (raised RAISE) ms) } in y)
  view_made see wanted made all rest os a decls after origins =
      ap₂ (λ ds os. let x : View = record { tree = record { decls = ds }; origins = os } in x) decls
      (origins ∙ ap₂ (λ xs ds. xs ++ map (λ d. 1) ds)
      (each_alike (λ i. origin_of (giver i)) (λ i. origin_of (find (gives i) (map (raised RAISE) ms))) origin_is (map see wanted)) others_after)
    where
      others_after : map see rest ≡ others (map see wanted) [] (map (raised RAISE) ms)
      others_after =
          ap (map see) (after ∙ ap (drop (length wanted)) a) ∙
          (sym (drop-map see (length wanted) made) ∙
          (ap (λ n. drop n (map see made)) (sym (length-map wanted see)) ∙
          (ap (drop (length (map see wanted))) decls ∙
          drop_at (with_given (map see wanted) (map (raised RAISE) ms)) (others (map see wanted) [] (map (raised RAISE) ms)) (length (map see wanted)) (length-map (map see wanted) (λ i. unwrap_or (find (gives i) (map (raised RAISE) ms)) i)))))

pub least_is : {A : Type 0} (f : A → List Refusal) (xs : List A) → found_each f xs None ≡ least (of_each f xs)
least_is f xs = sym (each_is f xs None)
