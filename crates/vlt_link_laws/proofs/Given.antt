-- What a declaration gives, and what the one gives that stands for it.
use Rattle.std.proofs.Common.{◌≡◌, inl, inr, Bool, true, false, if◌then◌else◌, List, [], ◌∷◌, Option, Some, None, refl, sym, ap, subst}
use Rattle.std.specs.Str.{bytes_eq}
use Rattle.std.proofs.lemmas.Slice.Eq.{bytes_eq-Decides}
use Rattle.vlt_syntax.specs.Tree as s
use Rattle.vlt_syntax.specs.Tree.{Name, States, HeaderKey, Field, Head, Block, Decl}
use Rattle.vlt_syntax.specs.Lists.{Each}
use Rattle.vlt_base.specs.declared.places.Span.{Span}
use Rattle.vlt_kinds_types.specs.declared.names.globals.Entity.{Entity}
use Rattle.vlt_kinds_types.specs.Names.Refusals.{of_each}
use Rattle.vlt_kinds_types.specs.Names.Globals.{decl_name, Counts, global_of, counts_after}
use Rattle.vlt_link_laws.specs.Moves.Joins.{Joins, befores}
use Rattle.vlt_link_laws.proofs.OfMoves.Empty.{no_left, no_right, none_of_both}
use Rattle.vlt_link_laws.proofs.OfMoves.Joins.{Gives, GivesBoth, JoinGives}
use Rattle.vlt_link_laws.proofs.OfMoves.Names.{first_in}
use Rattle.vlt_link_laws.proofs.Fits.{IsGiven, FitsIf, Fits}

-- ---- facts of lists

pub each_both : {X : Type 0} {P Q R : X → Type 0} → ((x : X) → P x → Q x → R x) → (xs : List X) → Each P xs → Each Q xs → Each R xs
each_both go [] ps qs = tt
each_both go (x ∷ xs) ps qs = (go x ps.0 qs.0, each_both go xs ps.1 qs.1)

pub each_map : {X : Type 0} {P R : X → Type 0} → ((x : X) → P x → R x) → (xs : List X) → Each P xs → Each R xs
each_map go [] ps = tt
each_map go (x ∷ xs) ps = (go x ps.0, each_map go xs ps.1)

pub each_none : {X A : Type 0} (f : X → List A) (xs : List X) → of_each f xs ≡ [] → Each (λ x. f x ≡ []) xs
each_none f [] none = tt
each_none f (x ∷ xs) none = (no_left (f x) _ none, each_none f xs (no_right (f x) _ none))

pub none_each : {X A : Type 0} (f : X → List A) (xs : List X) → Each (λ x. f x ≡ []) xs → of_each f xs ≡ []
none_each f [] all = refl
none_each f (x ∷ xs) all = none_of_both _ _ all.0 (none_each f xs all.1)

-- ---- facts of what stands before

abbrev pub IfSome : (Decl → Type 0) → Option Decl → Type 0
IfSome P None = Unit {0}
IfSome P (Some d) = P d

pub each_before : (P : Decl → Type 0) (js : Joins) → Each P (befores js) → Each (λ j. IfSome P j.before) js
each_before P [] all = tt
each_before P (j ∷ js) all = by j.before j.after (each_before P js) all
  where
    by : (o : Option Decl) (e : Decl) → (Each P (befores js) → Each (λ j. IfSome P j.before) js) → Each P (befores (record { before = o; after = e } ∷ js)) → IfSome P o × Each (λ j. IfSome P j.before) js
    by None e rest all = (tt, rest all)
    by (Some d) e rest all = (all.0, rest all.1)

-- each declaration's name is known
pub each_named : (c : Counts) (ds : List Decl) → Each (λ d. (g : Entity) × (first_in c ds (decl_name d).text ≡ Some g)) ds
each_named c [] = tt
each_named c (d ∷ ds) = ((global_of c d, ap (λ b. if b then Some (global_of c d) else first_in (counts_after c d) ds (decl_name d).text) ((bytes_eq-Decides (decl_name d).text (decl_name d).text).1 refl)), each_map further ds (each_named (counts_after c d) ds))
  where
    further : (x : Decl) → ((g : Entity) × (first_in (counts_after c d) ds (decl_name x).text ≡ Some g)) → (g : Entity) × (first_in c (d ∷ ds) (decl_name x).text ≡ Some g)
    further x h = by (bytes_eq (decl_name x).text (decl_name d).text)
      where
        by : (b : Bool) → (g : Entity) × ((if b then Some (global_of c d) else first_in (counts_after c d) ds (decl_name x).text) ≡ Some g)
        by true = (global_of c d, refl)
        by false = h

-- ---- the two ways to be given

pub given_elim : (C : Decl → Decl → Type 0) →
    ((n : Name) (ss : Option Name) (at : Span) (k : Name) (ps : List HeaderKey) (rs : Option Name) (fs : List Field) (r : Option States) (kat : Span) → IsGiven (s.abstract n ss at) (s.struct k ps rs fs r kat) → C (s.abstract n ss at) (s.struct k ps rs fs r kat)) →
    ((h : Head) (at : Span) (g : Head) (b : Block) (gat : Span) → IsGiven (s.extern h at) (s.function g b gat) → C (s.extern h at) (s.function g b gat)) →
    (d e : Decl) → IsGiven d e → C d e
given_elim C one two (s.stateset n ss at) e g = absurd g
given_elim C one two (s.struct n ps ss fs r at) e g = absurd g
given_elim C one two (s.variant n ps cs at) e g = absurd g
given_elim C one two (s.function h b at) e g = absurd g
given_elim C one two (s.abstract n ss at) (s.struct k ps rs fs r kat) g = one n ss at k ps rs fs r kat g
given_elim C one two (s.abstract n ss at) (s.stateset k ks kat) g = absurd g
given_elim C one two (s.abstract n ss at) (s.abstract k ks kat) g = absurd g
given_elim C one two (s.abstract n ss at) (s.variant k ps cs kat) g = absurd g
given_elim C one two (s.abstract n ss at) (s.extern k kat) g = absurd g
given_elim C one two (s.abstract n ss at) (s.function k b kat) g = absurd g
given_elim C one two (s.extern h at) (s.function k b kat) g = two h at k b kat g
given_elim C one two (s.extern h at) (s.stateset k ks kat) g = absurd g
given_elim C one two (s.extern h at) (s.abstract k ks kat) g = absurd g
given_elim C one two (s.extern h at) (s.struct k ps rs fs r kat) g = absurd g
given_elim C one two (s.extern h at) (s.variant k ps cs kat) g = absurd g
given_elim C one two (s.extern h at) (s.extern k kat) g = absurd g

-- ---- what is given on both sides

module _ {X Y : Type 0} (P : X → Y → Type 0) (f : Decl → List X) (g : Decl → List Y) (is : Decl → Bool) (Fine : Decl → Type 0) where
  abbrev pub Both : Decl → Decl → Type 0
  Both d e = GivesBoth P (is e) (f d) (g e)

  abbrev pub ForGiven : Decl → Decl → Type 0
  ForGiven d e = Fine d → GivesBoth P (is e) (f d) (g e)

  module _ (new : (e : Decl) → Gives (is e) (g e)) (self : (d : Decl) → Fine d → Both d d) (given : (d e : Decl) → IsGiven d e → ForGiven d e) where
    one : (o : Option Decl) (e : Decl) → FitsIf o e → IfSome Fine o → JoinGives P f g is (record { before = o; after = e })
    one None e fits fine = new e
    one (Some d) e (inl same) fine = subst (λ e. Both d e) (sym same) (self d fine)
    one (Some d) e (inr x) fine = given d e x fine

    pub all_give : (js : Joins) → Each Fits js → Each (λ j. IfSome Fine j.before) js → Each (JoinGives P f g is) js
    all_give js fits fine = each_both (λ j x y. one j.before j.after x y) js fits fine
