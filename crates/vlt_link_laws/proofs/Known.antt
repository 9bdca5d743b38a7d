-- What the names, sets and shapes of a view are in the joined file.
use Rattle.std.proofs.Common.{◌≡◌, inl, inr, ℕ, not, ◌||◌, List, [], ◌∷◌, map, Option, Some, None, slice_get, option_map, refl, sym, ap, ap₂, ◌∙◌}
use Rattle.std.proofs.lemmas.Option.{none-some, same_Some}
use Rattle.std.specs.List.{list_any}
use Rattle.vlt_syntax.specs.Tree as s
use Rattle.vlt_syntax.specs.Tree.{Name, Named, Ty, HeaderKey, Case, Decl}
use Rattle.vlt_syntax.specs.Lists.{Each}
use Rattle.vlt_core.specs.Core.{SetDecl}
use Rattle.vlt_core.specs.declared.rules.TheConstants as rule
use Rattle.vlt_link_laws.specs.CoreMoves.Moves.{Moves}
use Rattle.vlt_kinds_types.specs.Names.Globals.{global_in, decl_name}
use Rattle.vlt_kinds_types.specs.declared.names.globals.Entity.{Entity}
use Rattle.vlt_kinds_types.specs.declared.names.globals.Entity.TheVariants.{ASet, AType, AFunction}
use Rattle.vlt_kinds_types.specs.Names.Refusals.{refuse_if, of_each}
use Rattle.vlt_kinds_decls.specs.Names as nam
use Rattle.vlt_kinds_types.specs.declared.shapes.Shape.{Shape}
use Rattle.vlt_kinds_types.specs.Files.{File, as_type, as_set, type_in, set_in, wanted_in, wanted_type, header_in, lists_keys, owns_payload, leaves_payload_open, is_known_type, variant_sort, sort_of_cases, shapes_in, sets_in, then_with, shape_at, shape_named}
use Rattle.vlt_kinds_types.specs.Types.{sort_in, ty_refused, named_refused, name_refused, owned_refused, form_refused, ty_place}
use Rattle.vlt_kinds_decls.specs.declared.parts.Part.TheVariants as part
use Rattle.vlt_kinds_decls.specs.Decls.{object_refused, key_type_refused, header_refused, typed_refused, struct_refused, variant_refused, case_refused, type_refused}
use Rattle.vlt_link_laws.specs.Moves.Joins.{Joins, befores, afters, at_in, is_set, is_type}
use Rattle.vlt_link_laws.specs.Moves.Sees.{IsSort, moved_global, moved_wanted}
use Rattle.vlt_link_laws.proofs.OfMoves.Empty.{cons_not_nil, no_left, no_right}
use Rattle.vlt_link_laws.proofs.OfMoves.Joins.{Gives, GivesBoth, JoinGives, stands, stays_past}
use Rattle.vlt_link_laws.proofs.Fits.{IsGiven, Fits}
use Rattle.vlt_link_laws.proofs.Given.{IfSome, given_elim, all_give}

pub record ShapeFits (m : Moves) (x y : Shape) : Type 0 where
  pub sort : IsSort m x.sort y.sort
  pub header : y.header ≡ map (moved_wanted m) x.header
  pub set : y.set ≡ option_map m.sets x.set

-- what isn't refused in a declaration by the rules on names and types, and that its name is known
pub record FineDecl (a : File) (d : Decl) : Type 0 where
  pub known : Entity
  pub is : global_in a.globals (decl_name d).text ≡ Some known
  pub named : nam.decl_refused a.globals d ≡ []
  pub typed : type_refused a d ≡ []

-- ---- by names alone

module _ (m : Moves) (a b : File) (names : (n : List ℕ) (g : Entity) → global_in a.globals n ≡ Some g → global_in b.globals n ≡ Some (moved_global m g)) where
  pub known_type : (n : Name) (t : ℕ) → type_in a.globals n ≡ Some t → type_in b.globals n ≡ Some (m.types t)
  known_type n t e = by (global_in a.globals n.text) refl e
    where
      by : (o : Option Entity) → global_in a.globals n.text ≡ o → as_type o ≡ Some t → type_in b.globals n ≡ Some (m.types t)
      by None at e = absurd (none-some t e)
      by (Some (ASet i)) at e = absurd (none-some t e)
      by (Some (AType u)) at e = ap as_type (names n.text (AType u) at) ∙ ap (option_map m.types) e
      by (Some (AFunction f)) at e = absurd (none-some t e)

  pub set_moves : (ss : Option Name) → nam.set_refused a.globals ss ≡ [] → set_in b.globals ss ≡ option_map m.sets (set_in a.globals ss)
  unfolding nam.set_refused
  set_moves None none = refl
  set_moves (Some n) none = by (global_in a.globals n.text) refl none
    where
      by : (o : Option Entity) → global_in a.globals n.text ≡ o → refuse_if (not (nam.is_set o)) rule.NOT_A_SET n.at.from ≡ [] → set_in b.globals (Some n) ≡ option_map m.sets (set_in a.globals (Some n))
      by None at none = absurd (cons_not_nil _ [] none)
      by (Some (ASet i)) at none = ap as_set (names n.text (ASet i) at) ∙ sym (ap (λ o. option_map m.sets (as_set o)) at)
      by (Some (AType t)) at none = absurd (cons_not_nil _ [] none)
      by (Some (AFunction f)) at none = absurd (cons_not_nil _ [] none)

  pub set_fine : (ss : Option Name) → nam.set_refused a.globals ss ≡ [] → nam.set_refused b.globals ss ≡ []
  unfolding nam.set_refused
  set_fine None none = refl
  set_fine (Some n) none = by (global_in a.globals n.text) refl none
    where
      by : (o : Option Entity) → global_in a.globals n.text ≡ o → refuse_if (not (nam.is_set o)) rule.NOT_A_SET n.at.from ≡ [] → nam.set_refused b.globals (Some n) ≡ []
      by None at none = absurd (cons_not_nil _ [] none)
      by (Some (ASet i)) at none = ap (λ o. refuse_if (not (nam.is_set o)) rule.NOT_A_SET n.at.from) (names n.text (ASet i) at)
      by (Some (AType t)) at none = absurd (cons_not_nil _ [] none)
      by (Some (AFunction f)) at none = absurd (cons_not_nil _ [] none)

  wanted_known : (p : Option Name) → key_type_refused a p ≡ [] → wanted_in b.globals p ≡ moved_wanted m (wanted_in a.globals p)
  unfolding shape_named
  wanted_known None none = refl
  wanted_known (Some n) none = by (type_in a.globals n) refl none
    where
      by : (o : Option ℕ) → type_in a.globals n ≡ o → object_refused (sort_in (then_with o (shape_at a))) n ≡ [] → wanted_in b.globals (Some n) ≡ moved_wanted m (wanted_in a.globals (Some n))
      by None at none = absurd (cons_not_nil _ [] none)
      by (Some t) at none = ap wanted_type (known_type n t at) ∙ sym (ap (λ o. moved_wanted m (wanted_type o)) at)

  header_known : (ps : List HeaderKey) → of_each (header_refused a) ps ≡ [] → header_in b.globals ps ≡ map (moved_wanted m) (header_in a.globals ps)
  unfolding header_refused
  header_known [] none = refl
  header_known (p ∷ ps) none = ap₂ (λ w ws. w ∷ ws) (wanted_known p.key_type (no_left (key_type_refused a p.key_type) _ none)) (header_known ps (no_right (key_type_refused a p.key_type) _ none))

  name_is_type : (n : Named) → name_refused (shape_named a n.name) n ≡ [] → (t : ℕ) × (type_in a.globals n.name ≡ Some t)
  unfolding name_refused shape_named
  name_is_type n none = by (type_in a.globals n.name) refl none
    where
      by : (o : Option ℕ) → type_in a.globals n.name ≡ o → name_refused (then_with o (shape_at a)) n ≡ [] → (t : ℕ) × (type_in a.globals n.name ≡ Some t)
      by None at none = absurd (cons_not_nil _ [] none)
      by (Some t) at none = (t, at)

  payload_same : (t : Ty) → ty_refused a t ≡ [] → (owns_payload b.globals t ≡ owns_payload a.globals t) × (leaves_payload_open b.globals t ≡ leaves_payload_open a.globals t)
  unfolding owned_refused named_refused
  payload_same (s.int at) none = (refl, refl)
  payload_same (s.bool at) none = (refl, refl)
  payload_same (s.tracked k n at) none = (refl, refl)
  payload_same (s.owning ss n at) none =
      let k = name_is_type n (no_right (form_refused (s.owning ss n at) (sort_in (shape_named a n.name)) (ty_place (s.owning ss n at))) _ (no_left (named_refused (shape_named a n.name) (s.owning ss n at) n) _ none)) in
      (ap is_known_type (known_type n.name k.0 k.1) ∙ sym (ap is_known_type k.1), ap (λ o. not (is_known_type o)) (known_type n.name k.0 k.1) ∙ sym (ap (λ o. not (is_known_type o)) k.1))
  payload_same (s.guarded k n) none = (refl, refl)
  payload_same (s.plain n) none = (refl, refl)

  payloads_same : (ps : List HeaderKey) (ts : List Ty) → of_each (typed_refused a ps part.Payload) ts ≡ [] →
      (list_any (owns_payload b.globals) ts ≡ list_any (owns_payload a.globals) ts) × (list_any (leaves_payload_open b.globals) ts ≡ list_any (leaves_payload_open a.globals) ts)
  unfolding typed_refused
  payloads_same ps [] none = (refl, refl)
  payloads_same ps (t ∷ ts) none =
      let here = payload_same t (no_left (ty_refused a t) _ (no_left (typed_refused a ps part.Payload t) _ none)) in
      let rest = payloads_same ps ts (no_right (typed_refused a ps part.Payload t) _ none) in
      (ap₂ (λ x y. x || y) here.0 rest.0, ap₂ (λ x y. x || y) here.1 rest.1)

  cases_same : (ps : List HeaderKey) (cs : List Case) → of_each (case_refused a ps) cs ≡ [] →
      (list_any (λ c. list_any (owns_payload b.globals) c.payload) cs ≡ list_any (λ c. list_any (owns_payload a.globals) c.payload) cs) ×
      (list_any (λ c. list_any (leaves_payload_open b.globals) c.payload) cs ≡ list_any (λ c. list_any (leaves_payload_open a.globals) c.payload) cs)
  unfolding case_refused
  cases_same ps [] none = (refl, refl)
  cases_same ps (c ∷ cs) none =
      let here = payloads_same ps c.payload (no_left (of_each (typed_refused a ps part.Payload) c.payload) _ (no_left (case_refused a ps c) _ none)) in
      let rest = cases_same ps cs (no_right (case_refused a ps c) _ none) in
      (ap₂ (λ x y. x || y) here.0 rest.0, ap₂ (λ x y. x || y) here.1 rest.1)

  sort_same : (ps : List HeaderKey) (cs : List Case) → of_each (case_refused a ps) cs ≡ [] → sort_of_cases b.globals cs ≡ sort_of_cases a.globals cs
  unfolding sort_of_cases
  sort_same ps cs none = let both = cases_same ps cs none in ap₂ (λ x y. variant_sort (list_any lists_keys cs) x y) both.0 both.1

  -- ---- shapes

  pub new_shapes : (e : Decl) → Gives (is_type e) (shapes_in b.globals e)
  new_shapes (s.stateset n ss at) = refl
  new_shapes (s.abstract n ss at) = (_, refl)
  new_shapes (s.struct n ps ss fs r at) = (_, refl)
  new_shapes (s.variant n ps cs at) = (_, refl)
  new_shapes (s.extern h at) = refl
  new_shapes (s.function h x at) = refl

  pub self_shapes : (d : Decl) → FineDecl a d → GivesBoth (ShapeFits m) (is_type d) (shapes_in a.globals d) (shapes_in b.globals d)
  unfolding nam.struct_refused struct_refused variant_refused
  self_shapes (s.stateset n ss at) fine = (refl, refl)
  self_shapes (s.abstract n ss at) fine = (_, _, refl, refl, record { sort = inl refl; header = refl; set = set_moves ss fine.named })
  self_shapes (s.struct n ps ss fs r at) fine = (
    _,
    _,
    refl,
    refl,
    record {
      sort = inl refl;
      header = header_known ps (no_left (of_each (header_refused a) ps) _ fine.typed);
      set = set_moves ss (no_left (nam.set_refused a.globals ss) _ (no_right (nam.header_refused a.globals ps) _ fine.named));
    },
  )
  self_shapes (s.variant n ps cs at) fine = (
    _,
    _,
    refl,
    refl,
    record {
      sort = inl (sort_same ps cs (no_right (of_each (header_refused a) ps) _ fine.typed));
      header = header_known ps (no_left (of_each (header_refused a) ps) _ fine.typed);
      set = refl;
    },
  )
  self_shapes (s.extern h at) fine = (refl, refl)
  self_shapes (s.function h x at) fine = (refl, refl)

  pub same_set_name : (rs ss : Option Name) → option_map (λ x. x.text) rs ≡ option_map (λ x. x.text) ss → set_in b.globals rs ≡ set_in b.globals ss
  same_set_name None None e = refl
  same_set_name (Some r) None e = absurd (none-some r.text (sym e))
  same_set_name None (Some t) e = absurd (none-some t.text e)
  same_set_name (Some r) (Some t) e = ap (λ n. as_set (global_in b.globals n)) (same_Some r.text t.text e)

  pub given_shapes : (d e : Decl) → IsGiven d e → FineDecl a d → GivesBoth (ShapeFits m) (is_type e) (shapes_in a.globals d) (shapes_in b.globals e)
  given_shapes = given_elim (λ d e. FineDecl a d → GivesBoth (ShapeFits m) (is_type e) (shapes_in a.globals d) (shapes_in b.globals e))
      (λ n ss at k ps rs fs r kat g fine. (
        _,
        _,
        refl,
        refl,
        record {
          sort = inr (refl, refl);
          header = ap (header_in b.globals) g.1;
          set = same_set_name rs ss g.2 ∙ set_moves ss fine.named;
        },
      ))
      (λ h at g b gat is fine. (refl, refl))

-- ---- sets

new_sets : (e : Decl) → Gives (is_set e) (sets_in e)
new_sets (s.stateset n ss at) = (_, refl)
new_sets (s.abstract n ss at) = refl
new_sets (s.struct n ps ss fs r at) = refl
new_sets (s.variant n ps cs at) = refl
new_sets (s.extern h at) = refl
new_sets (s.function h x at) = refl

Same : SetDecl → SetDecl → Type 0
Same x y = y ≡ x

self_sets : (d : Decl) → Unit {0} → GivesBoth (λ (x y : SetDecl). y ≡ x) (is_set d) (sets_in d) (sets_in d)
self_sets (s.stateset n ss at) fine = (_, _, refl, refl, refl)
self_sets (s.abstract n ss at) fine = (refl, refl)
self_sets (s.struct n ps ss fs r at) fine = (refl, refl)
self_sets (s.variant n ps cs at) fine = (refl, refl)
self_sets (s.extern h at) fine = (refl, refl)
self_sets (s.function h x at) fine = (refl, refl)

given_sets : (d e : Decl) → IsGiven d e → Unit {0} → GivesBoth (λ (x y : SetDecl). y ≡ x) (is_set e) (sets_in d) (sets_in e)
given_sets = given_elim (λ d e. Unit {0} → GivesBoth (λ (x y : SetDecl). y ≡ x) (is_set e) (sets_in d) (sets_in e))
    (λ n ss at k ps rs fs r kat g fine. (refl, refl))
    (λ h at g b gat is fine. (refl, refl))

units : (js : Joins) → Each (λ j. IfSome (λ d. Unit {0}) j.before) js
units [] = tt
units (j ∷ js) = (by j.before, units js)
  where
    by : (o : Option Decl) → IfSome (λ d. Unit {0}) o
    by None = tt
    by (Some d) = tt

pub same_sets : (js : Joins) → Each Fits js → (i : ℕ) → slice_get (of_each sets_in (afters js)) (at_in is_set js i) ≡ slice_get (of_each sets_in (befores js)) i
same_sets js fits i = by (slice_get (of_each sets_in (befores js)) i) refl
  where
    all : Each (JoinGives (λ (x y : SetDecl). y ≡ x) sets_in sets_in is_set) js
    all = all_give (λ (x y : SetDecl). y ≡ x) sets_in sets_in is_set (λ d. Unit {0}) new_sets self_sets given_sets js fits (units js)

    by : (o : Option SetDecl) → slice_get (of_each sets_in (befores js)) i ≡ o → slice_get (of_each sets_in (afters js)) (at_in is_set js i) ≡ slice_get (of_each sets_in (befores js)) i
    by None e = stays_past (λ (x y : SetDecl). y ≡ x) sets_in sets_in is_set js all i e ∙ sym e
    by (Some x) e = let r = stands (λ (x y : SetDecl). y ≡ x) sets_in sets_in is_set js all i x e in r.there ∙ (ap Some r.fits ∙ sym e)
