-- The joined file sees what a view sees.
use Rattle.std.proofs.Common.{◌≡◌, ℕ, true, true≢false, List, [], map, Option, Some, None, slice_get, option_map, refl, sym, ap, ◌∙◌}
use Rattle.std.proofs.lemmas.Option.{none-some}
use Rattle.vlt_syntax.specs.Tree as s
use Rattle.vlt_syntax.specs.Tree.{Name, Decl}
use Rattle.vlt_syntax.specs.Lists.{Each}
use Rattle.vlt_core.specs.Core.{Ty, int, bool, tracked, owning, guarded, variant, owning_variant, StructDecl, VariantDecl, TypeDecl, an_abstract, a_struct, a_variant, Func, Program}
use Rattle.vlt_core.specs.Lookups as l
use Rattle.vlt_core.specs.Lookups.{state_count, count_in, links_in, links_of_type}
use Rattle.vlt_core.specs.Types.{is_droppable}
use Rattle.vlt_link_laws.specs.CoreMoves.Moves.{Moves, moved_ty, moved_struct, moved_case, moved_variant}
use Rattle.vlt_link_laws.specs.CoreMoves.Keeps.{HasClauseOf, Keeps}
use Rattle.vlt_kinds_types.specs.Names.Globals.{global_in}
use Rattle.vlt_kinds_types.specs.declared.names.globals.Entity.{Entity}
use Rattle.vlt_kinds_types.specs.declared.names.globals.Entity.TheVariants.{ASet, AType, AFunction}
use Rattle.vlt_kinds_decls.specs.Names as nam
use Rattle.vlt_kinds_types.specs.declared.shapes.Shape.{Shape}
use Rattle.vlt_kinds_types.specs.Files.{File, file_of, as_type, shapes_in, then_with, states_in, state_names, shape_at, shape_named, set_in}
use Rattle.vlt_kinds_decls.specs.Made.{core_types_in, core_types, core_struct, core_variant}
use Rattle.vlt_kinds_types.specs.Kinds.{Kinds, declared_program}
use Rattle.vlt_link_laws.specs.Moves.Joins.{Joins, befores, afters, is_type, moves_of}
use Rattle.vlt_link_laws.specs.Moves.Sees.{Sees, IsShapeIn, IsHeadIn, moved_global}
use Rattle.vlt_link_laws.proofs.OfMoves.Empty.{no_left, no_right}
use Rattle.vlt_link_laws.proofs.OfMoves.Joins.{Gives, GivesBoth, JoinGives, apart, Stands, stands, stays_past}
use Rattle.vlt_link_laws.proofs.OfMoves.Names.{AreJoined, names_are_joined}
use Rattle.vlt_link_laws.proofs.OfMoves.Heads.{shape_states}
use Rattle.vlt_link_laws.proofs.OfMoves.Decls.{SameOwn, struct_moves, variant_moves}
use Rattle.vlt_link_laws.proofs.OfCoreMoves.Drops.{still_drops, still_drops_value}
use Rattle.vlt_link_laws.proofs.Fits.{IsGiven, Fits}
use Rattle.vlt_link_laws.proofs.Given.{IfSome, given_elim, all_give}
use Rattle.vlt_link_laws.proofs.Known.{FineDecl, ShapeFits, set_moves, new_shapes, self_shapes, given_shapes, same_set_name, same_sets}

-- a file alone
abbrev pub bare : File → Kinds
bare f = record { file = f; types = []; heads = [] }

-- where types and sets stand
pub record TypeFits (m : Moves) (x y : TypeDecl) : Type 0 where
  pub set : l.set_in (Some y) ≡ option_map m.sets (l.set_in (Some x))
  pub cases : l.cases_in (Some y) ≡ map (moved_case m) (l.cases_in (Some x))
  pub struct : (d : StructDecl) → x ≡ a_struct d → y ≡ a_struct (moved_struct m d)
  pub variant : (d : VariantDecl) → x ≡ a_variant d → y ≡ a_variant (moved_variant m d)

no_abstract_struct : (n : List ℕ) (i : Option ℕ) (d : StructDecl) → an_abstract n i ≡ a_struct d → ⊥
no_abstract_struct n i d e = cc

no_abstract_variant : (n : List ℕ) (i : Option ℕ) (d : VariantDecl) → an_abstract n i ≡ a_variant d → ⊥
no_abstract_variant n i d e = cc

no_struct_variant : (c : StructDecl) (d : VariantDecl) → a_struct c ≡ a_variant d → ⊥
no_struct_variant c d e = cc

same_struct : (c d : StructDecl) → a_struct c ≡ a_struct d → c ≡ d
same_struct c d e = cc

same_variant : (c d : VariantDecl) → a_variant c ≡ a_variant d → c ≡ d
same_variant c d e = cc

module _ (js : Joins) (fits : Each Fits js) (joined : AreJoined js) where
  abbrev pub m : Moves
  m = moves_of js

  abbrev pub a : File
  a = file_of (befores js)

  abbrev pub b : File
  b = file_of (afters js)

  pub names : (n : List ℕ) (g : Entity) → global_in a.globals n ≡ Some g → global_in b.globals n ≡ Some (moved_global m g)
  names = names_are_joined js joined

  module _ (fine : Each (λ j. IfSome (FineDecl a) j.before) js) where
    all_shapes : Each (JoinGives (ShapeFits m) (shapes_in a.globals) (shapes_in b.globals) is_type) js
    all_shapes = all_give (ShapeFits m) (shapes_in a.globals) (shapes_in b.globals) is_type (FineDecl a) (new_shapes m a b names) (self_shapes m a b names) (given_shapes m a b names) js fits fine

    shape_there : (t : ℕ) (x : Shape) → slice_get a.shapes t ≡ Some x → IsShapeIn m (bare a) (bare b) t x
    unfolding state_names
    shape_there t x e =
        let r = stands (ShapeFits m) (shapes_in a.globals) (shapes_in b.globals) is_type js all_shapes t x e in
        record {
          shape = r.thing;
          there = r.there;
          sort = r.fits.sort;
          header = r.fits.header;
          states = ap (λ o. then_with o (λ i. states_in (slice_get b.sets i))) r.fits.set ∙ by x.set;
        }
      where
        by : (o : Option ℕ) → then_with (option_map m.sets o) (λ i. states_in (slice_get b.sets i)) ≡ then_with o (λ i. states_in (slice_get a.sets i))
        by None = refl
        by (Some i) = ap states_in (same_sets js fits i)

    drops_nothing : (ty : Ty) → is_droppable (declared_program (bare a)) ty ≡ true → is_droppable (declared_program (bare b)) (moved_ty m ty) ≡ true
    drops_nothing int e = absurd (true≢false (sym e))
    drops_nothing bool e = absurd (true≢false (sym e))
    drops_nothing (tracked k t args) e = absurd (true≢false (sym e))
    drops_nothing (owning r t args) e = absurd (true≢false (sym e))
    drops_nothing (guarded k t args) e = absurd (true≢false (sym e))
    drops_nothing (variant t args) e = absurd (true≢false (sym e))
    drops_nothing (owning_variant t args) e = absurd (true≢false (sym e))

    pub sees_file : Sees m (bare a) (bare b)
    sees_file = record {
      apart = apart is_type js;
      names = names;
      shapes = shape_there;
      past = λ t e. stays_past (ShapeFits m) (shapes_in a.globals) (shapes_in b.globals) is_type js all_shapes t e;
      structs = λ t d e. absurd (none-some (a_struct d) e);
      variants = λ t d e. absurd (none-some (a_variant d) e);
      heads = λ f h e. absurd (none-some h e);
      drops = λ t e. absurd (true≢false (sym e));
      drops_values = drops_nothing;
    }

    -- ---- types

    pub own : (n : Name) (g : Entity) → global_in a.globals n.text ≡ Some g → SameOwn m (bare a) (bare b) sees_file n
    unfolding shape_named state_names
    own n (AType t) at =
        ap (λ o. state_names b (then_with (as_type o) (shape_at b))) (names n.text (AType t) at) ∙
        (shape_states m (bare a) (bare b) sees_file t ∙ sym (ap (λ o. state_names a (then_with (as_type o) (shape_at a))) at))
    own n (ASet i) at = ap (λ o. state_names b (then_with (as_type o) (shape_at b))) (names n.text (ASet i) at) ∙ sym (ap (λ o. state_names a (then_with (as_type o) (shape_at a))) at)
    own n (AFunction f) at = ap (λ o. state_names b (then_with (as_type o) (shape_at b))) (names n.text (AFunction f) at) ∙ sym (ap (λ o. state_names a (then_with (as_type o) (shape_at a))) at)

    new_types : (e : Decl) → Gives (is_type e) (core_types_in b e)
    new_types (s.stateset n ss at) = refl
    new_types (s.abstract n ss at) = (_, refl)
    new_types (s.struct n ps ss fs r at) = (_, refl)
    new_types (s.variant n ps cs at) = (_, refl)
    new_types (s.extern h at) = refl
    new_types (s.function h x at) = refl

    struct_fits : (c d : StructDecl) → d ≡ moved_struct m c → TypeFits m (a_struct c) (a_struct d)
    struct_fits c d e = record {
      set = ap (λ d. d.set) e;
      cases = refl;
      struct = λ x same. ap a_struct e ∙ ap (λ c. a_struct (moved_struct m c)) (same_struct c x same);
      variant = λ x same. absurd (no_struct_variant c x same);
    }

    variant_fits : (c d : VariantDecl) → d ≡ moved_variant m c → TypeFits m (a_variant c) (a_variant d)
    variant_fits c d e = record {
      set = refl;
      cases = ap (λ d. d.cases) e;
      struct = λ x same. absurd (no_struct_variant x c (sym same));
      variant = λ x same. ap a_variant e ∙ ap (λ c. a_variant (moved_variant m c)) (same_variant c x same);
    }

    self_types : (d : Decl) → FineDecl a d → GivesBoth (TypeFits m) (is_type d) (core_types_in a d) (core_types_in b d)
    unfolding nam.struct_refused
    self_types (s.stateset n ss at) fine = (refl, refl)
    self_types (s.abstract n ss at) fine = (
      _,
      _,
      refl,
      refl,
      record {
        set = set_moves m a b names ss fine.named;
        cases = refl;
        struct = λ x same. absurd (no_abstract_struct n.text (set_in a.globals ss) x same);
        variant = λ x same. absurd (no_abstract_variant n.text (set_in a.globals ss) x same);
      },
    )
    self_types (s.struct n ps ss fs r at) fine = (
      _,
      _,
      refl,
      refl,
      struct_fits (core_struct a n ps ss fs r) (core_struct b n ps ss fs r) (struct_moves m (bare a) (bare b) sees_file n ps ss fs r (own n fine.known fine.is)
          (set_moves m a b names ss (no_left (nam.set_refused a.globals ss) _ (no_right (nam.header_refused a.globals ps) _ fine.named))) fine.typed),
    )
    self_types (s.variant n ps cs at) fine = (
      _,
      _,
      refl,
      refl,
      variant_fits (core_variant a n ps cs) (core_variant b n ps cs) (variant_moves m (bare a) (bare b) sees_file n ps cs fine.typed),
    )
    self_types (s.extern h at) fine = (refl, refl)
    self_types (s.function h x at) fine = (refl, refl)

    given_types : (d e : Decl) → IsGiven d e → FineDecl a d → GivesBoth (TypeFits m) (is_type e) (core_types_in a d) (core_types_in b e)
    unfolding core_struct
    given_types = given_elim (λ d e. FineDecl a d → GivesBoth (TypeFits m) (is_type e) (core_types_in a d) (core_types_in b e))
        (λ n ss at k ps rs fs r kat g fine. (
          _,
          _,
          refl,
          refl,
          record {
            set = same_set_name m a b names rs ss g.2 ∙ set_moves m a b names ss fine.named;
            cases = refl;
            struct = λ x same. absurd (no_abstract_struct n.text (set_in a.globals ss) x same);
            variant = λ x same. absurd (no_abstract_variant n.text (set_in a.globals ss) x same);
          },
        ))
        (λ h at g x gat is fine. (refl, refl))

    all_types : Each (JoinGives (TypeFits m) (core_types_in a) (core_types_in b) is_type) js
    all_types = all_give (TypeFits m) (core_types_in a) (core_types_in b) is_type (FineDecl a) new_types self_types given_types js fits fine

    type_there : (t : ℕ) (d : TypeDecl) → slice_get (core_types a (befores js)) t ≡ Some d → Stands (TypeFits m) (core_types_in a) (core_types_in b) is_type js t d
    type_there t d e = stands (TypeFits m) (core_types_in a) (core_types_in b) is_type js all_types t d e

    -- the cases of a type
    pub same_cases : (t : ℕ) → l.cases_in (slice_get (core_types b (afters js)) (m.types t)) ≡ map (moved_case m) (l.cases_in (slice_get (core_types a (befores js)) t))
    same_cases t = by (slice_get (core_types a (befores js)) t) refl
      where
        by : (o : Option TypeDecl) → slice_get (core_types a (befores js)) t ≡ o → l.cases_in (slice_get (core_types b (afters js)) (m.types t)) ≡ map (moved_case m) (l.cases_in (slice_get (core_types a (befores js)) t))
        by None e = ap l.cases_in (stays_past (TypeFits m) (core_types_in a) (core_types_in b) is_type js all_types t e) ∙ sym (ap (λ o. map (moved_case m) (l.cases_in o)) e)
        by (Some d) e = let r = type_there t d e in ap l.cases_in r.there ∙ (r.fits.cases ∙ sym (ap (λ o. map (moved_case m) (l.cases_in o)) e))

    -- ---- programs of these types

    abbrev pub Functions : List Func → List Func → Type 0
    Functions fs gs = (g : ℕ) (h : Func) → slice_get fs g ≡ Some h → HasClauseOf gs (m.functions g) h

    abbrev pub view_program : List Func → ℕ → Program
    view_program fs main = record { sets = a.sets; types = core_types a (befores js); fns = fs; main = main }

    abbrev pub joined_program : List Func → ℕ → Program
    joined_program fs main = record { sets = b.sets; types = core_types b (afters js); fns = fs; main = main }

    module _ (fs gs : List Func) (i k : ℕ) (functions : Functions fs gs) where
      same_count : (t : ℕ) (x y : TypeDecl) → slice_get (core_types a (befores js)) t ≡ Some x → slice_get (core_types b (afters js)) (m.types t) ≡ Some y →
          (o : Option ℕ) → l.set_in (Some x) ≡ o → l.set_in (Some y) ≡ option_map m.sets o → state_count (joined_program gs k) (m.types t) ≡ state_count (view_program fs i) t
      same_count t x y at there None is goes = rw (there, at, is, goes) refl
      same_count t x y at there (Some n) is goes = rw (there, at, is, goes) (ap count_in (same_sets js fits n))

      same_links : (t : ℕ) (x y : TypeDecl) → slice_get (core_types a (befores js)) t ≡ Some x → slice_get (core_types b (afters js)) (m.types t) ≡ Some y →
          (o : Option ℕ) → l.set_in (Some x) ≡ o → l.set_in (Some y) ≡ option_map m.sets o → links_of_type (joined_program gs k) (m.types t) ≡ links_of_type (view_program fs i) t
      same_links t x y at there None is goes = rw (there, at, is, goes) refl
      same_links t x y at there (Some n) is goes = rw (there, at, is, goes) (ap links_in (same_sets js fits n))

      pub keeps_program : Keeps m (view_program fs i) (joined_program gs k)
      keeps_program = record {
        states = λ t d e. let r = type_there t d e in same_count t d r.thing e r.there (l.set_in (Some d)) refl r.fits.set;
        links = λ t d e. let r = type_there t d e in same_links t d r.thing e r.there (l.set_in (Some d)) refl r.fits.set;
        structs = λ t d e. let r = type_there t (a_struct d) e in r.there ∙ ap Some (r.fits.struct d refl);
        variants = λ t d e. let r = type_there t (a_variant d) e in r.there ∙ ap Some (r.fits.variant d refl);
        functions = functions;
      }

    pub keeps_types : Keeps m (view_program [] 0) (joined_program [] 0)
    keeps_types = keeps_program [] [] 0 0 (λ g h e. absurd (none-some h e))

    -- ---- with heads

    module _ (hs ks : List Func) (heads : (f : ℕ) (h : Func) → slice_get hs f ≡ Some h → IsHeadIn m (record { file = b; types = core_types b (afters js); heads = ks }) f h) where
      abbrev pub view_kinds : Kinds
      view_kinds = record { file = a; types = core_types a (befores js); heads = hs }

      abbrev pub joined_kinds : Kinds
      joined_kinds = record { file = b; types = core_types b (afters js); heads = ks }

      pub sees_all : Sees m view_kinds joined_kinds
      sees_all = record {
        apart = apart is_type js;
        names = names;
        shapes = λ t x e. let r = shape_there t x e in record { shape = r.shape; there = r.there; sort = r.sort; header = r.header; states = r.states };
        past = sees_file.past;
        structs = λ t d e. keeps_types.structs t d e;
        variants = λ t d e. keeps_types.variants t d e;
        heads = heads;
        drops = λ t e. still_drops m (view_program [] 0) (joined_program [] 0) keeps_types t e;
        drops_values = λ ty e. still_drops_value m (view_program [] 0) (joined_program [] 0) keeps_types ty e;
      }
