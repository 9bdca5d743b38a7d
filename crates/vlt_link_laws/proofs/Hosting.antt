-- What an external gives as abstract stays so: a module's own by rule 50, the interface's by the rule on heads of externals in both views.
use Rattle.std.proofs.Common.{◌≡◌, inl, inr, ℕ, Bool, true, false, true≢false, not, ◌&&◌, ◌||◌, List, [], ◌∷◌, map, Option, Some, None, slice_get, refl, sym, ap, ◌∙◌}
use Rattle.std.proofs.lemmas.Option.{same_Some}
use Rattle.std.specs.List.{list_any, list_all}
use Rattle.vlt_syntax.specs.Tree as s
use Rattle.vlt_syntax.specs.Tree.{Name, Named, ResultType, Head, Ty, Decl}
use Rattle.vlt_syntax.specs.Lists.{Each}
use Rattle.vlt_core.specs.Core as core
use Rattle.vlt_core.specs.Core.{CaseDecl}
use Rattle.vlt_core.specs.Lookups.{cases_in}
use Rattle.vlt_core.specs.Types.{is_abstract}
use Rattle.vlt_core.specs.declared.rules.TheConstants as rule
use Rattle.vlt_link_laws.specs.CoreMoves.Moves.{Moves, moved_ty, moved_case}
use Rattle.vlt_kinds_types.specs.Names.Refusals.{refuse_if, of_each}
use Rattle.vlt_kinds_types.specs.declared.shapes.Sort.{Sort}
use Rattle.vlt_kinds_types.specs.declared.shapes.Sort.TheVariants as sort
use Rattle.vlt_kinds_types.specs.declared.shapes.Shape.{Shape}
use Rattle.vlt_kinds_types.specs.Files.{shape_named, shape_at, type_named, then_with}
use Rattle.vlt_kinds_types.specs.Types.{sort_in, ty_refused, ty_place, named_refused, owned_refused}
use Rattle.vlt_kinds_types.specs.Kinds.{Kinds}
use Rattle.vlt_kinds_heads.specs.Keys.{Keys, facts_of, keys_of}
use Rattle.vlt_kinds_heads.specs.Heads.{types_refused, result_type_refused, head_refused}
use Rattle.vlt_kinds_heads.specs.Phase.{extern_refused, heads_refused_in}
use Rattle.vlt_kinds_heads.specs.Externals.{host_parameter_refused, is_host_payload, has_host_payload, cases_named, is_no_abstract, is_struct, is_wrong_variant, is_wrong_result, host_ty_refused, host_result_refused, external_refused}
use Rattle.vlt_link_laws.specs.Moves.Sees.{Sees, IsSort}
use Rattle.vlt_link_laws.proofs.OfMoves.Empty.{no_left, no_right, not_broken, not_false}
use Rattle.vlt_link_laws.proofs.OfMoves.Named.{Known, named_known}
use Rattle.vlt_link_laws.proofs.Parts.{Stays, SortStays, PayloadStays, TyStays, ResultStays, HostStays}
use Rattle.vlt_iface.specs.declared.rules.TheConstants.{ABSTRACT_RESULT}
use Rattle.vlt_views.specs.Hidden.{is_hidden, hides, case_hides, named_hides, ty_hides, result_hides, own_refused_in}
use Rattle.vlt_link_laws.proofs.Headed.{head_types, extern_head}
use Rattle.vlt_link_laws.proofs.External.{cases_move}
use Rattle.vlt_link_laws.proofs.Abstracts.{is_abstract_sort}

-- the core type at a number is abstract where the shape says so
abbrev pub Sorted : Kinds → Type 0
Sorted k = (t : ℕ) (x : Shape) → slice_get k.file.shapes t ≡ Some x → is_abstract (slice_get k.types t) ≡ is_abstract_sort x.sort

or_off : (x y : Bool) → (x || y) ≡ false → (x ≡ false) × (y ≡ false)
or_off true y e = absurd (true≢false e)
or_off false y e = (refl, e)

and_on : (x y : Bool) → (x && y) ≡ true → (x ≡ true) × (y ≡ true)
and_on true y e = (refl, e)
and_on false y e = absurd (true≢false (sym e))

module _ (m : Moves) (a b : Kinds) (sees : Sees m a b) where
  shape_here : (n : Name) (k : Known m a b sees n) → slice_get a.file.shapes k.type ≡ Some k.shape
  unfolding shape_named shape_at
  shape_here n k = sym (ap (λ o. then_with o (slice_get a.file.shapes)) k.named) ∙ k.shaped

  same_sort : (n : Name) (k : Known m a b sees n) → k.is.shape.sort ≡ k.shape.sort → SortStays m a b n
  same_sort n k e = ap sort_in k.shaped_there ∙ (ap Some e ∙ sym (ap sort_in k.shaped))

  module _ (sorted_a : Sorted a) (sorted_b : Sorted b) where
    -- its type is abstract here
    abstract_here : (n : Name) (k : Known m a b sees n) → k.shape.sort ≡ sort.Abstract → is_abstract (slice_get a.types k.type) ≡ true
    abstract_here n k e = sorted_a k.type k.shape (shape_here n k) ∙ ap is_abstract_sort e

    no_struct_there : (n : Name) (k : Known m a b sees n) → k.is.shape.sort ≡ sort.Struct → is_abstract (slice_get b.types (m.types k.type)) ≡ true → ⊥
    no_struct_there n k e on = true≢false (sym on ∙ (sorted_b (m.types k.type) k.is.shape k.is.there ∙ ap is_abstract_sort e))

    sort_stays : (n : Name) (k : Known m a b sees n) → (is_abstract (slice_get a.types k.type) ≡ true → is_abstract (slice_get b.types (m.types k.type)) ≡ true) → SortStays m a b n
    sort_stays n k stays = by k.is.sort
      where
        by : IsSort m k.shape.sort k.is.shape.sort → SortStays m a b n
        by (inl e) = same_sort n k e
        by (inr e) = absurd (no_struct_there n k e.1 (stays (abstract_here n k e.0)))

    -- ---- a module's own

    module _ (hidden : List (List ℕ))
        (kept : (t : ℕ) → is_abstract (slice_get a.types t) ≡ true → is_hidden hidden (slice_get a.types t) ≡ false → is_abstract (slice_get b.types (m.types t)) ≡ true) where
      own_sort : (n : Named) → Known m a b sees n.name → named_hides hidden a.types a.file n ≡ false → SortStays m a b n.name
      own_sort n k off =
          sort_stays n.name k (λ on. kept k.type on
          (sym (ap (λ o. is_hidden hidden (then_with o (slice_get a.types))) k.named) ∙
          (or_off (is_hidden hidden (then_with (type_named a.file n.name) (slice_get a.types))) (list_any (case_hides hidden a.types) (cases_named a.file a.types n)) off).0))

      own_tys : (ts : List core.Ty) → list_any (hides hidden a.types) ts ≡ false → Each (Stays m a b) ts
      own_tys [] off = tt
      own_tys (t ∷ ts) off = let both = or_off (hides hidden a.types t) (list_any (hides hidden a.types) ts) off in (by t both.0, own_tys ts both.1)
        where
          by : (t : core.Ty) → hides hidden a.types t ≡ false → Stays m a b t
          by core.int off = tt
          by core.bool off = tt
          by (core.tracked k t args) off = tt
          by (core.owning states t args) off = λ on. kept t on off
          by (core.guarded k t args) off = tt
          by (core.variant t args) off = tt
          by (core.owning_variant t args) off = tt

      own_cases : (cs : List CaseDecl) → list_any (case_hides hidden a.types) cs ≡ false → Each (λ c. Each (Stays m a b) c.payload) cs
      own_cases [] off = tt
      own_cases (c ∷ cs) off =
          let both = or_off (case_hides hidden a.types c) (list_any (case_hides hidden a.types) cs) off in
          (own_tys c.payload both.0, own_cases cs both.1)

      own_payload : (n : Named) → named_hides hidden a.types a.file n ≡ false → PayloadStays m a b n
      own_payload n off =
          own_cases (cases_named a.file a.types n) (or_off (is_hidden hidden (then_with (type_named a.file n.name) (slice_get a.types))) (list_any (case_hides hidden a.types) (cases_named a.file a.types n)) off).1

      own_ty : (t : Ty) → ty_refused a.file t ≡ [] → ty_hides hidden a.types a.file t ≡ false → TyStays m a b t
      unfolding owned_refused
      own_ty (s.int at) none off = tt
      own_ty (s.bool at) none off = tt
      own_ty (s.tracked k n at) none off = own_sort n (named_known m a b sees (s.tracked k n at) n none) off
      own_ty (s.owning ss n at) none off =
          (own_sort n (named_known m a b sees (s.owning ss n at) n (no_left (named_refused (shape_named a.file n.name) (s.owning ss n at) n) _ none)) off, own_payload n off)
      own_ty (s.guarded k n) none off = tt
      own_ty (s.plain n) none off = own_payload n off

      own_result : (r : ResultType) → result_type_refused a.file r ≡ [] → result_hides hidden a.types a.file r ≡ false → ResultStays m a b r
      own_result (s.void at) none off = tt
      own_result (s.value t) none off = own_ty t none off

      pub own_stays : (d : Decl) → heads_refused_in a.file a.types d ≡ [] → own_refused_in hidden a.types a.file 1 d ≡ [] → HostStays m a b d
      unfolding types_refused
      own_stays (s.stateset n ss at) headed own = tt
      own_stays (s.abstract n ss at) headed own = tt
      own_stays (s.struct n ps ss fs r at) headed own = tt
      own_stays (s.variant n ps cs at) headed own = tt
      own_stays (s.extern h at) headed own =
          own_result h.result_type (no_left (result_type_refused a.file h.result_type) _ (head_types a.file h (extern_head a.file a.types h headed)))
          (not_broken (result_hides hidden a.types a.file h.result_type) ABSTRACT_RESULT h.name.at.from own)
      own_stays (s.function h x at) headed own = tt

    -- ---- the interface's, which stands in both views

    module _ (l : Moves) (c : Kinds) (sees2 : Sees l c b) (sorted_c : Sorted c)
        (cases : (t : ℕ) → cases_in (slice_get b.types (m.types t)) ≡ map (moved_case m) (cases_in (slice_get a.types t)))
        (cases2 : (t : ℕ) → cases_in (slice_get b.types (l.types t)) ≡ map (moved_case l) (cases_in (slice_get c.types t)))
        (both : (t u : ℕ) → m.types t ≡ l.types u → is_abstract (slice_get a.types t) ≡ true → is_abstract (slice_get c.types u) ≡ true → is_abstract (slice_get b.types (m.types t)) ≡ true) where
      same_place : (n : Name) (k : Known m a b sees n) (q : Known l c b sees2 n) → m.types k.type ≡ l.types q.type
      same_place n k q = same_Some (m.types k.type) (l.types q.type) (sym k.named_there ∙ q.named_there)

      same_there : (n : Name) (k : Known m a b sees n) (q : Known l c b sees2 n) → k.is.shape.sort ≡ q.is.shape.sort
      same_there n k q = ap (λ x. x.sort) (same_Some k.is.shape q.is.shape (sym k.shaped_there ∙ q.shaped_there))

      shape_in_c : (n : Name) (q : Known l c b sees2 n) → slice_get c.file.shapes q.type ≡ Some q.shape
      unfolding shape_named shape_at
      shape_in_c n q = sym (ap (λ o. then_with o (slice_get c.file.shapes)) q.named) ∙ q.shaped

      shared_sort : (n : Name) → Known m a b sees n → Known l c b sees2 n → is_struct (sort_in (shape_named c.file n)) ≡ false → SortStays m a b n
      shared_sort n k q off = by k.is.sort
        where
          no_struct : q.shape.sort ≡ sort.Struct → ⊥
          no_struct e = true≢false (sym (ap (λ x. is_struct (sort_in x)) q.shaped ∙ ap (λ x. is_struct (Some x)) e) ∙ off)

          with_struct : k.shape.sort ≡ sort.Abstract → k.is.shape.sort ≡ sort.Struct → IsSort l q.shape.sort q.is.shape.sort → ⊥
          with_struct e f (inl same) = no_struct (sym same ∙ (sym (same_there n k q) ∙ f))
          with_struct e f (inr x) =
              no_struct_there n k f
              (both k.type q.type (same_place n k q) (abstract_here n k e) (sorted_c q.type q.shape (shape_in_c n q) ∙ ap is_abstract_sort x.0))

          by : IsSort m k.shape.sort k.is.shape.sort → SortStays m a b n
          by (inl e) = same_sort n k e
          by (inr e) = absurd (with_struct e.0 e.1 q.is.sort)

      shared_payload_ty : (t u : core.Ty) → moved_ty m t ≡ moved_ty l u → is_host_payload c.types u ≡ true → Stays m a b t
      shared_payload_ty core.int u e on = tt
      shared_payload_ty core.bool u e on = tt
      shared_payload_ty (core.tracked k t args) u e on = tt
      shared_payload_ty (core.guarded k t args) u e on = tt
      shared_payload_ty (core.variant t args) u e on = tt
      shared_payload_ty (core.owning_variant t args) u e on = tt
      shared_payload_ty (core.owning ss t args) core.int e on = cc
      shared_payload_ty (core.owning ss t args) core.bool e on = cc
      shared_payload_ty (core.owning ss t args) (core.tracked k u vs) e on = cc
      shared_payload_ty (core.owning ss t args) (core.owning rs u vs) e on = λ x. both t u (same ss rs (m.types t) (l.types u) args vs e) x on
        where
          same : (ss rs : core.States) (t u : ℕ) (args vs : List ℕ) → core.owning ss t args ≡ core.owning rs u vs → t ≡ u
          same ss rs t u args vs e = cc
      shared_payload_ty (core.owning ss t args) (core.guarded k u vs) e on = cc
      shared_payload_ty (core.owning ss t args) (core.variant u vs) e on = cc
      shared_payload_ty (core.owning ss t args) (core.owning_variant u vs) e on = cc

      shared_tys : (ts us : List core.Ty) → map (moved_ty m) ts ≡ map (moved_ty l) us → list_all (is_host_payload c.types) us ≡ true → Each (Stays m a b) ts
      shared_tys [] us e on = tt
      shared_tys (t ∷ ts) [] e on = cc
      shared_tys (t ∷ ts) (u ∷ us) e on =
          let x = and_on (is_host_payload c.types u) (list_all (is_host_payload c.types) us) on in
          (shared_payload_ty t u (first (moved_ty m t) (moved_ty l u) _ _ e) x.0, shared_tys ts us (others (moved_ty m t) (moved_ty l u) _ _ e) x.1)
        where
          first : (x y : core.Ty) (xs ys : List core.Ty) → x ∷ xs ≡ y ∷ ys → x ≡ y
          first x y xs ys e = cc

          others : (x y : core.Ty) (xs ys : List core.Ty) → x ∷ xs ≡ y ∷ ys → xs ≡ ys
          others x y xs ys e = cc

      shared_cases : (xs ys : List CaseDecl) → map (moved_case m) xs ≡ map (moved_case l) ys → list_all (has_host_payload c.types) ys ≡ true → Each (λ x. Each (Stays m a b) x.payload) xs
      shared_cases [] ys e on = tt
      shared_cases (x ∷ xs) [] e on = cc
      shared_cases (x ∷ xs) (y ∷ ys) e on =
          let z = and_on (has_host_payload c.types y) (list_all (has_host_payload c.types) ys) on in
          (shared_tys x.payload y.payload (ap (λ d. d.payload) (first (moved_case m x) (moved_case l y) _ _ e)) z.0, shared_cases xs ys (others (moved_case m x) (moved_case l y) _ _ e) z.1)
        where
          first : (x y : CaseDecl) (xs ys : List CaseDecl) → x ∷ xs ≡ y ∷ ys → x ≡ y
          first x y xs ys e = cc

          others : (x y : CaseDecl) (xs ys : List CaseDecl) → x ∷ xs ≡ y ∷ ys → xs ≡ ys
          others x y xs ys e = cc

      shared_payload : (n : Named) → Known m a b sees n.name → Known l c b sees2 n.name → is_wrong_variant c.file c.types n ≡ false → PayloadStays m a b n
      unfolding is_wrong_variant
      shared_payload n k q off =
          shared_cases (cases_named a.file a.types n) (cases_named c.file c.types n)
          (sym (cases_move m a b sees cases n k) ∙ cases_move l c b sees2 cases2 n q)
          (not_false (list_all (has_host_payload c.types) (cases_named c.file c.types n)) off)

      no_abstract_off : (o : Option Sort) → is_no_abstract o ≡ false → is_struct o ≡ false
      no_abstract_off None off = refl
      no_abstract_off (Some sort.Abstract) off = refl
      no_abstract_off (Some sort.Struct) off = absurd (true≢false off)
      no_abstract_off (Some sort.CopiedVariant) off = refl
      no_abstract_off (Some sort.OwningVariant) off = refl
      no_abstract_off (Some sort.KeyedVariant) off = refl
      no_abstract_off (Some sort.OpenVariant) off = refl

      shared_ty : (ks : Keys) (t : Ty) → ty_refused a.file t ≡ [] → ty_refused c.file t ≡ [] → is_wrong_result c.file c.types ks t ≡ false → TyStays m a b t
      unfolding owned_refused
      shared_ty ks (s.int at) none none2 off = tt
      shared_ty ks (s.bool at) none none2 off = tt
      shared_ty ks (s.tracked k n at) none none2 off =
          shared_sort n.name (named_known m a b sees (s.tracked k n at) n none) (named_known l c b sees2 (s.tracked k n at) n none2)
          (no_abstract_off (sort_in (shape_named c.file n.name)) (or_off (not (facts_of ks k.text).is_fresh) (is_no_abstract (sort_in (shape_named c.file n.name))) off).1)
      shared_ty ks (s.owning ss n at) none none2 off =
          let k = named_known m a b sees (s.owning ss n at) n (no_left (named_refused (shape_named a.file n.name) (s.owning ss n at) n) _ none) in
          let q = named_known l c b sees2 (s.owning ss n at) n (no_left (named_refused (shape_named c.file n.name) (s.owning ss n at) n) _ none2) in
          let x = or_off (is_struct (sort_in (shape_named c.file n.name))) (is_wrong_variant c.file c.types n) off in
          (shared_sort n.name k q x.0, shared_payload n k q x.1)
      shared_ty ks (s.guarded k n) none none2 off = tt
      shared_ty ks (s.plain n) none none2 off =
          shared_payload n (named_known m a b sees (s.plain n) n none) (named_known l c b sees2 (s.plain n) n none2) off

      shared_result : (ks : Keys) (r : ResultType) → result_type_refused a.file r ≡ [] → result_type_refused c.file r ≡ [] → host_result_refused c.file c.types ks r ≡ [] → ResultStays m a b r
      unfolding host_ty_refused
      shared_result ks (s.void at) none none2 host = tt
      shared_result ks (s.value t) none none2 host =
          shared_ty ks t none none2 (not_broken (is_wrong_result c.file c.types ks t) rule.EXTERN_HEAD (ty_place t) (no_left (refuse_if (is_wrong_result c.file c.types ks t) rule.EXTERN_HEAD (ty_place t)) _ host))

      shared_extern : (h : Head) → extern_refused a.file a.types h ≡ [] → extern_refused c.file c.types h ≡ [] → ResultStays m a b h.result_type
      unfolding types_refused extern_refused external_refused
      shared_extern h headed headed2 =
          let types = head_types a.file h (no_left (head_refused a.file h) _ headed) in
          let types2 = head_types c.file h (no_left (head_refused c.file h) _ headed2) in
          let back = no_right (of_each (host_parameter_refused c.file) h.parameters) _ (no_right (head_refused c.file h) _ headed2) in
          shared_result (keys_of c.file h) h.result_type (no_left (result_type_refused a.file h.result_type) _ types) (no_left (result_type_refused c.file h.result_type) _ types2)
          (no_left (host_result_refused c.file c.types (keys_of c.file h) h.result_type) _ back)

      pub shared_stays : (d : Decl) → heads_refused_in a.file a.types d ≡ [] → heads_refused_in c.file c.types d ≡ [] → HostStays m a b d
      shared_stays (s.stateset n ss at) headed headed2 = tt
      shared_stays (s.abstract n ss at) headed headed2 = tt
      shared_stays (s.struct n ps ss fs r at) headed headed2 = tt
      shared_stays (s.variant n ps cs at) headed headed2 = tt
      shared_stays (s.extern h at) headed headed2 = shared_extern h headed headed2
      shared_stays (s.function h x at) headed headed2 = tt
