-- What a raised module gives is what the module gives, raised; and what is refused in it is refused so much further on.
use Rattle.std.proofs.Common.{◌≡◌, ℕ, ◌+◌, ◌==◌, Bool, true, false, not, ◌&&◌, ◌||◌, if◌then◌else◌, List, [], ◌∷◌, ◌++◌, map, Option, Some, None, option_map, refl, sym, ap, ap₂, ◌∙◌, arith}
use Rattle.std.specs.Prelude.{nat_lt, length, Result, Ok, Err}
use Rattle.vlt_base.specs.Limits.{limit_of}
use Rattle.vlt_base.specs.declared.limits.TheConstants.{DECLARATIONS}
use Rattle.std.specs.List.{find}
use Rattle.std.proofs.lemmas.List.{map-append}
use Rattle.vlt_syntax.specs.Tree as s
use Rattle.vlt_syntax.specs.Tree.{Name, States, KeyStates, Named, Ty, Entry, ResultType, Parameter, Head, Decl, Tree}
use Rattle.vlt_kinds_types.specs.declared.names.found.Refusal.{Refusal}
use Rattle.vlt_kinds_types.specs.Names.Refusals.{refusal, refuse_if, of_each, is_before, lesser, least_from, least}
use Rattle.vlt_syntax_copies.specs.Raised as r
use Rattle.vlt_iface.specs.declared.places.TheConstants.{RAISE}
use Rattle.vlt_iface.specs.Told.{Told, broken, exceeded, when_few, unless_in, view_told}
use Rattle.vlt_iface.specs.View.{View, viewed, gives}
use Rattle.vlt_iface.specs.declared.rules.TheConstants as rule
use Rattle.vlt_iface.specs.Rules as rules
use Rattle.vlt_iface.specs.Rules.{body_refused, given_refused_by, given_refused, is_filled, view_refused}
use Rattle.vlt_iface.proofs.Giving.{found_mapped}

module _ (by : ℕ) where
  found_raised : (i : Decl) (ms : List Decl) → find (gives i) (map (r.raised by) ms) ≡ option_map (r.raised by) (find (gives i) ms)
  found_raised = found_mapped (r.raised_span by)

  -- ---- heads

  same_names : (ns ks : List Name) → rules.same_each rules.same_name ns (r.raised_names by ks) ≡ rules.same_each rules.same_name ns ks
  same_names [] [] = refl
  same_names [] (k ∷ ks) = refl
  same_names (n ∷ ns) [] = refl
  same_names (n ∷ ns) (k ∷ ks) = ap (λ b. rules.same_name n k && b) (same_names ns ks)

  same_states : (x y : States) → rules.same_states x (r.raised_states by y) ≡ rules.same_states x y
  same_states (s.one n) (s.one k) = refl
  same_states (s.one n) (s.several ks kat) = refl
  same_states (s.several ns at) (s.one k) = refl
  same_states (s.several ns at) (s.several ks kat) = same_names ns ks

  same_if : {A : Type 0} (f : A → A) (same : A → A → Bool) → ((x y : A) → same x (f y) ≡ same x y) → (x y : Option A) → rules.same_if same x (option_map f y) ≡ rules.same_if same x y
  same_if f same go None None = refl
  same_if f same go None (Some y) = refl
  same_if f same go (Some x) None = refl
  same_if f same go (Some x) (Some y) = go x y

  same_each : {A : Type 0} (f : A → A) (same : A → A → Bool) → ((x y : A) → same x (f y) ≡ same x y) → (xs ys : List A) → rules.same_each same xs (map f ys) ≡ rules.same_each same xs ys
  same_each f same go [] [] = refl
  same_each f same go [] (y ∷ ys) = refl
  same_each f same go (x ∷ xs) [] = refl
  same_each f same go (x ∷ xs) (y ∷ ys) = ap₂ (λ a b. a && b) (go x y) (same_each f same go xs ys)

  same_key_states : (x y : KeyStates) → rules.same_key_states x (r.raised_key_states by y) ≡ rules.same_key_states x y
  same_key_states x y = ap (λ b. rules.same_name x.key y.key && b) (same_if (r.raised_states by) rules.same_states same_states x.states y.states)

  same_named : (x y : Named) → rules.same_named x (r.raised_named by y) ≡ rules.same_named x y
  same_named x y = ap (λ b. rules.same_name x.name y.name && b) (same_names x.keys y.keys)

  same_ty : (x y : Ty) → rules.same_ty x (r.raised_ty by y) ≡ rules.same_ty x y
  same_ty (s.int at) (s.int bt) = refl
  same_ty (s.int at) (s.bool bt) = refl
  same_ty (s.int at) (s.tracked j l bt) = refl
  same_ty (s.int at) (s.owning rs l bt) = refl
  same_ty (s.int at) (s.guarded j l) = refl
  same_ty (s.int at) (s.plain l) = refl
  same_ty (s.bool at) (s.int bt) = refl
  same_ty (s.bool at) (s.bool bt) = refl
  same_ty (s.bool at) (s.tracked j l bt) = refl
  same_ty (s.bool at) (s.owning rs l bt) = refl
  same_ty (s.bool at) (s.guarded j l) = refl
  same_ty (s.bool at) (s.plain l) = refl
  same_ty (s.tracked k n at) (s.int bt) = refl
  same_ty (s.tracked k n at) (s.bool bt) = refl
  same_ty (s.tracked k n at) (s.tracked j l bt) = ap (λ b. rules.same_name k j && b) (same_named n l)
  same_ty (s.tracked k n at) (s.owning rs l bt) = refl
  same_ty (s.tracked k n at) (s.guarded j l) = refl
  same_ty (s.tracked k n at) (s.plain l) = refl
  same_ty (s.owning ss n at) (s.int bt) = refl
  same_ty (s.owning ss n at) (s.bool bt) = refl
  same_ty (s.owning ss n at) (s.tracked j l bt) = refl
  same_ty (s.owning ss n at) (s.owning rs l bt) = ap₂ (λ a b. a && b) (same_if (r.raised_states by) rules.same_states same_states ss rs) (same_named n l)
  same_ty (s.owning ss n at) (s.guarded j l) = refl
  same_ty (s.owning ss n at) (s.plain l) = refl
  same_ty (s.guarded k n) (s.int bt) = refl
  same_ty (s.guarded k n) (s.bool bt) = refl
  same_ty (s.guarded k n) (s.tracked j l bt) = refl
  same_ty (s.guarded k n) (s.owning rs l bt) = refl
  same_ty (s.guarded k n) (s.guarded j l) = ap (λ b. rules.same_name k j && b) (same_named n l)
  same_ty (s.guarded k n) (s.plain l) = refl
  same_ty (s.plain n) (s.int bt) = refl
  same_ty (s.plain n) (s.bool bt) = refl
  same_ty (s.plain n) (s.tracked j l bt) = refl
  same_ty (s.plain n) (s.owning rs l bt) = refl
  same_ty (s.plain n) (s.guarded j l) = refl
  same_ty (s.plain n) (s.plain l) = same_named n l

  same_entry : (x y : Entry) → rules.same_entry x (r.raised_entry by y) ≡ rules.same_entry x y
  same_entry (s.held k) (s.held j) = same_key_states k j
  same_entry (s.held k) (s.changed j c d) = refl
  same_entry (s.held k) (s.bound j w c) = refl
  same_entry (s.held k) (s.taken j bt) = refl
  same_entry (s.held k) (s.given j bt) = refl
  same_entry (s.held k) (s.fresh j bt) = refl
  same_entry (s.changed k b a) (s.held j) = refl
  same_entry (s.changed k b a) (s.changed j c d) = ap (λ x. rules.same_name k j && x) (ap₂ (λ x y. x && y) (same_states b c) (same_states a d))
  same_entry (s.changed k b a) (s.bound j w c) = refl
  same_entry (s.changed k b a) (s.taken j bt) = refl
  same_entry (s.changed k b a) (s.given j bt) = refl
  same_entry (s.changed k b a) (s.fresh j bt) = refl
  same_entry (s.bound k v b) (s.held j) = refl
  same_entry (s.bound k v b) (s.changed j c d) = refl
  same_entry (s.bound k v b) (s.bound j w c) = refl
  same_entry (s.bound k v b) (s.taken j bt) = refl
  same_entry (s.bound k v b) (s.given j bt) = refl
  same_entry (s.bound k v b) (s.fresh j bt) = refl
  same_entry (s.taken k at) (s.held j) = refl
  same_entry (s.taken k at) (s.changed j c d) = refl
  same_entry (s.taken k at) (s.bound j w c) = refl
  same_entry (s.taken k at) (s.taken j bt) = same_key_states k j
  same_entry (s.taken k at) (s.given j bt) = refl
  same_entry (s.taken k at) (s.fresh j bt) = refl
  same_entry (s.given k at) (s.held j) = refl
  same_entry (s.given k at) (s.changed j c d) = refl
  same_entry (s.given k at) (s.bound j w c) = refl
  same_entry (s.given k at) (s.taken j bt) = refl
  same_entry (s.given k at) (s.given j bt) = same_key_states k j
  same_entry (s.given k at) (s.fresh j bt) = refl
  same_entry (s.fresh k at) (s.held j) = refl
  same_entry (s.fresh k at) (s.changed j c d) = refl
  same_entry (s.fresh k at) (s.bound j w c) = refl
  same_entry (s.fresh k at) (s.taken j bt) = refl
  same_entry (s.fresh k at) (s.given j bt) = refl
  same_entry (s.fresh k at) (s.fresh j bt) = same_key_states k j

  same_result : (x y : ResultType) → rules.same_result x (r.raised_result by y) ≡ rules.same_result x y
  same_result (s.void at) (s.void bt) = refl
  same_result (s.void at) (s.value u) = refl
  same_result (s.value t) (s.void bt) = refl
  same_result (s.value t) (s.value u) = same_ty t u

  same_parameter : (x y : Parameter) → rules.same_parameter x (r.raised_parameter by y) ≡ rules.same_parameter x y
  same_parameter x y = ap (λ b. b && rules.same_name x.name y.name) (same_ty x.ty y.ty)

  pub same_raised_head : (h k : Head) → rules.same_head h (r.raised_head by k) ≡ rules.same_head h k
  same_raised_head h k =
      ap₂ (λ x y. x && (rules.same_name h.name k.name && y)) (same_result h.result_type k.result_type)
      (ap₂ (λ x y. x && y) (same_each (r.raised_parameter by) rules.same_parameter same_parameter h.parameters k.parameters)
      (same_if (map (r.raised_entry by)) (rules.same_each rules.same_entry) (same_each (r.raised_entry by) rules.same_entry same_entry) h.clause k.clause))

  -- ---- refusals

  abbrev pub further_on : Refusal → Refusal
  further_on x = refusal x.rule (x.at + by)

  refuse_further : (b : Bool) (rule at : ℕ) → refuse_if b rule (at + by) ≡ map further_on (refuse_if b rule at)
  refuse_further true rule at = refl
  refuse_further false rule at = refl

  filled_raised : {A B : Type 0} (f : A → B) (xs : List A) → is_filled (map f xs) ≡ is_filled xs
  filled_raised f [] = refl
  filled_raised f (x ∷ xs) = refl

  given_further : (i d : Decl) → given_refused_by i (r.raised by d) ≡ map further_on (given_refused_by i d)
  given_further (s.stateset n ss at) (s.stateset k ks kat) = refl
  given_further (s.stateset n ss at) (s.abstract k ks kat) = refl
  given_further (s.stateset n ss at) (s.struct k qs ks gs us kat) = refl
  given_further (s.stateset n ss at) (s.variant k qs ds kat) = refl
  given_further (s.stateset n ss at) (s.extern g kat) = refl
  given_further (s.stateset n ss at) (s.function g c kat) = refl
  given_further (s.abstract n ss at) (s.stateset k ks kat) = refl
  given_further (s.abstract n ss at) (s.abstract k ks kat) = refl
  given_further (s.abstract n ss at) (s.struct k qs ks gs us kat) =
      ap₂ (λ x y. refuse_if (x || not y) rule.GIVEN_STRUCT (k.at.from + by)) (filled_raised (r.raised_header_key by) qs) (same_if (r.raised_name by) rules.same_name (λ x y. refl) ss ks) ∙
      refuse_further (is_filled qs || not (rules.same_if rules.same_name ss ks)) rule.GIVEN_STRUCT k.at.from
  given_further (s.abstract n ss at) (s.variant k qs ds kat) = refl
  given_further (s.abstract n ss at) (s.extern g kat) = refl
  given_further (s.abstract n ss at) (s.function g c kat) = refl
  given_further (s.struct n ps ss fs rs at) (s.stateset k ks kat) = refl
  given_further (s.struct n ps ss fs rs at) (s.abstract k ks kat) = refl
  given_further (s.struct n ps ss fs rs at) (s.struct k qs ks gs us kat) = refl
  given_further (s.struct n ps ss fs rs at) (s.variant k qs ds kat) = refl
  given_further (s.struct n ps ss fs rs at) (s.extern g kat) = refl
  given_further (s.struct n ps ss fs rs at) (s.function g c kat) = refl
  given_further (s.variant n ps cs at) (s.stateset k ks kat) = refl
  given_further (s.variant n ps cs at) (s.abstract k ks kat) = refl
  given_further (s.variant n ps cs at) (s.struct k qs ks gs us kat) = refl
  given_further (s.variant n ps cs at) (s.variant k qs ds kat) = refl
  given_further (s.variant n ps cs at) (s.extern g kat) = refl
  given_further (s.variant n ps cs at) (s.function g c kat) = refl
  given_further (s.extern h at) (s.stateset k ks kat) = refl
  given_further (s.extern h at) (s.abstract k ks kat) = refl
  given_further (s.extern h at) (s.struct k qs ks gs us kat) = refl
  given_further (s.extern h at) (s.variant k qs ds kat) = refl
  given_further (s.extern h at) (s.extern g kat) = refl
  given_further (s.extern h at) (s.function g c kat) = ap (λ b. refuse_if (not b) rule.GIVEN_HEAD (g.name.at.from + by)) (same_raised_head h g) ∙ refuse_further (not (rules.same_head h g)) rule.GIVEN_HEAD g.name.at.from
  given_further (s.function h b at) (s.stateset k ks kat) = refl
  given_further (s.function h b at) (s.abstract k ks kat) = refl
  given_further (s.function h b at) (s.struct k qs ks gs us kat) = refl
  given_further (s.function h b at) (s.variant k qs ds kat) = refl
  given_further (s.function h b at) (s.extern g kat) = refl
  given_further (s.function h b at) (s.function g c kat) = refl

  refused_further : (ms : List Decl) (i : Decl) → given_refused (map (r.raised by) ms) i ≡ map further_on (given_refused ms i)
  refused_further ms i = go (find (gives i) ms) refl
    where
      go : (o : Option Decl) → find (gives i) ms ≡ o → given_refused (map (r.raised by) ms) i ≡ map further_on (given_refused ms i)
      go None e = rw (found_raised i ms) (rw e refl)
      go (Some d) e = rw (found_raised i ms) (rw e (given_further i d))

  each_further : (ms is : List Decl) → of_each (given_refused (map (r.raised by) ms)) is ≡ map further_on (of_each (given_refused ms) is)
  each_further ms [] = refl
  each_further ms (i ∷ is) = ap₂ (λ x y. x ++ y) (refused_further ms i) (each_further ms is) ∙ sym (map-append further_on (given_refused ms i) (of_each (given_refused ms) is))

  before_further : (x y : Refusal) → is_before (further_on x) (further_on y) ≡ is_before x y
  before_further x y = ap₂ (λ a b. a || (b && nat_lt x.rule y.rule)) (lt x.at y.at) (eq x.at y.at)
    where
      lt : (a b : ℕ) → nat_lt (a + by) (b + by) ≡ nat_lt a b
      lt a b = grind arith

      eq : (a b : ℕ) → ((a + by) == (b + by)) ≡ (a == b)
      eq a b = grind arith

  lesser_further : (o : Option Refusal) (x : Refusal) → lesser (option_map further_on o) (further_on x) ≡ option_map further_on (lesser o x)
  lesser_further None x = refl
  lesser_further (Some y) x = ap (λ (b : Bool). if b then Some (further_on x) else Some (further_on y)) (before_further x y) ∙ go (is_before x y)
    where
      go : (b : Bool) → (if b then Some (further_on x) else Some (further_on y)) ≡ option_map further_on (if b then Some x else Some y)
      go true = refl
      go false = refl

  least_further : (o : Option Refusal) (xs : List Refusal) → least_from (option_map further_on o) (map further_on xs) ≡ option_map further_on (least_from o xs)
  least_further o [] = refl
  least_further o (x ∷ xs) = ap (λ p. least_from p (map further_on xs)) (lesser_further o x) ∙ least_further (lesser o x) xs

  -- the least refusal of a raised module is that of the module, so much further on
  pub given_least : (ms is : List Decl) → least (of_each (given_refused (map (r.raised by) ms)) is) ≡ option_map further_on (least (of_each (given_refused ms) is))
  given_least ms is = ap least (each_further ms is) ∙ least_further None (of_each (given_refused ms) is)

-- ---- what `view` answers

pub told_views : (i m : Tree) (v : View) → view_told i m ≡ Ok v → (view_refused i m ≡ None) × (viewed i m ≡ v)
told_views i m v e = go (least (of_each body_refused i.decls)) refl (least (of_each (given_refused m.decls) i.decls)) refl e
  where
    not_ok : (t : Told) → ◌≡◌ {A = Result View Told} (Err t) (Ok v) → ⊥
    not_ok t e = cc

    same : (w : View) → ◌≡◌ {A = Result View Told} (Ok w) (Ok v) → w ≡ v
    same w e = cc

    few : (b : Bool) → (if b then Err (exceeded 4) else Ok (viewed i m)) ≡ Ok v → viewed i m ≡ v
    few true e = absurd (not_ok (exceeded 4) e)
    few false e = same (viewed i m) e

    go : (x : Option Refusal) → least (of_each body_refused i.decls) ≡ x → (y : Option Refusal) → least (of_each (given_refused m.decls) i.decls) ≡ y →
        unless_in 0 x (unless_in 1 y (when_few (viewed i m).tree.decls (viewed i m))) ≡ Ok v → (view_refused i m ≡ None) × (viewed i m ≡ v)
    go None a None b e = (
      ap₂ (λ p q. rules.or_else p q) a (given_least RAISE m.decls i.decls ∙ ap (option_map (further_on RAISE)) b),
      few (nat_lt (limit_of DECLARATIONS) (length (viewed i m).tree.decls)) e,
    )
    go None a (Some x) b e = absurd (not_ok (broken x.rule (record { file = 1; at = x.at })) e)
    go (Some x) a y b e = absurd (not_ok (broken x.rule (record { file = 0; at = x.at })) e)
