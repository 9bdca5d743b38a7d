-- Heads that are the same token by token are the same but for places, and what a module gives fits.
use Rattle.std.proofs.Common.{◌≡◌, Bool, true, false, true≢false, not, ◌&&◌, ◌||◌, List, [], ◌∷◌, map, Option, Some, None, option_map, refl, sym, ap, ap₂}
use Rattle.std.proofs.lemmas.Slice.Eq.{bytes_eq-Decides}
use Rattle.vlt_syntax.specs.Tree as s
use Rattle.vlt_syntax.specs.Tree.{Name, States, KeyStates, Named, Ty, Entry, ResultType, Parameter, Head, Decl}
use Rattle.vlt_iface.specs.View.{gives}
use Rattle.vlt_iface.specs.declared.rules.TheConstants.{GIVEN_HEAD, GIVEN_STRUCT}
use Rattle.vlt_iface.specs.Rules.{same_name, same_each, same_if, same_states, same_key_states, same_named, same_ty, same_entry, same_result, same_parameter, same_head, is_filled, given_refused_by}
use Rattle.vlt_link_laws.proofs.OfMoves.Empty.{not_broken, not_false}
use Rattle.vlt_link_laws.proofs.Placeless.{placeless_span, placeless_name, placeless_names, placeless_states, placeless_key_states, placeless_named, placeless_ty, placeless_entry, placeless_result, placeless_parameter, placeless_head}
use Rattle.vlt_link_laws.proofs.Fits.{IsGiven}

both : (x y : Bool) → (x && y) ≡ true → (x ≡ true) × (y ≡ true)
both true y e = (refl, e)
both false y e = absurd (true≢false (sym e))

neither : (x y : Bool) → (x || y) ≡ false → (x ≡ false) × (y ≡ false)
neither true y e = absurd (true≢false e)
neither false y e = (refl, e)

pub off : {A : Type 0} → false ≡ true → A
off e = absurd (true≢false (sym e))

flat_each : {A : Type 0} (same : A → A → Bool) (flat : A → A) → ((x y : A) → same x y ≡ true → flat x ≡ flat y) → (xs ys : List A) → same_each same xs ys ≡ true → map flat xs ≡ map flat ys
flat_each same flat go [] [] e = refl
flat_each same flat go [] (y ∷ ys) e = off e
flat_each same flat go (x ∷ xs) [] e = off e
flat_each same flat go (x ∷ xs) (y ∷ ys) e = let h = both (same x y) (same_each same xs ys) e in ap₂ (λ x xs. x ∷ xs) (go x y h.0) (flat_each same flat go xs ys h.1)

flat_if : {A : Type 0} (same : A → A → Bool) (flat : A → A) → ((x y : A) → same x y ≡ true → flat x ≡ flat y) → (x y : Option A) → same_if same x y ≡ true → option_map flat x ≡ option_map flat y
flat_if same flat go None None e = refl
flat_if same flat go None (Some y) e = off e
flat_if same flat go (Some x) None e = off e
flat_if same flat go (Some x) (Some y) e = ap Some (go x y e)

flat_name : (n k : Name) → same_name n k ≡ true → placeless_name n ≡ placeless_name k
flat_name n k e = ap (λ t. let r : Name = record { text = t; at = placeless_span n.at } in r) ((bytes_eq-Decides n.text k.text).0 e)

flat_names : (ns ks : List Name) → same_each same_name ns ks ≡ true → placeless_names ns ≡ placeless_names ks
flat_names ns ks e = flat_each same_name placeless_name flat_name ns ks e

flat_states : (x y : States) → same_states x y ≡ true → placeless_states x ≡ placeless_states y
flat_states (s.one n) (s.one k) e = ap s.one (flat_name n k e)
flat_states (s.one n) (s.several ks kat) e = off e
flat_states (s.several ns at) (s.one k) e = off e
flat_states (s.several ns at) (s.several ks kat) e = ap (λ ns. s.several ns (placeless_span at)) (flat_names ns ks e)

flat_key_states : (x y : KeyStates) → same_key_states x y ≡ true → placeless_key_states x ≡ placeless_key_states y
flat_key_states x y e =
    let h = both (same_name x.key y.key) (same_if same_states x.states y.states) e in
    ap₂ (λ (k : Name) (ss : Option States). let r : KeyStates = record { key = k; states = ss } in r) (flat_name x.key y.key h.0) (flat_if same_states placeless_states flat_states x.states y.states h.1)

flat_named : (x y : Named) → same_named x y ≡ true → placeless_named x ≡ placeless_named y
flat_named x y e =
    let h = both (same_name x.name y.name) (same_each same_name x.keys y.keys) e in
    ap₂ (λ (n : Name) (ks : List Name). let r : Named = record { name = n; keys = ks } in r) (flat_name x.name y.name h.0) (flat_names x.keys y.keys h.1)

flat_ty : (x y : Ty) → same_ty x y ≡ true → placeless_ty x ≡ placeless_ty y
flat_ty (s.int at1) (s.int at2) e = refl
flat_ty (s.int at1) (s.bool at2) e = off e
flat_ty (s.int at1) (s.tracked k2 n2 at2) e = off e
flat_ty (s.int at1) (s.owning ss2 n2 at2) e = off e
flat_ty (s.int at1) (s.guarded k2 n2) e = off e
flat_ty (s.int at1) (s.plain n2) e = off e
flat_ty (s.bool at1) (s.int at2) e = off e
flat_ty (s.bool at1) (s.bool at2) e = refl
flat_ty (s.bool at1) (s.tracked k2 n2 at2) e = off e
flat_ty (s.bool at1) (s.owning ss2 n2 at2) e = off e
flat_ty (s.bool at1) (s.guarded k2 n2) e = off e
flat_ty (s.bool at1) (s.plain n2) e = off e
flat_ty (s.tracked k1 n1 at1) (s.int at2) e = off e
flat_ty (s.tracked k1 n1 at1) (s.bool at2) e = off e
flat_ty (s.tracked k1 n1 at1) (s.tracked k2 n2 at2) e = let h = both (same_name k1 k2) (same_named n1 n2) e in ap₂ (λ k n. s.tracked k n (placeless_span at1)) (flat_name k1 k2 h.0) (flat_named n1 n2 h.1)
flat_ty (s.tracked k1 n1 at1) (s.owning ss2 n2 at2) e = off e
flat_ty (s.tracked k1 n1 at1) (s.guarded k2 n2) e = off e
flat_ty (s.tracked k1 n1 at1) (s.plain n2) e = off e
flat_ty (s.owning ss1 n1 at1) (s.int at2) e = off e
flat_ty (s.owning ss1 n1 at1) (s.bool at2) e = off e
flat_ty (s.owning ss1 n1 at1) (s.tracked k2 n2 at2) e = off e
flat_ty (s.owning ss1 n1 at1) (s.owning ss2 n2 at2) e = let h = both (same_if same_states ss1 ss2) (same_named n1 n2) e in ap₂ (λ k n. s.owning k n (placeless_span at1)) (flat_if same_states placeless_states flat_states ss1 ss2 h.0) (flat_named n1 n2 h.1)
flat_ty (s.owning ss1 n1 at1) (s.guarded k2 n2) e = off e
flat_ty (s.owning ss1 n1 at1) (s.plain n2) e = off e
flat_ty (s.guarded k1 n1) (s.int at2) e = off e
flat_ty (s.guarded k1 n1) (s.bool at2) e = off e
flat_ty (s.guarded k1 n1) (s.tracked k2 n2 at2) e = off e
flat_ty (s.guarded k1 n1) (s.owning ss2 n2 at2) e = off e
flat_ty (s.guarded k1 n1) (s.guarded k2 n2) e = let h = both (same_name k1 k2) (same_named n1 n2) e in ap₂ s.guarded (flat_name k1 k2 h.0) (flat_named n1 n2 h.1)
flat_ty (s.guarded k1 n1) (s.plain n2) e = off e
flat_ty (s.plain n1) (s.int at2) e = off e
flat_ty (s.plain n1) (s.bool at2) e = off e
flat_ty (s.plain n1) (s.tracked k2 n2 at2) e = off e
flat_ty (s.plain n1) (s.owning ss2 n2 at2) e = off e
flat_ty (s.plain n1) (s.guarded k2 n2) e = off e
flat_ty (s.plain n1) (s.plain n2) e = ap s.plain (flat_named n1 n2 e)

flat_entry : (x y : Entry) → same_entry x y ≡ true → placeless_entry x ≡ placeless_entry y
flat_entry (s.held k1) (s.held k2) e = ap s.held (flat_key_states k1 k2 e)
flat_entry (s.held k1) (s.changed k2 b2 a2) e = off e
flat_entry (s.held k1) (s.bound k2 v2 b2) e = off e
flat_entry (s.held k1) (s.taken k2 at2) e = off e
flat_entry (s.held k1) (s.given k2 at2) e = off e
flat_entry (s.held k1) (s.fresh k2 at2) e = off e
flat_entry (s.changed k1 b1 a1) (s.held k2) e = off e
flat_entry (s.changed k1 b1 a1) (s.changed k2 b2 a2) e = let h = both (same_name k1 k2) (same_states b1 b2 && same_states a1 a2) e in let g = both (same_states b1 b2) (same_states a1 a2) h.1 in ap (λ (x : Name × States × States). s.changed x.0 x.1 x.2) (ap₂ (λ (k : Name) (x : States × States). (k, x.0, x.1)) (flat_name k1 k2 h.0) (ap₂ (λ (x y : States). (x, y)) (flat_states b1 b2 g.0) (flat_states a1 a2 g.1)))
flat_entry (s.changed k1 b1 a1) (s.bound k2 v2 b2) e = off e
flat_entry (s.changed k1 b1 a1) (s.taken k2 at2) e = off e
flat_entry (s.changed k1 b1 a1) (s.given k2 at2) e = off e
flat_entry (s.changed k1 b1 a1) (s.fresh k2 at2) e = off e
flat_entry (s.bound k1 v1 b1) (s.held k2) e = off e
flat_entry (s.bound k1 v1 b1) (s.changed k2 b2 a2) e = off e
flat_entry (s.bound k1 v1 b1) (s.bound k2 v2 b2) e =
    let h = both (same_name k1 k2) (same_name v1 v2 && same_name b1 b2) e in
    let g = both (same_name v1 v2) (same_name b1 b2) h.1 in
    ap (λ (x : Name × Name × Name). s.bound x.0 x.1 x.2)
    (ap₂ (λ (k : Name) (x : Name × Name). (k, x.0, x.1)) (flat_name k1 k2 h.0) (ap₂ (λ (v b : Name). (v, b)) (flat_name v1 v2 g.0) (flat_name b1 b2 g.1)))
flat_entry (s.bound k1 v1 b1) (s.taken k2 at2) e = off e
flat_entry (s.bound k1 v1 b1) (s.given k2 at2) e = off e
flat_entry (s.bound k1 v1 b1) (s.fresh k2 at2) e = off e
flat_entry (s.taken k1 at1) (s.held k2) e = off e
flat_entry (s.taken k1 at1) (s.changed k2 b2 a2) e = off e
flat_entry (s.taken k1 at1) (s.bound k2 v2 b2) e = off e
flat_entry (s.taken k1 at1) (s.taken k2 at2) e = ap (λ k. s.taken k (placeless_span at1)) (flat_key_states k1 k2 e)
flat_entry (s.taken k1 at1) (s.given k2 at2) e = off e
flat_entry (s.taken k1 at1) (s.fresh k2 at2) e = off e
flat_entry (s.given k1 at1) (s.held k2) e = off e
flat_entry (s.given k1 at1) (s.changed k2 b2 a2) e = off e
flat_entry (s.given k1 at1) (s.bound k2 v2 b2) e = off e
flat_entry (s.given k1 at1) (s.taken k2 at2) e = off e
flat_entry (s.given k1 at1) (s.given k2 at2) e = ap (λ k. s.given k (placeless_span at1)) (flat_key_states k1 k2 e)
flat_entry (s.given k1 at1) (s.fresh k2 at2) e = off e
flat_entry (s.fresh k1 at1) (s.held k2) e = off e
flat_entry (s.fresh k1 at1) (s.changed k2 b2 a2) e = off e
flat_entry (s.fresh k1 at1) (s.bound k2 v2 b2) e = off e
flat_entry (s.fresh k1 at1) (s.taken k2 at2) e = off e
flat_entry (s.fresh k1 at1) (s.given k2 at2) e = off e
flat_entry (s.fresh k1 at1) (s.fresh k2 at2) e = ap (λ k. s.fresh k (placeless_span at1)) (flat_key_states k1 k2 e)

flat_result : (x y : ResultType) → same_result x y ≡ true → placeless_result x ≡ placeless_result y
flat_result (s.void at1) (s.void at2) e = refl
flat_result (s.void at1) (s.value t2) e = off e
flat_result (s.value t1) (s.void at2) e = off e
flat_result (s.value t1) (s.value t2) e = ap s.value (flat_ty t1 t2 e)

flat_parameter : (x y : Parameter) → same_parameter x y ≡ true → placeless_parameter x ≡ placeless_parameter y
flat_parameter x y e =
    let h = both (same_ty x.ty y.ty) (same_name x.name y.name) e in
    ap₂ (λ (t : Ty) (n : Name). let r : Parameter = record { ty = t; name = n } in r) (flat_ty x.ty y.ty h.0) (flat_name x.name y.name h.1)

pub flat_head : (h g : Head) → same_head h g ≡ true → placeless_head h ≡ placeless_head g
flat_head h g e =
    let one = both (same_result h.result_type g.result_type) _ e in
    let two = both (same_name h.name g.name) _ one.1 in
    let three = both (same_each same_parameter h.parameters g.parameters) (same_if (same_each same_entry) h.clause g.clause) two.1 in
    ap₂ (λ (x : ResultType × Name) (y : List Parameter × Option (List Entry)). let r : Head = record { result_type = x.0; name = x.1; parameters = y.0; clause = y.1; at = placeless_span h.at } in r)
    (ap₂ (λ (x : ResultType) (y : Name). (x, y)) (flat_result h.result_type g.result_type one.0) (flat_name h.name g.name two.0))
    (ap₂ (λ (x : List Parameter) (y : Option (List Entry)). (x, y)) (flat_each same_parameter placeless_parameter flat_parameter h.parameters g.parameters three.0)
    (flat_if (same_each same_entry) (map placeless_entry) (flat_each same_entry placeless_entry flat_entry) h.clause g.clause three.1))

empty : {A : Type 0} (xs : List A) → is_filled xs ≡ false → xs ≡ []
empty [] e = refl
empty (x ∷ xs) e = absurd (true≢false e)

same_texts : (ss rs : Option Name) → same_if same_name ss rs ≡ true → option_map (λ x. x.text) rs ≡ option_map (λ x. x.text) ss
same_texts None None e = refl
same_texts None (Some r) e = off e
same_texts (Some t) None e = off e
same_texts (Some t) (Some r) e = ap Some (sym ((bytes_eq-Decides t.text r.text).0 e))

-- what gives a declaration, and isn't refused by rules 48 and 49, fits it
pub given_fits : (i d : Decl) → gives i d ≡ true → given_refused_by i d ≡ [] → IsGiven i d
given_fits (s.stateset n1 ss1 at1) (s.stateset n2 ss2 at2) e none = off e
given_fits (s.stateset n1 ss1 at1) (s.abstract n2 ss2 at2) e none = off e
given_fits (s.stateset n1 ss1 at1) (s.struct n2 ps2 ss2 fs2 r2 at2) e none = off e
given_fits (s.stateset n1 ss1 at1) (s.variant n2 ps2 cs2 at2) e none = off e
given_fits (s.stateset n1 ss1 at1) (s.extern h2 at2) e none = off e
given_fits (s.stateset n1 ss1 at1) (s.function h2 b2 at2) e none = off e
given_fits (s.abstract n1 ss1 at1) (s.stateset n2 ss2 at2) e none = off e
given_fits (s.abstract n1 ss1 at1) (s.abstract n2 ss2 at2) e none = off e
given_fits (s.abstract n1 ss1 at1) (s.struct n2 ps2 ss2 fs2 r2 at2) e none = let h = neither (is_filled ps2) (not (same_if same_name ss1 ss2)) (not_broken (is_filled ps2 || not (same_if same_name ss1 ss2)) GIVEN_STRUCT n2.at.from none) in (sym ((bytes_eq-Decides n1.text n2.text).0 e), empty ps2 h.0, same_texts ss1 ss2 (not_false (same_if same_name ss1 ss2) h.1))
given_fits (s.abstract n1 ss1 at1) (s.variant n2 ps2 cs2 at2) e none = off e
given_fits (s.abstract n1 ss1 at1) (s.extern h2 at2) e none = off e
given_fits (s.abstract n1 ss1 at1) (s.function h2 b2 at2) e none = off e
given_fits (s.struct n1 ps1 ss1 fs1 r1 at1) (s.stateset n2 ss2 at2) e none = off e
given_fits (s.struct n1 ps1 ss1 fs1 r1 at1) (s.abstract n2 ss2 at2) e none = off e
given_fits (s.struct n1 ps1 ss1 fs1 r1 at1) (s.struct n2 ps2 ss2 fs2 r2 at2) e none = off e
given_fits (s.struct n1 ps1 ss1 fs1 r1 at1) (s.variant n2 ps2 cs2 at2) e none = off e
given_fits (s.struct n1 ps1 ss1 fs1 r1 at1) (s.extern h2 at2) e none = off e
given_fits (s.struct n1 ps1 ss1 fs1 r1 at1) (s.function h2 b2 at2) e none = off e
given_fits (s.variant n1 ps1 cs1 at1) (s.stateset n2 ss2 at2) e none = off e
given_fits (s.variant n1 ps1 cs1 at1) (s.abstract n2 ss2 at2) e none = off e
given_fits (s.variant n1 ps1 cs1 at1) (s.struct n2 ps2 ss2 fs2 r2 at2) e none = off e
given_fits (s.variant n1 ps1 cs1 at1) (s.variant n2 ps2 cs2 at2) e none = off e
given_fits (s.variant n1 ps1 cs1 at1) (s.extern h2 at2) e none = off e
given_fits (s.variant n1 ps1 cs1 at1) (s.function h2 b2 at2) e none = off e
given_fits (s.extern h1 at1) (s.stateset n2 ss2 at2) e none = off e
given_fits (s.extern h1 at1) (s.abstract n2 ss2 at2) e none = off e
given_fits (s.extern h1 at1) (s.struct n2 ps2 ss2 fs2 r2 at2) e none = off e
given_fits (s.extern h1 at1) (s.variant n2 ps2 cs2 at2) e none = off e
given_fits (s.extern h1 at1) (s.extern h2 at2) e none = off e
given_fits (s.extern h1 at1) (s.function h2 b2 at2) e none = sym (flat_head h1 h2 (not_false (same_head h1 h2) (not_broken (not (same_head h1 h2)) GIVEN_HEAD h2.name.at.from none)))
given_fits (s.function h1 b1 at1) (s.stateset n2 ss2 at2) e none = off e
given_fits (s.function h1 b1 at1) (s.abstract n2 ss2 at2) e none = off e
given_fits (s.function h1 b1 at1) (s.struct n2 ps2 ss2 fs2 r2 at2) e none = off e
given_fits (s.function h1 b1 at1) (s.variant n2 ps2 cs2 at2) e none = off e
given_fits (s.function h1 b1 at1) (s.extern h2 at2) e none = off e
given_fits (s.function h1 b1 at1) (s.function h2 b2 at2) e none = off e
