-- What is judged asks which names stand before, and not in which order.
use Rattle.std.proofs.Common.{◌≡◌, Bool, true, false, not, ◌||◌, List, [], ◌∷◌, ◌++◌, refl, ap, ◌∙◌}
use Rattle.c_syntax.specs.declared.program.CVar.{CVar}
use Rattle.c_syntax.specs.declared.program.CName.{CName}
use Rattle.c_syntax.specs.Unit.{Declaration, Head, Body}
use Rattle.c_syntax.specs.Kinds as k
use Rattle.c_syntax.specs.Kinds.{Walk, is_one_of, has_name, same_bool, same_name, same_variable}

or_turned : (a b c : Bool) → (a || (b || c)) ≡ (b || (a || c))
or_turned true true c = refl
or_turned true false c = refl
or_turned false true c = refl
or_turned false false c = refl

-- ---- declarations

one_after : (u v : CVar) (vs : List CVar) → is_one_of u (vs ++ v ∷ []) ≡ is_one_of u (v ∷ vs)
one_after u v [] = refl
one_after u v (w ∷ ws) = ap (λ b. same_variable u w || b) (one_after u v ws) ∙ or_turned (same_variable u w) (same_variable u v) (is_one_of u ws)

declared_same : (ds : List Declaration) (vs ws : List CVar) (w : Walk) → ((u : CVar) → is_one_of u vs ≡ is_one_of u ws) → k.declarations_judged vs ds w ≡ k.declarations_judged ws ds w
declared_same [] vs ws w h = refl
declared_same (d ∷ ds) vs ws w h =
    let first : Walk = k.skip (k.type_width d.reference) w in
    let following : Bool → Walk = λ b. k.skip 2 (k.unless_here (same_bool d.reference d.variable.reference) 2 (k.unless_here (not b) 1 first)) in
    ap (λ b. k.declarations_judged (d.variable ∷ vs) ds (following b)) (h d.variable)
    ∙ declared_same ds (d.variable ∷ vs) (d.variable ∷ ws) (following (is_one_of d.variable ws)) (λ u. ap (λ b. same_variable u d.variable || b) (h u))

-- one after another
pub declared_next : (vs : List CVar) (d : Declaration) (ds : List Declaration) (w : Walk) → k.declarations_judged (vs ++ d.variable ∷ []) ds (k.declarations_judged vs (d ∷ []) w) ≡ k.declarations_judged vs (d ∷ ds) w
declared_next vs d ds w = declared_same ds (vs ++ d.variable ∷ []) (d.variable ∷ vs) (k.declarations_judged vs (d ∷ []) w) (λ u. one_after u d.variable vs)

-- ---- heads

name_after : (f : CName) (g : Head) (hs : List Head) → has_name f (hs ++ g ∷ []) ≡ has_name f (g ∷ hs)
name_after f g [] = refl
name_after f g (h ∷ hs) = ap (λ b. same_name f h.name || b) (name_after f g hs) ∙ or_turned (same_name f h.name) (same_name f g.name) (has_name f hs)

heads_same : (bodies hs gs is : List Head) (w : Walk) → ((f : CName) → has_name f gs ≡ has_name f is) → k.heads_judged bodies gs hs w ≡ k.heads_judged bodies is hs w
heads_same bodies [] gs is w e = refl
heads_same bodies (h ∷ hs) gs is w e =
    let first : Walk = k.skip (k.result_width h.result) w in
    let following : Bool → Walk = λ b. k.skip 1 (k.params_judged h.params (k.skip 2 (k.unless_here (k.has_head h bodies) 6 (k.unless_here (not b) 1 first)))) in
    ap (λ b. k.heads_judged bodies (h ∷ gs) hs (following b)) (e h.name)
    ∙ heads_same bodies hs (h ∷ gs) (h ∷ is) (following (has_name h.name is)) (λ f. ap (λ b. same_name f h.name || b) (e f))

pub heads_next : (bodies before : List Head) (h : Head) (hs : List Head) (w : Walk) → k.heads_judged bodies (before ++ h ∷ []) hs (k.heads_judged bodies before (h ∷ []) w) ≡ k.heads_judged bodies before (h ∷ hs) w
heads_next bodies before h hs w = heads_same bodies hs (before ++ h ∷ []) (h ∷ before) (k.heads_judged bodies before (h ∷ []) w) (λ f. name_after f h before)

-- ---- functions with their bodies

bodies_same : (heads : List Head) (bs : List Body) (gs is : List Head) (w : Walk) → ((f : CName) → has_name f gs ≡ has_name f is) → k.bodies_judged heads gs bs w ≡ k.bodies_judged heads is bs w
bodies_same heads [] gs is w e = refl
bodies_same heads (b ∷ bs) gs is w e =
    let first : Walk = k.skip (k.result_width b.head.result) w in
    let following : Bool → Walk = λ t. k.skip 1 (k.stmts_judged (k.scope_of heads b) false b.stmts (k.declarations_judged (k.names_of b.head.params) b.vars
    (k.skip 1 (k.params_judged b.head.params (k.skip 2 (k.unless_here (k.has_head b.head heads) 6 (k.unless_here (not t) 6 first))))))) in
    ap (λ t. k.bodies_judged heads (b.head ∷ gs) bs (following t)) (e b.head.name)
    ∙ bodies_same heads bs (b.head ∷ gs) (b.head ∷ is) (following (has_name b.head.name is)) (λ f. ap (λ t. same_name f b.head.name || t) (e f))

pub bodies_next : (heads before : List Head) (b : Body) (bs : List Body) (w : Walk) → k.bodies_judged heads (before ++ b.head ∷ []) bs (k.body_judged heads before b w) ≡ k.bodies_judged heads before (b ∷ bs) w
bodies_next heads before b bs w = bodies_same heads bs (before ++ b.head ∷ []) (b.head ∷ before) (k.body_judged heads before b w) (λ f. name_after f b.head before)
