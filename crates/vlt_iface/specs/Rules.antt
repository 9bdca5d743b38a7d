-- The rules on what a module gives, which come before all others: what each refuses, and where.
use Rattle.std.specs.Prelude.{Bool, true, false, not, ◌&&◌, ◌||◌, List, [], ◌∷◌, map, Option, Some, None}
use Rattle.std.specs.List.{find}
use Rattle.std.specs.Str.{bytes_eq}
use Rattle.vlt_syntax.specs.Tree as s
use Rattle.vlt_syntax.specs.Tree.{Name, States, KeyStates, Named, Ty, Entry, ResultType, Parameter, Head, Decl, Tree}
use Rattle.vlt_kinds_types.specs.declared.names.found.Refusal.{Refusal}
use Rattle.vlt_kinds_types.specs.Names.Refusals.{refusal, refuse_if, of_each, least}
use Rattle.vlt_syntax_copies.specs.Raised.{raised}
use Rattle.vlt_iface.specs.declared.rules.TheConstants as rule
use Rattle.vlt_iface.specs.declared.places.TheConstants.{RAISE}
use Rattle.vlt_iface.specs.View.{gives}

-- ---- 47: an interface has a function with a body

abbrev pub body_refused : Decl → List Refusal
body_refused (s.function h b at) = refusal rule.INTERFACE_BODY h.name.at.from ∷ []
body_refused _ = []

-- ---- 48: a given function's head is the external's, token by token

abbrev pub same_name : Name → Name → Bool
same_name n k = bytes_eq n.text k.text

abbrev pub same_each : {A : Type 0} → (A → A → Bool) → List A → List A → Bool
same_each same [] [] = true
same_each same (x ∷ xs) (y ∷ ys) = same x y && same_each same xs ys
same_each same _ _ = false

abbrev pub same_if : {A : Type 0} → (A → A → Bool) → Option A → Option A → Bool
same_if same None None = true
same_if same (Some x) (Some y) = same x y
same_if same _ _ = false

-- braces round one state are tokens too
abbrev pub same_states : States → States → Bool
same_states (s.one n) (s.one k) = same_name n k
same_states (s.several ns at) (s.several ks kat) = same_each same_name ns ks
same_states _ _ = false

abbrev pub same_key_states : KeyStates → KeyStates → Bool
same_key_states x y = same_name x.key y.key && same_if same_states x.states y.states

abbrev pub same_named : Named → Named → Bool
same_named x y = same_name x.name y.name && same_each same_name x.keys y.keys

abbrev pub same_ty : Ty → Ty → Bool
same_ty (s.int at) (s.int bt) = true
same_ty (s.bool at) (s.bool bt) = true
same_ty (s.tracked k n at) (s.tracked j l bt) = same_name k j && same_named n l
same_ty (s.owning ss n at) (s.owning rs l bt) = same_if same_states ss rs && same_named n l
same_ty (s.guarded k n) (s.guarded j l) = same_name k j && same_named n l
same_ty (s.plain n) (s.plain l) = same_named n l
same_ty _ _ = false

abbrev pub same_entry : Entry → Entry → Bool
same_entry (s.held k) (s.held j) = same_key_states k j
same_entry (s.changed k b a) (s.changed j c d) = same_name k j && (same_states b c && same_states a d)
same_entry (s.bound k v b) (s.bound j w c) = same_name k j && (same_name v w && same_name b c)
same_entry (s.taken k at) (s.taken j bt) = same_key_states k j
same_entry (s.given k at) (s.given j bt) = same_key_states k j
same_entry (s.fresh k at) (s.fresh j bt) = same_key_states k j
same_entry _ _ = false

abbrev pub same_result : ResultType → ResultType → Bool
same_result (s.void at) (s.void bt) = true
same_result (s.value t) (s.value u) = same_ty t u
same_result _ _ = false

abbrev pub same_parameter : Parameter → Parameter → Bool
same_parameter p q = same_ty p.ty q.ty && same_name p.name q.name

-- no clause, and one without entries, are other tokens
abbrev pub same_head : Head → Head → Bool
same_head h k =
    same_result h.result_type k.result_type && (same_name h.name k.name &&
    (same_each same_parameter h.parameters k.parameters && same_if (same_each same_entry) h.clause k.clause))

-- ---- 49: a given struct has no header, and the abstract type's state set, or none where that has none

abbrev pub is_filled : {A : Type 0} → List A → Bool
is_filled [] = false
is_filled (x ∷ xs) = true

abbrev pub given_refused_by : Decl → Decl → List Refusal
given_refused_by (s.extern h at) (s.function g b gat) = refuse_if (not (same_head h g)) rule.GIVEN_HEAD g.name.at.from
given_refused_by (s.abstract n ss at) (s.struct k ps rs fs r kat) =
    refuse_if (is_filled ps || not (same_if same_name ss rs)) rule.GIVEN_STRUCT k.at.from
given_refused_by _ _ = []

-- what the module gives for this declaration
abbrev pub given_refused : List Decl → Decl → List Refusal
given_refused ms i = by (find (gives i) ms)
  where
    by : Option Decl → List Refusal
    by None = []
    by (Some d) = given_refused_by i d

-- ---- the refusal that is told, where there is one: 47 is tested first, then 48 and 49 in one walk

abbrev pub or_else : Option Refusal → Option Refusal → Option Refusal
or_else None other = other
or_else (Some r) other = Some r

abbrev pub view_refused : Tree → Tree → Option Refusal
view_refused i m =
    or_else (least (of_each body_refused i.decls))
    (least (of_each (given_refused (map (raised RAISE) m.decls)) i.decls))
