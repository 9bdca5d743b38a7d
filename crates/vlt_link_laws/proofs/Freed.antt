-- What a declaration binds in its view is free in the joined declarations, where the names of no module clash.
use Rattle.std.proofs.Common.{◌≡◌, ℕ, ◌==◌, ◌-◌, eqb-true, Bool, true, false, true≢false, ◌||◌, if◌then◌else◌, is_some, List, [], ◌∷◌, ◌++◌, map, filter, length, Option, Some, None, refl, sym, ap, ap₂, ◌∙◌, subst, arith}
use Rattle.std.proofs.lemmas.List.{map-append}
use Rattle.std.proofs.lemmas.Slice.Eq.{bytes_eq-Decides}
use Rattle.std.specs.List.{list_any, flat_map}
use Rattle.std.specs.Str.{bytes_eq}
use Rattle.vlt_syntax.specs.Tree as s
use Rattle.vlt_syntax.specs.Tree.{Name, Ty, Stmt, Block, If, Else, Stmts, Arms, HeaderKey, Entry, ResultType, Parameter, Head, Decl}
use Rattle.vlt_syntax.specs.Lists.{Each}
use Rattle.vlt_syntax.specs.Grammar.{Bounds, IsSomeArm, IsStmt, IsBlock, IsIf, IsElse, AreStmts, AreArms, IsDecl}
use Rattle.vlt_core.specs.Core.{TypeDecl}
use Rattle.vlt_core.specs.declared.rules.TheConstants as rule
use Rattle.vlt_kinds_types.specs.Names.Globals.{Globals, is_global, globals_of, decl_name, Counts, global_of, counts_after, no_counts}
use Rattle.vlt_kinds_decls.specs.Names as nam
use Rattle.vlt_kinds_types.specs.Names.Refusals.{refuse, of_each}
use Rattle.vlt_kinds_types.specs.Names.Along.{along}
use Rattle.vlt_kinds_types.specs.Files.{File, shape_named}
use Rattle.vlt_kinds_types.specs.declared.shapes.Shape.{Shape}
use Rattle.vlt_kinds_types.specs.declared.shapes.Wanted.{Wanted}
use Rattle.vlt_kinds_types.specs.declared.shapes.Wanted.TheVariants as wanted
use Rattle.vlt_kinds_types.specs.Types.{KeyUse, key_use, argument_uses, header_uses, named_uses, ty_uses}
use Rattle.vlt_kinds_heads.specs.Places.{HeadName, used_name, entry_name, parameter_name, parameter_names, head_names, clause_in, result_uses, parameter_uses}
use Rattle.vlt_kinds_heads.specs.Keys.{Keys, places_after, keys_after}
use Rattle.vlt_kinds_heads.specs.Bounds.{is_key, is_parameter, is_taken, variable_refused, after_bound, variables_refused}
use Rattle.vlt_kinds_heads.specs.Heads.{Seen, is_repeated, with_name, name_refused, names_refused, types_refused, clause_again, typings_refused, result_refused, entry_refused, head_refused_by, head_refused}
use Rattle.vlt_kinds_heads.specs.Phase.{extern_refused, heads_refused_in}
use Rattle.vlt_kinds_types.specs.Kinds.{Kinds}
use Rattle.vlt_kinds.specs.Tables.{kinds_of}
use Rattle.vlt_elaboration.specs.Elaboration.{stmts_in}
use Rattle.vlt_iface.specs.View.{others, view_decls}
use Rattle.vlt_iface.specs.Rules.{body_refused}
use Rattle.vlt_iface.specs.Clash.{keys_in, bound_names, block_bound, if_bound, else_bound, stmts_bound, arms_bound, entry_key, entry_variables, result_keys, clause_names, head_bound, decl_bound}
use Rattle.vlt_iface.proofs.Raising.{texts}
use Rattle.vlt_link_laws.specs.Moves.Sees.{IsFree, AreFree}
use Rattle.vlt_link_laws.specs.Moves.Apt.{HasArm, IsApt, IsAptBlock, IsAptIf, IsAptElse, IsAptStmts, IsAptArms}
use Rattle.vlt_link_laws.proofs.OfMoves.Empty.{cons_not_nil, no_left, no_right, not_broken}
use Rattle.vlt_link_laws.proofs.OfMoves.Names.{first_in, named}
use Rattle.vlt_link_laws.proofs.OfMoves.Rights.{free_left, free_right}
use Rattle.vlt_link_laws.proofs.OfMoves.HeadRules.{IsFreeHead, IsFreeVariable}
use Rattle.vlt_link_laws.proofs.Parts.{AreFreeNames, IsFreeDecl}
use Rattle.vlt_link_laws.proofs.Viewing.{further, others_both}
use Rattle.vlt_link_laws.proofs.Again.{Text, Other, name_texts, view_texts}
use Rattle.vlt_link_laws.proofs.Placed.{each_join}

-- ---- names of a list of declarations

abbrev among : Text → List Text → Bool
among n = list_any (bytes_eq n)

first_among : (c : Counts) (ds : List Decl) (n : Text) → is_some (first_in c ds n) ≡ among n (name_texts ds)
first_among c [] n = refl
first_among c (d ∷ ds) n = by (bytes_eq n (decl_name d).text) (first_among (counts_after c d) ds n)
  where
    by : (b : Bool) → is_some (first_in (counts_after c d) ds n) ≡ among n (name_texts ds) →
        is_some (if b then Some (global_of c d) else first_in (counts_after c d) ds n) ≡ (b || among n (name_texts ds))
    by true rest = refl
    by false rest = rest

pub is_declared : (ds : List Decl) (n : Text) → is_global (globals_of ds) n ≡ among n (name_texts ds)
is_declared ds n = ap is_some (named (λ n k e. (bytes_eq-Decides n k).0 e) ds n) ∙ first_among no_counts ds n

among_both : (n : Text) (xs ys : List Text) → among n (xs ++ ys) ≡ (among n xs || among n ys)
among_both n [] ys = refl
among_both n (x ∷ xs) ys = ap (λ b. bytes_eq n x || b) (among_both n xs ys) ∙ by (bytes_eq n x)
  where
    by : (b : Bool) → (b || (among n xs || among n ys)) ≡ ((b || among n xs) || among n ys)
    by true = refl
    by false = refl

none_among : (n : Text) (ts : List Text) → Each (Other n) ts → among n ts ≡ false
none_among n [] far = refl
none_among n (t ∷ ts) far = ap₂ (λ x y. x || y) far.0 (none_among n ts far.1)

pub or_off : (x y : Bool) → (x || y) ≡ false → (x ≡ false) × (y ≡ false)
or_off true y e = absurd (true≢false e)
or_off false y e = (refl, e)

all_off : (x y z : Bool) → x ≡ false → y ≡ false → z ≡ false → (x || (y || z)) ≡ false
all_off x y z e f g = ap₂ (λ p q. p || q) e (ap₂ (λ p q. p || q) f g)

module _ (is fs gs : List Decl) where
  abbrev here : List Text
  here = name_texts is

  abbrev firsts : List Text
  firsts = name_texts (others is [] fs)

  abbrev seconds : List Text
  seconds = name_texts (others is fs gs)

  joined_texts : name_texts (view_decls is (fs ++ gs)) ≡ here ++ (firsts ++ seconds)
  joined_texts =
      view_texts is (fs ++ gs) ∙
      ap (λ ts. here ++ ts) (ap name_texts (others_both is [] fs gs) ∙ map-append (λ d. (decl_name d).text) (others is [] fs) (others is fs gs))

  in_joined : (n : Text) → is_global (globals_of (view_decls is (fs ++ gs))) n ≡ (among n here || (among n firsts || among n seconds))
  in_joined n =
      is_declared (view_decls is (fs ++ gs)) n ∙ (ap (among n) joined_texts ∙ (among_both n here (firsts ++ seconds) ∙ ap (λ b. among n here || b) (among_both n firsts seconds)))

  in_view : (ms : List Decl) (n : Text) → is_global (globals_of (view_decls is ms)) n ≡ (among n here || among n (name_texts (others is [] ms)))
  in_view ms n = is_declared (view_decls is ms) n ∙ (ap (among n) (view_texts is ms) ∙ among_both n here (name_texts (others is [] ms)))

  module _ (rest : others is fs gs ≡ others is [] gs) where
    in_second : (n : Text) → is_global (globals_of (view_decls is gs)) n ≡ (among n here || among n seconds)
    in_second n = in_view gs n ∙ ap (λ ds. among n here || among n (name_texts ds)) (sym rest)

    -- a name that isn't the other module's
    pub first_free : (n : Text) → Each (Other n) seconds → IsFree (kinds_of (view_decls is fs)) (kinds_of (view_decls is (fs ++ gs))) n
    first_free n far e =
        let both = or_off (among n here) (among n firsts) (sym (in_view fs n) ∙ e) in
        in_joined n ∙ all_off (among n here) (among n firsts) (among n seconds) both.0 both.1 (none_among n seconds far)

    pub second_free : (n : Text) → Each (Other n) firsts → IsFree (kinds_of (view_decls is gs)) (kinds_of (view_decls is (fs ++ gs))) n
    second_free n far e =
        let both = or_off (among n here) (among n seconds) (sym (in_second n) ∙ e) in
        in_joined n ∙ all_off (among n here) (among n firsts) (among n seconds) both.0 (none_among n firsts far) both.1

    -- a name that is neither view's
    free_of_both : (n : Text) → is_global (globals_of (view_decls is fs)) n ≡ false → is_global (globals_of (view_decls is gs)) n ≡ false → is_global (globals_of (view_decls is (fs ++ gs))) n ≡ false
    free_of_both n e f =
        let one = or_off (among n here) (among n firsts) (sym (in_view fs n) ∙ e) in
        let two = or_off (among n here) (among n seconds) (sym (in_second n) ∙ f) in
        in_joined n ∙ all_off (among n here) (among n firsts) (among n seconds) one.0 one.1 two.1

    pub first_shared : (n : Text) → is_global (globals_of (view_decls is gs)) n ≡ false → IsFree (kinds_of (view_decls is fs)) (kinds_of (view_decls is (fs ++ gs))) n
    first_shared n e f = free_of_both n f e

    pub second_shared : (n : Text) → is_global (globals_of (view_decls is fs)) n ≡ false → IsFree (kinds_of (view_decls is gs)) (kinds_of (view_decls is (fs ++ gs))) n
    second_shared n e f = free_of_both n e f

-- ---- names of a head

used_texts : (us : List KeyUse) → map (λ n. n.text) (map used_name us) ≡ map (λ u. u.key) us
used_texts [] = refl
used_texts (u ∷ us) = ap (λ ts. u.key ∷ ts) (used_texts us)

unknown_texts : (ks : List Name) → map (λ u. u.key) (map (key_use wanted.Unknown) ks) ≡ texts ks
unknown_texts [] = refl
unknown_texts (k ∷ ks) = ap (λ ts. k.text ∷ ts) (unknown_texts ks)

argument_texts : (ws : List Wanted) (ks : List Name) → length ws ≡ length ks → map (λ u. u.key) (argument_uses ws ks) ≡ texts ks
argument_texts [] [] e = refl
argument_texts [] (k ∷ ks) e = absurd (omega (arith, e))
argument_texts (w ∷ ws) [] e = absurd (omega (arith, e))
argument_texts (w ∷ ws) (k ∷ ks) e = let f : length ws ≡ length ks = omega (arith, e) in ap (λ ts. k.text ∷ ts) (argument_texts ws ks f)

header_texts : (o : Option Shape) (ks : List Name) → map (λ u. u.key) (header_uses o ks) ≡ texts ks
header_texts None ks = unknown_texts ks
header_texts (Some x) ks = by (length x.header == length ks) refl
  where
    by : (b : Bool) → (length x.header == length ks) ≡ b → map (λ u. u.key) (if b then argument_uses x.header ks else map (key_use wanted.Unknown) ks) ≡ texts ks
    by true e = argument_texts x.header ks (eqb-true (length x.header) (length ks) e)
    by false e = unknown_texts ks

-- those of keys and parameters, and the state variables of its clause
abbrev head_keys : Head → List Name
head_keys h = result_keys h.result_type ++ (flat_map (λ p. keys_in p.ty ++ p.name ∷ []) h.parameters ++ map entry_key (clause_in h.clause))

abbrev variables : Head → List Name
variables h = flat_map entry_variables (clause_in h.clause)

clause_both : (c : Option (List Entry)) → clause_names c ≡ map entry_key (clause_in c) ++ flat_map entry_variables (clause_in c)
clause_both None = refl
clause_both (Some es) = refl

head_both : (h : Head) → head_bound h ≡ head_keys h ++ variables h
head_both h =
    let ps = flat_map (λ p. keys_in p.ty ++ p.name ∷ []) h.parameters in
    let ks = map entry_key (clause_in h.clause) in
    ap (λ ns. result_keys h.result_type ++ (ps ++ ns)) (clause_both h.clause) ∙
    (ap (λ ns. result_keys h.result_type ++ ns) (sym (further ps ks (variables h))) ∙ sym (further (result_keys h.result_type) (ps ++ ks) (variables h)))

module _ (file : File) where
  ty_texts : (t : Ty) → map (λ u. u.key) (ty_uses file t) ≡ texts (keys_in t)
  unfolding named_uses
  ty_texts (s.int at) = refl
  ty_texts (s.bool at) = refl
  ty_texts (s.tracked k n at) = ap (λ ts. k.text ∷ ts) (header_texts (shape_named file n.name) n.keys)
  ty_texts (s.owning ss n at) = header_texts (shape_named file n.name) n.keys
  ty_texts (s.guarded k n) = ap (λ ts. k.text ∷ ts) (header_texts (shape_named file n.name) n.keys)
  ty_texts (s.plain n) = header_texts (shape_named file n.name) n.keys

  result_texts : (r : ResultType) → map (λ u. u.key) (result_uses file r) ≡ texts (result_keys r)
  result_texts (s.void at) = refl
  result_texts (s.value t) = ty_texts t

  parameter_texts : (ps : List Parameter) → map (λ n. n.text) (parameter_names file ps) ≡ texts (flat_map (λ p. keys_in p.ty ++ p.name ∷ []) ps)
  parameter_texts [] = refl
  parameter_texts (p ∷ ps) =
      map-append (λ n. n.text) (map used_name (ty_uses file p.ty)) (parameter_name p ∷ parameter_names file ps) ∙
      (ap₂ (λ xs ys. xs ++ (p.name.text ∷ ys)) (used_texts (ty_uses file p.ty) ∙ ty_texts p.ty) (parameter_texts ps) ∙
      (sym (further (texts (keys_in p.ty)) (p.name.text ∷ []) (texts (flat_map (λ p. keys_in p.ty ++ p.name ∷ []) ps))) ∙
      (ap (λ ts. ts ++ texts (flat_map (λ p. keys_in p.ty ++ p.name ∷ []) ps)) (sym (map-append (λ n. n.text) (keys_in p.ty) (p.name ∷ []))) ∙
      sym (map-append (λ n. n.text) (keys_in p.ty ++ p.name ∷ []) (flat_map (λ p. keys_in p.ty ++ p.name ∷ []) ps)))))

  entry_texts : (es : List Entry) → map (λ n. n.text) (map entry_name es) ≡ texts (map entry_key es)
  entry_texts [] = refl
  entry_texts (e ∷ es) = ap₂ (λ t ts. t ∷ ts) (by e) (entry_texts es)
    where
      by : (e : Entry) → (entry_name e).text ≡ (entry_key e).text
      by (s.held k) = refl
      by (s.changed k before after) = refl
      by (s.bound k v b) = refl
      by (s.taken k at) = refl
      by (s.given k at) = refl
      by (s.fresh k at) = refl

  head_texts : (h : Head) → map (λ n. n.text) (head_names file h) ≡ texts (head_keys h)
  unfolding head_names
  head_texts h =
      map-append (λ n. n.text) (map used_name (result_uses file h.result_type)) (parameter_names file h.parameters ++ map entry_name (clause_in h.clause)) ∙
      (ap₂ (λ x y. x ++ y) (used_texts (result_uses file h.result_type) ∙ result_texts h.result_type)
      (map-append (λ n. n.text) (parameter_names file h.parameters) (map entry_name (clause_in h.clause)) ∙
      (ap₂ (λ x y. x ++ y) (parameter_texts h.parameters) (entry_texts (clause_in h.clause)) ∙
      sym (map-append (λ n. n.text) (flat_map (λ p. keys_in p.ty ++ p.name ∷ []) h.parameters) (map entry_key (clause_in h.clause))))) ∙
      sym (map-append (λ n. n.text) (result_keys h.result_type) _))

-- ---- facts of texts are facts of names

module _ {X : Type 0} (text : X → Text) (Q : Text → Type 0) where
  pub of_texts : (xs : List X) → Each Q (map text xs) → Each (λ x. Q (text x)) xs
  of_texts [] all = tt
  of_texts (x ∷ xs) all = (all.0, of_texts xs all.1)

  pub to_texts : (xs : List X) → Each (λ x. Q (text x)) xs → Each Q (map text xs)
  to_texts [] all = tt
  to_texts (x ∷ xs) all = (all.0, to_texts xs all.1)

-- ---- where what a declaration binds is free, it is free as its parts want it

module _ (a b : Kinds) (bounds : Bounds) where
  has_arm : (arms : Arms) → IsSomeArm arms → HasArm arms
  has_arm s.no_arms h = absurd h
  has_arm (s.arm tick vs y at rest) h = tt

  mutual
    apt : (room : ℕ) (x : Stmt) → IsStmt bounds room x → AreFree a b (bound_names x) → IsApt a b x
    apt room (s.declare t x v at) h free = free
    apt room (s.assign x v at) h free = free
    apt room (s.put x f e at) h free = free
    apt room (s.call c at) h free = free
    apt room (s.print e at) h free = free
    apt room (s.block y) h free = apt_block room y h free
    apt room (s.choose i) h free = apt_if room i h free
    apt room (s.loop e y at) h free = apt_block room y h.1 free
    apt room (s.break at) h free = free
    apt room (s.continue at) h free = free
    apt room (s.return v at) h free = free
    apt room (s.switch x arms at) h free = (has_arm arms h.0, apt_arms room arms h.1 free)
    apt room (s.release x at) h free = free
    apt room (s.become x t at) h free = free
    apt room (s.swap x f v at) h free = free
    apt room (s.open_into x vs at) h free = free
    apt room (s.focus x k z y at) h free = ((free.0, (free.1.0, tt)), apt_block room y h free.1.1)

    apt_block : (room : ℕ) (x : Block) → IsBlock bounds room x → AreFree a b (block_bound x) → IsAptBlock a b x
    apt_block room (s.braced ss at) h free = apt_stmts (room - 1) ss h.1 free

    apt_if : (room : ℕ) (x : If) → IsIf bounds room x → AreFree a b (if_bound x) → IsAptIf a b x
    apt_if room (s.choice e y other at) h free =
        (apt_block room y h.1 (free_left a b (block_bound y) (else_bound other) free), apt_else room other h.2 (free_right a b (block_bound y) (else_bound other) free))

    apt_else : (room : ℕ) (x : Else) → IsElse bounds room x → AreFree a b (else_bound x) → IsAptElse a b x
    apt_else room s.nothing h free = tt
    apt_else room (s.last y) h free = apt_block room y h free
    apt_else room (s.chained i) h free = apt_if (room - 1) i h.1 free

    apt_stmts : (room : ℕ) (ss : Stmts) → AreStmts bounds room ss → AreFree a b (stmts_bound ss) → IsAptStmts a b ss
    apt_stmts room s.done h free = tt
    apt_stmts room (s.next x xs) h free =
        (apt room x h.0 (free_left a b (bound_names x) (stmts_bound xs) free), apt_stmts room xs h.1 (free_right a b (bound_names x) (stmts_bound xs) free))

    apt_arms : (room : ℕ) (arms : Arms) → AreArms bounds room arms → AreFree a b (arms_bound arms) → IsAptArms a b arms
    apt_arms room s.no_arms h free = tt
    apt_arms room (s.arm tick vs y at rest) h free =
        let back = free_right a b vs (block_bound y ++ arms_bound rest) free in
        (free_left a b vs (block_bound y ++ arms_bound rest) free, apt_block room y h.0 (free_left a b (block_bound y) (arms_bound rest) back), apt_arms room rest h.1 (free_right a b (block_bound y) (arms_bound rest) back))

  apt_body : (x : Block) → IsBlock bounds bounds.depth x → AreFree a b (block_bound x) → IsAptStmts a b (stmts_in x)
  apt_body (s.braced ss at) h free = apt_stmts (bounds.depth - 1) ss h.1 free

  free_keys : (h : Head) → AreFree a b (head_keys h) → IsFreeHead a b (head_names a.file h)
  free_keys h free =
      of_texts (λ n. n.text) (IsFree a b) (head_names a.file h) (subst (Each (IsFree a b)) (sym (head_texts a.file h)) (to_texts (λ n. n.text) (IsFree a b) (head_keys h) free))

  free_variables : (es : List Entry) → AreFree a b (flat_map entry_variables es) → Each (IsFreeVariable a b) es
  free_variables [] free = tt
  free_variables (e ∷ es) free =
      (by e (free_left a b (entry_variables e) (flat_map entry_variables es) free), free_variables es (free_right a b (entry_variables e) (flat_map entry_variables es) free))
    where
      by : (e : Entry) → AreFree a b (entry_variables e) → IsFreeVariable a b e
      by (s.held k) free = tt
      by (s.changed k before after) free = tt
      by (s.bound k v state) free = free.0
      by (s.taken k at) free = tt
      by (s.given k at) free = tt
      by (s.fresh k at) free = tt

  free_head : (h : Head) → AreFree a b (head_bound h) → AreFreeNames a b h
  free_head h free =
      let all = subst (AreFree a b) (head_both h) free in
      (free_keys h (free_left a b (head_keys h) (variables h) all), free_variables (clause_in h.clause) (free_right a b (head_keys h) (variables h) all))

  free_names : (d : Decl) → IsDecl bounds d → AreFree a b (decl_bound d) → IsFreeDecl a b d
  free_names (s.stateset n ss at) is free = tt
  free_names (s.abstract n ss at) is free = tt
  free_names (s.struct n ps ss fs r at) is free = free
  free_names (s.variant n ps cs at) is free = free
  free_names (s.extern h at) is free = free_head h free
  free_names (s.function h x at) is free =
      (free_head h (free_left a b (head_bound h) (block_bound x) free), apt_body x is.1 (free_right a b (head_bound h) (block_bound x) free))

  pub free_decl : (d : Decl) → IsDecl bounds d → Each (IsFree a b) (texts (decl_bound d)) → IsFreeDecl a b d
  free_decl d is free = free_names d is (of_texts (λ n. n.text) (IsFree a b) (decl_bound d) free)

-- ---- what a declaration without a body binds is free in a view that doesn't refuse it

abbrev pub Unknown : Globals → Text → Type 0
Unknown known n = is_global known n ≡ false

keys_unknown : (known : Globals) (ns : List Name) → nam.header_keys_taken known ns ≡ [] → Each (λ n. Unknown known n.text) ns
unfolding nam.header_keys_taken
keys_unknown known [] none = tt
keys_unknown known (n ∷ ns) none = by (is_global known n.text) refl (keys_unknown known ns) none
  where
    by : (x : Bool) → is_global known n.text ≡ x → (refuse rule.HEADER_KEY_TAKEN (filter (λ n. is_global known n.text) ns) ≡ [] → Each (λ n. Unknown known n.text) ns) →
        refuse rule.HEADER_KEY_TAKEN (if x then n ∷ filter (λ n. is_global known n.text) ns else filter (λ n. is_global known n.text) ns) ≡ [] → Each (λ n. Unknown known n.text) (n ∷ ns)
    by true e rest none = absurd (cons_not_nil _ _ none)
    by false e rest none = (e, rest none)

header_unknown : (known : Globals) (ps : List HeaderKey) → nam.header_refused known ps ≡ [] → Each (λ n. Unknown known n.text) (nam.header_keys ps)
unfolding nam.header_refused
header_unknown known ps none = keys_unknown known (nam.header_keys ps) (no_right (nam.repeated_parts (nam.header_keys ps)) _ none)

names_unknown : (known : Globals) (seen : Seen) (ns : List HeadName) → along with_name (name_refused known) seen ns ≡ [] → Each (λ n. Unknown known n.text) ns
unfolding name_refused
names_unknown known seen [] none = tt
names_unknown known seen (n ∷ ns) none = (
  (or_off (is_repeated seen n) (is_global known n.text) (not_broken (is_repeated seen n || is_global known n.text) rule.HEAD_NAME n.at (no_left (name_refused known seen n) _ none))).1,
  names_unknown known (with_name seen n) ns (no_right (name_refused known seen n) _ none),
)

variables_unknown : (known : Globals) (ks : Keys) (ps : List Parameter) (again : Bool) (es : List Entry) → along after_bound (variable_refused known ks ps) again es ≡ [] →
    Each (λ n. Unknown known n.text) (flat_map entry_variables es)
unfolding is_taken
variables_unknown known ks ps again [] none = tt
variables_unknown known ks ps again (e ∷ es) none =
    each_join (λ n. Unknown known n.text) (entry_variables e) (flat_map entry_variables es)
    (by e (no_left (variable_refused known ks ps again e) _ none))
    (variables_unknown known ks ps (after_bound again e) es (no_right (variable_refused known ks ps again e) _ none))
  where
    by : (e : Entry) → variable_refused known ks ps again e ≡ [] → Each (λ n. Unknown known n.text) (entry_variables e)
    by (s.held k) none = tt
    by (s.changed k before after) none = tt
    by (s.bound k v state) none =
        let other = is_key ks v.text || is_parameter ps v.text in
        let off = not_broken (again || (is_global known v.text || other)) rule.SECOND_BOUND v.at.from none in
        ((or_off (is_global known v.text) other (or_off again (is_global known v.text || other) off).1).0, tt)
    by (s.taken k at) none = tt
    by (s.given k at) none = tt
    by (s.fresh k at) none = tt

head_unknown : (file : File) (h : Head) → head_refused file h ≡ [] → Each (Unknown file.globals) (texts (head_bound h))
unfolding head_refused_by
head_unknown file h none =
    let rs = result_uses file h.result_type in
    let ps = parameter_uses file h.parameters in
    let es = clause_in h.clause in
    let ks = keys_after rs ps es in
    let one = no_right (types_refused file h) _ none in
    let two = no_right (names_refused file.globals (head_names file h)) _ one in
    let three = no_right (clause_again rs ps es) _ two in
    let four = no_right (typings_refused (places_after rs ps es) rs ps) _ three in
    let five = no_right (result_refused ks rs) _ four in
    let six = no_right (of_each (entry_refused file ks) es) _ five in
    subst (λ ns. Each (Unknown file.globals) (texts ns)) (sym (head_both h))
    (to_texts (λ n. n.text) (Unknown file.globals) (head_keys h ++ variables h)
    (each_join (λ n. Unknown file.globals n.text) (head_keys h) (variables h)
    (of_texts (λ n. n.text) (Unknown file.globals) (head_keys h) (subst (Each (Unknown file.globals)) (head_texts file h)
    (to_texts (λ n. n.text) (Unknown file.globals) (head_names file h) (names_unknown file.globals [] (head_names file h) (no_left (names_refused file.globals (head_names file h)) _ one)))))
    (variables_unknown file.globals ks h.parameters false es (no_left (variables_refused file.globals ks h.parameters es) _ six))))

pub unknown : (file : File) (types : List TypeDecl) (d : Decl) → body_refused d ≡ [] → nam.decl_refused file.globals d ≡ [] → heads_refused_in file types d ≡ [] →
    Each (Unknown file.globals) (texts (decl_bound d))
unfolding nam.struct_refused nam.variant_refused extern_refused
unknown file types (s.stateset n ss at) bodiless named headed = tt
unknown file types (s.abstract n ss at) bodiless named headed = tt
unknown file types (s.struct n ps ss fs r at) bodiless named headed =
    to_texts (λ n. n.text) (Unknown file.globals) (nam.header_keys ps) (header_unknown file.globals ps (no_left (nam.header_refused file.globals ps) _ named))
unknown file types (s.variant n ps cs at) bodiless named headed =
    to_texts (λ n. n.text) (Unknown file.globals) (nam.header_keys ps) (header_unknown file.globals ps (no_left (nam.header_refused file.globals ps) _ named))
unknown file types (s.extern h at) bodiless named headed = head_unknown file h (no_left (head_refused file h) _ headed)
unknown file types (s.function h x at) bodiless named headed = absurd (cons_not_nil _ _ bodiless)
