-- Names by their texts: what lists of statements and arms bind, and which names a set has.
use Rattle.std.proofs.Common.{◌≡◌, ◌<◌, ◌≤◌, ◌+◌, ℕ, length, drop, get_or, Bool, true, false, ◌||◌, cond, if◌then◌else◌, List, [], ◌∷◌, ◌++◌, map, filter, Option, Some, None, refl, sym, ap, ap₂, ◌∙◌}
use Rattle.std.specs.List.{flat_map}
use Rattle.std.specs.Str.{bytes_eq}
use Rattle.std.specs.Borrow.{Bor}
use Rattle.std.proofs.lemmas.List.{map-append, append_assoc, drop_all, at_drop_more}
use Rattle.std.proofs.lemmas.List.Concat.{flat_map-cons}
use Rattle.vlt_base.specs.declared.places.Span.{Span}
use Rattle.vlt_syntax.specs.Tree as s
use Rattle.vlt_syntax.specs.Tree.{Decl}
use Rattle.vlt_syntax.specs.View.{ArmView, stmts_made, arms_made, stmt_of, arm_of, block_of, decl_of}
use Rattle.vlt_syntax.specs.declared.tree.Decl.{Decl as SeenDecl}
use Rattle.vlt_syntax.specs.declared.tree.Name.{Name}
use Rattle.vlt_syntax.specs.declared.tree.Arm.{Arm}
use Rattle.vlt_syntax.specs.declared.tree.Block.{Block}
use Rattle.vlt_syntax.specs.declared.tree.Stmt.TheVariants.{Switch}
use Rattle.vlt_syntax_copies.proofs.Made.{block_seen, switch_seen}
use Rattle.vlt_kinds_types.specs.Names.Globals.{decl_name}
use Rattle.vlt_iface.specs.Clash.{keys_in, bound_names, block_bound, stmts_bound, arms_bound, entry_key, entry_variables, result_keys, clause_names, head_bound, decl_bound, is_among, globals_in, names_in, clashing}
use Rattle.vlt_iface.specs.Told.{lesser_name, least_name_from, least_name}
use Rattle.vlt_iface.proofs.Standing.{bytes_swap}
use Rattle.vlt_iface.proofs.Tables.{split_at}
use Rattle.vlt_iface.specs.Texts.{texts_of, texts_seen, has_text, AreTextsOf, parameter_texts, variable_texts, stmt_texts, arm_texts, decl_texts}

-- ---- what is bound

flat_texts : {A : Type 0} (go : A → List s.Name) (xs : List A) → texts_of (flat_map go xs) ≡ flat_map (λ x. texts_of (go x)) xs
flat_texts go [] = refl
flat_texts go (x ∷ xs) =
    ap texts_of (flat_map-cons go x xs) ∙
    (map-append (λ n. n.text) (go x) (flat_map go xs) ∙
    (ap (λ ts. texts_of (go x) ++ ts) (flat_texts go xs) ∙
    sym (flat_map-cons (λ x. texts_of (go x)) x xs)))

stmts_texts : (xs : List s.Stmt) → texts_of (stmts_bound (stmts_made xs)) ≡ flat_map stmt_texts xs
stmts_texts [] = refl
stmts_texts (x ∷ xs) =
    map-append (λ n. n.text) (bound_names x) (stmts_bound (stmts_made xs)) ∙
    (ap (λ ts. stmt_texts x ++ ts) (stmts_texts xs) ∙ sym (flat_map-cons stmt_texts x xs))

arms_texts : (xs : List ArmView) → texts_of (arms_bound (arms_made xs)) ≡ flat_map arm_texts xs
arms_texts [] = refl
arms_texts (a ∷ rest) =
    ap texts_of (sym (append_assoc a.1 (block_bound a.2) (arms_bound (arms_made rest)))) ∙
    (map-append (λ n. n.text) (a.1 ++ block_bound a.2) (arms_bound (arms_made rest)) ∙
    (ap (λ ts. arm_texts a ++ ts) (arms_texts rest) ∙ sym (flat_map-cons arm_texts a rest)))

pub block_texts : (b : Block) → texts_of (block_bound (block_of b)) ≡ flat_map stmt_texts (map stmt_of b.stmts)
block_texts b = ap (λ x. texts_of (block_bound x)) (block_seen b) ∙ stmts_texts (map stmt_of b.stmts)

pub switch_texts : (x : Name) (arms : List Arm) (at : Span) → stmt_texts (stmt_of (Switch x arms at)) ≡ flat_map arm_texts (map arm_of arms)
switch_texts x arms at = ap stmt_texts (switch_seen x arms at) ∙ arms_texts (map arm_of arms)

head_texts : (h : s.Head) → texts_of (head_bound h) ≡ texts_of (result_keys h.result_type) ++ (flat_map parameter_texts h.parameters ++ texts_of (clause_names h.clause))
head_texts h =
    let each = flat_map (λ p. keys_in p.ty ++ p.name ∷ []) h.parameters in
    map-append (λ n. n.text) (result_keys h.result_type) (each ++ clause_names h.clause) ∙
    ap (λ ts. texts_of (result_keys h.result_type) ++ ts)
    (map-append (λ n. n.text) each (clause_names h.clause) ∙
    ap (λ ts. ts ++ texts_of (clause_names h.clause)) (flat_texts (λ p. keys_in p.ty ++ p.name ∷ []) h.parameters))

module_texts : (ds : List Decl) → texts_of (map decl_name ds ++ flat_map decl_bound ds) ≡ texts_of (map decl_name ds) ++ flat_map decl_texts ds
module_texts ds =
    map-append (λ n. n.text) (map decl_name ds) (flat_map decl_bound ds) ∙
    ap (λ ts. texts_of (map decl_name ds) ++ ts) (flat_texts decl_bound ds)

-- the texts of a clause, its keys before its state variables
pub clause_made : (es : List s.Entry) (old some made : List (List ℕ)) → some ≡ old ++ texts_of (map entry_key es) → made ≡ some ++ flat_map variable_texts es → made ≡ old ++ texts_of (clause_names (Some es))
clause_made es old some made first second =
    let keys = map entry_key es in
    second ∙
    (ap (λ ts. ts ++ flat_map variable_texts es) first ∙
    (append_assoc old (texts_of keys) (flat_map variable_texts es) ∙
    ap (λ ts. old ++ ts)
    (ap (λ ts. texts_of keys ++ ts) (sym (flat_texts entry_variables es)) ∙
    sym (map-append (λ n. n.text) keys (flat_map entry_variables es)))))

-- the texts of a head, part after part
pub head_made : (h : s.Head) (old some more made : List (List ℕ)) (ps : List s.Parameter) →
    some ≡ old ++ texts_of (result_keys h.result_type) → more ≡ some ++ flat_map parameter_texts ps → ps ≡ h.parameters → made ≡ more ++ texts_of (clause_names h.clause) →
    made ≡ old ++ texts_of (head_bound h)
head_made h old some more made ps first second is third =
    let results = texts_of (result_keys h.result_type) in
    let parameters = flat_map parameter_texts h.parameters in
    let clauses = texts_of (clause_names h.clause) in
    third ∙
    (ap (λ xs. xs ++ clauses) (second ∙ ap₂ (λ xs ys. xs ++ flat_map parameter_texts ys) first is) ∙
    (append_assoc (old ++ results) parameters clauses ∙
    (append_assoc old results (parameters ++ clauses) ∙
    ap (λ ts. old ++ ts) (sym (head_texts h)))))

-- the texts of a module, the declared names before those that are bound
pub module_made : (t : s.Tree) (ds es : List SeenDecl) (start some made : List (List ℕ)) →
    start ≡ [] → some ≡ start ++ texts_of (map decl_name (map decl_of ds)) → made ≡ some ++ flat_map decl_texts (map decl_of es) →
    map decl_of ds ≡ t.decls → map decl_of es ≡ t.decls → made ≡ texts_of (names_in t)
module_made t ds es start some made none first second is also =
    second ∙
    (ap₂ (λ xs ys. xs ++ flat_map decl_texts ys) (first ∙ ap₂ (λ xs ys. xs ++ texts_of (map decl_name ys)) none is) also ∙
    sym (module_texts t.decls))

-- one more turn over what binds names
pub bound_more : {X Y : Type 0} (see : X → Y) (f : Y → List (List ℕ)) (xs : List X) (i : ℕ) (x : X) (before after all : List (List ℕ)) → i < length xs → x ≡ get_or xs i x →
    after ≡ before ++ f (see x) → before ++ flat_map f (map see (drop i xs)) ≡ all → after ++ flat_map f (map see (drop (i + 1) xs)) ≡ all
bound_more see f xs i x before after all lt is more same =
    ap (λ ts. ts ++ flat_map f (map see (drop (i + 1) xs))) more ∙
    (append_assoc before (f (see x)) (flat_map f (map see (drop (i + 1) xs))) ∙
    (ap (λ ys. before ++ flat_map f (map see ys)) (sym (split_at xs i x lt is)) ∙ same))

-- ---- which names a set has

or_swap : (a b c : Bool) → ((a || b) || c) ≡ (a || (b || c))
or_swap true b c = refl
or_swap false b c = refl

or_none : (a : Bool) → (a || false) ≡ a
or_none true = refl
or_none false = refl

abbrev pub has_seen : List (Bor (List ℕ)) → List ℕ → Bool
has_seen ts n = has_text (texts_seen ts) n

pub texts_none : (keys ts : List (Bor (List ℕ))) → keys ≡ [] → (n : List ℕ) → (has_seen keys n || has_seen ts n) ≡ has_seen ts n
texts_none keys ts none n = ap (λ ks. has_seen ks n || has_seen ts n) none

-- one more turn over the names
pub texts_more : (before after ts : List (Bor (List ℕ))) (i : ℕ) (t : Bor (List ℕ)) →
    ((n : List ℕ) → has_seen after n ≡ (has_seen before n || bytes_eq (get_or ts i t).now n)) →
    ((n : List ℕ) → (has_seen before n || has_seen (drop i ts) n) ≡ has_seen ts n) →
    i < length ts → (n : List ℕ) → (has_seen after n || has_seen (drop (i + 1) ts) n) ≡ has_seen ts n
texts_more before after ts i t more same lt n =
    let name = (get_or ts i t).now in
    ap (λ b. b || has_seen (drop (i + 1) ts) n) (more n ∙ ap (λ b. has_seen before n || b) (bytes_swap name n)) ∙
    (or_swap (has_seen before n) (bytes_eq n name) (has_seen (drop (i + 1) ts) n) ∙
    (sym (at_drop_more (λ xs. has_seen before n || has_seen xs n) ts i t lt) ∙ same n))

pub texts_all : (keys ts : List (Bor (List ℕ))) (i : ℕ) → length ts ≤ i →
    ((n : List ℕ) → (has_seen keys n || has_seen (drop i ts) n) ≡ has_seen ts n) → (n : List ℕ) → has_seen keys n ≡ has_seen ts n
texts_all keys ts i past same n =
    sym (or_none (has_seen keys n)) ∙ (ap (λ xs. has_seen keys n || has_seen xs n) (sym (drop_all i ts past)) ∙ same n)

-- ---- the least name that clashes

filter_alike : {A : Type 0} (p q : A → Bool) → ((x : A) → p x ≡ q x) → (xs : List A) → filter p xs ≡ filter q xs
filter_alike p q same [] = refl
filter_alike p q same (x ∷ xs) = ap₂ (λ b ys. cond b (x ∷ ys) ys) (same x) (filter_alike p q same xs)

among_texts : (ns : List s.Name) (n : s.Name) → has_text (texts_of ns) n.text ≡ is_among ns n
among_texts [] n = refl
among_texts (k ∷ ks) n = ap (λ b. bytes_eq n.text k.text || b) (among_texts ks n)

-- the names of these that a set has
abbrev pub names_had : List (List ℕ) → List SeenDecl → List s.Name
names_had set ds = filter (λ n. has_text set n.text) (map decl_name (map decl_of ds))

-- one more turn over the declared names
pub least_more : (set : List (List ℕ)) (ds : List SeenDecl) (i : ℕ) (d : SeenDecl) (before after : Option (List ℕ)) (name : List ℕ) (n : s.Name) (all : Option (List ℕ)) → i < length ds → d ≡ get_or ds i d →
    name ≡ n.text → n ≡ decl_name (decl_of d) → after ≡ (if has_text set name then lesser_name before name else before) →
    least_name_from before (names_had set (drop i ds)) ≡ all → least_name_from after (names_had set (drop (i + 1) ds)) ≡ all
least_more set ds i d before after name n all lt is text named made same =
    let known : name ≡ (decl_name (decl_of d)).text = text ∙ ap (λ (m : s.Name). m.text) named in
    let rest = names_had set (drop (i + 1) ds) in
    ap (λ o. least_name_from o rest) (made ∙ ap (λ t. if has_text set t then lesser_name before t else before) known) ∙
    (by (decl_name (decl_of d)) (has_text set (decl_name (decl_of d)).text) rest ∙
    (ap (λ ys. least_name_from before (names_had set ys)) (sym (split_at ds i d lt is)) ∙ same))
  where
    by : (m : s.Name) (b : Bool) (rest : List s.Name) → least_name_from (if b then lesser_name before m.text else before) rest ≡ least_name_from before (cond b (m ∷ rest) rest)
    by m true rest = refl
    by m false rest = refl

least_of_both : (found : Option (List ℕ)) (ns ks : List s.Name) → least_name_from found (ns ++ ks) ≡ least_name_from (least_name_from found ns) ks
least_of_both found [] ks = refl
least_of_both found (n ∷ ns) ks = least_of_both (lesser_name found n.text) ns ks

pub least_clash : (f g : s.Tree) (in_f in_g : List (List ℕ)) (fs gs : List s.Name) (one both : Option (List ℕ)) →
    AreTextsOf (texts_of (names_in f)) in_f → AreTextsOf (texts_of (names_in g)) in_g →
    one ≡ least_name_from None (filter (λ n. has_text in_g n.text) fs) →
    both ≡ least_name_from one (filter (λ n. has_text in_f n.text) gs) →
    fs ≡ globals_in f → gs ≡ globals_in g → both ≡ least_name (clashing f g)
least_clash f g in_f in_g fs gs one both set_f set_g first second is_f is_g =
    second ∙
    (ap₂ least_name_from
    (first ∙ (ap (λ ns. least_name_from None (filter (λ n. has_text in_g n.text) ns)) is_f ∙ ap (least_name_from None) (filter_alike _ _ (alike g in_g set_g) (globals_in f))))
    (ap (filter (λ n. has_text in_f n.text)) is_g ∙ filter_alike _ _ (alike f in_f set_f) (globals_in g)) ∙
    sym (least_of_both None (filter (is_among (names_in g)) (globals_in f)) (filter (is_among (names_in f)) (globals_in g))))
  where
    alike : (t : s.Tree) (set : List (List ℕ)) → AreTextsOf (texts_of (names_in t)) set → (n : s.Name) → has_text set n.text ≡ is_among (names_in t) n
    alike t set same n = same n.text ∙ among_texts (names_in t) n
