-- The rows that are written for a body are those of the format.
use Rattle.std.proofs.Common.{◌≡◌, ℕ, ◌+◌, Bool, List, [], ◌∷◌, ◌++◌, map, Option, Some, None, is_some, refl, sym, ap, ◌∙◌}
use Rattle.std.specs.Prelude.{codes}
use Rattle.std.proofs.lemmas.List.{map-append}
use Rattle.vlt_core.specs.Core as core
use Rattle.vlt_core.specs.KindedBodies.{ends}
use Rattle.cert_rows.specs.Parts.{zero_data, list, nat}
use Rattle.cert_rows.specs.Values.{ListedMap, maps_part, tagged_list}
use Rattle.cert_rows.specs.Expressions.{expr}
use Rattle.cert_rows.specs.Rows.{Maps, head as head_part, arm as arm_part, row_data}
use Rattle.cert_rows.specs.Rows as row
use Rattle.cert_format.specs.Drafts.{head, arm_heads, draft_rows, block_rows, list_rows, arms_rows}
use Rattle.cert_format.specs.Notes.{MapNotes, join_of}
use Rattle.cert_format.specs.Bodies.{length_of, count, count_block, count_list, draft_of, block_draft, list_draft, arms_draft}
use Rattle.cert_format.specs.Certificate.{shape}
use Rattle.cert_values.specs.Heads.{plain_data, head_of, heads_of}
use Rattle.cert_write.specs.Rows.{maps_data, form_data, block_data, list_data, arms_data}

simple_same : (o : Bool) (k : Option ℕ) (s : core.Simple) → plain_data (row.simple s) ≡ row_data (shape o k) (row.simple s)
simple_same o k (core.set v e) = refl
simple_same o k (core.input v more) = refl
simple_same o k (core.print e) = refl
simple_same o k (core.put x i e) = refl
simple_same o k (core.make x os) = refl
simple_same o k (core.become x s) = refl
simple_same o k (core.release x) = refl
simple_same o k (core.drop v) = refl
simple_same o k (core.own v value) = refl
simple_same o k (core.unpack x v) = refl
simple_same o k (core.build v c os) = refl
simple_same o k (core.swap x i v) = refl
simple_same o k (core.open_into x vs) = refl
simple_same o k (core.adopt y x r) = refl

maps_same : (k : Option ℕ) (ms : List ListedMap) → maps_data (is_some k) ms ≡ (maps_part k).data_of ms
maps_same None ms = refl
maps_same (Some n) ms = refl

join_same : (k : Option ℕ) (m : Option Maps) → zero_data (maps_data (is_some k)) m ≡ zero_data (maps_part k).data_of m
join_same k None = refl
join_same k (Some ms) = maps_same k ms

module _ (o : Bool) (k : Option ℕ) (a : MapNotes) where
  headed : (n : ℕ) (b : core.Block) → head (block_draft a n b) ≡ head_of b
  headed n (core.block ss bound end) = refl

  all_headed : (n : ℕ) (arms : core.Arms) → arm_heads (arms_draft a n arms) ≡ heads_of arms
  all_headed n core.no_arms = refl
  all_headed n (core.arm c vs (core.block ss bound end) rest) = ap (λ hs. (c, vs, length_of ss, bound) ∷ hs) (all_headed (n + count_list ss) rest)

  mutual
    form_same : (n : ℕ) (s : core.Form) → form_data (is_some k) a n s ≡ map (row_data (shape o k)) (draft_rows (draft_of a n s))
    form_same n (core.simple s) = ap (λ d. d ∷ []) (simple_same o k s)
    form_same n (core.call f target keys args) = refl
    form_same n (core.choose e x y) =
        ap (λ j. tagged_list (codes "if") (expr.data_of e ∷ head_part.data_of (head_of x) ∷ head_part.data_of (head_of y) ∷ j ∷ []) ∷
        (block_data (is_some k) a (n + 1) x ++ block_data (is_some k) a (n + 1 + count_block x) y))
        (join_same k (join_of (ends (core.choose e x y)) (a.following n))) ∙
        ap (λ h. row_data (shape o k) (row.choose e h (head_of y) (join_of (ends (core.choose e x y)) (a.following n))) ∷
        (block_data (is_some k) a (n + 1) x ++ block_data (is_some k) a (n + 1 + count_block x) y)) (sym (headed (n + 1) x)) ∙
        ap (λ h. row_data (shape o k) (row.choose e (head (block_draft a (n + 1) x)) h (join_of (ends (core.choose e x y)) (a.following n))) ∷
        (block_data (is_some k) a (n + 1) x ++ block_data (is_some k) a (n + 1 + count_block x) y)) (sym (headed (n + 1 + count_block x) y)) ∙
        ap (λ l. row_data (shape o k) (row.choose e (head (block_draft a (n + 1) x)) (head (block_draft a (n + 1 + count_block x) y))
        (join_of (ends (core.choose e x y)) (a.following n))) ∷ l)
        (ap (λ l. l ++ block_data (is_some k) a (n + 1 + count_block x) y) (block_same (n + 1) x) ∙
        ap (λ l. map (row_data (shape o k)) (block_rows (block_draft a (n + 1) x)) ++ l) (block_same (n + 1 + count_block x) y) ∙
        sym (map-append (row_data (shape o k)) (block_rows (block_draft a (n + 1) x)) (block_rows (block_draft a (n + 1 + count_block x) y))))
    form_same n (core.loop e x) =
        ap (λ j. tagged_list (codes "while") (expr.data_of e ∷ head_part.data_of (head_of x) ∷ j ∷ maps_data (is_some k) (a.following n) ∷ []) ∷
        block_data (is_some k) a (n + 1) x) (maps_same k (a.around n)) ∙
        ap (λ j. tagged_list (codes "while") (expr.data_of e ∷ head_part.data_of (head_of x) ∷ (maps_part k).data_of (a.around n) ∷ j ∷ []) ∷
        block_data (is_some k) a (n + 1) x) (maps_same k (a.following n)) ∙
        ap (λ h. row_data (shape o k) (row.loop e h (a.around n) (a.following n)) ∷ block_data (is_some k) a (n + 1) x) (sym (headed (n + 1) x)) ∙
        ap (λ l. row_data (shape o k) (row.loop e (head (block_draft a (n + 1) x)) (a.around n) (a.following n)) ∷ l) (block_same (n + 1) x)
    form_same n (core.switch v arms end) =
        ap (λ j. tagged_list (codes "switch") (nat v ∷ list (map arm_part.data_of (heads_of arms)) ∷ j ∷ []) ∷
        arms_data (is_some k) a (n + 1) arms) (join_same k (join_of (ends (core.switch v arms end)) (a.following n))) ∙
        ap (λ hs. row_data (shape o k) (row.switch v hs (join_of (ends (core.switch v arms end)) (a.following n))) ∷
        arms_data (is_some k) a (n + 1) arms) (sym (all_headed (n + 1) arms)) ∙
        ap (λ l. row_data (shape o k) (row.switch v (arm_heads (arms_draft a (n + 1) arms)) (join_of (ends (core.switch v arms end)) (a.following n))) ∷ l)
        (arms_same (n + 1) arms)
    form_same n (core.focus y z x) =
        ap (λ h. row_data (shape o k) (row.focus y z h) ∷ block_data (is_some k) a (n + 1) x) (sym (headed (n + 1) x)) ∙
        ap (λ l. row_data (shape o k) (row.focus y z (head (block_draft a (n + 1) x))) ∷ l) (block_same (n + 1) x)
    form_same n (core.scope x) =
        ap (λ h. row_data (shape o k) (row.scope h) ∷ block_data (is_some k) a (n + 1) x) (sym (headed (n + 1) x)) ∙
        ap (λ l. row_data (shape o k) (row.scope (head (block_draft a (n + 1) x))) ∷ l) (block_same (n + 1) x)
    form_same n (core.return value) = refl
    form_same n (core.jump c) = refl

    block_same : (n : ℕ) (b : core.Block) → block_data (is_some k) a n b ≡ map (row_data (shape o k)) (block_rows (block_draft a n b))
    block_same n (core.block ss bound end) = list_same n ss

    pub list_same : (n : ℕ) (ss : core.Stmts) → list_data (is_some k) a n ss ≡ map (row_data (shape o k)) (list_rows (list_draft a n ss))
    list_same n core.done = refl
    list_same n (core.next at s rest) =
        ap (λ l. l ++ list_data (is_some k) a (n + count s) rest) (form_same n s) ∙
        ap (λ l. map (row_data (shape o k)) (draft_rows (draft_of a n s)) ++ l) (list_same (n + count s) rest) ∙
        sym (map-append (row_data (shape o k)) (draft_rows (draft_of a n s)) (list_rows (list_draft a (n + count s) rest)))

    arms_same : (n : ℕ) (arms : core.Arms) → arms_data (is_some k) a n arms ≡ map (row_data (shape o k)) (arms_rows (arms_draft a n arms))
    arms_same n core.no_arms = refl
    arms_same n (core.arm c vs b rest) =
        ap (λ l. l ++ arms_data (is_some k) a (n + count_block b) rest) (block_same n b) ∙
        ap (λ l. map (row_data (shape o k)) (block_rows (block_draft a n b)) ++ l) (arms_same (n + count_block b) rest) ∙
        sym (map-append (row_data (shape o k)) (block_rows (block_draft a n b)) (arms_rows (arms_draft a (n + count_block b) rest)))
