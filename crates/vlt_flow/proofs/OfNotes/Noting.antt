-- Notes that come after others.
use Rattle.std.proofs.Common.{◌≡◌, ◌<◌, ◌≤◌, ◌+◌, ℕ, Bool, true, false, ◌&&◌, ◌||◌, List, [], ◌∷◌, ◌++◌, map, length, drop, drop-cons, add-one, get_or, suc, if◌then◌else◌, Result, Ok, Err, OnOk, IfOk, inl, inr, ⊎_elim, true≢false, refl, sym, ap, ◌∙◌, subst, arith}
use Rattle.std.proofs.lemmas.List.{append-nil, append_assoc, drop_all}
use Rattle.vlt_core.specs.Flow.{next, arm, passes, passes_block, passes_stmts, passes_arms, size, size_block, size_stmts, size_arms}
use Rattle.vlt_core.specs.Least.{Noted, a_loop, a_join, noted_by, noted, noted_block, noted_stmts, noted_arms}
use Rattle.vlt_base.specs.declared.ids.StmtId.{StmtId}
use Rattle.vlt_core.specs.declared.notes.Note as DN
use Rattle.vlt_core.specs.declared.notes.Note.TheVariants as V
use Rattle.vlt_core.specs.declared.notes.TokMap.{TokMap}
use Rattle.vlt_rows.specs.declared.tree.FlowStmt.{FlowStmt}
use Rattle.vlt_rows.specs.declared.tree.FlowArm.{FlowArm, out-FlowArm}
use Rattle.vlt_rows.specs.FlowView.{flow_view, block_view, arms_view, stmts_view, rows_view}
use Rattle.vlt_rows.proofs.Views.{stmt_parts, arm_parts}
use Rattle.vlt_flow_maps.specs.Kept.{Marks, slot}
use Rattle.vlt_flow.specs.Notes.Listed.{map_in, note_of}
use Rattle.vlt_flow.specs.Notes.Noted.{IsHeld, IsRead, AreRead, IsNoted, IsLong, HasNoNote, LacksNote}

pub split_at : {X : Type 0} (xs : List X) (i : ℕ) (x : X) → i < length xs → x ≡ get_or xs i x → drop i xs ≡ x ∷ drop (i + 1) xs
split_at xs i x lt read = rw add-one (drop-cons xs i x lt ∙ ap (λ y. y ∷ drop (suc i) xs) (sym read))

pub noted_none : (k : Marks) (old : List DN.Note) → IsNoted k [] old old
noted_none k old = record { added = []; is = sym (append-nil old); names = refl; reads = tt }

pub noted_one : (k : Marks) (x : Noted) (old new : List DN.Note) (d : DN.Note) → new ≡ old ++ d ∷ [] → noted_by (note_of d) ≡ x → IsRead k (note_of d) → IsNoted k (x ∷ []) old new
noted_one k x old new d e name read = record { added = d ∷ []; is = e; names = ap (λ y. y ∷ []) name; reads = (read, tt) }

names_both : (xs ys : List DN.Note) → map noted_by (map note_of (xs ++ ys)) ≡ map noted_by (map note_of xs) ++ map noted_by (map note_of ys)
names_both [] ys = refl
names_both (x ∷ xs) ys = ap (λ l. noted_by (note_of x) ∷ l) (names_both xs ys)

reads_both : (k : Marks) (xs ys : List DN.Note) → AreRead k (map note_of xs) → AreRead k (map note_of ys) → AreRead k (map note_of (xs ++ ys))
reads_both k [] ys p q = q
reads_both k (x ∷ xs) ys p q = (p.0, reads_both k xs ys p.1 q)

pub noted_more : (k : Marks) (xs ys : List Noted) (a b c : List DN.Note) → IsNoted k xs a b → IsNoted k ys b c → IsNoted k (xs ++ ys) a c
noted_more k xs ys a b c p q = record {
  added = p.added ++ q.added;
  is = q.is ∙ ap (λ l. l ++ q.added) p.is ∙ append_assoc a p.added q.added;
  names = names_both p.added q.added ∙ ap (λ l. l ++ map noted_by (map note_of q.added)) p.names ∙ ap (λ l. xs ++ l) q.names;
  reads = reads_both k p.added q.added p.reads q.reads;
}

-- ---- statements and arms, one after another

-- those after come after
pub record Going (k : Marks) (old : List DN.Note) (all : List Noted) (now : List DN.Note) (rest : List Noted) : Type 0 where
  pub so_far : List Noted
  pub noted : IsNoted k so_far old now
  pub is : all ≡ so_far ++ rest

pub going_first : (k : Marks) (old : List DN.Note) (all : List Noted) → Going k old all old all
going_first k old all = record { so_far = []; noted = noted_none k old; is = refl }

pub going_more : (k : Marks) (old now new : List DN.Note) (all xs rest : List Noted) → Going k old all now (xs ++ rest) → IsNoted k xs now new → Going k old all new rest
going_more k old now new all xs rest g n = record { so_far = g.so_far ++ xs; noted = noted_more k g.so_far xs old now new g.noted n; is = g.is ∙ sym (append_assoc g.so_far xs rest) }

pub going_ends : (k : Marks) (old now : List DN.Note) (all : List Noted) → Going k old all now [] → IsNoted k all old now
going_ends k old now all g = subst (λ xs. IsNoted k xs old now) (sym (g.is ∙ append-nil g.so_far)) g.noted

stmts_split : (stmts : List FlowStmt) (i : ℕ) (s : FlowStmt) → drop i stmts ≡ s ∷ drop (i + 1) stmts → stmts_view (drop i stmts) ≡ next s.at (flow_view s.flow) (stmts_view (drop (i + 1) stmts))
stmts_split stmts i s e = ap stmts_view e ∙ ap (λ p. next p.0 p.1 (stmts_view (drop (i + 1) stmts))) (stmt_parts s)

arms_split : (arms : List FlowArm) (i : ℕ) (a : FlowArm) → drop i arms ≡ a ∷ drop (i + 1) arms → arms_view (drop i arms) ≡ arm (rows_view (out-FlowArm a).rows) (block_view (out-FlowArm a).body) (arms_view (drop (i + 1) arms))
arms_split arms i a e = ap arms_view e ∙ ap (λ p. arm p.0 p.1 (arms_view (drop (i + 1) arms))) (arm_parts a)

pub record Listing (k : Marks) (stmts : List FlowStmt) (n : ℕ) (old : List DN.Note) (i at : ℕ) (now : List DN.Note) : Type 0 where
  pub size : at + size_stmts (stmts_view (drop i stmts)) ≡ n + size_stmts (stmts_view stmts)
  pub low : n ≤ at
  pub going : Going k old (noted_stmts n (stmts_view stmts)) now (noted_stmts at (stmts_view (drop i stmts)))

pub listing_first : (k : Marks) (stmts : List FlowStmt) (n : ℕ) (old : List DN.Note) → Listing k stmts n old 0 n old
listing_first k stmts n old = record { size = refl; low = omega arith; going = going_first k old (noted_stmts n (stmts_view stmts)) }

pub long_less : (k : Marks) (n m : ℕ) → IsLong k n → m ≤ n → IsLong k m
long_less k n m l p = let a = l.around in let b = l.following in let c = l.few in record { around = omega (arith, a, p); following = omega (arith, b, p); few = omega (arith, c, p) }

pub listing_long : (k : Marks) (stmts : List FlowStmt) (n : ℕ) (old : List DN.Note) (i at : ℕ) (now : List DN.Note) (s : FlowStmt) → drop i stmts ≡ s ∷ drop (i + 1) stmts → IsLong k (n + size_stmts (stmts_view stmts)) → Listing k stmts n old i at now → IsLong k (at + size (flow_view s.flow))
listing_long k stmts n old i at now s e l g = let split = ap size_stmts (stmts_split stmts i s e) in let a = g.size in long_less k _ _ l (omega (arith, a, split))

pub listing_small : (k : Marks) (stmts : List FlowStmt) (n : ℕ) (old : List DN.Note) (i at : ℕ) (now : List DN.Note) (s : FlowStmt) → drop i stmts ≡ s ∷ drop (i + 1) stmts → Listing k stmts n old i at now → size (flow_view s.flow) ≤ size_stmts (stmts_view stmts)
listing_small k stmts n old i at now s e g = let split = ap size_stmts (stmts_split stmts i s e) in let a = g.size in let b = g.low in omega (arith, a, b, split)

pub listing_more : (k : Marks) (stmts : List FlowStmt) (n : ℕ) (old : List DN.Note) (i at : ℕ) (now new : List DN.Note) (s : FlowStmt) (m : ℕ) → drop i stmts ≡ s ∷ drop (i + 1) stmts → Listing k stmts n old i at now → IsNoted k (noted at (flow_view s.flow)) now new → m ≡ at + size (flow_view s.flow) → Listing k stmts n old (i + 1) m new
listing_more k stmts n old i at now new s m e g noted is = record {
  size = let split = ap size_stmts (stmts_split stmts i s e) in let a = g.size in omega (arith, a, split, is);
  low = let b = g.low in omega (arith, b, is);
  going = subst (λ j. Going k old (noted_stmts n (stmts_view stmts)) new (noted_stmts j (stmts_view (drop (i + 1) stmts)))) (sym is)
      (going_more k old now new _ _ _ (subst (λ ss. Going k old (noted_stmts n (stmts_view stmts)) now (noted_stmts at ss)) (stmts_split stmts i s e) g.going) noted);
}

pub listing_ends : (k : Marks) (stmts : List FlowStmt) (n : ℕ) (old : List DN.Note) (i at : ℕ) (now : List DN.Note) → length stmts ≤ i → Listing k stmts n old i at now → IsNoted k (noted_stmts n (stmts_view stmts)) old now
listing_ends k stmts n old i at now past g = going_ends k old now _ (subst (λ ss. Going k old (noted_stmts n (stmts_view stmts)) now (noted_stmts at (stmts_view ss))) (drop_all i stmts past) g.going)

pub listing_at : (k : Marks) (stmts : List FlowStmt) (n : ℕ) (old : List DN.Note) (i at : ℕ) (now : List DN.Note) → length stmts ≤ i → Listing k stmts n old i at now → at ≡ n + size_stmts (stmts_view stmts)
listing_at k stmts n old i at now past g = let e = ap (λ ss. size_stmts (stmts_view ss)) (drop_all i stmts past) in let a = g.size in omega (arith, a, e)

pub record Arming (k : Marks) (arms : List FlowArm) (n : ℕ) (old : List DN.Note) (i at : ℕ) (now : List DN.Note) : Type 0 where
  pub size : at + size_arms (arms_view (drop i arms)) ≡ n + size_arms (arms_view arms)
  pub low : n ≤ at
  pub going : Going k old (noted_arms n (arms_view arms)) now (noted_arms at (arms_view (drop i arms)))

pub arming_first : (k : Marks) (arms : List FlowArm) (n : ℕ) (old : List DN.Note) → Arming k arms n old 0 n old
arming_first k arms n old = record { size = refl; low = omega arith; going = going_first k old (noted_arms n (arms_view arms)) }

pub arming_long : (k : Marks) (arms : List FlowArm) (n : ℕ) (old : List DN.Note) (i at : ℕ) (now : List DN.Note) (a : FlowArm) → drop i arms ≡ a ∷ drop (i + 1) arms → IsLong k (n + size_arms (arms_view arms)) → Arming k arms n old i at now → IsLong k (at + size_block (block_view (out-FlowArm a).body))
arming_long k arms n old i at now a e l g = let split = ap size_arms (arms_split arms i a e) in let b = g.size in long_less k _ _ l (omega (arith, b, split))

pub arming_small : (k : Marks) (arms : List FlowArm) (n : ℕ) (old : List DN.Note) (i at : ℕ) (now : List DN.Note) (a : FlowArm) → drop i arms ≡ a ∷ drop (i + 1) arms → Arming k arms n old i at now → size_block (block_view (out-FlowArm a).body) ≤ size_arms (arms_view arms)
arming_small k arms n old i at now a e g = let split = ap size_arms (arms_split arms i a e) in let b = g.size in let c = g.low in omega (arith, b, c, split)

pub arming_more : (k : Marks) (arms : List FlowArm) (n : ℕ) (old : List DN.Note) (i at : ℕ) (now new : List DN.Note) (a : FlowArm) (m : ℕ) → drop i arms ≡ a ∷ drop (i + 1) arms → Arming k arms n old i at now → IsNoted k (noted_block at (block_view (out-FlowArm a).body)) now new → m ≡ at + size_block (block_view (out-FlowArm a).body) → Arming k arms n old (i + 1) m new
arming_more k arms n old i at now new a m e g noted is = record {
  size = let split = ap size_arms (arms_split arms i a e) in let b = g.size in omega (arith, b, split, is);
  low = let b = g.low in omega (arith, b, is);
  going = subst (λ j. Going k old (noted_arms n (arms_view arms)) new (noted_arms j (arms_view (drop (i + 1) arms)))) (sym is)
      (going_more k old now new _ _ _ (subst (λ ss. Going k old (noted_arms n (arms_view arms)) now (noted_arms at ss)) (arms_split arms i a e) g.going) noted);
}

pub arming_ends : (k : Marks) (arms : List FlowArm) (n : ℕ) (old : List DN.Note) (i at : ℕ) (now : List DN.Note) → length arms ≤ i → Arming k arms n old i at now → IsNoted k (noted_arms n (arms_view arms)) old now
arming_ends k arms n old i at now past g = going_ends k old now _ (subst (λ ss. Going k old (noted_arms n (arms_view arms)) now (noted_arms at (arms_view ss))) (drop_all i arms past) g.going)

pub arming_at : (k : Marks) (arms : List FlowArm) (n : ℕ) (old : List DN.Note) (i at : ℕ) (now : List DN.Note) → length arms ≤ i → Arming k arms n old i at now → at ≡ n + size_arms (arms_view arms)
arming_at k arms n old i at now past g = let e = ap (λ ss. size_arms (arms_view ss)) (drop_all i arms past) in let a = g.size in omega (arith, a, e)

-- ---- a note that is lacking

pub lacks_left : (m n : ℕ) (k : Marks) (xs ys : List Noted) → LacksNote m n k xs → LacksNote m n k (xs ++ ys)
lacks_left m n k [] ys l = absurd l
lacks_left m n k (x ∷ xs) ys l = ⊎_elim (λ h. inl h) (λ t. inr (lacks_left m n k xs ys t)) l

pub lacks_right : (m n : ℕ) (k : Marks) (xs ys : List Noted) → LacksNote m n k ys → LacksNote m n k (xs ++ ys)
lacks_right m n k [] ys l = l
lacks_right m n k (x ∷ xs) ys l = inr (lacks_right m n k xs ys l)

pub join_lacks : (m v : ℕ) (k : Marks) (n : ℕ) (p : Bool) → p ≡ true → HasNoNote m v k (a_join n) → LacksNote m v k (if p then a_join n ∷ [] else [])
join_lacks m v k n true e h = inl h
join_lacks m v k n false e h = absurd (true≢false (sym e))

going_lacks : (m v : ℕ) (k : Marks) (old now : List DN.Note) (all xs rest : List Noted) → Going k old all now (xs ++ rest) → LacksNote m v k xs → LacksNote m v k all
going_lacks m v k old now all xs rest g l = subst (LacksNote m v k) (sym g.is) (lacks_right m v k g.so_far (xs ++ rest) (lacks_left m v k xs rest l))

pub listing_lacks : (m v : ℕ) (k : Marks) (stmts : List FlowStmt) (n : ℕ) (old : List DN.Note) (i at : ℕ) (now : List DN.Note) (s : FlowStmt) → drop i stmts ≡ s ∷ drop (i + 1) stmts → Listing k stmts n old i at now → LacksNote m v k (noted at (flow_view s.flow)) → LacksNote m v k (noted_stmts n (stmts_view stmts))
listing_lacks m v k stmts n old i at now s e g l = going_lacks m v k old now _ (noted at (flow_view s.flow)) _ (subst (λ ss. Going k old (noted_stmts n (stmts_view stmts)) now (noted_stmts at ss)) (stmts_split stmts i s e) g.going) l

pub arming_lacks : (m v : ℕ) (k : Marks) (arms : List FlowArm) (n : ℕ) (old : List DN.Note) (i at : ℕ) (now : List DN.Note) (a : FlowArm) → drop i arms ≡ a ∷ drop (i + 1) arms → Arming k arms n old i at now → LacksNote m v k (noted_block at (block_view (out-FlowArm a).body)) → LacksNote m v k (noted_arms n (arms_view arms))
arming_lacks m v k arms n old i at now a e g l = going_lacks m v k old now _ (noted_block at (block_view (out-FlowArm a).body)) _ (subst (λ ss. Going k old (noted_arms n (arms_view arms)) now (noted_arms at ss)) (arms_split arms i a e) g.going) l

-- ---- whether statements and arms can be passed

pub stmts_pass : (stmts : List FlowStmt) (i : ℕ) (s : FlowStmt) → drop i stmts ≡ s ∷ drop (i + 1) stmts → passes_stmts (stmts_view stmts) ≡ passes_stmts (stmts_view (drop i stmts)) → true ≡ passes (flow_view s.flow) → passes_stmts (stmts_view stmts) ≡ passes_stmts (stmts_view (drop (i + 1) stmts))
stmts_pass stmts i s e all on = all ∙ ap passes_stmts (stmts_split stmts i s e) ∙ ap (λ b. b && passes_stmts (stmts_view (drop (i + 1) stmts))) (sym on)

pub stmts_stop : (stmts : List FlowStmt) (i : ℕ) (s : FlowStmt) → drop i stmts ≡ s ∷ drop (i + 1) stmts → passes_stmts (stmts_view stmts) ≡ passes_stmts (stmts_view (drop i stmts)) → false ≡ passes (flow_view s.flow) → false ≡ passes_stmts (stmts_view stmts)
stmts_stop stmts i s e all off = sym (all ∙ ap passes_stmts (stmts_split stmts i s e) ∙ ap (λ b. b && passes_stmts (stmts_view (drop (i + 1) stmts))) (sym off))

pub stmts_all : (stmts : List FlowStmt) (i : ℕ) → length stmts ≤ i → passes_stmts (stmts_view stmts) ≡ passes_stmts (stmts_view (drop i stmts)) → true ≡ passes_stmts (stmts_view stmts)
stmts_all stmts i past all = sym (all ∙ ap (λ l. passes_stmts (stmts_view l)) (drop_all i stmts past))

pub arms_pass : (arms : List FlowArm) (i : ℕ) (a : FlowArm) → drop i arms ≡ a ∷ drop (i + 1) arms → passes_arms (arms_view arms) ≡ passes_arms (arms_view (drop i arms)) → true ≡ passes_block (block_view (out-FlowArm a).body) → true ≡ passes_arms (arms_view arms)
arms_pass arms i a e all on = sym (all ∙ ap passes_arms (arms_split arms i a e) ∙ ap (λ b. b || passes_arms (arms_view (drop (i + 1) arms))) (sym on))

pub arms_stop : (arms : List FlowArm) (i : ℕ) (a : FlowArm) → drop i arms ≡ a ∷ drop (i + 1) arms → passes_arms (arms_view arms) ≡ passes_arms (arms_view (drop i arms)) → false ≡ passes_block (block_view (out-FlowArm a).body) → passes_arms (arms_view arms) ≡ passes_arms (arms_view (drop (i + 1) arms))
arms_stop arms i a e all off = all ∙ ap passes_arms (arms_split arms i a e) ∙ ap (λ b. b || passes_arms (arms_view (drop (i + 1) arms))) (sym off)

pub arms_none : (arms : List FlowArm) (i : ℕ) → length arms ≤ i → passes_arms (arms_view arms) ≡ passes_arms (arms_view (drop i arms)) → false ≡ passes_arms (arms_view arms)
arms_none arms i past all = sym (all ∙ ap (λ l. passes_arms (arms_view l)) (drop_all i arms past))

-- ---- one note

pub noted_loop : (k : Marks) (n : ℕ) (old new : List DN.Note) (stmt : StmtId) (around exit : TokMap) → new ≡ old ++ V.Loop stmt around exit ∷ [] → stmt.0 ≡ n → IsHeld (slot k.around n) (map_in around) → IsHeld (slot k.following n) (map_in exit) → IsNoted k (a_loop n ∷ []) old new
noted_loop k n old new stmt around exit e is a b =
    noted_one k (a_loop n) old new (V.Loop stmt around exit) e (ap a_loop is)
    (subst (λ i. IsHeld (slot k.around i) (map_in around)) (sym is) a, subst (λ i. IsHeld (slot k.following i) (map_in exit)) (sym is) b)

pub noted_join : (k : Marks) (n : ℕ) (p : Bool) (old new : List DN.Note) (stmt : StmtId) (m : TokMap) → p ≡ true → new ≡ old ++ V.Join stmt m ∷ [] → stmt.0 ≡ n → IsHeld (slot k.following n) (map_in m) → IsNoted k (if p then a_join n ∷ [] else []) old new
noted_join k n p old new stmt m has e is b =
    subst (λ q. IsNoted k (if q then a_join n ∷ [] else []) old new) (sym has)
    (noted_one k (a_join n) old new (V.Join stmt m) e (ap a_join is) (subst (λ i. IsHeld (slot k.following i) (map_in m)) (sym is) b))

pub noted_no_join : (k : Marks) (n : ℕ) (p : Bool) (old : List DN.Note) → p ≡ false → IsNoted k (if p then a_join n ∷ [] else []) old old
noted_no_join k n p old none = subst (λ q. IsNoted k (if q then a_join n ∷ [] else []) old old) (sym none) (noted_none k old)

-- all notes of a list that was empty
pub record AreAll (k : Marks) (xs : List Noted) (all : List DN.Note) : Type 0 where
  pub names : map noted_by (map note_of all) ≡ xs
  pub reads : AreRead k (map note_of all)

pub noted_all : (k : Marks) (xs : List Noted) (old all : List DN.Note) → old ≡ [] → IsNoted k xs old all → AreAll k xs all
noted_all k xs old all none n =
    let is = n.is ∙ ap (λ l. l ++ n.added) none in record {
      names = ap (λ l. map noted_by (map note_of l)) is ∙ n.names;
      reads = subst (λ l. AreRead k (map note_of l)) (sym is) n.reads;
    }

pub on_more : {A E : Type 0} (r : Result A E) (P Q : Type 0) → (P → Q) → OnOk r P → OnOk r Q
on_more (Ok x) P Q f p = f p
on_more (Err e) P Q f p = p

pub if_more : {A E : Type 0} (r : Result A E) (P Q : A → Type 0) → ((x : A) → P x → Q x) → IfOk r P → IfOk r Q
if_more (Ok x) P Q f p = f x p
if_more (Err e) P Q f p = p
