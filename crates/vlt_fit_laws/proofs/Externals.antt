-- The externals of an elaborated program have the heads of declarations.
use Rattle.std.proofs.Common.{◌≡◌, Bool, true, false, true≢false, Option, Some, None, Ok, refl, sym, ap, ◌∙◌, subst}
use Rattle.vlt_syntax.specs.Tree.{Block, Head, Tree}
use Rattle.vlt_core.specs.Core as core
use Rattle.vlt_core.specs.Core.{Func, Program}
use Rattle.vlt_kinds_types.specs.Files.{File, file_of}
use Rattle.vlt_kinds_heads.specs.Keys.{Keys, keys_of}
use Rattle.vlt_kinds_heads.specs.Phase.{core_head}
use Rattle.vlt_kinds_types.specs.Kinds.{Kinds}
use Rattle.vlt_resolve_laws.specs.KindsLaws.Declared.{HasDeclared}
use Rattle.vlt_elaboration.specs.Elaboration.{elaborated}
use Rattle.vlt_resolve_laws.specs.Made.{IsMade}
use Rattle.vlt_resolve_laws.specs.Elaborated.{IsElaborated}
use Rattle.vlt_resolve_laws.proofs.Made.{told, made_at, HasFunctions, functions_made}
use Rattle.vlt_kinds.specs.Tables.{kinds_of}
use Rattle.vlt_fit_laws.specs.Externals.{HasExternals}

with_no_body : (file : File) (h : Head) (keys : Keys) → record (core_head file true h keys) { body = core.done } ≡ core_head file true h keys
unfolding core_head
with_no_body file h keys = refl

with_body : (file : File) (external : Bool) (h : Head) (keys : Keys) → (core_head file external h keys).external ≡ external
unfolding core_head
with_body file external h keys = refl

-- a function that is the host's has no body, so it is its head
extern_is : (kinds : Kinds) (h : Head) (body : Option Block) (f : Func) → f.external ≡ true → IsMade kinds h body f →
    f ≡ core_head kinds.file true h (keys_of kinds.file h)
extern_is kinds h None f e made = made.walked ∙ with_no_body kinds.file h (keys_of kinds.file h)
extern_is kinds h (Some b) f e made =
    absurd (true≢false (sym e ∙ ap (λ g. g.external) made.walked.1.made ∙ with_body kinds.file false h (keys_of kinds.file h)))

now : (t : Tree) (p : Program) → HasFunctions (kinds_of t.decls) p → HasExternals t.decls p
now t p fs = record {
  heads = λ i g at external.
      let m = made_at (kinds_of t.decls) (kinds_of t.decls).heads p.fns fs.made i g at in
      (m.head, keys_of (file_of t.decls) m.head, extern_is (kinds_of t.decls) m.head m.body g external m.made);
}

-- what elaboration made of the functions of the tree
made_of : (t : Tree) (kinds : Kinds) (p : Program) → IsElaborated t kinds p → HasFunctions (kinds_of t.decls) p
made_of t kinds p e =
    let x = told t.decls kinds e.told in
    functions_made t p e.tree.0 x.heads (subst (λ k. elaborated t k ≡ Ok p) (sym x.same) e.gives)

pub externals_of : (t : Tree) (kinds : Kinds) (p : Program) → IsElaborated t kinds p → HasExternals t.decls p
externals_of t kinds p e = now t p (made_of t kinds p e)

pub declared_of : (t : Tree) (kinds : Kinds) (p : Program) → IsElaborated t kinds p → HasDeclared t.decls p
declared_of t kinds p e = let fs = made_of t kinds p e in record { sets = fs.sets; types = fs.types }
