-- Sets of states that declarations of the language say have states below 32 alone.
use Rattle.std.proofs.Common.{true, List, refl, sym, subst}
use Rattle.vlt_syntax.specs.Tree.{Head, Decl}
use Rattle.vlt_core.specs.Core as core
use Rattle.vlt_core.specs.Core.{Program}
use Rattle.vlt_kinds_types.specs.Files.{File, file_of}
use Rattle.vlt_kinds_heads.specs.Keys.{Keys}
use Rattle.vlt_kinds_heads.specs.Phase.{core_head}
use Rattle.vlt_resolve_laws.specs.KindsLaws.Shapes.{Describes}
use Rattle.vlt_resolve_laws.specs.KindsLaws.Said.{EntrySays}
use Rattle.vlt_resolve_laws.specs.KindsLaws.Declared.{HasDeclared, IsPassed}
use Rattle.vlt_resolve_laws.proofs.OfKindsLaws.States.{ListedAre}
use Rattle.vlt_resolve_laws.proofs.OfKindsLaws.HeadStates.{head_says, result_says}
use Rattle.vlt_resolve_laws.proofs.OfKindsLaws.Rows.{each_at, describes}
use Rattle.vlt_resolve_laws.proofs.Said.{payload_at, key_at}
use Rattle.vlt_resolve_laws.proofs.Narrow.{listed_narrow}
use Rattle.vlt_sound_worlds.specs.Limited.{IsNarrow}
use Rattle.vlt_sound.specs.Narrow.{IsNarrowHead, HasNarrowHeads}
use Rattle.vlt_fit_laws.specs.Externals.{HasExternals}

module _ (ds : List Decl) (p : Program) (passed : IsPassed ds) (has : HasDeclared ds p) where
  abbrev file : File
  file = file_of ds

  described : Describes file p
  described = describes ds p passed has

  listed : ListedAre file IsNarrow
  listed shape ss some = record { below = listed_narrow ds passed.language shape ss some }

  head_narrow : (h : Head) (keys : Keys) → IsNarrowHead p (core_head file true h keys)
  unfolding core_head
  head_narrow h keys = record {
    after = λ i e states at is. (each_at (EntrySays IsNarrow) _ i e (head_says file p described IsNarrow listed true h keys).clause at).after states is;
    owned = λ states t args is. result_says file p described IsNarrow listed keys h.result_type (core.owning states t args) is states refl;
    payloads = λ t c i args d states u others of declared at. payload_at ds p passed has IsNarrow listed t c i d (core.owning states u others) declared at states refl;
    listed = λ t c i args d k of declared at. key_at ds p passed has IsNarrow listed t c i d k declared at;
  }

  pub externals_narrow : HasExternals ds p → HasNarrowHeads p
  externals_narrow externals = record {
    heads = λ i g at external.
        let q = externals.heads i g at external in subst (IsNarrowHead p) (sym q.2) (head_narrow q.0 q.1);
  }
