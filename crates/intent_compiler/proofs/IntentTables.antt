-- The legs of an intent by the kind of its table.
use Rattle.std.proofs.Common.{◌≡◌, refl, sym, ap, subst, ◌∙◌}
use Rattle.leg_table.specs.StrictTableTerms.{LegTable}
use Rattle.leg_table.specs.StrictLegsValue.{legs_value}
use Rattle.intent_compiler.specs.declared.intent_legs.Kind.{Kind}
use Rattle.intent_compiler.specs.declared.intent_legs.Kind.TheVariants as kinds
use Rattle.intent_compiler.specs.LegKindsTerms.{SuitsKind, table_of}
use Rattle.intent_compiler.specs.IntentLegs.{intent_legs_value}
use Rattle.intent_compiler.proofs.IntentStrict.{legs_strict}

-- what is seen of a table is seen of one that is the same
module _ (kind : Kind) (t is : LegTable) (view : table_of kind ≡ is) (suits : SuitsKind kind) where
  same_table : (kind : Kind) → table_of kind ≡ is → (of : Kind) → table_of of ≡ t → kind ≡ of
      → intent_legs_value t.net t.intent ≡ intent_legs_value is.net is.intent
  same_table kind view of own e =
      ap (λ (u : LegTable). intent_legs_value u.net u.intent) (sym own ∙ sym (ap table_of e) ∙ view)

  pub seen_strict : kind ≡ kinds.Strict t → legs_value t.net t.intent ≡ intent_legs_value is.net is.intent
  seen_strict e =
      let s = subst SuitsKind e suits in
      sym (legs_strict t.net t.intent s.1 s.0) ∙ same_table kind view (kinds.Strict t) refl e
