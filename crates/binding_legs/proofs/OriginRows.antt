-- The rows of origins, as they grow.
use Rattle.std.proofs.Common.{◌≡◌, ℕ, ◌+◌, ◌<◌, ◌≤◌, Bool, true, false, ◌&&◌, nat_le, if◌then◌else◌, List, [], ◌∷◌, ◌++◌, length, slice_get, Option, Some, None, refl, sym, ap, ◌∙◌, subst, arith, inl, inr, length-append}
use Rattle.std.proofs.lemmas.Bool.{cases_lt, le-leb}
use Rattle.std.proofs.lemmas.Option.{slice_get_within}
use Rattle.net_model.specs.Network.{Network}
use Rattle.intent_reader.specs.declared.intent.Intent.{Intent}
use Rattle.leg_table.specs.PositionSids.{is_sid_at}
use Rattle.leg_table.proofs.StrictOptions.{get_before, get_pushed}
use Rattle.binding_spec.specs.declared.origin.Origin.{Origin}
use Rattle.binding_spec.specs.Origins.{binding_origin, origin_behind}
use Rattle.binding_legs.specs.BindingTable.{AreOrigins, AreOriginsAt}

-- the origins behind the SIDs of lower numbers
pub record AreOriginsBelow (net : Network) (intent : Intent) (position count : ℕ) (row : List (Option Origin)) : Type 0 where
  pub long : length row ≡ count
  pub each : (sid : ℕ) → sid < count → slice_get row sid ≡ Some (binding_origin net intent position (Some sid))

module _ (net : Network) (intent : Intent) (position : ℕ) where
  -- the origin behind a SID, by whether it is one of the position
  pub origin_at_law : (sid : ℕ) → position ≤ length intent.steps → is_sid_at net intent position sid ≡ true
      → origin_behind net intent position sid (slice_get net.sids sid) ≡ binding_origin net intent position (Some sid)
  origin_at_law sid within at =
      sym (ap (λ (b : Bool). if b && is_sid_at net intent position sid then origin_behind net intent position sid
      (slice_get net.sids sid) else None)
      (le-leb position (length intent.steps) within)
      ∙ ap (λ (b : Bool). if b then origin_behind net intent position sid (slice_get net.sids sid) else None) at)

  pub no_origin_at : (sid : ℕ) → is_sid_at net intent position sid ≡ false → None ≡ binding_origin net intent position (Some sid)
  no_origin_at sid at = by_low (nat_le position (length intent.steps))
      ∙ ap (λ (b : Bool). if nat_le position (length intent.steps) && b
      then origin_behind net intent position sid (slice_get net.sids sid) else None) (sym at)
    where
      by_low : (b : Bool) → None ≡ (if b && false then origin_behind net intent position sid (slice_get net.sids sid) else None)
      by_low true = refl
      by_low false = refl

  pub one_more : (count : ℕ) (row more : List (Option Origin)) (origin : Option Origin) → AreOriginsBelow net intent position count row
      → origin ≡ binding_origin net intent position (Some count) → more ≡ row ++ origin ∷ []
      → AreOriginsBelow net intent position (count + 1) more
  one_more count row more origin below is e =
      let size = length-append row (origin ∷ []) in
      let long = below.long in
      let sized : length more ≡ count + 1 = ap length e ∙ size ∙ ap (λ (n : ℕ). n + 1) long in
      record {
        long = sized;
        each = λ sid low. elim (cases_lt sid count) [
          | inl less ↦ ap (λ xs. slice_get xs sid) e ∙ get_before row origin sid (omega (arith, less, long)) ∙ below.each sid less
          | inr least ↦
              let same : sid ≡ count = omega (arith, low, least) in
              ap (λ xs. slice_get xs sid) e ∙ get_pushed row origin sid (omega (arith, same, long))
              ∙ ap Some (is ∙ ap (λ (n : ℕ). binding_origin net intent position (Some n)) (sym same))
        ];
      }

-- ---- the row of each position

module _ (net : Network) (intent : Intent) where
  pub row_more : (count : ℕ) (rows more : List (List (Option Origin))) (row : List (Option Origin)) → AreOrigins net intent count rows
      → AreOriginsAt net intent count row → more ≡ rows ++ row ∷ [] → AreOrigins net intent (count + 1) more
  row_more count rows more row are is e =
      let size = length-append rows (row ∷ []) in
      let long = are.long in
      let sized : length more ≡ count + 1 = ap length e ∙ size ∙ ap (λ (n : ℕ). n + 1) long in
      record {
        long = sized;
        each = λ position other there.
            let within = slice_get_within more position other there in
            elim (cases_lt position count) [
              | inl less ↦
                  are.each position other (sym (get_before rows row position (omega (arith, less, long)))
                  ∙ sym (ap (λ xs. slice_get xs position) e) ∙ there)
              | inr least ↦
                  let same : position ≡ count = omega (arith, within, least, sized) in
                  let got : Path (Option (List (Option Origin))) (Some row) (Some other) =
                  sym (get_pushed rows row position (omega (arith, same, long))) ∙ sym (ap (λ xs. slice_get xs position) e) ∙ there in
                  subst (λ xs. AreOriginsAt net intent position xs) (cc)
                  (subst (λ (n : ℕ). AreOriginsAt net intent n row) (sym same) is)
            ];
      }
