-- Rows of SIDs: a number put into its place, and where the walk stands step by step.
use Rattle.std.proofs.Common.{◌≡◌, ℕ, suc, ◌+◌, ◌<◌, ◌≤◌, ◌⊎◌, inl, inr, true, false, List, [], ◌∷◌, ◌++◌, length, get_or, take, drop, Option, Some, None, slice_get, refl, sym, ◌∙◌, ap, subst, arith, add-one, length-append}
use Rattle.std.specs.Prelude.{is_some}
use Rattle.std.specs.Option.{option_and_then}
use Rattle.std.proofs.lemmas.Bool.{cases_order}
use Rattle.std.proofs.Math.Seq.{drop-cons, take-suc}
use Rattle.net_model.specs.Network.{Network}
use Rattle.intent_reader.specs.IntentRules.{stand_after, node_after}
use Rattle.intent_reader.specs.IntentRulesTerms.{IsIntent}
use Rattle.intent_reader.specs.declared.intent.Step.{Step}
use Rattle.intent_reader.specs.declared.intent.Intent.{Intent}
use Rattle.leg_table.specs.PositionSids.{placed, is_sid_at, sids_below, sids_of, node_at}
use Rattle.leg_table.specs.StrictTableTerms.{AreRows}
use Rattle.leg_table.proofs.StrictOptions.{get_pushed, get_before}
use Rattle.leg_table.proofs.TransitFacts.{stand_after_append, stand_after_split, intent_stands}

-- a row by the numbers of its SIDs
pub sids_below_zero : (net : Network) (intent : Intent) (position : ℕ) → sids_below net intent position 0 ≡ []
unfolding sids_below
sids_below_zero net intent position = refl

suc_in : (net : Network) (intent : Intent) (position k : ℕ) → is_sid_at net intent position k ≡ true
    → sids_below net intent position (suc k) ≡ placed net k (sids_below net intent position k)
unfolding sids_below
suc_in net intent position k e = rw e refl

suc_out : (net : Network) (intent : Intent) (position k : ℕ) → is_sid_at net intent position k ≡ false
    → sids_below net intent position (suc k) ≡ sids_below net intent position k
unfolding sids_below
suc_out net intent position k e = rw e refl

pub sids_below_in : (net : Network) (intent : Intent) (position k : ℕ) → is_sid_at net intent position k ≡ true
    → sids_below net intent position (k + 1) ≡ placed net k (sids_below net intent position k)
sids_below_in net intent position k e = ap (sids_below net intent position) (add-one k) ∙ suc_in net intent position k e

pub sids_below_out : (net : Network) (intent : Intent) (position k : ℕ) → is_sid_at net intent position k ≡ false
    → sids_below net intent position (k + 1) ≡ sids_below net intent position k
sids_below_out net intent position k e = ap (sids_below net intent position) (add-one k) ∙ suc_out net intent position k e

pub row_in : (net : Network) (intent : Intent) (position k at : ℕ) (xs ys : List ℕ) → xs ≡ sids_below net intent position k
    → is_sid_at net intent position k ≡ true
    → placed net k xs ≡ take at xs ++ k ∷ drop at xs → ys ≡ take at xs ++ k ∷ drop at xs → ys ≡ sids_below net intent position (k + 1)
row_in net intent position k at xs ys e f g h = h ∙ sym g ∙ ap (placed net k) e ∙ sym (sids_below_in net intent position k f)

pub row_out : (net : Network) (intent : Intent) (position k : ℕ) (xs ys : List ℕ) → xs ≡ sids_below net intent position k
    → is_sid_at net intent position k ≡ false
    → ys ≡ xs → ys ≡ sids_below net intent position (k + 1)
row_out net intent position k xs ys e f h = h ∙ e ∙ sym (sids_below_out net intent position k f)

-- where the walk stands, step by step
pub step_opens : (net : Network) (intent : Intent) (i node : ℕ) (step : Step) → IsIntent net intent → node_at net intent i ≡ Some node
    → i < length intent.steps
    → get_or intent.steps i step ≡ step → is_some (node_after net node step) ≡ true
step_opens net intent i node step is_intent stands h e =
    let whole : is_some (stand_after net node (drop i intent.steps)) ≡ true
    = ap is_some (sym (stand_after_split net intent.headend node intent.steps i stands)) ∙ (intent_stands net intent is_intent).0 in
    opens (node_after net node step) (ap (λ ts. is_some (stand_after net node ts))
    (sym (drop-cons intent.steps i step h ∙ ap (λ (s : Step). s ∷ drop (suc i) intent.steps) e))
    ∙ whole)
  where
    opens : (o : Option ℕ) → is_some (option_and_then (λ next. stand_after net next (drop (suc i) intent.steps)) o) ≡ true
        → is_some o ≡ true
    opens None h = h
    opens (Some n) h = refl

pub step_lands : (net : Network) (intent : Intent) (i node to : ℕ) (step : Step) → node_at net intent i ≡ Some node
    → i < length intent.steps
    → get_or intent.steps i step ≡ step → node_after net node step ≡ Some to → node_at net intent (i + 1) ≡ Some to
step_lands net intent i node to step stands h e after =
    ap (λ n. stand_after net intent.headend (take n intent.steps)) (add-one i)
    ∙ ap (stand_after net intent.headend)
    (take-suc intent.steps i step h ∙ ap (λ (s : Step). take i intent.steps ++ s ∷ []) e)
    ∙ stand_after_append net intent.headend (take i intent.steps) (step ∷ [])
    ∙ ap (option_and_then (λ n. stand_after net n (step ∷ []))) stands
    ∙ ap (option_and_then (λ n. stand_after net n [])) after

-- rows, one after another
pub rows_more : (net : Network) (intent : Intent) (last : ℕ) (row : List ℕ) (rows more : List (List ℕ)) → AreRows net intent last rows
    → row ≡ sids_of net intent (last + 1) → more ≡ rows ++ row ∷ [] → AreRows net intent (last + 1) more
rows_more net intent last row rows more h e f =
    subst (AreRows net intent (last + 1)) (sym f) (
      let len = length-append rows (row ∷ []) in omega (arith, h.0, len),
      λ position within. at position (cases_order position (last + 1)) within,
    )
  where
    at : (position : ℕ) → ((position ≡ last + 1) ⊎ ((position < last + 1) ⊎ (last + 1 < position))) → position ≤ last + 1
        → slice_get (rows ++ row ∷ []) position ≡ Some (sids_of net intent position)
    at position (inl same) within =
        get_pushed rows row position (same ∙ sym h.0) ∙ ap Some (e ∙ ap (sids_of net intent) (sym same))
    at position (inr (inl below)) within =
        get_before rows row position (omega (arith, h.0)) ∙ h.1 position (omega arith)
    at position (inr (inr above)) within = absurd (omega arith)

pub in_steps : (xs ys : List Step) (i : ℕ) (x : Step) → xs ≡ ys → i < length xs → x ≡ get_or xs i x → (i < length ys) × (get_or ys i x ≡ x)
in_steps xs ys i x e h f = subst (λ (zs : List Step). (i < length zs) × (get_or zs i x ≡ x)) e (h, sym f)

pub intent_short : (net : Network) (intent : Intent) (i : ℕ) → IsIntent net intent → i < length intent.steps → i + 1 ≤ 48
intent_short net intent i h e = let f = (intent_stands net intent h).1 in omega arith
