-- Where transits along the steps of an intent arrive: at a SID of the position where they end.
use Rattle.std.proofs.Common.{◌≡◌, ℕ, zero, suc, ◌+◌, ◌-◌, ◌≤◌, ◌<◌, Bool, true, false, ◌==◌, if◌then◌else◌, List, [], ◌∷◌, length, take, drop, Option, Some, None, slice_get, refl, sym, ◌∙◌, ap, arith, eqb-true, add-one}
use Rattle.std.specs.Prelude.{is_some}
use Rattle.std.specs.Option.{option_and_then}
use Rattle.std.proofs.lemmas.Bool.{and_from, eq-eqb}
use Rattle.std.proofs.lemmas.List.{length-drop}
use Rattle.std.proofs.lemmas.Option.{slice_get_within, get_or_from_slice_get}
use Rattle.std.proofs.Math.Seq.{take-add}
use Rattle.srv6_rules.specs.declared.sid.SidEntry.{SidEntry}
use Rattle.net_model.specs.Network.{Network}
use Rattle.net_model.specs.NetworkKeeps.{Keeps}
use Rattle.walk_rules.specs.declared.place.Place.{Place}
use Rattle.walk_rules.specs.Way.{Into, way_of}
use Rattle.walk_rules.proofs.PublicLaws.{way_into}
use Rattle.intent_reader.specs.IntentRules.{stand_after, node_after, function_node, is_at}
use Rattle.intent_reader.specs.IntentRulesTerms.{IsIntent}
use Rattle.intent_reader.specs.declared.intent.Step.{Step}
use Rattle.intent_reader.specs.declared.intent.Step.TheVariants.{Links, Function, Reach}
use Rattle.intent_reader.specs.declared.intent.Intent.{Intent}
use Rattle.leg_table.specs.WalkTrace.{has_title}
use Rattle.leg_table.specs.StepMatching.{left_after, left_after_function}
use Rattle.leg_table.specs.Transits.{Transit, transit_of}
use Rattle.leg_table.specs.PositionSids.{sid_address, is_sid_at, sid_suits, title_suits, step_before, is_function_of, node_at}
use Rattle.leg_table.proofs.StrictOptions.{drop_first, some_same, if_some}
use Rattle.leg_table.proofs.TransitFacts.{OriginFacts, transit_facts_law, intent_stands, stand_after_append}
use Rattle.leg_table.proofs.Placing.{step_lands}

pub drop_drop : {X : Type 0} (n m : ℕ) (xs : List X) → drop m (drop n xs) ≡ drop (n + m) xs
drop_drop zero m xs = let e : 0 + m ≡ m = omega arith in rw e refl
drop_drop (suc n) zero [] = let e : suc n + 0 ≡ suc n = omega arith in rw e refl
drop_drop {X} (suc n) (suc m) [] = let e : suc n + suc m ≡ suc (n + suc m) = omega arith in rw e refl
drop_drop {X} (suc n) m (x ∷ xs) = let e : suc n + m ≡ suc (n + m) = omega arith in rw e (drop_drop n m xs)

module _ (net : Network) (keeps : Keeps net) (intent : Intent) (is_intent : IsIntent net intent) where
  -- where a transit ends: the SID stands there, and so many steps are done
  pub record Arrives (position next : ℕ) (left : ℕ) : Type 0 where
    pub sid : SidEntry
    pub there : slice_get net.sids next ≡ Some sid
    pub done : ℕ
    pub from : position ≤ done
    pub until : done ≤ length intent.steps
    pub stands : node_at net intent done ≡ Some sid.node
    pub rest : List Step
    pub rest_is : drop done intent.steps ≡ rest
    pub left_is : left_after net next rest ≡ Some left

  pub into_stands : (place : Place) (d n : ℕ) → way_of net place d ≡ Into n
      → (s : SidEntry) × (slice_get net.sids n ≡ Some s) × (s.node ≡ place.node)
  into_stands place d n e = let at = way_into net place d n e in (at.sid, at.is_there, at.stands)

  -- so it is with a transit from a place that stands where the walk does at a position
  pub transit_arrives : (position : ℕ) (place : Place) → OriginFacts net intent position place → (next : ℕ) (r : Transit)
      → transit_of net (sid_address net next) (drop position intent.steps) place ≡ Some r → r.sid ≡ next
      → (left : ℕ) → left_after net next r.left ≡ Some left → Arrives position next left
  transit_arrives position place s next r is_transit is_sid left left_is =
      let f = transit_facts_law net keeps (sid_address net next) (drop position intent.steps) place r s.how s.rest is_transit in
      let sid = into_stands r.place (sid_address net next) next (f.into ∙ ap Into is_sid) in
      let len = length-drop position intent.steps in
      record {
        sid = sid.0;
        there = sid.1;
        done = position + f.count;
        from = omega arith;
        until = omega (arith, f.within, s.within);
        stands =
            ap (stand_after net intent.headend) (take-add position f.count intent.steps)
            ∙ stand_after_append net intent.headend (take position intent.steps) (take f.count (drop position intent.steps))
            ∙ ap (option_and_then (λ k. stand_after net k (take f.count (drop position intent.steps)))) s.stands
            ∙ f.stands ∙ ap Some (sym sid.2);
        rest = r.left;
        rest_is = sym (drop_drop position f.count intent.steps) ∙ sym f.left;
        left_is = left_is;
      }

  -- and it lowers the hop limit at most once for each step
  pub transit_few : (position : ℕ) (place : Place) → OriginFacts net intent position place → (destination : ℕ) (r : Transit)
      → transit_of net destination (drop position intent.steps) place ≡ Some r → r.lowered ≤ 48
  transit_few position place s destination r is_transit =
      let f = transit_facts_law net keeps destination (drop position intent.steps) place r s.how s.rest is_transit in
      let len = length-drop position intent.steps in
      let few = (intent_stands net intent is_intent).1 in
      omega (arith, f.within, f.lowered)

  abbrev pub AtEnd : ℕ → ℕ → ℕ → Type 0
  AtEnd position next left =
      (to : ℕ) × (length intent.steps - left ≡ to) × (position ≤ to) × (to ≤ length intent.steps) × (is_sid_at net intent to next ≡ true)

  left_by : (position next left : ℕ) (a : Arrives position next left) (t : Bool) → is_some a.sid.title ≡ t
      → (if t then left_after_function next a.rest else Some (length a.rest)) ≡ Some left
  left_by position next left a t e =
      ap (λ (b : Bool). if b then left_after_function next a.rest else Some (length a.rest)) (sym e)
      ∙ ap (λ (o : Option SidEntry). if has_title o then left_after_function next a.rest else Some (length a.rest)) (sym a.there)
      ∙ a.left_is

  sid_at_from : (to next : ℕ) (s : SidEntry) → slice_get net.sids next ≡ Some s → node_at net intent to ≡ Some s.node
      → title_suits next (step_before intent.steps to) s.title ≡ true → is_sid_at net intent to next ≡ true
  sid_at_from to next s there stands suits =
      ap (sid_suits next (node_at net intent to) (step_before intent.steps to)) there
      ∙ and_from (is_at s.node (node_at net intent to)) (title_suits next (step_before intent.steps to) s.title)
      (ap (is_at s.node) stands ∙ eq-eqb s.node s.node refl) suits

  at_untitled : (position next left : ℕ) (a : Arrives position next left) → a.sid.title ≡ None → AtEnd position next left
  at_untitled position next left a none =
      let e : length a.rest ≡ left = some_same (length a.rest) left (left_by position next left a false (ap is_some none)) in
      let l = ap length a.rest_is in
      let k = length-drop a.done intent.steps in (
        a.done,
        omega (arith, a.until),
        a.from,
        a.until,
        sid_at_from a.done next a.sid a.there a.stands (ap (title_suits next (step_before intent.steps a.done)) none),
      )

  at_titled : (position next left : ℕ) (a : Arrives position next left) (title : ℕ) → a.sid.title ≡ Some title → AtEnd position next left
  at_titled position next left a title some = by_rest a.rest a.rest_is (left_by position next left a true (ap is_some some))
    where
      by_rest : (rest : List Step) → drop a.done intent.steps ≡ rest → left_after_function next rest ≡ Some left → AtEnd position next left
      by_rest [] e h = absurd (cc)
      by_rest (Links set ∷ ts) e h = absurd (cc)
      by_rest (Reach node ∷ ts) e h = absurd (cc)
      by_rest (Function m ∷ ts) e h =
          let got = if_some (m == next) (Some (length ts)) left h in
          let same : m ≡ next = eqb-true m next got.0 in
          let count : length ts ≡ left = some_same (length ts) left got.1 in
          let l = ap length e in
          let k = length-drop a.done intent.steps in
          let at = (drop_first intent.steps a.done (Function m) ts e).0 in
          let below : a.done < length intent.steps = slice_get_within intent.steps a.done (Function m) at in
          let after : node_after net a.sid.node (Function m) ≡ Some a.sid.node
          = ap (λ (j : ℕ). function_node a.sid.node (slice_get net.sids j)) same
          ∙ ap (function_node a.sid.node) a.there
          ∙ ap (λ (b : Bool). if b then Some a.sid.node else None)
          (and_from (a.sid.node == a.sid.node) (is_some a.sid.title) (eq-eqb a.sid.node a.sid.node refl) (ap is_some some)) in
          let lands = step_lands net intent a.done a.sid.node a.sid.node (Function m) a.stands below
          (get_or_from_slice_get intent.steps a.done (Function m) (Function m) at) after in
          let stands : node_at net intent (suc a.done) ≡ Some a.sid.node = rw add-one at lands in (
            suc a.done,
            omega arith,
            omega (arith, a.from),
            omega arith,
            sid_at_from (suc a.done) next a.sid a.there stands
                (ap (title_suits next (slice_get intent.steps a.done)) some ∙ ap (is_function_of next) at ∙ got.0),
          )

  pub at_end_law : (position next left : ℕ) → Arrives position next left → AtEnd position next left
  at_end_law position next left a = by_title a.sid.title refl
    where
      by_title : (o : Option ℕ) → a.sid.title ≡ o → AtEnd position next left
      by_title None e = at_untitled position next left a e
      by_title (Some title) e = at_titled position next left a title e
