-- The paths of strict legs are the legal lists that realize the intent.
use Rattle.std.proofs.Common.{slice_get, ◌≡◌, ℕ, suc, ◌<◌, arith, List, [], ◌∷◌, length, map, Some, None, sym, ◌∙◌, ap, zero-add}
use Rattle.std.specs.Prelude.{not}
use Rattle.std.proofs.lemmas.Bool.{and_parts}
use Rattle.srv6_rules.specs.Behaviours.{goes_on}
use Rattle.srv6_rules.specs.Packet.{Content, V6}
use Rattle.net_model.specs.Network.{Network}
use Rattle.net_model.specs.NetworkKeeps.{Keeps}
use Rattle.net_model.specs.NetworkRulesTerms.{IsNetwork}
use Rattle.net_flatness.specs.Flat.{IsFlat}
use Rattle.net_model.proofs.PublicLaws.{keeps_from_network}
use Rattle.walk_rules.specs.Walk.{choice_at}
use Rattle.intent_reader.specs.IntentRulesTerms.{IsIntent}
use Rattle.intent_reader.specs.declared.intent.Intent.{Intent}
use Rattle.sid_list_theory.specs.ListPlaces.{Tunnel}
use Rattle.list_pack.specs.declared.types.Container.{Container}
use Rattle.list_pack.specs.SidLists.{IsLegalList, list_values, prefixes_in}
use Rattle.list_pack.specs.Meaning.{AreSidsOf, Means}
use Rattle.leg_table.specs.OneLegLaws.{LegKind, LegLaws, KindLaws}
use Rattle.leg_table.specs.LegMeaning.{HandsInner, IsRealizing, IsExecuting, IsHanding}
use Rattle.leg_table.specs.Realizes.{headend_place, HandsOver, AlwaysHandsOver, ListRealizes}
use Rattle.leg_table.specs.RealizesTerms.{path_need, ListExecutes, ListHands, IsPathAlong}
use Rattle.leg_table.specs.PositionSids.{binds, sid_goes_on, prefix_at}
use Rattle.leg_table.specs.StepMatching.{matches}
use Rattle.leg_table.specs.StrictLegsValue.{legs_value, strict_kind, AnyWay}
use Rattle.leg_table.proofs.FlatNets.{FlatFacts, flat_facts}
use Rattle.leg_table.proofs.StrictHanding.{hands_agree}
use Rattle.leg_table.proofs.ListPlaces.{before_first}
use Rattle.leg_table.proofs.ListShapes.{suits_by, there}
use Rattle.leg_table.proofs.Meanings as means
use Rattle.leg_table.proofs.StrictOptions.{kept_parts, kept_from}
use Rattle.leg_table.proofs.PathNames.{hops_need, shapes_prefixes}
use Rattle.leg_table.proofs.StrictRealizing as any
use Rattle.leg_table.proofs.Shapes.{sid_shape}
use Rattle.leg_table.proofs.Stays.{stays_follow}
use Rattle.leg_table.proofs.StrictLaws.{shape_middle, strict_laws}
use Rattle.leg_table.proofs.LegsUp.{finish_up_law, leg_up_law}
use Rattle.leg_table.proofs.LegsOver.{finish_over_law, leg_over_law}
use Rattle.leg_table.proofs.LegsDown.{leg_down}

module _ (net : Network) (intent : Intent) (network : IsNetwork net) (flat : IsFlat net) (is_intent : IsIntent net intent) where
  abbrev k : LegKind
  k = strict_kind net intent

  keeps : Keeps net
  keeps = keeps_from_network net network

  facts : FlatFacts net
  facts = flat_facts net network flat

  sids_of : AreSidsOf (legs_value net intent) net
  sids_of n is =
      let s = there net keeps intent n is in
      let is_shape = sid_shape net n s.0 s.1 in (s.0, s.1, is_shape.0, is_shape.1)

  -- strict legs keep the laws of one leg and one finish
  pub strict_leg_laws : (t : Tunnel) → t.inner ≡ intent.inner → LegLaws k AnyWay t
  strict_leg_laws t family =
      record {
        leg_up = λ x y position via next leg hop p pick taken is on to high.
            leg_up_law net keeps facts intent is_intent t x y position via next leg hop p pick taken is on to high;
        finish_up = λ x position via next lowered hop p pick taken is on end high.
            finish_up_law net keeps facts intent is_intent t x position via next lowered hop p pick taken family is on end high;
        leg_over = λ x y position via next leg hop p pick taken h is on to over.
            leg_over_law net keeps facts intent is_intent t x y position via next leg hop p pick taken h is on to over;
        finish_over = λ x position via next lowered hop p pick taken h is on end over.
            finish_over_law net keeps facts intent is_intent t x position via next lowered hop p pick taken h family is on end over;
        down = λ x q position via hop p within at along nests to named positive hands.
            leg_down net network flat facts intent is_intent t family x q position via hop p within at along nests to named positive hands;
        some_longest = λ via p. (λ d. d, tt);
      }

  -- and those of their kind; as many choices matter as there are steps, and one more
  pub strict_kind_laws : KindLaws k AnyWay
  strict_kind_laws =
      record {
        network = network;
        flat = flat;
        legs = strict_laws net intent keeps facts is_intent;
        sids = sids_of;
        suits = suits_by net keeps facts.suits (legs_value net intent) sids_of
            (λ n s is middle. (and_parts (goes_on s) (not (binds s))
            (sym (ap sid_goes_on is) ∙ sym (shape_middle net.blocks (slice_get net.sids n)) ∙ middle)).0)
            (λ n m is also.
            let s = sids_of n is in
            let t = sids_of m also in
            stays_follow net network n m s.0 t.0 s.1 t.1);
        one = strict_leg_laws;
        matter = λ p. suc (length intent.steps);
        agree = λ p pick other h marks same over met. (
          over.0,
          hands_agree net over.0 intent.steps (Some (headend_place intent)) (V6 p) pick other 0 0 h
              (λ d few. ap pick (zero-add d) ∙ same d (omega arith) ∙ sym (ap other (zero-add d)))
              (kept_parts (matches intent.steps h.trace) marks met).0 over.1,
        );
      }

  -- ---- realizing by the kind is realizing

  abbrev to_kind : {segments : List ℕ} {inner : Content} {hop : ℕ} {choices : List ℕ} → HandsOver net intent segments inner hop choices
      → HandsInner k segments inner hop [] choices
  to_kind o =
      record {
        handed = o.handed;
        over = (o.fuel, o.first);
        steps = kept_from (matches intent.steps o.handed.trace) o.steps;
        content = o.content;
        allowed = o.unbound;
      }

  abbrev of_kind : {segments : List ℕ} {inner : Content} {hop : ℕ} {marks choices : List ℕ} → HandsInner k segments inner hop marks choices
      → HandsOver net intent segments inner hop choices
  of_kind {marks = marks} o =
      record {
        fuel = o.over.0;
        handed = o.handed;
        first = o.over.1;
        steps = (kept_parts (matches intent.steps o.handed.trace) marks o.steps).0;
        content = o.content;
        unbound = o.allowed;
      }

  realizes_of : (list : List Container) (need : ℕ) → IsRealizing k list need → ListRealizes net intent list need
  realizes_of list need r =
      record {
        reaches = λ inner ok hop above choices some. of_kind (r.reaches.1 inner ok hop above choices some);
        least = λ n reaches. r.least n ([], λ inner ok hop above choices some. to_kind (reaches inner ok hop above choices some));
      }

  to_realizes : (list : List Container) (need : ℕ) → ListRealizes net intent list need → IsRealizing k list need
  to_realizes list need r =
      record {
        reaches = ([], λ inner ok hop above choices some. to_kind (r.reaches inner ok hop above choices some));
        least = λ n reaches. r.least n (λ inner ok hop above choices some. of_kind (reaches.1 inner ok hop above choices some));
      }

  executes_of : (list : List Container) (count : ℕ) → IsExecuting k list count → ListExecutes net intent list count
  executes_of list count e = λ inner hop choices h. e inner hop [] choices (to_kind h)

  to_executes : (list : List Container) (count : ℕ) → ListExecutes net intent list count → IsExecuting k list count
  to_executes list count e = λ inner hop marks choices h. e inner hop choices (of_kind h)

  to_handing : (list : List Container) (hop : ℕ) → ListHands net intent list hop → IsHanding k list hop
  to_handing list hop h =
      record { positive = h.positive; inner = h.inner; marks = []; always = λ choices some. to_kind (h.always choices some) }

  -- the legs mean the lists that realize the intent
  pub legs_mean : Means (legs_value net intent) net (ListRealizes net intent) (ListExecutes net intent) (ListHands net intent)
  legs_mean =
      means.means_as k AnyWay strict_kind_laws (ListRealizes net intent) (ListExecutes net intent) (ListHands net intent)
      (λ list need legal real executes. realizes_of list need real) executes_of
      (λ list need legal real. (to_realizes list need real, to_executes list (length (prefixes_in list)))) to_handing

  -- ---- paths as they are said of strict legs

  module _ (list : List Container) (legal : IsLegalList net list) where
    -- a path of legs and a finish realizes the intent, and wherever it is handed over, all its SIDs are executed
    pub path_realizes : (sids : List ℕ) (need : ℕ) → map (prefix_at net) sids ≡ prefixes_in list
        → path_need net intent 0 None sids ≡ Some need
        → ListRealizes net intent list need × ListExecutes net intent list (length (prefixes_in list))
    path_realizes [] need names h = absurd (cc)
    path_realizes (next ∷ more) need names h =
        let same = shapes_prefixes net (next ∷ more) ∙ names in
        let path = hops_need net intent (next ∷ more) 0 None ∙ h in (
          realizes_of _ _ (any.path_realizes k AnyWay strict_kind_laws list legal next more need same path),
          executes_of _ _ (any.path_counts k AnyWay strict_kind_laws list legal next more need same path),
        )

    -- a list that hands over for all choices is along a path
    pub list_path : (inner : Content) (hop : ℕ) → 0 < hop → (always : AlwaysHandsOver net intent (list_values net list) inner hop)
        → (sids : List ℕ) × (need : ℕ) × IsPathAlong net intent list sids need × (need < hop)
        × ((choices : List ℕ) (some : 0 < length choices) → (always choices some).handed.sids ≡ sids)
    list_path inner hop positive always =
        let p = any.list_path k AnyWay strict_kind_laws list legal inner hop [] positive (λ choices some. to_kind (always choices some)) in
        let ns : List ℕ = p.first ∷ p.more in
        let last = p.last in
        let first = any.first_place k AnyWay strict_kind_laws list legal in (
          ns,
          p.need,
          record {
            is_path = sym (hops_need net intent ns 0 None) ∙ p.is_path;
            names = sym (shapes_prefixes net ns) ∙ p.names;
            few = p.few;
            last = let before = before_first net list first.0 first.1 in omega (arith, before, last);
          },
          p.below,
          λ choices some. p.executes (choice_at choices) 0 (always choices some).handed tt
              ((always choices some).fuel, (always choices some).first),
        )

    -- where it hands over even one inner packet at a hop limit, one of as many containers realizes with a need below that
    pub hands_realizes : (inner : Content) (hop : ℕ) → 0 < hop → AlwaysHandsOver net intent (list_values net list) inner hop
        → (other : List Container) × (need : ℕ) × IsLegalList net other × ListRealizes net intent other need
        × (length other ≡ length list) × (need < hop)
    hands_realizes inner hop positive always =
        let got = means.hands_realizes k AnyWay strict_kind_laws list legal hop
        (to_handing list hop (record { positive = positive; inner = inner; always = always })) in
        (got.0, got.1, got.2, realizes_of _ _ got.3, got.4, got.5)
