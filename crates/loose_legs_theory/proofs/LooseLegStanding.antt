-- Where packets are along steps: where the walk stands, or, before a node is reached, at any other.
use Rattle.std.proofs.Common.{◌≡◌, ℕ, zero, suc, ◌+◌, ◌-◌, ◌≤◌, Bool, true, false, ◌==◌, ◌&&◌, not, nat_lt, if◌then◌else◌, List, [], ◌∷◌, ◌++◌, take, drop, length, slice_get, Option, Some, None, refl, sym, ◌∙◌, ap, subst, arith, eqb-true, append_assoc, length-append}
use Rattle.std.specs.Prelude.{is_some}
use Rattle.std.specs.List.{list_all}
use Rattle.std.specs.Option.{option_and_then}
use Rattle.std.proofs.lemmas.Bool.{false≢true, and_parts, and_from, eq-eqb}
use Rattle.std.proofs.lemmas.List.{take-append-drop}
use Rattle.srv6_rules.specs.declared.sid.SidEntry.{SidEntry}
use Rattle.net_model.specs.Network.{Network}
use Rattle.net_model.specs.NetworkRules.{is_link_set}
use Rattle.walk_rules.specs.declared.place.Place.{Place}
use Rattle.intent_reader.specs.IntentRules.{ends_at, far_node, first_end, function_node}
use Rattle.intent_reader.specs.declared.intent.Intent.{Intent}
use Rattle.intent_traces.specs.declared.trace_steps.TraceStep.{TraceStep}
use Rattle.intent_traces.specs.declared.trace_steps.TraceStep.TheVariants.{Links, Function, Reach}
use Rattle.intent_traces.specs.Traces.{Crossed, Executed, count_left, has_link, left_behind, left_by_reach}
use Rattle.intent_traces.proofs.TraceParts.{if_some}
use Rattle.choice_graph.proofs.GraphOptions.{some_same}
use Rattle.loose_walks.specs.WayGraphsTerms.{IsLeft}
use Rattle.loose_walks.specs.WalkStops.{ends_in}
use Rattle.leg_table.specs.WalkTrace.{has_title, is_titled}
use Rattle.leg_table.proofs.StrictLinks.{far_end_is, link_ends}
use Rattle.loose_spec.specs.LooseLegs.{left_after}
use Rattle.loose_spec.specs.LooseSids.{is_sid_at, may_be, sid_suits, step_before, title_suits}
use Rattle.loose_spec.specs.LooseSteps.{node_after, node_at, stand_after}
use Rattle.loose_legs_theory.proofs.LooseSentenceStops.{arrived_at}

abbrev pub first_of : List TraceStep → Option TraceStep
first_of [] = None
first_of (t ∷ ts) = Some t

-- ---- steps, taken apart

opens_on : {X : Type 0} (f : ℕ → Option X) (b : Bool) (to : ℕ) → is_some (option_and_then f (if b then Some to else None)) ≡ true
    → (b ≡ true) × (is_some (f to) ≡ true)
opens_on f true to h = (refl, h)
opens_on f false to h = absurd (false≢true h)

pub links_open : (net : Network) (node : ℕ) (set : List ℕ) (ts : List TraceStep) → is_some (stand_after net node (Links set ∷ ts)) ≡ true
    → (to : ℕ) × (list_all (ends_at net to) set ≡ true) × (is_some (stand_after net to ts) ≡ true)
    × (node_after net node (Links set) ≡ Some to)
links_open net node set ts h = by_end (first_end net set) h
  where
    by_end : (o : Option ℕ) → is_some (option_and_then (λ next. stand_after net next ts) (far_node net node set o)) ≡ true
        → (to : ℕ) × (list_all (ends_at net to) set ≡ true) × (is_some (stand_after net to ts) ≡ true)
        × (far_node net node set o ≡ Some to)
    by_end None h = absurd (false≢true h)
    by_end (Some to) h =
        let a = opens_on (λ next. stand_after net next ts) (is_link_set net.links node set && list_all (ends_at net to) set) to h in
        let b = and_parts (is_link_set net.links node set) (list_all (ends_at net to) set) a.0 in
        (to, b.1, a.1, ap (λ (t : Bool). if t then Some to else None) a.0)

pub reach_opens : (net : Network) (node reached : ℕ) (ts : List TraceStep) → is_some (stand_after net node (Reach reached ∷ ts)) ≡ true
    → (not (node == reached) ≡ true) × (is_some (stand_after net reached ts) ≡ true) × (node_after net node (Reach reached) ≡ Some reached)
reach_opens net node reached ts h =
    let a =
    opens_on (λ next. stand_after net next ts) (nat_lt reached (length net.nodes) && not (node == reached)) reached h in
    let b = and_parts (nat_lt reached (length net.nodes)) (not (node == reached)) a.0 in
    (b.1, a.1, ap (λ (t : Bool). if t then Some reached else None) a.0)

pub function_opens : (net : Network) (node sid : ℕ) (ts : List TraceStep) → is_some (stand_after net node (Function sid ∷ ts)) ≡ true
    → (is_some (stand_after net node ts) ≡ true) × (node_after net node (Function sid) ≡ Some node)
function_opens net node sid ts h = by_sid (slice_get net.sids sid) h
  where
    by_sid : (o : Option SidEntry) → is_some (option_and_then (λ next. stand_after net next ts) (function_node node o)) ≡ true
        → (is_some (stand_after net node ts) ≡ true) × (function_node node o ≡ Some node)
    by_sid None h = absurd (false≢true h)
    by_sid (Some s) h =
        let a = opens_on (λ next. stand_after net next ts) ((s.node == node) && is_some s.title) node h in
        (a.1, ap (λ (t : Bool). if t then Some node else None) a.0)

-- where the walk stands a packet may be
pub may_here : (net : Network) (node : ℕ) (ts : List TraceStep) → is_some (stand_after net node ts) ≡ true
    → may_be (first_of ts) (Some node) node ≡ true
may_here net node [] h = eq-eqb node node refl
may_here net node (Links set ∷ ts) h = eq-eqb node node refl
may_here net node (Function sid ∷ ts) h = eq-eqb node node refl
may_here net node (Reach reached ∷ ts) h = (reach_opens net node reached ts h).0

pub stand_append : (net : Network) (node : ℕ) (xs ys : List TraceStep)
    → stand_after net node (xs ++ ys) ≡ option_and_then (λ n. stand_after net n ys) (stand_after net node xs)
stand_append net node [] ys = refl
stand_append net node (x ∷ xs) ys = by_next (node_after net node x) (λ next. stand_append net next xs ys)
  where
    by_next : (o : Option ℕ)
        → ((next : ℕ) → stand_after net next (xs ++ ys) ≡ option_and_then (λ n. stand_after net n ys) (stand_after net next xs))
        → option_and_then (λ next. stand_after net next (xs ++ ys)) o
        ≡ option_and_then (λ n. stand_after net n ys) (option_and_then (λ next. stand_after net next xs) o)
    by_next None ih = refl
    by_next (Some next) ih = ih next

-- one step more
stand_one : (net : Network) (node stood to : ℕ) (xs : List TraceStep) (t : TraceStep) → stand_after net node xs ≡ Some stood
    → node_after net stood t ≡ Some to
    → stand_after net node (xs ++ (t ∷ [])) ≡ Some to
stand_one net node stood to xs t at on =
    stand_append net node xs (t ∷ []) ∙ ap (option_and_then (λ n. stand_after net n (t ∷ []))) at
    ∙ ap (option_and_then (λ next. stand_after net next [])) on

-- ---- packets along steps

-- with these steps left a packet is at a place where it may be
pub record Stands (net : Network) (intent : Intent) (steps ts : List TraceStep) (place : Place) : Type 0 where
  pub left : IsLeft steps ts
  pub node : ℕ
  pub at : stand_after net intent.headend left.0 ≡ Some node
  pub opens : is_some (stand_after net node ts) ≡ true
  pub may : may_be (first_of ts) (Some node) place.node ≡ true

module _ (net : Network) (intent : Intent) (steps : List TraceStep) where
  -- the steps left behind one more that is finished
  more_left : (t : TraceStep) (ts : List TraceStep) → (left : IsLeft steps (t ∷ ts)) → steps ≡ (left.0 ++ (t ∷ [])) ++ ts
  more_left t ts left = left.1 ∙ sym (append_assoc left.0 (t ∷ []) ts)

  -- a step is finished where the walk stands then
  finished : (t : TraceStep) (ts : List TraceStep) (place there : Place) (to : ℕ) → (s : Stands net intent steps (t ∷ ts) place)
      → node_after net s.node t ≡ Some to → is_some (stand_after net to ts) ≡ true → there.node ≡ to → Stands net intent steps ts there
  finished t ts place there to s on rest is =
      record {
        left = (s.left.0 ++ (t ∷ []), more_left t ts s.left);
        node = to;
        at = stand_one net intent.headend s.node to s.left.0 t s.at on;
        opens = rest;
        may = ap (may_be (first_of ts) (Some to)) is ∙ may_here net to ts rest;
      }

  -- behind a link
  pub crossed_stands : (ts us : List TraceStep) (place : Place) (link node : ℕ) → left_behind (ends_in net) ts (Crossed link) ≡ Some us
      → ends_in net link ≡ Some node → Stands net intent steps ts place → Stands net intent steps us (arrived_at node place)
  crossed_stands [] us place link node h end s = absurd (cc)
  crossed_stands (Function sid ∷ ts) us place link node h end s = absurd (cc)
  crossed_stands (Links set ∷ ts) us place link node h end s =
      let i = if_some (has_link set link) (Some ts) us h in
      let same : ts ≡ us = some_same ts us i.1 in
      let opened = links_open net s.node set ts s.opens in
      let ends : ends_in net link ≡ Some opened.0
      = far_end_is (slice_get net.links link) ∙ link_ends net opened.0 set link opened.1 i.0 in
      let to : node ≡ opened.0 = some_same node opened.0 (sym end ∙ ends) in
      subst (λ (xs : List TraceStep). Stands net intent steps xs (arrived_at node place)) same
      (finished (Links set) ts place (arrived_at node place) opened.0 s opened.3 opened.2 to)
  crossed_stands (Reach reached ∷ ts) us place link node h end s =
      by_test (node == reached) refl (sym (ap (left_by_reach reached ts) end) ∙ h)
    where
      by_test : (b : Bool) → (node == reached) ≡ b → (if b then Some ts else Some (Reach reached ∷ ts)) ≡ Some us
          → Stands net intent steps us (arrived_at node place)
      by_test true e h =
          let opened = reach_opens net s.node reached ts s.opens in
          subst (λ (xs : List TraceStep). Stands net intent steps xs (arrived_at node place)) (some_same ts us h)
          (finished (Reach reached) ts place (arrived_at node place) reached s opened.2 opened.1 (eqb-true node reached e))
      by_test false e h =
          subst (λ (xs : List TraceStep). Stands net intent steps xs (arrived_at node place)) (some_same (Reach reached ∷ ts) us h)
          (record { left = s.left; node = s.node; at = s.at; opens = s.opens; may = ap not e })

  -- ---- positions

  get_first : (xs ts : List TraceStep) → slice_get (xs ++ ts) (length xs) ≡ first_of ts
  get_first [] [] = refl
  get_first [] (t ∷ ts) = refl
  get_first (x ∷ xs) ts = get_first xs ts

  take_front : (xs ts : List TraceStep) → take (length xs) (xs ++ ts) ≡ xs
  take_front [] ts = refl
  take_front (x ∷ xs) ts = ap (λ (ys : List TraceStep). x ∷ ys) (take_front xs ts)

  get_before : (xs ts : List TraceStep) (t : TraceStep) → slice_get ((xs ++ (t ∷ [])) ++ ts) (length xs) ≡ Some t
  get_before [] ts t = refl
  get_before (x ∷ xs) ts t = get_before xs ts t

  -- a SID where a packet may be with these steps left, which has no title or is the function of the step before, is one of the position
  sid_here : (n : ℕ) (ts : List TraceStep) (s : SidEntry) (place : Place) → slice_get net.sids n ≡ Some s → s.node ≡ place.node
      → (st : Stands net intent steps ts place) → title_suits n (step_before steps (length st.left.0)) s.title ≡ true
      → is_sid_at net intent steps (length st.left.0) n ≡ true
  sid_here n ts s place there node st title =
      let k = length st.left.0 in
      let step : slice_get steps k ≡ first_of ts = ap (λ (xs : List TraceStep). slice_get xs k) st.left.1 ∙ get_first st.left.0 ts in
      let stands : node_at net intent steps k ≡ Some st.node
      = ap (λ (xs : List TraceStep). stand_after net intent.headend (take k xs)) st.left.1
      ∙ ap (stand_after net intent.headend) (take_front st.left.0 ts) ∙ st.at in
      let may : may_be (slice_get steps k) (node_at net intent steps k) s.node ≡ true
      = ap (λ (o : Option TraceStep). may_be o (node_at net intent steps k) s.node) step
      ∙ ap (λ (o : Option ℕ). may_be (first_of ts) o s.node) stands ∙ ap (may_be (first_of ts) (Some st.node)) node ∙ st.may in
      ap (sid_suits n (slice_get steps k) (node_at net intent steps k) (step_before steps k)) there
      ∙ and_from (may_be (slice_get steps k) (node_at net intent steps k) s.node) (title_suits n (step_before steps k) s.title) may title

  length_left : (ts : List TraceStep) (left : IsLeft steps ts) → length steps - length ts ≡ length left.0
  length_left ts left =
      let long : length steps ≡ length left.0 + length ts = ap length left.1 ∙ length-append left.0 ts in omega (arith, long)

  pub record EndsAt (n left : ℕ) (ts : List TraceStep) : Type 0 where
    pub few : left ≤ length ts
    pub is_sid : is_sid_at net intent steps (length steps - left) n ≡ true

  -- where a SID is executed with so many steps left behind it, it is one of the position
  pub end_sid : (n left : ℕ) (ts : List TraceStep) (s : SidEntry) (place : Place) → slice_get net.sids n ≡ Some s → s.node ≡ place.node
      → Stands net intent steps ts place → left_after net n ts ≡ Some left → EndsAt n left ts
  end_sid n left ts s place there node st h = by_title s.title refl
    where
      titled : is_titled net n ≡ is_some s.title
      titled = ap has_title there

      plain : s.title ≡ None → length ts ≡ left → EndsAt n left ts
      plain none count =
          record {
            few = omega (arith, count);
            is_sid =
                let k : length steps - left ≡ length st.left.0
                = ap (λ (m : ℕ). length steps - m) (sym count) ∙ length_left ts st.left in
                ap (λ (m : ℕ). is_sid_at net intent steps m n) k
                ∙ sid_here n ts s place there node st (ap (title_suits n (step_before steps (length st.left.0))) none);
          }

      function : (title : ℕ) → s.title ≡ Some title → (us : List TraceStep) → Stands net intent steps us place
          → (ts ≡ Function n ∷ us) → (before : List TraceStep) → (steps ≡ (before ++ (Function n ∷ [])) ++ us) → length us ≡ left
          → EndsAt n left ts
      function title some us su ts_is before steps_is count =
          let long : length ts ≡ suc (length us) = ap length ts_is in
          let k : length steps - left ≡ length su.left.0
          = ap (λ (m : ℕ). length steps - m) (sym count) ∙ length_left us su.left in
          let whole : length steps ≡ length (before ++ (Function n ∷ [])) + length us
          = ap length steps_is ∙ length-append (before ++ (Function n ∷ [])) us in
          let part : length (before ++ (Function n ∷ [])) ≡ length before + 1 = length-append before (Function n ∷ []) in
          let all : length steps ≡ length su.left.0 + length us = ap length su.left.1 ∙ length-append su.left.0 us in
          let one : length su.left.0 ≡ suc (length before) = omega (arith, whole, part, all) in
          let step : step_before steps (length su.left.0) ≡ Some (Function n)
          = ap (step_before steps) one ∙ ap (λ (xs : List TraceStep). slice_get xs (length before)) steps_is
          ∙ get_before before us (Function n) in
          record {
            few = omega (arith, long, count);
            is_sid =
                ap (λ (m : ℕ). is_sid_at net intent steps m n) k
                ∙ sid_here n us s place there node su
                (ap (λ (o : Option TraceStep). title_suits n o s.title) step ∙ ap (title_suits n (Some (Function n))) some ∙ eq-eqb n n refl);
          }

      by_steps : (title : ℕ) → s.title ≡ Some title → (xs : List TraceStep) → ts ≡ xs → Stands net intent steps xs place
          → count_left (left_behind (ends_in net) xs (Executed n)) ≡ Some left → EndsAt n left ts
      by_steps title some [] e sx h = absurd (cc)
      by_steps title some (Links set ∷ us) e sx h = absurd (cc)
      by_steps title some (Reach reached ∷ us) e sx h = absurd (cc)
      by_steps title some (Function m ∷ us) e sx h = by_test (m == n) refl h
        where
          by_test : (b : Bool) → (m == n) ≡ b → count_left (if b then Some us else None) ≡ Some left → EndsAt n left ts
          by_test true same h =
              let is : m ≡ n = eqb-true m n same in
              let opened = function_opens net sx.node m us sx.opens in
              let at : sx.node ≡ place.node = eqb-true sx.node place.node sx.may in
              function title some us (finished (Function m) us place place sx.node sx opened.1 opened.0 (sym at))
              (e ∙ ap (λ (k : ℕ). Function k ∷ us) is) sx.left.0
              (more_left (Function m) us sx.left ∙ ap (λ (k : ℕ). (sx.left.0 ++ (Function k ∷ [])) ++ us) is)
              (some_same (length us) left h)
          by_test false same h = absurd (cc)

      by_title : (o : Option ℕ) → s.title ≡ o → EndsAt n left ts
      by_title None e =
          plain e (some_same (length ts) left (sym (ap (λ (b : Bool). if b then count_left (left_behind (ends_in net) ts (Executed n))
          else Some (length ts)) (titled ∙ ap is_some e)) ∙ h))
      by_title (Some title) e =
          by_steps title e ts refl st (sym (ap (λ (b : Bool). if b then count_left (left_behind (ends_in net) ts (Executed n))
          else Some (length ts)) (titled ∙ ap is_some e)) ∙ h)

  -- ---- starts

  pub first_drop : (xs : List TraceStep) (position : ℕ) → slice_get xs position ≡ first_of (drop position xs)
  first_drop [] zero = refl
  first_drop [] (suc position) = refl
  first_drop (x ∷ xs) zero = refl
  first_drop (x ∷ xs) (suc position) = first_drop xs position

  -- at a position, where a packet may be before the next step
  pub start_stands : (position : ℕ) (place : Place) → is_some (stand_after net intent.headend steps) ≡ true
      → ((node : ℕ) → node_at net intent steps position ≡ Some node → is_some (stand_after net node (drop position steps)) ≡ true
      → may_be (slice_get steps position) (Some node) place.node ≡ true)
      → Stands net intent steps (drop position steps) place
  start_stands position place whole may = by_node (node_at net intent steps position) refl
    where
      split : stand_after net intent.headend steps
          ≡ option_and_then (λ n. stand_after net n (drop position steps)) (node_at net intent steps position)
      split =
          ap (stand_after net intent.headend) (sym (take-append-drop position steps))
          ∙ stand_append net intent.headend (take position steps) (drop position steps)

      by_node : (o : Option ℕ) → node_at net intent steps position ≡ o → Stands net intent steps (drop position steps) place
      by_node None e =
          absurd (false≢true (ap is_some (sym (ap (option_and_then (λ n. stand_after net n (drop position steps))) e))
          ∙ ap is_some (sym split)
          ∙ whole))
      by_node (Some node) e =
          let opens : is_some (stand_after net node (drop position steps)) ≡ true
          = ap is_some (sym (split ∙ ap (option_and_then (λ n. stand_after net n (drop position steps))) e)) ∙ whole in
          record {
            left = (take position steps, sym (take-append-drop position steps));
            node = node;
            at = e;
            opens = opens;
            may = ap (λ (o : Option TraceStep). may_be o (Some node) place.node) (sym (first_drop steps position)) ∙ may node e opens;
          }
