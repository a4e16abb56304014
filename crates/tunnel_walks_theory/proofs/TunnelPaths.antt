-- The own packet is handed over exactly along a path of legs.
use Rattle.std.proofs.Common.{◌≡◌, ℕ, zero, suc, ◌≤◌, List, [], ◌∷◌, length, Option, Some, refl, sym, ap, ◌∙◌, arith}
use Rattle.std.specs.Prelude.{◌↔◌}
use Rattle.std.specs.Option.{option_map, option_and_then}
use Rattle.std.proofs.lemmas.Option.{same_Some}
use Rattle.binding_spec.specs.Machines.{End, all_in, left_by, end_after, end_with, end_by, end_of}
use Rattle.tunnel_walks_theory.specs.TunnelChoices.{EndsWith, ForAllChoices, OneWalk, Reaches, SameEnd, choice_at}
use Rattle.binding_spec.specs.TunnelPackets.{World, Look, Crosses, Executes, Pushes, Exposes, Loses, arrives, tunnel_of}
use Rattle.tunnel_walks_theory.specs.TunnelPacketsTerms.{Tunnelled, open_at, pushed_at, AreJoined, Bared, own_by, own_bottom, own_move, Met, Onward, Under, Bare, met_by, met_bottom, met_move}
use Rattle.tunnel_walks_theory.specs.TunnelLegs.{transit_of, Origin, origin_behind, Path, path_after, finish_of, legs_from, legs_by, legs_of, AlwaysHands, HasPath, LegBehind}
use Rattle.tunnel_walks_theory.proofs.TunnelOptions.{then_parts, then_from, map_parts, map_from, if_parts, if_from, arrives_parts, arrives_from}
use Rattle.tunnel_walks_theory.proofs.TunnelWalks.{choices_one, one_choices, choices_agree}
use Rattle.tunnel_walks_theory.proofs.Tunnels.{behind_fewer, behind_parts, behind_from, own_joined, met_joined}

module _ {L E T N P H X : Type 0} (w : World L E T N P H X) where
  abbrev own_end : ℕ → List T → Tunnelled P H → Option (End T N (Bared P X))
  own_end = end_of w.events (own_move w)

  abbrev met_end : ℕ → List T → Tunnelled P H → Option (End T N (Met P H X))
  met_end = end_of w.events (met_move w)

  -- ---- a transit needs no more moves than steps, and one more

  enough_by : (m : ℕ) (look : Look L N P H X) (ts : List T) (e : End T N (Met P H X))
      → ((ts : List T) (place : P) (own : H) → met_end m ts (open_at place own) ≡ Some e
      → met_end (suc (length ts)) ts (open_at place own) ≡ Some e)
      → end_by w.events (met_end m) (met_by w look) ts ≡ Some e → end_by w.events (met_end (length ts)) (met_by w look) ts ≡ Some e
  enough_by m (Crosses first rest to own) [] e ih h = cc
  enough_by m (Crosses first rest to own) (t ∷ ts) e ih h =
      let at : P → Tunnelled P H = λ place. open_at place own in
      let a = if_parts (all_in w.events t (first ∷ rest)) (option_and_then (met_end m ts) (arrives to at first)) e h in
      let b = arrives_parts (met_end m ts) to at first e a.1 in
      if_from a.0 (arrives_from (met_end (suc (length ts)) ts) to at b.1 (ih ts b.0 own b.2))
  enough_by m (Executes sid place own) ts e ih h = h
  enough_by m (Pushes sid place new own) ts e ih h = h
  enough_by m (Exposes sid place inside) ts e ih h = h
  enough_by m Loses ts e ih h = cc

  pub transit_enough : (m : ℕ) (ts : List T) (place : P) (own : H) (e : End T N (Met P H X)) → met_end m ts (open_at place own) ≡ Some e
      → met_end (suc (length ts)) ts (open_at place own) ≡ Some e
  unfolding end_of
  transit_enough zero ts place own e h = cc
  transit_enough (suc m) ts place own e h =
      enough_by m (w.look place own) ts e (λ ts place own g. transit_enough m ts place own e g) h

  -- ---- a transit for all choices

  pub transit_all : (ts : List T) (place : P) (own : H) → AreJoined w ts
      → ForAllChoices w.events (met_move w) ts (open_at place own) ↔ ((e : End T N (Met P H X)) × (transit_of w ts place own ≡ Some e))
  unfolding transit_of
  transit_all ts place own joined = (
    λ all. let one = choices_one w.events (met_move w) ts (open_at place own) all in
        (one.end, transit_enough one.fuel ts place own one.end one.gives),
    λ r. one_choices w.events (met_move w) ts (open_at place own) (met_joined w ts joined)
        (record { fuel = suc (length ts); end = r.0; gives = r.1 }),
  )

  pub transit_each : (ts : List T) (place : P) (own : H) → AreJoined w ts → (e : End T N (Met P H X)) → transit_of w ts place own ≡ Some e
      → (pick : ℕ → ℕ) (r : Reaches w.events (met_move w) ts (open_at place own) pick) → SameEnd e r
  unfolding transit_of
  transit_each ts place own joined e transit pick r =
      choices_agree w.events (met_move w) ts (open_at place own) (met_joined w ts joined)
      (record { fuel = suc (length ts); end = e; gives = transit }) pick r

  -- ---- a leg behind a header

  leg_one : (ts : List T) (place : P) (new own : H) → OneWalk w.events (met_move w) ts (pushed_at place new own)
      → LegBehind w ts place new own
  unfolding transit_of
  leg_one ts place new own one =
      let b = behind_parts w (met_bottom w) ts place new own one.end (one.fuel, one.gives) in
      record {
        origin = b.origin;
        alone = b.alone;
        end = one.end;
        transit = transit_enough b.on.0 b.origin.left b.origin.result own one.end b.on.1;
      }

  one_leg : (ts : List T) (place : P) (new own : H) (leg : LegBehind w ts place new own)
      → EndsWith w.events (met_move w) ts (pushed_at place new own) leg.end
  unfolding transit_of
  one_leg ts place new own leg =
      behind_from w (met_bottom w) ts place new own leg.end
      (record { origin = leg.origin; alone = leg.alone; on = (suc (length leg.origin.left), leg.transit) })

  pub leg_behind : (ts : List T) (place : P) (new own : H) → AreJoined w ts
      → ForAllChoices w.events (met_move w) ts (pushed_at place new own) ↔ LegBehind w ts place new own
  leg_behind ts place new own joined = (
    λ all. leg_one ts place new own (choices_one w.events (met_move w) ts (pushed_at place new own) all),
    λ leg. let one = one_leg ts place new own leg in
        one_choices w.events (met_move w) ts (pushed_at place new own) (met_joined w ts joined)
        (record { fuel = one.0; end = leg.end; gives = one.1 }),
  )

  pub leg_each : (ts : List T) (place : P) (new own : H) → AreJoined w ts → (leg : LegBehind w ts place new own) (pick : ℕ → ℕ)
      → (r : Reaches w.events (met_move w) ts (pushed_at place new own) pick) → SameEnd leg.end r
  leg_each ts place new own joined leg pick r =
      let one = one_leg ts place new own leg in
      choices_agree w.events (met_move w) ts (pushed_at place new own) (met_joined w ts joined)
      (record { fuel = one.0; end = leg.end; gives = one.1 }) pick r

  -- ---- from a walk to its path

  -- the legs behind a look
  abbrev leg_after : ℕ → End T N (Met P H X) → Option (Path N P X)
  leg_after more e = legs_by w (legs_of w more) e.left e.sids e.result

  abbrev legs_look : ℕ → List T → Look L N P H X → Option (Path N P X)
  legs_look more ts look = option_and_then (leg_after more) (end_by w.events (met_end (length ts)) (met_by w look) ts)

  record FoundBy (ts : List T) (look : Look L N P H X) (e : End T N (Bared P X)) : Type 0 where
    count : ℕ
    path : Path N P X
    legs : legs_look count ts look ≡ Some path
    sids : path.sids ≡ e.sids
    bared : path.bared ≡ e.result

  pub record Found (ts : List T) (place : P) (own : H) (e : End T N (Bared P X)) : Type 0 where
    pub count : ℕ
    pub path : Path N P X
    pub legs : legs_of w count ts place own ≡ Some path
    pub sids : path.sids ≡ e.sids
    pub bared : path.bared ≡ e.result

  -- a path has at least one leg, and what its first transit gives
  record TransitParts (count : ℕ) (ts : List T) (place : P) (own : H) (path : Path N P X) : Type 0 where
    more : ℕ
    end : End T N (Met P H X)
    transit : met_end (suc (length ts)) ts (open_at place own) ≡ Some end
    legs : leg_after more end ≡ Some path

  transit_parts : (count : ℕ) (ts : List T) (place : P) (own : H) (path : Path N P X) → legs_of w count ts place own ≡ Some path
      → TransitParts count ts place own path
  unfolding legs_of transit_of
  transit_parts zero ts place own path h = cc
  transit_parts (suc more) ts place own path h =
      let a = then_parts (leg_after more) (met_end (suc (length ts)) ts (open_at place own)) path h in
      record { more = more; end = a.0; transit = a.1; legs = a.2 }

  down_by : (n k : ℕ) (look : Look L N P H X) (ts : List T) (e : End T N (Bared P X)) → k ≤ n
      → ((k : ℕ) → k ≤ n → (ts : List T) (place : P) (own : H) (e : End T N (Bared P X)) → own_end k ts (open_at place own) ≡ Some e
      → e.left ≡ [] → Found ts place own e)
      → end_by w.events (own_end k) (own_by w look) ts ≡ Some e → e.left ≡ [] → FoundBy ts look e
  down_by n k (Crosses first rest to own) [] e few ih h none = cc
  down_by n k (Crosses first rest to own) (t ∷ ts) e few ih h none =
      let at : P → Tunnelled P H = λ place. open_at place own in
      let a = if_parts (all_in w.events t (first ∷ rest)) (option_and_then (own_end k ts) (arrives to at first)) e h in
      let b = arrives_parts (own_end k ts) to at first e a.1 in
      let f = ih k few ts b.0 own e b.2 none in
      let r = transit_parts f.count ts b.0 own f.path f.legs in
      record {
        count = r.more;
        path = f.path;
        legs = then_from (leg_after r.more) (if_from a.0 (arrives_from (met_end (suc (length ts)) ts) to at b.1 r.transit)) r.legs;
        sids = f.sids;
        bared = f.bared;
      }
  down_by n k (Executes sid place own) ts e few ih h none =
      let a = map_parts (end_after (sid ∷ [])) (option_and_then (λ us. own_end k us (open_at place own))
      (left_by w.events ts (w.executed sid))) e h in
      let b = then_parts (λ us. own_end k us (open_at place own)) (left_by w.events ts (w.executed sid)) a.0 a.1 in
      let f = ih k few b.0 place own a.0 b.2 (ap (λ (x : End T N (Bared P X)). x.left) a.2 ∙ none) in
      record {
        count = f.count;
        path = path_after (sid ∷ []) f.path;
        legs = then_from (leg_after f.count) (map_from (end_with (sid ∷ []) (Onward place own)) b.1 refl)
            (map_from (path_after (sid ∷ [])) f.legs refl);
        sids = ap (λ xs. sid ∷ xs) f.sids ∙ ap (λ (x : End T N (Bared P X)). x.sids) a.2;
        bared = f.bared ∙ ap (λ (x : End T N (Bared P X)). x.result) a.2;
      }
  down_by n k (Pushes sid place new own) ts e few ih h none =
      let next = pushed_at place new own in
      let a = map_parts (end_after (sid ∷ [])) (option_and_then (λ us. own_end k us next) (left_by w.events ts (w.executed sid))) e h in
      let b = then_parts (λ us. own_end k us next) (left_by w.events ts (w.executed sid)) a.0 a.1 in
      let s = behind_fewer w (own_bottom w) k b.0 place new own a.0 b.2 in
      let f = ih s.m (omega (arith, few, s.fewer)) s.origin.left s.origin.result own a.0 s.on
      (ap (λ (x : End T N (Bared P X)). x.left) a.2 ∙ none) in
      record {
        count = f.count;
        path = path_after (sid ∷ []) f.path;
        legs = then_from (leg_after f.count) (map_from (end_with (sid ∷ []) (Under place new own)) b.1 refl)
            (map_from (path_after (sid ∷ []))
            (then_from (λ s. legs_of w f.count s.left s.place s.own) (map_from (origin_behind own) s.alone refl) f.legs) refl);
        sids = ap (λ xs. sid ∷ xs) f.sids ∙ ap (λ (x : End T N (Bared P X)). x.sids) a.2;
        bared = f.bared ∙ ap (λ (x : End T N (Bared P X)). x.result) a.2;
      }
  down_by n k (Exposes sid place inside) ts e few ih h none =
      let bare : Bared P X = record { place = place; inside = inside } in
      let a = map_parts (end_with (sid ∷ []) bare) (left_by w.events ts (w.executed sid)) e h in
      let empty : a.0 ≡ [] = ap (λ (x : End T N (Bared P X)). x.left) a.2 ∙ none in
      record {
        count = 0;
        path = record { sids = sid ∷ []; bared = bare };
        legs = then_from (leg_after 0) (map_from (end_with (sid ∷ []) (Bare place inside)) a.1 refl)
            (ap (finish_of (sid ∷ []) place inside) empty);
        sids = ap (λ (x : End T N (Bared P X)). x.sids) a.2;
        bared = ap (λ (x : End T N (Bared P X)). x.result) a.2;
      }
  down_by n k Loses ts e few ih h none = cc

  path_down : (n k : ℕ) → k ≤ n → (ts : List T) (place : P) (own : H) (e : End T N (Bared P X)) → own_end k ts (open_at place own) ≡ Some e
      → e.left ≡ [] → Found ts place own e
  unfolding end_of legs_of transit_of
  path_down zero zero few ts place own e h none = cc
  path_down zero (suc k) few ts place own e h none = absurd (omega arith)
  path_down (suc n) zero few ts place own e h none = cc
  path_down (suc n) (suc k) few ts place own e h none =
      let f = down_by n k (w.look place own) ts e (omega arith)
      (λ k few ts place own e h none. path_down n k few ts place own e h none) h none in
      record { count = suc f.count; path = f.path; legs = f.legs; sids = f.sids; bared = f.bared }

  -- ---- from a path to its walk

  abbrev pub path_end : Path N P X → End T N (Bared P X)
  path_end path = end_with path.sids path.bared []

  abbrev OwnBy : List T → Look L N P H X → End T N (Bared P X) → Type 0
  OwnBy ts look e = (fuel : ℕ) × (end_by w.events (own_end fuel) (own_by w look) ts ≡ Some e)

  abbrev OwnEnds : List T → P → H → End T N (Bared P X) → Type 0
  OwnEnds ts place own e = EndsWith w.events (own_move w) ts (open_at place own) e

  finish_parts : (sids : List N) (place : P) (inside : X) (left : List T) (path : Path N P X) → finish_of sids place inside left ≡ Some path
      → (left ≡ []) × (end_with sids (record { place = place; inside = inside }) [] ≡ path_end path)
  finish_parts sids place inside [] path h = (refl, ap path_end (same_Some _ _ h))
  finish_parts sids place inside (t ∷ ts) path h = cc

  transit_by : (more n : ℕ) (look : Look L N P H X) (ts : List T) (e : End T N (Met P H X)) (path : Path N P X)
      → ((ts : List T) (place : P) (own : H) (path : Path N P X) → legs_of w more ts place own ≡ Some path
      → OwnEnds ts place own (path_end path))
      → ((ts : List T) (place : P) (own : H) → met_end n ts (open_at place own) ≡ Some e → OwnEnds ts place own (path_end path))
      → end_by w.events (met_end n) (met_by w look) ts ≡ Some e → leg_after more e ≡ Some path → OwnBy ts look (path_end path)
  transit_by more n (Crosses first rest to own) [] e path later ih h legs = cc
  transit_by more n (Crosses first rest to own) (t ∷ ts) e path later ih h legs =
      let at : P → Tunnelled P H = λ place. open_at place own in
      let a = if_parts (all_in w.events t (first ∷ rest)) (option_and_then (met_end n ts) (arrives to at first)) e h in
      let b = arrives_parts (met_end n ts) to at first e a.1 in
      let r = ih ts b.0 own b.2 in
      (r.0, if_from a.0 (arrives_from (own_end r.0 ts) to at b.1 r.1))
  transit_by more n (Executes sid place own) ts e path later ih h legs =
      let a = map_parts (end_with (sid ∷ []) (Onward place own)) (left_by w.events ts (w.executed sid)) e h in
      let b = map_parts (path_after (sid ∷ [])) (legs_of w more a.0 place own) path (ap (leg_after more) a.2 ∙ legs) in
      let r = later a.0 place own b.0 b.1 in
      (r.0, map_from (end_after (sid ∷ [])) (then_from (λ us. own_end r.0 us (open_at place own)) a.1 r.1) (ap path_end b.2))
  transit_by more n (Pushes sid place new own) ts e path later ih h legs =
      let next = pushed_at place new own in
      let a = map_parts (end_with (sid ∷ []) (Under place new own)) (left_by w.events ts (w.executed sid)) e h in
      let b = map_parts (path_after (sid ∷ []))
      (legs_from (legs_of w more) (option_map (origin_behind own) (tunnel_of w a.0 place new))) path (ap (leg_after more) a.2 ∙ legs) in
      let c = then_parts (λ s. legs_of w more s.left s.place s.own) (option_map (origin_behind own) (tunnel_of w a.0 place new)) b.0 b.1 in
      let d = map_parts (origin_behind own) (tunnel_of w a.0 place new) c.0 c.1 in
      let f : legs_of w more d.0.left d.0.result own ≡ Some b.0 =
      ap (λ (s : Origin T P H). legs_of w more s.left s.place s.own) d.2 ∙ c.2 in
      let g = later d.0.left d.0.result own b.0 f in
      let r = behind_from w (own_bottom w) a.0 place new own (path_end b.0) (record { origin = d.0; alone = d.1; on = g }) in
      (r.0, map_from (end_after (sid ∷ [])) (then_from (λ us. own_end r.0 us next) a.1 r.1) (ap path_end b.2))
  transit_by more n (Exposes sid place inside) ts e path later ih h legs =
      let a = map_parts (end_with (sid ∷ []) (Bare place inside)) (left_by w.events ts (w.executed sid)) e h in
      let b = finish_parts (sid ∷ []) place inside a.0 path (ap (leg_after more) a.2 ∙ legs) in
      (0, map_from (end_with (sid ∷ []) (record { place = place; inside = inside })) (a.1 ∙ ap Some b.0) b.1)
  transit_by more n Loses ts e path later ih h legs = cc

  transit_up : (more : ℕ)
      → ((ts : List T) (place : P) (own : H) (path : Path N P X) → legs_of w more ts place own ≡ Some path
      → OwnEnds ts place own (path_end path))
      → (n : ℕ) (ts : List T) (place : P) (own : H) (e : End T N (Met P H X)) (path : Path N P X) → met_end n ts (open_at place own)
      ≡ Some e
      → leg_after more e ≡ Some path → OwnEnds ts place own (path_end path)
  unfolding end_of
  transit_up more later zero ts place own e path h legs = cc
  transit_up more later (suc n) ts place own e path h legs =
      let r = transit_by more n (w.look place own) ts e path later
      (λ ts place own g. transit_up more later n ts place own e path g legs) h legs in
      (suc r.0, r.1)

  pub path_up : (count : ℕ) (ts : List T) (place : P) (own : H) (path : Path N P X) → legs_of w count ts place own ≡ Some path
      → OwnEnds ts place own (path_end path)
  unfolding legs_of transit_of
  path_up zero ts place own path h = cc
  path_up (suc more) ts place own path h =
      let a = then_parts (leg_after more) (met_end (suc (length ts)) ts (open_at place own)) path h in
      transit_up more (λ ts place own path g. path_up more ts place own path g) (suc (length ts)) ts place own a.0 path a.1 a.2

  -- ---- for all choices

  -- the one walk of what is always handed over
  pub record HandsOne (ts : List T) (place : P) (own : H) : Type 0 where
    pub one : OneWalk w.events (own_move w) ts (open_at place own)
    pub none : one.end.left ≡ []

  pub hands_one : (ts : List T) (place : P) (own : H) → AreJoined w ts → AlwaysHands w ts place own → HandsOne ts place own
  hands_one ts place own joined all =
      let walk = choices_one w.events (own_move w) ts (open_at place own) (λ choices some. (all choices some).reaches) in
      let h = all (0 ∷ []) (omega arith) in
      let same = choices_agree w.events (own_move w) ts (open_at place own) (own_joined w ts joined) walk (choice_at (0 ∷ [])) h.reaches in
      record { one = walk; none = sym same.left ∙ h.all }

  pub one_hands : (ts : List T) (place : P) (own : H) → AreJoined w ts → HandsOne ts place own → AlwaysHands w ts place own
  one_hands ts place own joined h choices some =
      let all = own_joined w ts joined in
      let r = one_choices w.events (own_move w) ts (open_at place own) all h.one choices some in
      let same = choices_agree w.events (own_move w) ts (open_at place own) all h.one (choice_at choices) r in
      record { reaches = r; all = same.left ∙ h.none }

  pub hands_path : (ts : List T) (place : P) (own : H) → AreJoined w ts → AlwaysHands w ts place own
      → (path : Path N P X) × HasPath w ts place own path
  hands_path ts place own joined all =
      let h = hands_one ts place own joined all in
      let f = path_down h.one.fuel h.one.fuel (omega arith) ts place own h.one.end h.one.gives h.none in
      (f.path, (f.count, f.legs))

  pub path_hands : (ts : List T) (place : P) (own : H) → AreJoined w ts → (path : Path N P X) → HasPath w ts place own path
      → AlwaysHands w ts place own
  path_hands ts place own joined path has =
      let r = path_up has.0 ts place own path has.1 in
      one_hands ts place own joined (record { one = record { fuel = r.0; end = path_end path; gives = r.1 }; none = refl })

  pub path_each : (ts : List T) (place : P) (own : H) → AreJoined w ts → (path : Path N P X) → HasPath w ts place own path → (pick : ℕ → ℕ)
      → (r : Reaches w.events (own_move w) ts (open_at place own) pick) → SameEnd (path_end path) r
  path_each ts place own joined path has pick r =
      let u = path_up has.0 ts place own path has.1 in
      choices_agree w.events (own_move w) ts (open_at place own) (own_joined w ts joined)
      (record { fuel = u.0; end = path_end path; gives = u.1 }) pick r
