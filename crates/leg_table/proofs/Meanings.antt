-- The paths of legs of any kind are the legal lists that realize what the legs are for.
use Rattle.std.proofs.Common.{◌≡◌, ℕ, ◌+◌, ◌*◌, ◌<◌, ◌≤◌, arith, List, [], ◌∷◌, length, map, take, drop, All, Option, Some, None, refl, sym, ◌∙◌, ap, subst}
use Rattle.std.proofs.lemmas.List.{length-map, length-append, take_all, take-append-drop}
use Rattle.v6_addr.specs.Address.{PrefixValue}
use Rattle.srv6_rules.specs.Packet.{Packet, Content}
use Rattle.list_pack.specs.declared.types.Container.{Container}
use Rattle.list_pack.specs.declared.types.Cost.{Cost}
use Rattle.list_pack.specs.declared.types.PathStep.{PathStep}
use Rattle.list_pack.specs.Costs.{Move, cost_of, start}
use Rattle.list_pack.specs.Least.{step_of}
use Rattle.list_pack.specs.Paths.{cost_with}
use Rattle.list_pack.specs.PathsTerms.{sids_of_moves}
use Rattle.list_pack.specs.PathLists.{list_of}
use Rattle.list_pack.specs.PathLists as lists
use Rattle.list_pack.specs.SidLists.{IsSidPrefix, IsLegalList, list_values, prefixes_in, steps_in}
use Rattle.list_pack.specs.Meaning.{IsRealized, IsPathOf, IsPathBelow, Means}
use Rattle.list_pack.proofs.PublicLaws.{split_of, path_list, steps_prefixes}
use Rattle.list_pack.proofs.PublicLaws as packs
use Rattle.leg_table.specs.OneLegLaws.{LegKind, KindLaws, prefix_in}
use Rattle.leg_table.specs.LegMeaning.{AlwaysInner, IsRealizing, IsExecuting, IsHanding}
use Rattle.leg_table.proofs.Inners.{some_inner, some_inner_is}
use Rattle.leg_table.proofs.ListPlaces.{before_first}
use Rattle.leg_table.proofs.StrictRealizing.{first_place, one, packet, path_named, path_realizes, path_counts, by_list, PathAlong, list_path}

module _ (k : LegKind) (Longest : Option ℕ → Packet → (ℕ → ℕ) → ℕ → Type 0) (laws : KindLaws k Longest) where
  -- ---- a path is a list

  moves_prefixes : (moves : List Move)
      → map (λ (p : PathStep). p.prefix) (map (step_of k.legs) moves) ≡ map (prefix_in k) (sids_of_moves moves)
  moves_prefixes [] = refl
  moves_prefixes (m ∷ ms) = ap (λ (ps : List PrefixValue). prefix_in k m.sid ∷ ps) (moves_prefixes ms)

  pub realized : (moves : List Move) (c : Cost) → cost_of k.legs start moves ≡ Some c
      → IsRealized k.net (IsRealizing k) (IsExecuting k) (map (step_of k.legs) moves) c
  realized [] c cost = let none = (split_of k.legs start [] c cost).hops in absurd (cc)
  realized (m ∷ ms) c cost =
      let moves : List Move = m ∷ ms in
      let list : List Container = list_of k.net (map (step_of k.legs) moves) in
      let hops = (split_of k.legs start moves c cost).hops in
      let made = path_list k.legs k.net moves c laws.legs laws.suits cost in
      let names : map (prefix_in k) (sids_of_moves moves) ≡ prefixes_in list
      = sym (moves_prefixes moves) ∙ ap (map (λ (p : PathStep). p.prefix)) (sym made.steps) ∙ steps_prefixes list in
      let legal : IsLegalList k.net list = record {
        rules = made.legal;
        named = subst (λ (ps : List PrefixValue). All (IsSidPrefix k.net) ps) names
            (path_named k Longest laws (sids_of_moves ms) m.sid 0 None c.hops hops);
        nests = made.nests;
      } in
      record {
        of_path = made;
        legal = legal;
        realizes = path_realizes k Longest laws list legal m.sid (sids_of_moves ms) c.hops names hops;
        executes = path_counts k Longest laws list legal m.sid (sids_of_moves ms) c.hops names hops;
      }

  -- ---- a list is a path of no greater cost

  module _ (list : List Container) (legal : IsLegalList k.net list) where
    moves_along : (inner : Content) (hop : ℕ) → (p : PathAlong k Longest laws list legal inner hop)
        → lists.IsPathAlong k.legs list (p.first ∷ p.more) p.need
    moves_along inner hop p =
        let last = p.last in
        let same = before_first k.net list (first_place k Longest laws list legal).0 (first_place k Longest laws list legal).1 in
        packs.list_path k.legs k.net list (p.first ∷ p.more) p.need laws.legs laws.suits legal.rules legal.nests p.is_path p.names
        (omega (arith, last, same))

    -- it has as many moves as SIDs, which are the first ones of the list
    many : (inner : Content) (hop : ℕ) → (p : PathAlong k Longest laws list legal inner hop)
        → length (moves_along inner hop p).moves ≡ length (p.first ∷ p.more)
    many inner hop p =
        let along = moves_along inner hop p in
        sym (length-map along.moves (λ (m : Move). m.sid)) ∙ ap (λ (ns : List ℕ). length ns) along.sids_of

    costs : (inner : Content) (hop : ℕ) → (p : PathAlong k Longest laws list legal inner hop)
        → cost_of k.legs start (moves_along inner hop p).moves
        ≡ Some (cost_with (length list) (k.legs.sid_cost * length (moves_along inner hop p).moves) p.need)
    costs inner hop p =
        (moves_along inner hop p).cost
        ∙ ap (λ (n : ℕ). Some (cost_with (length list) (k.legs.sid_cost * n) p.need)) (sym (many inner hop p))

    sids_few : (inner : Content) (hop : ℕ) → (p : PathAlong k Longest laws list legal inner hop)
        → length (moves_along inner hop p).moves ≤ length (prefixes_in list)
    sids_few inner hop p =
        let sids : List ℕ = p.first ∷ p.more in
        let named : length sids ≡ length (take (length sids) (prefixes_in list))
        = sym (length-map sids (prefix_in k)) ∙ ap (λ (ps : List PrefixValue). length ps) p.names in
        let front = take (length sids) (prefixes_in list) in
        let behind = drop (length sids) (prefixes_in list) in
        let whole : length front + length behind ≡ length (prefixes_in list)
        = sym (length-append front behind) ∙ ap (λ (ps : List PrefixValue). length ps) (take-append-drop (length sids) (prefixes_in list)) in
        omega (arith, many inner hop p, named, whole)

    -- where all SIDs are executed the path has the list's steps, and its hops are the need
    whole_path : (inner : Content) (hop need : ℕ) → IsRealizing k list need → (p : PathAlong k Longest laws list legal inner hop)
        → p.need ≤ need → length (p.first ∷ p.more) ≡ length (prefixes_in list)
        → (map (step_of k.legs) (moves_along inner hop p).moves ≡ steps_in list) × (p.need ≡ need)
    whole_path inner hop need real p within all =
        let sids : List ℕ = p.first ∷ p.more in
        let long : length (steps_in list) ≡ length (prefixes_in list)
        = sym (length-map (steps_in list) (λ (p : PathStep). p.prefix)) ∙ ap length (steps_prefixes list) in
        let names : map (prefix_in k) sids ≡ prefixes_in list
        = p.names ∙ take_all (length sids) (prefixes_in list) (omega (arith, all)) in
        let least = real.least p.need (path_realizes k Longest laws list legal p.first p.more p.need names p.is_path).reaches in (
          (moves_along inner hop p).steps ∙ take_all (length sids) (steps_in list) (omega (arith, long, all)),
          omega (arith, within, least),
        )

    path_of : (need : ℕ) → IsRealizing k list need → IsPathOf k.legs (IsExecuting k) list need
    path_of need real =
        let inner = some_inner k.intent.inner in
        let hop : ℕ = need + 1 in
        let marks = real.reaches.0 in
        let always : AlwaysInner k (list_values k.net list) inner hop marks
        = real.reaches.1 inner (some_inner_is k.intent.inner) hop (omega arith) in
        let p = list_path k Longest laws list legal inner hop marks (omega arith) always in
        let below = p.below in
        let within : p.need ≤ need = omega (arith, below) in
        let longest = (one k Longest laws list legal inner).some_longest None (packet k Longest laws list legal inner hop) in
        let hand = by_list k Longest laws list legal inner hop marks always longest.0 in
        record {
          moves = (moves_along inner hop p).moves;
          hops = p.need;
          cost = costs inner hop p;
          sids = sids_few inner hop p;
          within = within;
          whole = λ executes.
              whole_path inner hop need real p within
              (sym (ap length (p.executes longest.0 0 _ longest.1 hand.2)) ∙ executes inner hop marks hand.0 (always hand.0 hand.1));
        }

    path_below : (hop : ℕ) → IsHanding k list hop → IsPathBelow k.legs list hop
    path_below hop hands =
        let p = list_path k Longest laws list legal hands.inner hop hands.marks hands.positive hands.always in
        let got = moves_along hands.inner hop p in
        record {
          moves = got.moves;
          hops = p.need;
          cost = costs hands.inner hop p;
          sids = sids_few hands.inner hop p;
          below = p.below;
        }

    -- where a list hands over even one inner packet at a hop limit, one of as many containers realizes with a need below that
    pub hands_realizes : (hop : ℕ) → IsHanding k list hop
        → (other : List Container) × (need : ℕ) × IsLegalList k.net other × IsRealizing k other need × (length other ≡ length list)
        × (need < hop)
    hands_realizes hop hands =
        let path = path_below hop hands in
        let made = realized path.moves (cost_with (length list) (k.legs.sid_cost * length path.moves) path.hops) path.cost in
        (list_of k.net (map (step_of k.legs) path.moves), path.hops, made.legal, made.realizes, made.of_path.count, path.below)

  -- legs that keep the laws of their kind mean the lists that realize, as it is said apart from the kind
  pub means_as : (Realizes Executes Hands : List Container → ℕ → Type 0)
      → ((list : List Container) (need : ℕ) → IsLegalList k.net list → IsRealizing k list need
      → IsExecuting k list (length (prefixes_in list)) → Realizes list need)
      → ((list : List Container) (count : ℕ) → IsExecuting k list count → Executes list count)
      → ((list : List Container) (need : ℕ) → IsLegalList k.net list → Realizes list need
      → IsRealizing k list need × (Executes list (length (prefixes_in list)) → IsExecuting k list (length (prefixes_in list))))
      → ((list : List Container) (hop : ℕ) → Hands list hop → IsHanding k list hop) → Means k.legs k.net Realizes Executes Hands
  means_as Realizes Executes Hands to_realizes to_executes of_realizes of_hands =
      record {
        sids = laws.sids;
        suits = laws.suits;
        lists = λ moves c cost.
            let is = realized moves c cost in
            record {
              of_path = is.of_path;
              legal = is.legal;
              realizes = to_realizes _ _ is.legal is.realizes is.executes;
              executes = to_executes _ _ is.executes;
            };
        paths = λ list need legal real.
            let of = of_realizes list need legal real in
            let path = path_of list legal need of.0 in
            record {
              moves = path.moves;
              hops = path.hops;
              cost = path.cost;
              sids = path.sids;
              within = path.within;
              whole = λ executes. path.whole (of.1 executes);
            };
        handing = λ list hop legal hands. path_below list legal hop (of_hands list hop hands);
      }

  -- and so as it is said of the kind
  pub kind_means : Means k.legs k.net (IsRealizing k) (IsExecuting k) (IsHanding k)
  kind_means =
      record {
        sids = laws.sids;
        suits = laws.suits;
        lists = realized;
        paths = λ list need legal real. path_of list legal need real;
        handing = λ list hop legal hands. path_below list legal hop hands;
      }
