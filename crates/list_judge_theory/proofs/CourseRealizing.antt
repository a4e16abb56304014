-- A legal list realizes what legs of a kind are for, with a need, exactly where there is a course along its prefixes with as many hops.
use Rattle.std.proofs.Common.{◌≡◌, ℕ, ◌+◌, ◌<◌, ◌≤◌, List, [], ◌∷◌, length, take, map, Option, Some, None, refl, sym, ◌∙◌, ap, subst, arith}
use Rattle.std.proofs.lemmas.List.{take_all}
use Rattle.v6_addr.specs.Address.{PrefixValue}
use Rattle.srv6_rules.specs.declared.family.Family.{Family}
use Rattle.srv6_rules.specs.declared.family.Family.TheVariants as families
use Rattle.srv6_rules.specs.Packet.{Packet, Content, V6, V4, Unreadable, bytes_of, content4_by, read_as}
use Rattle.srv6_rules.specs.Packet4.{lowered4, spelling4}
use Rattle.srv6_rules.specs.Encapsulation.{inner_lowered}
use Rattle.srv6_rules.proofs.PublicLaws.{content_of_spelling_alone, lowered_spellable, lowered4_spellable, read4_alone}
use Rattle.walk_rules.specs.Walk.{choice_at}
use Rattle.list_pack.specs.declared.types.Container.{Container}
use Rattle.list_pack.specs.PathsTerms.{hops_of}
use Rattle.list_pack.specs.SidLists.{IsLegalList, list_in, list_values, prefixes_in}
use Rattle.list_pack.proofs.PublicLaws.{flat_lists, legal_flat}
use Rattle.sid_list_theory.proofs.PublicLaws.{sids_first, starts_first}
use Rattle.leg_table.proofs.ListPlaces.{sids_list}
use Rattle.leg_table.proofs.OwnPlaces.{first_keeps, list_keeps}
use Rattle.leg_table.specs.OneLegLaws.{HandsOver, KindLaws, LegKind, prefix_in}
use Rattle.leg_table.specs.LegMeaning.{AlwaysInner, HandsInner, IsExecuting, IsRealizing}
use Rattle.leg_table.specs.Realizes.{IsInner, content_lowered, encapsulation_of}
use Rattle.leg_table.proofs.Inners.{some_inner, some_inner_is}
use Rattle.leg_table.proofs.StrictPaths.{path_marks}
use Rattle.leg_table.proofs.StrictRealizing as any
use Rattle.leg_table.proofs.StrictRealizing.{by_list, first_place, list_path, one, packet, tunnel}
use Rattle.list_judge_theory.specs.ListCourses.{Course, in_last}
use Rattle.list_judge_theory.proofs.LastPlaces.{first_tail, in_last_some}
use Rattle.list_judge_theory.proofs.CoursePaths.{EndWell, PathTo, course_path, path_course, well_whole, whole_well}
use Rattle.list_judge_theory.proofs.EarlyPaths.{EarlyLaws, Stands, ends_hands, ends_over, ends_shown}

-- what is handed over reads as the inner packet, lowered
inner_reads : (family : Family) (inner : Content) → IsInner family inner
    → read_as family (bytes_of (content_lowered inner)) ≡ content_lowered inner
inner_reads families.V6 (V6 p) is = content_of_spelling_alone (inner_lowered p) (lowered_spellable p is.0)
inner_reads families.V6 (V4 p) is = absurd is
inner_reads families.V6 (Unreadable bytes reason) is = absurd is
inner_reads families.V4 (V6 p) is = absurd is
inner_reads families.V4 (V4 p) is = ap (content4_by (spelling4 (lowered4 p))) (read4_alone (lowered4 p) (lowered4_spellable p is.0))
inner_reads families.V4 (Unreadable bytes reason) is = absurd is

module _ (k : LegKind) (Longest : Option ℕ → Packet → (ℕ → ℕ) → ℕ → Type 0) (laws : KindLaws k Longest) (list : List Container)
    (legal : IsLegalList k.net list) where
  abbrev ps : List PrefixValue
  ps = prefixes_in list

  -- needs of paths along a list are one where both realize
  one_need : (a b : ℕ) → IsRealizing k list a → IsRealizing k list b → a ≡ b
  one_need a b first other =
      let up = first.least b other.reaches in
      let down = other.least a first.reaches in
      omega (arith, up, down)

  -- ---- where each SID has to be executed

  -- the path of a course is one of all SIDs
  whole_path : (need : ℕ) → PathTo k Longest laws 0 0 None ps need
      → IsRealizing k list need × IsExecuting k list (length ps)
  whole_path need p =
      let long = well_whole k.net p.more p.first ps p.few p.well in
      let names = p.names ∙ take_all (length (p.first ∷ p.more)) ps (omega (arith, long)) in (
        any.path_realizes k Longest laws list legal p.first p.more need names p.is_path,
        any.path_counts k Longest laws list legal p.first p.more need names p.is_path,
      )

  pub whole_up : (need : ℕ) → Course k.legs k.net 0 0 None ps need → IsRealizing k list need × IsExecuting k list (length ps)
  whole_up need course = whole_path need (course_path k Longest laws 0 ps 0 None need course)

  -- a list that realizes has a path
  abbrev inner : Content
  inner = some_inner k.intent.inner

  pub record Along (need : ℕ) : Type 0 where
    pub path : any.PathAlong k Longest laws list legal inner (need + 1)
    pub within : path.need ≤ need
    pub pick : ℕ → ℕ
    pub marks : List ℕ
    pub row : List ℕ
    pub some : 0 < length row
    pub hands : HandsInner k (list_values k.net list) inner (need + 1) marks row
    pub over : HandsOver k None (packet k Longest laws list legal inner (need + 1)) pick 0 hands.handed
    pub sids : hands.handed.sids ≡ path.first ∷ path.more

  pub realizing_along : (need : ℕ) → IsRealizing k list need → Along need
  realizing_along need real =
      let hop : ℕ = need + 1 in
      let always : AlwaysInner k (list_values k.net list) inner hop real.reaches.0
      = real.reaches.1 inner (some_inner_is k.intent.inner) hop (omega arith) in
      let p = list_path k Longest laws list legal inner hop real.reaches.0 (omega arith) always in
      let longest = (one k Longest laws list legal inner).some_longest None (packet k Longest laws list legal inner hop) in
      let hand = by_list k Longest laws list legal inner hop real.reaches.0 always longest.0 in
      let below = p.below in
      record {
        path = p;
        within = omega (arith, below);
        pick = longest.0;
        marks = real.reaches.0;
        row = hand.0;
        some = hand.1;
        hands = always hand.0 hand.1;
        over = hand.2;
        sids = p.executes longest.0 0 _ longest.1 hand.2;
      }

  pub whole_down : (need : ℕ) → IsRealizing k list need → IsExecuting k list (length ps) → Course k.legs k.net 0 0 None ps need
  whole_down need real executes =
      let a = realizing_along need real in
      let p = a.path in
      let long : length (p.first ∷ p.more) ≡ length ps = sym (ap length a.sids) ∙ executes inner (need + 1) a.marks a.row a.hands in
      let names = p.names ∙ take_all (length (p.first ∷ p.more)) ps (omega (arith, long)) in
      let also = any.path_realizes k Longest laws list legal p.first p.more p.need names p.is_path in
      subst (λ (n : ℕ). Course k.legs k.net 0 0 None ps n) (one_need p.need need also real)
      (path_course k Longest laws 0 p.more p.first 0 None ps p.need p.is_path p.names (whole_well k.net 0 p.more p.first ps long))

  -- ---- where SIDs at the end may be passed over

  module _ (early : (inner : Content) → EarlyLaws k Longest (tunnel k Longest laws list legal inner)) where
    abbrev tail : ℕ
    tail = in_last list

    some_tail : tail ≡ 0 → ⊥
    some_tail none = by list legal none
      where
        by : (cs : List Container) → IsLegalList k.net cs → in_last cs ≡ 0 → ⊥
        by [] is none = absurd is.rules
        by (c ∷ cs) is none = in_last_some c cs none

    stands : (inner : Content) (hop : ℕ) (ns : List ℕ) → map (prefix_in k) ns ≡ take (length ns) ps
        → Stands k Longest (tunnel k Longest laws list legal inner) (one k Longest laws list legal inner) (early inner) tail
        (first_place k Longest laws list legal).0 hop (packet k Longest laws list legal inner hop) ps ns
    stands inner hop ns names =
        record {
          along =
              starts_first (encapsulation_of k.intent (list_values k.net list)) k.intent.inner (bytes_of (content_lowered inner)) hop
              (list_in k.net list) (first_place k Longest laws list legal).0 legal.rules
              (legal_flat k.net list (flat_lists k.net laws.network laws.flat) legal) refl (first_place k Longest laws list legal).1;
          keeps = first_keeps k.net (list_in k.net list) (first_place k Longest laws list legal).0 (list_keeps k.net list legal)
              (first_place k Longest laws list legal).1;
          sids =
              sids_first (list_in k.net list) (first_place k Longest laws list legal).0 (first_place k Longest laws list legal).1
              ∙ sids_list k.net list;
          names = names;
          last = first_tail k.net list (first_place k Longest laws list legal).0 (first_place k Longest laws list legal).1;
        }

    module _ (next : ℕ) (more : List ℕ) (need : ℕ) (names : map (prefix_in k) (next ∷ more) ≡ take (length (next ∷ more)) ps)
        (well : EndWell k.net tail ps next more) (is_path : hops_of k.legs 0 None (next ∷ more) ≡ Some need) where
      abbrev own_marks : List ℕ
      own_marks = path_marks k more next 0 None

      over : (inner : Content) → IsInner k.intent.inner inner → (hop : ℕ) → need < hop → (choices : List ℕ)
          → HandsInner k (list_values k.net list) inner hop own_marks choices
      over inner ok hop above choices =
          let hand = ends_hands k Longest (tunnel k Longest laws list legal inner) (one k Longest laws list legal inner) (early inner) tail more
          next 0 None (first_place k Longest laws list legal).0 hop (packet k Longest laws list legal inner hop) ps need (choice_at choices) 0
          (stands inner hop (next ∷ more) names) well is_path above in
          record {
            handed = hand.handed;
            over = hand.over;
            steps = hand.meets;
            content = hand.content ∙ inner_reads k.intent.inner inner ok;
            allowed = hand.allowed;
          }

      pub early_realizes : IsRealizing k list need
      early_realizes =
          record {
            reaches = (own_marks, λ inner ok hop above choices some. over inner ok hop above choices);
            least = λ n reaches.
                let longest = (one k Longest laws list legal inner).some_longest None (packet k Longest laws list legal inner (n + 1)) in
                let hand = by_list k Longest laws list legal inner (n + 1) reaches.0
                (reaches.1 inner (some_inner_is k.intent.inner) (n + 1) (omega arith)) longest.0 in
                let got = ends_over k Longest (tunnel k Longest laws list legal inner) (one k Longest laws list legal inner) (early inner) tail
                more next 0 None (first_place k Longest laws list legal).0 (n + 1) (packet k Longest laws list legal inner (n + 1)) ps need
                longest.0 0 _ (stands inner (n + 1) (next ∷ more) names) well is_path hand.2 in
                let above = got.1 longest.1 (omega arith) in
                omega (arith, above);
          }

    pub early_up : (need : ℕ) → Course k.legs k.net tail 0 None ps need → IsRealizing k list need
    early_up need course =
        let p = course_path k Longest laws tail ps 0 None need course in
        early_realizes p.first p.more need p.names p.well p.is_path

    pub early_down : (need : ℕ) → IsRealizing k list need → Course k.legs k.net tail 0 None ps need
    early_down need real =
        let a = realizing_along need real in
        let p = a.path in
        let well = ends_shown k Longest (tunnel k Longest laws list legal inner) (one k Longest laws list legal inner) (early inner) tail p.more
        p.first 0 None (first_place k Longest laws list legal).0 (need + 1) (packet k Longest laws list legal inner (need + 1)) ps p.need a.pick 0
        a.hands.handed some_tail (stands inner (need + 1) (p.first ∷ p.more) p.names) p.is_path a.over a.sids in
        let also = early_realizes p.first p.more p.need p.names well p.is_path in
        subst (λ (n : ℕ). Course k.legs k.net tail 0 None ps n) (one_need p.need need also real)
        (path_course k Longest laws tail p.more p.first 0 None ps p.need p.is_path p.names well)
