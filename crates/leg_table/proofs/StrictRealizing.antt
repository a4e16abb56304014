-- A path of legs and a finish realizes the intent with the sum of its lowerings as its need, whatever kind the legs are of.
use Rattle.std.proofs.Common.{◌≡◌, ℕ, suc, ◌+◌, ◌<◌, List, [], ◌∷◌, length, map, All, Option, Some, None, refl, sym, ◌∙◌, ap, subst, arith, zero-add}
use Rattle.std.proofs.lemmas.List.{length-map}
use Rattle.std.proofs.lemmas.List.Elements.{All-nil, All-cons}
use Rattle.v6_addr.specs.Address.{PrefixValue}
use Rattle.srv6_rules.specs.declared.family.Family.{Family}
use Rattle.srv6_rules.specs.declared.family.Family.TheVariants as families
use Rattle.srv6_rules.specs.Packet.{Packet, Content, V6, V4, Unreadable, bytes_of, content4_by, read_as}
use Rattle.srv6_rules.specs.Packet4.{lowered4, spelling4}
use Rattle.srv6_rules.specs.Encapsulation.{inner_lowered}
use Rattle.srv6_rules.proofs.PublicLaws.{content_of_spelling_alone, lowered_spellable, read4_alone, lowered4_spellable}
use Rattle.walk_rules.specs.Walk.{choice_at}
use Rattle.sid_list_theory.specs.ListPlaces as places
use Rattle.sid_list_theory.specs.ListPlaces.{Tunnel, sids_from, first_of, Along}
use Rattle.sid_list_theory.proofs.PublicLaws.{first_some, starts_first, sids_first}
use Rattle.list_pack.specs.declared.types.Container.{Container}
use Rattle.list_pack.specs.PathsTerms.{hops_of}
use Rattle.list_pack.specs.SidLists.{list_sid, list_in, prefixes_in, IsSidPrefix, IsLegalList, list_values}
use Rattle.list_pack.specs.LegsValueTerms.{IsSid}
use Rattle.list_pack.proofs.PublicLaws.{flat_lists, legal_flat}
use Rattle.leg_table.specs.NestLegsTerms.{PlaceKeeps}
use Rattle.leg_table.specs.WalkTrace.{Handed}
use Rattle.leg_table.specs.OneLegLaws.{LegKind, LegLaws, KindLaws, HandsOver, AlwaysHands, prefix_in}
use Rattle.leg_table.specs.LegMeaning.{HandsInner, AlwaysInner, IsRealizing, IsExecuting}
use Rattle.leg_table.specs.Realizes.{encapsulation_of, IsInner, content_lowered, encapsulated_for}
use Rattle.leg_table.proofs.StrictChoices.{row_from, length_row_from, row_agrees}
use Rattle.leg_table.proofs.ListPlaces.{active_first, sids_list}
use Rattle.leg_table.proofs.OwnPlaces.{first_keeps, list_keeps}
use Rattle.leg_table.proofs.StrictPaths.{with_hops_some, Names, PathFrom, path_marks, path_hands, path_over, path_down}
use Rattle.leg_table.proofs.Inners.{some_inner, some_inner_is}

-- what is handed over reads as the inner packet, lowered
inner_reads : (family : Family) (inner : Content) → IsInner family inner
    → read_as family (bytes_of (content_lowered inner)) ≡ content_lowered inner
inner_reads families.V6 (V6 p) is = content_of_spelling_alone (inner_lowered p) (lowered_spellable p is.0)
inner_reads families.V6 (V4 p) is = absurd is
inner_reads families.V6 (Unreadable bytes reason) is = absurd is
inner_reads families.V4 (V6 p) is = absurd is
inner_reads families.V4 (V4 p) is = ap (content4_by (spelling4 (lowered4 p))) (read4_alone (lowered4 p) (lowered4_spellable p is.0))
inner_reads families.V4 (Unreadable bytes reason) is = absurd is

module _ (k : LegKind) (Longest : Option ℕ → Packet → (ℕ → ℕ) → ℕ → Type 0) (laws : KindLaws k Longest) where
  -- the prefixes of a path's SIDs are those of SIDs
  sid_prefix : (n : ℕ) → IsSid k.legs n → IsSidPrefix k.net (prefix_in k n)
  sid_prefix n is = let s = laws.sids n is in (n, s.0, s.1, sym s.2.prefix)

  pub path_named : (more : List ℕ) (next position : ℕ) (via : Option ℕ) (need : ℕ) → hops_of k.legs position via (next ∷ more) ≡ Some need
      → All (IsSidPrefix k.net) (map (prefix_in k) (next ∷ more))
  path_named [] next position via need h =
      All-cons (IsSidPrefix k.net) (prefix_in k next) []
      (sid_prefix next (k.legs.steps, omega arith, (laws.legs.finish position via next need h).is_next)) (All-nil (IsSidPrefix k.net))
  path_named (m ∷ more) next position via need h =
      let got = with_hops_some (k.legs.leg position via next) (λ to. hops_of k.legs to (Some next) (m ∷ more)) need h in
      let law = laws.legs.leg position via next got.0 got.1 in
      All-cons (IsSidPrefix k.net) (prefix_in k next) (map (prefix_in k) (m ∷ more)) (sid_prefix next (got.0.to, law.within, law.is_next))
      (path_named more m got.0.to (Some next) got.2 got.3)

  module _ (list : List Container) (legal : IsLegalList k.net list) where
    abbrev pub segments : List ℕ
    segments = list_values k.net list

    pub first_place : (x : places.ListPlace) × (first_of (list_in k.net list) ≡ Some x)
    first_place = first_some (list_in k.net list) legal.rules

    abbrev pub tunnel : Content → Tunnel
    tunnel inner =
        record { encapsulation = encapsulation_of k.intent segments; inner = k.intent.inner; bytes = bytes_of (content_lowered inner) }

    abbrev pub packet : Content → ℕ → Packet
    packet inner hop = encapsulated_for k.intent segments inner hop

    pub one : (inner : Content) → LegLaws k Longest (tunnel inner)
    one inner = laws.one (tunnel inner) refl

    starts : (inner : Content) (hop : ℕ) → Along (tunnel inner) first_place.0 hop (packet inner hop)
    starts inner hop =
        starts_first (encapsulation_of k.intent segments) k.intent.inner (bytes_of (content_lowered inner)) hop (list_in k.net list)
        first_place.0 legal.rules (legal_flat k.net list (flat_lists k.net laws.network laws.flat) legal) refl first_place.1

    nests : PlaceKeeps k.net first_place.0
    nests = first_keeps k.net (list_in k.net list) first_place.0 (list_keeps k.net list legal) first_place.1

    named : sids_from first_place.0 ≡ map (list_sid k.net) (prefixes_in list)
    named = sids_first (list_in k.net list) first_place.0 first_place.1 ∙ sids_list k.net list

    -- what is handed over for all lists of choices is handed over under every row of choices, as for one of the lists
    pub by_list : (inner : Content) (hop : ℕ) (marks : List ℕ) (always : AlwaysInner k segments inner hop marks) (pick : ℕ → ℕ)
        → (row : List ℕ) × (some : 0 < length row) × HandsOver k None (packet inner hop) pick 0 (always row some).handed
    by_list inner hop marks always pick =
        let n = suc (laws.matter (packet inner hop)) in
        let row = row_from pick 0 n in
        let some : 0 < length row = rw (length_row_from pick 0 n) (omega arith) in
        let got = always row some in (
          row,
          some,
          laws.agree (packet inner hop) (choice_at row) pick got.handed marks
              (λ d few. sym (ap (choice_at row) (zero-add d)) ∙ row_agrees pick n d (omega arith) ∙ ap pick (zero-add d))
              got.over got.steps,
        )

    module _ (next : ℕ) (more : List ℕ) (need : ℕ) (names : map (prefix_in k) (next ∷ more) ≡ prefixes_in list)
        (is_path : hops_of k.legs 0 None (next ∷ more) ≡ Some need) where
      all_named : (inner : Content) → Names k Longest (tunnel inner) (one inner) first_place.0 (next ∷ more)
      all_named inner = named ∙ ap (map (list_sid k.net)) (sym names)

      -- the marks of the path
      abbrev own_marks : List ℕ
      own_marks = path_marks k more next 0 None

      over : (inner : Content) → IsInner k.intent.inner inner → (hop : ℕ) → need < hop → (choices : List ℕ)
          → HandsInner k segments inner hop own_marks choices
      over inner ok hop above choices =
          let hand = path_hands k Longest (tunnel inner) (one inner) more next 0 None first_place.0 hop (packet inner hop) need
          (choice_at choices) 0 (starts inner hop) nests (all_named inner) is_path above in
          record {
            handed = hand.handed;
            over = hand.over;
            steps = hand.meets;
            content = hand.content ∙ inner_reads k.intent.inner inner ok;
            allowed = hand.allowed;
          }

      pub path_executes : (inner : Content) (hop : ℕ) (pick : ℕ → ℕ) (h : Handed) → HandsOver k None (packet inner hop) pick 0 h
          → (h.sids ≡ next ∷ more) × (Longest None (packet inner hop) pick 0 → 0 < hop → need < hop)
      path_executes inner hop pick h hands =
          path_over k Longest (tunnel inner) (one inner) more next 0 None first_place.0 hop (packet inner hop) need pick 0 h
          (starts inner hop) nests (all_named inner) is_path hands

      -- a path of legs and a finish realizes the intent
      pub path_realizes : IsRealizing k list need
      path_realizes =
          record {
            reaches = (own_marks, λ inner ok hop above choices some. over inner ok hop above choices);
            least = λ n reaches.
                let inner = some_inner k.intent.inner in
                let longest = (one inner).some_longest None (packet inner (n + 1)) in
                let hand = by_list inner (n + 1) reaches.0 (reaches.1 inner (some_inner_is k.intent.inner) (n + 1) (omega arith))
                longest.0 in
                let above = (path_executes inner (n + 1) longest.0 _ hand.2).1 longest.1 (omega arith) in
                omega (arith, above);
          }

      -- and wherever it is handed over, all its SIDs are executed
      pub path_counts : IsExecuting k list (length (prefixes_in list))
      path_counts inner hop marks choices h =
          ap length (path_executes inner hop (choice_at choices) h.handed h.over).0
          ∙ sym (length-map (next ∷ more) (prefix_in k)) ∙ ap length names

    -- a list that hands over for all choices is along a path
    abbrev pub PathAlong : Content → ℕ → Type 0
    PathAlong inner hop =
        PathFrom k Longest (tunnel inner) (one inner) 0 None first_place.0 (prefixes_in list) hop (packet inner hop)

    pub list_path : (inner : Content) (hop : ℕ) (marks : List ℕ) → 0 < hop → AlwaysInner k segments inner hop marks → PathAlong inner hop
    list_path inner hop marks positive always = by_prefixes (prefixes_in list) refl
      where
        hands : AlwaysHands k None (packet inner hop) 0
        hands = (
          marks,
          λ pick.
              let got = by_list inner hop marks always pick in
              let h = always got.0 got.1 in
              (h.handed, got.2, h.steps, h.allowed),
        )

        by_prefixes : (ps : List PrefixValue) → prefixes_in list ≡ ps → PathAlong inner hop
        by_prefixes [] e = let first = active_first first_place.0 in absurd (cc (first.1, named, ap (map (list_sid k.net)) e))
        by_prefixes (q ∷ qs) e =
            subst (λ (ps : List PrefixValue). PathFrom k Longest (tunnel inner) (one inner) 0 None first_place.0 ps hop (packet inner hop))
            (sym e)
            (path_down k Longest (tunnel inner) (one inner) laws.legs qs q 0 None first_place.0 hop (packet inner hop) (omega arith) refl
            (named ∙ ap (map (list_sid k.net)) e) (subst (All (IsSidPrefix k.net)) e legal.named) (starts inner hop) nests positive hands)
