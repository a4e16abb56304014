-- Walks of the compiled list keep to the intent's steps.
use Rattle.std.proofs.Common.{◌≡◌, ℕ, ◌+◌, ◌^◌, ◌<◌, ◌≤◌, Bool, true, false, List, [], ◌∷◌, length, length-append, map, Some, refl, sym, ap, ◌∙◌, subst, arith}
use Rattle.std.specs.Prelude.{IsTrue}
use Rattle.std.proofs.lemmas.List.{length-map}
use Rattle.v6_addr.specs.declared.address.Addr.{Addr}
use Rattle.srv6_rules.specs.declared.family.Family.{Family}
use Rattle.srv6_rules.specs.declared.family.Family.TheVariants as families
use Rattle.srv6_rules.specs.Encapsulation.{inner_lowered, header_bytes}
use Rattle.srv6_rules.specs.Packet.{Packet, Content, V6, V4, Unreadable, IsSpellable, bytes_of, spelling}
use Rattle.srv6_rules.specs.Packet4.{Packet4, IsSpellable4, ttl, spelling4, lowered4}
use Rattle.srv6_rules.specs.Policies.{Outer, pushed_round, outer_by, headend_by}
use Rattle.srv6_rules.proofs.PublicLaws.{length_spelling, by_fits, by_payload, headend_high, ttl_lowered_length}
use Rattle.net_model.specs.Network.{Network}
use Rattle.net_model.specs.NetworkRulesTerms.{IsNetwork}
use Rattle.net_model.proofs.PublicLaws.{keeps_from_network}
use Rattle.walk_rules.specs.Walk.{choice_at, free_walk_of}
use Rattle.intent_reader.specs.declared.intent.Intent.{Intent}
use Rattle.intent_reader.specs.IntentRules.{has_reach}
use Rattle.list_pack.specs.SidLists.{list_values}
use Rattle.leg_table.specs.Realizes.{IsInner, content_lowered, encapsulation_of, encapsulated_for, headend_place, ListRealizes}
use Rattle.leg_table.specs.WalkTrace.{Handed, handed_over}
use Rattle.binding_spec.specs.BindingSmall.{IsSmall}
use Rattle.tunnel_stages_theory.proofs.OwnHandLaws.{small_keeps_law}
use Rattle.path_compiler.specs.declared.compiled.Compiled.{Compiled}
use Rattle.compile_commands.specs.CompiledLists.{IsCompiledFor, BindsNothing, IsSmallFor, IsSmallIf, KeepsIf, KeepsToSteps, LooseIsSmall, trace_steps}
use Rattle.compile_commands.proofs.PublicLaws.{loose_keeps_law, met_keeps, realizes_loose, realizes_own, realizes_strict}
use Rattle.walk_rules.specs.declared.limits.TheConstants.{MAX_STAGES}
use Rattle.walk_commands.specs.WalkCommand.{Enters, IsEncapsulated, KeepsTo, KeepsToAtFirst, WalksKeep, of_content, of_encapsulating, policy_of, segment_of, walk_at_headend}
use Rattle.walk_commands.proofs.FirstHands.{own_first}
use Rattle.walk_commands.proofs.HandingOver.{Unbound, hands_within}
use Rattle.walk_commands.proofs.Fitting.{Passes, carried, walk_joins}
use Rattle.walk_commands.proofs.PlainSmalls.{loose_few, loose_fits, plain_few, plain_fits}
use Rattle.walk_commands.proofs.WalkStarts.{values_count}

-- a lowered packet is as long
lowered4_length : (p : Packet4) → IsSpellable4 p → length (spelling4 (lowered4 p)) ≡ length (spelling4 p)
lowered4_length p is =
    length-append (lowered4 p).header p.payload
    ∙ ap (λ (n : ℕ). n + length p.payload) (ttl_lowered_length p.header is.least)
    ∙ sym (length-append p.header p.payload)

-- the segments are the values of the list
same_values : (values : List ℕ) → map (λ (a : Addr). a.value) (map segment_of values) ≡ values
same_values [] = refl
same_values (v ∷ vs) = ap (λ (more : List ℕ). v ∷ more) (same_values vs)

module _ (net : Network) (intent : Intent) (c : Compiled) (compiled : IsCompiledFor net intent c) where
  -- so the outer packet is the encapsulation of the intent's fields with them
  same_outer : (bytes : List ℕ) → outer_by (policy_of net intent c) intent.reduced intent.inner bytes
      ≡ pushed_round (encapsulation_of intent (list_values net c.list)) intent.inner bytes intent.hop_limit
  same_outer bytes =
      ap (λ (list : List ℕ). pushed_round (encapsulation_of intent list) intent.inner bytes intent.hop_limit)
      (same_values (list_values net c.list))

  -- its header has the bytes that the compiler tells
  same_size : header_bytes intent.reduced (length (policy_of net intent c).segments) ≡ c.header
  same_size =
      let count : length (map segment_of (list_values net c.list)) ≡ c.containers =
      length-map (list_values net c.list) segment_of ∙ (values_count net c.list ∙ sym compiled.found.containers) in
      ap (header_bytes intent.reduced) count ∙ sym compiled.found.header

  made : (bytes : List ℕ) (hop : ℕ) → 1 < hop → c.header + length bytes ≤ 65575
      → headend_by (policy_of net intent c) intent.inner hop bytes
      ≡ Outer (pushed_round (encapsulation_of intent (list_values net c.list)) intent.inner bytes intent.hop_limit)
  made bytes hop high small =
      let size = same_size in
      headend_high (policy_of net intent c) intent.inner hop bytes high
      ∙ (by_fits (policy_of net intent c) intent.reduced intent.inner bytes (omega (arith, size, small))
      ∙ ap Outer (same_outer bytes))

  -- an inner packet of the intent's family enters
  enters : (family : Family) (inner : Content) → intent.inner ≡ family → IsInner family inner → c.header + length (bytes_of inner) ≤ 65575
      → of_content (policy_of net intent c) inner ≡ Enters (V6 (encapsulated_for intent (list_values net c.list) inner intent.hop_limit))
  enters families.V6 (V6 p) e is small =
      let one = length_spelling p in
      let two = length_spelling (inner_lowered p) in
      let high = is.1 in
      ap (λ (f : Family). of_encapsulating (headend_by (policy_of net intent c) f p.hop_limit (spelling (inner_lowered p)))) (sym e)
      ∙ ap of_encapsulating (made (spelling (inner_lowered p)) p.hop_limit (omega (arith, high)) (omega (arith, small, one, two)))
  enters families.V6 (V4 p) e is small = absurd is
  enters families.V6 (Unreadable bytes reason) e is small = absurd is
  enters families.V4 (V4 p) e is small =
      let high = is.1 in
      let same = lowered4_length p is.0 in
      ap (λ (f : Family). of_encapsulating (headend_by (policy_of net intent c) f (ttl p) (spelling4 (lowered4 p)))) (sym e)
      ∙ ap of_encapsulating (made (spelling4 (lowered4 p)) (ttl p) (omega (arith, high)) (omega (arith, small, same)))
  enters families.V4 (V6 p) e is small = absurd is
  enters families.V4 (Unreadable bytes reason) e is small = absurd is

  -- the outer packet has the header's bytes in front of those of the inner one, lowered
  outer_length : (family : Family) (inner : Content) → intent.inner ≡ family → IsInner family inner
      → 40 + length (encapsulated_for intent (list_values net c.list) inner intent.hop_limit).payload ≡ c.header + length (bytes_of inner)
  outer_length family inner e is =
      let bytes : List ℕ = bytes_of (content_lowered inner) in
      let same = ap (λ (p : Packet). 40 + length p.payload) (same_outer bytes) in
      let whole = by_payload (policy_of net intent c) intent.reduced intent.inner bytes in
      let size = same_size in
      let inside : length bytes ≡ length (bytes_of inner) = lowered_length family inner is in
      omega (arith, same, whole, size, inside)
    where
      lowered_length : (family : Family) (inner : Content) → IsInner family inner
          → length (bytes_of (content_lowered inner)) ≡ length (bytes_of inner)
      lowered_length families.V6 (V6 p) is = length_spelling (inner_lowered p) ∙ sym (length_spelling p)
      lowered_length families.V6 (V4 p) is = absurd is
      lowered_length families.V6 (Unreadable bytes reason) is = absurd is
      lowered_length families.V4 (V4 p) is = lowered4_length p is.0
      lowered_length families.V4 (V6 p) is = absurd is
      lowered_length families.V4 (Unreadable bytes reason) is = absurd is

-- ---- packets that keep to the intent

module _ (net : Network) (intent : Intent) (c : Compiled) (choices : List ℕ) (inner : Content) (network : IsNetwork net)
    (compiled : IsCompiledFor net intent c) (some : 0 < length choices) (is : IsInner intent.inner inner) where
  abbrev small_packet : Packet
  small_packet = encapsulated_for intent (list_values net c.list) inner intent.hop_limit

  -- the outer packet of a small inner packet is spelled, so it is not too big
  spelled_enters : IsSpellable small_packet → of_content (policy_of net intent c) inner ≡ Enters (V6 small_packet)
  spelled_enters spelled =
      let size = outer_length net intent c compiled intent.inner inner refl is in
      let fits : length small_packet.payload < 65536 = spelled.payload_len in
      enters net intent c compiled intent.inner inner refl is (omega (arith, size, fits))

  -- by whether a step is loose
  small_if : (b : Bool) → has_reach intent.steps ≡ b → IsSmallIf b net intent (list_values net c.list) inner intent.hop_limit
      → KeepsTo net intent c choices inner
  small_if false none small =
      let realizes = (realizes_own net intent none c.list c.need).0 compiled.found.chosen.whole.realizes in
      let got = small_keeps_law net intent (list_values net c.list) inner c.need intent.hop_limit choices (keeps_from_network net network)
      realizes is compiled.within small some in
      record {
        outer = V6 small_packet;
        enters = spelled_enters small.spelled;
        handed = got.handed;
        own = got.own;
        steps = met_keeps net intent got.handed.trace got.steps;
        lowered = got.content;
      }
  small_if true reach small =
      let realizes = (realizes_loose net intent reach c.list c.need).0 compiled.found.chosen.whole.realizes in
      let got = loose_keeps_law net intent (trace_steps intent) c.list inner c.need intent.hop_limit choices realizes is compiled.within small
      some in
      record {
        outer = V6 small_packet;
        enters = spelled_enters small.spelled;
        handed = got.handed;
        own = own_first net (walk_at_headend net intent choices (V6 small_packet)) got.handed got.first got.unbound;
        steps = subst (λ (b : Bool). KeepsIf b net intent got.handed.trace) (sym reach) got.keeps;
        lowered = got.content;
      }

pub small_keeps : (net : Network) (intent : Intent) (c : Compiled) (choices : List ℕ) (inner : Content) → IsNetwork net
    → IsCompiledFor net intent c → 0 < length choices → IsInner intent.inner inner
    → IsSmallFor net intent (list_values net c.list) inner intent.hop_limit → KeepsTo net intent c choices inner
small_keeps net intent c choices inner network compiled some is small =
    small_if net intent c choices inner network compiled some is (has_reach intent.steps) refl small

-- ---- packets that are handed over first, where no binding SID is executed

record HandsFirst (net : Network) (intent : Intent) (c : Compiled) (choices : List ℕ) (inner : Content) : Type 0 where
  fuel : ℕ
  handed : Handed
  first : handed_over net (free_walk_of fuel net (Some (headend_place intent))
      (V6 (encapsulated_for intent (list_values net c.list) inner intent.hop_limit)) (choice_at choices) 0) ≡ Some handed
  keeps : KeepsToSteps net intent handed.trace
  content : handed.content ≡ content_lowered inner
  unbound : Unbound net handed.sids

module _ (net : Network) (intent : Intent) (c : Compiled) (compiled : IsCompiledFor net intent c) (inner : Content)
    (is : IsInner intent.inner inner) (choices : List ℕ) (some : 0 < length choices) where
  -- where the list realizes the steps, one event each
  strict_first : ListRealizes net intent c.list c.need → HandsFirst net intent c choices inner
  strict_first realizes =
      let got = realizes.reaches inner is intent.hop_limit compiled.within choices some in
      record {
        fuel = got.fuel;
        handed = got.handed;
        first = got.first;
        keeps = met_keeps net intent got.handed.trace got.steps;
        content = got.content;
        unbound = got.unbound;
      }

  -- where a step is loose
  loose_first : has_reach intent.steps ≡ true → HandsFirst net intent c choices inner
  loose_first reach =
      let realizes = (realizes_loose net intent reach c.list c.need).0 compiled.found.chosen.whole.realizes in
      let got = realizes.reaches.always inner is intent.hop_limit compiled.within choices some in
      record {
        fuel = got.fuel;
        handed = got.handed;
        first = got.first;
        keeps = subst (λ (b : Bool). KeepsIf b net intent got.handed.trace) (sym reach) got.keeps;
        content = got.content;
        unbound = got.unbound;
      }

  -- in a network without binding SIDs
  plain_if : BindsNothing net → (b : Bool) → has_reach intent.steps ≡ b → HandsFirst net intent c choices inner
  plain_if nothing false none =
      strict_first ((realizes_strict net intent nothing none c.list c.need).0 compiled.found.chosen.whole.realizes)
  plain_if nothing true reach = loose_first reach

  plain_first : BindsNothing net → HandsFirst net intent c choices inner
  plain_first nothing = plain_if nothing (has_reach intent.steps) refl

-- no packet on the way is longer than at the headend, and the first hand_over is the own one
first_keeps : (net : Network) (intent : Intent) (c : Compiled) (choices : List ℕ) (inner : Content) → intent.hop_limit < 2 ^ 8
    → IsCompiledFor net intent c → IsEncapsulated net intent c inner → HandsFirst net intent c choices inner
    → KeepsToAtFirst net intent c choices inner
first_keeps net intent c choices inner byte compiled is got =
    let len : ℕ = c.header + length (bytes_of inner) in
    let packet : Packet = encapsulated_for intent (list_values net c.list) inner intent.hop_limit in
    let size = outer_length net intent c compiled intent.inner inner refl is.is_inner in
    let first : handed_over net (walk_at_headend net intent choices (V6 packet)) ≡ Some got.handed
    = walk_joins net len (choice_at choices) MAX_STAGES _ (V6 packet) 0 got.handed
    (hands_within net (choice_at choices) got.fuel MAX_STAGES _ (V6 packet) 0 got.handed got.first got.unbound (omega (arith, byte)))
    (got.unbound, carried net len intent got.handed.trace got.keeps is.goes_over)
    (omega (arith, size)) in
    record {
      keeps = record {
        outer = V6 packet;
        enters = enters net intent c compiled intent.inner inner refl is.is_inner is.small;
        handed = got.handed;
        own = own_first net (walk_at_headend net intent choices (V6 packet)) got.handed first got.unbound;
        steps = got.keeps;
        lowered = got.content;
      };
      first = first;
    }

pub strict_keeps : (net : Network) (intent : Intent) (c : Compiled) (choices : List ℕ) (inner : Content)
    → ListRealizes net intent c.list c.need → intent.hop_limit < 2 ^ 8 → IsCompiledFor net intent c → 0 < length choices
    → IsEncapsulated net intent c inner → KeepsToAtFirst net intent c choices inner
strict_keeps net intent c choices inner realizes byte compiled some is =
    first_keeps net intent c choices inner byte compiled is (strict_first net intent c compiled inner is.is_inner choices some realizes)

pub plain_keeps : (net : Network) (intent : Intent) (c : Compiled) (choices : List ℕ) (inner : Content) → BindsNothing net
    → intent.hop_limit < 2 ^ 8 → IsCompiledFor net intent c → 0 < length choices → IsEncapsulated net intent c inner
    → KeepsToAtFirst net intent c choices inner
plain_keeps net intent c choices inner none byte compiled some is =
    first_keeps net intent c choices inner byte compiled is (plain_first net intent c compiled inner is.is_inner choices some none)

pub loose_keeps : (net : Network) (intent : Intent) (c : Compiled) (choices : List ℕ) (inner : Content) → IsTrue (has_reach intent.steps)
    → intent.hop_limit < 2 ^ 8 → IsCompiledFor net intent c → 0 < length choices → IsEncapsulated net intent c inner
    → KeepsToAtFirst net intent c choices inner
loose_keeps net intent c choices inner reach byte compiled some is =
    first_keeps net intent c choices inner byte compiled is (loose_first net intent c compiled inner is.is_inner choices some reach)

-- ---- and such a packet is small, where bytes spell it with its first header

module _ (net : Network) (intent : Intent) (c : Compiled) (inner : Content) (byte : intent.hop_limit < 2 ^ 8)
    (compiled : IsCompiledFor net intent c) (is : IsEncapsulated net intent c inner)
    (spelled : IsSpellable (encapsulated_for intent (list_values net c.list) inner intent.hop_limit))
    (firsts : (choices : List ℕ) → 0 < length choices → HandsFirst net intent c choices inner) where
  abbrev len : ℕ
  len = c.header + length (bytes_of inner)

  abbrev packet : Packet
  packet = encapsulated_for intent (list_values net c.list) inner intent.hop_limit

  size : 40 + length packet.payload ≤ len
  size = let same = outer_length net intent c compiled intent.inner inner refl is.is_inner in omega (arith, same)

  passes : (choices : List ℕ) (some : 0 < length choices) → Passes net len (choice_at choices) (firsts choices some).handed
  passes choices some =
      let g = firsts choices some in (g.unbound, carried net len intent g.handed.trace g.keeps is.goes_over)

  early : (choices : List ℕ) (some : 0 < length choices)
      → handed_over net (free_walk_of 9999 net (Some (headend_place intent)) (V6 packet) (choice_at choices) 0)
      ≡ Some (firsts choices some).handed
  early choices some =
      let g = firsts choices some in
      hands_within net (choice_at choices) g.fuel 9999 (headend_place intent) (V6 packet) 0 g.handed g.first g.unbound (omega (arith, byte))

  own_small : BindsNothing net → IsSmall net intent (list_values net c.list) inner intent.hop_limit
  own_small none = record {
    spelled = spelled;
    fits = λ choices fuel some.
        plain_fits net len (choice_at choices) (Some (headend_place intent)) (V6 packet) 0 9999 (firsts choices some).handed
        (early choices some) none (passes choices some) size fuel;
    few = λ choices fuel some.
        let few = plain_few net len (choice_at choices) (Some (headend_place intent)) (V6 packet) 0 9999 (firsts choices some).handed
        (early choices some) none fuel in
        omega (arith, few);
  }

  first_small : LooseIsSmall net intent (list_values net c.list) inner intent.hop_limit
  first_small = record {
    spelled = spelled;
    fits = λ choices fuel some.
        loose_fits net len (choice_at choices) (Some (headend_place intent)) (V6 packet) 0 9999 (firsts choices some).handed
        (early choices some) (passes choices some) size fuel;
    few = λ choices fuel some.
        let few = loose_few net len (choice_at choices) (Some (headend_place intent)) (V6 packet) 0 9999 (firsts choices some).handed
        (early choices some) fuel in
        omega (arith, few);
  }

  small_if_law : BindsNothing net → (b : Bool) → IsSmallIf b net intent (list_values net c.list) inner intent.hop_limit
  small_if_law none false = own_small none
  small_if_law none true = first_small

pub plain_small : (net : Network) (intent : Intent) (c : Compiled) (inner : Content) → BindsNothing net → intent.hop_limit < 2 ^ 8
    → IsCompiledFor net intent c → IsEncapsulated net intent c inner
    → IsSpellable (encapsulated_for intent (list_values net c.list) inner intent.hop_limit)
    → IsSmallFor net intent (list_values net c.list) inner intent.hop_limit
plain_small net intent c inner none byte compiled is spelled =
    small_if_law net intent c inner byte compiled is spelled
    (λ choices some. plain_first net intent c compiled inner is.is_inner choices some none) none (has_reach intent.steps)

pub loose_small : (net : Network) (intent : Intent) (c : Compiled) (inner : Content) → IsTrue (has_reach intent.steps)
    → intent.hop_limit < 2 ^ 8 → IsCompiledFor net intent c → IsEncapsulated net intent c inner
    → IsSpellable (encapsulated_for intent (list_values net c.list) inner intent.hop_limit)
    → IsSmallFor net intent (list_values net c.list) inner intent.hop_limit
loose_small net intent c inner reach byte compiled is spelled =
    subst (λ (b : Bool). IsSmallIf b net intent (list_values net c.list) inner intent.hop_limit) (sym reach)
    (first_small net intent c inner byte compiled is spelled
    (λ choices some. loose_first net intent c compiled inner is.is_inner choices some reach))

pub walks_keep : (net : Network) (intent : Intent) (c : Compiled) (choices : List ℕ) → IsNetwork net → intent.hop_limit < 2 ^ 8
    → IsCompiledFor net intent c → 0 < length choices → WalksKeep net intent c choices
walks_keep net intent c choices network byte compiled some = record {
  small = λ inner is small. small_keeps net intent c choices inner network compiled some is small;
  strict = λ realizes inner is. strict_keeps net intent c choices inner realizes byte compiled some is;
  plain = λ none inner is. plain_keeps net intent c choices inner none byte compiled some is;
  loose = λ reach inner is. loose_keeps net intent c choices inner reach byte compiled some is;
}
