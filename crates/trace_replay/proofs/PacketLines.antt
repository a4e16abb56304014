-- The lines of a packet that entered: its first line is read as the packet, and those of its walk stand after it.
use Rattle.std.proofs.Common.{◌≡◌, ℕ, zero, suc, ◌+◌, ◌-◌, ◌^◌, ◌<◌, ◌≤◌, true, false, List, [], ◌∷◌, All, length, drop, take, Option, Some, None, slice_get, refl, sym, ap, ◌∙◌, subst, arith, length-append}
use Rattle.std.specs.Prelude.{bytes_eq, codes}
use Rattle.std.specs.Fmt.{decimal}
use Rattle.std.proofs.lemmas.Bool.{both_ways}
use Rattle.std.proofs.lemmas.List.{length-take, take_all}
use Rattle.std.proofs.lemmas.List.Elements.{All-cons, All-nil, All-take}
use Rattle.std.proofs.lemmas.Slice.Eq.{bytes_eq-Decides}
use Rattle.srv6_rules.specs.declared.family.Family.{Family}
use Rattle.srv6_rules.specs.Packet.{Content, Unreadable, V4, V6, bytes_of, entered, most_len, read_as, spelling}
use Rattle.srv6_rules.specs.PacketTerms.{IsContent}
use Rattle.srv6_rules.specs.Packet4.{spelling4}
use Rattle.srv6_rules.proofs.PublicLaws.{entered_back, entered_is_content, read_as_spelled, read_as_spelled4, read_as_unreadable}
use Rattle.net_model.specs.declared.parts.Node.{Node}
use Rattle.net_model.specs.NetworkKeeps.{Keeps}
use Rattle.net_model.specs.Named.{node_numbered}
use Rattle.net_model.specs.Network.{Network}
use Rattle.net_model.proofs.PublicLaws.{position_None, position_item}
use Rattle.walk_rules.specs.declared.place.Place.{Place}
use Rattle.walk_rules.specs.Relation.{IsPlace}
use Rattle.walk_rules.specs.Treatment.{step_of}
use Rattle.walk_rules.specs.Walk.{Stage, decisions, next_place, walk_of}
use Rattle.walk_rules.proofs.PublicLaws.{next_place_family, step_back, step_content, step_place, walk_of_none, walk_of_suc, walk_of_zero}
use Rattle.trace_replay.specs.declared.line.Line.TheVariants as lines
use Rattle.trace_replay.specs.declared.trace_reading.Phase.TheVariants as phases
use Rattle.trace_replay.specs.TraceGrammar.{family_read, hex_read, is_number, line_read, packet_by, words_read}
use Rattle.trace_replay.specs.TraceLaws.{walk_lines}
use Rattle.trace_replay.specs.TraceLines.{family_number, hex_text, name_of_node, packet_text, stage_text, stages_text}
use Rattle.trace_replay.specs.TraceReading.{behind_packet}
use Rattle.trace_replay.specs.Replays.{begins_packet}
use Rattle.trace_replay.specs.Written.{Traced, entry_place, packet_line}
use Rattle.trace_replay.specs.WrittenTerms.{IsTraced}
use Rattle.trace_replay.proofs.ReplayEntering.{enters_whole}
use Rattle.trace_replay.proofs.Splitting.{AreWords, IsTextLine, words_line, words_read_law}
use Rattle.trace_replay.proofs.StageLines.{content_bytes, stage_line_is, stages_line}
use Rattle.trace_replay.proofs.WordTexts.{decimal_number, decimal_word, family_back, family_word, hex_back, hex_word, name_word}

-- ---- the lines of a walk

-- a line of one that stands after a packet's first line
pub record IsInner (net : Network) (line : List ℕ) : Type 0 where
  pub text : IsTextLine line
  pub phase : behind_packet (line_read net line) ≡ Some phases.Packets
  pub begins : begins_packet line ≡ false

-- a packet may stand at a place: it can be spelled, and reads from its bytes as a packet of the place's family
pub record MayStand (net : Network) (place : Place) (content : Content) : Type 0 where
  pub is : IsPlace net place
  pub fits : IsContent content
  pub back : read_as place.family (bytes_of content) ≡ content

next_stands : (net : Network) (place : Place) (content : Content) (choice : ℕ) (next : Place) → Keeps net → MayStand net place content
    → let gave = step_of net place content choice in next_place net place gave.outcome ≡ Some next → MayStand net next gave.after
next_stands net place content choice next keeps may e =
    let gave = step_of net place content choice in
    record {
      is = step_place net place content choice next keeps may.is e;
      fits = step_content net place content choice keeps may.fits;
      back =
          ap (λ (f : Family). read_as f (bytes_of gave.after)) (next_place_family net place next gave.outcome e)
          ∙ step_back net place content choice keeps may.fits may.back;
    }

stage_inner : (net : Network) (place : Place) (content : Content) (choice : ℕ) → Keeps net → MayStand net place content
    → IsInner net (stage_text net (step_of net place content choice))
stage_inner net place content choice keeps may =
    let line = stage_line_is net place content choice keeps may.is may.fits in
    record { text = line.text; phase = ap behind_packet line.read; begins = line.begins }

-- the lines from a place, if there is one
abbrev Inner : ℕ → Network → Option Place → Content → (ℕ → ℕ) → ℕ → Type 0
Inner fuel net place content pick taken = All (IsInner net) (walk_lines net place (walk_of fuel net place content pick taken))

none_inner : (fuel : ℕ) (net : Network) (content : Content) (pick : ℕ → ℕ) (taken : ℕ) → Inner fuel net None content pick taken
none_inner fuel net content pick taken =
    subst (λ (steps : List Stage). All (IsInner net) (walk_lines net None steps)) (sym (walk_of_none fuel net content pick taken))
    (All-nil (IsInner net))

by_next : (fuel : ℕ) (net : Network) (next : Option Place) (content : Content) (pick : ℕ → ℕ) (taken : ℕ)
    → ((p : Place) → next ≡ Some p → Inner fuel net (Some p) content pick taken) → Inner fuel net next content pick taken
by_next fuel net None content pick taken on = none_inner fuel net content pick taken
by_next fuel net (Some p) content pick taken on = on p refl

pub walk_inner : (fuel : ℕ) (net : Network) (place : Place) (content : Content) (pick : ℕ → ℕ) (taken : ℕ) → Keeps net
    → MayStand net place content → Inner fuel net (Some place) content pick taken
walk_inner zero net place content pick taken keeps may =
    let line = stages_line net in
    let inner : IsInner net stages_text =
    record { text = line.text; phase = ap behind_packet line.read; begins = line.begins } in
    subst (λ (steps : List Stage). All (IsInner net) (walk_lines net (Some place) steps))
    (sym (walk_of_zero net (Some place) content pick taken))
    (All-cons (IsInner net) stages_text [] inner (All-nil (IsInner net)))
walk_inner (suc fuel) net place content pick taken keeps may =
    let gave = step_of net place content (pick taken) in
    let next = next_place net place gave.outcome in
    let later = taken + decisions gave.outcome in
    subst (λ (steps : List Stage). All (IsInner net) (walk_lines net (Some place) steps))
    (sym (walk_of_suc fuel net place content pick taken))
    (All-cons (IsInner net) (stage_text net gave) (walk_lines net next (walk_of fuel net next gave.after pick later))
    (stage_inner net place content (pick taken) keeps may)
    (by_next fuel net next gave.after pick later
    (λ p e. walk_inner fuel net p gave.after pick later keeps (next_stands net place content (pick taken) p keeps may e))))

-- ---- what enters

read_short : (family : Family) (bytes : List ℕ) (c : Content) → All (λ b. b < 2 ^ 8) bytes → read_as family bytes ≡ c
    → length (bytes_of c) ≤ length bytes
read_short family bytes (V6 q) all e =
    let whole = read_as_spelled family bytes q all e in
    let sum = length-append (spelling q) (drop (length (spelling q)) bytes) in omega (arith, ap length whole, sum)
read_short family bytes (V4 q) all e =
    let whole = read_as_spelled4 family bytes q all e in
    let sum = length-append (spelling4 q) (drop (length (spelling4 q)) bytes) in omega (arith, ap length whole, sum)
read_short family bytes (Unreadable kept why) all e = omega (arith, ap length (read_as_unreadable family bytes kept why e))

entered_short : (family : Family) (bytes : List ℕ) → All (λ b. b < 2 ^ 8) bytes → length (bytes_of (entered family bytes)) ≤ most_len
entered_short family bytes all =
    let less = read_short family (take most_len bytes) (entered family bytes) (All-take (λ b. b < 2 ^ 8) most_len bytes all) refl in
    omega (arith, less, length-take most_len bytes)

module _ (net : Network) (p : Traced) (keeps : Keeps net) (is : IsTraced net p) where
  pub entry_stands : MayStand net (entry_place p) p.content
  entry_stands =
      record {
        is = (is.node, tt);
        fits = subst IsContent (sym is.content) (entered_is_content p.family is.bytes is.each);
        back =
            ap (λ (c : Content). read_as p.family (bytes_of c)) is.content ∙ (entered_back p.family is.bytes is.each ∙ sym is.content);
      }

  content_short : length (bytes_of p.content) ≤ most_len
  content_short = subst (λ (c : Content). length (bytes_of c) ≤ most_len) (sym is.content) (entered_short p.family is.bytes is.each)

  -- its bytes enter as it
  pub enters_again : entered p.family (bytes_of p.content) ≡ p.content
  enters_again = ap (read_as p.family) (take_all most_len (bytes_of p.content) content_short) ∙ entry_stands.back

  is_entering : packet_by (Some p.family) (Some p.node) (Some (bytes_of p.content))
      ≡ Some (lines.Packet p.family p.node (bytes_of p.content))
  is_entering =
      sym (enters_whole p.family p.node (bytes_of p.content) content_short (length (bytes_of p.content))
      (sym (ap (λ (c : Content). length (bytes_of c)) enters_again)) refl)

-- ---- the node

node_back : (net : Network) (i : ℕ) (n : Node) → Keeps net → slice_get net.nodes i ≡ Some n → node_numbered n.name net.nodes ≡ Some i
node_back net i n keeps there = by_number (node_numbered n.name net.nodes) refl
  where
    by_number : (o : Option ℕ) → node_numbered n.name net.nodes ≡ o → o ≡ Some i
    by_number None e =
        absurd (both_ways _ (position_None (λ m. bytes_eq m.name n.name) net.nodes e i n there) ((bytes_eq-Decides n.name n.name).1 refl))
    by_number (Some j) e =
        let found = position_item (λ m. bytes_eq m.name n.name) net.nodes j e in
        ap Some (keeps.node_name j i found.0 n found.1 there ((bytes_eq-Decides found.0.name n.name).0 found.2))

-- a node that is there has a name
pub item_there : {T : Type 0} (items : List T) (n : ℕ) → n < length items → (item : T) × (slice_get items n ≡ Some item)
item_there [] n h = absurd (omega (arith, h))
item_there (x ∷ xs) zero h = (x, refl)
item_there (x ∷ xs) (suc n) h = item_there xs n (omega (arith, h))

-- ---- the first line

words_packet : (net : Network) (number family node hex : List ℕ) (f : Family) (n : ℕ) (bytes : List ℕ)
    → is_number (2 ^ 32 - 1) number ≡ true → family_read family ≡ Some f → node_numbered node net.nodes ≡ Some n
    → hex_read hex ≡ Some bytes
    → words_read net (codes "packet" ∷ number ∷ family ∷ node ∷ hex ∷ []) ≡ packet_by (Some f) (Some n) (Some bytes)
words_packet net number family node hex f n bytes a b c d = rw (a, b, c, d) refl

pub record IsFirst (net : Network) (p : Traced) (line : List ℕ) : Type 0 where
  pub text : IsTextLine line
  pub read : line_read net line ≡ Some (lines.Packet p.family p.node (bytes_of p.content))
  pub begins : begins_packet line ≡ true

first_by : (net : Network) (p : Traced) (n : Node) → Keeps net → IsTraced net p → slice_get net.nodes p.node ≡ Some n
    → IsFirst net p (packet_text p.number p.family n.name (hex_text (bytes_of p.content)))
unfolding packet_text
first_by net p n keeps is there =
    let all = content_bytes p.content (entry_stands net p keeps is).fits in
    let name = (keeps.node p.node n there).name in
    let number : List ℕ = decimal p.number in
    let family : List ℕ = decimal (family_number p.family) in
    let hex : List ℕ = hex_text (bytes_of p.content) in
    let words : AreWords (codes "packet" ∷ number ∷ family ∷ n.name ∷ hex ∷ []) =
    (refl, (decimal_word p.number is.number, (family_word p.family, (name_word n.name name, (hex_word (bytes_of p.content) all, tt))))) in
    record {
      text = words_line (codes "packet") (number ∷ family ∷ n.name ∷ hex ∷ []) words;
      read =
          words_read_law net (codes "packet") (number ∷ family ∷ n.name ∷ hex ∷ []) words
          ∙ (words_packet net number family n.name hex p.family p.node (bytes_of p.content)
          (decimal_number (2 ^ 32 - 1) p.number is.number (omega (arith, is.number))) (family_back p.family)
          (node_back net p.node n keeps there) (hex_back (bytes_of p.content) all)
          ∙ is_entering net p keeps is);
      begins = refl;
    }

pub first_line : (net : Network) (p : Traced) → Keeps net → IsTraced net p → IsFirst net p (packet_line net p)
first_line net p keeps is =
    let found = item_there net.nodes p.node is.node in
    subst (λ (o : Option Node). IsFirst net p (packet_text p.number p.family (name_of_node o) (hex_text (bytes_of p.content))))
    (sym found.1) (first_by net p found.0 keeps is found.1)
