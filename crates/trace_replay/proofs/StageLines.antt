-- The lines of walks and of packets are text of one line, and are read as what they are.
use Rattle.std.proofs.Common.{◌≡◌, ℕ, zero, suc, ◌^◌, ◌<◌, ◌≤◌, true, false, List, [], ◌∷◌, All, Option, Some, None, slice_get, refl, sym, ap, ◌∙◌, subst, arith, length}
use Rattle.std.specs.Prelude.{codes, is_some}
use Rattle.std.specs.Fmt.{decimal}
use Rattle.std.proofs.lemmas.List.Elements.{All-append}
use Rattle.v6_addr.specs.Address.{PrefixValue}
use Rattle.v6_addr.specs.AddressTerms.{IsPrefix}
use Rattle.v6_addr.specs.Text.{prefix_text}
use Rattle.srv6_rules.specs.declared.family.Family.{Family}
use Rattle.srv6_rules.specs.declared.reason.Reason.{Reason}
use Rattle.srv6_rules.specs.declared.reason.Reason.TheVariants as reasons
use Rattle.srv6_rules.specs.declared.sid.SidEntry.{SidEntry}
use Rattle.srv6_rules.specs.Packet.{Content, Unreadable, V4, V6, bytes_of}
use Rattle.srv6_rules.specs.PacketTerms.{IsContent}
use Rattle.srv6_rules.specs.Reasons.{reason_name}
use Rattle.srv6_rules.proofs.PublicLaws.{all_spelling}
use Rattle.icmp6_errors.specs.Answer.{error_bytes}
use Rattle.net_model.specs.declared.limits.TheConstants.{LAST_TABLE}
use Rattle.net_model.specs.declared.parts.Link.{Link}
use Rattle.net_model.specs.NetworkKeeps.{Keeps}
use Rattle.net_model.specs.Network.{Network}
use Rattle.net_model.specs.NetworkRules.{is_name}
use Rattle.walk_rules.specs.declared.place.How.{How}
use Rattle.walk_rules.specs.declared.place.How.TheVariants.{Arrived, Submitted, Through}
use Rattle.walk_rules.specs.declared.place.Outcome.{Outcome}
use Rattle.walk_rules.specs.declared.place.Outcome.TheVariants as outcomes
use Rattle.walk_rules.specs.declared.place.Place.{Place}
use Rattle.walk_rules.specs.Relation.{IsPlace}
use Rattle.walk_rules.specs.Treatment.{Gave, step_of}
use Rattle.walk_rules.proofs.PublicLaws.{stage_step, step_again, step_content, step_hand}
use Rattle.trace_replay.specs.declared.line.Line.{Line}
use Rattle.trace_replay.specs.declared.line.Line.TheVariants as lines
use Rattle.trace_replay.specs.TraceGrammar.{family_read, is_hex, is_number, is_prefix, is_reason, is_stage, line_read, words_read}
use Rattle.trace_replay.specs.TraceLines.{again_table_text, again_text, again_through_text, drop_text, end_text, family_number, hand_table_text, hand_text, hand_through_text, hex_text, local_text, name_of_link, outcome_text, prefix_of_sid, send_text, stage_text, stages_text}
use Rattle.trace_replay.specs.Numbered.{IsNumbered}
use Rattle.trace_replay.specs.Replays.{begins_packet}
use Rattle.trace_replay.proofs.ReplayChoosing.{numbered}
use Rattle.trace_replay.proofs.Splitting.{AreWords, IsTextLine, IsWord, joined, words_line, words_read_law}
use Rattle.trace_replay.proofs.StageOutcomes.{HasTable, exposed_table, onward_table, step_bytes}
use Rattle.trace_replay.proofs.WordTexts.{decimal_number, decimal_word, family_back, family_word, hex_hex, hex_word, name_word, prefix_back, prefix_word}

-- a line that is no packet's first one: it is text of one line, and is read as this
pub record IsLineOf (net : Network) (what : Line) (line : List ℕ) : Type 0 where
  pub text : IsTextLine line
  pub read : line_read net line ≡ Some what
  pub begins : begins_packet line ≡ false

stage_read : (net : Network) (words : List (List ℕ)) → is_stage words ≡ true → words_read net words ≡ Some lines.Stage
stage_read net words h = rw h refl

stage_line : (net : Network) (word : List ℕ) (more : List (List ℕ)) → AreWords (word ∷ more) → is_stage (word ∷ more) ≡ true
    → begins_packet (joined (word ∷ more)) ≡ false → IsLineOf net lines.Stage (joined (word ∷ more))
stage_line net word more words is begins =
    record {
      text = words_line word more words;
      read = words_read_law net word more words ∙ stage_read net (word ∷ more) is;
      begins = begins;
    }

-- ---- lines by their words

again_table_is : (sid a hex : List ℕ) → is_number LAST_TABLE a ≡ true → is_prefix sid ≡ true → is_hex hex ≡ true
    → is_stage (codes "again" ∷ sid ∷ codes "table" ∷ a ∷ hex ∷ []) ≡ true
again_table_is sid a hex n p h = rw (n, p, h) refl

again_through_is : (sid hex : List ℕ) → is_prefix sid ≡ true → is_hex hex ≡ true
    → is_stage (codes "again" ∷ sid ∷ codes "through" ∷ hex ∷ []) ≡ true
again_through_is sid hex p h = rw (p, h) refl

hand_table_is : (sid a family hex : List ℕ) → is_prefix sid ≡ true → is_number LAST_TABLE a ≡ true → is_some (family_read family) ≡ true
    → is_hex hex ≡ true → is_stage (codes "hand" ∷ sid ∷ codes "table" ∷ a ∷ family ∷ hex ∷ []) ≡ true
hand_table_is sid a family hex p n f h = rw (p, n, f, h) refl

hand_through_is : (sid family hex : List ℕ) → is_prefix sid ≡ true → is_some (family_read family) ≡ true → is_hex hex ≡ true
    → is_stage (codes "hand" ∷ sid ∷ codes "through" ∷ family ∷ hex ∷ []) ≡ true
hand_through_is sid family hex p f h = rw (f, p, h) refl

send_is : (link hex : List ℕ) → is_name link ≡ true → is_hex hex ≡ true → is_stage (codes "send" ∷ link ∷ hex ∷ []) ≡ true
send_is link hex n h = rw (n, h) refl

drop_is : (reason hex : List ℕ) → is_reason reason ≡ true → is_hex hex ≡ true → is_stage (codes "drop" ∷ reason ∷ hex ∷ []) ≡ true
drop_is reason hex r h = rw (r, h) refl

reason_told : (reason : Reason) → IsWord (reason_name reason) × (is_reason (reason_name reason) ≡ true)
unfolding reason_name
reason_told reasons.Truncated = (refl, refl)
reason_told reasons.BadVersion = (refl, refl)
reason_told reasons.Multicast = (refl, refl)
reason_told reasons.NoRoute = (refl, refl)
reason_told reasons.HopLimit = (refl, refl)
reason_told reasons.BadChain = (refl, refl)
reason_told reasons.LateHopByHop = (refl, refl)
reason_told reasons.OptionDiscard = (refl, refl)
reason_told reasons.OptionUnknown = (refl, refl)
reason_told reasons.Fragment = (refl, refl)
reason_told reasons.BadSegments = (refl, refl)
reason_told reasons.HmacTlv = (refl, refl)
reason_told reasons.BadTlv = (refl, refl)
reason_told reasons.UnknownRouting = (refl, refl)
reason_told reasons.UpperLayer = (refl, refl)
reason_told reasons.Ttl = (refl, refl)
reason_told reasons.TooBig = (refl, refl)
reason_told reasons.InnerHop = (refl, refl)
reason_told reasons.MtuExceeded = (refl, refl)

-- ---- lines of outcomes

module _ (net : Network) where
  again_table_line : (p : PrefixValue) (table : ℕ) (bytes : List ℕ) → IsPrefix p → table ≤ LAST_TABLE → All (λ b. b < 2 ^ 8) bytes
      → IsLineOf net lines.Stage (again_table_text p table (hex_text bytes))
  unfolding again_table_text
  again_table_line p table bytes is few all =
      let small : table < 2 ^ 32 = omega (arith, few) in
      stage_line net (codes "again") (prefix_text p ∷ codes "table" ∷ decimal table ∷ hex_text bytes ∷ [])
      (refl, (prefix_word p is, (refl, (decimal_word table small, (hex_word bytes all, tt)))))
      (again_table_is (prefix_text p) (decimal table) (hex_text bytes) (decimal_number LAST_TABLE table small few) (prefix_back p is)
      (hex_hex bytes all)) refl

  again_through_line : (p : PrefixValue) (bytes : List ℕ) → IsPrefix p → All (λ b. b < 2 ^ 8) bytes
      → IsLineOf net lines.Stage (again_through_text p (hex_text bytes))
  unfolding again_through_text
  again_through_line p bytes is all =
      stage_line net (codes "again") (prefix_text p ∷ codes "through" ∷ hex_text bytes ∷ [])
      (refl, (prefix_word p is, (refl, (hex_word bytes all, tt))))
      (again_through_is (prefix_text p) (hex_text bytes) (prefix_back p is) (hex_hex bytes all)) refl

  hand_table_line : (p : PrefixValue) (table : ℕ) (family : Family) (bytes : List ℕ) → IsPrefix p → table ≤ LAST_TABLE
      → All (λ b. b < 2 ^ 8) bytes → IsLineOf net lines.Stage (hand_table_text p table family (hex_text bytes))
  unfolding hand_table_text
  hand_table_line p table family bytes is few all =
      let small : table < 2 ^ 32 = omega (arith, few) in
      stage_line net (codes "hand")
      (prefix_text p ∷ codes "table" ∷ decimal table ∷ decimal (family_number family) ∷ hex_text bytes ∷ [])
      (refl, (prefix_word p is, (refl, (decimal_word table small, (family_word family, (hex_word bytes all, tt))))))
      (hand_table_is (prefix_text p) (decimal table) (decimal (family_number family)) (hex_text bytes) (prefix_back p is)
      (decimal_number LAST_TABLE table small few) (ap is_some (family_back family)) (hex_hex bytes all)) refl

  hand_through_line : (p : PrefixValue) (family : Family) (bytes : List ℕ) → IsPrefix p → All (λ b. b < 2 ^ 8) bytes
      → IsLineOf net lines.Stage (hand_through_text p family (hex_text bytes))
  unfolding hand_through_text
  hand_through_line p family bytes is all =
      stage_line net (codes "hand") (prefix_text p ∷ codes "through" ∷ decimal (family_number family) ∷ hex_text bytes ∷ [])
      (refl, (prefix_word p is, (refl, (family_word family, (hex_word bytes all, tt)))))
      (hand_through_is (prefix_text p) (decimal (family_number family)) (hex_text bytes) (prefix_back p is)
      (ap is_some (family_back family)) (hex_hex bytes all)) refl

  send_line : (name bytes : List ℕ) → is_name name ≡ true → All (λ b. b < 2 ^ 8) bytes
      → IsLineOf net lines.Stage (send_text name (hex_text bytes))
  unfolding send_text
  send_line name bytes is all =
      stage_line net (codes "send") (name ∷ hex_text bytes ∷ []) (refl, (name_word name is, (hex_word bytes all, tt)))
      (send_is name (hex_text bytes) is (hex_hex bytes all)) refl

  drop_line : (reason : Reason) (bytes : List ℕ) → All (λ b. b < 2 ^ 8) bytes
      → IsLineOf net lines.Stage (drop_text reason (hex_text bytes))
  unfolding drop_text
  drop_line reason bytes all =
      let told = reason_told reason in
      stage_line net (codes "drop") (reason_name reason ∷ hex_text bytes ∷ []) (refl, (told.0, (hex_word bytes all, tt)))
      (drop_is (reason_name reason) (hex_text bytes) told.1 (hex_hex bytes all)) refl

  local_line : IsLineOf net lines.Stage local_text
  unfolding local_text
  local_line = stage_line net (codes "local") [] (refl, tt) refl refl

  pub stages_line : IsLineOf net lines.Stages stages_text
  unfolding local_text stages_text end_text
  stages_line =
      record { text = refl; read = words_read_law net (codes "stages") [] (refl, tt); begins = refl }

  pub end_line : IsLineOf net lines.End end_text
  unfolding local_text stages_text end_text
  end_line =
      record { text = refl; read = words_read_law net (codes "end") [] (refl, tt); begins = refl }

  again_line : (p : PrefixValue) (how : How) (bytes : List ℕ) → IsPrefix p → HasTable how → All (λ b. b < 2 ^ 8) bytes
      → IsLineOf net lines.Stage (again_text p how (hex_text bytes))
  again_line p (Arrived table) bytes is few all = again_table_line p table bytes is few all
  again_line p (Submitted table) bytes is few all = again_table_line p table bytes is few all
  again_line p (Through n lower) bytes is few all = again_through_line p bytes is all

  hand_line : (p : PrefixValue) (how : How) (family : Family) (bytes : List ℕ) → IsPrefix p → HasTable how → All (λ b. b < 2 ^ 8) bytes
      → IsLineOf net lines.Stage (hand_text p how family (hex_text bytes))
  hand_line p (Arrived table) family bytes is few all = hand_table_line p table family bytes is few all
  hand_line p (Submitted table) family bytes is few all = hand_table_line p table family bytes is few all
  hand_line p (Through n lower) family bytes is few all = hand_through_line p family bytes is all

-- ---- the line of a stage

pub content_bytes : (content : Content) → IsContent content → All (λ b. b < 2 ^ 8) (bytes_of content)
content_bytes (V6 p) h = all_spelling p h
content_bytes (V4 p) h = All-append (λ b. b < 2 ^ 8) p.header p.payload h.header h.payload
content_bytes (Unreadable bytes reason) h = h

-- a link that is there has a name
link_named : (net : Network) (link : ℕ) (o : Option Link) → Keeps net → slice_get net.links link ≡ o → link < length net.links
    → is_name (name_of_link o) ≡ true
link_named net link None keeps e there = absurd (no_item net.links link there e)
  where
    no_item : (items : List Link) (n : ℕ) → n < length items → slice_get items n ≡ None → ⊥
    no_item [] n h e = omega (arith, h)
    no_item (x ∷ xs) zero h e = cc
    no_item (x ∷ xs) (suc n) h e = no_item xs n (omega (arith, h)) e
link_named net link (Some l) keeps e there = (keeps.link link l e).name

module _ (net : Network) (place : Place) (content : Content) (choice : ℕ) (keeps : Keeps net) (is : IsPlace net place)
    (fits : IsContent content) where
  abbrev gave : Gave
  gave = step_of net place content choice

  abbrev LineIs : Outcome → Type 0
  LineIs o = IsLineOf net lines.Stage (outcome_text net o (bytes_of gave.after) (error_bytes gave.error))

  after_bytes : All (λ b. b < 2 ^ 8) (bytes_of gave.after)
  after_bytes = content_bytes gave.after (step_content net place content choice keeps fits)

  outcome_line : (o : Outcome) → gave.outcome ≡ o → LineIs o
  outcome_line (outcomes.Again n how) e =
      let x = step_again net place content choice n how e in
      let sid = keeps.sid n x.sid x.is_there in
      let table : HasTable how = subst HasTable (sym x.goes_on) (onward_table n x.sid.behaviour sid.behaviour.table) in
      subst (λ (s : Option SidEntry). IsLineOf net lines.Stage (again_text (prefix_of_sid s) how (hex_text (bytes_of gave.after))))
      (sym x.is_there) (again_line net x.sid.prefix how (bytes_of gave.after) sid.prefix table after_bytes)
  outcome_line (outcomes.Hand n how family) e =
      let x = step_hand net place content choice n how family e in
      let sid = keeps.sid n x.sid x.is_there in
      let table : HasTable how = subst HasTable (sym x.goes_on) (exposed_table n x.sid.behaviour sid.behaviour.table) in
      subst (λ (s : Option SidEntry). IsLineOf net lines.Stage (hand_text (prefix_of_sid s) how family (hex_text (bytes_of gave.after))))
      (sym x.is_there) (hand_line net x.sid.prefix how family (bytes_of gave.after) sid.prefix table after_bytes)
  outcome_line (outcomes.Send link) e =
      let stage = stage_step net place content choice keeps is in
      let there = numbered net place content gave.outcome gave.after gave.error choice keeps is stage refl in
      send_line net (name_of_link (slice_get net.links link)) (bytes_of gave.after)
      (link_named net link (slice_get net.links link) keeps refl (subst (IsNumbered net) e there)) after_bytes
  outcome_line outcomes.Local e = local_line net
  outcome_line (outcomes.Drop reason told) e =
      drop_line net reason (error_bytes gave.error) (step_bytes net place content choice fits)

  pub stage_line_is : IsLineOf net lines.Stage (stage_text net gave)
  stage_line_is = outcome_line gave.outcome refl
