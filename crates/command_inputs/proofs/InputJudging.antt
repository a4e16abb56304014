-- What files and the input give, as they were judged.
use Rattle.std.proofs.Common.{◌≡◌, inl, inr, ◌∙◌, ℕ, ◌<◌, ◌≤◌, Bool, true, false, if◌then◌else◌, List, [], ◌∷◌, length, nat_lt, Option, None, Some, IfSome, Result, Ok, Err, refl, sym, ap, subst, rules}
use Rattle.std.proofs.lemmas.Bool.{le-ltb}
use Rattle.std.specs.Prelude.{IsSomeAnd}
use Rattle.srx_edge.specs.Edge.{file_named}
use Rattle.srx_edge.specs.FilesRead.{FilesSeen, asked_for}
use Rattle.srx_edge.specs.Sources.{SourceSeen, drained}
use Rattle.srx_edge.specs.SourcesTerms.{Draws}
use Rattle.srx_edge.specs.declared.input.DrawFault.{DrawFault}
use Rattle.srx_edge.specs.declared.input.DrawFault.TheVariants as draws
use Rattle.pcap_io.specs.declared.fault.CaptureFault.{CaptureFault}
use Rattle.pcap_io.specs.declared.fault.CaptureFault.TheVariants as captures
use Rattle.pcap_io.specs.declared.capture_head.CaptureHead.{CaptureHead}
use Rattle.pcap_io.specs.Head.{head_of}
use Rattle.net_model.specs.Network.{Network}
use Rattle.net_model.specs.NetworkRulesTerms.{IsNetwork}
use Rattle.text_faults.specs.declared.fault.TextFault.{TextFault}
use Rattle.text_faults.specs.declared.fault.OrNoMemory.{OrNoMemory}
use Rattle.text_faults.specs.declared.fault.OrNoMemory.TheVariants as reads
use Rattle.text_faults.specs.TextReading.{Gives}
use Rattle.net_reader.specs.NetworkReading.{net_in}
use Rattle.intent_reader.specs.declared.intent.Intent.{Intent}
use Rattle.intent_reader.specs.declared.fault.IntentFault.{IntentFault}
use Rattle.intent_reader.specs.IntentJudging.{intent_of_text}
use Rattle.command_output.specs.declared.limits.TheConstants.{MAX_INPUT_BYTES}
use Rattle.net_model.specs.declared.limits.TheConstants.{MAX_TEXT_BYTES}
use Rattle.command_inputs.specs.declared.input_packets.Packets.{Packets}
use Rattle.command_inputs.specs.declared.input_packets.Packets.TheVariants.{Bare, Capture}
use Rattle.command_output.specs.declared.halt.Failure.TheVariants as failures
use Rattle.command_output.specs.declared.halt.Halt.{Halt}
use Rattle.command_output.specs.declared.halt.Halt.TheVariants as halts
use Rattle.command_output.specs.declared.refusal.Refusal.{Refusal}
use Rattle.command_output.specs.declared.refusal.Refusal.TheVariants as refusals
use Rattle.command_output.specs.CommandAnswers.{JudgesFile, JudgesText, JudgesInput}
use Rattle.command_output.specs.HaltsTerms.{halt_of_net, halt_of_intent, halt_of_draw, halt_of_refusal}
use Rattle.command_inputs.specs.Judgements.{network_by, network_in, intent_by, intent_in, intents_in}
use Rattle.command_output.specs.Outside.{ReadsToEnd}
use Rattle.command_output.specs.OutsideTerms.{AsksForFront}
use Rattle.command_inputs.specs.InputPackets.{capture_by, ng_in, packets_in, is_bare}

-- what is told of a text that was read is told of the judgement of it
pub judged_text : {A : Type 0} (judge : List ℕ → Result A Refusal) (judged : Result A Refusal) (text name : List ℕ)
    (told : Option (List (List ℕ × List ℕ)))
    → IfSome told (λ files. file_named files name ≡ Some text) → judge text ≡ judged
    → IfSome told (λ held. IsSomeAnd (file_named held name) (λ t. judge t ≡ judged))
judged_text judge judged text name None reads is = tt
judged_text judge judged text name (Some held) reads is =
    subst (λ (o : Option (List ℕ)). IsSomeAnd o (λ t. judge t ≡ judged)) (sym reads) is

pub asks_one : (name : List ℕ) (old new : FilesSeen) → new ≡ asked_for name old → AsksForFront (name ∷ []) old new
asks_one name old new seen = record { names = name ∷ []; front = record { rest = []; whole = refl }; seen = seen }

-- a text within the limit that was read as the description of a network, or has a fault

net_small : (text : List ℕ) (read : Result Network TextFault) → length text ≤ MAX_TEXT_BYTES → net_in text ≡ read
    → network_in text ≡ network_by read
net_small text read fits is =
    let small : nat_lt MAX_TEXT_BYTES (length text) ≡ false = le-ltb MAX_TEXT_BYTES (length text) fits in
    rw small (ap network_by is)

pub network_judged : (net : Network) (text : List ℕ) → length text ≤ MAX_TEXT_BYTES → Gives (λ n. n) (Ok net) (net_in text)
    → JudgesText network_in text (Ok net)
network_judged net text fits h = net_small text (Ok net) fits h

pub network_refused : (why : OrNoMemory TextFault) (text : List ℕ) → length text ≤ MAX_TEXT_BYTES
    → Gives (λ (n : Network). n) (Err why) (net_in text)
    → JudgesText network_in text (Err (halt_of_net why))
network_refused (reads.Fault fault) text fits h = net_small text (Err fault) fits (h fault refl)
network_refused reads.NoMemory text fits h = tt

pub network_too_big : (text : List ℕ) → MAX_TEXT_BYTES < length text
    → JudgesText network_in text (Err (halts.Refused (refusals.TooBig MAX_TEXT_BYTES)))
network_too_big text more = let many : nat_lt MAX_TEXT_BYTES (length text) ≡ true = search rules in rw many refl

-- a text gives a network that keeps the rules
abbrev pub RulesAreKept : Type 0
RulesAreKept = (text : List ℕ) (net : Network) → net_in text ≡ Ok net → IsNetwork net

pub rules_kept : RulesAreKept → (text : List ℕ) (net : Network) → network_in text ≡ Ok net → IsNetwork net
rules_kept rules text net is = by (nat_lt MAX_TEXT_BYTES (length text)) (net_in text) refl is
  where
    by : (big : Bool) (read : Result Network TextFault) → net_in text ≡ read
        → (if big then Err (refusals.TooBig MAX_TEXT_BYTES) else network_by read) ≡ Ok net → IsNetwork net
    by true read e h = absurd (cc)
    by false (Ok n) e h = let same : n ≡ net = cc in rules text net (e ∙ ap Ok same)
    by false (Err fault) e h = absurd (cc)

-- the same of an intent

intent_small : (net : Network) (text : List ℕ) (read : Result Intent IntentFault) → length text ≤ MAX_TEXT_BYTES
    → intent_of_text net text ≡ read
    → intent_in net text ≡ intent_by read
intent_small net text read fits is =
    let small : nat_lt MAX_TEXT_BYTES (length text) ≡ false = le-ltb MAX_TEXT_BYTES (length text) fits in
    rw small (ap intent_by is)

pub intent_judged : (net : Network) (intent : Intent) (text : List ℕ) → length text ≤ MAX_TEXT_BYTES
    → Gives (λ i. i) (Ok intent) (intent_of_text net text) → JudgesText (intent_in net) text (Ok intent)
intent_judged net intent text fits h = intent_small net text (Ok intent) fits h

pub intent_refused : (net : Network) (why : OrNoMemory IntentFault) (text : List ℕ) → length text ≤ MAX_TEXT_BYTES
    → Gives (λ (i : Intent). i) (Err why) (intent_of_text net text)
    → JudgesText (intent_in net) text (Err (halt_of_intent why))
intent_refused net (reads.Fault fault) text fits h = intent_small net text (Err fault) fits (h fault refl)
intent_refused net reads.NoMemory text fits h = tt

pub intent_too_big : (net : Network) (text : List ℕ) → MAX_TEXT_BYTES < length text
    → JudgesText (intent_in net) text (Err (halts.Refused (refusals.TooBig MAX_TEXT_BYTES)))
intent_too_big net text more = let many : nat_lt MAX_TEXT_BYTES (length text) ≡ true = search rules in rw many refl

pub ruleset texts = (network_judged, network_refused, network_too_big, intent_judged, intent_refused, intent_too_big)

-- an intent in both networks

pub both_judged : (old new : Network) (text : List ℕ) (before after : Intent) → JudgesText (intent_in old) text (Ok before)
    → JudgesText (intent_in new) text (Ok after)
    → JudgesText (intents_in old new) text (Ok (record { before = before; after = after }))
both_judged old new text before after one other = rw (one, other) refl

pub both_refused_old : (old new : Network) (text : List ℕ) (halt : Halt) → JudgesText (intent_in old) text (Err halt)
    → JudgesText (intents_in old new) text (Err halt)
both_refused_old old new text (halts.Refused refusal) one = rw one refl
both_refused_old old new text (halts.Failed failures.Fault) one = one
both_refused_old old new text (halts.Failed failures.NoMemory) one = tt

pub both_refused_new : (old new : Network) (text : List ℕ) (before : Intent) (halt : Halt) → JudgesText (intent_in old) text (Ok before)
    → JudgesText (intent_in new) text (Err halt) → JudgesText (intents_in old new) text (Err halt)
both_refused_new old new text before (halts.Refused refusal) one other = rw (one, other) refl
both_refused_new old new text before (halts.Failed failures.Fault) one other = other
both_refused_new old new text before (halts.Failed failures.NoMemory) one other = tt

pub ruleset boths = (both_judged, both_refused_old, both_refused_new)

-- a text that was read from a file, as it was judged
pub judged_file : {A : Type 0} (judge : List ℕ → Result A Refusal) (judged : Result A Halt) (text name : List ℕ) (old new : FilesSeen)
    → IfSome old.told (λ files. file_named files name ≡ Some text) → new ≡ asked_for name old → JudgesText judge text judged
    → JudgesFile judge name judged old new
judged_file judge (Ok a) text name old new reads seen is = (judged_text judge (Ok a) text name old.told reads is, seen)
judged_file judge (Err (halts.Refused refusal)) text name old new reads seen is =
    (judged_text judge (Err refusal) text name old.told reads is, seen)
judged_file judge (Err (halts.Failed failures.Fault)) text name old new reads seen none = absurd none
judged_file judge (Err (halts.Failed failures.NoMemory)) text name old new reads seen is = asks_one name old new seen

pub ruleset files = (judged_file)

-- what the input is

pub packets_in_bare : (input : List ℕ) → length input ≤ MAX_INPUT_BYTES → is_bare input ≡ true → packets_in input ≡ Ok (Bare input)
packets_in_bare input h bare =
    let small : nat_lt MAX_INPUT_BYTES (length input) ≡ false = le-ltb MAX_INPUT_BYTES (length input) h in
    rw (small, bare) refl

pub packets_in_capture : (input : List ℕ) (head : CaptureHead) → length input ≤ MAX_INPUT_BYTES → is_bare input ≡ false
    → Ok head ≡ head_of input
    → packets_in input ≡ Ok (Capture head input)
packets_in_capture input head h bare is =
    let small : nat_lt MAX_INPUT_BYTES (length input) ≡ false = le-ltb MAX_INPUT_BYTES (length input) h in
    rw (small, bare, ← is) refl

pub packets_in_ng : (input : List ℕ) (read : Result Packets Refusal) → length input ≤ MAX_INPUT_BYTES → is_bare input ≡ false
    → Err captures.PcapNg ≡ head_of input → read ≡ ng_in input
    → packets_in input ≡ read
packets_in_ng input read h bare is by =
    let small : nat_lt MAX_INPUT_BYTES (length input) ≡ false = le-ltb MAX_INPUT_BYTES (length input) h in
    rw (small, bare, ← is) (sym by)

capture_fault : (fault : CaptureFault) (input : List ℕ) → (fault ≡ captures.PcapNg → ⊥)
    → capture_by (Err fault) input ≡ Err (refusals.Capture fault)
capture_fault captures.PcapNg input not = absurd (not refl)
capture_fault captures.CutHead input not = refl
capture_fault captures.BadMagic input not = refl
capture_fault captures.BadVersion input not = refl
capture_fault (captures.BadLink link) input not = refl
capture_fault captures.FrameLimit input not = refl

pub packets_in_fault : (input : List ℕ) (fault : CaptureFault) → length input ≤ MAX_INPUT_BYTES → is_bare input ≡ false
    → Err fault ≡ head_of input → (fault ≡ captures.PcapNg → ⊥)
    → packets_in input ≡ Err (refusals.Capture fault)
packets_in_fault input fault h bare is not =
    let small : nat_lt MAX_INPUT_BYTES (length input) ≡ false = le-ltb MAX_INPUT_BYTES (length input) h in
    rw (small, bare, ← is) (capture_fault fault input not)

pub ruleset contents = (packets_in_bare, packets_in_capture, packets_in_ng, packets_in_fault)

-- what was drawn is what was left
drawn : (judged : Result Packets Refusal) (bytes : List ℕ) (left : Option (List ℕ)) → IfSome left (λ input. bytes ≡ input)
    → packets_in bytes ≡ judged
    → IfSome left (λ input. packets_in input ≡ judged)
drawn judged bytes None all is = tt
drawn judged bytes (Some input) all is = subst (λ (b : List ℕ). packets_in b ≡ judged) all is

drawn_fits : (bytes : List ℕ) (left : Option (List ℕ)) → length bytes ≤ MAX_INPUT_BYTES → IfSome left (λ input. bytes ≡ input)
    → IfSome left (λ input. length input ≤ MAX_INPUT_BYTES)
drawn_fits bytes None fits all = tt
drawn_fits bytes (Some input) fits all = subst (λ (b : List ℕ). length b ≤ MAX_INPUT_BYTES) all fits

to_end : (bytes : List ℕ) (old new : SourceSeen) → length bytes ≤ MAX_INPUT_BYTES → IfSome old.left (λ input. bytes ≡ input)
    → new ≡ drained old → ReadsToEnd old new
to_end bytes old new fits all seen = (drawn_fits bytes old.left fits all, seen)

pub packets_judged : (packets : Packets) (bytes : List ℕ) (old new : SourceSeen) → length bytes ≤ MAX_INPUT_BYTES
    → IfSome old.left (λ input. bytes ≡ input) → new ≡ drained old
    → packets_in bytes ≡ Ok packets → JudgesInput packets_in (Ok packets) old new
packets_judged packets bytes old new fits all seen is = (drawn (Ok packets) bytes old.left all is, to_end bytes old new fits all seen)

pub packets_refused : (refusal : Refusal) (bytes : List ℕ) (old new : SourceSeen) → length bytes ≤ MAX_INPUT_BYTES
    → IfSome old.left (λ input. bytes ≡ input) → new ≡ drained old
    → packets_in bytes ≡ Err refusal → JudgesInput packets_in (Err (halt_of_refusal refusal)) old new
packets_refused refusal bytes old new fits all seen is =
    (drawn (Err refusal) bytes old.left all is, inl (to_end bytes old new fits all seen))

too_much : (left : Option (List ℕ)) → IfSome left (λ input. MAX_INPUT_BYTES < length input)
    → IfSome left (λ input. packets_in input ≡ Err (refusals.TooBig MAX_INPUT_BYTES))
too_much None more = tt
too_much (Some input) more = let many : nat_lt MAX_INPUT_BYTES (length input) ≡ true = search rules in rw many refl

pub input_not_drawn : (fault : DrawFault) (old new : SourceSeen) → Draws MAX_INPUT_BYTES (Err fault) old new
    → JudgesInput packets_in (Err (halt_of_draw fault)) old new
input_not_drawn draws.Failed old new h = h
input_not_drawn (draws.TooBig most) old new h =
    subst (λ (n : ℕ). JudgesInput packets_in (Err (halt_of_draw (draws.TooBig n))) old new) (sym h.0)
    (too_much old.left h.1, inr (h.1, h.2))
input_not_drawn draws.NoMemory old new h = h

pub ruleset inputs = (packets_judged, packets_refused, input_not_drawn)
