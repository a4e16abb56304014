-- The judgements of files and words: what each gives, or its refusal.
use Rattle.std.specs.Prelude.{ℕ, nat_lt, if◌then◌else◌, List, length, Option, Some, None, Result, Ok, Err, Bool, false, is_ok, [], ◌∷◌}
use Rattle.text_faults.specs.declared.fault.TextFault.{TextFault}
use Rattle.net_model.specs.Network.{Network}
use Rattle.net_model.specs.Named.{node_numbered}
use Rattle.net_reader.specs.NetworkReading.{net_in}
use Rattle.intent_reader.specs.declared.intent.Intent.{Intent}
use Rattle.intent_reader.specs.declared.fault.IntentFault.{IntentFault}
use Rattle.intent_reader.specs.IntentJudging.{intent_of_text}
use Rattle.list_pack.specs.LegsValue.{LegsValue}
use Rattle.list_certificate.specs.declared.certificate_types.Cert.{Cert}
use Rattle.list_certificate.specs.CertificateReading.{read_of}
use Rattle.trace_replay.specs.TraceReading.{bad_line, lines_of}
use Rattle.net_model.specs.declared.limits.TheConstants.{MAX_TEXT_BYTES}
use Rattle.command_inputs.specs.declared.file_judge.BothIntents.{BothIntents}
use Rattle.command_output.specs.declared.refusal.Refusal.{Refusal}
use Rattle.command_output.specs.declared.refusal.Refusal.TheVariants as refusals

-- a fault as the refusal that tells it
abbrev pub refused_as : {A F : Type 0} → (F → Refusal) → Result A F → Result A Refusal
refused_as refusal (Ok a) = Ok a
refused_as refusal (Err fault) = Err (refusal fault)

-- the network of a description, or its first fault

abbrev pub network_by : Result Network TextFault → Result Network Refusal
network_by read = refused_as (λ fault. refusals.Net fault) read

abbrev pub network_in : List ℕ → Result Network Refusal
network_in text = if nat_lt MAX_TEXT_BYTES (length text) then Err (refusals.TooBig MAX_TEXT_BYTES) else network_by (net_in text)

-- a file after the description is asked for where the description gives a network
abbrev pub asks_behind_network : List (List ℕ) → Bool
asks_behind_network [] = false
asks_behind_network (text ∷ more) = is_ok (network_in text)

-- the number of the node of a name

abbrev pub node_or : Option ℕ → Result ℕ Refusal
node_or None = Err refusals.BadNode
node_or (Some node) = Ok node

abbrev pub node_in : Network → List ℕ → Result ℕ Refusal
node_in net name = node_or (node_numbered name net.nodes)

-- the intent that a text gives in a network, or its first fault

abbrev pub intent_by : Result Intent IntentFault → Result Intent Refusal
intent_by read = refused_as (λ fault. refusals.Intent fault) read

abbrev pub intent_in : Network → List ℕ → Result Intent Refusal
intent_in net text =
    if nat_lt MAX_TEXT_BYTES (length text) then Err (refusals.TooBig MAX_TEXT_BYTES) else intent_by (intent_of_text net text)

-- the intent that a text gives in an old network, and then in a new one, or the first fault

abbrev pub both_by : Intent → Result Intent Refusal → Result BothIntents Refusal
both_by before (Ok after) = Ok (record { before = before; after = after })
both_by before (Err refusal) = Err refusal

abbrev pub both_behind : Result Intent Refusal → Result Intent Refusal → Result BothIntents Refusal
both_behind (Ok before) after = both_by before after
both_behind (Err refusal) after = Err refusal

abbrev pub intents_in : Network → Network → List ℕ → Result BothIntents Refusal
intents_in old new text = both_behind (intent_in old text) (intent_in new text)

-- the certificate that a text spells for legs in a network, or its first bad line

abbrev pub cert_by : Result Cert ℕ → Result Cert Refusal
cert_by read = refused_as (λ line. refusals.BadCert line) read

abbrev pub cert_in : Network → LegsValue → List ℕ → Result Cert Refusal
cert_in net legs text =
    if nat_lt MAX_TEXT_BYTES (length text) then Err (refusals.TooBig MAX_TEXT_BYTES) else cert_by (read_of net legs text)

-- the lines of the trace that a text is for a network, or its first bad line

abbrev pub trace_by : List ℕ → Option ℕ → Result (List (List ℕ)) Refusal
trace_by text None = Ok (lines_of text)
trace_by text (Some line) = Err (refusals.BadTrace line)

abbrev pub trace_in : Network → List ℕ → Result (List (List ℕ)) Refusal
trace_in net text =
    if nat_lt MAX_TEXT_BYTES (length text) then Err (refusals.TooBig MAX_TEXT_BYTES) else trace_by text (bad_line net text)
