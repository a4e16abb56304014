-- The hop limit of an intent that a text gives is a byte.
use Rattle.std.proofs.Common.{◌≡◌, ℕ, ◌^◌, ◌<◌, ◌≤◌, ℤ, Bool, true, false, if◌then◌else◌, List, [], ◌∷◌, length, nat_lt, Option, Some, None, Result, Ok, Err, refl, ap, arith}
use Rattle.std.specs.Prelude.{pos, negsuc, nat_le, ◌&&◌}
use Rattle.std.proofs.lemmas.Bool.{and_parts, leb-true}
use Rattle.toml.specs.Data.{Data, Members, get_member}
use Rattle.text_faults.specs.declared.text_place.FaultPlace.{FaultPlace}
use Rattle.text_faults.specs.declared.text_place.Key.{Key}
use Rattle.text_faults.specs.declared.text_place.Key.TheVariants as keys
use Rattle.text_faults.specs.declared.fault.TextFault.{TextFault}
use Rattle.text_faults.specs.declared.fault_kind.FaultKind.TheVariants as kinds
use Rattle.text_faults.specs.TextFaults.{fault_at}
use Rattle.text_faults.specs.Keys.{key_text}
use Rattle.net_model.specs.Network.{Network}
use Rattle.net_model.specs.Named.{node_numbered}
use Rattle.net_model.specs.declared.limits.TheConstants.{DEFAULT_HOP_LIMIT, LAST_FLOW_LABEL, LAST_OCTET, MAX_TEXT_BYTES}
use Rattle.toml_reader.specs.TomlReading.{document_of, or_fault}
use Rattle.toml_reader.specs.Tree.{addr_in, integer_in, name_in, needed, number_in, number_within, only, optional, or_default, word_in}
use Rattle.net_syntax.specs.declared.limits.TheConstants.{DEFAULT_CONTAINERS, MAX_CONTAINERS}
use Rattle.net_syntax.specs.declared.intent_table.DescribedIntent.{DescribedIntent}
use Rattle.net_syntax.specs.declared.intent_table.Prefer.TheVariants as prefers
use Rattle.net_syntax.specs.TextWords.{family_of, mode_of, prefer_of}
use Rattle.net_syntax.specs.IntentText.{intent_in as words_in, intent_of, intent_place, steps_at}
use Rattle.intent_reader.specs.declared.intent.Intent.{Intent}
use Rattle.intent_reader.specs.declared.fault.IntentFault.{IntentFault}
use Rattle.intent_reader.specs.declared.fault.IntentFault.TheVariants as faults
use Rattle.intent_reader.specs.declared.fault.StepFault.TheVariants as steps
use Rattle.intent_reader.specs.IntentReading.{of_text}
use Rattle.intent_reader.specs.IntentRules.{ends_in_function, is_within_loose_limit}
use Rattle.intent_reader.specs.IntentJudging.{intent_of_text, intent_with, judged, steps_from}
use Rattle.intent_reader.proofs.PublicLaws.{Holds, after, tested, tested_on}
use Rattle.command_output.specs.declared.refusal.Refusal.{Refusal}
use Rattle.command_output.specs.declared.refusal.Refusal.TheVariants as refusals
use Rattle.command_inputs.specs.Judgements.{intent_by, intent_in}

-- ---- what a text says

abbrev IsOctet : ℕ → Type 0
IsOctet n = n ≤ LAST_OCTET

octet_tested : (p : FaultPlace) (k : Key) (z : ℤ) → Holds IsOctet (number_within p k 1 LAST_OCTET z)
octet_tested p k (pos n) =
    tested IsOctet (nat_le 1 n && nat_le n LAST_OCTET) n (fault_at p (kinds.Limit k (pos n)))
    (λ h. leb-true n LAST_OCTET (and_parts (nat_le 1 n) (nat_le n LAST_OCTET) h).1)
octet_tested p k (negsuc n) = tested IsOctet false 0 (fault_at p (kinds.Limit k (negsuc n))) (λ h. absurd (cc))

octet_optional : (p : FaultPlace) (k : Key) (o : Option Data)
    → Holds IsOctet (or_default (number_in 1 LAST_OCTET) DEFAULT_HOP_LIMIT p k o)
octet_optional p k None = tested IsOctet true DEFAULT_HOP_LIMIT (fault_at p kinds.WrongKind) (λ h. omega arith)
octet_optional p k (Some d) = after IsOctet (integer_in p d) (number_within p k 1 LAST_OCTET) (λ z e. octet_tested p k z)

abbrev SaysOctet : DescribedIntent → Type 0
SaysOctet d = d.hop_limit ≤ LAST_OCTET

abbrev root_keys : List Key
root_keys =
    keys.Headend ∷ keys.Source ∷ keys.Inner ∷ keys.Mode ∷ keys.HopLimit ∷ keys.MaxContainers ∷ keys.TrafficClass ∷ keys.FlowLabel
    ∷ keys.Prefer ∷ keys.Step ∷ []

words_octet : (root : Members) → Holds SaysOctet (intent_of root)
words_octet root =
    after SaysOctet (only root_keys intent_place root) _ (λ known e.
    after SaysOctet (needed name_in intent_place known keys.Headend) _ (λ headend h.
    after SaysOctet (needed addr_in intent_place known keys.Source) _ (λ source s.
    after SaysOctet (needed (word_in family_of) intent_place known keys.Inner) _ (λ inner i.
    after SaysOctet (needed (word_in mode_of) intent_place known keys.Mode) _ (λ mode m.
    after SaysOctet (optional (number_in 1 LAST_OCTET) DEFAULT_HOP_LIMIT intent_place known keys.HopLimit) _ (λ limit l.
    after SaysOctet (optional (number_in 1 MAX_CONTAINERS) DEFAULT_CONTAINERS intent_place known keys.MaxContainers) _ (λ containers c.
    after SaysOctet (optional (number_in 0 LAST_OCTET) 0 intent_place known keys.TrafficClass) _ (λ class t.
    after SaysOctet (optional (number_in 0 LAST_FLOW_LABEL) 0 intent_place known keys.FlowLabel) _ (λ label f.
    after SaysOctet (optional (word_in prefer_of) prefers.Need intent_place known keys.Prefer) _ (λ prefer w.
    after SaysOctet (steps_at known) _ (λ all a.
    let d : DescribedIntent = record {
      headend = headend;
      source = source;
      inner = inner;
      mode = mode;
      hop_limit = limit;
      max_containers = containers;
      traffic_class = class;
      flow_label = label;
      prefer = prefer;
      steps = all;
    } in
    tested SaysOctet true d (fault_at intent_place kinds.NotToml)
    (λ h. (octet_optional intent_place keys.HopLimit (get_member (key_text keys.HopLimit) known)).given limit l))))))))))))

said_octet : (text : List ℕ) → Holds SaysOctet (words_in text)
said_octet text =
    after SaysOctet (or_fault (fault_at intent_place kinds.NotToml) (document_of text)) intent_of (λ root e. words_octet root)

text_octet : (text : List ℕ) (r : Result DescribedIntent TextFault) → words_in text ≡ r → Holds {F = IntentFault} SaysOctet (of_text r)
text_octet text (Ok d) e =
    tested SaysOctet true d (faults.AtStep 0 steps.UnknownName) (λ h. (said_octet text).given d e)
text_octet text (Err fault) e = record {
  given = λ d h. absurd (let no : ◌≡◌ {A = Result DescribedIntent IntentFault} (Err (faults.Text fault)) (Ok d) = h in cc);
}

-- ---- an intent over what a text says

judged_octet : (net : Network) (d : DescribedIntent) → SaysOctet d → Holds (λ (i : Intent). i.hop_limit ≤ LAST_OCTET) (judged net d)
judged_octet net d says =
    let fact = λ (i : Intent). i.hop_limit ≤ LAST_OCTET in
    after fact (or_fault (faults.AtStep 0 steps.UnknownName) (node_numbered d.headend net.nodes)) _ (λ headend e.
    after fact (steps_from net 1 headend d.steps) _ (λ all f.
    tested_on fact (ends_in_function all) _ faults.NotFunctionLast (λ last.
    tested fact (is_within_loose_limit net all) (intent_with d headend all) faults.LooseLimit (λ few. says))))

read_octet : (net : Network) (text : List ℕ) → Holds (λ (i : Intent). i.hop_limit ≤ LAST_OCTET) (intent_of_text net text)
read_octet net text =
    let fact = λ (i : Intent). i.hop_limit ≤ LAST_OCTET in
    after fact (of_text (words_in text)) (judged net) (λ d e. judged_octet net d ((text_octet text (words_in text) refl).given d e))

module _ (net : Network) (text : List ℕ) (i : Intent) where
  by_read : (r : Result Intent IntentFault) → intent_by r ≡ Ok i → r ≡ Ok i
  by_read (Ok x) h = let given : ◌≡◌ {A = Result Intent Refusal} (Ok x) (Ok i) = h in let same : x ≡ i = cc in ap Ok same
  by_read (Err fault) h = absurd (let no : ◌≡◌ {A = Result Intent Refusal} (Err (refusals.Intent fault)) (Ok i) = h in cc)

  by_size : (b : Bool) → (if b then Err (refusals.TooBig MAX_TEXT_BYTES) else intent_by (intent_of_text net text)) ≡ Ok i
      → i.hop_limit < 2 ^ 8
  by_size true h = absurd (let no : ◌≡◌ {A = Result Intent Refusal} (Err (refusals.TooBig MAX_TEXT_BYTES)) (Ok i) = h in cc)
  by_size false h = let octet = (read_octet net text).given i (by_read (intent_of_text net text) h) in omega (arith, octet)

  pub hop_limit_byte : intent_in net text ≡ Ok i → i.hop_limit < 2 ^ 8
  hop_limit_byte h = by_size (nat_lt MAX_TEXT_BYTES (length text)) h
