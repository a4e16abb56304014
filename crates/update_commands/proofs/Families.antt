-- The intent of a text has one family of inner packets, whatever the network is.
use Rattle.std.proofs.Common.{◌≡◌, ℕ, nat_lt, Bool, true, false, if◌then◌else◌, List, length, Result, Ok, Err, refl, sym, ap, ◌∙◌}
use Rattle.net_model.specs.Network.{Network}
use Rattle.net_model.specs.Named.{node_numbered}
use Rattle.toml_reader.specs.TomlReading.{◌>>=◌, or_fault}
use Rattle.net_syntax.specs.IntentText.{intent_in as words_in}
use Rattle.net_syntax.specs.declared.intent_table.DescribedIntent.{DescribedIntent}
use Rattle.intent_reader.specs.declared.intent.Intent.{Intent}
use Rattle.intent_reader.specs.declared.fault.IntentFault.{IntentFault}
use Rattle.intent_reader.specs.declared.fault.IntentFault.TheVariants as faults
use Rattle.intent_reader.specs.declared.fault.StepFault.TheVariants as kinds
use Rattle.intent_reader.specs.IntentReading.{of_text}
use Rattle.intent_reader.specs.IntentRules.{ends_in_function, is_within_loose_limit}
use Rattle.intent_reader.specs.IntentJudging.{intent_with, intent_of_text, judged, steps_from}
use Rattle.intent_reader.proofs.PublicLaws.{Holds, after, tested, tested_on}
use Rattle.command_output.specs.declared.refusal.Refusal.{Refusal}
use Rattle.net_model.specs.declared.limits.TheConstants.{MAX_TEXT_BYTES}
use Rattle.command_output.specs.declared.refusal.Refusal.TheVariants as refusals
use Rattle.command_inputs.specs.declared.file_judge.BothIntents.{BothIntents}
use Rattle.command_inputs.specs.Judgements.{both_behind, intent_by, intent_in, intents_in}

-- what a text says has a family, which the intent has in each network
judged_family : (net : Network) (d : DescribedIntent) → Holds (λ (i : Intent). i.inner ≡ d.inner) (judged net d)
judged_family net d =
    let fact = λ (i : Intent). i.inner ≡ d.inner in
    after fact (or_fault (faults.AtStep 0 kinds.UnknownName) (node_numbered d.headend net.nodes)) _ (λ headend e.
    after fact (steps_from net 1 headend d.steps) _ (λ steps f.
    tested_on fact (ends_in_function steps) _ faults.NotFunctionLast (λ last.
    tested fact (is_within_loose_limit net steps) (intent_with d headend steps) faults.LooseLimit (λ few. refl))))

-- what the text says, with its family
record Says (text : List ℕ) (i : Intent) : Type 0 where
  words : DescribedIntent
  says : of_text (words_in text) ≡ Ok words
  family : i.inner ≡ words.inner

module _ (net : Network) (text : List ℕ) (i : Intent) where
  by_words : (r : Result DescribedIntent IntentFault) → of_text (words_in text) ≡ r → ◌>>=◌ r (judged net) ≡ Ok i → Says text i
  by_words (Ok d) e h = record { words = d; says = e; family = (judged_family net d).given i h }
  by_words (Err fault) e h = absurd (let no : ◌≡◌ {A = Result Intent IntentFault} (Err fault) (Ok i) = h in cc)

  by_read : (r : Result Intent IntentFault) → intent_by r ≡ Ok i → r ≡ Ok i
  by_read (Ok x) h = let given : ◌≡◌ {A = Result Intent Refusal} (Ok x) (Ok i) = h in let same : x ≡ i = cc in ap Ok same
  by_read (Err fault) h = absurd (let no : ◌≡◌ {A = Result Intent Refusal} (Err (refusals.Intent fault)) (Ok i) = h in cc)

  by_size : (b : Bool) → (if b then Err (refusals.TooBig MAX_TEXT_BYTES) else intent_by (intent_of_text net text)) ≡ Ok i → Says text i
  by_size true h = absurd (let no : ◌≡◌ {A = Result Intent Refusal} (Err (refusals.TooBig MAX_TEXT_BYTES)) (Ok i) = h in cc)
  by_size false h = by_words (of_text (words_in text)) refl (by_read (intent_of_text net text) h)

  says_of : intent_in net text ≡ Ok i → Says text i
  says_of h = by_size (nat_lt MAX_TEXT_BYTES (length text)) h

module _ (both : BothIntents) where
  record Each (r s : Result Intent Refusal) : Type 0 where
    old : r ≡ Ok both.before
    new : s ≡ Ok both.after

  by_both : (r s : Result Intent Refusal) → both_behind r s ≡ Ok both → Each r s
  by_both (Ok before) (Ok after) h =
      let given : ◌≡◌ {A = Result BothIntents Refusal} (Ok (record { before = before; after = after })) (Ok both) = h in
      let same : ◌≡◌ {A = BothIntents} (record { before = before; after = after }) both = cc in
      record { old = ap (λ (b : BothIntents). Ok b.before) same; new = ap (λ (b : BothIntents). Ok b.after) same }
  by_both (Ok before) (Err refusal) h = absurd (let no : ◌≡◌ {A = Result BothIntents Refusal} (Err refusal) (Ok both) = h in cc)
  by_both (Err refusal) s h = absurd (let no : ◌≡◌ {A = Result BothIntents Refusal} (Err refusal) (Ok both) = h in cc)

pub one_family : (old new : Network) (text : List ℕ) (both : BothIntents) → intents_in old new text ≡ Ok both
    → both.before.inner ≡ both.after.inner
one_family old new text both h =
    let each = by_both both (intent_in old text) (intent_in new text) h in
    let first = says_of old text both.before each.old in
    let second = says_of new text both.after each.new in
    let says : ◌≡◌ {A = Result DescribedIntent IntentFault} (Ok first.words) (Ok second.words) = sym first.says ∙ second.says in
    let same : first.words ≡ second.words = cc in
    first.family ∙ ap (λ (d : DescribedIntent). d.inner) same ∙ sym second.family
