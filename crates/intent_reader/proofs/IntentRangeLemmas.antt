-- What an intent's text says is in its ranges.
use Rattle.std.proofs.Common.{◌≡◌, ℕ, suc, ℤ, ◌≤◌, List, [], ◌∷◌, length, Option, Some, None, refl, sym, ap, subst, arith}
use Rattle.std.specs.Prelude.{pos, negsuc, Result, Ok}
use Rattle.std.proofs.lemmas.Bool.{and_parts, leb-true}
use Rattle.toml.specs.Data.{Data, Members, get_member}
use Rattle.net_model.specs.declared.limits.TheConstants.{LAST_OCTET, LAST_FLOW_LABEL, DEFAULT_HOP_LIMIT}
use Rattle.text_faults.specs.declared.text_place.FaultPlace.{FaultPlace}
use Rattle.text_faults.specs.declared.text_place.Key.{Key}
use Rattle.text_faults.specs.declared.text_place.Key.TheVariants as keys
use Rattle.text_faults.specs.declared.text_place.TableKind.{TableKind}
use Rattle.text_faults.specs.declared.text_place.TableKind.TheVariants as tables
use Rattle.text_faults.specs.declared.fault.TextFault.{TextFault}
use Rattle.text_faults.specs.declared.fault_kind.FaultKind.TheVariants as kinds
use Rattle.text_faults.specs.TextFaults.{fault_at}
use Rattle.text_faults.specs.Keys.{key_text}
use Rattle.toml_reader.specs.TomlReading.{or_fault, document_of}
use Rattle.toml_reader.specs.Tree.{integer_in, number_within, number_in, name_in, addr_in, word_in, needed, or_default, optional, only, count_in, few, each_from, tables_in, items_at}
use Rattle.net_syntax.specs.declared.limits.TheConstants.{MAX_STEPS, MAX_CONTAINERS, DEFAULT_CONTAINERS}
use Rattle.net_syntax.specs.declared.step_table.DescribedStep.{DescribedStep}
use Rattle.net_syntax.specs.declared.intent_table.DescribedIntent.{DescribedIntent}
use Rattle.net_syntax.specs.declared.intent_table.Prefer.TheVariants as prefers
use Rattle.net_syntax.specs.TextWords.{family_of, mode_of, prefer_of}
use Rattle.net_syntax.specs.IntentText.{step_of, steps_at, intent_place, intent_of, intent_in}
use Rattle.intent_reader.specs.Described.{InRange}
use Rattle.intent_reader.proofs.GivenLemmas.{Holds, of_fault, of_value, after, tested}

-- ---- numbers

abbrev IsWithin : ℕ → ℕ → ℕ → Type 0
IsWithin least most n = (least ≤ n) × (n ≤ most)

within_tests : (least most : ℕ) (p : FaultPlace) (k : Key) (z : ℤ) → Holds (IsWithin least most) (number_within p k least most z)
within_tests least most p k (pos n) = tested (IsWithin least most) _ n _ (λ h.
    let parts = and_parts _ _ h in (leb-true _ _ parts.0, leb-true _ _ parts.1))
within_tests least most p k (negsuc n) = of_fault (IsWithin least most) _

number_holds : (least most : ℕ) (p : FaultPlace) (k : Key) (d : Data) → Holds (IsWithin least most) (number_in least most p k d)
number_holds least most p k d = after (IsWithin least most) (integer_in p d) _ (λ z e. within_tests least most p k z)

default_holds : (least most default : ℕ) → IsWithin least most default → (p : FaultPlace) (k : Key) (o : Option Data)
    → Holds (IsWithin least most) (or_default (number_in least most) default p k o)
default_holds least most default is p k None = of_value (IsWithin least most) default is
default_holds least most default is p k (Some d) = number_holds least most p k d

optional_holds : (least most default : ℕ) → IsWithin least most default → (p : FaultPlace) (t : Members) (k : Key)
    → Holds (IsWithin least most) (optional (number_in least most) default p t k)
optional_holds least most default is p t k = default_holds least most default is p k (get_member (key_text k) t)

-- ---- counts

each_count : {X Y : Type 0} (read : ℕ → X → Result Y TextFault) (n : ℕ) (xs : List X)
    → Holds (λ ys. length ys ≡ length xs) (each_from read n xs)
each_count read n [] = of_value (λ ys. length ys ≡ 0) [] refl
each_count read n (x ∷ xs) =
    after (λ ys. length ys ≡ suc (length xs)) (read n x) _ (λ y e.
    after (λ ys. length ys ≡ suc (length xs)) (each_from read (suc n) xs) _ (λ ys f.
    of_value (λ zs. length zs ≡ suc (length xs)) (y ∷ ys) (ap suc ((each_count read (suc n) xs).given ys f))))

count_holds : (p : FaultPlace) (k : Key) (most count : ℕ) → Holds (λ n. count ≤ most) (count_in p k most count)
count_holds p k most count = tested (λ n. count ≤ most) _ count _ (λ h. leb-true _ _ h)

few_holds : {X : Type 0} (p : FaultPlace) (k : Key) (most : ℕ) (xs : List X) → Holds (λ ys. length ys ≤ most) (few p k most xs)
few_holds p k most xs = after (λ ys. length ys ≤ most) (count_in p k most (length xs)) _ (λ n e.
    of_value (λ ys. length ys ≤ most) xs ((count_holds p k most (length xs)).given n e))

items_hold : {X : Type 0} (kind : TableKind) (k : Key) (most : ℕ) (read : FaultPlace → Members → Result X TextFault) (root : Members)
    → Holds (λ ys. length ys ≤ most) (items_at kind k most read root)
items_hold kind k most read root =
    let p : FaultPlace = record { table = kind; item = 0 } in
    after (λ ys. length ys ≤ most) (optional tables_in [] p root k) _ (λ all e.
    after (λ ys. length ys ≤ most) (few p k most all) _ (λ ts f.
    record {
      given = λ ys g.
          subst (λ n. n ≤ most) (sym ((each_count (λ n. read (record { table = kind; item = n })) 1 ts).given ys g))
          ((few_holds p k most all).given ts f);
    }))

-- some steps, and not too many
abbrev IsSteps : List DescribedStep → Type 0
IsSteps steps = (1 ≤ length steps) × (length steps ≤ MAX_STEPS)

steps_hold : (root : Members) → Holds IsSteps (steps_at root)
steps_hold root =
    after IsSteps (or_fault (fault_at intent_place (kinds.MissingKey keys.Step)) (get_member (key_text keys.Step) root)) _ (λ here e.
    after IsSteps (items_at tables.Step keys.Step MAX_STEPS step_of root) _ (λ all f.
    tested IsSteps _ all _ (λ h. (leb-true _ _ h, (items_hold tables.Step keys.Step MAX_STEPS step_of root).given all f))))

-- ---- the whole

hops_hold : (known : Members) → Holds (IsWithin 1 LAST_OCTET)
    (optional (number_in 1 LAST_OCTET) DEFAULT_HOP_LIMIT intent_place known keys.HopLimit)
hops_hold known = optional_holds 1 LAST_OCTET DEFAULT_HOP_LIMIT (omega arith, omega arith) intent_place known keys.HopLimit

containers_hold : (known : Members) → Holds (IsWithin 1 MAX_CONTAINERS)
    (optional (number_in 1 MAX_CONTAINERS) DEFAULT_CONTAINERS intent_place known keys.MaxContainers)
containers_hold known =
    optional_holds 1 MAX_CONTAINERS DEFAULT_CONTAINERS (omega arith, omega arith) intent_place known keys.MaxContainers

label_holds : (known : Members) → Holds (IsWithin 0 LAST_FLOW_LABEL)
    (optional (number_in 0 LAST_FLOW_LABEL) 0 intent_place known keys.FlowLabel)
label_holds known = optional_holds 0 LAST_FLOW_LABEL 0 (omega arith, omega arith) intent_place known keys.FlowLabel

abbrev root_keys : List Key
root_keys =
    keys.Headend ∷ keys.Source ∷ keys.Inner ∷ keys.Mode ∷ keys.HopLimit ∷ keys.MaxContainers ∷ keys.TrafficClass ∷ keys.FlowLabel
    ∷ keys.Prefer ∷ keys.Step ∷ []

said_holds : (root : Members) → Holds InRange (intent_of root)
said_holds root =
    after InRange (only root_keys intent_place root) _ (λ known e.
    after InRange (needed name_in intent_place known keys.Headend) _ (λ headend h.
    after InRange (needed addr_in intent_place known keys.Source) _ (λ source s.
    after InRange (needed (word_in family_of) intent_place known keys.Inner) _ (λ inner i.
    after InRange (needed (word_in mode_of) intent_place known keys.Mode) _ (λ mode m.
    after InRange (optional (number_in 1 LAST_OCTET) DEFAULT_HOP_LIMIT intent_place known keys.HopLimit) _ (λ limit l.
    after InRange (optional (number_in 1 MAX_CONTAINERS) DEFAULT_CONTAINERS intent_place known keys.MaxContainers) _ (λ containers c.
    after InRange (optional (number_in 0 LAST_OCTET) 0 intent_place known keys.TrafficClass) _ (λ class t.
    after InRange (optional (number_in 0 LAST_FLOW_LABEL) 0 intent_place known keys.FlowLabel) _ (λ label f.
    after InRange (optional (word_in prefer_of) prefers.Need intent_place known keys.Prefer) _ (λ prefer w.
    after InRange (steps_at known) _ (λ all a.
    let d : DescribedIntent = record {
      headend = headend;
      source = source;
      inner = inner;
      mode = mode;
      hop_limit = limit;
      max_containers = containers;
      traffic_class = class;
      flow_label = label;
      prefer = prefer;
      steps = all;
    } in
    of_value InRange d (record {
      hop_limit = ((hops_hold known).given limit l).0;
      some_containers = ((containers_hold known).given containers c).0;
      most_containers = ((containers_hold known).given containers c).1;
      flow_label = ((label_holds known).given label f).1;
      some_steps = ((steps_hold known).given all a).0;
      most_steps = ((steps_hold known).given all a).1;
    }))))))))))))

pub said_in_range : (text : List ℕ) (d : DescribedIntent) → intent_in text ≡ Ok d → InRange d
said_in_range text d h = (after InRange (or_fault (fault_at intent_place kinds.NotToml) (document_of text)) _
    (λ root e. said_holds root)).given d h

pub ruleset ranges = (said_in_range)
