-- What the keys of a table give, from what their values give.
use Rattle.std.proofs.Common.{◌≡◌, ◌∙◌, ℕ, ◌≤◌, List, length, Option, Some, None, refl, ap}
use Rattle.std.specs.Prelude.{pos, nat_le, if◌then◌else◌, Result, Ok, Err}
use Rattle.std.proofs.lemmas.Bool.{le-leb}
use Rattle.toml.specs.Data.{Data, Members, get_member}
use Rattle.v6_addr.specs.Address.{PrefixValue}
use Rattle.text_faults.specs.declared.text_place.FaultPlace.{FaultPlace}
use Rattle.text_faults.specs.declared.text_place.Key.{Key}
use Rattle.text_faults.specs.declared.text_place.Key.TheVariants as keys
use Rattle.text_faults.specs.declared.fault.TextFault.{TextFault}
use Rattle.text_faults.specs.declared.fault_kind.FaultKind.TheVariants as kinds
use Rattle.text_faults.specs.TextFaults.{fault_at}
use Rattle.text_faults.specs.Keys.{key_text}
use Rattle.net_model.specs.declared.limits.TheConstants.{MAX_LINKS_OF_SET}
use Rattle.toml_reader.specs.TomlReading.{◌>>=◌, or_fault}
use Rattle.toml_reader.specs.Tree.{name_in, prefix_in, list_in, needed, or_default, optional}
use Rattle.net_syntax.specs.DescriptionText.{sid_prefix_in}
use Rattle.net_syntax.specs.IntentText.{some_of, links_at}

-- a key that may be absent gives what its value gives, or the default
pub optional_there : {X : Type 0} (kind : FaultPlace → Key → Data → Result X TextFault) (default : X) (p : FaultPlace) (t : Members)
    (k : Key) (d : Data) (r : Result X TextFault) → Some d ≡ get_member (key_text k) t → r ≡ kind p k d
    → r ≡ optional kind default p t k
optional_there kind default p t k d r there is = is ∙ ap (or_default kind default p k) there

pub optional_absent : {X : Type 0} (kind : FaultPlace → Key → Data → Result X TextFault) (default : X) (p : FaultPlace) (t : Members)
    (k : Key) → None ≡ get_member (key_text k) t → Ok default ≡ optional kind default p t k
optional_absent kind default p t k absent = ap (or_default kind default p k) absent

-- the prefix of a SID is a prefix that has a bit
abbrev with_bits : FaultPlace → Key → PrefixValue → Result PrefixValue TextFault
with_bits p k prefix = if nat_le 1 prefix.len then Ok prefix else Err (fault_at p (kinds.Limit k (pos prefix.len)))

sid_prefix_parts : (p : FaultPlace) (t : Members) (k : Key) → needed sid_prefix_in p t k ≡ ◌>>=◌ (needed prefix_in p t k) (with_bits p k)
sid_prefix_parts p t k = parts (get_member (key_text k) t)
  where
    parts : (o : Option Data) → ◌>>=◌ (or_fault (fault_at p (kinds.MissingKey k)) o) (λ d. sid_prefix_in p k d)
        ≡ ◌>>=◌ (◌>>=◌ (or_fault (fault_at p (kinds.MissingKey k)) o) (λ d. prefix_in p k d)) (with_bits p k)
    parts None = refl
    parts (Some d) = refl

pub sid_prefix_refused : (p : FaultPlace) (t : Members) (fault : TextFault) → needed prefix_in p t keys.Prefix ≡ Err fault
    → needed sid_prefix_in p t keys.Prefix ≡ Err fault
sid_prefix_refused p t fault refused =
    sid_prefix_parts p t keys.Prefix ∙ ap (λ r. ◌>>=◌ r (with_bits p keys.Prefix)) refused

pub sid_prefix_empty : (p : FaultPlace) (t : Members) (prefix : PrefixValue) (fault : TextFault)
    → needed prefix_in p t keys.Prefix ≡ Ok prefix → prefix.len ≡ 0 → fault_at p (kinds.Limit keys.Prefix (pos 0)) ≡ fault
    → needed sid_prefix_in p t keys.Prefix ≡ Err fault
sid_prefix_empty p t prefix fault given empty is =
    sid_prefix_parts p t keys.Prefix ∙ ap (λ r. ◌>>=◌ r (with_bits p keys.Prefix)) given
    ∙ ap (λ n. if nat_le 1 n then Ok prefix else Err (fault_at p (kinds.Limit keys.Prefix (pos n)))) empty ∙ ap Err is

pub sid_prefix_given : (p : FaultPlace) (t : Members) (prefix : PrefixValue) → needed prefix_in p t keys.Prefix ≡ Ok prefix
    → 1 ≤ prefix.len → needed sid_prefix_in p t keys.Prefix ≡ Ok prefix
sid_prefix_given p t prefix given some =
    sid_prefix_parts p t keys.Prefix ∙ ap (λ r. ◌>>=◌ r (with_bits p keys.Prefix)) given
    ∙ ap (λ b. if b then Ok prefix else Err (fault_at p (kinds.Limit keys.Prefix (pos prefix.len)))) (le-leb 1 prefix.len some)

-- the links of a step are those of a list that has a link
pub links_refused : (p : FaultPlace) (t : Members) (fault : TextFault)
    → needed (list_in MAX_LINKS_OF_SET name_in) p t keys.Links ≡ Err fault → links_at p t ≡ Err fault
links_refused p t fault refused = ap (λ r. ◌>>=◌ r (some_of p keys.Links)) refused

pub links_empty : (p : FaultPlace) (t : Members) (links : List (List ℕ)) (fault : TextFault)
    → needed (list_in MAX_LINKS_OF_SET name_in) p t keys.Links ≡ Ok links → length links ≡ 0
    → fault_at p (kinds.Limit keys.Links (pos 0)) ≡ fault → links_at p t ≡ Err fault
links_empty p t links fault given empty is =
    ap (λ r. ◌>>=◌ r (some_of p keys.Links)) given
    ∙ ap (λ n. if nat_le 1 n then Ok links else Err (fault_at p (kinds.Limit keys.Links (pos n)))) empty ∙ ap Err is

pub links_given : (p : FaultPlace) (t : Members) (links : List (List ℕ))
    → needed (list_in MAX_LINKS_OF_SET name_in) p t keys.Links ≡ Ok links → 1 ≤ length links → links_at p t ≡ Ok links
links_given p t links given some =
    ap (λ r. ◌>>=◌ r (some_of p keys.Links)) given
    ∙ ap (λ b. if b then Ok links else Err (fault_at p (kinds.Limit keys.Links (pos (length links))))) (le-leb 1 (length links) some)
