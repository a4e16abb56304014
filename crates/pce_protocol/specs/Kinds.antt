-- What the value of a field is read as: own rules but for the texts of addresses.
use Rattle.std.specs.Prelude.{ℕ, ◌/◌, ◌^◌, ◌==◌, Bool, false, ◌&&◌, ◌||◌, nat_lt, nat_le, if◌then◌else◌, List, [], ◌∷◌, length, codes, Option, Some, None, option_map, option_and_then, Result, Ok, Err, bytes_eq}
use Rattle.hex.specs.Hex.{decode_of}
use Rattle.hex.specs.declared.error.FromHexError.{FromHexError}
use Rattle.serde_json.specs.Data.{Data, Items, no_items, item}
use Rattle.serde_json.specs.Find.{as_number, as_u64, as_str, as_array}
use Rattle.v6_addr.specs.Text.{address_of_text}
use Rattle.v6_addr.specs.declared.address.Addr.{Addr}
use Rattle.net_model.specs.NetworkRules.{is_name}
use Rattle.pce_protocol.specs.declared.limits.TheConstants.{MAX_CHOICES}
use Rattle.pce_protocol.specs.declared.verb.Verb.{Verb}
use Rattle.pce_protocol.specs.declared.verb.Verb.TheVariants as verbs
use Rattle.pce_protocol.specs.declared.request.Routes.{Routes}
use Rattle.pce_protocol.specs.declared.request.Routes.TheVariants as routes

-- what may be absent, where it is there
abbrev pub given : {X : Type 0} → (Data → Option X) → Data → Option (Option X)
given kind d = option_map Some (kind d)

-- a name
abbrev pub name_if : List ℕ → Option (List ℕ)
name_if text = if is_name text then Some text else None

abbrev pub name_of : Data → Option (List ℕ)
name_of d = option_and_then name_if (as_str d)

-- an address (RFC 4291 section 2.2)
abbrev pub addr_of_value : ℕ → Addr
addr_of_value a = record { value = a }

abbrev pub addr_of : Data → Option Addr
addr_of d = option_and_then (λ text. option_map addr_of_value (address_of_text text)) (as_str d)

-- words
abbrev pub verb_named : List ℕ → Option Verb
verb_named word =
    if bytes_eq word (codes "version") then Some verbs.Version
    else if bytes_eq word (codes "load") then Some verbs.Load
    else if bytes_eq word (codes "without") then Some verbs.Without
    else if bytes_eq word (codes "drop") then Some verbs.Drop
    else if bytes_eq word (codes "compile") then Some verbs.Compile
    else if bytes_eq word (codes "judge") then Some verbs.Judge
    else if bytes_eq word (codes "trace") then Some verbs.Trace
    else None

abbrev pub verb_of : Data → Option Verb
verb_of d = option_and_then verb_named (as_str d)

abbrev pub routes_named : List ℕ → Option Routes
routes_named word =
    if bytes_eq word (codes "keep") then Some routes.Keep
    else if bytes_eq word (codes "again") then Some routes.Again
    else None

abbrev pub routes_of : Data → Option Routes
routes_of d = option_and_then routes_named (as_str d)

-- an array, each item of one kind
abbrev pub data_of : Items → List Data
data_of no_items = []
data_of (item d ds) = d ∷ data_of ds

abbrev pub each_of : {X : Type 0} → (Data → Option X) → List Data → Option (List X)
each_of kind [] = Some []
each_of kind (d ∷ ds) = option_and_then (λ x. option_map (λ xs. x ∷ xs) (each_of kind ds)) (kind d)

abbrev pub values_of : Data → Option (List Data)
values_of d = option_map data_of (as_array d)

abbrev pub list_of : {X : Type 0} → (Data → Option X) → Data → Option (List X)
list_of kind d = option_and_then (each_of kind) (values_of d)

-- a choice: a number of 32 bits
abbrev pub choice_if : ℕ → Option ℕ
choice_if n = if nat_lt n (2 ^ 32) then Some n else None

abbrev pub choice_of : Data → Option ℕ
choice_of d = option_and_then choice_if (option_and_then as_u64 (as_number d))

-- some choices, and not too many
abbrev pub are_choices : List ℕ → Bool
are_choices ns = nat_le 1 (length ns) && nat_le (length ns) MAX_CHOICES

abbrev pub choices_if : List ℕ → Option (List ℕ)
choices_if ns = if are_choices ns then Some ns else None

abbrev pub choices_of : Data → Option (List ℕ)
choices_of d = option_and_then choices_if (list_of choice_of d)

-- a packet of IPv6 or of IPv4, by its version (RFC 8200 section 3, RFC 791 section 3.1), in hexadecimal digits of either case
abbrev pub is_packet : List ℕ → Bool
is_packet [] = false
is_packet (b ∷ bytes) = ((b / 16) == 6) || ((b / 16) == 4)

abbrev pub packet_if : Result (List ℕ) FromHexError → Option (List ℕ)
packet_if (Ok bytes) = if is_packet bytes then Some bytes else None
packet_if (Err fault) = None

abbrev pub packet_of : Data → Option (List ℕ)
packet_of d = option_and_then (λ text. packet_if (decode_of text)) (as_str d)
