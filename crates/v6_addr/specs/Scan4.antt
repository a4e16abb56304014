-- The texts of IPv4 addresses byte by byte, and those of prefixes. 46 is the dot, 47 the slash.
use Rattle.std.specs.Prelude.{ℕ, ◌+◌, ◌*◌, ◌^◌, ◌==◌, nat_le, nat_lt, if◌then◌else◌, List, Option, Some, None, option_map, option_and_then}
use Rattle.v6_addr.specs.declared.scan4.Place4.{Place4}
use Rattle.std.specs.List.{before_first, after_first}
use Rattle.v6_addr.specs.Address.{PrefixValue}
use Rattle.v6_addr.specs.Lengths.{next_number}
use Rattle.v6_addr.specs.Scan.{walked}
use Rattle.v6_addr.specs.Text.{length_of_text, prefix_of_parts}

-- nothing was read
abbrev pub start4 : Place4
start4 = record { done = 0; value = 0; number = None }

-- a number up to 255
unfoldable pub up_to_255 : ℕ → Option ℕ
up_to_255 n = if nat_le n 255 then Some n else None

-- the number so far with one more byte, up to 255
unfoldable pub number_behind : Option ℕ → ℕ → Option ℕ
number_behind number byte = option_and_then up_to_255 (next_number number byte)

-- what stands before the next byte, once a dot was read
unfoldable pub behind_dot : Place4 → Option ℕ → Option Place4
behind_dot place None = None
behind_dot place (Some n) =
    if nat_lt place.done 3 then Some (record { done = place.done + 1; value = place.value * 256 + n; number = None }) else None

-- what stands before the next byte; none where no IPv4 address goes on with this one
unfoldable pub behind4 : Place4 → ℕ → Option Place4
behind4 place byte =
    if byte == 46 then behind_dot place place.number
    else option_map (λ n. record { done = place.done; value = place.value; number = Some n }) (number_behind place.number byte)

-- the address where an IPv4 address may end
unfoldable pub address_at : Place4 → Option ℕ → Option ℕ
address_at place None = None
address_at place (Some n) = if place.done == 3 then Some ((place.value * 256 + n) * 2 ^ 96) else None

-- ---- what is read

-- the IPv4 address that a text writes, read byte by byte; none where the text is outside the grammar
unfoldable pub address4_of_text : List ℕ → Option ℕ
address4_of_text text = option_and_then (λ place. address_at place place.number) (walked behind4 start4 text)

-- an IPv4 prefix's length: at most 32
unfoldable pub length4_of_text : List ℕ → Option ℕ
length4_of_text text = option_and_then (λ n. if nat_le n 32 then Some n else None) (length_of_text text)

-- the IPv4 prefix that a text writes, an address, a slash and a length; none where the text is outside the grammar
unfoldable pub prefix4_of_text : List ℕ → Option PrefixValue
prefix4_of_text text =
    prefix_of_parts (address4_of_text (before_first (λ b. b == 47) text)) (length4_of_text (after_first (λ b. b == 47) text))
