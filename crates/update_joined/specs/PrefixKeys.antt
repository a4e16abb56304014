-- Need not be believed: helps proofs and other laws.
-- The first bits of addresses in a table, in an order, so that a set can tell whether entries meet a prefix.
use Rattle.std.specs.Prelude.{◌≡◌, ℕ, ◌-◌, ◌/◌, ◌^◌, ◌<◌, Bool, true, ◌==◌, ◌&&◌, is_some, List, [], All}
use Rattle.std.specs.List.{list_any, filter}
use Rattle.std.specs.declared.cmp.Ordering.{Ordering}
use Rattle.std.specs.Ordering.{nat_cmp, bool_cmp, ordering_then}
use Rattle.std.specs.BTreeSet as set
use Rattle.srv6_rules.specs.declared.family.Family.TheVariants as families
use Rattle.net_model.specs.NetworkRules.{same_family}
use Rattle.update_spec.specs.Planning.{in_one_table, meet}
use Rattle.update_joined.specs.declared.entry.PlanEntry.{PlanEntry}
use Rattle.update_joined.specs.declared.prefix_index.PrefixKey.{PrefixKey}
use Rattle.update_joined.specs.declared.prefix_index.PrefixIndex.{PrefixIndex}
use Rattle.update_joined.specs.declared.known_entries.KnownEntries.{KnownEntries}
use Rattle.update_joined.specs.JoinedEntries.{item_of}

-- by node, table, family, length and bits
abbrev pub prefix_key_cmp : PrefixKey → PrefixKey → Ordering
prefix_key_cmp a b =
    ordering_then (nat_cmp a.node b.node) (ordering_then (nat_cmp a.table b.table) (ordering_then (bool_cmp a.is_ipv6 b.is_ipv6)
    (ordering_then (nat_cmp a.len b.len) (nat_cmp a.bits b.bits))))

-- some first bits in an entry's table
abbrev pub key_of : PlanEntry → ℕ → ℕ → PrefixKey
key_of e len bits = record {
  node = e.node;
  table = e.table;
  is_ipv6 = same_family e.family families.V6;
  len = len;
  bits = bits;
}

-- so many of an address's first bits
abbrev pub key_at : PlanEntry → ℕ → ℕ → PrefixKey
key_at e a len = key_of e len (a / 2 ^ (128 - len))

abbrev pub has_key : PrefixIndex → PrefixKey → Bool
has_key index = set.contains prefix_key_cmp index.keys

abbrev pub has_length : List ℕ → ℕ → Bool
has_length lengths len = list_any (λ l. l == len) lengths

-- an index has the key of an entry's prefix, that of its address and the prefix's length
pub record IsIndexed (index : PrefixIndex) (e : PlanEntry) : Type 0 where
  pub within : e.prefix.value < 2 ^ 128
  pub prefix : has_key index (key_at e e.prefix.value e.prefix.len) ≡ true
  pub address : has_key index (key_of e 128 e.prefix.value) ≡ true
  pub length : has_length index.lengths.items e.prefix.len ≡ true

-- two entries are in one table, where their prefixes meet
abbrev pub are_meeting : PlanEntry → PlanEntry → Bool
are_meeting a b = in_one_table (item_of [] a) (item_of [] b) && meet a.prefix b.prefix

abbrev pub is_titled : PlanEntry → Bool
is_titled e = is_some e.title

-- what is known of entries: which have titles, and the keys of all
pub record IsKnown (known : KnownEntries) : Type 0 where
  pub titled : known.titled.items ≡ filter is_titled known.entries.items
  pub indexed : All (IsIndexed known.index) known.entries.items
