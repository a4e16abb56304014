-- Two lists by hand.
use Rattle.std.proofs.Common.{◌≡◌, ◌⊎◌, inl, inr, ℕ, ◌-◌, ◌^◌, ◌%◌, ◌/◌, ◌<◌, List, take, drop, Some, refl, arith, lit<, lit≤}
use Rattle.std.proofs.lemmas.List.Elements.{All-nil, All-from_recursion}
use Rattle.v6_addr.specs.Address.{Holds, field_of}
use Rattle.srv6_rules.specs.declared.sid.Csid.{Csid}
use Rattle.srv6_rules.specs.declared.sid.Csid.TheVariants.{Plain, Next}
use Rattle.srv6_rules.specs.Compressed.{csid_of}
use Rattle.srv6_rules.specs.CompressedTerms.{IsSidOf}
use Rattle.sid_list_spec.specs.SegmentLists.{ListSid, IsLegal, values_of}
use Rattle.sid_list_theory.specs.SegmentListsTerms.{IsFlatSid, IsFlatContainer, IsFlatList, sids_in}
use Rattle.sid_list_theory.specs.ListPlaces.{first_of}
use Rattle.sid_list_theory.specs.ExecutionRows.{destinations_from}
use Rattle.sid_list_theory.specs.ListExamples.{next_block, next_sid, next_list, next_values, next_destinations, replace_block, replace_sid, replace_list, replace_values, replace_destinations}

abbrev next_sids : List ListSid
next_sids = sids_in next_list

abbrev replace_sids : List ListSid
replace_sids = sids_in replace_list

pub next_values_law : values_of next_list ≡ next_values
unfolding field_of
next_values_law = refl

pub next_destinations_law : destinations_from 4 (first_of next_list) ≡ next_destinations
unfolding field_of
next_destinations_law = refl

pub replace_values_law : values_of replace_list ≡ replace_values
unfolding field_of
replace_values_law = refl

pub replace_destinations_law : destinations_from 4 (first_of replace_list) ≡ replace_destinations
replace_destinations_law = refl

-- ---- their SIDs

-- a SID of the NEXT-CSID block
next_is : (v : ℕ) (csid : Csid) → v < 2 ^ 128 → v % 2 ^ (128 - 48) ≡ 0 → v / 2 ^ (128 - 32) ≡ next_block.prefix.value / 2 ^ (128 - 32)
    → 0 < csid_of 32 (record { value = v; len = 48 }) → (csid ≡ Plain) ⊎ (csid ≡ Next) → IsFlatSid (next_sid v csid)
unfolding Holds
next_is v csid below clean inside some kind = record {
  prefix = (lit≤ tt, below, clean);
  block = record {
    sid_of = record { prefix = (lit≤ tt, below, clean); inside = (lit< tt, inside); some = λ e. omega arith };
    kind = kind;
    packed = λ e. cc;
  };
}

pub next_flat : IsFlatList next_list
unfolding field_of
next_flat =
    let a = next_is 0xfcbb_bb00_0002_0000_0000_0000_0000_0000 Next (lit< tt) refl refl (lit< tt) (inr refl) in
    let b = next_is 0xfcbb_bb00_e001_0000_0000_0000_0000_0000 Next (lit< tt) refl refl (lit< tt) (inr refl) in
    let c = next_is 0xfcbb_bb00_0004_0000_0000_0000_0000_0000 Next (lit< tt) refl refl (lit< tt) (inr refl) in
    let d = next_is 0xfcbb_bb00_f001_0000_0000_0000_0000_0000 Plain (lit< tt) refl refl (lit< tt) (inl refl) in
    All-from_recursion IsFlatContainer next_list (All-from_recursion IsFlatSid next_sids (a, (b, (c, (d, tt)))), tt)

pub next_legal : IsLegal next_list
next_legal =
    let P : ListSid → Type 0 = λ t. t.block ≡ Some next_block in (
      record {
        one_block = All-from_recursion P (drop 1 next_sids) (refl, (refl, (refl, tt)));
        next = (refl, (refl, (refl, tt)));
        fits = lit≤ tt;
      },
      tt,
    )

-- a SID of the REPLACE-CSID block
replace_is : (v : ℕ) → v < 2 ^ 128 → v % 2 ^ (128 - 80) ≡ 0 → v / 2 ^ (128 - 48) ≡ replace_block.prefix.value / 2 ^ (128 - 48)
    → 0 < csid_of 48 (record { value = v; len = 80 }) → IsFlatSid (replace_sid v)
unfolding Holds
replace_is v below clean inside some =
    let sid : IsSidOf replace_block.prefix (record { value = v; len = 80 }) =
    record { prefix = (lit≤ tt, below, clean); inside = (lit< tt, inside); some = λ e. omega arith } in
    record {
      prefix = (lit≤ tt, below, clean);
      block = record {
        sid_of = sid;
        kind = inr refl;
        packed = λ e. record { sid_of = sid; len = refl; csid = inr refl; behind = lit≤ tt };
      };
    }

pub replace_flat : IsFlatList replace_list
unfolding field_of
replace_flat =
    let a = replace_is 0x2001_0db8_000b_0001_0001_0000_0000_0000 (lit< tt) refl refl (lit< tt) in
    let b = replace_is 0x2001_0db8_000b_0002_0001_0000_0000_0000 (lit< tt) refl refl (lit< tt) in
    let c = replace_is 0x2001_0db8_000b_0003_0001_0000_0000_0000 (lit< tt) refl refl (lit< tt) in
    let d = replace_is 0x2001_0db8_000b_0004_00f1_0000_0000_0000 (lit< tt) refl refl (lit< tt) in
    All-from_recursion IsFlatContainer replace_list (
      All-from_recursion IsFlatSid (take 1 replace_sids) (a, tt),
      (All-from_recursion IsFlatSid (drop 1 replace_sids) (b, (c, (d, tt))), tt),
    )

pub replace_legal : IsLegal replace_list
replace_legal =
    let P : ListSid → Type 0 = λ t. t.block ≡ Some replace_block in (
      record { one_block = All-nil P; next = tt; fits = lit≤ tt },
      (
        record {
          one_block = All-from_recursion P (drop 1 replace_sids) (refl, (refl, (refl, tt)));
          replace = (refl, (refl, tt));
          few = lit≤ tt;
        },
        tt,
      ),
    )
