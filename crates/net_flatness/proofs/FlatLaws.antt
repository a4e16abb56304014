-- What a flat network has of its blocks, their SIDs and the SIDs of one prefix.
use Rattle.std.proofs.Common.{◌≡◌, ◌≢◌, ◌⊎◌, inl, inr, ℕ, ◌+◌, ◌-◌, ◌*◌, ◌/◌, ◌%◌, ◌<◌, ◌≤◌, true, Option, Some, None, refl, sym, ap, ◌∙◌, subst, arith}
use Rattle.std.specs.List.{slice_get, Contains}
use Rattle.std.proofs.lemmas.Bool.{cases_Bool, cases_eq, cases_lt, both_ways}
use Rattle.std.proofs.lemmas.Option.{same_Some}
use Rattle.std.proofs.Math.Nat.{div-add-mod}
use Rattle.v6_addr.specs.Address.{PrefixValue, holds_address, IsInside}
use Rattle.v6_addr.proofs.PublicLaws.{holds_address_is, Holds_nested}
use Rattle.srv6_rules.specs.declared.sid.Csid.{Csid}
use Rattle.srv6_rules.specs.declared.sid.Csid.TheVariants as csids
use Rattle.srv6_rules.specs.declared.sid.SidEntry.{SidEntry}
use Rattle.srv6_rules.specs.Behaviours.{goes_on}
use Rattle.srv6_rules.specs.Compressed.{csid_of}
use Rattle.net_model.specs.declared.limits.TheConstants.{BLOCK_UNIT, SHORT_CSID, LONG_CSID}
use Rattle.net_model.specs.declared.parts.Block.{Block}
use Rattle.net_model.specs.declared.parts.BlockKind.{BlockKind}
use Rattle.net_model.specs.declared.parts.BlockKind.TheVariants as kinds
use Rattle.net_model.specs.Network.{Network}
use Rattle.net_model.specs.NetworkRules.{block_of}
use Rattle.net_model.specs.NetworkRulesTerms.{IsNetwork}
use Rattle.net_model.specs.NetworkKeeps.{IsBlockOf, SuitsBlock, Keeps}
use Rattle.net_model.proofs.PublicLaws.{block_of_is, keeps_from_network, get_from_contains, contains_from_get}
use Rattle.net_flatness.specs.Flat.{Overlap, HasWrongLength, IsFlat}
use Rattle.net_flatness.specs.FlatTerms.{HasWholeUnits}
use Rattle.net_flatness.proofs.PairMeanings.{csid_or}

-- ---- blocks

-- in a flat network a SID's prefix lies strictly inside a block or has no address of it
pub holds_or_misses : (net : Network) (i n : ℕ) (b : Block) (s : SidEntry) → IsFlat net → slice_get net.blocks i ≡ Some b
    → slice_get net.sids n ≡ Some s → IsInside s.prefix b.prefix ⊎ (¬ Overlap s.prefix b.prefix)
holds_or_misses net i n b s flat at_b at_s =
    let in_blocks = contains_from_get net.blocks i b at_b in
    let in_sids = contains_from_get net.sids n s at_s in
    elim (cases_lt b.prefix.len s.prefix.len) [
      | inl longer ↦ elim (cases_Bool (holds_address b.prefix s.prefix.value)) [
        | inl held ↦ inl (longer, (holds_address_is b.prefix s.prefix.value).0 held)
        | inr missed ↦ inr (λ over. both_ways _ missed ((holds_address_is b.prefix s.prefix.value).1
            (Holds_nested b.prefix s.prefix over.0 (omega (arith, longer)) over.2 over.1)))
      ]
      | inr short ↦ inr (λ over. flat.mixed b s in_blocks in_sids (inl (short, over)))
    ]

block_by_place : (net : Network) (i : ℕ) (b : Block) (p : PrefixValue) (o : Option Block) → Keeps net → slice_get net.blocks i ≡ Some b
    → IsInside p b.prefix → IsBlockOf net.blocks p o → o ≡ Some b
block_by_place net i b p None keeps at inside of = absurd (of b (contains_from_get net.blocks i b at) inside)
block_by_place net i b p (Some c) keeps at inside (there, also) =
    let (j, at_c) = get_from_contains net.blocks c there in
    let place = keeps.apart j i p.value c b at_c at also.1 inside.1 in
    sym at_c ∙ (ap (slice_get net.blocks) place ∙ at)

-- a block that a prefix lies strictly inside is the prefix's block
pub its_block : (net : Network) (i : ℕ) (b : Block) (p : PrefixValue) → IsNetwork net → slice_get net.blocks i ≡ Some b
    → IsInside p b.prefix → block_of net.blocks p ≡ Some b
its_block net i b p rules at inside =
    block_by_place net i b p (block_of net.blocks p) (keeps_from_network net rules) at inside (block_of_is net.blocks p)

-- ---- SIDs of blocks

in_block : (net : Network) (p : PrefixValue) (b : Block) → block_of net.blocks p ≡ Some b → Contains net.blocks b × IsInside p b.prefix
in_block net p b e = subst (IsBlockOf net.blocks p) e (block_of_is net.blocks p)

pub sid_some_csid : (net : Network) (n : ℕ) (s : SidEntry) (b : Block) → IsFlat net → slice_get net.sids n ≡ Some s
    → block_of net.blocks s.prefix ≡ Some b → csid_of b.prefix.len s.prefix ≢ 0
sid_some_csid net n s b flat at e zero =
    let (there, inside) = in_block net s.prefix b e in
    flat.zero s b (contains_from_get net.sids n s at) there (inside, zero)

not_wrong : (net : Network) (n : ℕ) (s : SidEntry) (b : Block) → IsFlat net → slice_get net.sids n ≡ Some s
    → block_of net.blocks s.prefix ≡ Some b → ¬ HasWrongLength b.kind b s
not_wrong net n s b flat at e wrong =
    let (there, inside) = in_block net s.prefix b e in
    flat.mixed b s there (contains_from_get net.sids n s at) (inr (inside, wrong))

pub sid_replace_len : (net : Network) (n : ℕ) (s : SidEntry) (b : Block) → IsFlat net → slice_get net.sids n ≡ Some s
    → block_of net.blocks s.prefix ≡ Some b → b.kind ≡ kinds.Replace → s.prefix.len ≡ b.prefix.len + b.csid
sid_replace_len net n s b flat at e kind =
    elim (cases_eq s.prefix.len (b.prefix.len + b.csid)) [
      | inl same ↦ same
      | inr other ↦ absurd (not_wrong net n s b flat at e (subst (λ k. HasWrongLength k b s) (sym kind) other))
    ]

-- a multiple of 16 above 0
units_from : (block len : ℕ) → block < len → (len - block) % BLOCK_UNIT ≡ 0
    → (k : ℕ) × (1 ≤ k) × (len ≡ block + 16 * k)
units_from block len longer whole =
    let parts : 16 * ((len - block) / 16) + (len - block) % 16 ≡ len - block = div-add-mod (len - block) 16 in
    let rest : (len - block) % 16 ≡ 0 = whole in
    ((len - block) / 16, omega (arith, parts, rest, longer), omega (arith, parts, rest, longer))

units_of : (b : Block) (s : SidEntry) → b.prefix.len < s.prefix.len → (s.prefix.len - b.prefix.len) % BLOCK_UNIT ≡ 0 → HasWholeUnits b s
units_of b s longer whole =
    let (k, some, len) = units_from b.prefix.len s.prefix.len longer whole in record { units = k; some = some; len = len }

units_of_csid : (b : Block) (s : SidEntry) (csid : ℕ) → (csid ≡ SHORT_CSID) ⊎ (csid ≡ LONG_CSID) → s.prefix.len ≡ b.prefix.len + csid
    → HasWholeUnits b s
units_of_csid b s csid (inl short) len = record { units = 1; some = omega arith; len = omega (arith, short, len) }
units_of_csid b s csid (inr long) len = record { units = 2; some = omega arith; len = omega (arith, long, len) }

units_of_next : (b : Block) (s : SidEntry) (o : Option Block) (csid : Csid) → o ≡ Some b → csid ≡ csids.Next
    → (b.csid ≡ SHORT_CSID) ⊎ (b.csid ≡ LONG_CSID) → SuitsBlock csid s o → HasWholeUnits b s
units_of_next b s o csids.Plain e next len suits = cc
units_of_next b s o csids.Replace e next len suits = cc
units_of_next b s o csids.Next e next len (c, is, kind, goes, inl own) =
    let same : c ≡ b = same_Some c b (sym is ∙ e) in
    units_of_csid b s b.csid len (subst (λ x. s.prefix.len ≡ x.prefix.len + x.csid) same own)
units_of_next b s o csids.Next e next len (c, is, kind, goes, inr long) =
    let same : c ≡ b = same_Some c b (sym is ∙ e) in
    units_of_csid b s LONG_CSID (inr refl) (subst (λ x. s.prefix.len ≡ x.prefix.len + LONG_CSID) same long)

units_by_kind : (b : Block) (s : SidEntry) (kind : BlockKind) → b.prefix.len < s.prefix.len → ¬ HasWrongLength kind b s
    → (b.csid ≡ SHORT_CSID) ⊎ (b.csid ≡ LONG_CSID) → (s.csid ≡ csids.Next → HasWholeUnits b s) → HasWholeUnits b s
units_by_kind b s kinds.Replace longer even csid next =
    elim (cases_eq s.prefix.len (b.prefix.len + b.csid)) [
      | inl same ↦ units_of_csid b s b.csid csid same
      | inr other ↦ absurd (even other)
    ]
units_by_kind b s kinds.Next longer even csid next =
    elim (cases_eq ((s.prefix.len - b.prefix.len) % BLOCK_UNIT) 0) [
      | inl whole ↦ units_of b s longer whole
      | inr other ↦ next (csid_or s.csid csids.Next (λ plain. even (plain, other)))
    ]

-- after its block's bits a SID has some whole units
pub sid_units : (net : Network) (n : ℕ) (s : SidEntry) (b : Block) → IsNetwork net → IsFlat net → slice_get net.sids n ≡ Some s
    → block_of net.blocks s.prefix ≡ Some b → HasWholeUnits b s
sid_units net n s b rules flat at e =
    let keeps = keeps_from_network net rules in
    let (there, inside) = in_block net s.prefix b e in
    let (i, at_b) = get_from_contains net.blocks b there in
    let csid = (keeps.block i b at_b).csid in
    units_by_kind b s b.kind inside.0 (not_wrong net n s b flat at e) csid
    (λ next. units_of_next b s (block_of net.blocks s.prefix) s.csid e next csid (keeps.sid n s at).csid)

plain_from : (s : SidEntry) (o : Option Block) (csid : Csid) → o ≡ None → SuitsBlock csid s o → csid ≡ csids.Plain
plain_from s o csids.Plain e suits = refl
plain_from s o csids.Next e (b, is, kind, goes, len) = cc
plain_from s o csids.Replace e (b, is, kind, len) = cc

-- a SID in no block is not compressed
pub sid_plain : (net : Network) (n : ℕ) (s : SidEntry) → IsNetwork net → slice_get net.sids n ≡ Some s
    → block_of net.blocks s.prefix ≡ None → s.csid ≡ csids.Plain
sid_plain net n s rules at e =
    plain_from s (block_of net.blocks s.prefix) s.csid e ((keeps_from_network net rules).sid n s at).csid

-- ---- SIDs of one prefix

-- SIDs on one prefix that go on are compressed alike, also where they stand at one node
pub one_flavour : (net : Network) (n m : ℕ) (s t : SidEntry) → IsNetwork net → IsFlat net → slice_get net.sids n ≡ Some s
    → slice_get net.sids m ≡ Some t → s.prefix ≡ t.prefix → goes_on s ≡ true → goes_on t ≡ true → s.csid ≡ t.csid
one_flavour net n m s t rules flat at_n at_m prefix s_goes t_goes =
    let keeps = keeps_from_network net rules in
    let in_n = contains_from_get net.sids n s at_n in
    let in_m = contains_from_get net.sids m t at_m in
    elim (cases_eq s.node t.node) [
      | inl node ↦
          let place = keeps.sid_prefix n m s t at_n at_m node prefix in
          ap (λ x. x.csid) (same_Some s t (sym at_n ∙ (ap (slice_get net.sids) place ∙ at_m)))
      | inr apart ↦ csid_or s.csid t.csid (λ differ. flat.clash s t in_n in_m
          (record { nodes = apart; prefix = prefix; first = s_goes; second = t_goes; csid = differ }))
    ]
