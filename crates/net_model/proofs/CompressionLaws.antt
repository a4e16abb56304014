-- The SIDs of a network that keeps the rules suit their compression, and those that do not go on have no flavours.
use Rattle.std.proofs.Common.{◌≡◌, ◌≢◌, ◌⊎◌, inl, inr, ℕ, ◌-◌, ◌<◌, true, false, Option, Some, None, refl, sym, ◌∙◌, subst, arith}
use Rattle.std.specs.List.{slice_get}
use Rattle.srv6_rules.specs.declared.sid.Behaviour.{Behaviour}
use Rattle.srv6_rules.specs.declared.sid.Behaviour.TheVariants.{End, EndX, EndT, Dx6, Dx4, Dt6, Dt4, Dt46, B6, B6Red}
use Rattle.srv6_rules.specs.declared.sid.Csid.{Csid}
use Rattle.srv6_rules.specs.declared.sid.Csid.TheVariants as csids
use Rattle.srv6_rules.specs.declared.sid.SidEntry.{SidEntry}
use Rattle.srv6_rules.specs.Behaviours.{behaviour_goes_on, behaviour_takes_flavours, goes_on}
use Rattle.srv6_rules.specs.CompressedSteps.{compression_of}
use Rattle.srv6_rules.specs.CompressedStepsTerms.{SuitsKind, SuitsCompression}
use Rattle.net_model.specs.declared.limits.TheConstants.{SHORT_CSID, LONG_CSID}
use Rattle.net_model.specs.declared.parts.Block.{Block}
use Rattle.net_model.specs.Network.{Network}
use Rattle.net_model.specs.NetworkRules.{block_of, block_len_of}
use Rattle.net_model.specs.NetworkKeeps.{IsBlockOf, IsUnflavoured, SuitsBlock, KeepsSid, Keeps}
use Rattle.net_model.proofs.BlockLemmas.{block_of_is}
use Rattle.net_model.proofs.FindLemmas.{get_from_contains}

-- what is known of a SID whose block is there
record InBlock (s : SidEntry) (b : Block) : Type 0 where
  block_len : s.block_len ≡ b.prefix.len
  longer : b.prefix.len < s.prefix.len
  csid : (b.csid ≡ SHORT_CSID) ⊎ (b.csid ≡ LONG_CSID)

module _ (net : Network) (keeps : Keeps net) (s : SidEntry) (is : KeepsSid net s) where
  in_block : (o : Option Block) (b : Block) → IsBlockOf net.blocks s.prefix o → s.block_len ≡ block_len_of o → o ≡ Some b → InBlock s b
  in_block None b of len e = cc
  in_block (Some c) b of len e =
      let same : c ≡ b = cc in
      let (i, at) = get_from_contains net.blocks c of.0 in
      subst (InBlock s) same
      (record { block_len = len; longer = of.1.0; csid = (keeps.block i c at).csid })

  in_its_block : (b : Block) → block_of net.blocks s.prefix ≡ Some b → InBlock s b
  in_its_block b e = in_block (block_of net.blocks s.prefix) b (block_of_is net.blocks s.prefix) is.block_len e

  suits_kind : (csid : Csid) → s.csid ≡ csid → SuitsBlock csid s (block_of net.blocks s.prefix) → SuitsKind csid (compression_of s)
  suits_kind csids.Plain e suits = tt
  suits_kind csids.Next e (b, there, kind, goes, len) =
      let at = in_its_block b there in
      record { kind = e; longer = rw at.block_len at.longer; within = is.prefix.0 }
  suits_kind csids.Replace e (b, there, kind, len) =
      let at = in_its_block b there in
      let csid_len : s.prefix.len - s.block_len ≡ b.csid = omega (arith, len, at.block_len) in
      record {
        kind = e;
        longer = rw at.block_len at.longer;
        within = is.prefix.0;
        csid_len = elim at.csid [ inl short ↦ inl (csid_len ∙ short) | inr long ↦ inr (csid_len ∙ long) ];
      }

  suits_compression : SuitsCompression s
  suits_compression = suits_kind s.csid refl is.csid

-- the compression of a SID suits the lengths of its prefix and its block
pub sid_suits : (net : Network) (n : ℕ) (s : SidEntry) → Keeps net → slice_get net.sids n ≡ Some s → SuitsCompression s
sid_suits net n s keeps there = suits_compression net keeps s (keeps.sid n s there)

-- only behaviours that go on take flavours
no_flavours : (b : Behaviour) → behaviour_goes_on b ≡ false → behaviour_takes_flavours b ≡ false
no_flavours End e = cc
no_flavours EndX e = cc
no_flavours (EndT table) e = cc
no_flavours Dx6 e = refl
no_flavours Dx4 e = refl
no_flavours (Dt6 table) e = refl
no_flavours (Dt4 table) e = refl
no_flavours (Dt46 table) e = refl
no_flavours (B6 policy) e = cc
no_flavours (B6Red policy) e = cc

pub sid_unflavoured : (net : Network) (n : ℕ) (s : SidEntry) → Keeps net → slice_get net.sids n ≡ Some s → goes_on s ≡ false
    → IsUnflavoured s
sid_unflavoured net n s keeps there stays = (keeps.sid n s there).behaviour.flavours (no_flavours s.behaviour stays)

next_goes : (s : SidEntry) (block : Option Block) (csid : Csid) → csid ≡ csids.Next → SuitsBlock csid s block → goes_on s ≡ true
next_goes s block csids.Plain e suits = cc
next_goes s block csids.Next e (b, there, kind, goes, len) = goes
next_goes s block csids.Replace e suits = cc

-- only SIDs that go on are of NEXT-CSID
pub sid_not_next : (net : Network) (n : ℕ) (s : SidEntry) → Keeps net → slice_get net.sids n ≡ Some s → goes_on s ≡ false
    → s.csid ≢ csids.Next
sid_not_next net n s keeps there stays next =
    let goes = next_goes s (block_of net.blocks s.prefix) s.csid next (keeps.sid n s there).csid in
    let none : true ≡ false = sym goes ∙ stays in cc
