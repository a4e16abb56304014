-- IPv4 packets in bytes that spell them.
use Rattle.std.proofs.Common.{◌≡◌, ℕ, ◌/◌, ◌^◌, ◌<◌, ◌≤◌, ◌==◌, ◌||◌, Bool, true, false, nat_lt, if◌then◌else◌, List, [], length, take, slice_index, refl, sym, ap, subst, ◌∙◌, arith}
use Rattle.std.proofs.lemmas.Bool.{ltb-false}
use Rattle.std.proofs.lemmas.List.{take_all}
use Rattle.std.proofs.lemmas.List.Elements.{All-append}
use Rattle.std.specs.Prelude.{Result, Ok, Err}
use Rattle.srv6_rules.specs.declared.reason.Reason.{Reason}
use Rattle.srv6_rules.specs.declared.reason.Reason.TheVariants.{Truncated, BadVersion}
use Rattle.srv6_rules.specs.Packet as packets
use Rattle.srv6_rules.specs.Packet4.{Packet4, IsSpellable4, packet4_at, read4, spelling4, stated_header_len, total_len, ttl_lowered, lowered4}
use Rattle.srv6_rules.proofs.PublicLaws.{read4_alone, lowered4_spelling, lowered4_spellable}
use Rattle.ip6_headers.specs.declared.faults.ReadFault.{ReadFault}
use Rattle.ip6_headers.specs.declared.faults.ReadFault.TheVariants as faults
use Rattle.ip6_headers.specs.Ip6Reading.{unreadable}
use Rattle.ip6_headers.specs.Ip4Reading.{HoldsPacket4, reason_of}
use Rattle.ip6_headers.proofs.PublicLaws.{holds4_spellable, holds4_length, holds4_front}
use Rattle.node_stage.specs.Alone4.{HoldsAlone4}

-- bytes that read as a packet begin with it, and what their header states is there
record Reads4 (bytes : List ℕ) (p : Packet4) : Type 0 where
  least : 20 ≤ stated_header_len bytes
  header : stated_header_len bytes ≤ total_len bytes
  whole : total_len bytes ≤ length bytes
  packet : packet4_at bytes ≡ p

reads4_by_tests : (bytes : List ℕ) (p : Packet4) (empty four short small below cut : Bool)
    → nat_lt (stated_header_len bytes) 20 ≡ small → nat_lt (total_len bytes) (stated_header_len bytes) ≡ below
    → nat_lt (length bytes) (total_len bytes) ≡ cut
    → ◌≡◌ {A = Result Packet4 Reason}
    (if empty then Err Truncated else if four then (if short then Err Truncated
    else if small || (below || cut) then Err Truncated else Ok (packet4_at bytes)) else Err BadVersion) (Ok p)
    → Reads4 bytes p
reads4_by_tests bytes p true four short small below cut e1 e2 e3 e = cc
reads4_by_tests bytes p false false short small below cut e1 e2 e3 e = cc
reads4_by_tests bytes p false true true small below cut e1 e2 e3 e = cc
reads4_by_tests bytes p false true false true below cut e1 e2 e3 e = cc
reads4_by_tests bytes p false true false false true cut e1 e2 e3 e = cc
reads4_by_tests bytes p false true false false false true e1 e2 e3 e = cc
reads4_by_tests bytes p false true false false false false e1 e2 e3 e =
    record {
      least = ltb-false (stated_header_len bytes) 20 e1;
      header = ltb-false (total_len bytes) (stated_header_len bytes) e2;
      whole = ltb-false (length bytes) (total_len bytes) e3;
      packet = cc;
    }

reads4 : (bytes : List ℕ) (p : Packet4) → read4 bytes ≡ Ok p → Reads4 bytes p
reads4 bytes p e =
    reads4_by_tests bytes p (length bytes == 0) ((slice_index bytes 0 / 16) == 4) (nat_lt (length bytes) 20)
    (nat_lt (stated_header_len bytes) 20) (nat_lt (total_len bytes) (stated_header_len bytes)) (nat_lt (length bytes) (total_len bytes))
    refl refl refl e

pub packet4_at_spelling : (p : Packet4) → IsSpellable4 p → packet4_at (spelling4 p) ≡ p
packet4_at_spelling p ok = (reads4 (spelling4 p) p (read4_alone p ok)).packet

-- why bytes do not read, of either family
pub reason_is : (fault : ReadFault) (reason : Reason) → packets.Unreadable [] reason ≡ unreadable [] fault → reason ≡ reason_of fault
reason_is faults.Truncated reason e = cc
reason_is faults.BadVersion reason e = cc

-- ---- a spelling holds its packet alone

pub alone4_spelling : (p : Packet4) → IsSpellable4 p → HoldsAlone4 (spelling4 p)
alone4_spelling p ok =
    let e : read4 (spelling4 p) ≡ Ok p = read4_alone p ok in
    let r : Reads4 (spelling4 p) p = reads4 (spelling4 p) p e in
    let holds : HoldsPacket4 (spelling4 p) =
    record {
      reads = e ∙ ap (λ q. Ok q) (sym r.packet);
      least = r.least;
      header = r.header;
      whole = r.whole;
      in_range = All-append (λ b. b < 2 ^ 8) p.header p.payload ok.header ok.payload;
    } in
    record { holds = holds; alone = ap (λ (q : Packet4). length (spelling4 q)) (sym r.packet) ∙ holds4_length (spelling4 p) holds }

module _ (bytes : List ℕ) (h : HoldsPacket4 bytes) where
  -- the bytes up to the packet's end hold it alone
  pub front4_alone : HoldsAlone4 (take (total_len bytes) bytes)
  front4_alone =
      subst (λ xs. HoldsAlone4 xs) (sym (holds4_front bytes h)) (alone4_spelling (packet4_at bytes) (holds4_spellable bytes h))

  pub front4_packet : packet4_at (take (total_len bytes) bytes) ≡ packet4_at bytes
  front4_packet = ap packet4_at (holds4_front bytes h) ∙ packet4_at_spelling (packet4_at bytes) (holds4_spellable bytes h)

-- bytes that hold a packet alone spell it
pub alone4_spelled : (bytes : List ℕ) → HoldsAlone4 bytes → bytes ≡ spelling4 (packet4_at bytes)
alone4_spelled bytes h =
    sym (take_all (total_len bytes) bytes (let all = h.alone in omega arith)) ∙ holds4_front bytes h.holds

-- ---- a time to live that is one lower

module _ (bytes : List ℕ) (h : HoldsAlone4 bytes) where
  lowered_spelled : ttl_lowered bytes ≡ spelling4 (lowered4 (packet4_at bytes))
  lowered_spelled =
      ap ttl_lowered (alone4_spelled bytes h)
      ∙ sym (lowered4_spelling (packet4_at bytes) (holds4_spellable bytes h.holds).least)

  pub lowered4_alone : HoldsAlone4 (ttl_lowered bytes)
  lowered4_alone = subst (λ xs. HoldsAlone4 xs) (sym lowered_spelled)
      (alone4_spelling (lowered4 (packet4_at bytes)) (lowered4_spellable (packet4_at bytes) (holds4_spellable bytes h.holds)))

  pub lowered4_packet : packet4_at (ttl_lowered bytes) ≡ lowered4 (packet4_at bytes)
  lowered4_packet = ap packet4_at lowered_spelled
      ∙ packet4_at_spelling (lowered4 (packet4_at bytes)) (lowered4_spellable (packet4_at bytes) (holds4_spellable bytes h.holds))
