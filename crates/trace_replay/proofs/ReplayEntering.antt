-- A packet that enters as it is.
use Rattle.std.proofs.Common.{◌≡◌, ℕ, ◌≤◌, Bool, true, false, List, length, Some, None, refl, sym, ap, ◌∙◌, rules}
use Rattle.std.specs.Prelude.{nat_le, ◌==◌, ◌&&◌, if◌then◌else◌}
use Rattle.std.proofs.lemmas.Bool.{eq-eqb, ne_eqb}
use Rattle.std.proofs.lemmas.List.{take_all}
use Rattle.srv6_rules.specs.declared.family.Family.{Family}
use Rattle.srv6_rules.specs.Packet.{bytes_of, entered, most_len, read_as}
use Rattle.trace_replay.specs.declared.line.Line.TheVariants as lines
use Rattle.trace_replay.specs.TraceGrammar.{is_entering, packet_by}

by_test : (family : Family) (node : ℕ) (packet : List ℕ) (is : Bool) → is_entering family packet ≡ is
    → packet_by (Some family) (Some node) (Some packet) ≡ (if is then Some (lines.Packet family node packet) else None)
by_test family node packet is e = ap (λ (b : Bool). if b then Some (lines.Packet family node packet) else None) e

-- of a packet that is not too long all is read
entered_whole : (family : Family) (packet : List ℕ) → length packet ≤ most_len → entered family packet ≡ read_as family packet
entered_whole family packet short = ap (read_as family) (take_all most_len packet short)

short_enough : (a b : Bool) → a ≡ true → (a && b) ≡ b
short_enough true b h = refl
short_enough false b h = cc

module _ (family : Family) (node : ℕ) (packet : List ℕ) where
  module _ (short : length packet ≤ most_len) where
    same_test : is_entering family packet ≡ (length (bytes_of (entered family packet)) == length packet)
    same_test =
        let test : nat_le (length packet) most_len ≡ true = search (rules, short) in
        short_enough (nat_le (length packet) most_len) (length (bytes_of (read_as family packet)) == length packet) test
        ∙ ap (λ c. length (bytes_of c) == length packet) (sym (entered_whole family packet short))

    pub enters_not_whole : (n : ℕ) → n ≡ length (bytes_of (entered family packet)) → (n ≡ length packet → ⊥)
        → None ≡ packet_by (Some family) (Some node) (Some packet)
    enters_not_whole n is other =
        sym (by_test family node packet false (same_test ∙ ap (λ k. k == length packet) (sym is) ∙ ne_eqb n (length packet) other))

    pub enters_whole : (n : ℕ) → n ≡ length (bytes_of (entered family packet)) → n ≡ length packet
        → Some (lines.Packet family node packet) ≡ packet_by (Some family) (Some node) (Some packet)
    enters_whole n is same =
        sym (by_test family node packet true (same_test ∙ ap (λ k. k == length packet) (sym is) ∙ eq-eqb n (length packet) same))
