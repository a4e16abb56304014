use Rattle.std.proofs.Common.{◌≡◌, ℕ, ◌-◌, ◌/◌, ◌^◌, eqb, IsTrue, ◌↔◌, Bool, sym, subst, ap, ◌∙◌}
use Rattle.v6_addr.specs.Address.{PrefixValue, Holds, holds_address}
use Rattle.v6_addr.proofs.PrefixFacts.{holds_address_is}
use Rattle.v6_addr.proofs.prefix.Prefix.holds.Goals as goal

computed : (p : PrefixValue) (a x y : ℕ) → x ≡ a / 2 ^ (128 - p.len) → y ≡ p.value / 2 ^ (128 - p.len) → eqb x y ≡ holds_address p a
unfolding holds_address
computed p a x y at_a at_p = ap (λ n. eqb n y) at_a ∙ ap (λ n. eqb (a / 2 ^ (128 - p.len)) n) at_p

pub returns-clause-test : goal.returns-clause-test
returns-clause-test c = computed _ _ _ _ c.high_bits.ensures c.high_bits-2.ensures ∙ ap (λ p. holds_address p c.args.a.value) c.self.view_is

pub returns-clause-fact : goal.returns-clause-fact
returns-clause-fact c =
    let P : Bool → Type 0 = λ b. IsTrue b ↔ Holds c.args.self.now c.args.a.value in
    subst P (sym (returns-clause-test c)) (holds_address_is c.args.self.now c.args.a.value)
