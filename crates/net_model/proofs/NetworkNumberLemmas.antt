-- Going over the titles of SIDs, which are numbered in their order.
use Rattle.std.proofs.Common.{◌≡◌, ℕ, ◌+◌, ◌<◌, ◌≤◌, false, ◌==◌, ◌&&◌, List, length, get_or, drop, Option, Some, None, refl, sym, ap, ◌∙◌, arith}
use Rattle.std.proofs.Math.ListN.{drop_of_length-le}
use Rattle.std.proofs.lemmas.Bool.{and_left, eq-eqb, ne_eqb}
use Rattle.std.proofs.lemmas.List.{drop_more}
use Rattle.std.specs.List.{filter_map, cons_option}
use Rattle.srv6_rules.specs.declared.sid.SidEntry.{SidEntry}
use Rattle.net_model.specs.NetworkRulesTerms.{title_of}
use Rattle.net_model.specs.NetworkJudgingTerms.{are_numbers}

-- the titles of the first i SIDs are numbered, and what is left gives the rest
pub record HasNumbered (count : ℕ) (sids : List SidEntry) (i next : ℕ) : Type 0 where
  pub few : next ≤ i
  pub same : are_numbers next count (filter_map title_of (drop i sids)) ≡ are_numbers 0 count (filter_map title_of sids)

pub numbers_start : (count : ℕ) (sids : List SidEntry) → HasNumbered count sids 0 0
numbers_start count sids = record { few = omega arith; same = refl }

left : (sids : List SidEntry) (i : ℕ) (s : SidEntry) (o : Option ℕ) → i < length sids → s ≡ get_or sids i s → s.title ≡ o
    → filter_map title_of (drop i sids) ≡ cons_option o (filter_map title_of (drop (i + 1) sids))
left sids i s o within is has = rw (drop_more sids i s within, ← is, has) refl

pub numbers_pass : (count : ℕ) (sids : List SidEntry) (i next : ℕ) (s : SidEntry) → HasNumbered count sids i next → i < length sids
    → s ≡ get_or sids i s → s.title ≡ None → HasNumbered count sids (i + 1) next
numbers_pass count sids i next s so_far within is has = record {
  few = omega (arith, so_far.few);
  same = ap (are_numbers next count) (sym (left sids i s None within is has)) ∙ so_far.same;
}

pub numbers_more : (count : ℕ) (sids : List SidEntry) (i next : ℕ) (s : SidEntry) (n : ℕ) → HasNumbered count sids i next → i < length sids
    → s ≡ get_or sids i s → s.title ≡ Some n → n ≡ next → HasNumbered count sids (i + 1) (next + 1)
numbers_more count sids i next s n so_far within is has e =
    let rest = filter_map title_of (drop (i + 1) sids) in
    record {
      few = omega (arith, so_far.few);
      same = sym (ap (λ b. b && are_numbers (next + 1) count rest) (eq-eqb n next e))
          ∙ (ap (are_numbers next count) (sym (left sids i s (Some n) within is has)) ∙ so_far.same);
    }

pub numbers_stop : (count : ℕ) (sids : List SidEntry) (i next : ℕ) (s : SidEntry) (n : ℕ) → HasNumbered count sids i next → i < length sids
    → s ≡ get_or sids i s → s.title ≡ Some n → (n ≡ next → ⊥) → are_numbers 0 count (filter_map title_of sids) ≡ false
numbers_stop count sids i next s n so_far within is has apart =
    sym so_far.same ∙ (ap (are_numbers next count) (left sids i s (Some n) within is has) ∙ and_left (n == next) _ (ne_eqb n next apart))

pub numbers_end : (count : ℕ) (sids : List SidEntry) (i next : ℕ) → HasNumbered count sids i next → length sids ≤ i
    → are_numbers 0 count (filter_map title_of sids) ≡ (next == count)
numbers_end count sids i next so_far past =
    sym so_far.same ∙ ap (λ rest. are_numbers next count (filter_map title_of rest)) (drop_of_length-le sids past)

pub ruleset numbering = (numbers_start, numbers_pass, numbers_more, numbers_stop, numbers_end)
