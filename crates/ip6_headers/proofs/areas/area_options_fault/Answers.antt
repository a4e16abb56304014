use Rattle.std.proofs.Common.{◌≡◌, List, ℕ, ◌+◌, ◌<◌, length, sym, refl, ap, ◌∙◌, arith, None}
use Rattle.srv6_rules.specs.Areas.{area_fault, option_fault}
use Rattle.ip6_headers.specs.Items.{IsItem}
use Rattle.ip6_headers.proofs.AreaLemmas.{area_behind}
use Rattle.ip6_headers.proofs.areas.area_options_fault.Goals as goal

pub options-preserved : goal.options-preserved
options-preserved c =
    let rest : List ℕ = c.options.rest.now in
    let item : IsItem rest c.in-Some.len = c.in-Some.ensures in
    let least = item.least in
    let within = item.within in
    let some : 0 < length rest = omega arith in
    let none : option_fault c.options.at rest ≡ None = sym (c.in_default-option_fault.ensures rest refl item.fits) in
    record {
      same = c.options.invariant.same ∙ area_behind option_fault c.options.at rest c.in-Some.len some none item.stated
          ∙ ap (area_fault option_fault 0 (c.options.at + c.in-Some.len)) (sym c.split_at.ensures.back);
      fits = omega arith;
    }
