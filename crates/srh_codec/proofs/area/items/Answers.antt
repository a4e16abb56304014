use Rattle.std.proofs.Common.{◌≡◌, List, ℕ, ◌+◌, ◌<◌, length, sym, ap, ◌∙◌, arith, None}
use Rattle.srv6_rules.specs.Areas.{area_fault, tlv_fault}
use Rattle.ip6_headers.specs.Items.{IsItem}
use Rattle.ip6_headers.proofs.PublicLaws.{area_behind}
use Rattle.srh_codec.proofs.ItemLemmas.{tlv_none}
use Rattle.srh_codec.proofs.area.items.Goals as goal

pub items-preserved : goal.items-preserved
items-preserved c =
    let rest : List ℕ = c.items.rest.now in
    let item : IsItem rest c.in-Some.len = c.in-Some.ensures in
    let least = item.least in
    let within = item.within in
    let some : 0 < length rest = omega arith in
    let none : tlv_fault c.items.at rest ≡ None = tlv_none c.items.at rest c.if-rest-eq-HMAC.false item.fits in
    record {
      same = c.items.invariant.same ∙ area_behind tlv_fault c.items.at rest c.in-Some.len some none item.stated
          ∙ ap (area_fault tlv_fault 0 (c.items.at + c.in-Some.len)) (sym c.split_at.ensures.back);
      fits = omega arith;
    }
