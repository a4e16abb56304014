use Rattle.std.proofs.Common.{◌≡◌, ap, ap₂, ◌∙◌}
use Rattle.std.specs.Ordering.{is_gt}
use Rattle.update_joined.specs.PrefixKeys.{prefix_key_cmp, key_of}
use Rattle.update_joined.proofs.PrefixLemmas.{keys_rise}
use Rattle.update_joined.proofs.prefix_index.has_inside.Goals as goal

pub range-requires : goal.range-requires
range-requires c =
    let a = c.args.a.now in
    let first = c.new.ensures.start ∙ (c.key_of-first.ensures ∙ ap (key_of a 128) c.value.ensures.value) in
    let last = c.new.ensures.end ∙ c.key_of-last.ensures in
    ap₂ (λ k l. is_gt (prefix_key_cmp k l)) first last ∙ keys_rise a 128 a.prefix.value c.last_of.result c.last_of.ensures.first

pub returns-in-None : goal.returns-in-None
returns-in-None c = λ no value within held.
    let a = c.args.a.now in
    let both = c.last_of.ensures.all value within held in
    let first = c.new.ensures.start ∙ (c.key_of-first.ensures ∙ ap (key_of a 128) c.value.ensures.value) in
    let last = c.new.ensures.end ∙ c.key_of-last.ensures in
    (c.range.ensures.in_range c.new.ensures.exhausted).5 c.in-None.ensures.steps.0 (key_of a 128 value) (
      ap (λ k. is_gt (prefix_key_cmp k (key_of a 128 value))) first ∙ keys_rise a 128 a.prefix.value value both.0,
      ap (λ k. is_gt (prefix_key_cmp (key_of a 128 value) k)) last ∙ keys_rise a 128 value c.last_of.result both.1,
    )
