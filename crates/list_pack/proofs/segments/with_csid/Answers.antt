use Rattle.std.proofs.Common.{◌≡◌, ℕ, ◌+◌, ◌*◌, ◌^◌, ◌<◌, ◌∙◌, sym, ap, subst}
use Rattle.v6_addr.specs.Address.{field_of}
use Rattle.list_pack.proofs.ValueSums.{put_before, below_before, csid_of_long}
use Rattle.list_pack.proofs.segments.with_csid.Goals as goal

pub returns-clause-value : goal.returns-clause-value
returns-clause-value c =
    let csid : c.field-csid.result ≡ field_of c.args.sid.now.value c.args.block.now.prefix.len c.args.block.now.csid =
    cc (c.field-csid.ensures.value, c.value.ensures.value, c.len.ensures.len) in
    c.with_field.ensures.value
    ∙ put_before c.args.entry.value c.args.behind c.args.block.now.csid c.field-csid.result c.requires.fits c.requires.below
    ∙ ap (λ (n : ℕ). n * 2 ^ c.args.behind + c.args.entry.value)
    (csid ∙ csid_of_long c.args.block.now.prefix.len c.args.block.now.csid c.args.sid.now c.requires.long)

pub returns-clause-below : goal.returns-clause-below
returns-clause-below c =
    let is : c.with_field.result.value ≡ c.field-csid.result * 2 ^ c.args.behind + c.args.entry.value =
    c.with_field.ensures.value
    ∙ put_before c.args.entry.value c.args.behind c.args.block.now.csid c.field-csid.result c.requires.fits c.requires.below in
    subst (λ (n : ℕ). n < 2 ^ (c.args.behind + c.args.block.now.csid)) (sym is)
    (below_before c.args.entry.value c.args.behind c.args.block.now.csid c.field-csid.result c.requires.below c.field-csid.ensures.fits)
