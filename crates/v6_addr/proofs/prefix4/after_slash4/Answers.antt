use Rattle.std.proofs.Common.{◌≡◌, suc, ◌+◌, drop, ap, ◌∙◌, refl, arith}
use Rattle.std.proofs.lemmas.Bool.{false≢true}
use Rattle.v6_addr.proofs.PrefixFaults4.{length_refused, bits_refused, prefix4_made}
use Rattle.v6_addr.proofs.prefix4.after_slash4.Goals as goal

pub returns-in-None : goal.returns-in-None
returns-in-None c =
    let at = c.args.at in
    let next : at + 1 ≡ suc at = omega arith in
    length_refused c.args.text.now _ at c.args.value c.length_beginning.result c.requires.longest c.requires.inside c.requires.slash
    c.requires.address (c.split_at.ensures.back ∙ ap (λ n. drop n c.args.text.now) next) c.in-None.ensures c.length_beginning.ensures

pub returns-in-Some-new : goal.returns-in-Some-new
returns-in-Some-new c =
    let at = c.args.at in
    let next : at + 1 ≡ suc at = omega arith in
    prefix4_made c.args.text.now _ at c.args.value c.in-Some.len c.requires.inside c.requires.slash c.requires.address
    (c.split_at.ensures.back ∙ ap (λ n. drop n c.args.text.now) next) c.in-Some.ensures _ c.in-Some-new.ensures.value
    (c.in-Some-new.ensures.is_prefix.0 refl)

pub returns-in-None-new : goal.returns-in-None-new
returns-in-None-new c =
    let at = c.args.at in
    let next : at + 1 ≡ suc at = omega arith in
    bits_refused c.args.text.now _ at c.args.value c.in-Some.len c.requires.longest c.requires.inside c.requires.slash
    c.requires.address (c.split_at.ensures.back ∙ ap (λ n. drop n c.args.text.now) next) c.in-Some.ensures
    (λ valid. false≢true (c.in-None-new.ensures.is_prefix.1 valid))
