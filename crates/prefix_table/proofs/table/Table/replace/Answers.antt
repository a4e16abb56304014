use Rattle.std.proofs.Common.{◌≡◌, slice_get, slice_set, Some, None, refl, sym, ap, ◌∙◌, subst}
use Rattle.std.proofs.lemmas.Option.{slice_get-get_or}
use Rattle.prefix_table.specs.PrefixTable.{value_at, with_value}
use Rattle.prefix_table.specs.Index.{key_of, place_at}
use Rattle.prefix_table.proofs.TableEditLemmas.{with_none, value_none}
use Rattle.prefix_table.proofs.TablePlaceLemmas.{place_is_within, value_there, with_replaced, whole_replaced, none_there}
use Rattle.prefix_table.proofs.table.Table.replace.Goals as goal

pub invariant_of-self : goal.invariant_of-self
invariant_of-self g c =
    let index = c.self.inside.index in
    let p = c.args.p.now in
    let es = c.self.inside.entries.items in
    let at : place_at index (key_of p) ≡ Some c.in-Some.place =
    ap (place_at index) (sym c.key_of.ensures.key) ∙ sym c.in-Some.ensures in
    whole_replaced es index p (slice_set es c.in-Some.place (p, c.args.t)) c.in-Some.place c.args.t c.self.invariant
    c.key_of.ensures.is_prefix at refl

pub returns-in-None-clause-value : goal.returns-in-None-clause-value
returns-in-None-clause-value g c =
    let index = c.self.inside.index in
    let p = c.args.p.now in
    let none = none_there c.self.inside.entries.items index p c.self.invariant
    (ap (place_at index) (sym c.key_of.ensures.key) ∙ sym c.in-None.ensures) in
    subst (λ xs. None ≡ value_at xs p) c.self.view_is (sym (value_none c.self.inside.entries.items p none))

pub returns-in-None-clause-entries : goal.returns-in-None-clause-entries
returns-in-None-clause-entries g c =
    let index = c.self.inside.index in
    let p = c.args.p.now in
    let none = none_there c.self.inside.entries.items index p c.self.invariant
    (ap (place_at index) (sym c.key_of.ensures.key) ∙ sym c.in-None.ensures) in
    subst (λ xs. xs ≡ with_value xs p c.args.t) c.self.view_is (sym (with_none c.self.inside.entries.items p c.args.t none))

pub returns-in-Some-clause-value : goal.returns-in-Some-clause-value
returns-in-Some-clause-value g c =
    let index = c.self.inside.index in
    let p = c.args.p.now in
    let es = c.self.inside.entries.items in
    let at : place_at index (key_of p) ≡ Some c.in-Some.place =
    ap (place_at index) (sym c.key_of.ensures.key) ∙ sym c.in-Some.ensures in
    let within = place_is_within es index p c.in-Some.place c.self.invariant c.key_of.ensures.is_prefix at in
    let there : slice_get es c.in-Some.place ≡ Some c.index.result.now =
    slice_get-get_or es c.in-Some.place c.index.result.now within ∙ ap Some (sym c.index.ensures) in
    subst (λ xs. Some c.index.result.now.1 ≡ value_at xs p) c.self.view_is
    (sym (value_there es index p c.in-Some.place c.index.result.now c.self.invariant c.key_of.ensures.is_prefix at there))

pub returns-in-Some-clause-entries : goal.returns-in-Some-clause-entries
returns-in-Some-clause-entries g c =
    let index = c.self.inside.index in
    let p = c.args.p.now in
    let es = c.self.inside.entries.items in
    let at : place_at index (key_of p) ≡ Some c.in-Some.place =
    ap (place_at index) (sym c.key_of.ensures.key) ∙ sym c.in-Some.ensures in
    subst (λ xs. slice_set es c.in-Some.place (p, c.args.t) ≡ with_value xs p c.args.t) c.self.view_is
    (with_replaced es index p c.in-Some.place c.args.t c.self.invariant c.key_of.ensures.is_prefix at)
