use Rattle.std.proofs.Common.{◌≡◌, slice_get, Some, None, refl, sym, ap, arith, ◌∙◌, subst}
use Rattle.std.specs.Prelude.{if◌then◌else◌}
use Rattle.std.specs.List.{swap_remove}
use Rattle.std.proofs.lemmas.Option.{slice_get-get_or}
use Rattle.prefix_table.specs.PrefixTable.{is_one_prefix, value_at}
use Rattle.prefix_table.specs.Index.{key_of, place_at, IsTold}
use Rattle.prefix_table.proofs.IndexLemmas.{taken_none, whole_same}
use Rattle.prefix_table.proofs.TableEditLemmas.{value_none, value_absent}
use Rattle.prefix_table.proofs.TablePlaceLemmas.{place_is_within, prefix_there, value_there, none_there}
use Rattle.prefix_table.proofs.SwapLemmas.{swapped_as, value_swapped, has_place_left, whole_swapped}
use Rattle.prefix_table.proofs.table.Table.swap_remove.Goals as goal

pub invariant_of-self : goal.invariant_of-self
invariant_of-self g c =
    let es = c.self.inside.entries.items in
    let index = c.self.inside.index in
    whole_same es es index c.take.new.self c.self.invariant c.take.ensures.lengths refl
    (taken_none index c.take.new.self c.key_of.result c.take.ensures.gone (sym c.in-None.ensures.place))

pub swap_remove-gone-requires : goal.swap_remove-gone-requires
swap_remove-gone-requires g c =
    let es = c.self.inside.entries.items in
    let index = c.self.inside.index in
    let p = c.args.p.now in
    let at : place_at index (key_of p) ≡ Some c.in-Some.place =
    ap (place_at index) (sym c.key_of.ensures.key) ∙ sym c.in-Some.ensures.place in
    let within = place_is_within es index p c.in-Some.place c.self.invariant c.key_of.ensures.is_prefix at in
    let long = c.self.inside.entries.ok.0 in omega (arith, long, within)

pub tell_place-requires-clause-there : goal.tell_place-requires-clause-there
tell_place-requires-clause-there g c = λ f left.
    let es = c.self.inside.entries.items in
    let index = c.self.inside.index in
    let p = c.args.p.now in
    let place = c.in-Some.place in
    let e = c.swap_remove-gone.result in
    let at : place_at index (key_of p) ≡ Some place =
    ap (place_at index) (sym c.key_of.ensures.key) ∙ sym c.in-Some.ensures.place in
    let within = place_is_within es index p place c.self.invariant c.key_of.ensures.is_prefix at in
    let there : slice_get es place ≡ Some e = slice_get-get_or es place e within ∙ ap Some (sym c.swap_remove-gone.ensures.value) in
    let is_left : c.deref.result.now ≡ swap_remove es place e = c.deref.ensures.value ∙ c.swap_remove-gone.ensures.items in
    has_place_left es index c.take.new.self c.key_of.result place e c.self.invariant.places (sym c.in-Some.ensures.place) there
    c.take.ensures.gone f (subst (λ xs. slice_get xs place ≡ Some f) is_left left)

pub invariant_of-self-in-Some : goal.invariant_of-self-in-Some
invariant_of-self-in-Some g c =
    let es = c.self.inside.entries.items in
    let index = c.self.inside.index in
    let p = c.args.p.now in
    let place = c.in-Some.place in
    let e = c.swap_remove-gone.result in
    let at : place_at index (key_of p) ≡ Some place =
    ap (place_at index) (sym c.key_of.ensures.key) ∙ sym c.in-Some.ensures.place in
    let within = place_is_within es index p place c.self.invariant c.key_of.ensures.is_prefix at in
    let there : slice_get es place ≡ Some e = slice_get-get_or es place e within ∙ ap Some (sym c.swap_remove-gone.ensures.value) in
    let is_left : c.deref.result.now ≡ swap_remove es place e = c.deref.ensures.value ∙ c.swap_remove-gone.ensures.items in
    let now = c.tell_place.new.index in
    whole_swapped es index c.take.new.self c.key_of.result place e c.self.invariant.places (sym c.in-Some.ensures.place) there
    c.take.ensures.gone now (subst (λ xs. IsTold xs c.take.new.self now place) is_left c.tell_place.ensures.told)
    c.swap_remove-gone.new.self.items c.swap_remove-gone.ensures.items c.self.invariant.table c.tell_place.ensures.lengths

pub returns-in-None-clause-value : goal.returns-in-None-clause-value
returns-in-None-clause-value g c =
    let es = c.self.inside.entries.items in
    let index = c.self.inside.index in
    let p = c.args.p.now in
    let none = none_there es index p c.self.invariant
    (ap (place_at index) (sym c.key_of.ensures.key) ∙ sym c.in-None.ensures.place) in
    subst (λ xs. None ≡ value_at xs p) c.self.view_is (sym (value_none es p none))

pub returns-in-None-clause-others : goal.returns-in-None-clause-others
returns-in-None-clause-others g c = λ q.
    let es = c.self.inside.entries.items in
    let index = c.self.inside.index in
    let p = c.args.p.now in
    let none = none_there es index p c.self.invariant
    (ap (place_at index) (sym c.key_of.ensures.key) ∙ sym c.in-None.ensures.place) in
    subst (λ xs. value_at es q ≡ (if is_one_prefix p q then None else value_at xs q)) c.self.view_is (value_absent es p q none)

pub returns-in-Some-clause-value : goal.returns-in-Some-clause-value
returns-in-Some-clause-value g c =
    let es = c.self.inside.entries.items in
    let index = c.self.inside.index in
    let p = c.args.p.now in
    let place = c.in-Some.place in
    let e = c.swap_remove-gone.result in
    let at : place_at index (key_of p) ≡ Some place =
    ap (place_at index) (sym c.key_of.ensures.key) ∙ sym c.in-Some.ensures.place in
    let within = place_is_within es index p place c.self.invariant c.key_of.ensures.is_prefix at in
    let there : slice_get es place ≡ Some e = slice_get-get_or es place e within ∙ ap Some (sym c.swap_remove-gone.ensures.value) in
    subst (λ xs. Some e.1 ≡ value_at xs p) c.self.view_is
    (sym (value_there es index p place e c.self.invariant c.key_of.ensures.is_prefix at there))

pub returns-in-Some-clause-gone : goal.returns-in-Some-clause-gone
returns-in-Some-clause-gone g c =
    let es = c.self.inside.entries.items in
    let index = c.self.inside.index in
    let p = c.args.p.now in
    let place = c.in-Some.place in
    let e = c.swap_remove-gone.result in
    let left = c.swap_remove-gone.new.self.items in
    let at : place_at index (key_of p) ≡ Some place =
    ap (place_at index) (sym c.key_of.ensures.key) ∙ sym c.in-Some.ensures.place in
    let within = place_is_within es index p place c.self.invariant c.key_of.ensures.is_prefix at in
    let there : slice_get es place ≡ Some e = slice_get-get_or es place e within ∙ ap Some (sym c.swap_remove-gone.ensures.value) in
    let is_p = prefix_there es index p place e c.self.invariant c.key_of.ensures.is_prefix at there in
    let as_p = swapped_as es left place e p is_p there c.swap_remove-gone.ensures.items in (
      place,
      subst (λ xs. slice_get xs place ≡ Some (p, e.1)) c.self.view_is as_p.0,
      subst (λ xs. left ≡ swap_remove xs place (p, e.1)) c.self.view_is as_p.1,
    )

pub returns-in-Some-clause-others : goal.returns-in-Some-clause-others
returns-in-Some-clause-others g c = λ q.
    let es = c.self.inside.entries.items in
    let index = c.self.inside.index in
    let p = c.args.p.now in
    let place = c.in-Some.place in
    let e = c.swap_remove-gone.result in
    let left = c.swap_remove-gone.new.self.items in
    let at : place_at index (key_of p) ≡ Some place =
    ap (place_at index) (sym c.key_of.ensures.key) ∙ sym c.in-Some.ensures.place in
    let within = place_is_within es index p place c.self.invariant c.key_of.ensures.is_prefix at in
    let there : slice_get es place ≡ Some e = slice_get-get_or es place e within ∙ ap Some (sym c.swap_remove-gone.ensures.value) in
    let is_p = prefix_there es index p place e c.self.invariant c.key_of.ensures.is_prefix at there in
    let as_p = swapped_as es left place e p is_p there c.swap_remove-gone.ensures.items in
    subst (λ xs. value_at left q ≡ (if is_one_prefix p q then None else value_at xs q)) c.self.view_is
    (ap (λ xs. value_at xs q) as_p.1 ∙ value_swapped es place p q e.1 c.self.invariant.table as_p.0)
