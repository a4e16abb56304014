use Rattle.std.proofs.Common.{◌≡◌, [], true, false, Bool, ◌&&◌, refl, sym, ap, ◌∙◌, subst}
use Rattle.std.specs.Prelude.{◌↔◌, not}
use Rattle.std.specs.List.{list_any}
use Rattle.std.specs.contracts.prelude as prelude
use Rattle.net_model.specs.NetworkTerms.{hidden_hits}
use Rattle.net_model.proofs.HiddenLemmas.{whole_is}
use Rattle.net_model.proofs.hidden.hides_nothing.Goals as goal

abbrev is_set : Bool → Bool
is_set y = prelude.BoolPartialEq.TheImpl.ghosts.eq y true

pub returns-then-not-contains : goal.returns-then-not-contains
returns-then-not-contains c =
    let sids : c.contains.result ≡ list_any is_set c.args.hidden.now.sids.items =
    c.contains.ensures.value ∙ ap (list_any is_set) c.deref.ensures.value in
    let routes : c.contains-then-not-contains.result ≡ list_any is_set c.args.hidden.now.routes.items =
    c.contains-then-not-contains.ensures.value ∙ ap (list_any is_set) c.deref-then-not-contains.ensures.value in
    let none : list_any is_set c.args.hidden.now.sids.items ≡ false = sym sids ∙ c.if-not-contains.true in
    let both : (not (list_any is_set c.args.hidden.now.sids.items) && not (list_any is_set c.args.hidden.now.routes.items))
    ≡ not c.contains-then-not-contains.result = rw none (ap not (sym routes)) in
    subst (λ b. (b ≡ true) ↔ (hidden_hits c.args.hidden.now ≡ [])) both (whole_is is_set refl refl c.args.hidden.now)

pub returns-else-not-contains : goal.returns-else-not-contains
returns-else-not-contains c =
    let sids : c.contains.result ≡ list_any is_set c.args.hidden.now.sids.items =
    c.contains.ensures.value ∙ ap (list_any is_set) c.deref.ensures.value in
    let some : list_any is_set c.args.hidden.now.sids.items ≡ true = sym sids ∙ c.if-not-contains.false in
    let both : (not (list_any is_set c.args.hidden.now.sids.items) && not (list_any is_set c.args.hidden.now.routes.items))
    ≡ not c.contains.result = rw some (ap not (sym c.if-not-contains.false)) in
    subst (λ b. (b ≡ true) ↔ (hidden_hits c.args.hidden.now ≡ [])) both (whole_is is_set refl refl c.args.hidden.now)
