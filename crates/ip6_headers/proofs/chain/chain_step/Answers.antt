use Rattle.std.proofs.Common.{◌≡◌, ◌∙◌, List, ℕ, take, drop, false, ap, subst, sym, Ok, Err}
use Rattle.srv6_rules.specs.Chain.{ChainPlace, is_whole, behind_in}
use Rattle.srv6_rules.specs.ChainTerms.{place_behind}
use Rattle.ip6_headers.specs.declared.chain.ChainStep.TheVariants as steps
use Rattle.ip6_headers.specs.ChainStepping.{IsHeader, place_view}
use Rattle.ip6_headers.proofs.ChainSteps.{behind_whole, step_begun}
use Rattle.ip6_headers.proofs.chain.chain_step.Goals as goal

pub returns-in-Header : goal.returns-in-Header
returns-in-Header c =
    let q : ChainPlace = place_view c.args.place in
    let n : ℕ = c.in-Header.len in
    let rest : List ℕ = drop c.args.place.at c.args.bytes.now in
    let P : List ℕ → Type 0 = λ xs. IsHeader c.args.place.kind xs n in
    let header : IsHeader c.args.place.kind rest n = subst P c.split_at.ensures.back c.in-Header.ensures in
    let on : place_view c.behind.result ≡ behind_in q rest =
    c.behind.ensures
    ∙ ap (λ xs. place_behind (record { place = q; bytes = xs })) (c.split_at-in-Header.ensures.front ∙ ap (take n) c.split_at.ensures.back)
    ∙ behind_whole q rest n header in
    record {
      step = (header, on);
      chain = λ p start payload. step_begun p c.args.bytes.now q start payload (Ok (steps.Header n c.behind.result)) (header, on);
    }

pub returns-in-Upper : goal.returns-in-Upper
returns-in-Upper c =
    let q : ChainPlace = place_view c.args.place in
    record {
      step = c.in-Upper.ensures;
      chain = λ p start payload. step_begun p c.args.bytes.now q start payload (Ok steps.Upper) c.in-Upper.ensures;
    }

pub returns-in-Cut : goal.returns-in-Cut
returns-in-Cut c =
    let q : ChainPlace = place_view c.args.place in
    let cut : is_whole c.args.place.kind (drop c.args.place.at c.args.bytes.now) ≡ false =
    ap (is_whole c.args.place.kind) (sym c.split_at.ensures.back) ∙ c.in-Cut.ensures.1 in
    record {
      step = (c.in-Cut.ensures.0, cut);
      chain = λ p start payload. step_begun p c.args.bytes.now q start payload (Err (record {})) (c.in-Cut.ensures.0, cut);
    }
