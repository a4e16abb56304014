use Rattle.std.proofs.Common.{◌≡◌, ℕ, Bool, true, not, is_ok, if◌then◌else◌, List, ◌++◌, length, vec_len, take, min, ap, ◌∙◌, arith}
use Rattle.line_talk.specs.MemTalk.{MemTalk, told}
use Rattle.line_talk.proofs.Asks.{says, within_more}
use Rattle.line_talk.proofs.mem_client.MemClientClient.say.Goals as goal

pub returns-clause-talk : goal.returns-clause-talk
returns-clause-talk c =
    let v = c.self.inside in
    let part = take c.min-count.result c.args.piece.now in
    let ok : is_ok c.extend_from_slice.result ≡ true = c.is_err.ensures.negation ∙ ap not c.if-is_err.false in
    let new : c.extend_from_slice.new.self.items ≡ v.taken.items ++ part =
    c.extend_from_slice.ensures.items ∙ ap (λ (b : Bool). if b then v.taken.items ++ c.split_at.result.0.now else v.taken.items) ok
    ∙ ap (λ (l : List ℕ). v.taken.items ++ l) c.split_at.ensures.front in
    let within = within_more (vec_len v.taken) (length v.taken.items) v.asks.items (omega (arith, v.taken.ok.0)) c.self.invariant.2 in
    let same = says v.bytes.items v.taken.items part c.extend_from_slice.new.self.items v.given v.asks.items v.most v.passes v.ended v.read_failed v.write_failed c.args.self.now
    c.self.view_is within new in
    (omega (arith, c.min-count.ensures, c.requires, c.self.invariant.1), omega (arith, c.min-count.ensures), ap told same)

pub returns-clause-says : goal.returns-clause-says
returns-clause-says c =
    let v = c.self.inside in
    let part = take c.min-count.result c.args.piece.now in
    let ok : is_ok c.extend_from_slice.result ≡ true = c.is_err.ensures.negation ∙ ap not c.if-is_err.false in
    let new : c.extend_from_slice.new.self.items ≡ v.taken.items ++ part =
    c.extend_from_slice.ensures.items ∙ ap (λ (b : Bool). if b then v.taken.items ++ c.split_at.result.0.now else v.taken.items) ok
    ∙ ap (λ (l : List ℕ). v.taken.items ++ l) c.split_at.ensures.front in
    let within = within_more (vec_len v.taken) (length v.taken.items) v.asks.items (omega (arith, v.taken.ok.0)) c.self.invariant.2 in
    let same = says v.bytes.items v.taken.items part c.extend_from_slice.new.self.items v.given v.asks.items v.most v.passes v.ended v.read_failed v.write_failed c.args.self.now
    c.self.view_is within new in
    let passes : v.passes ≡ c.args.self.now.passes = ap (λ (m : MemTalk). m.passes) c.self.view_is in
    let most : v.most ≡ c.args.self.now.most = ap (λ (m : MemTalk). m.most) c.self.view_is in
    (omega (arith, c.if-self-eq0.false, passes), c.min-count.ensures ∙ ap (min (length c.args.piece.now)) most, same)
