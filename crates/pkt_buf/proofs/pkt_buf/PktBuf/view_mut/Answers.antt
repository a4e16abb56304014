use Rattle.std.proofs.Common.{◌≡◌, ◌-◌, ◌≤◌, ◌++◌, ◌∙◌, List, ℕ, length, take, drop, refl, ap, arith, length-drop}
use Rattle.std.proofs.lemmas.List.{take_all}
use Rattle.pkt_buf.specs.BufferView.{Buffer}
use Rattle.pkt_buf.specs.BufferLending.{left_in}
use Rattle.pkt_buf.proofs.BufferLemmas.{same_buffer, lent_behind}
use Rattle.pkt_buf.proofs.pkt_buf.PktBuf.view_mut.Goals as goal

pub returns : goal.returns
returns c =
    let b : Buffer = c.args.self.now in
    let front : ℕ = c.self.inside.front in
    let held : List ℕ = c.self.inside.held.items in
    let len : ℕ = c.self.inside.held.len in
    let bytes : drop front held ≡ b.bytes = ap (λ (v : Buffer). v.bytes) c.self.view_is in
    let room : front ≡ b.front = ap (λ (v : Buffer). v.front) c.self.view_is in
    let whole : len ≡ length held = c.self.inside.held.ok.0 in
    let spare : front ≤ len = c.self.invariant in
    let within : front ≤ length held = omega arith in
    let lent : List ℕ → List ℕ = λ w. take front held ++ (w ++ drop (length w) (drop front held)) in
    let back : (w : List ℕ) → drop front (take len (lent w ++ drop (length (lent w)) held)) ≡ left_in b.bytes w =
    λ w. ap (λ n. drop front (take n (lent w ++ drop (length (lent w)) held))) whole
    ∙ lent_behind front held w within ∙ ap (λ xs. left_in xs w) bytes in
    let value : c.slice_mut.result.now ≡ b.bytes =
    c.slice_mut.ensures.value ∙ take_all (len - front) (drop front held) (omega (arith, length-drop front held)) ∙ bytes in (
      (
        refl,
        λ w. same_buffer (record { bytes = left_in b.bytes w; front = b.front })
            (drop front (take len (lent w ++ drop (length (lent w)) held))) front (back w) room,
      ),
      record { writes_back = tt; value = value },
    )
