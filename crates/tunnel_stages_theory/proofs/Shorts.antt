-- How many stages in a row have a header in front.
use Rattle.std.proofs.Common.{◌≡◌, ℕ, ◌+◌, ◌<◌, ◌≤◌, List, [], ◌∷◌, ◌++◌, length, refl, sym, ◌∙◌, ap, subst, arith, append_assoc, length-append}
use Rattle.srv6_rules.specs.Packet.{Packet}
use Rattle.binding_spec.specs.TunnelWalks.{TunnelStage}
use Rattle.binding_spec.specs.OwnHands.{behind_push}
use Rattle.tunnel_stages_theory.specs.OwnHandSentence.{HaveHeaders}

-- the count of stages behind a push stays within the limit
abbrev pub ShortFrom : ℕ → List TunnelStage → Type 0
ShortFrom n [] = Unit {0}
ShortFrom n (s ∷ ss) = (behind_push n s.under + 1 ≤ 1000) × ShortFrom (behind_push n s.under) ss

push_one : (n : ℕ) (under : List Packet) → 0 < length under → behind_push n under ≡ n + 1
push_one n [] some = absurd (omega arith)
push_one n (q ∷ under) some = refl

short_front : (n : ℕ) (front xs : List TunnelStage) → n + 1 ≤ 1000 → ShortFrom n (front ++ xs)
    → (m : ℕ) × (m + 1 ≤ 1000) × ShortFrom m xs
short_front n [] xs few short = (n, few, short)
short_front n (s ∷ front) xs few short = short_front (behind_push n s.under) front xs short.0 short.1

short_run : (n : ℕ) (mid back : List TunnelStage) → n + 1 ≤ 1000 → ShortFrom n (mid ++ back) → HaveHeaders mid → n + length mid + 1 ≤ 1000
short_run n [] back few short headers = omega (arith, few)
short_run n (s ∷ mid) back few short headers =
    let one = push_one n s.under headers.0 in
    let rest = short_run (behind_push n s.under) mid back short.0 short.1 headers.1 in
    omega (arith, one, rest)

pub short_down : (stages front mid back : List TunnelStage) → ShortFrom 0 stages → stages ≡ front ++ (mid ++ back) → HaveHeaders mid
    → length mid < 1000
short_down stages front mid back short split headers =
    let behind = short_front 0 front (mid ++ back) (omega arith) (subst (λ xs. ShortFrom 0 xs) split short) in
    let run = short_run behind.0 mid back behind.1 behind.2 headers in
    omega (arith, run)

headers_join : (run : List TunnelStage) (s : TunnelStage) → HaveHeaders run → 0 < length s.under → HaveHeaders (run ++ s ∷ [])
headers_join [] s headers some = (some, tt)
headers_join (r ∷ run) s headers some = (headers.0, headers_join run s headers.1 some)

-- no so many stages in a row have a header in front
abbrev pub NoLongRun : List TunnelStage → Type 0
NoLongRun stages = (front mid back : List TunnelStage) → stages ≡ front ++ (mid ++ back) → HaveHeaders mid → length mid < 1000

-- one stage more, with stages in front, of which the last ones have headers
module _ (s : TunnelStage) (ss : List TunnelStage)
    (rest : (pre run : List TunnelStage) → HaveHeaders run → NoLongRun (pre ++ (run ++ ss)) → ShortFrom (length run) ss)
    (pre run : List TunnelStage) (headers : HaveHeaders run) (few : NoLongRun (pre ++ (run ++ s ∷ ss))) where
  moved : run ++ s ∷ ss ≡ (run ++ s ∷ []) ++ ss
  moved = sym (append_assoc run (s ∷ []) ss)

  counted_on : (n : ℕ) → behind_push (length run) s.under ≡ n → n + 1 ≤ 1000 → ShortFrom n ss
      → (behind_push (length run) s.under + 1 ≤ 1000) × ShortFrom (behind_push (length run) s.under) ss
  counted_on n is within short = (omega (arith, is, within), subst (λ k. ShortFrom k ss) (sym is) short)

  short_stage : (under : List Packet) → s.under ≡ under
      → (behind_push (length run) s.under + 1 ≤ 1000) × ShortFrom (behind_push (length run) s.under) ss
  short_stage [] bare =
      counted_on 0 (ap (behind_push (length run)) bare) (omega arith)
      (rest (pre ++ (run ++ s ∷ [])) [] tt
      (λ front mid back split. few front mid back
      (ap (λ xs. pre ++ xs) moved ∙ sym (append_assoc pre (run ++ s ∷ []) ss) ∙ split)))
  short_stage (q ∷ under) is =
      let some : 0 < length s.under = subst (λ (u : List Packet). 0 < length u) (sym is) (omega arith) in
      let joined = headers_join run s headers some in
      let len = length-append run (s ∷ []) in
      let split : pre ++ (run ++ s ∷ ss) ≡ pre ++ ((run ++ s ∷ []) ++ ss) = ap (λ xs. pre ++ xs) moved in
      let bound = few pre (run ++ s ∷ []) ss split joined in
      counted_on (length (run ++ s ∷ [])) (push_one (length run) s.under some ∙ omega (arith, len)) (omega (arith, bound))
      (rest pre (run ++ s ∷ []) joined (λ front mid back e. few front mid back (split ∙ e)))

short_behind : (stages pre run : List TunnelStage) → HaveHeaders run → NoLongRun (pre ++ (run ++ stages)) → ShortFrom (length run) stages
short_behind [] pre run headers few = tt
short_behind (s ∷ ss) pre run headers few =
    short_stage s ss (λ front last. short_behind ss front last) pre run headers few s.under refl

pub short_up : (stages : List TunnelStage) → NoLongRun stages → ShortFrom 0 stages
short_up stages few = short_behind stages [] [] tt few
