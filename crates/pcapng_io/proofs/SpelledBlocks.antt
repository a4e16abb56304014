-- A block that is spelled, read back.
use Rattle.std.proofs.Common.{◌≡◌, ℕ, ◌+◌, ◌-◌, ◌%◌, ◌^◌, ◌<◌, ◌≤◌, Bool, true, List, [], ◌++◌, length, take, drop, Some, Ok, refl, sym, ap, ◌∙◌, arith, length-append}
use Rattle.std.proofs.lemmas.Bool.{le-ltb, le-leb, eq-eqb, and_from}
use Rattle.std.proofs.lemmas.List.{append_assoc, append-nil, take_at, drop_at, drop-drop}
use Rattle.pcap_io.specs.Numbers.{number_of, number_bytes}
use Rattle.pcap_io.proofs.CaptureNumberLemmas.{number_of_bytes, number_bytes_length}
use Rattle.pcapng_io.specs.declared.ng_block.BlockContent.{BlockContent}
use Rattle.pcapng_io.specs.declared.ng_block.BlockType.{BlockType}
use Rattle.pcapng_io.specs.declared.ng_block.Interface.{Interface}
use Rattle.pcapng_io.specs.declared.numbers.TheConstants.{MIN_BLOCK}
use Rattle.pcapng_io.specs.Blocks.{total_at, least_of, has_form, held, formed, whole_at}
use Rattle.pcapng_io.specs.Spelled.{block_bytes, FitsBody}

module _ (little : Bool) (kind : ℕ) (body rest : List ℕ) (fits : FitsBody body) where
  abbrev kind_bytes : List ℕ
  kind_bytes = number_bytes little 4 kind

  abbrev total_bytes : List ℕ
  total_bytes = number_bytes little 4 (length body + 12)

  pub whole_spelled : block_bytes little kind body ++ rest ≡ kind_bytes ++ (total_bytes ++ (body ++ (total_bytes ++ rest)))
  whole_spelled = simp append_assoc refl

  pub block_len : length (block_bytes little kind body) ≡ length body + 12
  block_len =
      let a = number_bytes_length little 4 kind in
      let b = number_bytes_length little 4 (length body + 12) in
      simp length-append (omega (arith, a, b))

  pub kind_at : kind < 2 ^ 32 → number_of little 4 (block_bytes little kind body ++ rest) ≡ kind
  kind_at below = ap (number_of little 4) whole_spelled ∙ number_of_bytes little 4 kind _ below

  behind_kind : drop 4 (block_bytes little kind body ++ rest) ≡ total_bytes ++ (body ++ (total_bytes ++ rest))
  behind_kind = ap (drop 4) whole_spelled ∙ drop_at kind_bytes _ 4 (number_bytes_length little 4 kind)

  total_is : total_at little (block_bytes little kind body ++ rest) ≡ length body + 12
  total_is = ap (number_of little 4) behind_kind ∙ number_of_bytes little 4 (length body + 12) _ fits.short

  pub body_behind : drop 8 (block_bytes little kind body ++ rest) ≡ body ++ (total_bytes ++ rest)
  body_behind =
      sym (drop-drop 4 4 (block_bytes little kind body ++ rest)) ∙ ap (drop 4) behind_kind
      ∙ drop_at total_bytes _ 4 (number_bytes_length little 4 (length body + 12))

  pub block_first : take (length body + 12) (block_bytes little kind body ++ rest) ≡ block_bytes little kind body
  block_first = take_at (block_bytes little kind body) rest (length body + 12) block_len

  pub block_behind : drop (length body + 12) (block_bytes little kind body ++ rest) ≡ rest
  block_behind = drop_at (block_bytes little kind body) rest (length body + 12) block_len

  last_total : number_of little 4 (drop (length (block_bytes little kind body) - 4) (block_bytes little kind body)) ≡ length body + 12
  last_total =
      let a = number_bytes_length little 4 kind in
      let b = number_bytes_length little 4 (length body + 12) in
      let front = kind_bytes ++ (total_bytes ++ body) in
      let split : block_bytes little kind body ≡ front ++ total_bytes = simp append_assoc refl in
      let count : length front ≡ length (block_bytes little kind body) - 4 = rw block_len (simp length-append (omega (arith, a, b))) in
      ap (λ bytes. number_of little 4 (drop (length (block_bytes little kind body) - 4) bytes)) split
      ∙ ap (number_of little 4) (drop_at front total_bytes (length (block_bytes little kind body) - 4) count)
      ∙ ap (number_of little 4) (sym (append-nil total_bytes))
      ∙ number_of_bytes little 4 (length body + 12) [] fits.short

  form_is : (least : ℕ) → least ≤ length body + 12 → has_form little least (block_bytes little kind body) ≡ true
  unfolding has_form
  form_is least enough =
      let len = block_len in
      let whole = fits.whole in
      let last : number_of little 4 (drop (length (block_bytes little kind body) - 4) (block_bytes little kind body))
      ≡ length (block_bytes little kind body) = last_total ∙ sym block_len in
      and_from _ _
      (and_from _ _ (eq-eqb (length (block_bytes little kind body) % 4) 0 (rw block_len (omega arith)))
      (le-leb least (length (block_bytes little kind body)) (omega (arith, len))))
      (eq-eqb _ _ last)

  -- a block that is spelled is whole
  pub spelled_whole : (interfaces : List Interface) (type : BlockType) (block : BlockContent) → least_of type ≤ length body + 12
      → held little interfaces type (block_bytes little kind body) ≡ Ok block
      → whole_at little interfaces type (block_bytes little kind body ++ rest)
      ≡ Ok (Some (record { total = length body + 12; block = block }))
  unfolding whole_at formed
  spelled_whole interfaces type block enough holds =
      let all = length-append (block_bytes little kind body) rest in
      let len = block_len in
      let there : length body + 12 ≤ length (block_bytes little kind body ++ rest) = omega (arith, all, len) in
      rw (
        total_is,
        le-ltb (length (block_bytes little kind body ++ rest)) (length body + 12) there,
        block_first,
        form_is (least_of type) enough,
        holds,
        block_len,
      ) refl

  pub long_enough : MIN_BLOCK ≤ length (block_bytes little kind body ++ rest)
  long_enough = let all = length-append (block_bytes little kind body) rest in let len = block_len in omega (arith, all, len)

pub body_at : (little : Bool) (kind : ℕ) (body : List ℕ) → FitsBody body
    → drop 8 (block_bytes little kind body) ≡ body ++ number_bytes little 4 (length body + 12)
body_at little kind body fits =
    let block = block_bytes little kind body in
    let total = number_bytes little 4 (length body + 12) in
    ap (drop 8) (sym (append-nil block)) ∙ body_behind little kind body [] fits ∙ ap (λ r. body ++ r) (append-nil total)

-- bytes of a body, at their offset in the block
pub offset : (little : Bool) (kind k : ℕ) (body : List ℕ) → FitsBody body
    → drop (8 + k) (block_bytes little kind body) ≡ drop k (body ++ number_bytes little 4 (length body + 12))
offset little kind k body fits =
    sym (drop-drop k 8 (block_bytes little kind body)) ∙ ap (drop k) (body_at little kind body fits)
