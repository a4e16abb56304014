-- The spelling of frames read back, and what is read as frames spelled.
use Rattle.std.proofs.Common.{◌≡◌, ℕ, zero, suc, ◌+◌, ◌^◌, ◌<◌, ◌≤◌, Bool, List, [], ◌∷◌, ◌++◌, length, take, drop, All, refl, sym, ap, subst, ◌∙◌, arith, length-append, length-drop, inl, inr}
use Rattle.std.specs.List.{flat_map}
use Rattle.std.proofs.lemmas.Bool.{cases_lt}
use Rattle.std.proofs.lemmas.List.{append_assoc, append-nil, drop_at, take_at, drop-drop, take-append-drop, length-take-le}
use Rattle.std.proofs.lemmas.List.Elements.{All-nil, All-cons, All-head, All-tail, All-drop}
use Rattle.pcap_io.specs.declared.capture_head.CaptureHead.{CaptureHead}
use Rattle.pcap_io.specs.Numbers.{number_of, number_bytes}
use Rattle.pcap_io.specs.Frames.{Spelled, Reading, numbers_of_frame, frame_bytes, frame_len, first_frame, behind, numbered, with_front, frames_of}
use Rattle.pcap_io.specs.FramesTerms.{Fits, Splits, HoldsNoFrame, numbered_from}
use Rattle.pcap_io.proofs.CaptureNumberLemmas.{number_of_below, number_of_bytes, number_bytes_length, number_bytes_of}
use Rattle.pcap_io.proofs.CaptureReading.{frames_of_zero, frames_of_whole, frames_of_none}

-- ---- four numbers of 4 bytes, and more

regroup : (a b c d p r : List ℕ) → ((a ++ (b ++ (c ++ d))) ++ p) ++ r ≡ a ++ (b ++ (c ++ (d ++ (p ++ r))))
regroup a b c d p r = simp append_assoc refl

module _ (a b c d r : List ℕ) (la : length a ≡ 4) (lb : length b ≡ 4) (lc : length c ≡ 4) (ld : length d ≡ 4) where
  drop4 : drop 4 (a ++ (b ++ (c ++ (d ++ r)))) ≡ b ++ (c ++ (d ++ r))
  drop4 = drop_at a (b ++ (c ++ (d ++ r))) 4 la

  drop8 : drop 8 (a ++ (b ++ (c ++ (d ++ r)))) ≡ c ++ (d ++ r)
  drop8 = sym (drop-drop 4 4 (a ++ (b ++ (c ++ (d ++ r))))) ∙ ap (drop 4) drop4 ∙ drop_at b (c ++ (d ++ r)) 4 lb

  drop12 : drop 12 (a ++ (b ++ (c ++ (d ++ r)))) ≡ d ++ r
  drop12 = sym (drop-drop 4 8 (a ++ (b ++ (c ++ (d ++ r))))) ∙ ap (drop 4) drop8 ∙ drop_at c (d ++ r) 4 lc

  drop16 : drop 16 (a ++ (b ++ (c ++ (d ++ r)))) ≡ r
  drop16 = sym (drop-drop 4 12 (a ++ (b ++ (c ++ (d ++ r))))) ∙ ap (drop 4) drop12 ∙ drop_at d r 4 ld

-- the numbers of a frame, and more after it
spelled_from : Bool → Spelled → List ℕ → List ℕ
spelled_from little f rest =
    number_bytes little 4 f.seconds ++ (number_bytes little 4 f.fraction ++
    (number_bytes little 4 (length f.captured) ++ (number_bytes little 4 f.original ++ (f.captured ++ rest))))

frame_bytes_spelled : (little : Bool) (f : Spelled) (rest : List ℕ) → frame_bytes little f ++ rest ≡ spelled_from little f rest
unfolding numbers_of_frame spelled_from
frame_bytes_spelled little f rest =
    regroup (number_bytes little 4 f.seconds) (number_bytes little 4 f.fraction) (number_bytes little 4 (length f.captured))
    (number_bytes little 4 f.original) f.captured rest

module _ (little : Bool) (f : Spelled) (rest : List ℕ) (fits : Fits f) where
  seconds_at : number_of little 4 (spelled_from little f rest) ≡ f.seconds
  unfolding spelled_from
  seconds_at = number_of_bytes little 4 f.seconds _ fits.seconds

  fraction_at : number_of little 4 (drop 4 (spelled_from little f rest)) ≡ f.fraction
  unfolding spelled_from
  fraction_at =
      ap (number_of little 4) (drop4 (number_bytes little 4 f.seconds) (number_bytes little 4 f.fraction)
      (number_bytes little 4 (length f.captured)) (number_bytes little 4 f.original) (f.captured ++ rest)
      (number_bytes_length little 4 _) (number_bytes_length little 4 _) (number_bytes_length little 4 _) (number_bytes_length little 4 _))
      ∙ number_of_bytes little 4 f.fraction _ fits.fraction

  captured_at : number_of little 4 (drop 8 (spelled_from little f rest)) ≡ length f.captured
  unfolding spelled_from
  captured_at =
      ap (number_of little 4) (drop8 (number_bytes little 4 f.seconds) (number_bytes little 4 f.fraction)
      (number_bytes little 4 (length f.captured)) (number_bytes little 4 f.original) (f.captured ++ rest)
      (number_bytes_length little 4 _) (number_bytes_length little 4 _) (number_bytes_length little 4 _) (number_bytes_length little 4 _))
      ∙ number_of_bytes little 4 (length f.captured) _ fits.captured

  original_at : number_of little 4 (drop 12 (spelled_from little f rest)) ≡ f.original
  unfolding spelled_from
  original_at =
      ap (number_of little 4) (drop12 (number_bytes little 4 f.seconds) (number_bytes little 4 f.fraction)
      (number_bytes little 4 (length f.captured)) (number_bytes little 4 f.original) (f.captured ++ rest)
      (number_bytes_length little 4 _) (number_bytes_length little 4 _) (number_bytes_length little 4 _) (number_bytes_length little 4 _))
      ∙ number_of_bytes little 4 f.original _ fits.original

  bytes_at : drop 16 (spelled_from little f rest) ≡ f.captured ++ rest
  unfolding spelled_from
  bytes_at =
      drop16 (number_bytes little 4 f.seconds) (number_bytes little 4 f.fraction)
      (number_bytes little 4 (length f.captured)) (number_bytes little 4 f.original) (f.captured ++ rest)
      (number_bytes_length little 4 _) (number_bytes_length little 4 _) (number_bytes_length little 4 _) (number_bytes_length little 4 _)

  len_spelled : frame_len little (spelled_from little f rest) ≡ 16 + length f.captured
  unfolding frame_len
  len_spelled = ap (λ k. 16 + k) captured_at

  first_spelled : first_frame little (spelled_from little f rest) ≡ f
  unfolding first_frame
  first_spelled =
      let cut : take (length f.captured) (drop 16 (spelled_from little f rest)) ≡ f.captured =
      ap (take (length f.captured)) bytes_at ∙ take_at f.captured rest (length f.captured) refl in
      rw (seconds_at, fraction_at, original_at, captured_at, cut) refl

  length_spelled : length (spelled_from little f rest) ≡ 16 + length f.captured + length rest
  unfolding spelled_from
  length_spelled =
      let a = number_bytes_length little 4 f.seconds in
      let b = number_bytes_length little 4 f.fraction in
      let d = number_bytes_length little 4 (length f.captured) in
      let e = number_bytes_length little 4 f.original in
      simp length-append (omega (arith, a, b, d, e))

  behind_spelled : behind little (spelled_from little f rest) ≡ rest
  behind_spelled =
      ap (λ k. drop k (spelled_from little f rest)) len_spelled
      ∙ sym (drop-drop (length f.captured) 16 (spelled_from little f rest))
      ∙ ap (drop (length f.captured)) bytes_at ∙ drop_at f.captured rest (length f.captured) refl

-- ---- what is spelled is read

whole_spelled : (little : Bool) (f : Spelled) (rest : List ℕ) → Fits f
    → frame_len little (frame_bytes little f ++ rest) ≤ length (frame_bytes little f ++ rest)
whole_spelled little f rest fits =
    let len = len_spelled little f rest fits in
    let all = length_spelled little f rest fits in
    rw (frame_bytes_spelled little f rest) (omega (arith, len, all))

first_frame_bytes : (little : Bool) (f : Spelled) (rest : List ℕ) → Fits f → first_frame little (frame_bytes little f ++ rest) ≡ f
first_frame_bytes little f rest fits = ap (first_frame little) (frame_bytes_spelled little f rest) ∙ first_spelled little f rest fits

behind_frame_bytes : (little : Bool) (f : Spelled) (rest : List ℕ) → Fits f → behind little (frame_bytes little f ++ rest) ≡ rest
behind_frame_bytes little f rest fits = ap (behind little) (frame_bytes_spelled little f rest) ∙ behind_spelled little f rest fits

-- a frame that is spelled is the first that is read
pub frames_of_frame_bytes : (head : CaptureHead) (most n : ℕ) (f : Spelled) (rest : List ℕ) → Fits f
    → frames_of head (suc most) n (frame_bytes head.little f ++ rest)
    ≡ with_front (numbered head.link n f ∷ []) (frames_of head most (n + 1) rest)
frames_of_frame_bytes head most n f rest fits =
    let bytes = frame_bytes head.little f ++ rest in
    frames_of_whole head most n bytes (whole_spelled head.little f rest fits)
    ∙ ap (λ g. with_front (numbered head.link n g ∷ []) (frames_of head most (n + 1) (behind head.little bytes)))
    (first_frame_bytes head.little f rest fits)
    ∙ ap (λ bs. with_front (numbered head.link n f ∷ []) (frames_of head most (n + 1) bs)) (behind_frame_bytes head.little f rest fits)

-- frames that are spelled one after the other are read
pub frames_of_spelled : (head : CaptureHead) (most n : ℕ) (frames : List Spelled) (rest : List ℕ) → All Fits frames → length frames ≤ most
    → (length frames < most → HoldsNoFrame head.little rest)
    → frames_of head most n (flat_map (frame_bytes head.little) frames ++ rest)
    ≡ record { frames = numbered_from head.link n frames; rest = rest }
frames_of_spelled head zero n [] rest fit within none = frames_of_zero head n rest
frames_of_spelled head (suc most) n [] rest fit within none = frames_of_none head (suc most) n rest (none (omega arith))
frames_of_spelled head zero n (f ∷ fs) rest fit within none = absurd (omega arith)
frames_of_spelled head (suc most) n (f ∷ fs) rest fit within none =
    let more = flat_map (frame_bytes head.little) fs in
    let again = frames_of_spelled head most (n + 1) fs rest (All-tail Fits f fs fit) (omega arith) (λ below. none (omega arith)) in
    ap (frames_of head (suc most) n) (append_assoc (frame_bytes head.little f) more rest)
    ∙ frames_of_frame_bytes head most n f (more ++ rest) (All-head Fits f fs fit)
    ∙ ap (with_front (numbered head.link n f ∷ [])) again

pub splits_read : (head : CaptureHead) (most n : ℕ) (bytes : List ℕ) (frames : List Spelled) (read : Reading)
    → Splits head most n bytes frames read → frames_of head most n bytes ≡ read
splits_read head most n bytes frames read s =
    ap (frames_of head most n) s.whole
    ∙ frames_of_spelled head most n frames read.rest s.fit s.within s.partial
    ∙ ap (λ fs. let made : Reading = record { frames = fs; rest = read.rest } in made) (sym s.held)

-- no frame stands at the front of fewer bytes than its numbers say
pub none_spelled : (little : Bool) (bytes more : List ℕ) (f : Spelled) → HoldsNoFrame little bytes → Fits f
    → bytes ≡ frame_bytes little f ++ more → ⊥
none_spelled little bytes more f none fits is =
    let short : HoldsNoFrame little (frame_bytes little f ++ more) = subst (λ bs. HoldsNoFrame little bs) is none in
    let whole = whole_spelled little f more fits in
    omega arith

-- ---- what is read was spelled

-- a number and what is after it
pub piece : (little : Bool) (n : ℕ) (bytes : List ℕ) → n ≤ length bytes → All (λ b. b < 2 ^ 8) bytes
    → bytes ≡ number_bytes little n (number_of little n bytes) ++ drop n bytes
piece little n bytes h all =
    sym (take-append-drop n bytes) ∙ ap (λ front. front ++ drop n bytes) (sym (number_bytes_of little n bytes h all))

-- the number in the n bytes from a place on, and what is after it
pub piece_at : (little : Bool) (at n : ℕ) (bytes : List ℕ) → at + n ≤ length bytes → All (λ b. b < 2 ^ 8) bytes
    → drop at bytes ≡ number_bytes little n (number_of little n (drop at bytes)) ++ drop (at + n) bytes
piece_at little at n bytes h all =
    let len = length-drop at bytes in
    piece little n (drop at bytes) (omega (arith, len)) (All-drop (λ b. b < 2 ^ 8) at bytes all)
    ∙ ap (λ bs. number_bytes little n (number_of little n (drop at bytes)) ++ bs) (drop-drop n at bytes)

-- the first frame, whole, with what is after it
module _ (little : Bool) (bytes : List ℕ) (all : All (λ b. b < 2 ^ 8) bytes) (whole : frame_len little bytes ≤ length bytes) where
  enough : 16 + number_of little 4 (drop 8 bytes) ≤ length bytes
  unfolding frame_len
  enough = whole

  cut_len : length (take (number_of little 4 (drop 8 bytes)) (drop 16 bytes)) ≡ number_of little 4 (drop 8 bytes)
  cut_len =
      let len = length-drop 16 bytes in
      let h = enough in
      length-take-le (number_of little 4 (drop 8 bytes)) (drop 16 bytes) (omega (arith, len))

  below_at : (at : ℕ) → number_of little 4 (drop at bytes) < 256 ^ 4
  below_at at = number_of_below little 4 (drop at bytes) (All-drop (λ b. b < 2 ^ 8) at bytes all)

  pub first_fits : Fits (first_frame little bytes)
  unfolding first_frame
  first_fits = record {
    seconds = below_at 0;
    fraction = below_at 4;
    original = below_at 12;
    captured = let e = cut_len in let h = below_at 8 in rw e h;
  }

  first_bytes : frame_bytes little (first_frame little bytes)
      ≡ numbers_of_frame little (number_of little 4 bytes) (number_of little 4 (drop 4 bytes)) (number_of little 4 (drop 8 bytes))
      (number_of little 4 (drop 12 bytes))
      ++ take (number_of little 4 (drop 8 bytes)) (drop 16 bytes)
  unfolding first_frame
  first_bytes =
      ap (λ k. numbers_of_frame little (number_of little 4 bytes) (number_of little 4 (drop 4 bytes)) k (number_of little 4 (drop 12 bytes))
      ++ take (number_of little 4 (drop 8 bytes)) (drop 16 bytes)) cut_len

  numbers_first : bytes ≡ numbers_of_frame little (number_of little 4 bytes) (number_of little 4 (drop 4 bytes))
      (number_of little 4 (drop 8 bytes)) (number_of little 4 (drop 12 bytes)) ++ drop 16 bytes
  unfolding numbers_of_frame
  numbers_first =
      let h = enough in
      let a = number_bytes little 4 (number_of little 4 bytes) in
      let b = number_bytes little 4 (number_of little 4 (drop 4 bytes)) in
      let c = number_bytes little 4 (number_of little 4 (drop 8 bytes)) in
      let d = number_bytes little 4 (number_of little 4 (drop 12 bytes)) in
      piece little 4 bytes (omega arith) all
      ∙ ap (λ r. a ++ r) (piece_at little 4 4 bytes (omega arith) all)
      ∙ ap (λ r. a ++ (b ++ r)) (piece_at little 8 4 bytes (omega arith) all)
      ∙ ap (λ r. a ++ (b ++ (c ++ r))) (piece_at little 12 4 bytes (omega arith) all)
      ∙ sym (regroup a b c d [] (drop 16 bytes))
      ∙ ap (λ front. front ++ drop 16 bytes) (append-nil (a ++ (b ++ (c ++ d))))

  behind_is : behind little bytes ≡ drop (number_of little 4 (drop 8 bytes)) (drop 16 bytes)
  unfolding frame_len
  behind_is = sym (drop-drop (number_of little 4 (drop 8 bytes)) 16 bytes)

  pub first_spelled_law : bytes ≡ frame_bytes little (first_frame little bytes) ++ behind little bytes
  first_spelled_law =
      let numbers = numbers_of_frame little (number_of little 4 bytes) (number_of little 4 (drop 4 bytes))
      (number_of little 4 (drop 8 bytes)) (number_of little 4 (drop 12 bytes)) in
      let cut = number_of little 4 (drop 8 bytes) in
      numbers_first
      ∙ ap (λ r. numbers ++ r) (sym (take-append-drop cut (drop 16 bytes)))
      ∙ sym (append_assoc numbers (take cut (drop 16 bytes)) (drop cut (drop 16 bytes)))
      ∙ ap (λ front. front ++ drop cut (drop 16 bytes)) (sym first_bytes)
      ∙ ap (λ r. frame_bytes little (first_frame little bytes) ++ r) (sym behind_is)

-- a whole frame at the front was spelled
pub some_spelled : (little : Bool) (bytes : List ℕ) → All (λ b. b < 2 ^ 8) bytes → frame_len little bytes ≤ length bytes
    → (f : Spelled) × Fits f × (bytes ≡ frame_bytes little f ++ behind little bytes)
some_spelled little bytes all whole =
    (first_frame little bytes, first_fits little bytes all whole, first_spelled_law little bytes all whole)

-- where no frame stands at the front, there are none
splits_none : (head : CaptureHead) (most n : ℕ) (bytes : List ℕ) (read : Reading) → (0 < most → HoldsNoFrame head.little bytes)
    → read ≡ record { frames = []; rest = bytes } → Splits head most n bytes [] read
splits_none head most n bytes read none is = rw is (record {
  fit = All-nil Fits;
  within = omega arith;
  whole = refl;
  held = refl;
  partial = none;
})

-- a whole frame in front of frames
splits_first : (head : CaptureHead) (most n : ℕ) (bytes more : List ℕ) (f : Spelled) (fs : List Spelled) (read all : Reading) → Fits f
    → bytes ≡ frame_bytes head.little f ++ more → Splits head most (n + 1) more fs read
    → all ≡ with_front (numbered head.link n f ∷ []) read → Splits head (suc most) n bytes (f ∷ fs) all
splits_first head most n bytes more f fs read all fits first s is = rw is (record {
  fit = All-cons Fits f fs fits s.fit;
  within = let h = s.within in omega arith;
  whole = first ∙ ap (λ r. frame_bytes head.little f ++ r) s.whole
      ∙ sym (append_assoc (frame_bytes head.little f) (flat_map (frame_bytes head.little) fs) read.rest);
  held = ap (λ held. numbered head.link n f ∷ held) s.held;
  partial = λ below. s.partial (omega arith);
})

-- what is read is frames that stand in the bytes one after the other
pub frames_spelled : (head : CaptureHead) (most n : ℕ) (bytes : List ℕ) → All (λ b. b < 2 ^ 8) bytes
    → (frames : List Spelled) × Splits head most n bytes frames (frames_of head most n bytes)
frames_spelled head zero n bytes all =
    ([], splits_none head zero n bytes (frames_of head zero n bytes) (λ some. absurd (omega arith)) (frames_of_zero head n bytes))
frames_spelled head (suc most) n bytes all = elim (cases_lt (length bytes) (frame_len head.little bytes)) [
  | inl none ↦ (
    [],
    splits_none head (suc most) n bytes (frames_of head (suc most) n bytes) (λ some. none)
        (frames_of_none head (suc most) n bytes none),
  )
  | inr whole ↦
      let f = first_frame head.little bytes in
      let more = behind head.little bytes in
      let later = frames_spelled head most (n + 1) more (All-drop (λ b. b < 2 ^ 8) (frame_len head.little bytes) bytes all) in (
        f ∷ later.0,
        splits_first head most n bytes more f later.0 (frames_of head most (n + 1) more) (frames_of head (suc most) n bytes)
            (first_fits head.little bytes all whole) (first_spelled_law head.little bytes all whole) later.1
            (frames_of_whole head most n bytes whole),
      )
]
