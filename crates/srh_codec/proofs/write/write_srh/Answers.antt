use Rattle.std.proofs.Common.{◌≡◌, length, refl}
use Rattle.std.proofs.lemmas.List.{length-map}
use Rattle.srh_codec.specs.Writing.{numbers_of}
use Rattle.srh_codec.proofs.SrhWriteLemmas.{header_bytes_law}
use Rattle.srh_codec.proofs.write.write_srh.Goals as goal

pub returns : goal.returns
returns c =
    let p = c.args.parts.now in
    let list = numbers_of p.entries.now in
    let len : length list ≡ length p.entries.now = length-map p.entries.now (λ a. a.value) in
    rw (c.copy_from_slice.ensures.after, c.write_entries.ensures, header_bytes_law p.next_header p.segments_left list, len) refl
