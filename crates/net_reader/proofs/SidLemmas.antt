-- SIDs joined one after another, with the numbers of their titles.
use Rattle.std.proofs.Common.{◌≡◌, ℕ, ◌+◌, ◌<◌, ◌≤◌, List, [], ◌∷◌, ◌++◌, length, take, get_or, option_to_list, Option, Some, None, refl, sym, ap, ◌∙◌, length-append, arith}
use Rattle.std.specs.List.{cons_option, filter_map}
use Rattle.std.proofs.lemmas.List.{take_more}
use Rattle.std.proofs.lemmas.List.Elements.{filter_map-append}
use Rattle.srv6_rules.specs.declared.sid.SidEntry.{SidEntry}
use Rattle.net_model.specs.declared.parts.Block.{Block}
use Rattle.net_syntax.specs.declared.sid_table.DescribedSid.{DescribedSid}
use Rattle.net_reader.specs.Joining.{title_in, behind_title, joined_sid, joined_sids}

-- how many titles the first title adds
titles_counted : (n : ℕ) (title : Option (List ℕ)) (titles : List (List ℕ))
    → behind_title n title + length titles ≡ n + length (cons_option title titles)
titles_counted n None titles = refl
titles_counted n (Some title) titles = omega arith

alone : (title : Option (List ℕ)) → cons_option title [] ≡ option_to_list title
alone None = refl
alone (Some title) = refl

pub titles_more : (sids : List DescribedSid) (i : ℕ) (d : DescribedSid) (titles : List (List ℕ)) → i < length sids
    → titles ≡ filter_map title_in (take i sids)
    → titles ++ option_to_list (get_or sids i d).title ≡ filter_map title_in (take (i + 1) sids)
titles_more sids i d titles within so_far =
    let s = get_or sids i d in
    ap (λ front. front ++ option_to_list s.title) so_far
    ∙ ap (λ last. filter_map title_in (take i sids) ++ last) (sym (alone s.title))
    ∙ sym (filter_map-append title_in (take i sids) (s ∷ [])) ∙ ap (filter_map title_in) (sym (take_more sids i d within))

module _ (nodes links policies : List (List ℕ)) (blocks : List Block) where
  joined_sids_append : (n : ℕ) (ss : List DescribedSid) (s : DescribedSid)
      → joined_sids nodes links policies blocks n (ss ++ s ∷ [])
      ≡ joined_sids nodes links policies blocks n ss
      ++ joined_sid nodes links policies blocks (n + length (filter_map title_in ss)) s ∷ []
  joined_sids_append n [] s =
      let same : n ≡ n + 0 = omega arith in ap (λ m. joined_sid nodes links policies blocks m s ∷ []) same
  joined_sids_append n (first ∷ ss) s =
      ap (λ rest. joined_sid nodes links policies blocks n first ∷ rest)
      (joined_sids_append (behind_title n first.title) ss s
      ∙ ap (λ m. joined_sids nodes links policies blocks (behind_title n first.title) ss
      ++ joined_sid nodes links policies blocks m s ∷ []) (titles_counted n first.title (filter_map title_in ss)))

  pub entries_more : (sids : List DescribedSid) (i : ℕ) (d : DescribedSid) (titles : List (List ℕ)) (entries : List SidEntry)
      (entry : SidEntry)
      → i < length sids → titles ≡ filter_map title_in (take i sids) → entries ≡ joined_sids nodes links policies blocks 0 (take i sids)
      → entry ≡ joined_sid nodes links policies blocks (length titles) (get_or sids i d)
      → entries ++ entry ∷ [] ≡ joined_sids nodes links policies blocks 0 (take (i + 1) sids)
  entries_more sids i d titles entries entry within titles_are so_far is =
      let s = get_or sids i d in
      let front = joined_sids nodes links policies blocks 0 (take i sids) in
      let number : length titles ≡ 0 + length (filter_map title_in (take i sids)) = ap length titles_are ∙ zero_more _ in
      ap (λ all. all ++ entry ∷ []) so_far ∙ ap (λ last. front ++ last ∷ []) is
      ∙ ap (λ m. front ++ joined_sid nodes links policies blocks m s ∷ []) number
      ∙ sym (joined_sids_append 0 (take i sids) s) ∙ ap (joined_sids nodes links policies blocks 0) (sym (take_more sids i d within))
    where
      zero_more : (m : ℕ) → m ≡ 0 + m
      zero_more m = omega arith

titles_few : (title : Option (List ℕ)) → length (option_to_list title) ≤ 1
titles_few None = omega arith
titles_few (Some title) = omega arith

pub titles_bound : (titles : List (List ℕ)) (title : Option (List ℕ)) (i : ℕ) → length titles ≤ i
    → length (titles ++ option_to_list title) ≤ i + 1
titles_bound titles title i few = omega (arith, few, titles_few title, length-append titles (option_to_list title))
