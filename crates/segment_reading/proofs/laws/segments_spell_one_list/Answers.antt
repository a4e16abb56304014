use Rattle.segment_reading.proofs.ReadingLists.{values_same}
use Rattle.segment_reading.proofs.laws.segments_spell_one_list.Goals as goal

pub returns : goal.returns
returns c = λ net a b network flat legal also same. values_same net network flat a b legal also same
