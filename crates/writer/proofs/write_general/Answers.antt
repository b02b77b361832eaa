use Rattle.writer.proofs.EntryLaws.{space_one, entered-one}
use Rattle.writer.proofs.write_general.Goals as goal

pub put_words-end-requires : goal.put_words-end-requires
put_words-end-requires c = space_one c.requires.space

pub returns : goal.returns
returns c =
    entered-one c.requires.space c.put_words-end.ensures c.enter.ensures
