use Rattle.ex_image.specs.LineViews.{next_said}
use Rattle.ex_image.proofs.ReaderAdditions.{in_range_of, there_of}
use Rattle.ex_image.proofs.reading.Reading.add.Goals as goal

pub add-requires-clause-in_range : goal.add-requires-clause-in_range
add-requires-clause-in_range c = in_range_of c.args.self.now (next_said c.args.next.now).0 c.requires.stands

pub add-requires-clause-there : goal.add-requires-clause-there
add-requires-clause-there c =
    let there = there_of c.args.self.now (next_said c.args.next.now).0 c.requires.stands in
    rw (← c.self.view_is) at there
