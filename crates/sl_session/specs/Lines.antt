-- step: an image that is listed by a reader.
use Rattle.sl_list_instructions.specs.Instructions.{Listed, Subject}
use Rattle.sl_list_instructions.specs.Listing.{image_from, subject}
use Rattle.sl_list_instructions.specs.Listings.{Shows}
use Rattle.sl_session.specs.Readers.{StandsFor, choice_in, specification_in}
use Rattle.sl_session.specs.declared.lines.Lines.{Lines}

abbrev pub subject_in : Lines → Subject
subject_in l = subject (specification_in l.reader.now).tables
    (specification_in l.reader.now).constructors (choice_in l.reader.now)
    (image_from l.image.now l.base l.start)

-- What is shown at a position is a line of the listing, where the reader stands for a specification.
abbrev pub shows_in : Lines → Shows
shows_in l at made text n commits =
    StandsFor l.reader.now → Listed (subject_in l) at made text n commits
