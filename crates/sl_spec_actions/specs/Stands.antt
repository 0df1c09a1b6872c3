-- step: how names stand in the patterns round those that are inside, as the program lends them.
use Rattle.sl_spec_actions.specs.Levels.{stands_in}
use Rattle.sl_spec_actions.specs.PatternNames.{standing_of}
use Rattle.sl_spec_actions.specs.Standing.{Standing}
use Rattle.sl_spec_actions.specs.JoinedStanding.{joined}
use Rattle.sl_spec_actions.specs.declared.levels.Stands.{Stands}

abbrev pub stands_of : Stands → Standing
stands_of s = joined (stands_in s.around.now) (standing_of s.own.now)
