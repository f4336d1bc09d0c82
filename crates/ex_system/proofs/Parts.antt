-- Pieces that are put one after the other.
use Rattle.cm_io.proofs.Additions.{add_append, add_none, adds_between, adds_early, adds_late, rose_early, rose_late}

-- what joins them
pub ruleset pieces = (add_none, add_append, adds_early, adds_late, adds_between, rose_early, rose_late)
