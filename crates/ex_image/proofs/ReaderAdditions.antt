-- What may stand has no fault.
use Rattle.std.proofs.Common.{◌≡◌, ℕ, true, List}
use Rattle.ex_image.specs.Grammar.{MayStand}
use Rattle.ex_image.specs.Reading.{Reading, is_in_range, is_there}
use Rattle.ex_image.specs.Record.{Entry}
use Rattle.ex_image.proofs.Stands.{faultless_of}

pub in_range_of : (reading : Reading) (next : Entry × List ℕ) → MayStand reading next → is_in_range next.0 ≡ true
in_range_of reading next stands = (faultless_of reading.state next.0 stands.faultless).range

pub there_of : (reading : Reading) (next : Entry × List ℕ) → MayStand reading next
    → is_there reading.state next.0 ≡ true
there_of reading next stands = (faultless_of reading.state next.0 stands.faultless).there
