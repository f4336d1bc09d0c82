use Rattle.std.proofs.Common.{rules, ◌≡◌, ◌≤◌, pos}
use Rattle.jiff_core.proofs.DateLemmas.{civil}
use Rattle.cm_dates.proofs.Days.{day_between}
use Rattle.cm_dates.proofs.field.day_in.Goals as goal

pub day_of-requires : goal.day_of-requires
day_of-requires c =
    let date = c.in-Ok.date in
    let year : date.year ≡ pos c.args.year = search rules in
    let month : date.month ≡ c.args.month = search rules in
    let day : date.day ≡ c.args.day = search rules in
    let fits = rw (year, month, day) at (civil date).2.1 in
    let from : 1970 ≤ c.args.year = search rules in
    let to : c.args.year ≤ 2099 = search rules in
    rw (year, month, day)
    (day_between c.args.year c.args.month c.args.day from to c.requires.month c.requires.day.0 fits)
