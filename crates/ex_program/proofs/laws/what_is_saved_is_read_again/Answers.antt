use Rattle.ex_program.proofs.KnownRuns.{read_again, taken_again}
use Rattle.ex_program.proofs.laws.what_is_saved_is_read_again.Goals as goal

pub returns-clause-begins : goal.returns-clause-begins
returns-clause-begins g c = λ form next a b from to before now later last result other run again outcome tells reads same stays.
    read_again _ form next a b from to before now later last result other run again outcome tells reads same stays

pub returns-clause-taken : goal.returns-clause-taken
returns-clause-taken g c = λ form a b before now later result other run outcome tells reads stays cause.
    taken_again _ form a b before now later result other run outcome tells reads stays cause
