use Rattle.ex_system.proofs.SaveLaws.{saved_image}
use Rattle.ex_system.proofs.Starts.{from_image, one_image}
use Rattle.ex_system.proofs.laws.what_is_saved_is_read_again.Goals as goal

pub returns-clause-starts : goal.returns-clause-starts
returns-clause-starts c = λ before now next out state result saves outcome tells reads same.
    (reads, saved_image before now next out state result saves outcome tells same)

pub returns-clause-began : goal.returns-clause-began
returns-clause-began c = λ before now next out state start result saves outcome tells reads same began.
    one_image (next.files out) start state (began reads) (saved_image before now next out state result saves outcome tells same)

pub returns-clause-taken : goal.returns-clause-taken
returns-clause-taken c = λ before now next out state result later saves outcome tells reads same cause.
    from_image (next.files out) state later (saved_image before now next out state result saves outcome tells same) (cause reads)
