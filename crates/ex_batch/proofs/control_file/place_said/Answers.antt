use Rattle.std.proofs.Common.{List, ℕ, subst, sym}
use Rattle.std.specs.Str.{IsAscii}
use Rattle.cm_text.proofs.Ascii.{finished_is_ascii}
use Rattle.ex_store.specs.State.{catalogue_of}
use Rattle.ex_batch.proofs.FileNames.{word_said}
use Rattle.ex_batch.proofs.control_file.place_said.Goals as goal

pub place_by-requires-clause-ascii : goal.place_by-requires-clause-ascii
place_by-requires-clause-ascii c =
    subst (λ (it : List ℕ). IsAscii it) (sym c.requires.text) (finished_is_ascii c.args.word.now c.requires.line)

pub place_by-requires-clause-said : goal.place_by-requires-clause-said
place_by-requires-clause-said c =
    word_said (catalogue_of c.args.store.now.state) c.args.text.now c.in-Accept.value _ c.in-Accept.end c.file_in.result c.file_in.ensures c.in-Accept.is
