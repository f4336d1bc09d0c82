use Rattle.std.proofs.Common.{sym, ◌∙◌}
use Rattle.ex_store.specs.Families.{rows_of}
use Rattle.ex_store.specs.Rows.{files_of}
use Rattle.ex_store.proofs.AdmittedLaws.{counted_target, numbered_free}
use Rattle.ex_store.proofs.rename.simulate.Goals as goal

pub reinsert-requires-clause-absent : goal.reinsert-requires-clause-absent
reinsert-requires-clause-absent c =
    rw (← c.deref.ensures.value)
    (numbered_free c.args.to.now.generation (files_of c.key_from-key.result (rows_of c.deref.result.now)) c.in-Ok.generation
    (counted_target c.args.to.now.generation c.requires.number) (sym c.numbered.ensures ∙ c.in-Ok.is)).absent
