-- What the words ask for, as the program holds it: texts that are lent.
use Rattle.ex_system.specs.WordViews.{form_view}
use Rattle.ex_batch.specs.RunEnd.{JobForm}
use Rattle.ex_batch.specs.declared.program.JobForm as asked

abbrev pub job_view : asked.JobForm → JobForm
job_view it = record { form = form_view it.form; file = it.file.now }
