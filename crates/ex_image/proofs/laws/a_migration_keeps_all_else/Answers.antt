use Rattle.std.proofs.Common.{refl}
use Rattle.ex_image.proofs.KeptLaws.{kept_rows, keeps_of}
use Rattle.ex_image.proofs.laws.a_migration_keeps_all_else.Goals as goal

pub returns-clause-lists : goal.returns-clause-lists
returns-clause-lists c = λ said. refl

pub returns-clause-rows : goal.returns-clause-rows
returns-clause-rows c = λ said. kept_rows said.directories said.rows

pub returns-clause-keeps : goal.returns-clause-keeps
returns-clause-keeps c = λ said i d within. keeps_of said.directories said.rows i d within
