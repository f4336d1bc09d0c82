use Rattle.ex_take.proofs.LineLaws.{no_line, reads_line}
use Rattle.ex_take.proofs.command_file.read_line.Goals as goal

pub returns-in-None-clause-lines : goal.returns-in-None-clause-lines
returns-in-None-clause-lines c =
    no_line c.args.bytes.now c.after-rest.result.now c.args.at c.first_line.result c.after-rest.ensures c.first_line.ensures c.in-None.is

pub returns-in-Some-clause-lines : goal.returns-in-Some-clause-lines
returns-in-Some-clause-lines c =
    reads_line c.args.bytes.now c.after-rest.result.now c.after.result.now c.args.at c.first_line.result c.in-Some.first
    c.set.new.line.items c.join_lines.new.line.items c.join_lines.result c.after-rest.ensures c.first_line.ensures c.in-Some.is
    c.set.ensures.line c.after.ensures c.join_lines.ensures.lines
