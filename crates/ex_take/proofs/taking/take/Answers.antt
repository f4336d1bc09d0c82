use Rattle.std.proofs.Common.{sym, ap, subst, ◌∙◌}
use Rattle.ex_take.specs.ExecState.{ExecState}
use Rattle.ex_take.specs.Taking.{Rests, took_of}
use Rattle.ex_take.proofs.Outcomes.{rests}
use Rattle.ex_take.proofs.taking.take.Goals as goal

-- [take]
pub returns-clause-takes : goal.returns-clause-takes
returns-clause-takes g c = λ log keys gets moments. record {
  left = c.take_lines-took.new.exec;
  traces = c.take_lines-took.ensures.traces log keys gets moments;
  rests = c.rest.ensures;
}

pub returns-clause-outcome : goal.returns-clause-outcome
returns-clause-outcome g c = λ whole.
    c.take_lines-took.ensures.outcome whole ∙ ap (λ (it : ExecState). took_of it) (sym c.rest.ensures)

pub returns-clause-rest : goal.returns-clause-rest
returns-clause-rest g c =
    subst (λ (it : ExecState). Rests c.take_lines-took.result it) (sym c.rest.ensures)
    (rests c.take_lines-took.result c.take_lines-took.new.exec c.take_lines-took.ensures.outcome)
