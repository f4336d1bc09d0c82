use Rattle.ex_program.proofs.KeysLeft.{more_left, none_left}
use Rattle.ex_program.proofs.progress.Progress.advance.Goals as goal

pub returns-then-self-eq0-clause-end : goal.returns-then-self-eq0-clause-end
returns-then-self-eq0-clause-end c = λ _. none_left _ _ _ _ _ c.requires.over c.if-self-eq0.true

pub returns-clause-keys : goal.returns-clause-keys
returns-clause-keys c =
    rw (c.line_keys-self.ensures.keys, c.from.ensures, c.next_number-self.ensures.number)
    (more_left _ _ c.args.self.now.position c.args.self.now.number _ c.requires.over c.if-self-eq0.false)
