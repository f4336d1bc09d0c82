use Rattle.ex_store.proofs.store.Store.plan.Goals as goal

pub returns-in-Build-clause-refused : goal.returns-in-Build-clause-refused
returns-in-Build-clause-refused c = rw c.in-Build.is (c.build.ensures.refused c.args.moment)

pub returns-in-Rename-clause-refused : goal.returns-in-Rename-clause-refused
returns-in-Rename-clause-refused c = rw c.in-Rename.is (c.rename.ensures.refused c.args.moment)

pub returns-in-Define-clause-refused : goal.returns-in-Define-clause-refused
returns-in-Define-clause-refused c = rw c.in-Define.is (c.define.ensures.refused c.args.moment)

pub returns-in-Print-clause-refused : goal.returns-in-Print-clause-refused
returns-in-Print-clause-refused c = rw c.in-Print.is (c.print.ensures.refused c.args.moment)
