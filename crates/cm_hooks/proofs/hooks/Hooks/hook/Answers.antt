use Rattle.cm_hooks.proofs.Ties.{tied_hook}
use Rattle.cm_hooks.proofs.hooks.Hooks.hook.Goals as goal

pub unreachable-requires : goal.unreachable-requires
unreachable-requires g c =
    let tied = tied_hook _ _ _ _ _ _ c.requires.hooks.each c.requires.id c.deref.ensures.0 c.from.ensures c.index-deref-from.is in
    let none = rw c.in-None.is at tied in none

pub returns-clause-value : goal.returns-clause-value
returns-clause-value g c =
    let tied = tied_hook _ _ _ _ _ _ c.requires.hooks.each c.requires.id c.deref.ensures.0 c.from.ensures c.index-deref-from.is in
    let some = rw c.in-Some.is at tied in some.0

pub returns-clause-ties : goal.returns-clause-ties
returns-clause-ties g c =
    let tied = tied_hook _ _ _ _ _ _ c.requires.hooks.each c.requires.id c.deref.ensures.0 c.from.ensures c.index-deref-from.is in
    let some = rw c.in-Some.is at tied in some.1
