use Rattle.std.proofs.Common.{◌≡◌, ◌+◌, length, rules}
use Rattle.cm_hooks.specs.Ties.{id_of}
use Rattle.cm_hooks.proofs.Ties.{tied-append}
use Rattle.cm_hooks.proofs.hooks.Hooks.push.Goals as goal

pub returns-clause-ties : goal.returns-clause-ties
returns-clause-ties g c =
    let next : id_of c.args.hook ≡ 0 + length c.args.self.now.hooks.items = search rules in
    record { each = rw c.push.ensures.items (tied-append _ _ _ _ c.requires.hooks.each next c.requires.hook) }
