use Rattle.std.proofs.Common.{◌<◌, ◌++◌, List, append-nil, length, refl, arith, sym, ap, ◌∙◌}
use Rattle.std.proofs.lemmas.List.{at_drop_all}
use Rattle.cm_lists.proofs.Elements.{map_drop_more}
use Rattle.ex_store.specs.declared.directory.Directory.{Directory}
use Rattle.ex_store.specs.declared.limits.TheConstants.{DIRECTORY_LIMIT}
use Rattle.ex_store.specs.Rows.{first_in}
use Rattle.ex_store.specs.State.{firsts_in}
use Rattle.ex_store.proofs.firsts.firsts_in.Goals as goal

pub loop-i-init : goal.loop-i-init
loop-i-init c = record { found = rw c.new-firsts.ensures refl; size = ap length c.new-firsts.ensures }

pub push-requires : goal.push-requires
push-requires c =
    let within : length c.loop-i.firsts.items < DIRECTORY_LIMIT =
    omega (arith, c.loop-i.invariant.size, c.requires.directories, c.loop-i-test.true, c.len-i-end.ensures) in
    (omega arith, within)

pub loop-i-preserved : goal.loop-i-preserved
loop-i-preserved c = record {
  found = map_drop_more (λ (directory : Directory). first_in directory.name c.args.files.now.rows) c.args.directories.now.list
      c.loop-i.i c.first_at.result c.loop-i.firsts.items c.push.new.self.items _ c.first_at.ensures c.push.ensures.items
      c.loop-i.invariant.found;
  size = omega (arith, c.push.ensures.len, c.loop-i.invariant.size);
}

pub returns : goal.returns
returns c =
    let found = λ (directories : List Directory). firsts_in directories c.args.files.now.rows in
    sym (append-nil c.loop-i.firsts.items)
    ∙ ap (λ more. c.loop-i.firsts.items ++ more)
    (sym (at_drop_all found c.args.directories.now.list c.loop-i.i (omega (arith, c.loop-i-test.false, c.len-i-end.ensures))))
    ∙ c.loop-i.invariant.found
