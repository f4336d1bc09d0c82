use Rattle.std.proofs.Common.{arith}
use Rattle.ex_generations.proofs.Ascents.{length-within, short_at}
use Rattle.ex_generations.proofs.search.marked_pages.Goals as goal

pub page_count-pages-requires : goal.page_count-pages-requires
page_count-pages-requires c =
    short_at c.args.files.now 0 c.loop-file.file-index c.file-item.result c.requires c.loop-file-test.true c.file-item.is

pub overflow_add-pages : goal.overflow_add-pages
overflow_add-pages c = omega (arith, length-within c.args.files.now 0 (omega arith) c.requires)
