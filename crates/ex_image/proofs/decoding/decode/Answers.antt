use Rattle.std.proofs.Common.{Ok, Err, rules}
use Rattle.ex_image.specs.Grammar.{IsImage}
use Rattle.ex_image.proofs.DecodeLaws.{first_told, only_told, store_told}
use Rattle.ex_image.proofs.decoding.decode.Goals as goal

pub returns-in-Ok-clause-image : goal.returns-in-Ok-clause-image
returns-in-Ok-clause-image c =
    store_told c.args.bytes.now c.in-Ok.reading.version c.in-Ok.reading.state c.done.result.state c.in-Ok.ensures.whole (search rules)

pub returns-in-Ok-clause-only : goal.returns-in-Ok-clause-only
returns-in-Ok-clause-only c =
    let image : IsImage c.args.bytes.now c.done.result.state =
    store_told c.args.bytes.now c.in-Ok.reading.version c.in-Ok.reading.state c.done.result.state c.in-Ok.ensures.whole (search rules) in
    only_told c.args.bytes.now (Ok c.done.result) image tt

pub returns-in-Ok-clause-first : goal.returns-in-Ok-clause-first
returns-in-Ok-clause-first c =
    let image : IsImage c.args.bytes.now c.done.result.state =
    store_told c.args.bytes.now c.in-Ok.reading.version c.in-Ok.reading.state c.done.result.state c.in-Ok.ensures.whole (search rules) in
    first_told c.args.bytes.now (Ok c.done.result) image tt

pub returns-in-Err-clause-only : goal.returns-in-Err-clause-only
returns-in-Err-clause-only c = only_told c.args.bytes.now (Err c.in-Err.fault) tt c.in-Err.ensures.bad

pub returns-in-Err-clause-first : goal.returns-in-Err-clause-first
returns-in-Err-clause-first c = first_told c.args.bytes.now (Err c.in-Err.fault) tt c.in-Err.ensures.bad
