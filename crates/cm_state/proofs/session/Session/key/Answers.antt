use Rattle.std.proofs.Common.{rules}
use Rattle.cm_io.proofs.Writers.{finish_puts}
use Rattle.cm_state.specs.Echo.{echo}
use Rattle.cm_state.proofs.session.Session.key.Goals as goal

-- a part of what is written is put
pub returns-in-Failed-clause-bytes : goal.returns-in-Failed-clause-bytes
unfolding echo
returns-in-Failed-clause-bytes g c =
    let told = finish_puts g.S.Sink _ _ _ _ _ _ c.finish.ensures c.echo.ensures c.new-out.ensures in
    search (rules, told.bytes)
