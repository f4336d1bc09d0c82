use Rattle.cm_io.proofs.Texts.{writes_lines, writes_next}
use Rattle.eg_router.specs.Configuration.{configuration_of}
use Rattle.eg_router.proofs.configuration.put_interface.Goals as goal

-- its line, and then its settings and the last line
pub returns : goal.returns
unfolding configuration_of
returns g c =
    writes_next g.S.Sink _ _ _ _ _
    (writes_lines g.S.Sink _ _ _ _ _
    (writes_lines g.S.Sink _ _ _ _ _
    (writes_lines g.S.Sink _ _ _ _ _ c.put_exit.ensures c.put_shutdown.ensures)
    c.put_description.ensures)
    c.put_address.ensures)
    c.put_head.ensures
