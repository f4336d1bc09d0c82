-- What lines are parsed under, where nothing of it is at fault.
use Rattle.std.specs.Prelude.{◌≡◌, None}
use Rattle.cm_blocks.specs.Fault.{grammar_fault}
use Rattle.cm_blocks.specs.Setting.{Setting}
use Rattle.cm_blocks.specs.Well.{AreTables}
use Rattle.cm_files.specs.Catalogue.{IsCatalogue}
use Rattle.cm_hooks.specs.Meanings.{IsLawful}

-- an accepted grammar with its tables, a catalogue and lawful rules
pub record IsSound (s : Setting) : Type 0 where
  pub grammar : grammar_fault s.graph ≡ None
  pub tables : AreTables s.graph.tables
  pub catalogue : IsCatalogue s.catalogue
  pub meanings : IsLawful s.meanings
