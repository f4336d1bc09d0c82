-- What a text is parsed under.
use Rattle.std.specs.Prelude.{}
use Rattle.cm_files.specs.Catalogue.{Catalogue}
use Rattle.cm_hooks.specs.Meanings.{Meanings}
use Rattle.cm_blocks.specs.Grammar.{Graph}

-- a grammar, a catalogue, and what a program's own functions mean
pub record Setting : Type 0 where
  pub graph : Graph
  pub catalogue : Catalogue
  pub meanings : Meanings

abbrev pub setting : Graph → Catalogue → Meanings → Setting
setting graph catalogue meanings = record { graph = graph; catalogue = catalogue; meanings = meanings }
