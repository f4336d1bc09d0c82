use Rattle.std.proofs.Common.{◌≡◌, true, subst, sym, ◌++◌}
use Rattle.std.specs.List.{AllByRecursion}
use Rattle.cm_text.specs.Bytes.{is_text}
use Rattle.cm_text.specs.Text.{IsLine}
use Rattle.cm_blocks.specs.Setting.{setting}
use Rattle.cm_recognise.specs.declared.insertion.Insertion.{Insertion}
use Rattle.cm_recognise.proofs.Lines.{insertion_is_typed, line_goes_on}
use Rattle.cm_recognise.proofs.insertion.complete.Goals as goal

pub returns-clause-line : goal.returns-clause-line
returns-clause-line g c =
    let s = setting c.args.grammar.now (g.N.Names.catalogue c.args.names.now) (g.R.Rules.meanings c.args.rules.now) in
    subst (λ (put : Insertion). IsLine (c.args.line.now ++ put.bytes)) (sym c.inserted.ensures)
    (line_goes_on s _ _ c.args.line.now _ c.has_no_fault.ensures c.is_catalogue.ensures
    c.has_tables.ensures
    c.are_lawful.ensures c.requires.line)

pub returns-clause-text : goal.returns-clause-text
returns-clause-text g c =
    let s = setting c.args.grammar.now (g.N.Names.catalogue c.args.names.now) (g.R.Rules.meanings c.args.rules.now) in
    subst (λ (put : Insertion). AllByRecursion (λ byte. is_text byte ≡ true) put.bytes) (sym c.inserted.ensures)
    (insertion_is_typed s c.has_no_fault.ensures c.is_catalogue.ensures c.has_tables.ensures c.are_lawful.ensures _ _
    c.args.line.now _)
