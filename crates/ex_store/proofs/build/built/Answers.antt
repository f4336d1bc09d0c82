use Rattle.std.proofs.Common.{ℕ, arith, find, ap, sym, unwrap_or, Ok, ◌∙◌}
use Rattle.std.specs.Option.{option_map}
use Rattle.ex_store.specs.declared.directory.Directory.{Directory}
use Rattle.ex_store.specs.State.{is_named}
use Rattle.ex_store.proofs.BuiltLaws.{built_full, built_kept, built_new}
use Rattle.ex_store.proofs.build.built.Goals as goal
use Rattle.ex_store.proofs.build.built.Goals.{in-None-2, in-Some}

pub returns-in-None : goal.returns-in-None
returns-in-None c =
    sym (built_full c.args.name c.args.retention c.args.directories.now.list
    (sym (c.retention.ensures ∙ ap (λ name. option_map (λ (directory : Directory). directory.retention) (find (is_named name) c.args.directories.now.list)) c.as_str.ensures.value) ∙ c.in-None.is)
    (omega (arith, c.len.ensures, c.if-len-ge-DIRECTORY_LIMIT.true)))

pub returns : goal.returns
returns c =
    let told = sym (c.retention.ensures ∙ ap (λ name. option_map (λ (directory : Directory). directory.retention) (find (is_named name) c.args.directories.now.list)) c.as_str.ensures.value) in
    elim c.match-retention.branch [
      | in-Some w ↦ ap (λ (kept : ℕ). Ok (record { name = c.args.name; retention = kept })) (c.unwrap_or-retention.ensures ∙ ap (unwrap_or c.args.retention) w.kept-is)
          ∙ sym (built_kept c.args.name c.args.retention c.args.directories.now.list w.in-Some.kept (told ∙ w.in-Some.is))
      | in-None-2 w ↦ ap (λ (kept : ℕ). Ok (record { name = c.args.name; retention = kept })) (c.unwrap_or-retention.ensures ∙ ap (unwrap_or c.args.retention) w.kept-is)
          ∙ sym (built_new c.args.name c.args.retention c.args.directories.now.list (told ∙ w.in-None.is) (omega (arith, w.len.ensures, w.if-len-ge-DIRECTORY_LIMIT.false)))
    ]
