-- Each function looks at no more than there is.
use Rattle.cm_fields.proofs.Phrases.{noise_is_local, token_is_local}
use Rattle.cm_fields.proofs.QuotedTexts.{long_quoted_is_local, quoted_is_local}
use Rattle.cm_files.proofs.Trials.{directory_is_local, file_is_local, user_is_local}
use Rattle.cm_blocks.proofs.Switches.{switch_is_local}
use Rattle.cm_blocks.proofs.Trials.{seen_from}
use Rattle.cm_blocks.proofs.trial.try_function.Goals as goal

pub returns-in-Switch-clause-seen : goal.returns-in-Switch-clause-seen
returns-in-Switch-clause-seen g c =
    seen_from _ (switch_is_local _) c.args.text.now c.args.at c.switch.result c.switch.ensures

pub returns-in-Noise-clause-seen : goal.returns-in-Noise-clause-seen
returns-in-Noise-clause-seen g c =
    seen_from _ (noise_is_local _) c.args.text.now c.args.at c.noise.result c.noise.ensures

pub returns-in-Quoted-clause-seen : goal.returns-in-Quoted-clause-seen
returns-in-Quoted-clause-seen g c =
    seen_from _ quoted_is_local c.args.text.now c.args.at c.quoted.result c.quoted.ensures

pub returns-in-LongQuoted-clause-seen : goal.returns-in-LongQuoted-clause-seen
returns-in-LongQuoted-clause-seen g c =
    seen_from _ long_quoted_is_local c.args.text.now c.args.at c.long_quoted.result c.long_quoted.ensures

pub returns-in-Token-clause-seen : goal.returns-in-Token-clause-seen
returns-in-Token-clause-seen g c =
    seen_from _ (token_is_local _) c.args.text.now c.args.at c.token.result c.token.ensures

pub returns-in-User-clause-seen : goal.returns-in-User-clause-seen
returns-in-User-clause-seen g c =
    seen_from _ (user_is_local _) c.args.text.now c.args.at c.user.result c.user.ensures

pub returns-in-Directory-clause-seen : goal.returns-in-Directory-clause-seen
returns-in-Directory-clause-seen g c =
    seen_from _ (directory_is_local _ _) c.args.text.now c.args.at c.directory.result c.directory.ensures

pub returns-in-InFile-clause-seen : goal.returns-in-InFile-clause-seen
returns-in-InFile-clause-seen g c =
    seen_from _ (file_is_local _ _ _) c.args.text.now c.args.at c.file_of.result c.file_of.ensures

pub returns-in-OutFile-clause-seen : goal.returns-in-OutFile-clause-seen
returns-in-OutFile-clause-seen g c =
    seen_from _ (file_is_local _ _ _) c.args.text.now c.args.at c.file_of-in-OutFile.result c.file_of-in-OutFile.ensures

pub returns-in-AnyFile-clause-seen : goal.returns-in-AnyFile-clause-seen
returns-in-AnyFile-clause-seen g c =
    seen_from _ (file_is_local _ _ _) c.args.text.now c.args.at c.file_of-in-AnyFile.result c.file_of-in-AnyFile.ensures
