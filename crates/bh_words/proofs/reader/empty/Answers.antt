use Rattle.std.proofs.Common.{◌≡◌, ◌∙◌, ap, true, false}
use Rattle.clap.specs.Words.{App, app_of}
use Rattle.clap.specs.Simple.{app_of_fields}
use Rattle.bh_words.proofs.reader.empty.Goals as goal

abbrev no_name : App → App
no_name a = record a { top = record a.top { no_binary_name = true } }

abbrev no_help : App → App
no_help a = record a { top = record a.top { disable_help_flag = true } }

abbrev no_version : App → App
no_version a = record a { top = record a.top { disable_version_flag = true } }

abbrev no_override : App → App
no_override a = record a { top = record a.top { args_override_self = false } }

pub returns : goal.returns
returns c =
    let one : app_of c.no_binary_name.result ≡ no_name (app_of c.new.result) = ap app_of_fields c.no_binary_name.ensures in
    let two : app_of c.disable_help_flag.result ≡ no_help (app_of c.no_binary_name.result) = ap app_of_fields c.disable_help_flag.ensures in
    let three : app_of c.disable_version_flag.result ≡ no_version (app_of c.disable_help_flag.result) = ap app_of_fields c.disable_version_flag.ensures in
    let four : app_of c.args_override_self.result ≡ no_override (app_of c.disable_version_flag.result) = ap app_of_fields c.args_override_self.ensures in
    four ∙ ap no_override (three ∙ ap no_version (two ∙ ap no_help (one ∙ ap no_name c.new.ensures.app)))
