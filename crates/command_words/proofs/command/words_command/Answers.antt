use Rattle.std.proofs.Common.{◌≡◌, ◌∙◌, ap, ap₂, rules, true}
use Rattle.std.proofs.lemmas.Result.{IfOk-weaker}
use Rattle.clap.specs.Words.{app_of, rule_of, with_rule}
use Rattle.clap.specs.Simple.{app_of_fields, on_top}
use Rattle.command_words.specs.Command.{bare_command, file_rule, generate_rule, watch_rule}
use Rattle.command_words.proofs.command.words_command.Goals as goal

pub returns : goal.returns
returns c =
    let watch_is : rule_of c.action-watch.result ≡ watch_rule = search rules in
    let generate_is : rule_of c.action-generate.result ≡ generate_rule = search rules in
    let file_is : rule_of c.action-file.result ≡ file_rule = search rules in
    let bare_is : app_of c.disable_version_flag.result ≡ bare_command =
    ap app_of_fields c.disable_version_flag.ensures
    ∙ ap (λ a. on_top (λ s. record s { disable_version_flag = true }) a) (ap app_of_fields c.disable_help_flag.ensures
    ∙ ap (λ a. on_top (λ s. record s { disable_help_flag = true }) a) (ap app_of_fields c.no_binary_name.ensures
    ∙ ap (λ a. on_top (λ s. record s { no_binary_name = true }) a) c.new-4.ensures.app)) in
    let one : app_of c.in_ok-arg.field-0 ≡ with_rule bare_command watch_rule = c.in_ok-arg.ensures.shape (search rules) ∙ ap₂ with_rule bare_is watch_is in
    let two : app_of c.in_ok-arg-2.field-0 ≡ with_rule (with_rule bare_command watch_rule) generate_rule = c.in_ok-arg-2.ensures.shape (search rules) ∙ ap₂ with_rule one generate_is in
    IfOk-weaker c.arg-3.result _ _ (λ r h. h.shape (search rules) ∙ ap₂ with_rule two file_is) c.arg-3.ensures
