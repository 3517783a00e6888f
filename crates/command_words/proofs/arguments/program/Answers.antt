use Rattle.std.proofs.Common.{ap, ap₂, codes, ◌≡◌, ◌∙◌, true}
use Rattle.std.proofs.lemmas.Result.{IfOk-weaker}
use Rattle.clap.specs.Words.{app_of, new_app, with_rule}
use Rattle.clap.specs.Simple.{on_top}
use Rattle.command_words.specs.Words.{program}
use Rattle.command_words.proofs.arguments.program.Goals as goal

pub returns : goal.returns
unfolding program
returns c =
    let start : app_of c.no_binary_name.result ≡ on_top (λ s. record s { no_binary_name = true }) (new_app (codes "morphq")) = rw c.no_binary_name.ensures (ap (on_top (λ s. record s { no_binary_name = true })) c.new.ensures.app) in
    let a1 = c.in_ok-arg.ensures.shape c.placed.ensures.own ∙ ap₂ with_rule start c.placed.ensures.rule in
    let a2 = c.in_ok-arg-2.ensures.shape c.placed-2.ensures.own ∙ ap₂ with_rule a1 c.placed-2.ensures.rule in
    let a3 = c.in_ok-arg-3.ensures.shape c.number_option.ensures.own ∙ ap₂ with_rule a2 c.number_option.ensures.rule in
    let a4 = c.in_ok-arg-4.ensures.shape c.number_option-2.ensures.own ∙ ap₂ with_rule a3 c.number_option-2.ensures.rule in
    let a5 = c.in_ok-arg-5.ensures.shape c.number_option-3.ensures.own ∙ ap₂ with_rule a4 c.number_option-3.ensures.rule in
    let a6 = c.in_ok-arg-6.ensures.shape c.number_option-4.ensures.own ∙ ap₂ with_rule a5 c.number_option-4.ensures.rule in
    let a7 = c.in_ok-arg-7.ensures.shape c.text_option.ensures.own ∙ ap₂ with_rule a6 c.text_option.ensures.rule in
    IfOk-weaker c.arg-8.result _ _ (λ command added. added.shape c.flag.ensures.own ∙ ap₂ with_rule a7 c.flag.ensures.rule) c.arg-8.ensures
