use Rattle.bh_words.specs.declared.commands.Command.TheVariants.{Canon, Check, Show, FromHttp1, ToHttp1, Trial}
use Rattle.bh_cmd.proofs.running.run.Goals as goal

pub returns-clause-canon : goal.returns-clause-canon
returns-clause-canon g c = λ L is. (c.obey-exit.ensures.performs (Canon L) is).call

pub returns-clause-canon_told : goal.returns-clause-canon_told
returns-clause-canon_told g c = λ L is. (c.obey-exit.ensures.performs (Canon L) is).told

pub returns-clause-canon_complete : goal.returns-clause-canon_complete
returns-clause-canon_complete g c = λ L is. (c.obey-exit.ensures.performs (Canon L) is).complete

pub returns-clause-canon_log : goal.returns-clause-canon_log
returns-clause-canon_log g c = λ L is. (c.obey-exit.ensures.performs (Canon L) is).logged

pub returns-clause-show : goal.returns-clause-show
returns-clause-show g c = λ L is. (c.obey-exit.ensures.performs (Show L) is).call

pub returns-clause-show_told : goal.returns-clause-show_told
returns-clause-show_told g c = λ L is. (c.obey-exit.ensures.performs (Show L) is).told

pub returns-clause-show_complete : goal.returns-clause-show_complete
returns-clause-show_complete g c = λ L is. (c.obey-exit.ensures.performs (Show L) is).complete

pub returns-clause-show_log : goal.returns-clause-show_log
returns-clause-show_log g c = λ L is. (c.obey-exit.ensures.performs (Show L) is).logged

pub returns-clause-check : goal.returns-clause-check
returns-clause-check g c = λ L is. (c.obey-exit.ensures.performs (Check L) is).call

pub returns-clause-check_told : goal.returns-clause-check_told
returns-clause-check_told g c = λ L is. (c.obey-exit.ensures.performs (Check L) is).told

pub returns-clause-check_complete : goal.returns-clause-check_complete
returns-clause-check_complete g c = λ L is. (c.obey-exit.ensures.performs (Check L) is).complete

pub returns-clause-check_silent : goal.returns-clause-check_silent
returns-clause-check_silent g c = λ L is. (c.obey-exit.ensures.performs (Check L) is).silent

pub returns-clause-from_http1 : goal.returns-clause-from_http1
returns-clause-from_http1 g c = λ L scheme to_head is. (c.obey-exit.ensures.performs (FromHttp1 L scheme to_head) is).call

pub returns-clause-from_http1_told : goal.returns-clause-from_http1_told
returns-clause-from_http1_told g c = λ L scheme to_head is. (c.obey-exit.ensures.performs (FromHttp1 L scheme to_head) is).told

pub returns-clause-from_http1_complete : goal.returns-clause-from_http1_complete
returns-clause-from_http1_complete g c = λ L scheme to_head is. (c.obey-exit.ensures.performs (FromHttp1 L scheme to_head) is).complete

pub returns-clause-from_http1_log : goal.returns-clause-from_http1_log
returns-clause-from_http1_log g c = λ L scheme to_head is. (c.obey-exit.ensures.performs (FromHttp1 L scheme to_head) is).logged

pub returns-clause-to_http1 : goal.returns-clause-to_http1
returns-clause-to_http1 g c = λ L to_head is. (c.obey-exit.ensures.performs (ToHttp1 L to_head) is).call

pub returns-clause-to_http1_told : goal.returns-clause-to_http1_told
returns-clause-to_http1_told g c = λ L to_head is. (c.obey-exit.ensures.performs (ToHttp1 L to_head) is).told

pub returns-clause-to_http1_complete : goal.returns-clause-to_http1_complete
returns-clause-to_http1_complete g c = λ L to_head is. (c.obey-exit.ensures.performs (ToHttp1 L to_head) is).complete

pub returns-clause-to_http1_log : goal.returns-clause-to_http1_log
returns-clause-to_http1_log g c = λ L to_head is. (c.obey-exit.ensures.performs (ToHttp1 L to_head) is).logged

pub returns-clause-trial : goal.returns-clause-trial
returns-clause-trial g c = λ n is. (c.obey-exit.ensures.performs (Trial n) is).run

pub returns-clause-trial_complete : goal.returns-clause-trial_complete
returns-clause-trial_complete g c = λ n is. (c.obey-exit.ensures.performs (Trial n) is).complete
