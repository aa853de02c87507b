-- The words for a request that does not fit the input.
use Rattle.std.specs.Prelude.{ℕ, List, codes}
use Rattle.seat_share.specs.Names.{share_fault_name}
use Rattle.seat_share.specs.declared.method.ShareFault.{ShareFault}
use Rattle.seat_share.specs.declared.method.ShareFault.TheVariants as share
use Rattle.vote_cli.specs.declared.refusal.RequestFault.{RequestFault}
use Rattle.vote_cli.specs.declared.refusal.RequestFault.TheVariants.{SizeTooLarge, AfterMisfit, CommitteeMisfit}
use Rattle.vote_cli.specs.declared.refusal.RequestFault.TheVariants.{ManyApproved, Share}

-- the word for a request that does not fit
abbrev pub request_fault_word : RequestFault → List ℕ
request_fault_word SizeTooLarge = codes "SizeTooLarge"
request_fault_word AfterMisfit = codes "AfterMisfit"
request_fault_word CommitteeMisfit = codes "CommitteeMisfit"
request_fault_word ManyApproved = codes "ManyApproved"
request_fault_word (Share fault) = share_fault_name fault

-- why a request does not fit if no seats are shared out
abbrev pub misfit_of : ShareFault → RequestFault
misfit_of share.AfterLength = AfterMisfit
misfit_of fault = Share fault
